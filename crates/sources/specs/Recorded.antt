-- meant s: what a source over the caller's records means; meant_lawful s: that is lawful
use Rattle.std.specs.Prelude.{◌≡◌, Bool, true, false, ◌&&◌}
use Rattle.sources.specs.Source.{Tokens, lawful}
use Rattle.sources.specs.Mending.{seen_behind, fresh_behind, mended, mended_ended, mended_starts, mended_stays}
use Rattle.sources.specs.declared.records.Records.{Records}

abbrev pub meant : Records → Tokens
meant s = record { rest = mended s.last s.closing s.rest.now; closing = s.closing; seen = seen_behind s.last; fresh = fresh_behind s.last }

both : (a b : Bool) → a ≡ true → b ≡ true → (a && b) ≡ true
both true b e f = f
both false b e f = e

pub meant_lawful : (s : Records) → lawful (meant s) ≡ true
meant_lawful s =
    let ts = s.rest.now in
    both _ _ (mended_ended s.last s.closing ts) (both _ _ (mended_starts s.last s.closing ts) (mended_stays s.last s.closing ts))
