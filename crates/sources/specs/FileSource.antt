-- filing f: what a source over a token file means; Filing r m: what reading a file answers where the file means m, unless memory fails
use Rattle.std.specs.Prelude.{◌≡◌, ◌⊎◌, Ok, Err, vec_items, Result}
use Rattle.std.specs.Vec.Iter.{into_iter_items}
use Rattle.tokens.specs.declared.fault.Refusal.{Refusal}
use Rattle.tokens.specs.declared.fault.Refusal.TheVariants.{Memory}
use Rattle.sources.specs.Source.{Tokens}
use Rattle.sources.specs.Filed.{to_come}
use Rattle.sources.specs.declared.file.TokenFile.{TokenFile}

abbrev pub filing : TokenFile → Tokens
filing f = to_come (into_iter_items f.tokens) (vec_items f.numbers) f.last

abbrev pub Filing : Result TokenFile Refusal → Result Tokens Refusal → Type 0
Filing (Ok f) m = m ≡ Ok (filing f)
Filing (Err e) m = (e ≡ Memory) ⊎ (m ≡ Err e)
