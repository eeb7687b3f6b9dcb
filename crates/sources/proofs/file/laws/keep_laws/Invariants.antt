-- The laws of what is still to come are the laws of all.
use Rattle.std.proofs.Common.{◌≡◌, true, false, drop}
use Rattle.sources.proofs.Laws.{keeps}
use Rattle.sources.proofs.file.laws.keep_laws.Given as goal

abbrev pub invariant-loop-token : goal.invariant-loop-token
invariant-loop-token l = keeps l.seen l.fresh (drop l.token-index l.tokens) ≡ keeps false true l.tokens
