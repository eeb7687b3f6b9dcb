use Rattle.std.proofs.Common.{sym, ap}
use Rattle.std.proofs.lemmas.Option.{slice_get-get_or, slice_get_past}
use Rattle.std.specs.Option.{ok_or}
use Rattle.tokens.specs.Puncts.{all}
use Rattle.tokens.proofs.punct.PunctTryFromU8.try_from.Goals as goal

pub returns-then-n-lt45 : goal.returns-then-n-lt45
returns-then-n-lt45 c = sym (ap (λ o. ok_or o (record { number = c.args.n })) (slice_get-get_or all c.args.n _ c.if-n-lt45.true))

pub returns-else-n-lt45 : goal.returns-else-n-lt45
returns-else-n-lt45 c = sym (ap (λ o. ok_or o (record { number = c.args.n })) (slice_get_past all c.args.n c.if-n-lt45.false))
