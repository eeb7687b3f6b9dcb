use Rattle.std.proofs.Common.{sym, ◌∙◌}
use Rattle.tokens.proofs.Nans.{first, second}
use Rattle.tokens.proofs.float.same_value.Goals as goal
use Rattle.tokens.proofs.float.same_value.Goals.{then-is_nan-via-then-is_nan, then-is_nan-via-else-is_nan+then-is_nan-2}

pub returns-then-is_nan : goal.returns-then-is_nan
returns-then-is_nan c =
    elim c.then-is_nan.branch [ then-is_nan-via-then-is_nan w ↦ first _ _ (sym c.is_nan.ensures ∙ w.if-is_nan.true) | then-is_nan-via-else-is_nan+then-is_nan-2 w ↦ second _ _ (sym w.is_nan-else-is_nan.ensures ∙ w.if-is_nan-2.true) ]
