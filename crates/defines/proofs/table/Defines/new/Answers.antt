use Rattle.std.proofs.Common.{vec_items, refl, ap}
use Rattle.defines.specs.Held.{held}
use Rattle.defines.specs.Parts.{shelf}
use Rattle.defines.proofs.table.Defines.new.Goals as goal

pub returns : goal.returns
unfolding held
returns c =
    let kept = c.in_ok-kept in
    (ap (shelf (vec_items kept.kept)) c.in_ok-table.ensures.items, kept.ensures.items, refl, refl)
