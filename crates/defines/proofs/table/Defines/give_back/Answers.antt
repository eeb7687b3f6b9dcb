use Rattle.std.proofs.Common.{vec_items, refl}
use Rattle.defines.proofs.Fronts.{same_cut}
use Rattle.defines.specs.Held.{held}
use Rattle.defines.proofs.table.Defines.give_back.Goals as goal

pub returns : goal.returns
unfolding held
returns c =
    let s = c.args.self.now in
    let cut = c.truncate.ensures.items in
    record { defs = same_cut (vec_items s.kept) s.mark (vec_items s.table) s.within _ cut; kept = cut; mark = refl; body = refl }
