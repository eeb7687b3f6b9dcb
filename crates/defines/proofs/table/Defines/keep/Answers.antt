use Rattle.std.proofs.Common.{vec_items, arith}
use Rattle.defines.proofs.Fronts.{same_kept}
use Rattle.defines.specs.Held.{held}
use Rattle.defines.proofs.table.Defines.keep.Goals as goal

pub returns-clause-defs : goal.returns-clause-defs
unfolding held
returns-clause-defs c =
    let s = c.args.self.now in
    same_kept (vec_items s.kept) s.mark (vec_items s.table) c.args.x _ _ s.within (omega (arith, s.ordered, s.inside, s.kept.ok.0)) c.push-pushed.ensures.items
