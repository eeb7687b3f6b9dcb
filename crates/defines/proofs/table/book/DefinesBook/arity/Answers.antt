use Rattle.std.proofs.Common.{vec_items, arith}
use Rattle.defines.proofs.Meanings.{arity_of}
use Rattle.defines.specs.Held.{held}
use Rattle.defines.proofs.table.book.DefinesBook.arity.Goals as goal

pub returns : goal.returns
unfolding held
returns c =
    let s = c.args.self.now in
    record { value = arity_of (vec_items s.kept) (vec_items s.table) c.args.handle _ c.define.ensures.value s.mark s.within (omega (arith, s.ordered, s.inside, s.kept.ok.0)) }
