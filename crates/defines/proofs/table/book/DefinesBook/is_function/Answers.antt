use Rattle.std.proofs.Common.{ap}
use Rattle.defines.specs.Held.{held}
use Rattle.defines.proofs.table.book.DefinesBook.is_function.Goals as goal

pub returns : goal.returns
unfolding held
returns c =
    let s = c.args.self.now in
    record { value = ap (λ m. m.function) c.define.ensures.means }
