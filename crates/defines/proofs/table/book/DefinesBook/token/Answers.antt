use Rattle.std.proofs.Common.{ap, ◌∙◌}
use Rattle.std.specs.List.{slice_get}
use Rattle.defines.specs.Held.{held}
use Rattle.defines.proofs.table.book.DefinesBook.token.Goals as goal

pub returns : goal.returns
unfolding held
returns c =
    let s = c.args.self.now in
    record { value = c.part_token.ensures ∙ ap (λ m. slice_get m.body c.args.at) c.define.ensures.means }
