use Rattle.std.proofs.Common.{map, ap, ◌∙◌}
use Rattle.stores.specs.Places.{place}
use Rattle.stores.specs.Idents.{ident_of}
use Rattle.defines.specs.Parts.{part_of}
use Rattle.defines.specs.Held.{held}
use Rattle.defines.proofs.table.book.DefinesBook.parameter.Goals as goal

pub returns : goal.returns
unfolding held
returns c =
    let s = c.args.self.now in
    record { value = c.find.ensures.value ∙ ap (λ l. place 0 c.args.name (map ident_of l)) (c.of-params.ensures ∙ ap (λ k. part_of k c.define.result.params) c.deref.ensures.value) ∙ ap (λ m. place 0 c.args.name (map ident_of m.params)) c.define.ensures.means }
