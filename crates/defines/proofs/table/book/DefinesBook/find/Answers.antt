use Rattle.std.proofs.Common.{map, vec_items, ap, ◌∙◌}
use Rattle.stores.specs.Places.{place}
use Rattle.defines.specs.Parts.{key_of}
use Rattle.defines.proofs.Meanings.{sought}
use Rattle.defines.specs.Held.{held}
use Rattle.defines.proofs.table.book.DefinesBook.find.Goals as goal

pub returns : goal.returns
unfolding held
returns c =
    let s = c.args.self.now in
    record { value = c.find.ensures.value ∙ ap (λ t. place 0 c.args.name (map key_of t)) c.as_slice.ensures.value ∙ sought (vec_items s.kept) (vec_items s.table) 0 c.args.name }
