-- lent_at: a copy of what `get` lends is the element there; lent_or: with a value in place of none it is that of a list read past its end
use Rattle.std.specs.Prelude.{◌≡◌, ℕ, List, length, slice_index_or, Some, None, Option, refl}
use Rattle.std.specs.Option.{option_map, unwrap_or}
use Rattle.std.specs.List.{slice_get}
use Rattle.std.specs.Slice.{IsItemAt}
use Rattle.std.proofs.Common.{Bor, sym, arith}
use Rattle.std.proofs.lemmas.Option.{slice_get_read, slice_get_past}

pub lent_at : {X : Type 0} (xs : List X) (i : ℕ) (r : Option (Bor X)) → IsItemAt xs i r → option_map (λ x. x.now) r ≡ slice_get xs i
lent_at xs i None h = sym (slice_get_past xs i h.3)
lent_at xs i (Some y) h = sym (slice_get_read xs (length xs) i y.now refl h.3.0 h.1)

pub lent_or : {X : Type 0} (xs : List X) (i : ℕ) (d : X) (r : Option (Bor X)) → IsItemAt xs i r → unwrap_or (option_map (λ x. x.now) r) d ≡ slice_index_or xs i d
lent_or xs i d r h = h.4 (omega arith) d
