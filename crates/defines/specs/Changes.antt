-- empty: the book of no definition
-- dead e: an entry taken out of force; cleared es o: the entries without the one at a place, if any, in force
-- without d n: the book in which the name n is not in force
-- made n f ps b: a definition in force; entered d e: the book with one more entry
-- accepted d e: the book in which e's name is in force as e alone
use Rattle.std.specs.Prelude.{ℕ, Bool, true, false, List, [], ◌∷◌, ◌++◌, Some, None, Option, slice_index_or, slice_set}
use Rattle.tokens.specs.declared.token.Token.{Token}
use Rattle.books.specs.Book.{Entry, Defs, none, find}

abbrev pub empty : Defs
empty = record { table = [] }

abbrev pub dead : Entry → Entry
dead e = record { def = e.def; live = false }

abbrev pub cleared : List Entry → Option ℕ → List Entry
cleared es None = es
cleared es (Some h) = slice_set es h (dead (slice_index_or es h none))

abbrev pub without : Defs → ℕ → Defs
without d n = record { table = cleared d.table (find d n) }

abbrev pub made : ℕ → Bool → List Token → List Token → Entry
made n f ps b = record { def = record { name = n; function = f; params = ps; body = b }; live = true }

abbrev pub entered : Defs → Entry → Defs
entered d e = record { table = d.table ++ e ∷ [] }

abbrev pub accepted : Defs → Entry → Defs
accepted d e = entered (without d e.def.name) e
