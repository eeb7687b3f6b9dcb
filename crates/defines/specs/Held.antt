-- held s: the book that the definitions are
-- settled s: the tokens that stay for ever
-- parameters s, replacement s: the parameters and the body of the definition that is being read
-- pending s: the part of all that lies past the mark
-- Settled s: nothing is being read; ReadOn s t: from s to t more was read, and nothing else changed
use Rattle.std.specs.Prelude.{◌≡◌, ◌-◌, List, take, drop, vec_items, vec_len}
use Rattle.tokens.specs.declared.token.Token.{Token}
use Rattle.tokens.specs.declared.token.Part.{Part}
use Rattle.books.specs.Book.{Defs}
use Rattle.defines.specs.Parts.{shelf}
use Rattle.defines.specs.declared.table.Defines.{Defines}

unfoldable pub held : Defines → Defs
held s = shelf (vec_items s.kept) (vec_items s.table)

abbrev pub settled : Defines → List Token
settled s = take s.mark (vec_items s.kept)

abbrev pub parameters : Defines → List Token
parameters s = take (s.body - s.mark) (drop s.mark (vec_items s.kept))

abbrev pub replacement : Defines → List Token
replacement s = drop s.body (vec_items s.kept)

abbrev pub pending : Defines → Part
pending s = record { start = s.mark; len = vec_len s.kept - s.mark }

-- nothing is being read: all kept tokens stay for ever
abbrev pub Settled : Defines → Type 0
Settled s = s.mark ≡ vec_len s.kept

-- more was read past the same mark
pub record ReadOn (s t : Defines) : Type 0 where
  pub defs : held t ≡ held s
  pub mark : t.mark ≡ s.mark
  pub kept : take s.mark (vec_items t.kept) ≡ take s.mark (vec_items s.kept)
