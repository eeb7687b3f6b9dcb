-- part_of kept p: the tokens of a part of the kept ones
-- entry kept d, entries kept table: definitions with their parameters and bodies; shelf kept table: the book that they are
-- key_of d: the name under which a definition is found, none where it is out of force; vacant: an empty definition out of force
-- Lies mark d: the body and the parameters of a definition, at most 32, lie below the mark; Within mark table: those of every one do
-- Twice table i j: two definitions in force bear one name; Once table: no name is in force twice
use Rattle.std.specs.Prelude.{◌≡◌, ℕ, ◌+◌, ◌<◌, ◌≤◌, true, false, cond, List, map, length, get_or, take, drop, Some, None, Option, slice_index_or}
use Rattle.tokens.specs.declared.token.Token.{Token}
use Rattle.tokens.specs.declared.token.Part.{Part}
use Rattle.books.specs.Book.{Entry, Defs}
use Rattle.defines.specs.declared.define.Define.{Define}

abbrev pub part_of : List Token → Part → List Token
part_of kept p = take p.len (drop p.start kept)

abbrev pub entry : List Token → Define → Entry
entry kept d = record { def = record { name = d.name; function = d.function_like; params = part_of kept d.params; body = part_of kept d.tokens }; live = d.in_force }

abbrev pub entries : List Token → List Define → List Entry
entries kept table = map (entry kept) table

abbrev pub shelf : List Token → List Define → Defs
shelf kept table = record { table = entries kept table }

abbrev pub key_of : Define → Option ℕ
key_of d = cond d.in_force (Some d.name) None

abbrev pub nowhere : Part
nowhere = record { start = 0; len = 0 }

abbrev pub vacant : Define
vacant = record { name = 0; function_like = false; params = nowhere; tokens = nowhere; in_force = false }

abbrev pub Lies : ℕ → Define → Type 0
Lies mark d = (d.params.start + d.params.len ≤ mark) × (d.params.len ≤ 32) × (d.tokens.start + d.tokens.len ≤ mark)

abbrev pub Within : ℕ → List Define → Type 0
Within mark table = (i : ℕ) → Lies mark (slice_index_or table i vacant)

pub record Twice (table : List Define) (i j : ℕ) : Type 0 where
  pub before : i < j
  pub inside : j < length table
  pub first : (get_or table i vacant).in_force ≡ true
  pub second : (get_or table j vacant).in_force ≡ true
  pub same : (get_or table i vacant).name ≡ (get_or table j vacant).name

abbrev pub Once : List Define → Type 0
Once table = (i j : ℕ) → Twice table i j → ⊥
