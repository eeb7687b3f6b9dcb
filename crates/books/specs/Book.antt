-- What a book means: the definitions in force, and what each handle means.
-- Definition: a name, its kind, its parameters and its body; Entry: a definition, and whether it is in force
-- Defs: the definitions by handle; mean d h: what the handle h means, in force or not
-- find d n: the handle of a name in force; has es n, InForce d n: the name is in force; live es: how many are in force
-- Sound d: what holds of every book; Grown d e: every handle of d is one of e and means the same there
-- Kept d e: every name in force in d is in force in e
use Rattle.std.specs.Prelude.{◌≡◌, ℕ, ◌+◌, ◌<◌, ◌≤◌, Bool, true, false, cond, List, [], ◌∷◌, length, Some, None, Option, ◌==◌, ◌≢◌, slice_index_or}
use Rattle.tokens.specs.declared.token.Token.{Token}

pub record Definition : Type 0 where
  pub name : ℕ
  pub function : Bool
  pub params : List Token
  pub body : List Token

-- a definition, and whether it is in force; a handle is a place in the table
pub record Entry : Type 0 where
  pub def : Definition
  pub live : Bool

pub record Defs : Type 0 where
  pub table : List Entry

abbrev pub none : Entry
none = record { def = record { name = 0; function = false; params = []; body = [] }; live = false }

-- what a handle means, whether in force or not
abbrev pub mean : Defs → ℕ → Definition
mean d h = (slice_index_or d.table h none).def

abbrev pub hit : Entry → ℕ → Bool
hit e n = cond e.live (e.def.name == n) false

abbrev pub seek : List Entry → ℕ → ℕ → Option ℕ
seek [] i n = None
seek (e ∷ es) i n = cond (hit e n) (Some i) (seek es (i + 1) n)

-- the handle of a name in force
abbrev pub find : Defs → ℕ → Option ℕ
find d n = seek d.table 0 n

-- whether a name is in force
abbrev pub has : List Entry → ℕ → Bool
has [] n = false
has (e ∷ es) n = cond (hit e n) true (has es n)

abbrev pub InForce : Defs → ℕ → Type 0
InForce d n = has d.table n ≡ true

-- how many definitions are in force
abbrev pub live : List Entry → ℕ
live [] = 0
live (e ∷ es) = cond e.live 1 0 + live es

-- at most 512 definitions, none in force twice, each body of at most 2,048 tokens
pub record Sound (d : Defs) : Type 0 where
  pub few : length d.table ≤ 512
  pub once : (i j : ℕ) → i < j → j < length d.table → (slice_index_or d.table i none).live ≡ true → (slice_index_or d.table j none).live ≡ true → (slice_index_or d.table i none).def.name ≢ (slice_index_or d.table j none).def.name
  pub short : (h : ℕ) → length (mean d h).body ≤ 2048
  pub slim : (h : ℕ) → length (mean d h).params ≤ 32

-- every handle of d is one of e, and means the same there
abbrev pub Grown : Defs → Defs → Type 0
Grown d e = (h : ℕ) → h < length d.table → (h < length e.table) × (mean e h ≡ mean d h)

-- every name in force in d is in force in e, as a host definition leaves it
abbrev pub Kept : Defs → Defs → Type 0
Kept d e = (n : ℕ) → InForce d n → InForce e n
