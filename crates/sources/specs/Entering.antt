-- A file's names, entered one after another into a table that holds the names ns.
-- numbers_of ns bs: the numbers they get, or the first refusal; table_after ns bs: the names after that; Grown ns ms: ms begins with ns
-- Numbered r m: what entering answers where the numbers are m, unless memory fails
use Rattle.std.specs.Prelude.{◌≡◌, ℕ, ◌⊎◌, List, [], ◌∷◌, length, take, Ok, Err, vec_items, Result, Vec}
use Rattle.std.specs.declared.alloc.Global.{Global}
use Rattle.tokens.specs.declared.fault.Refusal.{Refusal}
use Rattle.tokens.specs.declared.fault.Refusal.TheVariants.{Memory}
use Rattle.names.specs.Interning.{answer, after}

abbrev pub joined : Result ℕ Refusal → Result (List ℕ) Refusal → Result (List ℕ) Refusal
joined (Err e) r = Err e
joined (Ok i) (Err e) = Err e
joined (Ok i) (Ok is) = Ok (i ∷ is)

abbrev pub numbers_of : List (List ℕ) → List (List ℕ) → Result (List ℕ) Refusal
numbers_of ns [] = Ok []
numbers_of ns (b ∷ bs) = joined (answer ns b) (numbers_of (after ns b) bs)

abbrev pub table_after : List (List ℕ) → List (List ℕ) → List (List ℕ)
table_after ns [] = ns
table_after ns (b ∷ bs) = table_after (after ns b) bs

abbrev pub Grown : List (List ℕ) → List (List ℕ) → Type 0
Grown ns ms = take (length ns) ms ≡ ns

abbrev pub Numbered : Result (Vec ℕ Global) Refusal → Result (List ℕ) Refusal → Type 0
Numbered (Ok v) m = m ≡ Ok (vec_items v)
Numbered (Err e) m = (e ≡ Memory) ⊎ (m ≡ Err e)
