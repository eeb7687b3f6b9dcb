-- bears key k: a record with this key is found by the name k
-- place i k keys: the first place of a key that bears k, where the list begins at place i
-- latest xs: the last element
use Rattle.std.specs.Prelude.{ℕ, ◌+◌, Bool, false, cond, List, [], ◌∷◌, Some, None, Option, ◌==◌}

abbrev pub bears : Option ℕ → ℕ → Bool
bears (Some n) k = n == k
bears None k = false

abbrev pub place : ℕ → ℕ → List (Option ℕ) → Option ℕ
place i k [] = None
place i k (x ∷ xs) = cond (bears x k) (Some i) (place (i + 1) k xs)

abbrev pub latest : {X : Type 0} → List X → Option X
latest [] = None
latest (x ∷ []) = Some x
latest (x ∷ y ∷ ys) = latest (y ∷ ys)
