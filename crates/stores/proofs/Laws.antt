-- Steps of a search, and the last element.
use Rattle.std.proofs.Common.{◌≡◌, ℕ, zero, suc, ◌+◌, ◌-◌, ◌<◌, ◌≤◌, true, false, cond, ltb, List, [], ◌∷◌, ◌++◌, map, length, get_or, drop, is_some, Some, None, Option, nat_eq, sym, refl, ap, ◌∙◌, arith, Bor}
use Rattle.std.specs.List.{AllWithin, HoldsAt}
use Rattle.std.specs.Option.{option_eq, option_map, option_to_list, MatchOption}
use Rattle.std.specs.Slice.{IsGetResult}
use Rattle.std.proofs.lemmas.List.{at_drop_more, at_drop_all, get_or-map, length-map}
use Rattle.std.proofs.lemmas.Bool.Decides.{nat_tests}
use Rattle.stores.specs.Places.{bears, place, latest}

-- what `==` answers at a key and a name
pub borne : (o : Option ℕ) (k : ℕ) → option_eq nat_eq o (Some k) ≡ bears o k
borne None k = refl
borne (Some n) k = refl

module _ (k : ℕ) (xs : List (Option ℕ)) (i : ℕ) where
  more : i < length xs → place i k (drop i xs) ≡ cond (bears (get_or xs i None) k) (Some i) (place (i + 1) k (drop (i + 1) xs))
  more h = at_drop_more (place i k) xs i None h

  pub hit : i < length xs → bears (get_or xs i None) k ≡ true → place i k (drop i xs) ≡ Some i
  hit h e = more h ∙ ap (λ t. cond t (Some i) (place (i + 1) k (drop (i + 1) xs))) e

  pub miss : i < length xs → bears (get_or xs i None) k ≡ false → place i k (drop i xs) ≡ place (i + 1) k (drop (i + 1) xs)
  miss h e = more h ∙ ap (λ t. cond t (Some i) (place (i + 1) k (drop (i + 1) xs))) e

  pub over : length xs ≤ i → place i k (drop i xs) ≡ None
  over h = at_drop_all (place i k) xs i h

pub latest_last : {X : Type 0} (xs : List X) (d : X) → 0 < length xs → latest xs ≡ Some (get_or xs (length xs - 1) d)
latest_last [] d h = absurd (omega arith)
latest_last (x ∷ []) d h = refl
latest_last (x ∷ y ∷ ys) d h =
    let a : suc (length ys) - 1 ≡ length ys = omega arith in
    let b : suc (suc (length ys)) - 1 ≡ suc (length ys) = omega arith in
    latest_last (y ∷ ys) d (omega arith) ∙ ap (λ m. Some (get_or (y ∷ ys) m d)) a ∙ sym (ap (λ m. Some (get_or (x ∷ y ∷ ys) m d)) b)

pub is_latest : {X : Type 0} (xs : List X) (r : Option (Bor X)) → IsGetResult xs 0 (length xs - 1) r → option_map (λ x. x.now) r ≡ latest xs
is_latest [] None h = refl
is_latest (x ∷ xs) None h = absurd (omega (arith, h.3))
is_latest xs (Some y) h = ap Some h.1 ∙ sym (latest_last xs y.now h.3.0)

pub latest_push : {X : Type 0} (xs : List X) (x : X) → latest (xs ++ x ∷ []) ≡ Some x
latest_push [] x = refl
latest_push (y ∷ []) x = refl
latest_push (y ∷ z ∷ zs) x = latest_push (z ∷ zs) x

-- what is taken off the end is the last element
pub taken_off : {X : Type 0} (xs ys : List X) (r : Option X) → xs ≡ ys ++ option_to_list r → is_some r ≡ ltb 0 (length xs) → r ≡ latest xs
taken_off [] ys None e t = refl
taken_off (x ∷ xs) ys None e t = absurd (grind (arith, nat_tests))
taken_off xs ys (Some x) e t = sym (ap latest e ∙ latest_push ys x)

module _ {X : Type 0} (f : X → Option ℕ) (k : ℕ) (xs : List X) where
  abbrev pub Here : X → Type 0
  Here x = bears (f x) k ≡ true

  abbrev pub Elsewhere : X → Type 0
  Elsewhere x = bears (f x) k ≡ false

  before : (d : X) (i : ℕ) → i ≤ length xs → AllWithin Elsewhere xs 0 i → place 0 k (map f xs) ≡ place i k (drop i (map f xs))
  before d zero l h = refl
  before d (suc i) l h =
      let here : i < length xs = omega arith in
      let next : i + 1 ≡ suc i = omega arith in
      before d i (omega arith) (λ j e a b. h j e a (omega arith)) ∙ miss k (map f xs) i (simp length-map here) (ap (λ o. bears o k) (get_or-map f xs i d None here) ∙ h i d (omega arith) (omega arith)) ∙ ap (λ n. place n k (drop n (map f xs))) next

  found_from : (d : X) (r : Option ℕ) → MatchOption r (AllWithin Elsewhere xs 0 (length xs)) (λ i. (i < length xs) × HoldsAt Here xs i × AllWithin Elsewhere xs 0 i) → r ≡ place 0 k (map f xs)
  found_from d None h = sym (before d (length xs) (omega arith) h ∙ over k (map f xs) (length xs) (simp length-map (omega arith)))
  found_from d (Some i) h = sym (before d i (omega (arith, h.0)) h.2 ∙ hit k (map f xs) i (simp length-map h.0) (ap (λ o. bears o k) (get_or-map f xs i d None h.0) ∙ h.1 d))

-- what `position` answers
pub found : {X : Type 0} (f : X → Option ℕ) (k : ℕ) (xs : List X) (r : Option ℕ) → MatchOption r (AllWithin (Elsewhere f k xs) xs 0 (length xs)) (λ i. (i < length xs) × HoldsAt (Here f k xs) xs i × AllWithin (Elsewhere f k xs) xs 0 i) → r ≡ place 0 k (map f xs)
found f k [] None h = refl
found f k [] (Some i) h = absurd (omega (arith, h.0))
found f k (x ∷ xs) r h = found_from f k (x ∷ xs) x r h
