-- Two token lists are compared place by place.
use Rattle.std.proofs.Common.{◌≡◌, ℕ, zero, suc, ◌-◌, ◌<◌, Bool, true, false, cond, not, List, [], ◌∷◌, length, take, drop, slice_index_or, sym, refl, ap, ◌∙◌, arith}
use Rattle.std.specs.Bool.{MatchBool}
use Rattle.std.specs.List.{zip, AllWithin, HoldsAt, AllByRecursion as ByRecursion}
use Rattle.std.proofs.lemmas.List.Elements.{recursion_from_All}
use mathlib.Core.Bool.{beq}
use Rattle.std.proofs.lemmas.List.{take_rest}
use Rattle.tokens.specs.declared.token.Token.{Token}
use Rattle.defines.specs.Values.{values_agree, token_lists_agree, legal}
use Rattle.books.specs.Book.{Definition}

never : (b : Bool) → cond b false false ≡ false
never true = refl
never false = refl

pub uneven : (xs ys : List Token) → (length xs ≡ length ys → ⊥) → token_lists_agree xs ys ≡ false
uneven [] [] h = absurd (h refl)
uneven [] (y ∷ ys) h = refl
uneven (x ∷ xs) [] h = refl
uneven (x ∷ xs) (y ∷ ys) h = ap (λ b. cond (values_agree x.value y.value) b false) (uneven xs ys (λ e. h (ap suc e))) ∙ never (values_agree x.value y.value)

-- the values of a pair of tokens agree
abbrev pub alike : Token × Token → Bool
alike p = values_agree p.0.value p.1.value

agree_all : (xs ys : List Token) → length xs ≡ length ys → ByRecursion (λ p. alike p ≡ true) (zip xs ys) → token_lists_agree xs ys ≡ true
agree_all [] [] e h = refl
agree_all [] (y ∷ ys) e h = absurd (omega (arith, e))
agree_all (x ∷ xs) [] e h = absurd (omega (arith, e))
agree_all (x ∷ xs) (y ∷ ys) e h = ap (λ b. cond b (token_lists_agree xs ys) false) h.0 ∙ agree_all xs ys (omega (arith, e)) h.1

differ_at : (xs ys : List Token) (k : ℕ) → k < length (zip xs ys) → ((d : Token × Token) → alike (slice_index_or (zip xs ys) k d) ≡ false) → token_lists_agree xs ys ≡ false
differ_at [] ys k h e = absurd (omega (arith, h))
differ_at (x ∷ xs) [] k h e = refl
differ_at (x ∷ xs) (y ∷ ys) zero h e = ap (λ b. cond b (token_lists_agree xs ys) false) (e (x, y))
differ_at (x ∷ xs) (y ∷ ys) (suc k) h e = ap (λ b. cond (values_agree x.value y.value) b false) (differ_at xs ys k (omega (arith, h)) e) ∙ never (values_agree x.value y.value)

-- what comparing all pairs answers
pub agreed : (xs ys : List Token) (r : Bool) → length xs ≡ length ys → MatchBool r (AllWithin (λ p. alike p ≡ true) (zip xs ys) 0 (length (zip xs ys))) ((k : ℕ) × (k < length (zip xs ys)) × HoldsAt (λ p. alike p ≡ false) (zip xs ys) k) → r ≡ token_lists_agree xs ys
agreed xs ys true e h = sym (agree_all xs ys e (recursion_from_All _ _ (λ k d l. h k d (omega arith) l)))
agreed xs ys false e h = sym (differ_at xs ys h.0 h.1 h.2)

-- the same of lists that are read from a store
pub parts_told : (kept k p : List Token) (q : List Token) (start len : ℕ) (r : Bool) → p ≡ q → k ≡ kept → r ≡ token_lists_agree p (take len (drop start k)) → r ≡ token_lists_agree q (take len (drop start kept))
parts_told kept k p q start len r a b e = cc

pub rests_told : (kept k p : List Token) (q : List Token) (start : ℕ) (r : Bool) → p ≡ q → k ≡ kept → r ≡ token_lists_agree p (take (length k - start) (drop start k)) → r ≡ token_lists_agree q (drop start kept)
rests_told kept k p q start r a b e = let all = take_rest kept start in cc

-- a definition given again
module _ (d : Definition) (f : Bool) (ps b : List Token) where
  abbrev bodies : Bool
  bodies = token_lists_agree d.body b

  abbrev lists : Bool
  lists = cond (token_lists_agree d.params ps) bodies false

  pub other_kind : beq d.function f ≡ false → false ≡ legal d f ps b
  other_kind k = sym (ap (λ t. cond t lists false) k)

  pub other_params : beq d.function f ≡ true → token_lists_agree d.params ps ≡ false → false ≡ legal d f ps b
  other_params k p = sym (ap (λ t. cond t lists false) k ∙ ap (λ t. cond t bodies false) p)

  pub by_body : beq d.function f ≡ true → token_lists_agree d.params ps ≡ true → bodies ≡ legal d f ps b
  by_body k p = sym (ap (λ t. cond t lists false) k ∙ ap (λ t. cond t bodies false) p)

pub is_false : (b : Bool) → not b ≡ true → b ≡ false
is_false true e = sym e
is_false false e = refl

pub is_true : (b : Bool) → not b ≡ false → b ≡ true
is_true true e = refl
is_true false e = sym e
