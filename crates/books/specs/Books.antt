-- A handle found for a name is one of the table, and bears that name; a book grows from itself.
use Rattle.std.specs.Prelude.{◌≡◌, ℕ, suc, ◌+◌, ◌-◌, ◌<◌, ◌≤◌, Bool, true, false, cond, List, [], ◌∷◌, length, drop, Some, ◌==◌, slice_index_or, refl}
use Rattle.std.proofs.Common.{ap, subst, ◌∙◌, arith, eqb-true}
use Rattle.std.proofs.lemmas.Bool.{both_ways}
use Rattle.std.proofs.lemmas.List.{at_drop_more}
use Rattle.books.specs.Book.{Entry, Defs, Grown, none, mean, hit, seek, find}

-- a hit is in force under the name
pub hit_is : (e : Entry) (n : ℕ) → hit e n ≡ true → (e.live ≡ true) × (e.def.name ≡ n)
hit_is e n h = both e.live h
  where
    both : (b : Bool) → cond b (e.def.name == n) false ≡ true → (b ≡ true) × (e.def.name ≡ n)
    both true k = (refl, eqb-true _ n k)
    both false k = absurd (both_ways false refl k)

-- what `seek` finds lies k places on, and is a hit
pub seek_at : (es : List Entry) (i n h : ℕ) → seek es i n ≡ Some h → (i ≤ h) × (h - i < length es) × (hit (slice_index_or es (h - i) none) n ≡ true)
seek_at [] i n h e = let z : ◌≡◌ {A = ℕ} 0 1 = cc in absurd (omega arith)
seek_at (x ∷ xs) i n h e = both (seek_at xs (i + 1) n h) (hit x n) refl e
  where
    both : (seek xs (i + 1) n ≡ Some h → (i + 1 ≤ h) × (h - (i + 1) < length xs) × (hit (slice_index_or xs (h - (i + 1)) none) n ≡ true)) → (b : Bool) → hit x n ≡ b → cond b (Some i) (seek xs (i + 1) n) ≡ Some h → (i ≤ h) × (h - i < length (x ∷ xs)) × (hit (slice_index_or (x ∷ xs) (h - i) none) n ≡ true)
    both w true k f =
        let same : i ≡ h = cc in
        let nil : 0 ≡ h - i = omega arith in
        (omega arith, omega arith, subst (λ j. hit (slice_index_or (x ∷ xs) j none) n ≡ true) nil k)
    both g false k f =
        let w = g f in
        let up : suc (h - (i + 1)) ≡ h - i = omega (arith, w.0) in
        (omega (arith, w.0), omega (arith, w.0, w.1), subst (λ j. hit (slice_index_or (x ∷ xs) j none) n ≡ true) up w.2)

pub found : (d : Defs) (n h : ℕ) → find d n ≡ Some h → (h < length d.table) × ((mean d h).name ≡ n)
found d n h e =
    let w = seek_at d.table 0 n h e in
    let z : h - 0 ≡ h = omega arith in
    (omega (arith, w.1), (hit_is (slice_index_or d.table h none) n (subst (λ j. hit (slice_index_or d.table j none) n ≡ true) z w.2)).1)

module _ (es : List Entry) (i n : ℕ) (h : i < length es) where
  seek_one : seek (drop i es) i n ≡ cond (hit (slice_index_or es i none) n) (Some i) (seek (drop (i + 1) es) (i + 1) n)
  seek_one = at_drop_more (λ l. seek l i n) es i none h

  pub seek_hit : hit (slice_index_or es i none) n ≡ true → seek (drop i es) i n ≡ Some i
  seek_hit e = seek_one ∙ ap (λ b. cond b (Some i) (seek (drop (i + 1) es) (i + 1) n)) e

  pub seek_miss : hit (slice_index_or es i none) n ≡ false → seek (drop i es) i n ≡ seek (drop (i + 1) es) (i + 1) n
  seek_miss e = seek_one ∙ ap (λ b. cond b (Some i) (seek (drop (i + 1) es) (i + 1) n)) e

-- every handle of a book means there what it means
pub grown_same : (d : Defs) → Grown d d
grown_same d h l = (l, refl)
