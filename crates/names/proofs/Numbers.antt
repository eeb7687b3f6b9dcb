-- The same number exactly when the bytes agree.
use Rattle.std.proofs.Common.{◌≡◌, ℕ, suc, ◌+◌, ◌-◌, ◌<◌, ◌≤◌, Bool, true, false, cond, List, [], ◌∷◌, ◌++◌, length, get_or, Some, None, Ok, Err, Option, sym, refl, ap, ◌∙◌, arith}
use Rattle.std.specs.Str.{bytes_eq}
use Rattle.std.proofs.lemmas.List.{get_or_push, get_or_append_left, length_push}
use Rattle.std.proofs.lemmas.Slice.Eq.{bytes_eq-Decides}
use Rattle.tokens.specs.declared.fault.Refusal.TheVariants.{NameLength, NamesFull}
use Rattle.names.specs.Spans.{Distinct}
use Rattle.names.specs.Interning.{seek, fits, room, entered, extended, answer, after, SameNumber}
use Rattle.names.proofs.Tables.{absent, distinct_push}

-- what is found stands there
pub record Holds (ns : List (List ℕ)) (b : List ℕ) (i : ℕ) : Type 0 where
  pub within : i < length ns
  pub held : get_or ns i [] ≡ b

seek_low : (k : ℕ) (ns : List (List ℕ)) (b : List ℕ) (i : ℕ) → seek k ns b ≡ Some i → (k ≤ i) × (i - k < length ns) × (get_or ns (i - k) [] ≡ b)
seek_low k [] b i e = absurd (grind arith)
seek_low k (n ∷ ns) b i e = tested (λ f. seek_low (k + 1) ns b i f) (bytes_eq n b) refl e
  where
    tested : (seek (k + 1) ns b ≡ Some i → (k + 1 ≤ i) × (i - (k + 1) < length ns) × (get_or ns (i - (k + 1)) [] ≡ b)) → (t : Bool) → bytes_eq n b ≡ t → cond t (Some k) (seek (k + 1) ns b) ≡ Some i → (k ≤ i) × (i - k < length (n ∷ ns)) × (get_or (n ∷ ns) (i - k) [] ≡ b)
    tested rec true h f =
        let same : k ≡ i = grind arith in
        let none : i - k ≡ 0 = omega arith in
        (omega arith, omega arith, ap (λ m. get_or (n ∷ ns) m []) none ∙ (bytes_eq-Decides n b).0 h)
    tested rec false h f =
        let p = rec f in
        let one : i - k ≡ suc (i - (k + 1)) = omega arith in
        (omega arith, omega arith, ap (λ m. get_or (n ∷ ns) m []) one ∙ p.2)

seek_holds : (ns : List (List ℕ)) (b : List ℕ) (i : ℕ) → seek 0 ns b ≡ Some i → Holds ns b i
seek_holds ns b i e =
    let p = seek_low 0 ns b i e in
    let none : i - 0 ≡ i = omega arith in
    record { within = omega arith; held = ap (λ m. get_or ns m []) (sym none) ∙ p.2 }

-- the number that is answered is the place of these bytes in the names after it
answer_holds : (ns : List (List ℕ)) (b : List ℕ) (i : ℕ) → answer ns b ≡ Ok i → Holds (after ns b) b i
answer_holds ns b i e = fitted (fits b) refl e
  where
    roomed : (r : Bool) → cond r (Ok (length ns)) (Err NamesFull) ≡ Ok i → Holds (cond r (ns ++ b ∷ []) ns) b i
    roomed true g =
        let at : length ns ≡ i = grind arith in
        let m : length (ns ++ b ∷ []) ≡ length ns + 1 = length_push ns b in
        record { within = omega arith; held = get_or_push ns b [] i at }
    roomed false g = absurd (grind arith)

    sought : (o : Option ℕ) → seek 0 ns b ≡ o → entered o ns b ≡ Ok i → Holds (extended o ns b) b i
    sought (Some k) h g = seek_holds ns b i (h ∙ grind arith)
    sought None h g = roomed (room ns b) g

    fitted : (f : Bool) → fits b ≡ f → cond f (entered (seek 0 ns b) ns b) (Err NameLength) ≡ Ok i → Holds (cond f (extended (seek 0 ns b) ns b) ns) b i
    fitted true h g = sought (seek 0 ns b) refl g
    fitted false h g = absurd (grind arith)

after_distinct : (ns : List (List ℕ)) (b : List ℕ) → Distinct ns → Distinct (after ns b)
after_distinct ns b d = fitted (fits b)
  where
    roomed : (r : Bool) → seek 0 ns b ≡ None → Distinct (cond r (ns ++ b ∷ []) ns)
    roomed true h = distinct_push ns b d (absent 0 ns b h)
    roomed false h = d

    sought : (o : Option ℕ) → seek 0 ns b ≡ o → Distinct (extended o ns b)
    sought (Some k) h = d
    sought None h = roomed (room ns b) h

    fitted : (f : Bool) → Distinct (cond f (extended (seek 0 ns b) ns b) ns)
    fitted true = sought (seek 0 ns b) refl
    fitted false = d

-- a name keeps its place
kept : (ns : List (List ℕ)) (a b : List ℕ) (i : ℕ) → Holds ns a i → Holds (after ns b) a i
kept ns a b i h = fitted (fits b)
  where
    roomed : (r : Bool) → Holds (cond r (ns ++ b ∷ []) ns) a i
    roomed true =
        let m : length (ns ++ b ∷ []) ≡ length ns + 1 = length_push ns b in
        record { within = omega (arith, h.within); held = get_or_append_left ns (b ∷ []) [] i h.within ∙ h.held }
    roomed false = h

    sought : (o : Option ℕ) → Holds (extended o ns b) a i
    sought (Some k) = h
    sought None = roomed (room ns b)

    fitted : (f : Bool) → Holds (cond f (extended (seek 0 ns b) ns b) ns) a i
    fitted true = sought (seek 0 ns b)
    fitted false = h

pub same_number : SameNumber
same_number ns a b i j d p q =
    let one = after ns a in
    let two = after one b in
    let x : Holds two a i = kept one a b i (answer_holds ns a i p) in
    let y : Holds two b j = answer_holds one b j q in
    let apart : Distinct two = after_distinct one b (after_distinct ns a d) in (
      λ e. sym x.held ∙ ap (λ k. get_or two k []) e ∙ y.held,
      λ e. apart i j (x.within, y.within, x.held ∙ e ∙ sym y.held),
    )
