-- A name that is taken out of force or put in force, and what stays.
use Rattle.std.proofs.Common.{◌≡◌, ℕ, zero, suc, ◌+◌, ◌-◌, ◌<◌, Bool, true, false, cond, eqb, ◌⊎◌, List, [], ◌∷◌, ◌++◌, length, get_or, set, Some, None, Option, sym, refl, ap, ◌∙◌, subst, inl, inr, ⊎_elim, arith}
use Rattle.std.proofs.lemmas.List.{length-set, length_push, get_or-set_same, get_or-set_other, get_or_push, get_or_append_left}
use Rattle.std.proofs.lemmas.Bool.{both_ways, eq-eqb, cases_eq, cases_Bool}
use Rattle.std.proofs.str.Laws.{order}
use Rattle.books.specs.Book.{Entry, Defs, Sound, none, hit, seek, find, has, Grown, Kept}
use Rattle.books.specs.Books.{hit_is, seek_at, grown_same}
use Rattle.defines.specs.Changes.{dead, cleared, without, entered, accepted}

-- a search that finds nothing passes no hit
pub seek_none : (es : List Entry) (i n : ℕ) → seek es i n ≡ None → (k : ℕ) → k < length es → hit (get_or es k none) n ≡ true → ⊥
seek_none [] i n e k l h = omega arith
seek_none (x ∷ xs) i n e zero l h = let z : Some i ≡ None = sym (ap (λ b. cond b (Some i) (seek xs (i + 1) n)) h) ∙ e in let y : ◌≡◌ {A = ℕ} 0 1 = cc in omega arith
seek_none (x ∷ xs) i n e (suc k) l h = seek_none xs (i + 1) n (rest (hit x n) e) k (omega arith) h
  where
    rest : (b : Bool) → cond b (Some i) (seek xs (i + 1) n) ≡ None → seek xs (i + 1) n ≡ None
    rest true f = let y : ◌≡◌ {A = ℕ} 0 1 = cc in absurd (omega arith)
    rest false f = f

-- where no entry is a hit, a search finds nothing
pub none_seek : (es : List Entry) (i n : ℕ) → ((k : ℕ) → k < length es → hit (get_or es k none) n ≡ true → ⊥) → seek es i n ≡ None
none_seek [] i n f = refl
none_seek (x ∷ xs) i n f =
    ⊎_elim
    (λ y. absurd (f 0 (omega arith) y))
    (λ y. ap (λ b. cond b (Some i) (seek xs (i + 1) n)) y ∙ none_seek xs (i + 1) n (λ k l h. f (suc k) (omega arith) h))
    (cases_Bool (hit x n))

-- the last entry is found where no other is a hit
pub seek_push : (es : List Entry) (e : Entry) (i n : ℕ) → seek es i n ≡ None → hit e n ≡ true → seek (es ++ e ∷ []) i n ≡ Some (i + length es)
seek_push [] e i n f h =
    let z : i ≡ i + 0 = omega arith in
    ap (λ b. cond b (Some i) None) h ∙ ap Some z
seek_push (x ∷ xs) e i n f h = both (seek_push xs e (i + 1) n) (hit x n) f
  where
    both : (seek xs (i + 1) n ≡ None → hit e n ≡ true → seek (xs ++ e ∷ []) (i + 1) n ≡ Some (i + 1 + length xs)) → (b : Bool) → cond b (Some i) (seek xs (i + 1) n) ≡ None → cond b (Some i) (seek (xs ++ e ∷ []) (i + 1) n) ≡ Some (i + length (x ∷ xs))
    both g true k = let y : ◌≡◌ {A = ℕ} 0 1 = cc in absurd (omega arith)
    both g false k =
        let z : i + 1 + length xs ≡ i + length (x ∷ xs) = omega arith in
        g k h ∙ ap Some z

-- a name is in force where some entry is a hit
pub has_from : (es : List Entry) (n k : ℕ) → k < length es → hit (get_or es k none) n ≡ true → has es n ≡ true
has_from [] n k l h = absurd (omega arith)
has_from (x ∷ xs) n zero l h = ap (λ b. cond b true (has xs n)) h
has_from (x ∷ xs) n (suc k) l h = ap (λ b. cond (hit x n) true b) (has_from xs n k (omega arith) h) ∙ always (hit x n)
  where
    always : (b : Bool) → cond b true true ≡ true
    always true = refl
    always false = refl

pub has_at : (es : List Entry) (n : ℕ) → has es n ≡ true → (k : ℕ) × ((k < length es) × (hit (get_or es k none) n ≡ true))
has_at [] n h = absurd (both_ways false refl h)
has_at (x ∷ xs) n h = both (has_at xs n) (hit x n) refl h
  where
    both : (has xs n ≡ true → (k : ℕ) × ((k < length xs) × (hit (get_or xs k none) n ≡ true))) → (b : Bool) → hit x n ≡ b → cond b true (has xs n) ≡ true → (k : ℕ) × ((k < length (x ∷ xs)) × (hit (get_or (x ∷ xs) k none) n ≡ true))
    both g true e f = (0, (omega arith, e))
    both g false e f = let w = g f in (suc w.0, (omega (arith, w.1.0), w.1.1))

pub grown_trans : (a b c : Defs) → Grown a b → Grown b c → Grown a c
grown_trans a b c f g h l = let x = f h l in let y = g h x.0 in (y.0, y.1 ∙ x.1)

pub grown_is : (a b c : Defs) → b ≡ c → Grown a c → Grown a b
grown_is a b c e g = subst (Grown a) (sym e) g

pub grown_entered : (d : Defs) (e : Entry) → Grown d (entered d e)
grown_entered d e h l = (omega (arith, length_push d.table e), ap (λ x. x.def) (get_or_append_left d.table (e ∷ []) none h l))

-- one entry is taken out of force
module _ (es : List Entry) (h : ℕ) (l : h < length es) where
  abbrev less : List Entry
  less = set es h (dead (get_or es h none))

  less_len : length less ≡ length es
  less_len = length-set es h (dead (get_or es h none))

  pub at_place : (i : ℕ) → ((i ≡ h → ⊥) × (get_or less i none ≡ get_or es i none)) ⊎ ((i ≡ h) × (get_or less i none ≡ dead (get_or es h none)))
  at_place i =
      ⊎_elim
      (λ e. inr (e, subst (λ k. get_or less k none ≡ dead (get_or es h none)) (sym e) (get_or-set_same es h (dead (get_or es h none)) none l)))
      (λ e. inl (e, get_or-set_other es h i (dead (get_or es h none)) none e))
      (cases_eq i h)

  pub grown_less : Grown (record { table = es }) (record { table = less })
  grown_less i k = (
    omega (arith, less_len),
    ⊎_elim
        (λ e. ap (λ x. x.def) e.1)
        (λ e. ap (λ x. x.def) e.1 ∙ ap (λ j. (get_or es j none).def) (sym e.0))
        (at_place i),
  )

  -- the name of the entry is not found any more
  pub less_none : (n : ℕ) → Sound (record { table = es }) → hit (get_or es h none) n ≡ true → seek less 0 n ≡ None
  less_none n sound is =
      none_seek less 0 n (λ k m y.
      let inside : k < length es = omega (arith, less_len) in
      ⊎_elim
      (λ e.
      let a = hit_is (get_or es k none) n (sym (ap (λ x. hit x n) e.1) ∙ y) in
      let b = hit_is (get_or es h none) n is in
      ⊎_elim
      (λ lt. sound.once k h lt l a.0 b.0 (a.1 ∙ sym b.1))
      (λ ge. ⊎_elim
      (λ gt. sound.once h k gt inside b.0 a.0 (b.1 ∙ sym a.1))
      (λ le. e.0 (omega arith))
      (order h k))
      (order k h))
      (λ e. both_ways _ (ap (λ x. hit x n) e.1) y)
      (at_place k))

  -- every other name stays
  pub less_has : (n m : ℕ) → hit (get_or es h none) n ≡ true → (m ≡ n → ⊥) → has es m ≡ true → has less m ≡ true
  less_has n m is apart y =
      let w = has_at es m y in
      ⊎_elim
      (λ e. has_from less m w.0 (omega (arith, w.1.0, less_len)) (ap (λ x. hit x m) e.1 ∙ w.1.1))
      (λ e.
      let a = hit_is (get_or es w.0 none) m w.1.1 in
      let b = hit_is (get_or es h none) n is in
      absurd (apart (sym a.1 ∙ ap (λ j. (get_or es j none).def.name) e.0 ∙ b.1)))
      (at_place w.0)

-- the same by the search for a name
module _ (d : Defs) (n : ℕ) where
  abbrev old : List Entry
  old = d.table

  found_hit : (h : ℕ) → find d n ≡ Some h → (h < length old) × (hit (get_or old h none) n ≡ true)
  found_hit h e =
      let w = seek_at old 0 n h e in
      let z : h - 0 ≡ h = omega arith in
      (omega (arith, w.1), subst (λ j. hit (get_or old j none) n ≡ true) z w.2)

  pub grown_without : Grown d (without d n)
  grown_without = by (find d n) refl
    where
      by : (o : Option ℕ) → find d n ≡ o → Grown d (record { table = cleared old o })
      by None e = grown_same d
      by (Some h) e = grown_less old h (found_hit h e).0

  pub none_without : Sound d → find (without d n) n ≡ None
  none_without sound = by (find d n) refl
    where
      by : (o : Option ℕ) → find d n ≡ o → seek (cleared old o) 0 n ≡ None
      by None e = e
      by (Some h) e = let w = found_hit h e in less_none old h w.0 n sound w.1

  pub without_has : (m : ℕ) → (m ≡ n → ⊥) → has old m ≡ true → has (without d n).table m ≡ true
  without_has m apart y = by (find d n) refl
    where
      by : (o : Option ℕ) → find d n ≡ o → has (cleared old o) m ≡ true
      by None e = y
      by (Some h) e = let w = found_hit h e in less_has old h w.0 n m w.1 apart y

  pub without_len : length (without d n).table ≡ length old
  without_len = by (find d n)
    where
      by : (o : Option ℕ) → length (cleared old o) ≡ length old
      by None = refl
      by (Some h) = length-set old h (dead (get_or old h none))

has_push : (es : List Entry) (e : Entry) (m : ℕ) → has es m ≡ true → has (es ++ e ∷ []) m ≡ true
has_push es e m y =
    let w = has_at es m y in
    has_from (es ++ e ∷ []) m w.0 (omega (arith, w.1.0, length_push es e)) (ap (λ x. hit x m) (get_or_append_left es (e ∷ []) none w.0 w.1.0) ∙ w.1.1)

-- a definition is put in force in place of a former one
module _ (d : Defs) (e : Entry) (live : e.live ≡ true) where
  abbrev n : ℕ
  n = e.def.name

  own : (m : ℕ) → m ≡ n → hit e m ≡ true
  own m z = ap (λ b. cond b (eqb n m) false) live ∙ eq-eqb n m (sym z)

  pub grown_accepted : Grown d (accepted d e)
  grown_accepted = grown_trans d (without d n) (accepted d e) (grown_without d n) (grown_entered (without d n) e)

  pub kept_accepted : Kept d (accepted d e)
  kept_accepted m y =
      let es = (without d n).table in
      ⊎_elim
      (λ z. has_from (es ++ e ∷ []) m (length es) (omega (arith, length_push es e)) (ap (λ x. hit x m) (get_or_push es e none (length es) refl) ∙ own m z))
      (λ z. has_push es e m (without_has d n m z y))
      (cases_eq m n)

  pub found_accepted : Sound d → find (accepted d e) n ≡ Some (length d.table)
  found_accepted sound =
      let z : 0 + length (without d n).table ≡ length d.table = omega (arith, without_len d n) in
      seek_push (without d n).table e 0 n (none_without d n sound) (own n refl) ∙ ap Some z
