-- What the table's proofs share.
use Rattle.std.proofs.Common.{◌≡◌, ℕ, zero, suc, ◌+◌, ◌<◌, ◌≤◌, Bool, true, false, cond, List, [], ◌∷◌, ◌++◌, length, get_or, take, drop, Some, None, Option, sym, refl, ap, ◌∙◌, subst, ⊎_elim, ◌≢◌, arith, rules}
use Rattle.std.specs.Str.{bytes_eq}
use Rattle.std.proofs.lemmas.List.Concat.{concat_is, flat_map-append}
use Rattle.std.specs.List.{concat, AllWithin, HoldsAt}
use Rattle.std.specs.Option.{MatchOption}
use Rattle.std.proofs.lemmas.List.{append-nil, get_or_append_left, get_or_push, length_push, length-append, length-drop, length-map, get_or-map, at_drop_more, at_drop_all, map-append, drop-append-le, take-append-le, drop_at, take_all}
use Rattle.std.proofs.lemmas.Bool.{cases_lt}
use Rattle.std.proofs.lemmas.Slice.Eq.{bytes_eq-Decides}
use Rattle.tokens.specs.declared.token.Part.{Part}
use Rattle.names.specs.Spans.{spanned, listed, Within, Distinct}
use Rattle.names.specs.Interning.{seek}

same_test : (a b : List ℕ) → a ≡ b → bytes_eq a b ≡ true
same_test a b e = (bytes_eq-Decides a b).1 e

other_test : (a b : List ℕ) → (a ≡ b → ⊥) → bytes_eq a b ≡ false
other_test a b n = search (rules, bytes_eq-Decides)

pub seek_hit : (ns : List (List ℕ)) (i : ℕ) (b : List ℕ) → i < length ns → get_or ns i [] ≡ b → seek i (drop i ns) b ≡ Some i
seek_hit ns i b h e =
    let more : seek i (drop i ns) b ≡ cond (bytes_eq (get_or ns i []) b) (Some i) (seek (i + 1) (drop (i + 1) ns) b) = at_drop_more (λ l. seek i l b) ns i [] h in
    let hit = same_test _ _ e in
    more ∙ ap (λ t. cond t (Some i) (seek (i + 1) (drop (i + 1) ns) b)) hit

pub seek_miss : (ns : List (List ℕ)) (i : ℕ) (b : List ℕ) → i < length ns → (get_or ns i [] ≡ b → ⊥) → seek i (drop i ns) b ≡ seek (i + 1) (drop (i + 1) ns) b
seek_miss ns i b h e =
    let more : seek i (drop i ns) b ≡ cond (bytes_eq (get_or ns i []) b) (Some i) (seek (i + 1) (drop (i + 1) ns) b) = at_drop_more (λ l. seek i l b) ns i [] h in
    let miss = other_test _ _ e in
    more ∙ ap (λ t. cond t (Some i) (seek (i + 1) (drop (i + 1) ns) b)) miss

pub seek_end : (ns : List (List ℕ)) (i : ℕ) (b : List ℕ) → length ns ≤ i → seek i (drop i ns) b ≡ None
seek_end ns i b h = at_drop_all (λ l. seek i l b) ns i h

-- a search goes past the names that differ
passed : (ns : List (List ℕ)) (i : ℕ) (b : List ℕ) → i ≤ length ns → ((k : ℕ) → k < i → get_or ns k [] ≡ b → ⊥) → seek 0 ns b ≡ seek i (drop i ns) b
passed ns zero b h f = refl
passed ns (suc i) b h f =
    let e : i + 1 ≡ suc i = omega arith in
    subst (λ m. seek 0 ns b ≡ seek m (drop m ns) b) e (passed ns i b (omega arith) (λ k lt. f k (omega arith)) ∙ seek_miss ns i b (omega arith) (f i (omega arith)))

-- the first part whose bytes are those, as a search by number
module _ (bs : List ℕ) (ss : List Part) (b : List ℕ) where
  abbrev Here : Part → Type 0
  Here s = spanned bs s ≡ b

  abbrev Elsewhere : Part → Type 0
  Elsewhere s = spanned bs s ≢ b

  size : length (listed bs ss) ≡ length ss
  size = length-map ss (spanned bs)

  at : (k : ℕ) (d : Part) → k < length ss → get_or (listed bs ss) k [] ≡ spanned bs (get_or ss k d)
  at k d lt = get_or-map (spanned bs) ss k d [] lt

  before : (i : ℕ) (d : Part) → i ≤ length ss → AllWithin Elsewhere ss 0 i → seek 0 (listed bs ss) b ≡ seek i (drop i (listed bs ss)) b
  before i d lt f = passed (listed bs ss) i b (omega (arith, size)) (λ k l e. f k d (omega arith) l (sym (at k d (omega arith)) ∙ e))

  pub sought : (r : Option ℕ) → MatchOption r (AllWithin Elsewhere ss 0 (length ss)) (λ i. (i < length ss) × HoldsAt Here ss i × AllWithin Elsewhere ss 0 i) → r ≡ seek 0 (listed bs ss) b
  sought None h = sym (before (length ss) (record { start = 0; len = 0 }) (omega arith) h ∙ seek_end (listed bs ss) (length ss) b (omega (arith, size)))
  sought (Some i) h =
      let d : Part = record { start = 0; len = 0 } in
      sym (before i d (omega (arith, h.0)) h.2 ∙ seek_hit (listed bs ss) i b (omega (arith, size, h.0)) (at i d h.0 ∙ h.1 d))

missed : (t : Bool) (o : Option ℕ) (i : ℕ) → cond t (Some i) o ≡ None → o ≡ None
missed true o i e = grind arith
missed false o i e = e

-- what is not found stands nowhere
abbrev pub Absent : List (List ℕ) → List ℕ → Type 0
Absent ns b = (k : ℕ) → k < length ns → get_or ns k [] ≡ b → ⊥

pub absent : (i : ℕ) (ns : List (List ℕ)) (b : List ℕ) → seek i ns b ≡ None → Absent ns b
absent i [] b e k h = absurd (omega arith)
absent i (n ∷ ns) b e zero h = λ same. let t = same_test n b same in let z : Some i ≡ None = ap (λ t. cond t (Some i) (seek (i + 1) ns b)) (sym t) ∙ e in grind arith
absent i (n ∷ ns) b e (suc k) h = absent (i + 1) ns b (missed (bytes_eq n b) (seek (i + 1) ns b) i e) k (omega arith)

pub within_push : (bs b : List ℕ) (ss : List Part) (s : Part) → Within bs ss → s.start + s.len ≤ length bs + length b → Within (bs ++ b) (ss ++ s ∷ [])
within_push bs b ss s w h k d lt =
    let n : length (bs ++ b) ≡ length bs + length b = length-append bs b in
    let m : length (ss ++ s ∷ []) ≡ length ss + 1 = length_push ss s in
    ⊎_elim
    (λ old. subst (λ (x : Part). x.start + x.len ≤ length (bs ++ b)) (sym (get_or_append_left ss (s ∷ []) d k old)) (omega (arith, w k d old)))
    (λ new. let at : length ss ≡ k = omega arith in subst (λ (x : Part). x.start + x.len ≤ length (bs ++ b)) (sym (get_or_push ss s d k at)) (omega arith))
    (cases_lt k (length ss))

stable : (bs b : List ℕ) (s : Part) → s.start + s.len ≤ length bs → spanned (bs ++ b) s ≡ spanned bs s
stable bs b s h =
    let cut : drop s.start (bs ++ b) ≡ drop s.start bs ++ b = drop-append-le s.start bs b (omega arith) in
    let room : s.len ≤ length (drop s.start bs) = simp length-drop (omega arith) in
    ap (take s.len) cut ∙ take-append-le s.len (drop s.start bs) b room

pub listed_stable : (bs b : List ℕ) (ss : List Part) → Within bs ss → listed (bs ++ b) ss ≡ listed bs ss
listed_stable bs b [] w = refl
listed_stable bs b (s ∷ ss) w =
    let one = stable bs b s (w 0 s (omega arith)) in
    let rest = listed_stable bs b ss (λ k d h. w (suc k) d (omega arith)) in
    cc

pub listed_push : (bs b : List ℕ) (ss : List Part) (s : Part) → Within bs ss → s.start ≡ length bs → s.len ≡ length b → listed (bs ++ b) (ss ++ s ∷ []) ≡ listed bs ss ++ b ∷ []
listed_push bs b ss s w e f =
    let cut : drop s.start (bs ++ b) ≡ b = drop_at bs b s.start (sym e) in
    let new : spanned (bs ++ b) s ≡ b = ap (take s.len) cut ∙ take_all s.len b (omega arith) in
    let old = listed_stable bs b ss w in
    map-append (spanned (bs ++ b)) ss (s ∷ []) ∙ (λ i. old i ++ new i ∷ [])

pub concat_append : (xs ys : List (List ℕ)) → concat (xs ++ ys) ≡ concat xs ++ concat ys
concat_append xs ys = simp concat_is (flat_map-append (λ x. x) xs ys)

pub concat_push : (ns : List (List ℕ)) (b : List ℕ) → concat (ns ++ b ∷ []) ≡ concat ns ++ b
concat_push ns b = concat_append ns (b ∷ []) ∙ ap (λ l. concat ns ++ l) (append-nil b)

pub distinct_push : (ns : List (List ℕ)) (b : List ℕ) → Distinct ns → Absent ns b → Distinct (ns ++ b ∷ [])
distinct_push ns b d a i j h =
    let m : length (ns ++ b ∷ []) ≡ length ns + 1 = length_push ns b in
    ⊎_elim
    (λ (x : i < length ns).
    let p = get_or_append_left ns (b ∷ []) [] i x in
    ⊎_elim
    (λ (y : j < length ns). let q = get_or_append_left ns (b ∷ []) [] j y in d i j (x, y, sym p ∙ h.2 ∙ q))
    (λ (y : length ns ≤ j). let q = get_or_push ns b [] j (omega arith) in absurd (a i x (sym p ∙ h.2 ∙ q)))
    (cases_lt j (length ns)))
    (λ (x : length ns ≤ i).
    let p = get_or_push ns b [] i (omega arith) in
    ⊎_elim
    (λ (y : j < length ns). let q = get_or_append_left ns (b ∷ []) [] j y in absurd (a j y (sym q ∙ sym h.2 ∙ p)))
    (λ (y : length ns ≤ j). omega arith)
    (cases_lt j (length ns)))
    (cases_lt i (length ns))
