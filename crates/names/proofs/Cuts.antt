-- The first names alone, and one name more, still lie one after another.
use Rattle.std.proofs.Common.{◌≡◌, ℕ, ◌+◌, ◌<◌, ◌≤◌, min, List, [], ◌∷◌, ◌++◌, length, get_or, take, drop, sym, ap, ◌∙◌, subst, ⊎_elim, arith}
use Rattle.std.proofs.lemmas.List.{get_or_append_left, get_or_push, length_push, length-append, length-drop, length-take, length-take-le, length-map, get_or-map, get_or-take, take_more, take_all, take_at, take-take, take-map, take-append-le, take-append-drop}
use Rattle.std.proofs.lemmas.Bool.{cases_lt}
use Rattle.std.specs.List.{concat}
use Rattle.tokens.specs.declared.token.Part.{Part}
use Rattle.names.specs.Spans.{spanned, listed, Within, Placed, Distinct}
use Rattle.names.proofs.Tables.{concat_append, concat_push, listed_stable}

concat_more : (ns : List (List ℕ)) (k : ℕ) → k < length ns → length (concat (take (k + 1) ns)) ≡ length (concat (take k ns)) + length (get_or ns k [])
concat_more ns k h = ap (λ l. length (concat l)) (take_more ns k [] h) ∙ ap length (concat_push (take k ns) (get_or ns k [])) ∙ length-append (concat (take k ns)) (get_or ns k [])

concat_le : (ns : List (List ℕ)) (j k : ℕ) → j ≤ k → length (concat (take j ns)) ≤ length (concat (take k ns))
concat_le ns j k h =
    let e : concat (take k ns) ≡ concat (take j ns) ++ concat (drop j (take k ns)) = ap concat (sym (take-append-drop j (take k ns))) ∙ concat_append (take j (take k ns)) (drop j (take k ns)) ∙ ap (λ l. concat l ++ concat (drop j (take k ns))) (take-take j k ns h) in
    let n : length (concat (take k ns)) ≡ length (concat (take j ns)) + length (concat (drop j (take k ns))) = ap length e ∙ length-append (concat (take j ns)) (concat (drop j (take k ns))) in
    omega arith

pub placed_push : (ns : List (List ℕ)) (b : List ℕ) (ss : List Part) (s : Part) → length ns ≡ length ss → Placed ns ss → s.start ≡ length (concat ns) → Placed (ns ++ b ∷ []) (ss ++ s ∷ [])
placed_push ns b ss s e p f k d lt =
    let m : length (ss ++ s ∷ []) ≡ length ss + 1 = length_push ss s in
    let front : take k (ns ++ b ∷ []) ≡ take k ns = take-append-le k ns (b ∷ []) (omega arith) in
    ⊎_elim
    (λ old. ap (λ (x : Part). x.start) (get_or_append_left ss (s ∷ []) d k old) ∙ p k d old ∙ ap (λ l. length (concat l)) (sym front))
    (λ new. let at : length ss ≡ k = omega arith in ap (λ (x : Part). x.start) (get_or_push ss s d k at) ∙ f ∙ ap (λ l. length (concat l)) (sym (front ∙ take_all k ns (omega arith))))
    (cases_lt k (length ss))

long : (bs : List ℕ) (ss : List Part) (k : ℕ) (d : Part) → Within bs ss → k < length ss → length (get_or (listed bs ss) k []) ≡ (get_or ss k d).len
long bs ss k d w h =
    let s = get_or ss k d in
    let e : get_or (listed bs ss) k [] ≡ spanned bs s = get_or-map (spanned bs) ss k d [] h in
    let r : s.start + s.len ≤ length bs = w k d h in
    ap length e ∙ length-take-le s.len (drop s.start bs) (simp length-drop (omega arith))

-- a name before place n ends where name n begins, or before
before : (bs : List ℕ) (ss : List Part) (k n : ℕ) (d : Part) → Within bs ss → Placed (listed bs ss) ss → k < n → n < length ss → (get_or ss k d).start + (get_or ss k d).len ≤ (get_or ss n d).start
before bs ss k n d w p h l =
    let ns = listed bs ss in
    let size : length ns ≡ length ss = length-map ss (spanned bs) in
    let a = p k d (omega arith) in
    let b = p n d l in
    let c = long bs ss k d w (omega arith) in
    let m = concat_more ns k (omega arith) in
    let u = concat_le ns (k + 1) n (omega arith) in
    omega arith

module _ (bs : List ℕ) (ss : List Part) (n : ℕ) (d : Part) (w : Within bs ss) (p : Placed (listed bs ss) ss) (l : n < length ss) where
  pub within_cut : Within (take (get_or ss n d).start bs) (take n ss)
  within_cut k e h =
      let st = (get_or ss n d).start in
      let m : length (take n ss) ≡ n = length-take-le n ss (omega arith) in
      let at : get_or (take n ss) k e ≡ get_or ss k e = get_or-take n ss k e (omega arith) in
      let same : (get_or ss n e).start ≡ st = p n e l ∙ sym (p n d l) in
      let b = before bs ss k n e w p (omega arith) l in
      let r = w n d l in
      let t : length (take st bs) ≡ st = length-take-le st bs (omega arith) in
      subst (λ (x : Part). x.start + x.len ≤ length (take st bs)) (sym at) (omega arith)

  pub listed_cut : listed (take (get_or ss n d).start bs) (take n ss) ≡ take n (listed bs ss)
  listed_cut =
      let st = (get_or ss n d).start in
      sym (listed_stable (take st bs) (drop st bs) (take n ss) within_cut) ∙ ap (λ x. listed x (take n ss)) (take-append-drop st bs) ∙ sym (take-map (spanned bs) n ss)

  pub joined_cut : concat (listed bs ss) ≡ bs → concat (take n (listed bs ss)) ≡ take (get_or ss n d).start bs
  joined_cut j =
      let ns = listed bs ss in
      let st = (get_or ss n d).start in
      let e : concat ns ≡ concat (take n ns) ++ concat (drop n ns) = ap concat (sym (take-append-drop n ns)) ∙ concat_append (take n ns) (drop n ns) in
      sym (ap (take st) (sym j ∙ e) ∙ take_at (concat (take n ns)) (concat (drop n ns)) st (sym (p n d l)))

  pub placed_cut : Placed (take n (listed bs ss)) (take n ss)
  placed_cut k e h =
      let m : length (take n ss) ≡ n = length-take-le n ss (omega arith) in
      ap (λ (x : Part). x.start) (get_or-take n ss k e (omega arith)) ∙ p k e (omega arith) ∙ ap (λ x. length (concat x)) (sym (take-take k n (listed bs ss) (omega arith)))

pub distinct_cut : (ns : List (List ℕ)) (n : ℕ) → Distinct ns → Distinct (take n ns)
distinct_cut ns n d i j h =
    let m : length (take n ns) ≡ min n (length ns) = length-take n ns in
    let a : i < n = omega (arith, h.0) in
    let b : j < n = omega (arith, h.1) in
    d i j (omega (arith, h.0), omega (arith, h.1), sym (get_or-take n ns i [] a) ∙ h.2 ∙ get_or-take n ns j [] b)
