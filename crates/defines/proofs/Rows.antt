-- Definitions that are entered in the table or taken out of force there.
use Rattle.std.proofs.Common.{◌≡◌, ℕ, ◌-◌, ◌<◌, ◌≤◌, Bool, true, false, cond, eqb, ◌⊎◌, List, [], ◌∷◌, ◌++◌, length, get_or, take, drop, set, None, sym, ap, ◌∙◌, subst, inl, inr, ⊎_elim, arith}
use Rattle.std.proofs.lemmas.List.{map-append, map-set, length-set, length_push, get_or-set_same, get_or-set_other, get_or_push, get_or_append_left, get_or_past, take_rest}
use Rattle.std.proofs.lemmas.Bool.{both_ways, eq-eqb, cases_eq}
use Rattle.std.proofs.str.Laws.{order}
use Rattle.tokens.specs.declared.token.Token.{Token}
use Rattle.books.specs.Book.{none, hit, find}
use Rattle.defines.specs.declared.define.Define.{Define}
use Rattle.defines.specs.Parts.{entry, entries, shelf, vacant, Lies, Within, Once}
use Rattle.defines.specs.Changes.{dead, made, entered}
use Rattle.defines.specs.Entries.{entry_at, entries_len}
use Rattle.defines.proofs.Removals.{seek_none}

-- a definition that is taken out of force
abbrev pub dulled : Define → Define
dulled d = record { name = d.name; function_like = d.function_like; params = d.params; tokens = d.tokens; in_force = false }

module _ (kept : List Token) (table : List Define) (h : ℕ) (l : h < length table) where
  abbrev less : List Define
  less = set table h (dulled (get_or table h vacant))

  pub dulled_entries : entries kept less ≡ set (entries kept table) h (dead (get_or (entries kept table) h none))
  dulled_entries = map-set (entry kept) table h (dulled (get_or table h vacant)) ∙ ap (λ e. set (entries kept table) h (dead e)) (sym (entry_at kept table h))

  at_place : (i : ℕ) → (get_or less i vacant ≡ get_or table i vacant) ⊎ ((i ≡ h) × (get_or less i vacant ≡ dulled (get_or table h vacant)))
  at_place i =
      ⊎_elim
      (λ e. inr (e, subst (λ k. get_or less k vacant ≡ dulled (get_or table h vacant)) (sym e) (get_or-set_same table h (dulled (get_or table h vacant)) vacant l)))
      (λ e. inl (get_or-set_other table h i (dulled (get_or table h vacant)) vacant e))
      (cases_eq i h)

  pub dulled_within : (mark : ℕ) → Within mark table → Within mark less
  dulled_within mark w i =
      ⊎_elim
      (λ e. subst (Lies mark) (sym e) (w i))
      (λ e. subst (Lies mark) (sym e.1) (w h))
      (at_place i)

  pub dulled_once : Once table → Once less
  dulled_once o i j t =
      ⊎_elim
      (λ p. ⊎_elim
      (λ q. o i j (record { before = t.before; inside = omega (arith, t.inside, length-set table h (dulled (get_or table h vacant))); first = sym (ap (λ d. d.in_force) p) ∙ t.first; second = sym (ap (λ d. d.in_force) q) ∙ t.second; same = sym (ap (λ d. d.name) p) ∙ t.same ∙ ap (λ d. d.name) q }))
      (λ q. both_ways _ (ap (λ d. d.in_force) q.1) t.second)
      (at_place j))
      (λ p. both_ways _ (ap (λ d. d.in_force) p.1) t.first)
      (at_place i)

-- a definition that is entered
module _ (kept : List Token) (table : List Define) (d : Define) (more : List Define) (pushed : more ≡ table ++ d ∷ []) where
  pub entered_shelf : (mark body end : ℕ) (n : ℕ) (f : Bool) → end ≡ length kept → d ≡ record { name = n; function_like = f; params = record { start = mark; len = body - mark }; tokens = record { start = body; len = end - body }; in_force = true } → shelf kept more ≡ entered (shelf kept table) (made n f (take (body - mark) (drop mark kept)) (drop body kept))
  entered_shelf mark body end n f z e =
      let rest : take (end - body) (drop body kept) ≡ drop body kept = ap (λ m. take (m - body) (drop body kept)) z ∙ take_rest kept body in
      let own : entry kept d ≡ made n f (take (body - mark) (drop mark kept)) (drop body kept) = ap (entry kept) e ∙ ap (made n f (take (body - mark) (drop mark kept))) rest in
      ap (shelf kept) pushed ∙ ap (λ es. record { table = es }) (map-append (entry kept) table (d ∷ []) ∙ ap (λ x. entries kept table ++ x ∷ []) own)

  at_end : (i : ℕ) → (get_or (table ++ d ∷ []) i vacant ≡ get_or table i vacant) ⊎ ((i ≡ length table) × (get_or (table ++ d ∷ []) i vacant ≡ d))
  at_end i =
      ⊎_elim
      (λ l. inl (get_or_append_left table (d ∷ []) vacant i l))
      (λ l. ⊎_elim
      (λ e. inr (e, get_or_push table d vacant i (sym e)))
      (λ e. inl (get_or_past (table ++ d ∷ []) i vacant (beyond i l e) ∙ sym (get_or_past table i vacant l)))
      (cases_eq i (length table)))
      (order i (length table))
    where
      beyond : (i : ℕ) → length table ≤ i → (i ≡ length table → ⊥) → length (table ++ d ∷ []) ≤ i
      beyond i l e = omega (arith, length_push table d)

  pub entered_within : (mark end : ℕ) → mark ≤ end → Lies end d → Within mark table → Within end more
  entered_within mark end m own w = subst (Within end) (sym pushed) (λ i.
      let u = w i in
      let old : Lies end (get_or table i vacant) = (omega (arith, u.0), u.1, omega (arith, u.2)) in
      ⊎_elim
      (λ e. subst (Lies end) (sym e) old)
      (λ e. subst (Lies end) (sym e.1) own)
      (at_end i))

  pub entered_once : find (shelf kept table) d.name ≡ None → Once table → Once more
  entered_once free o = subst Once (sym pushed) (λ i j t.
      let long = length_push table d in
      let before : i < length table = omega (arith, t.before, t.inside) in
      let p = get_or_append_left table (d ∷ []) vacant i before in
      ⊎_elim
      (λ inside.
      let q = get_or_append_left table (d ∷ []) vacant j inside in
      o i j (record { before = t.before; inside = inside; first = sym (ap (λ x. x.in_force) p) ∙ t.first; second = sym (ap (λ x. x.in_force) q) ∙ t.second; same = sym (ap (λ x. x.name) p) ∙ t.same ∙ ap (λ x. x.name) q }))
      (λ last.
      let z : length table ≡ j = omega (arith, t.inside) in
      let q = get_or_push table d vacant j z in
      let same : (get_or table i vacant).name ≡ d.name = sym (ap (λ x. x.name) p) ∙ t.same ∙ ap (λ x. x.name) q in
      let live : (get_or table i vacant).in_force ≡ true = sym (ap (λ x. x.in_force) p) ∙ t.first in
      let is : hit (entry kept (get_or table i vacant)) d.name ≡ true = ap (λ b. cond b (eqb (get_or table i vacant).name d.name) false) live ∙ eq-eqb _ d.name same in
      seek_none (entries kept table) 0 d.name free i (omega (arith, entries_len kept table)) (ap (λ x. hit x d.name) (entry_at kept table i) ∙ is))
      (order j (length table)))
