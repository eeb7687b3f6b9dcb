-- What a handle means and where a name is found, from the definitions.
use Rattle.std.proofs.Common.{◌≡◌, ℕ, zero, suc, ◌+◌, ◌-◌, ◌<◌, ◌≤◌, Bool, true, false, cond, eqb, List, [], ◌∷◌, filter, map, length, get_or, take, drop, Some, None, sym, refl, ap, ◌∙◌, arith}
use Rattle.std.proofs.lemmas.List.{length-take, length-drop}
use Rattle.std.proofs.lemmas.Option.{slice_get_past}
use Rattle.std.specs.List.{slice_get}
use Rattle.stores.specs.Places.{bears, place}
use Rattle.tokens.specs.declared.token.Token.{Token}
use Rattle.tokens.specs.declared.token.Part.{Part}
use Rattle.books.specs.Book.{mean, hit, seek, live}
use Rattle.defines.specs.declared.define.Define.{Define}
use Rattle.defines.specs.Parts.{part_of, entry, entries, shelf, key_of, vacant, Within}
use Rattle.defines.specs.Entries.{entry_at}

bears_hit : (b : Bool) (m n : ℕ) → bears (cond b (Some m) None) n ≡ cond b (eqb m n) false
bears_hit true m n = refl
bears_hit false m n = refl

pub sought : (kept : List Token) (table : List Define) (i n : ℕ) → place i n (map key_of table) ≡ seek (entries kept table) i n
sought kept [] i n = refl
sought kept (d ∷ ds) i n =
    ap (λ b. cond b (Some i) (place (i + 1) n (map key_of ds))) (bears_hit d.in_force d.name n) ∙ ap (λ r. cond (hit (entry kept d) n) (Some i) r) (sought kept ds (i + 1) n)

module _ (kept : List Token) (table : List Define) (h : ℕ) (d : Define) (e : d ≡ get_or table h vacant) where
  pub meant : (entry kept d).def ≡ mean (shelf kept table) h
  meant = ap (λ x. (entry kept x).def) e ∙ sym (ap (λ x. x.def) (entry_at kept table h))

  pub arity_of : (mark : ℕ) → Within mark table → mark ≤ length kept → d.params.len ≡ length (mean (shelf kept table) h).params
  arity_of mark within m =
      let w = within h in
      let p = (get_or table h vacant).params in
      let long : p.len ≡ length (part_of kept p) = omega (arith, w.0, length-take p.len (drop p.start kept), length-drop p.start kept) in
      ap (λ x. x.params.len) e ∙ long ∙ ap (λ x. length (part_of kept x.params)) (sym e) ∙ ap (λ x. length x.params) meant

get_take : {X : Type 0} (n : ℕ) (xs : List X) (i : ℕ) → i < n → slice_get (take n xs) i ≡ slice_get xs i
get_take zero xs i h = absurd (omega (arith, h))
get_take (suc n) [] i h = refl
get_take (suc n) (x ∷ xs) zero h = refl
get_take (suc n) (x ∷ xs) (suc i) h = get_take n xs i (omega (arith, h))

get_drop : {X : Type 0} (n : ℕ) (xs : List X) (i : ℕ) → slice_get (drop n xs) i ≡ slice_get xs (n + i)
get_drop zero xs i = let z : i ≡ 0 + i = omega arith in ap (slice_get xs) z
get_drop (suc n) [] i = refl
get_drop (suc n) (x ∷ xs) i = let z : suc (n + i) ≡ suc n + i = omega arith in get_drop n xs i ∙ ap (slice_get (x ∷ xs)) z

-- a token of a part
module _ (kept : List Token) (p : Part) (i : ℕ) where
  pub part_get : i < p.len → slice_get (part_of kept p) i ≡ slice_get kept (p.start + i)
  part_get l = get_take p.len (drop p.start kept) i l ∙ get_drop p.start kept i

  pub token_past : length (part_of kept p) ≤ i → None ≡ slice_get (part_of kept p) i
  token_past l = sym (slice_get_past (part_of kept p) i l)

  pub part_len : length (part_of kept p) ≤ p.len
  part_len = omega (arith, length-take p.len (drop p.start kept))

  pub part_rest : length (part_of kept p) ≤ length kept - p.start
  part_rest = omega (arith, length-take p.len (drop p.start kept), length-drop p.start kept)

-- how many are in force
pub live_filter : (kept : List Token) (table : List Define) → length (filter (λ d. d.in_force) table) ≡ live (entries kept table)
live_filter kept [] = refl
live_filter kept (d ∷ ds) = by_force d.in_force (live_filter kept ds)
  where
    by_force : (b : Bool) → length (filter (λ x. x.in_force) ds) ≡ live (entries kept ds) → length (cond b (d ∷ filter (λ x. x.in_force) ds) (filter (λ x. x.in_force) ds)) ≡ cond b 1 0 + live (entries kept ds)
    by_force true e = omega (arith, e)
    by_force false e = omega (arith, e)
