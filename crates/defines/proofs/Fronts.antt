-- A book has only the tokens below the mark.
use Rattle.std.proofs.Common.{◌≡◌, ℕ, suc, ◌+◌, ◌-◌, ◌≤◌, Bool, true, false, cond, List, [], ◌∷◌, ◌++◌, length, take, drop, sym, refl, ap, ◌∙◌, arith}
use Rattle.std.proofs.lemmas.List.{drop-take, take-take, take-append-le, take_rest}
use Rattle.tokens.specs.declared.token.Token.{Token}
use Rattle.tokens.specs.declared.token.Part.{Part}
use Rattle.defines.specs.declared.define.Define.{Define}
use Rattle.defines.specs.Parts.{part_of, entry, entries, shelf, Lies, Within}

module _ (k : List Token) (mark : ℕ) where
  pub part_front : (p : Part) → p.start + p.len ≤ mark → part_of k p ≡ part_of (take mark k) p
  part_front p h =
      let rest : p.start + (mark - p.start) ≡ mark = omega arith in
      let cut : drop p.start (take mark k) ≡ take (mark - p.start) (drop p.start k) = ap (λ m. drop p.start (take m k)) (sym rest) ∙ drop-take p.start (mark - p.start) k in
      sym (ap (take p.len) cut ∙ take-take p.len (mark - p.start) (drop p.start k) (omega arith))

  entry_front : (d : Define) → Lies mark d → entry k d ≡ entry (take mark k) d
  entry_front d w =
      let front = take mark k in
      ap (λ ps. record { def = record { name = d.name; function = d.function_like; params = ps; body = part_of k d.tokens }; live = d.in_force }) (part_front d.params w.0) ∙ ap (λ b. record { def = record { name = d.name; function = d.function_like; params = part_of front d.params; body = b }; live = d.in_force }) (part_front d.tokens w.2)

  entries_front : (table : List Define) → Within mark table → entries k table ≡ entries (take mark k) table
  entries_front [] w = refl
  entries_front (d ∷ ds) w =
      ap (λ e. e ∷ entries k ds) (entry_front d (w 0)) ∙ ap (λ es. entry (take mark k) d ∷ es) (entries_front ds (λ j. w (suc j)))

  module _ (table : List Define) (within : Within mark table) (k' : List Token) where
    -- what lies past the mark is dropped
    pub same_cut : k' ≡ take mark k → shelf k' table ≡ shelf k table
    same_cut e = ap (λ x. shelf x table) e ∙ ap (λ es. record { table = es }) (sym (entries_front table within))

-- one more token past the mark
pub same_pushed : (k : List Token) (mark : ℕ) (table : List Define) (x : Token) (k' : List Token) → Within mark table → mark ≤ length k → k' ≡ k ++ x ∷ [] → shelf k' table ≡ shelf k table
same_pushed k mark table x k' within h e =
    let front : take mark k' ≡ take mark k = ap (take mark) e ∙ take-append-le mark k (x ∷ []) h in
    ap (λ es. record { table = es }) (entries_front k' mark table within ∙ ap (λ l. entries l table) front ∙ sym (entries_front k mark table within))

-- the part of all that lies past the mark
pub past_mark : (k : List Token) (n mark : ℕ) → n ≡ length k → part_of k (record { start = mark; len = n - mark }) ≡ drop mark k
past_mark k n mark e = ap (λ m. take (m - mark) (drop mark k)) e ∙ take_rest k mark

-- the same where there may be no room
pub same_kept : (kept : List Token) (mark : ℕ) (table : List Define) (x : Token) (b : Bool) (after : List Token) → Within mark table → mark ≤ length kept → after ≡ cond b (kept ++ x ∷ []) kept → shelf after table ≡ shelf kept table
same_kept kept mark table x true after w l e = same_pushed kept mark table x after w l e
same_kept kept mark table x false after w l e = ap (λ k. shelf k table) e
