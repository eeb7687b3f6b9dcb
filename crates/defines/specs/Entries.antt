-- Definitions as entries of a book, by place.
-- entry_at: the entry at a place; entries_len: how many there are; sound: what the table keeps makes a sound book
use Rattle.std.specs.Prelude.{◌≡◌, ℕ, zero, suc, ◌≤◌, List, [], ◌∷◌, length, get_or, drop, slice_index_or, refl}
use Rattle.std.proofs.Common.{sym, ap, ◌∙◌, arith}
use Rattle.std.proofs.lemmas.List.{length-map, length-take, length-drop}
use Rattle.tokens.specs.declared.token.Token.{Token}
use Rattle.books.specs.Book.{Sound, none}
use Rattle.defines.specs.declared.define.Define.{Define}
use Rattle.defines.specs.Parts.{entry, entries, shelf, vacant, Within, Once}

pub entry_at : (kept : List Token) (table : List Define) (i : ℕ) → slice_index_or (entries kept table) i none ≡ entry kept (slice_index_or table i vacant)
entry_at kept [] i = refl
entry_at kept (d ∷ ds) zero = refl
entry_at kept (d ∷ ds) (suc i) = entry_at kept ds i

module _ (kept : List Token) (table : List Define) where
  pub entries_len : length (entries kept table) ≡ length table
  entries_len = length-map table (entry kept)

  pub sound : (mark : ℕ) → length kept ≤ 2048 → length table ≤ 512 → Within mark table → Once table → Sound (shelf kept table)
  sound mark small few within once =
      record {
        few = omega (arith, entries_len);
        once = λ i j lt l a b e.
            let p = entry_at kept table i in
            let q = entry_at kept table j in
            once i j (record { before = lt; inside = omega (arith, entries_len); first = sym (ap (λ x. x.live) p) ∙ a; second = sym (ap (λ x. x.live) q) ∙ b; same = sym (ap (λ x. x.def.name) p) ∙ e ∙ ap (λ x. x.def.name) q });
        short = λ h.
            let d = get_or table h vacant in
            let z = ap (λ x. length x.def.body) (entry_at kept table h) in
            omega (arith, z, length-take d.tokens.len (drop d.tokens.start kept), length-drop d.tokens.start kept);
        slim = λ h.
            let d = get_or table h vacant in
            let z = ap (λ x. length x.def.params) (entry_at kept table h) in
            let w = within h in
            omega (arith, z, w.1, length-take d.params.len (drop d.params.start kept));
      }
