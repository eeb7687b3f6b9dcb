-- One name more keeps the table in order.
use Rattle.std.proofs.Common.{◌≡◌, ℕ, ◌+◌, ◌<◌, ◌≤◌, true, List, [], ◌∷◌, ◌++◌, length, is_ok, vec_items, vec_len, sym, refl, ap, ◌∙◌, subst, arith}
use Rattle.std.proofs.ResultArms.{chosen}
use Rattle.std.proofs.lemmas.List.{length-map}
use Rattle.std.specs.List.{concat}
use Rattle.tokens.specs.declared.token.Part.{Part}
use Rattle.names.specs.Spans.{spanned, listed, Within, Placed, Distinct}
use Rattle.names.specs.Interning.{seek}
use Rattle.names.proofs.Tables.{within_push, listed_push, concat_push, distinct_push, absent}
use Rattle.names.proofs.Cuts.{placed_push}
use Rattle.names.proofs.table.Names.enter.Goals as goal
use Rattle.names.proofs.table.Names.enter.Goals.{After-push_reserved}

few_spans : (c : After-push_reserved) → vec_len c.self.inside.spans < 1024
few_spans c = omega (arith, ap length c.self.view_is, c.requires.few, length-map (vec_items c.self.inside.spans) (spanned (vec_items c.self.inside.bytes)), c.self.inside.spans.ok.0)

short_bytes : (c : After-push_reserved) → vec_len c.self.inside.bytes + length c.args.bytes.now ≤ 16384
short_bytes c = omega (arith, c.requires.short, ap (λ l. length (concat l)) c.self.view_is, ap length c.self.invariant.joined, c.self.inside.bytes.ok.0)

grown : (c : After-push_reserved) → is_ok c.extend_from_slice.result ≡ true
grown c = c.extend_from_slice.ensures.succeeds (omega (arith, short_bytes c, c.self.invariant.roomy))

bytes_now : (c : After-push_reserved) → vec_items c.extend_from_slice.new.self ≡ vec_items c.self.inside.bytes ++ c.args.bytes.now
bytes_now c = chosen _ _ _ _ c.extend_from_slice.ensures.items (grown c)

listed_now : (c : After-push_reserved) → listed (vec_items c.extend_from_slice.new.self) (vec_items c.push_reserved.new.self) ≡ listed (vec_items c.self.inside.bytes) (vec_items c.self.inside.spans) ++ c.args.bytes.now ∷ []
listed_now c =
    let p = bytes_now c in
    let q = c.push_reserved.ensures.items in
    (λ i. listed (p i) (q i)) ∙ listed_push _ _ _ _ c.self.invariant.within (c.len-start.ensures ∙ c.self.inside.bytes.ok.0) refl

pub invariant_of-self : goal.invariant_of-self
invariant_of-self c =
    let p = bytes_now c in
    let q = c.push_reserved.ensures.items in
    let l = listed_now c in
    let n = chosen _ _ _ _ c.extend_from_slice.ensures.len (grown c) in
    record {
      few = omega (arith, few_spans c, c.push_reserved.ensures.len);
      short = omega (arith, short_bytes c, n);
      roomy = omega (arith, c.extend_from_slice.ensures.capacity, c.self.invariant.roomy);
      wide = omega (arith, c.push_reserved.ensures.capacity, c.self.invariant.wide);
      within = subst (λ (x : List ℕ). Within x (vec_items c.push_reserved.new.self)) (sym p) (subst (λ (x : List Part). Within (vec_items c.self.inside.bytes ++ c.args.bytes.now) x) (sym q) (within_push _ _ _ _ c.self.invariant.within (omega (arith, c.len-start.ensures, c.self.inside.bytes.ok.0))));
      joined = ap concat l ∙ concat_push (listed (vec_items c.self.inside.bytes) (vec_items c.self.inside.spans)) c.args.bytes.now ∙ ap (λ x. x ++ c.args.bytes.now) c.self.invariant.joined ∙ sym p;
      placed = subst (λ (x : List (List ℕ)). Placed x (vec_items c.push_reserved.new.self)) (sym l) (subst (λ (x : List Part). Placed (listed (vec_items c.self.inside.bytes) (vec_items c.self.inside.spans) ++ c.args.bytes.now ∷ []) x) (sym q) (placed_push _ _ _ _ (length-map (vec_items c.self.inside.spans) (spanned (vec_items c.self.inside.bytes))) c.self.invariant.placed (c.len-start.ensures ∙ c.self.inside.bytes.ok.0 ∙ ap length (sym c.self.invariant.joined))));
      distinct = subst Distinct (sym l) (distinct_push _ _ c.self.invariant.distinct (absent 0 _ _ (ap (λ l. seek 0 l c.args.bytes.now) c.self.view_is ∙ c.requires.fresh)));
    }

pub returns : goal.returns
returns c = listed_now (goal.at.returns c).After-push_reserved ∙ ap (λ l. l ++ c.args.bytes.now ∷ []) c.self.view_is
