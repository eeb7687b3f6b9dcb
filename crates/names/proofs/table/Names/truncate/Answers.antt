-- The first names alone keep the table in order.
use Rattle.std.proofs.Common.{◌≡◌, ℕ, ◌<◌, List, length, get_or, take, vec_items, sym, ap, ◌∙◌, subst, arith}
use Rattle.std.specs.List.{concat}
use Rattle.tokens.specs.declared.token.Part.{Part}
use Rattle.names.specs.Spans.{listed, Within, Placed, Distinct}
use Rattle.names.proofs.Cuts.{within_cut, listed_cut, joined_cut, placed_cut, distinct_cut}
use Rattle.names.proofs.table.Names.truncate.Goals as goal
use Rattle.names.proofs.table.Names.truncate.Goals.{After-truncate-in-Some}

at : (c : After-truncate-in-Some) → c.args.count < length (vec_items c.self.inside.spans)
at c = omega (arith, c.in-Some.ensures.lookup.3.0, ap length c.deref.ensures.value)

start : (c : After-truncate-in-Some) → c.in-Some.first.now.start ≡ (get_or (vec_items c.self.inside.spans) c.args.count c.in-Some.first.now).start
start c = ap (λ (s : Part). s.start) (c.in-Some.ensures.lookup.1 ∙ ap (λ xs. get_or xs c.args.count c.in-Some.first.now) c.deref.ensures.value)

bytes_now : (c : After-truncate-in-Some) → vec_items c.truncate.new.self ≡ take (get_or (vec_items c.self.inside.spans) c.args.count c.in-Some.first.now).start (vec_items c.self.inside.bytes)
bytes_now c = c.truncate.ensures.items ∙ ap (λ m. take m (vec_items c.self.inside.bytes)) (start c)

listed_now : (c : After-truncate-in-Some) → listed (vec_items c.truncate.new.self) (vec_items c.truncate-in-Some.new.self) ≡ take c.args.count (listed (vec_items c.self.inside.bytes) (vec_items c.self.inside.spans))
listed_now c =
    let p = bytes_now c in
    let q = c.truncate-in-Some.ensures.items in
    (λ i. listed (p i) (q i)) ∙ listed_cut _ _ _ _ c.self.invariant.within c.self.invariant.placed (at c)

pub invariant_of-self : goal.invariant_of-self
invariant_of-self c =
    let p = bytes_now c in
    let q = c.truncate-in-Some.ensures.items in
    let l = listed_now c in
    record {
      few = omega (arith, c.truncate-in-Some.ensures.len, c.self.invariant.few);
      short = omega (arith, c.truncate.ensures.len, c.self.invariant.short);
      roomy = omega (arith, c.truncate.ensures.capacity, c.self.invariant.roomy);
      wide = omega (arith, c.truncate-in-Some.ensures.capacity, c.self.invariant.wide);
      within = subst (λ (x : List ℕ). Within x (vec_items c.truncate-in-Some.new.self)) (sym p) (subst (λ (x : List Part). Within (take (get_or (vec_items c.self.inside.spans) c.args.count c.in-Some.first.now).start (vec_items c.self.inside.bytes)) x) (sym q) (within_cut _ _ _ _ c.self.invariant.within c.self.invariant.placed (at c)));
      joined = ap concat l ∙ joined_cut _ _ _ _ c.self.invariant.within c.self.invariant.placed (at c) c.self.invariant.joined ∙ sym p;
      placed = subst (λ (x : List (List ℕ)). Placed x (vec_items c.truncate-in-Some.new.self)) (sym l) (subst (λ (x : List Part). Placed (take c.args.count (listed (vec_items c.self.inside.bytes) (vec_items c.self.inside.spans))) x) (sym q) (placed_cut _ _ _ c.in-Some.first.now c.self.invariant.within c.self.invariant.placed (at c)));
      distinct = subst Distinct (sym l) (distinct_cut _ c.args.count c.self.invariant.distinct);
    }

pub returns-in-Some : goal.returns-in-Some
returns-in-Some c = listed_now (goal.at.returns-in-Some c).After-truncate-in-Some ∙ ap (take c.args.count) c.self.view_is
