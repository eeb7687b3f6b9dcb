-- A processor only adds to the stores: what it found there is a front of what it leaves.
-- A walk of its own through the cases of meeting: one for both facts would carry two premises and give two answers at every case.
use Rattle.std.proofs.Common.{◌≡◌, ℕ, ◌+◌, ◌-◌, ◌<◌, ◌≤◌, eqb, ltb, [], ◌∷◌, ◌++◌, length, get_or, take, drop, Some, None, Ok, Err, Option, sym, refl, ap, ◌∙◌, subst, arith}
use Rattle.std.proofs.lemmas.Bool.{cond_both}
use borrow.Author.Tests.{eqb-false}
use Rattle.std.proofs.lemmas.List.{length-take, length_push, get_or-take, take_all, take-take, take_at, take-append-le}
use Rattle.tokens.specs.declared.token.Token.{Token}
use Rattle.tokens.specs.declared.location.Location.{Location}
use Rattle.tokens.specs.declared.fault.StepExit.TheVariants.{Error, Continue, Finished}
use Rattle.stores.specs.Tank.{Tank, roomy, whole, shifted}
use Rattle.stores.specs.Idents.{ident_of}
use Rattle.books.specs.Book.{Defs, mean, find}
use Rattle.expansion.specs.declared.delimiter.Delimiter.{Delimiter}
use Rattle.expansion.specs.declared.delimiter.Delimiter.TheVariants.{Open, Close, Comma, Other}
use Rattle.expansion.specs.declared.invocation.Callee.{Callee}
use Rattle.expansion.specs.declared.invocation.Call.{Call}
use Rattle.expansion.specs.declared.invocation.Phase.{Phase}
use Rattle.expansion.specs.declared.invocation.Phase.TheVariants.{Plain, Held, Met, Gather}
use Rattle.expansion.specs.Delimiters.{delimits}
use Rattle.expansion.specs.Processor.{Proc, Answer, phased, lined, idle, lowest, expanding, named}
use Rattle.expansion.specs.Phases.{Out, passed, barred, calling, found, begun, reached, split, parted, waiting, descended, bare, counted, closed, storing, gathered, resumed, filled, returned, finished, by_name, holding, after_name, spent, meeting}
use Rattle.expansion.specs.Sane.{Above, Fronts, Went}
use Rattle.expansion.proofs.Stacks.{pushed}

pub same : (b : ℕ) (t : Tank) → Fronts b t t
same b t = record { working = take_all (length t.working) t.working (omega arith); building = refl }

pub joined : (b : ℕ) (t u v : Tank) → Fronts b t u → Fronts b u v → Fronts b t v
joined b t u v f g =
    let l : length t.working ≤ length u.working = omega (arith, ap length f.working, length-take (length t.working) u.working) in
    record {
      working = sym (take-take (length t.working) (length u.working) v.working l) ∙ ap (take (length t.working)) g.working ∙ f.working;
      building = g.building ∙ f.building;
    }

record Stays (b : ℕ) (t : Tank) (w : Out) : Type 0 where
  above : Above b w.1 w.2
  fronts : Fronts b t w.2
  moves : w.2.moves ≡ t.moves
  budget : w.2.budget ≡ t.budget

module _ (b : ℕ) (t : Tank) where
  -- nothing is stored
  none : (a : Option Answer) (p q : Proc) → Above b p t → q.below ≡ p.below → q.level.start ≡ p.level.start → Stays b t (a, q, t)
  none a p q h e f = record {
    above = record {
      long = h.long;
      here = λ l. subst (λ k. b ≤ k) (sym f) (h.here (subst (λ bs. 0 < length bs) e l));
      deep = λ i o l. subst (λ bs. b ≤ (get_or bs i idle).level.start) (sym e) (h.deep i o (subst (λ bs. i < length bs) e l));
    };
    fronts = same b t;
    moves = refl;
    budget = refl;
  }

  passed_stays : (p : Proc) (x : Token) → Above b p t → Stays b t (passed p t x)
  passed_stays p x h =
      cond_both (eqb (length p.below) 0) _ _ (Stays b t) (λ _. none _ p p h refl refl)
      (λ _. cond_both (roomy t) _ _ (Stays b t)
      (λ _. record {
        above = record { long = omega (arith, h.long, length_push t.building x); here = h.here; deep = h.deep };
        fronts = record { working = (same b t).working; building = take-append-le b t.building (x ∷ []) h.long };
        moves = refl;
        budget = refl;
      })
      (λ _. none _ p p h refl refl))

  begun_stays : (d : Defs) (p : Proc) (x : Token) (n : ℕ) → Above b p t → Stays b t (begun d p t x n)
  begun_stays d p x n h = cond_both (barred p.uses n) _ _ (Stays b t) (λ _. passed_stays p x h) (λ _. at (find d n))
    where
      go : (c : Callee) (q : Proc) → q.below ≡ p.below → q.level.start ≡ p.level.start → Stays b t (calling d q t c)
      go c q e f = cond_both (mean d c.handle).function _ _ (Stays b t) (λ _. none _ p _ h e f) (λ _. none _ p _ h e f)

      at : (o : Option ℕ) → Stays b t (found o d p t x n)
      at None = passed_stays p x h
      at (Some k) =
          let c : Callee = record { name = n; handle = k; location = x.location } in
          cond_both (expanding p) p (lined p x.location.line) (λ (q : Proc). Stays b t (calling d q t c)) (λ _. go c p refl refl) (λ _. go c (lined p x.location.line) refl refl)

  descended_stays : (p : Proc) (c : Call) (i : ℕ) → Above b p t → Stays b t (descended p t c i)
  descended_stays p c i h =
      cond_both (ltb (length p.below) 16) _ _ (Stays b t)
      (λ _. record { above = record { long = h.long; here = λ _. h.long; deep = deeper }; fronts = same b t; moves = refl; budget = refl })
      (λ _. none _ p p h refl refl)
    where
      deeper : (j : ℕ) → 0 < j → j < length (p.below ++ waiting p c i ∷ []) → b ≤ (get_or (p.below ++ waiting p c i ∷ []) j idle).level.start
      deeper j o l = pushed p.below (waiting p c i) idle (λ x. b ≤ x.level.start) j l (h.deep j o) (λ k. h.here (omega arith))

  counted_stays : (p : Proc) (c : Call) (a : ℕ) → Above b p t → Stays b t (counted p t c a)
  counted_stays p c a h =
      cond_both (ltb a c.count) _ _ (Stays b t)
      (λ _. cond_both (bare p c a) _ _ (Stays b t) (λ _. descended_stays p c 0 h) (λ _. none _ p p h refl refl))
      (λ _. cond_both (ltb c.count a) _ _ (Stays b t) (λ _. none _ p p h refl refl) (λ _. descended_stays p c 0 h))

  closed_stays : (d : Defs) (p : Proc) (c : Call) (l : Location) → Above b p t → Stays b t (closed d p t c l)
  closed_stays d p c l h =
      let q = parted p c (length t.working) in
      let s = split c l (length t.working) in
      let a = length (mean d c.callee.handle).params in
      let k : Above b q t = record { long = h.long; here = h.here; deep = h.deep } in
      let j : Above b (lined q l.line) t = record { long = h.long; here = h.here; deep = h.deep } in
      cond_both (expanding q) q (lined q l.line) (λ (q : Proc). Stays b t (counted q t s a)) (λ _. counted_stays q s a k) (λ _. counted_stays (lined q l.line) s a j)

  storing_stays : (p : Proc) (c : Call) (x : Token) → Above b p t → Stays b t (storing p t c x)
  storing_stays p c x h =
      cond_both (roomy t) _ _ (Stays b t)
      (λ _. record {
        above = record { long = h.long; here = h.here; deep = h.deep };
        fronts = record { working = take_at t.working (x ∷ []) (length t.working) refl; building = refl };
        moves = refl;
        budget = refl;
      })
      (λ _. none _ p p h refl refl)

  gathered_stays : (v : Delimiter) (d : Defs) (p : Proc) (c : Call) (x : Token) → Above b p t → Stays b t (gathered v d p t c x)
  gathered_stays Other d p c x h = storing_stays p (reached c c.nesting x.location) x h
  gathered_stays Open d p c x h =
      cond_both (ltb c.nesting 4294967295) _ _ (Stays b t) (λ _. storing_stays p (reached c (c.nesting + 1) x.location) x h) (λ _. none _ p p h refl refl)
  gathered_stays Close d p c x h =
      cond_both (eqb c.nesting 0) _ _ (Stays b t) (λ _. closed_stays d p c x.location h) (λ _. storing_stays p (reached c (c.nesting - 1) x.location) x h)
  gathered_stays Comma d p c x h =
      cond_both (eqb c.nesting 0) _ _ (Stays b t) (λ _. none _ p _ h refl refl) (λ _. storing_stays p (reached c c.nesting x.location) x h)

  holding_stays : (p : Proc) (q : Callee) (a : Answer) → Above b p t → Stays b t (holding p t q a)
  holding_stays p q a h = passed_stays (phased p (Held a)) (named q) (record { long = h.long; here = h.here; deep = h.deep })

returned_stays : (b : ℕ) (p : Proc) (t : Tank) (i : ℕ) (c : Call) → Above b p t → Stays b t (returned p t i c)
returned_stays b p t i c h = cond_both (ltb (i + 1) c.count) _ _ (Stays b t) (λ _. descended_stays b t p c (i + 1) h) (λ _. none b t _ p _ h refl refl)

finished_stays : (b : ℕ) (p : Proc) (t : Tank) → Above b p t → Stays b t (finished p t)
finished_stays b p t h =
    cond_both (eqb (length p.below) 0) _ _ (Stays b t) (λ _. none b t _ p p h refl refl)
    (λ e.
    let o : 0 < length p.below = omega (arith, eqb-false _ 0 e) in
    let q = lowest p.below in
    let w = returned_stays b (filled (resumed p q) q.next (whole p.level.start t)) (shifted t p.level.start) q.next q.call (up o) in
    record { above = w.above; fronts = joined b t (shifted t p.level.start) _ (moved o) w.fronts; moves = w.moves; budget = w.budget })
  where
    moved : 0 < length p.below → Fronts b t (shifted t p.level.start)
    moved o = record {
      working = take_at t.working (drop p.level.start t.building) (length t.working) refl;
      building = take-take b p.level.start t.building (h.here o);
    }

    up : 0 < length p.below → Above b (filled (resumed p (lowest p.below)) (lowest p.below).next (whole p.level.start t)) (shifted t p.level.start)
    up o = record {
      long = omega (arith, length-take p.level.start t.building, h.long, h.here o);
      here = λ l. h.deep (length p.below - 1) (omega (arith, l, length-take (length p.below - 1) p.below)) (omega arith);
      deep = λ i z l.
          let s : i < length p.below - 1 = omega (arith, l, length-take (length p.below - 1) p.below) in
          subst (λ x. b ≤ x.level.start) (sym (get_or-take (length p.below - 1) p.below i idle s)) (h.deep i z (omega arith));
    }

meeting_stays : (b : ℕ) (f : Phase) (a : Answer) (d : Defs) (p : Proc) (t : Tank) → Above b p t → Stays b t (meeting f a d p t)
meeting_stays b Plain (Ok x) d p t h = by (ident_of x)
  where
    by : (y : Option ℕ) → Stays b t (by_name y d p t x)
    by (Some n) = begun_stays b t d p x n h
    by None = passed_stays b t p x h
meeting_stays b Plain (Err Continue) d p t h = none b t _ p p h refl refl
meeting_stays b Plain (Err Finished) d p t h = finished_stays b p t h
meeting_stays b Plain (Err (Error f)) d p t h = none b t _ p p h refl refl
meeting_stays b (Held a) s d p t h = none b t _ p p h refl refl
meeting_stays b (Met q) (Ok x) d p t h = by (delimits x.value)
  where
    by : (y : Delimiter) → Stays b t (after_name y p t q x)
    by Open = none b t _ p _ h refl refl
    by Close = holding_stays b t p q (Ok x) h
    by Comma = holding_stays b t p q (Ok x) h
    by Other = holding_stays b t p q (Ok x) h
meeting_stays b (Met q) (Err Continue) d p t h = none b t _ p p h refl refl
meeting_stays b (Met q) (Err Finished) d p t h = holding_stays b t p q (Err Finished) h
meeting_stays b (Met q) (Err (Error f)) d p t h = cond_both (spent f.error) _ _ (Stays b t) (λ _. none b t _ p p h refl refl) (λ _. holding_stays b t p q (Err (Error f)) h)
meeting_stays b (Gather c) (Ok x) d p t h = gathered_stays b t (delimits x.value) d p c x h
meeting_stays b (Gather c) (Err Continue) d p t h = none b t _ p p h refl refl
meeting_stays b (Gather c) (Err Finished) d p t h = none b t _ p p h refl refl
meeting_stays b (Gather c) (Err (Error f)) d p t h = none b t _ p p h refl refl

-- every level builds above nothing
ground : (p : Proc) (t : Tank) → Above 0 p t
ground p t = record { long = omega arith; here = λ _. omega arith; deep = λ _ _ _. omega arith }

staying : (p : Proc) (t : Tank) (w : Out) → ((b : ℕ) → Above b p t → Stays b t w) → Went p t w.1 w.2
staying p t w f =
    let s = f 0 (ground p t) in
    record { moves = omega (arith, s.moves); budget = s.budget; keeps = λ b h. let k = f b h in record { above = k.above; fronts = k.fronts } }

pub meeting_went : (f : Phase) (a : Answer) (d : Defs) (p : Proc) (t : Tank) → Went p t (meeting f a d p t).1 (meeting f a d p t).2
meeting_went f a d p t = staying p t (meeting f a d p t) (λ b h. meeting_stays b f a d p t h)

pub begun_went : (d : Defs) (p : Proc) (t : Tank) (x : Token) (n : ℕ) → Went p t (begun d p t x n).1 (begun d p t x n).2
begun_went d p t x n = staying p t (begun d p t x n) (λ b h. begun_stays b t d p x n h)

-- nothing is stored, and the levels stay
pub still : (p q : Proc) (t : Tank) → q.below ≡ p.below → q.level.start ≡ p.level.start → Went p t q t
still p q t e f = staying p t (None, q, t) (λ b h. none b t None p q h e f)

pub went_on : (p : Proc) (t : Tank) (q : Proc) (u : Tank) (r : Proc) (v : Tank) → Went p t q u → Went q u r v → Went p t r v
went_on p t q u r v f g = record {
  moves = omega (arith, f.moves, g.moves);
  budget = g.budget ∙ f.budget;
  keeps = λ b h. let k = f.keeps b h in let j = g.keeps b k.above in record { above = j.above; fronts = joined b t u v k.fronts j.fronts };
}
