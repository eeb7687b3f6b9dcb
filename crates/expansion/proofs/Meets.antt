-- What a phase makes of a step keeps the invariant.
-- A walk of its own through the cases of meeting: one for both facts would carry two premises and give two answers at every case.
use Rattle.std.proofs.Common.{◌≡◌, ℕ, ◌+◌, ◌-◌, ◌<◌, false, eqb, ltb, length, take, Some, None, Ok, Err, Option, refl, inl, arith}
use Rattle.std.proofs.lemmas.Bool.{cond_both}
use borrow.Author.Tests.{eqb-false}
use Rattle.tokens.specs.declared.token.Token.{Token}
use Rattle.tokens.specs.declared.location.Location.{Location}
use Rattle.tokens.specs.declared.fault.StepExit.TheVariants.{Error, Continue, Finished}
use Rattle.stores.specs.Tank.{Tank, roomy, whole, shifted}
use Rattle.stores.specs.Idents.{ident_of}
use Rattle.books.specs.Book.{Defs, mean, find}
use Rattle.books.specs.Books.{found as finds}
use Rattle.expansion.specs.declared.delimiter.Delimiter.{Delimiter}
use Rattle.expansion.specs.declared.delimiter.Delimiter.TheVariants.{Open, Close, Comma, Other}
use Rattle.expansion.specs.declared.invocation.Callee.{Callee}
use Rattle.expansion.specs.declared.invocation.Call.{Call}
use Rattle.expansion.specs.declared.invocation.Phase.{Phase}
use Rattle.expansion.specs.declared.invocation.Phase.TheVariants.{Plain, Held, Met, Gather}
use Rattle.expansion.specs.Delimiters.{delimits}
use Rattle.expansion.specs.Processor.{Proc, Answer, phased, lined, lowest, expanding, named}
use Rattle.expansion.specs.Phases.{Out, entered, passed, barred, calling, found, begun, reached, split, parted, waiting, descended, bare, counted, closed, storing, gathered, resumed, filled, returned, finished, by_name, holding, after_name, spent, meeting}
use Rattle.expansion.specs.Sane.{FreeOf, Sane, Waits, Holds}
use Rattle.expansion.proofs.Stacks.{unbarred, found_has, entered_sane, waiting_sane, resumed_sane, resumed_free}

module _ (d : Defs) where
  abbrev Good : Out → Type 0
  Good w = Holds d w.1

  entered_holds : (p : Proc) (q : Callee) (k : ℕ) → Sane d p.uses p.below → FreeOf d p.uses q → Holds d (entered p q k).1
  entered_holds p q k s f = (entered_sane d p.uses p.below (record { name = q.name; handle = q.handle; at = 0; reading = None }) s f, tt)

  passed_holds : (p : Proc) (t : Tank) (x : Token) → Holds d p → Good (passed p t x)
  passed_holds p t x w = cond_both (eqb (length p.below) 0) _ _ Good (λ _. w) (λ _. cond_both (roomy t) _ _ Good (λ _. w) (λ _. w))

  pub begun_holds : (p : Proc) (t : Tank) (x : Token) (n : ℕ) → Holds d p → Good (begun d p t x n)
  begun_holds p t x n w = cond_both (barred p.uses n) _ _ Good (λ _. passed_holds p t x w) (λ b. at b (find d n) refl)
    where
      go : (c : Callee) (q : Proc) → Sane d q.uses q.below → FreeOf d q.uses c → Good (calling d q t c)
      go c q s f = cond_both (mean d c.handle).function _ _ Good (λ _. (s, f)) (λ _. entered_holds q c 0 s f)

      at : barred p.uses n ≡ false → (o : Option ℕ) → find d n ≡ o → Good (found o d p t x n)
      at b None e = passed_holds p t x w
      at b (Some h) e =
          let v = finds d n h e in
          let c : Callee = record { name = n; handle = h; location = x.location } in
          let f : FreeOf d p.uses c = record { bears = record { known = v.0; named = v.1 }; free = unbarred p.uses n b; force = inl (found_has d.table 0 n h e) } in
          cond_both (expanding p) p (lined p x.location.line) (λ (q : Proc). Good (calling d q t c)) (λ _. go c p w.0 f) (λ _. go c (lined p x.location.line) w.0 f)

  descended_holds : (p : Proc) (t : Tank) (c : Call) (i : ℕ) → Holds d p → FreeOf d p.uses c.callee → Good (descended p t c i)
  descended_holds p t c i w f =
      cond_both (ltb (length p.below) 16) _ _ Good (λ _. (waiting_sane d p.uses p.below (waiting p c i) refl w.0 f, tt)) (λ _. w)

  counted_holds : (p : Proc) (t : Tank) (c : Call) (a : ℕ) → Holds d p → FreeOf d p.uses c.callee → Good (counted p t c a)
  counted_holds p t c a w f =
      cond_both (ltb a c.count) _ _ Good
      (λ _. cond_both (bare p c a) _ _ Good (λ _. descended_holds p t c 0 w f) (λ _. w))
      (λ _. cond_both (ltb c.count a) _ _ Good (λ _. w) (λ _. descended_holds p t c 0 w f))

  closed_holds : (p : Proc) (t : Tank) (c : Call) (l : Location) → Holds d p → FreeOf d p.uses c.callee → Good (closed d p t c l)
  closed_holds p t c l w f =
      let q = parted p c (length t.working) in
      let s = split c l (length t.working) in
      let a = length (mean d c.callee.handle).params in
      cond_both (expanding q) q (lined q l.line) (λ (q : Proc). Good (counted q t s a)) (λ _. counted_holds q t s a w f) (λ _. counted_holds (lined q l.line) t s a w f)

  storing_holds : (p : Proc) (t : Tank) (c : Call) (x : Token) → Holds d p → FreeOf d p.uses c.callee → Good (storing p t c x)
  storing_holds p t c x w f = cond_both (roomy t) _ _ Good (λ _. (w.0, f)) (λ _. w)

  gathered_holds : (v : Delimiter) (p : Proc) (t : Tank) (c : Call) (x : Token) → Holds d p → FreeOf d p.uses c.callee → Good (gathered v d p t c x)
  gathered_holds Other p t c x w f = storing_holds p t (reached c c.nesting x.location) x w f
  gathered_holds Open p t c x w f =
      cond_both (ltb c.nesting 4294967295) _ _ Good (λ _. storing_holds p t (reached c (c.nesting + 1) x.location) x w f) (λ _. w)
  gathered_holds Close p t c x w f =
      cond_both (eqb c.nesting 0) _ _ Good (λ _. closed_holds p t c x.location w f) (λ _. storing_holds p t (reached c (c.nesting - 1) x.location) x w f)
  gathered_holds Comma p t c x w f =
      cond_both (eqb c.nesting 0) _ _ Good (λ _. (w.0, f)) (λ _. storing_holds p t (reached c c.nesting x.location) x w f)

  finished_holds : (p : Proc) (t : Tank) → Holds d p → Good (finished p t)
  finished_holds p t w =
      cond_both (eqb (length p.below) 0) _ _ Good (λ _. w)
      (λ b. let o : 0 < length p.below = omega (arith, eqb-false _ 0 b) in back (resumed_sane d p.uses p.below w.0 o) (resumed_free d p.uses p.below w.0 o))
    where
      back : Sane d (take (lowest p.below).end p.uses) (take (length p.below - 1) p.below) → FreeOf d (take (lowest p.below).end p.uses) (lowest p.below).call.callee → Good (returned (filled (resumed p (lowest p.below)) (lowest p.below).next (whole p.level.start t)) (shifted t p.level.start) (lowest p.below).next (lowest p.below).call)
      back s f =
          let q = filled (resumed p (lowest p.below)) (lowest p.below).next (whole p.level.start t) in
          let c = (lowest p.below).call in
          cond_both (ltb ((lowest p.below).next + 1) c.count) _ _ Good
          (λ _. descended_holds q (shifted t p.level.start) c ((lowest p.below).next + 1) (s, tt) f)
          (λ _. entered_holds q c.callee c.count s f)

  holding_holds : (p : Proc) (t : Tank) (q : Callee) (a : Answer) → Holds d p → Good (holding p t q a)
  holding_holds p t q a w = passed_holds (phased p (Held a)) t (named q) (w.0, tt)

  pub meeting_holds : (f : Phase) (a : Answer) (p : Proc) (t : Tank) → Holds d p → Waits d p.uses f → Good (meeting f a d p t)
  meeting_holds Plain (Ok x) p t w v = by (ident_of x)
    where
      by : (y : Option ℕ) → Good (by_name y d p t x)
      by (Some n) = begun_holds p t x n w
      by None = passed_holds p t x w
  meeting_holds Plain (Err Continue) p t w v = w
  meeting_holds Plain (Err Finished) p t w v = finished_holds p t w
  meeting_holds Plain (Err (Error f)) p t w v = w
  meeting_holds (Held a) s p t w v = w
  meeting_holds (Met q) (Ok x) p t w v = by (delimits x.value)
    where
      by : (y : Delimiter) → Good (after_name y p t q x)
      by Open = (w.0, v)
      by Close = holding_holds p t q (Ok x) w
      by Comma = holding_holds p t q (Ok x) w
      by Other = holding_holds p t q (Ok x) w
  meeting_holds (Met q) (Err Continue) p t w v = w
  meeting_holds (Met q) (Err Finished) p t w v = holding_holds p t q (Err Finished) w
  meeting_holds (Met q) (Err (Error f)) p t w v = cond_both (spent f.error) _ _ Good (λ _. w) (λ _. holding_holds p t q (Err (Error f)) w)
  meeting_holds (Gather c) (Ok x) p t w v = gathered_holds (delimits x.value) p t c x w v
  meeting_holds (Gather c) (Err Continue) p t w v = w
  meeting_holds (Gather c) (Err Finished) p t w v = w
  meeting_holds (Gather c) (Err (Error f)) p t w v = w
