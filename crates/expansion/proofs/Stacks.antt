-- The invariant under each change of the uses, of the waiting calls and of the book.
use Rattle.std.proofs.Common.{◌≡◌, ℕ, ◌+◌, ◌-◌, ◌<◌, ◌≤◌, true, false, eqb, List, [], ◌∷◌, ◌++◌, length, get_or, take, Some, sym, ap, ◌∙◌, subst, inl, inr, ⊎_elim, arith}
use Rattle.std.proofs.lemmas.List.{length-set, length-take, get_or-set_same, get_or-set_other, get_or-take, length_push, get_or_push, get_or_append_left}
use Rattle.std.proofs.lemmas.Grind.{common_steps}
use Rattle.std.proofs.lemmas.List.Folds.{list_any_at}
use Rattle.std.proofs.str.Laws.{order}
use Rattle.expansion.specs.declared.invocation.DefineInvocation.{DefineInvocation}
use Rattle.expansion.specs.declared.invocation.Callee.{Callee}
use Rattle.expansion.specs.declared.invocation.Pending.{Pending}
use Rattle.expansion.specs.declared.invocation.Phase.{Phase}
use Rattle.expansion.specs.declared.invocation.Phase.TheVariants.{Plain, Held, Met, Gather}
use Rattle.books.specs.Book.{Entry, Defs, mean, seek, has, InForce, Grown, Kept}
use Rattle.expansion.specs.Processor.{Proc, blank, idle, top, lowest}
use Rattle.expansion.specs.Phases.{barred, topped}
use Rattle.expansion.specs.Sane.{Bears, Free, FreeOf, Sane, Waits, Holds}

-- a name that is not barred is that of no use
pub unbarred : (us : List DefineInvocation) (n : ℕ) → barred us n ≡ false → (i : ℕ) → i < length us → (get_or us i blank).name ≡ n → ⊥
unbarred us n b i h e = grind (arith, common_steps, list_any_at (λ u. eqb u.name n) us i blank h)

-- a name that is found is in force
pub found_has : (es : List Entry) (i n h : ℕ) → seek es i n ≡ Some h → has es n ≡ true
found_has [] i n h e = let z : ◌≡◌ {A = ℕ} 0 1 = cc in absurd (omega arith)
found_has (x ∷ xs) i n h e = grind (arith, common_steps, found_has xs (i + 1) n h)

-- each use of the second list stands at the same place of the first, but for how far it is read
pub record Covers (us vs : List DefineInvocation) : Type 0 where
  pub shorter : length vs ≤ length us
  pub names : (i : ℕ) → i < length vs → (get_or vs i blank).name ≡ (get_or us i blank).name
  pub handles : (i : ℕ) → i < length vs → (get_or vs i blank).handle ≡ (get_or us i blank).handle

pub covers_top : (us : List DefineInvocation) (u : DefineInvocation) → u.name ≡ (top us).name → u.handle ≡ (top us).handle → Covers us (topped us u)
covers_top us u e f =
    record {
      shorter = omega (arith, length-set us (length us - 1) u);
      names = λ i l. at (λ x. x.name) e i (omega (arith, l, length-set us (length us - 1) u));
      handles = λ i l. at (λ x. x.handle) f i (omega (arith, l, length-set us (length us - 1) u));
    }
  where
    at : (g : DefineInvocation → ℕ) → g u ≡ g (top us) → (i : ℕ) → i < length us → g (get_or (topped us u) i blank) ≡ g (get_or us i blank)
    at g w i l = grind (arith, common_steps, get_or-set_same us (length us - 1) u blank, get_or-set_other us (length us - 1) i u blank)

pub covers_take : (us : List DefineInvocation) (k : ℕ) → Covers us (take k us)
covers_take us k =
    record {
      shorter = omega (arith, length-take k us);
      names = λ i l. let s : i < k = omega (arith, l, length-take k us) in ap (λ x. x.name) (get_or-take k us i blank s);
      handles = λ i l. let s : i < k = omega (arith, l, length-take k us) in ap (λ x. x.handle) (get_or-take k us i blank s);
    }

module _ (d : Defs) (us vs : List DefineInvocation) (c : Covers us vs) where
  covered_free : (e h n : ℕ) → e ≤ length vs → Free d us e h n → Free d vs e h n
  covered_free e h n w f = record {
    bears = f.bears;
    free = λ i l s. f.free i l (sym (c.names i (omega arith)) ∙ s);
    force = f.force;
  }

  pub covered : (bs : List Pending) → ((i : ℕ) → i < length bs → (get_or bs i idle).end ≤ length vs) → Sane d us bs → Sane d vs bs
  covered bs w s = record {
    apart = λ i j lt l e. s.apart i j lt (omega (arith, c.shorter)) (sym (c.names i (omega arith)) ∙ e ∙ c.names j l);
    bears = λ i l. let v = s.bears i (omega (arith, c.shorter)) in record {
      known = subst (λ k. k < length d.table) (sym (c.handles i l)) v.known;
      named = ap (λ k. (mean d k).name) (c.handles i l) ∙ v.named ∙ sym (c.names i l);
    };
    force = λ i z l. subst (λ k. InForce d k) (sym (c.names i l)) (s.force i z (omega (arith, c.shorter)));
    calls = λ i l. covered_free _ _ _ (w i l) (s.calls i l);
    within = w;
    rising = s.rising;
  }

  covered_of : (q : Callee) → FreeOf d us q → FreeOf d vs q
  covered_of q f = record {
    bears = f.bears;
    free = λ i l s. f.free i (omega (arith, c.shorter)) (sym (c.names i l) ∙ s);
    force = ⊎_elim (λ x. inl x) (λ x. inr (omega (arith, c.shorter, x))) f.force;
  }

  pub covered_waits : (f : Phase) → Waits d us f → Waits d vs f
  covered_waits Plain w = w
  covered_waits (Held a) w = w
  covered_waits (Met q) w = covered_of q w
  covered_waits (Gather q) w = covered_of q.callee w

grown_bears : (d e : Defs) (h n : ℕ) → Grown d e → Bears d h n → Bears e h n
grown_bears d e h n g b = let k = g h b.known in record { known = k.0; named = ap (λ x. x.name) k.1 ∙ b.named }

-- the book changes while nothing is in expansion and nothing waits: any step of the feed
module _ (d e : Defs) (us : List DefineInvocation) (z : length us ≡ 0) where
  pub clear : (bs : List Pending) → length bs ≡ 0 → Sane e us bs
  clear bs y = record {
    apart = λ i j lt l s. absurd (omega arith);
    bears = λ i l. absurd (omega arith);
    force = λ i o l. absurd (omega arith);
    calls = λ i l. absurd (omega arith);
    within = λ i l. absurd (omega arith);
    rising = λ i j lt l. absurd (omega arith);
  }

-- the book changes by a host definition, at any moment: handles keep their meaning, names in force stay in force
module _ (d e : Defs) (us : List DefineInvocation) (g : Grown d e) (k : Kept d e) where
  host_free : (t h n : ℕ) → Free d us t h n → Free e us t h n
  host_free t h n f = record { bears = grown_bears d e h n g f.bears; free = f.free; force = ⊎_elim (λ x. inl (k n x)) (λ x. inr x) f.force }

  host_sane : (bs : List Pending) → Sane d us bs → Sane e us bs
  host_sane bs s = record {
    apart = s.apart;
    bears = λ i l. grown_bears d e _ _ g (s.bears i l);
    force = λ i o l. k _ (s.force i o l);
    calls = λ i l. host_free _ _ _ (s.calls i l);
    within = s.within;
    rising = s.rising;
  }

  host_waits : (f : Phase) → Waits d us f → Waits e us f
  host_waits Plain w = w
  host_waits (Held a) w = w
  host_waits (Met q) w = host_free _ _ _ w
  host_waits (Gather q) w = host_free _ _ _ w

pub host_holds : (d e : Defs) (p : Proc) → Grown d e → Kept d e → Holds d p → Holds e p
host_holds d e p g k h = (host_sane d e p.uses g k p.below h.0, host_waits d e p.uses g k p.phase h.1)

-- what holds of each element, and of the one that is pushed
pub pushed : {X : Type 0} (xs : List X) (x d : X) (P : X → Type 0) (i : ℕ) → i < length (xs ++ x ∷ []) → (i < length xs → P (get_or xs i d)) → (i ≡ length xs → P x) → P (get_or (xs ++ x ∷ []) i d)
pushed xs x d P i l f g =
    ⊎_elim (λ inside. subst P (sym (get_or_append_left xs (x ∷ []) d i inside)) (f inside))
    (λ last. let k : length xs ≡ i = omega (arith, length_push xs x) in subst P (sym (get_or_push xs x d i k)) (g (sym k)))
    (order i (length xs))

-- a call that may be entered is entered
pub entered_sane : (d : Defs) (us : List DefineInvocation) (bs : List Pending) (u : DefineInvocation) → Sane d us bs → Free d us (length us) u.handle u.name → Sane d (us ++ u ∷ []) bs
entered_sane d us bs u s f =
    record {
      apart = λ i j lt l e.
          pushed us u blank (λ x. (get_or us i blank).name ≡ x.name → ⊥) j l (s.apart i j lt) (λ k. f.free i (omega arith))
          (old i (omega (arith, length_push us u)) ∙ e);
      bears = λ i l. pushed us u blank (λ x. Bears d x.handle x.name) i l (s.bears i) (λ _. f.bears);
      force = λ i o l. pushed us u blank (λ x. InForce d x.name) i l (s.force i o) (λ k. ⊎_elim (λ x. x) (λ x. absurd (omega arith)) f.force);
      calls = λ i l. let c = s.calls i l in record {
        bears = c.bears;
        free = λ j w e. c.free j w (old j (omega (arith, w, s.within i l)) ∙ e);
        force = c.force;
      };
      within = λ i l. omega (arith, s.within i l, length_push us u);
      rising = s.rising;
    }
  where
    old : (i : ℕ) → i < length us → (get_or us i blank).name ≡ (get_or (us ++ u ∷ []) i blank).name
    old i l = ap (λ x. x.name) (sym (get_or_append_left us (u ∷ []) blank i l))

-- a call waits above all uses while its argument is expanded
pub waiting_sane : (d : Defs) (us : List DefineInvocation) (bs : List Pending) (q : Pending) → q.end ≡ length us → Sane d us bs → FreeOf d us q.call.callee → Sane d us (bs ++ q ∷ [])
waiting_sane d us bs q t s f = record {
  apart = s.apart;
  bears = s.bears;
  force = s.force;
  calls = λ i l.
      pushed bs q idle (λ x. Free d us x.end x.call.callee.handle x.call.callee.name) i l (s.calls i)
      (λ _. subst (λ e. Free d us e q.call.callee.handle q.call.callee.name) (sym t) f);
  within = λ i l. pushed bs q idle (λ x. x.end ≤ length us) i l (s.within i) (λ _. omega arith);
  rising = λ i j lt l.
      let a = ap (λ x. x.end) (get_or_append_left bs (q ∷ []) idle i (omega (arith, length_push bs q))) in
      pushed bs q idle (λ x. (get_or (bs ++ q ∷ []) i idle).end ≤ x.end) j l (λ inside. omega (arith, a, s.rising i j lt inside))
      (λ k. omega (arith, a, s.within i (omega arith), t));
}

-- the lowest waiting call goes on: all above it is left
module _ (d : Defs) (us : List DefineInvocation) (bs : List Pending) (s : Sane d us bs) (o : 0 < length bs) where
  bs' : List Pending
  bs' = take (length bs - 1) bs

  us' : List DefineInvocation
  us' = take (lowest bs).end us

  long : length us' ≡ (lowest bs).end
  unfolding us'
  long = omega (arith, length-take (lowest bs).end us, s.within (length bs - 1) (omega arith))

  old : (i : ℕ) → i < length bs' → get_or bs' i idle ≡ get_or bs i idle
  unfolding bs'
  old i l = get_or-take (length bs - 1) bs i idle (omega (arith, l, length-take (length bs - 1) bs))

  few : (i : ℕ) → i < length bs' → i < length bs - 1
  unfolding bs'
  few i l = omega (arith, l, length-take (length bs - 1) bs)

  cut : Sane d us bs'
  cut = record {
    apart = s.apart;
    bears = s.bears;
    force = s.force;
    calls = λ i l. subst (λ x. Free d us x.end x.call.callee.handle x.call.callee.name) (sym (old i l)) (s.calls i (omega (arith, few i l)));
    within = λ i l. subst (λ x. x.end ≤ length us) (sym (old i l)) (s.within i (omega (arith, few i l)));
    rising = λ i j lt l. let a = ap (λ x. x.end) (old i (omega arith)) in let b = ap (λ x. x.end) (old j l) in omega (arith, a, b, s.rising i j lt (omega (arith, few j l)));
  }

  pub resumed_sane : Sane d (take (lowest bs).end us) (take (length bs - 1) bs)
  unfolding bs' us'
  resumed_sane =
      covered d us us' (covers_take us (lowest bs).end) bs'
      (λ i l. let a = ap (λ x. x.end) (old i l) in omega (arith, a, long, s.rising i (length bs - 1) (few i l) (omega arith))) cut

  pub resumed_free : FreeOf d (take (lowest bs).end us) (lowest bs).call.callee
  unfolding bs' us'
  resumed_free =
      let f = s.calls (length bs - 1) (omega arith) in
      record {
        bears = f.bears;
        free = λ i l e. f.free i (omega (arith, l, long)) (sym ((covers_take us (lowest bs).end).names i l) ∙ e);
        force = ⊎_elim (λ x. inl x) (λ x. inr (omega (arith, x, long))) f.force;
      }
