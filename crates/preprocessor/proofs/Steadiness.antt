-- The facts that a run's type carries are the invariant of its macros in expansion.
use Rattle.std.proofs.Common.{◌≡◌, ℕ, zero, suc, ◌<◌, true, ◌⊎◌, List, length, get_or, vec_items, Some, refl, subst, inl, inr, ⊎_elim, arith}
use Rattle.books.specs.Book.{Defs, has, InForce}
use Rattle.expansion.specs.declared.invocation.DefineInvocation.{DefineInvocation}
use Rattle.expansion.specs.declared.invocation.Callee.{Callee}
use Rattle.expansion.specs.declared.invocation.Pending.{Pending}
use Rattle.expansion.specs.declared.invocation.Phase.{Phase}
use Rattle.expansion.specs.declared.invocation.Phase.TheVariants.{Plain, Held, Met, Gather}
use Rattle.defines.specs.Held.{held}
use Rattle.expansion.specs.Processor.{view, idle}
use Rattle.expansion.specs.Sane.{Free, FreeOf, Sane, Holds, Waits}
use Rattle.preprocessor.specs.declared.state.Preprocessor.{Preprocessor}
use Rattle.preprocessor.specs.Steady.{Apart, Borne, Forced, Within, Rising, Known, Unused, Allowed, CallsKnown, CallsUnused, CallsAllowed, waiting, WaitsKnown, WaitsUnused, WaitsAllowed}

enters : (d : Defs) (us : List DefineInvocation) (e : ℕ) (w : Callee) → Known d w → Unused us e w → Allowed d e w → Free d us e w.handle w.name
enters d us zero w k u a = record { bears = record { known = k.0; named = k.1 }; free = u; force = inr refl }
enters d us (suc e) w k u a = record { bears = record { known = k.0; named = k.1 }; free = u; force = inl (a (omega arith)) }

allows : (d : Defs) (e n : ℕ) → InForce d n ⊎ (e ≡ 0) → 0 < e → has d.table n ≡ true
allows d e n f l = ⊎_elim (λ x. x) (λ x. absurd (omega arith)) f

module _ (d : Defs) (us : List DefineInvocation) (bs : List Pending) where
  sane : Apart us → Borne d us → Forced d us → Within us bs → Rising bs → CallsKnown d bs → CallsUnused us bs → CallsAllowed d bs → Sane d us bs
  sane a b f w r k u l = record {
    apart = λ i j lt i2 e. a i j (record { before = lt; inside = i2; same = e });
    bears = λ i h. record { known = (b i h).0; named = (b i h).1 };
    force = f;
    calls = λ i h. enters d us (get_or bs i idle).end (get_or bs i idle).call.callee (k i h) (u i h) (l i h);
    within = w;
    rising = r;
  }

  waits : (f : Phase) → WaitsKnown d f → WaitsUnused us f → WaitsAllowed d us f → Waits d us f
  waits Plain k u l = tt
  waits (Held a) k u l = tt
  waits (Met w) k u l = enters d us (length us) w (k w refl) (u w refl) (l w refl)
  waits (Gather c) k u l = enters d us (length us) c.callee (k c.callee refl) (u c.callee refl) (l c.callee refl)

  pub steady : (f : Phase) → Apart us → Borne d us → Forced d us → Within us bs → Rising bs → CallsKnown d bs → CallsUnused us bs → CallsAllowed d bs → WaitsKnown d f → WaitsUnused us f → WaitsAllowed d us f → Sane d us bs × Waits d us f
  steady f a b c w r k u l wk wu wl = (sane a b c w r k u l, waits f wk wu wl)

-- the facts, as a run's type has them
pub record Facts (d : Defs) (us : List DefineInvocation) (bs : List Pending) (f : Phase) : Type 0 where
  pub apart : Apart us
  pub borne : Borne d us
  pub forced : Forced d us
  pub within : Within us bs
  pub rising : Rising bs
  pub calls : CallsKnown d bs
  pub unused : CallsUnused us bs
  pub allowed : CallsAllowed d bs
  pub known : WaitsKnown d f
  pub fresh : WaitsUnused us f
  pub force : WaitsAllowed d us f

module _ (d : Defs) (us : List DefineInvocation) (bs : List Pending) where
  some_is : (v w : Callee) → ◌≡◌ (Some v) (Some w) → v ≡ w
  some_is v w e = cc

  free_of : (f : Phase) → Waits d us f → (w : Callee) → waiting f ≡ Some w → FreeOf d us w
  free_of Plain h w e = let z : ◌≡◌ {A = ℕ} 0 1 = cc in absurd (omega arith)
  free_of (Held a) h w e = let z : ◌≡◌ {A = ℕ} 0 1 = cc in absurd (omega arith)
  free_of (Met v) h w e = subst (FreeOf d us) (some_is v w e) h
  free_of (Gather c) h w e = subst (FreeOf d us) (some_is c.callee w e) h

  pub facts : (f : Phase) → Sane d us bs × Waits d us f → Facts d us bs f
  facts f h =
      let s = h.0 in
      let w = free_of f h.1 in
      record {
        apart = λ i j t. s.apart i j t.before t.inside t.same;
        borne = λ i l. ((s.bears i l).known, (s.bears i l).named);
        forced = s.force;
        within = s.within;
        rising = s.rising;
        calls = λ i l. ((s.calls i l).bears.known, (s.calls i l).bears.named);
        unused = λ i l. (s.calls i l).free;
        allowed = λ i l. allows d (get_or bs i idle).end (get_or bs i idle).call.callee.name (s.calls i l).force;
        known = λ v e. ((w v e).bears.known, (w v e).bears.named);
        fresh = λ v e. (w v e).free;
        force = λ v e. allows d (length us) v.name (w v e).force;
      }

-- the invariant of a run, from its type
pub steady_of : {S : Type 0} (s : Preprocessor S) → Holds (held s.directives.defines) (view s.processor)
steady_of s = steady (held s.directives.defines) (vec_items s.processor.invocations) (vec_items s.processor.below) s.processor.phase s.apart s.borne s.forced s.within s.rising s.calls s.unused s.allowed s.known s.fresh s.force
