-- A move keeps the invariant, changes no handle and takes back nothing.
use Rattle.std.proofs.Common.{◌≡◌, ℕ, suc, ◌+◌, ◌-◌, ◌<◌, ◌≤◌, Bool, true, cond, List, [], map, length, get_or, Some, None, Ok, Err, Option, sym, refl, ap, ◌∙◌, subst, arith, ltb-true}
use Rattle.std.proofs.lemmas.List.{length-set, length-take}
use Rattle.std.proofs.lemmas.Grind.{common_steps}
use Rattle.std.specs.List.{slice_get}
use Rattle.tokens.specs.declared.token.Token.{Token}
use Rattle.tokens.specs.declared.fault.StepExit.TheVariants.{Error, Continue, Finished}
use Rattle.stores.specs.declared.span.Span.{Span}
use Rattle.stores.specs.Places.{place}
use Rattle.stores.specs.Idents.{ident_of}
use Rattle.stores.specs.Tank.{Tank, spending, read}
use Rattle.books.specs.Book.{Defs, mean, Grown}
use Rattle.books.specs.Books.{grown_same}
use Rattle.expansion.specs.declared.invocation.DefineInvocation.{DefineInvocation}
use Rattle.expansion.specs.declared.invocation.Pending.{Pending}
use Rattle.expansion.specs.Processor.{Proc, Answer, fresh, idle, top, base, expanding}
use Rattle.expansion.specs.Phases.{Made, Read, topped, in_arg, at_param, by_word, in_body, in_use, in_input, begun, meeting}
use Rattle.expansion.specs.Sane.{Sane, Holds}
use Rattle.expansion.specs.Moved.{Moved, Pays}
use Rattle.expansion.proofs.Stacks.{Covers, covers_top, covers_take, covered, covered_waits, clear}
use Rattle.expansion.proofs.Meets.{begun_holds, meeting_holds}
use Rattle.expansion.proofs.Fronts.{same, meeting_went, begun_went, still, went_on}

-- the entry that is read is advanced, or is gone
record Advanced (us vs : List DefineInvocation) : Type 0 where
  covers : Covers us vs
  near : length us ≤ suc (length vs)

topped_read : (us : List DefineInvocation) (u : DefineInvocation) → u.name ≡ (top us).name → u.handle ≡ (top us).handle → Advanced us (topped us u)
topped_read us u e f = record { covers = covers_top us u e f; near = omega (arith, length-set us (length us - 1) u) }

use_read : (o : Option Span) (d : Defs) (ws : List Token) (us : List DefineInvocation) (gs : List Span) → Advanced us (in_use o d ws us gs).1
use_read (Some s) d ws us gs = by (read ws s)
  where
    by : (o : Option Token) → Advanced us (in_arg o s us).1
    by (Some x) = topped_read us _ refl refl
    by None = topped_read us _ refl refl
use_read None d ws us gs = by (slice_get (mean d (top us).handle).body (top us).at)
  where
    param : (o : Option ℕ) (x : Token) → Advanced us (at_param o x us gs).1
    param (Some i) x = topped_read us _ refl refl
    param None x = topped_read us _ refl refl

    word : (v : Option ℕ) (x : Token) → Advanced us (by_word v d x us gs).1
    word (Some n) x = param (place 0 n (map ident_of (mean d (top us).handle).params)) x
    word None x = topped_read us _ refl refl

    by : (o : Option Token) → Advanced us (in_body o d us gs).1
    by (Some x) = word (ident_of x) x
    by None = record { covers = covers_take us (length us - 1); near = omega (arith, length-take (length us - 1) us) }

-- all that waits ends below the macros of the current level
ends_below : (d : Defs) (us : List DefineInvocation) (bs : List Pending) → Sane d us bs → (i : ℕ) → i < length bs → (get_or bs i idle).end ≤ base bs
ends_below d us bs s i l = grind (arith, common_steps, s.rising i (length bs - 1))

pub none_moved : (d : Defs) (p : Proc) (t : Tank) → Moved d p t d p t
none_moved d p t = record { holds = λ h. h; went = still p p t refl refl; grown = grown_same d }

pub then_moved : (d e f : Defs) (p q r : Proc) (t u v : Tank) → Moved d p t e q u → Moved e q u f r v → Moved d p t f r v
then_moved d e f p q r t u v a b = record {
  holds = λ h. b.holds (a.holds h);
  went = went_on p t q u r v a.went b.went;
  grown = λ h l. let x = a.grown h l in let y = b.grown h x.0 in (y.0, y.1 ∙ x.1);
}

-- the top macro is read on
pub read_moved : (d : Defs) (p q : Proc) (t : Tank) (r : Answer) (b : Bool) → b ≡ expanding p → b ≡ true → Read (in_use (top p.uses).reading d t.working p.uses p.spans) p r q → Moved d p t d q t
read_moved d p q t r b c e w = subst (λ x. Moved d p t d x t) (sym w.proc) (record {
  holds = λ h. (covered d _ _ v.covers p.below (λ i l. omega (arith, lt, v.near, ends_below d p.uses p.below h.0 i l)) h.0, covered_waits d _ _ v.covers p.phase h.1);
  went = still p _ t refl refl;
  grown = grown_same d;
})
  where
    v : Advanced p.uses (in_use (top p.uses).reading d t.working p.uses p.spans).1
    v = use_read (top p.uses).reading d t.working p.uses p.spans

    lt : base p.below < length p.uses
    lt = ltb-true _ _ (sym c ∙ e)

-- the argument that a level expands is read on
pub input_moved : (d : Defs) (p q : Proc) (t : Tank) (o : Option Token) → q ≡ (in_input o p).1 → Moved d p t d q t
input_moved d p q t (Some x) e = subst (λ x. Moved d p t d x t) (sym e) (record { holds = λ h. h; went = still p _ t refl refl; grown = grown_same d })
input_moved d p q t None e = subst (λ x. Moved d p t d x t) (sym e) (none_moved d p t)

pub met_moved : (d : Defs) (p : Proc) (t : Tank) (a : Answer) (r : Option Answer) (q : Proc) (u : Tank) → Made (meeting p.phase a d p t) r q u → Moved d p t d q u
met_moved d p t a r q u w =
    let m = meeting p.phase a d p t in
    subst (λ x. Moved d p t d q x) (sym w.tank) (subst (λ x. Moved d p t d x m.2) (sym w.proc)
    (record { holds = λ h. meeting_holds d p.phase a p t h h.1; went = meeting_went p.phase a d p t; grown = grown_same d }))

pub begun_moved : (d : Defs) (p : Proc) (t : Tank) (x : Token) (n : ℕ) (r : Option Answer) (q : Proc) (u : Tank) → Made (begun d p t x n) r q u → Moved d p t d q u
begun_moved d p t x n r q u w =
    let m = begun d p t x n in
    subst (λ x. Moved d p t d q x) (sym w.tank) (subst (λ x. Moved d p t d x m.2) (sym w.proc)
    (record { holds = λ h. begun_holds d p t x n h; went = begun_went d p t x n; grown = grown_same d }))

-- a move is charged
pub charged_moved : (d : Defs) (p : Proc) (t u : Tank) (b : Bool) → b ≡ true → u ≡ cond b (spending t (t.moves + 1)) t → Moved d p t d p u
charged_moved d p t u b e f = subst (λ x. Moved d p t d p x) (sym (f ∙ ap (λ c. cond c (spending t (t.moves + 1)) t) e)) (record {
  holds = λ h. h;
  went = record { moves = omega arith; budget = refl; keeps = λ b h. record { above = record { long = h.long; here = h.here; deep = h.deep }; fronts = record { working = (same b t).working; building = refl } } };
  grown = grown_same d;
})

pub paid : (a : Option Answer) (t u : Tank) → t.moves < u.moves → Pays a t u
paid None t u l = l
paid (Some (Ok x)) t u l = l
paid (Some (Err Continue)) t u l = l
paid (Some (Err Finished)) t u l = l
paid (Some (Err (Error f))) t u l = tt

-- nothing is in expansion yet
pub fresh_holds : (d : Defs) (p : Proc) (gs : List Span) → p ≡ fresh gs → Holds d p
fresh_holds d p gs e = subst (Holds d) (sym e) (clear d d [] refl [] refl, tt)
