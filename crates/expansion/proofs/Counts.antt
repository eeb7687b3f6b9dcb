-- The names in expansion number at most the definitions in force plus one.
use Rattle.std.proofs.Common.{◌≡◌, ℕ, suc, ◌<◌, ◌≤◌, true, cond, eqb, List, [], ◌∷◌, map, length, get_or, sym, refl, ◌∙◌, arith, ne_eqb}
use Rattle.std.proofs.lemmas.Bool.Decides.{nat_tests}
use Rattle.std.proofs.lemmas.Grind.{common_steps}
use Rattle.std.proofs.lemmas.Cmp.{nat_eq_equiv}
use Rattle.std.proofs.lemmas.List.{get_or-map, length-map}
use Rattle.std.proofs.lemmas.Map.Keys.{IsDistinct-from_apart}
use Rattle.std.proofs.lemmas.Map.Made.{length-le_from_is_member}
use Rattle.std.specs.List.{IsDistinct}
use Rattle.std.specs.Set.{is_member}
use Rattle.expansion.specs.declared.invocation.DefineInvocation.{DefineInvocation}
use Rattle.expansion.specs.declared.invocation.Pending.{Pending}
use Rattle.books.specs.Book.{Entry, Defs, has, live}
use Rattle.expansion.specs.Processor.{blank}
use Rattle.expansion.specs.Sane.{Sane, Lawful}

abbrev names : List DefineInvocation → List ℕ
names us = map (λ u. u.name) us

-- the names in force
abbrev forced : List Entry → List ℕ
forced [] = []
forced (e ∷ es) = cond e.live (e.def.name ∷ forced es) (forced es)

length_forced : (es : List Entry) → length (forced es) ≡ live es
length_forced [] = refl
length_forced (e ∷ es) = grind (arith, common_steps, length_forced es)

has_forced : (es : List Entry) (n : ℕ) → has es n ≡ true → is_member eqb (forced es) n ≡ true
has_forced [] n h = h
has_forced (e ∷ es) n h = grind (arith, common_steps, nat_tests, has_forced es n)

known : (es : List Entry) (us : List DefineInvocation) (n : ℕ) → ((i : ℕ) → i < length us → has es (get_or us i blank).name ≡ true) → is_member eqb (names us) n ≡ true → has es n ≡ true
known es [] n f h = absurd cc
known es (u ∷ us) n f h =
    let z : 0 < length (u ∷ us) = omega arith in
    let k = f 0 z in
    let r : is_member eqb (names us) n ≡ true → has es n ≡ true = known es us n (λ i l. f (suc i) (omega arith)) in
    grind (arith, common_steps, nat_tests, k, r)

apart : (us : List DefineInvocation) → ((i j : ℕ) → i < j → j < length us → (get_or us i blank).name ≡ (get_or us j blank).name → ⊥) → IsDistinct eqb (names us)
apart us f = IsDistinct-from_apart eqb (names us) (λ i j d lt l.
    let k = simp length-map at l in
    ne_eqb _ _ (λ e. f i j lt k (sym (get_or-map (λ u. u.name) us i blank d (omega arith)) ∙ e ∙ get_or-map (λ u. u.name) us j blank d k)))

few : (es : List Entry) (us : List DefineInvocation) → ((i j : ℕ) → i < j → j < length us → (get_or us i blank).name ≡ (get_or us j blank).name → ⊥) → ((i : ℕ) → 0 < i → i < length us → has es (get_or us i blank).name ≡ true) → length us ≤ suc (live es)
few es [] a h = omega arith
few es (u ∷ us) a h =
    let d = apart us (λ i j lt l. a (suc i) (suc j) (omega arith) (omega arith)) in
    let m : (n : ℕ) → is_member eqb (names us) n ≡ true → is_member eqb (forced es) n ≡ true = λ n k. has_forced es n (known es us n (λ i l. h (suc i) (omega arith) (omega arith)) k) in
    let w = length-le_from_is_member nat_eq_equiv (names us) (forced es) d m in
    omega (arith, w, length_forced es, simp length-map at w)

pub live_length : (es : List Entry) → live es ≤ length es
live_length [] = omega arith
live_length (e ∷ es) = grind (arith, common_steps, live_length es)

pub sane_few : (d : Defs) (us : List DefineInvocation) (bs : List Pending) → Sane d us bs → length us ≤ suc (live d.table)
sane_few d us bs s = few d.table us s.apart s.force

pub sane_lawful : (d : Defs) (us : List DefineInvocation) (bs : List Pending) → Sane d us bs → Lawful d us
sane_lawful d us bs s = record { apart = s.apart; bears = s.bears; few = sane_few d us bs s }
