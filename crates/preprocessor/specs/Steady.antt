-- What always holds of a run's macros in expansion, fact by fact, as a run's type carries it.
-- Apart us: no name is in expansion twice; Borne d us: each handle bears its macro's name; Forced d us: all but the lowest are in force
-- Within us bs, Rising bs: where the waiting levels began to wait
-- Known d w, Unused us e w, Allowed d e w: a call of w may be entered above the first e macros
-- waiting f: the call that a phase is about
use Rattle.std.specs.Prelude.{◌≡◌, ℕ, ◌<◌, ◌≤◌, true, List, length, Some, None, Option, ◌≢◌, slice_index_or}
use Rattle.books.specs.Book.{Defs, mean, has}
use Rattle.expansion.specs.declared.invocation.DefineInvocation.{DefineInvocation}
use Rattle.expansion.specs.declared.invocation.Callee.{Callee}
use Rattle.expansion.specs.declared.invocation.Pending.{Pending}
use Rattle.expansion.specs.declared.invocation.Phase.{Phase}
use Rattle.expansion.specs.declared.invocation.Phase.TheVariants.{Plain, Held, Met, Gather}
use Rattle.expansion.specs.Processor.{blank, idle}

pub record Twice (us : List DefineInvocation) (i j : ℕ) : Type 0 where
  pub before : i < j
  pub inside : j < length us
  pub same : (slice_index_or us i blank).name ≡ (slice_index_or us j blank).name

abbrev pub Apart : List DefineInvocation → Type 0
Apart us = (i j : ℕ) → Twice us i j → ⊥

abbrev pub Borne : Defs → List DefineInvocation → Type 0
Borne d us = (i : ℕ) → i < length us → ((slice_index_or us i blank).handle < length d.table) × ((mean d (slice_index_or us i blank).handle).name ≡ (slice_index_or us i blank).name)

abbrev pub Forced : Defs → List DefineInvocation → Type 0
Forced d us = (i : ℕ) → 0 < i → i < length us → has d.table (slice_index_or us i blank).name ≡ true

abbrev pub Within : List DefineInvocation → List Pending → Type 0
Within us bs = (i : ℕ) → i < length bs → (slice_index_or bs i idle).end ≤ length us

abbrev pub Rising : List Pending → Type 0
Rising bs = (i j : ℕ) → i < j → j < length bs → (slice_index_or bs i idle).end ≤ (slice_index_or bs j idle).end

abbrev pub Known : Defs → Callee → Type 0
Known d w = (w.handle < length d.table) × ((mean d w.handle).name ≡ w.name)

abbrev pub Unused : List DefineInvocation → ℕ → Callee → Type 0
Unused us e w = (j : ℕ) → j < e → (slice_index_or us j blank).name ≢ w.name

abbrev pub Allowed : Defs → ℕ → Callee → Type 0
Allowed d e w = 0 < e → has d.table w.name ≡ true

abbrev pub CallsKnown : Defs → List Pending → Type 0
CallsKnown d bs = (i : ℕ) → i < length bs → Known d (slice_index_or bs i idle).call.callee

abbrev pub CallsUnused : List DefineInvocation → List Pending → Type 0
CallsUnused us bs = (i : ℕ) → i < length bs → Unused us (slice_index_or bs i idle).end (slice_index_or bs i idle).call.callee

abbrev pub CallsAllowed : Defs → List Pending → Type 0
CallsAllowed d bs = (i : ℕ) → i < length bs → Allowed d (slice_index_or bs i idle).end (slice_index_or bs i idle).call.callee

abbrev pub waiting : Phase → Option Callee
waiting Plain = None
waiting (Held a) = None
waiting (Met w) = Some w
waiting (Gather c) = Some c.callee

abbrev pub WaitsKnown : Defs → Phase → Type 0
WaitsKnown d f = (w : Callee) → waiting f ≡ Some w → Known d w

abbrev pub WaitsUnused : List DefineInvocation → Phase → Type 0
WaitsUnused us f = (w : Callee) → waiting f ≡ Some w → Unused us (length us) w

abbrev pub WaitsAllowed : Defs → List DefineInvocation → Phase → Type 0
WaitsAllowed d us f = (w : Callee) → waiting f ≡ Some w → Allowed d (length us) w
