-- What always holds of the macros in expansion and of the calls that wait.
-- Lawful d us: no name is in expansion twice at any level, each handle bears the name of its macro, and the names in
--   expansion number at most the definitions in force plus one
-- Sane d us bs: all macros but the lowest are in force, and each waiting call may be entered where it waits
-- Holds d p: that, and the call that the phase is about may be entered too
-- Above b p t: every deeper level builds above the first b built tokens
-- Went p t q u: from p and t to q and u no move is taken back, and what was stored before stays in front
use Rattle.std.specs.Prelude.{◌≡◌, ℕ, suc, ◌<◌, ◌≤◌, ◌⊎◌, List, length, take, ◌≢◌, slice_index_or}
use Rattle.stores.specs.Tank.{Tank}
use Rattle.books.specs.Book.{Defs, mean, InForce, live}
use Rattle.expansion.specs.declared.invocation.DefineInvocation.{DefineInvocation}
use Rattle.expansion.specs.declared.invocation.Callee.{Callee}
use Rattle.expansion.specs.declared.invocation.Pending.{Pending}
use Rattle.expansion.specs.declared.invocation.Phase.{Phase}
use Rattle.expansion.specs.declared.invocation.Phase.TheVariants.{Plain, Held, Met, Gather}
use Rattle.expansion.specs.Processor.{Proc, blank, idle, lowest}

pub record Bears (d : Defs) (h n : ℕ) : Type 0 where
  pub known : h < length d.table
  pub named : (mean d h).name ≡ n

pub record Lawful (d : Defs) (us : List DefineInvocation) : Type 0 where
  pub apart : (i j : ℕ) → i < j → j < length us → (slice_index_or us i blank).name ≢ (slice_index_or us j blank).name
  pub bears : (i : ℕ) → i < length us → Bears d (slice_index_or us i blank).handle (slice_index_or us i blank).name
  pub few : length us ≤ suc (live d.table)

-- a call of n, met under the handle h, may be entered above the first e macros
pub record Free (d : Defs) (us : List DefineInvocation) (e h n : ℕ) : Type 0 where
  pub bears : Bears d h n
  pub free : (i : ℕ) → i < e → (slice_index_or us i blank).name ≢ n
  pub force : InForce d n ⊎ (e ≡ 0)

pub record Sane (d : Defs) (us : List DefineInvocation) (bs : List Pending) : Type 0 where
  pub apart : (i j : ℕ) → i < j → j < length us → (slice_index_or us i blank).name ≢ (slice_index_or us j blank).name
  pub bears : (i : ℕ) → i < length us → Bears d (slice_index_or us i blank).handle (slice_index_or us i blank).name
  pub force : (i : ℕ) → 0 < i → i < length us → InForce d (slice_index_or us i blank).name
  pub calls : (i : ℕ) → i < length bs → Free d us (slice_index_or bs i idle).end (slice_index_or bs i idle).call.callee.handle (slice_index_or bs i idle).call.callee.name
  pub within : (i : ℕ) → i < length bs → (slice_index_or bs i idle).end ≤ length us
  pub rising : (i j : ℕ) → i < j → j < length bs → (slice_index_or bs i idle).end ≤ (slice_index_or bs j idle).end

abbrev pub FreeOf : Defs → List DefineInvocation → Callee → Type 0
FreeOf d us w = Free d us (length us) w.handle w.name

abbrev pub Waits : Defs → List DefineInvocation → Phase → Type 0
Waits d us Plain = Unit {0}
Waits d us (Held a) = Unit {0}
Waits d us (Met w) = FreeOf d us w
Waits d us (Gather c) = FreeOf d us c.callee

abbrev pub Holds : Defs → Proc → Type 0
Holds d p = Sane d p.uses p.below × Waits d p.uses p.phase

-- there is a place for the call that waits lowest
abbrev pub Placed : List Pending → Type 0
Placed bs = 0 < length bs → (lowest bs).end < 513

pub record Above (b : ℕ) (p : Proc) (t : Tank) : Type 0 where
  pub long : b ≤ length t.building
  pub here : 0 < length p.below → b ≤ p.level.start
  pub deep : (i : ℕ) → 0 < i → i < length p.below → b ≤ (slice_index_or p.below i idle).level.start

pub record Fronts (b : ℕ) (t u : Tank) : Type 0 where
  pub working : take (length t.working) u.working ≡ t.working
  pub building : take b u.building ≡ take b t.building

pub record Kept (b : ℕ) (t : Tank) (q : Proc) (u : Tank) : Type 0 where
  pub above : Above b q u
  pub fronts : Fronts b t u

pub record Went (p : Proc) (t : Tank) (q : Proc) (u : Tank) : Type 0 where
  pub moves : t.moves ≤ u.moves
  pub budget : u.budget ≡ t.budget
  pub keeps : (b : ℕ) → Above b p t → Kept b t q u
