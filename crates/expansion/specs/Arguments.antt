-- The store of arguments: slots of 32 parts each, one for each macro in expansion and one for the call of each level.
-- arg_at gs k i: argument i of slot k; with_arg gs k i s: the same store with another one there
-- copied gs k j n: the first n arguments of slot k copied to slot j; slot_of_call bs: the slot of the current level's call
use Rattle.std.specs.Prelude.{ℕ, zero, suc, ◌+◌, ◌*◌, cond, List, length, nat_lt, slice_index_or, slice_set}
use Rattle.stores.specs.declared.span.Span.{Span}
use Rattle.stores.specs.Spans.{nowhere}
use Rattle.expansion.specs.declared.invocation.Pending.{Pending}

abbrev pub arg_at : List Span → ℕ → ℕ → Span
arg_at gs k i = cond (nat_lt i 32) (cond (nat_lt k 530) (slice_index_or gs (k * 32 + i) nowhere) nowhere) nowhere

abbrev pub with_arg : List Span → ℕ → ℕ → Span → List Span
with_arg gs k i s = cond (nat_lt i 32) (cond (nat_lt k 530) (slice_set gs (k * 32 + i) s) gs) gs

abbrev pub copied : List Span → ℕ → ℕ → ℕ → List Span
copied gs k j zero = gs
copied gs k j (suc n) = with_arg (copied gs k j n) j n (arg_at (copied gs k j n) k n)

abbrev pub slot_of_call : List Pending → ℕ
slot_of_call bs = 513 + length bs
