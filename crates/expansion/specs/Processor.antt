-- Proc: the plain data of a processor; view p: what a processor holds
-- phased, used, fed, lined, argued: the same with another phase, stack, input, line, store of arguments
-- blank, resting, idle: no macro, a level that reads nothing, no waiting level; top us, lowest bs: the last of each
-- base bs: where the current level's own macros begin; fault e l: the answer with a fault of expansion
use Rattle.std.specs.Prelude.{ℕ, ◌-◌, Bool, cond, List, [], length, None, Err, vec_items, Result, ◌==◌, nat_lt, slice_index_or}
use Rattle.tokens.specs.declared.location.Location.{Location}
use Rattle.tokens.specs.declared.token.Token.{Token}
use Rattle.tokens.specs.declared.token.TokenValue.TheVariants.{Ident}
use Rattle.tokens.specs.declared.fault.PreprocessorError.{PreprocessorError}
use Rattle.tokens.specs.declared.fault.Layer.TheVariants.{Expansion}
use Rattle.tokens.specs.declared.fault.StepExit.{StepExit}
use Rattle.tokens.specs.declared.fault.StepExit.TheVariants.{Error}
use Rattle.tokens.specs.Faults.{raised}
use Rattle.tokens.specs.Places.{origin}
use Rattle.stores.specs.declared.span.Span.{Span}
use Rattle.stores.specs.Spans.{nowhere}
use Rattle.expansion.specs.declared.invocation.DefineInvocation.{DefineInvocation}
use Rattle.expansion.specs.declared.invocation.Callee.{Callee}
use Rattle.expansion.specs.declared.invocation.Call.{Call}
use Rattle.expansion.specs.declared.invocation.Phase.{Phase}
use Rattle.expansion.specs.declared.invocation.Phase.TheVariants.{Plain}
use Rattle.expansion.specs.declared.invocation.Level.{Level}
use Rattle.expansion.specs.declared.invocation.Pending.{Pending}
use Rattle.expansion.specs.declared.processor.MacroProcessor.{MacroProcessor}

pub record Proc : Type 0 where
  pub phase : Phase
  pub level : Level
  pub below : List Pending
  pub uses : List DefineInvocation
  pub spans : List Span

abbrev pub view : MacroProcessor → Proc
view p = record { phase = p.phase; level = p.level; below = vec_items p.below; uses = vec_items p.invocations; spans = vec_items p.arguments }

abbrev pub phased : Proc → Phase → Proc
phased p f = record p { phase = f }

abbrev pub used : Proc → List DefineInvocation → Proc
used p us = record p { uses = us }

abbrev pub fed : Proc → Span → Proc
fed p s = record p { level = record p.level { input = s } }

abbrev pub lined : Proc → ℕ → Proc
lined p n = record p { level = record p.level { line = n } }

abbrev pub argued : Proc → List Span → Proc
argued p gs = record p { spans = gs }

abbrev pub Answer : Type 0
Answer = Result Token StepExit

abbrev pub fault : PreprocessorError → Location → Answer
fault e l = Err (Error (raised Expansion e l))

abbrev pub blank : DefineInvocation
blank = record { name = 0; handle = 0; at = 0; reading = None }

abbrev pub no_call : Call
no_call = record { callee = record { name = 0; handle = 0; location = origin }; paren = origin; last = origin; nesting = 0; from = 0; count = 0 }

abbrev pub resting : Level
resting = record { input = nowhere; start = 0; line = 0 }

abbrev pub idle : Pending
idle = record { call = no_call; next = 0; level = resting; end = 0 }

abbrev pub top : List DefineInvocation → DefineInvocation
top us = slice_index_or us (length us - 1) blank

abbrev pub lowest : List Pending → Pending
lowest bs = slice_index_or bs (length bs - 1) idle

abbrev pub base : List Pending → ℕ
base bs = cond (length bs == 0) 0 (lowest bs).end

-- whether a macro of the current level is in expansion
abbrev pub expanding : Proc → Bool
expanding p = nat_lt (base p.below) (length p.uses)

-- the name that a call began with
abbrev pub named : Callee → Token
named w = record { value = Ident w.name; location = w.location }

-- nothing is in expansion and nothing is held back; what the slots of arguments hold is of no account
abbrev pub fresh : List Span → Proc
fresh gs = record { phase = Plain; level = resting; below = []; uses = []; spans = gs }
