-- spent_of r: the moves that a run has made, its budget and its working tokens
-- book_of r: its definitions; in_expansion r: its macros in expansion
-- Repeats o a: where the run's fault is o, the answer a is that fault; Still o r s: and the run stays as it is
-- Refused r s: s is the run r as it was, up to memory that was taken and given back
use Rattle.std.specs.Prelude.{◌≡◌, List, Some, None, Err, vec_items, Option, Result}
use Rattle.tokens.specs.declared.fault.Fault.{Fault}
use Rattle.stores.specs.Tank.{Tank, tank}
use Rattle.books.specs.Book.{Defs}
use Rattle.defines.specs.Held.{held}
use Rattle.expansion.specs.declared.invocation.DefineInvocation.{DefineInvocation}
use Rattle.directives.specs.Unchanged.{Same, Beside}
use Rattle.preprocessor.specs.declared.state.Preprocessor.{Preprocessor}

abbrev pub spent_of : {S : Type 0} → Preprocessor S → Tank
spent_of r = tank r.meter

abbrev pub book_of : {S : Type 0} → Preprocessor S → Defs
book_of r = held r.directives.defines

abbrev pub in_expansion : {S : Type 0} → Preprocessor S → List DefineInvocation
in_expansion r = vec_items r.processor.invocations

abbrev pub Repeats : {X : Type 0} → Option Fault → Result X Fault → Type 0
Repeats (Some f) a = a ≡ Err f
Repeats None a = Unit {0}

abbrev pub Still : {S : Type 0} → Option Fault → Preprocessor S → Preprocessor S → Type 0
Still (Some f) r s = s ≡ r
Still None r s = Unit {0}

pub record Refused {S : Type 0} (r s : Preprocessor S) : Type 0 where
  pub defines : Same r.directives.defines s.directives.defines
  pub directives : Beside r.directives s.directives
  pub processor : s.processor ≡ r.processor
  pub meter : s.meter ≡ r.meter
  pub fault : s.fault ≡ r.fault
