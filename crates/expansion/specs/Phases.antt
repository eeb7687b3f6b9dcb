-- A move of the processor, and what its phase makes of the step that it meets.
-- on_arg, on_word: what one macro makes of a token of its argument, or of its body
-- in_arg, at_param, by_word, in_body, in_use: the top macro is read on; in_input: the argument that a level expands
-- entered, passed, begun, descended, counted, closed, storing, gathered, finished, holding: what each case does
-- meeting f a d p t: the phase f meets the step a: no answer yet, or the answer of the step, with what is left of the processor and the meter
use Rattle.std.specs.Prelude.{◌≡◌, ℕ, ◌+◌, ◌-◌, Bool, false, cond, List, [], ◌∷◌, ◌++◌, map, length, take, Some, None, Ok, Err, Option, ◌==◌, nat_lt, slice_set}
use Rattle.std.specs.List.{slice_get, list_any}
use Rattle.std.specs.Option.{option_map}
use Rattle.tokens.specs.declared.location.Location.{Location}
use Rattle.tokens.specs.declared.token.Token.{Token}
use Rattle.tokens.specs.declared.fault.Fault.{Fault}
use Rattle.tokens.specs.declared.fault.PreprocessorError.{PreprocessorError}
use Rattle.tokens.specs.declared.fault.PreprocessorError.TheVariants.{IntegerOverflow, UnexpectedEndOfInput, TooFewDefineArguments, TooManyDefineArguments, WorkingTokensFull, TooManyLevels}
use Rattle.tokens.specs.declared.fault.StepExit.TheVariants.{Error, Continue, Finished}
use Rattle.tokens.specs.Faults.{number}
use Rattle.stores.specs.declared.span.Span.{Span}
use Rattle.stores.specs.Spans.{onward}
use Rattle.stores.specs.Places.{place}
use Rattle.stores.specs.Idents.{ident_of}
use Rattle.stores.specs.Tank.{Tank, roomy, stored, built, shifted, whole, read}
use Rattle.books.specs.Book.{Defs, mean, find}
use Rattle.expansion.specs.declared.delimiter.Delimiter.{Delimiter}
use Rattle.expansion.specs.declared.delimiter.Delimiter.TheVariants.{Open, Close, Comma, Other}
use Rattle.expansion.specs.declared.invocation.DefineInvocation.{DefineInvocation}
use Rattle.expansion.specs.declared.invocation.Callee.{Callee}
use Rattle.expansion.specs.declared.invocation.Call.{Call}
use Rattle.expansion.specs.declared.invocation.Phase.{Phase}
use Rattle.expansion.specs.declared.invocation.Phase.TheVariants.{Plain, Held, Met, Gather}
use Rattle.expansion.specs.declared.invocation.Pending.{Pending}
use Rattle.expansion.specs.Delimiters.{delimits}
use Rattle.expansion.specs.Arguments.{arg_at, with_arg, copied, slot_of_call}
use Rattle.expansion.specs.Processor.{Proc, phased, used, fed, lined, argued, Answer, fault, top, lowest, expanding, named}

-- ----- a move: what is met -----

abbrev pub read_on : DefineInvocation → Option Span → DefineInvocation
read_on u o = record u { reading = o }

abbrev pub body_on : DefineInvocation → DefineInvocation
body_on u = record u { at = u.at + 1 }

abbrev pub topped : List DefineInvocation → DefineInvocation → List DefineInvocation
topped us u = slice_set us (length us - 1) u

abbrev pub on_arg : Option Token → Span → DefineInvocation → Answer × DefineInvocation
on_arg (Some x) s u = (Ok x, read_on u (Some (onward s)))
on_arg None s u = (Err Continue, read_on u None)

abbrev pub in_arg : Option Token → Span → List DefineInvocation → Answer × List DefineInvocation
in_arg o s us = let e = on_arg o s (top us) in (e.0, topped us e.1)

abbrev pub on_word : Option Span → Token → DefineInvocation → Answer × DefineInvocation
on_word (Some s) x u = (Err Continue, read_on (body_on u) (Some s))
on_word None x u = (Ok x, body_on u)

abbrev pub at_param : Option ℕ → Token → List DefineInvocation → List Span → Answer × List DefineInvocation
at_param o x us gs = let e = on_word (option_map (λ i. arg_at gs (length us - 1) i) o) x (top us) in (e.0, topped us e.1)

abbrev pub by_word : Option ℕ → Defs → Token → List DefineInvocation → List Span → Answer × List DefineInvocation
by_word (Some n) d x us gs = at_param (place 0 n (map ident_of (mean d (top us).handle).params)) x us gs
by_word None d x us gs = (Ok x, topped us (body_on (top us)))

abbrev pub in_body : Option Token → Defs → List DefineInvocation → List Span → Answer × List DefineInvocation
in_body (Some x) d us gs = by_word (ident_of x) d x us gs
in_body None d us gs = (Err Continue, take (length us - 1) us)

abbrev pub in_use : Option Span → Defs → List Token → List DefineInvocation → List Span → Answer × List DefineInvocation
in_use (Some s) d ws us gs = in_arg (read ws s) s us
in_use None d ws us gs = in_body (slice_get (mean d (top us).handle).body (top us).at) d us gs

abbrev pub in_input : Option Token → Proc → Answer × Proc
in_input (Some x) p = (Ok x, fed p (onward p.level.input))
in_input None p = (Err Finished, p)

-- ----- what a phase makes of it -----

abbrev pub Out : Type 0
Out = Option Answer × Proc × Tank

abbrev pub quiet : List Pending → Option Answer
quiet bs = cond (length bs == 0) (Some (Err Continue)) None

-- the macro goes on the stack, with the first k arguments of the level's call
abbrev pub entered : Proc → Callee → ℕ → Option Answer × Proc
entered p w k =
    (quiet p.below, record p { phase = Plain; uses = p.uses ++ record { name = w.name; handle = w.handle; at = 0; reading = None } ∷ []; spans = copied p.spans (slot_of_call p.below) (length p.uses) k })

-- a token passes: out of the processor, or into the argument that this level expands
abbrev pub passed : Proc → Tank → Token → Out
passed p t x =
    cond (length p.below == 0) (Some (Ok x), p, t)
    (cond (roomy t) (None, p, built t x) (Some (fault WorkingTokensFull x.location), p, t))

abbrev pub barred : List DefineInvocation → ℕ → Bool
barred us n = list_any (λ u. u.name == n) us

-- the line of the first macro in expansion is the one that counts
abbrev pub starting : Proc → ℕ → Proc
starting p n = cond (expanding p) p (lined p n)

-- a call may follow a function-like name; any other macro goes on the stack
abbrev pub calling : Defs → Proc → Tank → Callee → Out
calling d p t w = cond (mean d w.handle).function (None, phased p (Met w), t) (let e = entered p w 0 in (e.0, e.1, t))

abbrev pub found : Option ℕ → Defs → Proc → Tank → Token → ℕ → Out
found None d p t x n = passed p t x
found (Some h) d p t x n =
    calling d (starting p x.location.line) t (record { name = n; handle = h; location = x.location })

-- a name is met
abbrev pub begun : Defs → Proc → Tank → Token → ℕ → Out
begun d p t x n = cond (barred p.uses n) (passed p t x) (found (find d n) d p t x n)

abbrev pub opened : Callee → Location → ℕ → Call
opened w l k = record { callee = w; paren = l; last = l; nesting = 0; from = k; count = 0 }

abbrev pub reached : Call → ℕ → Location → Call
reached c k l = record c { last = l; nesting = k }

-- the current argument is whole: it ends at k
abbrev pub split : Call → Location → ℕ → Call
split c l k = record c { last = l; from = k; count = cond (nat_lt c.count 33) (c.count + 1) 33 }

abbrev pub parted : Proc → Call → ℕ → Proc
parted p c k = argued p (with_arg p.spans (slot_of_call p.below) c.count (record { from = c.from; to = k }))

abbrev pub waiting : Proc → Call → ℕ → Pending
waiting p c i = record { call = c; next = i; level = p.level; end = length p.uses }

-- the argument i is to be expanded, one level deeper
abbrev pub descended : Proc → Tank → Call → ℕ → Out
descended p t c i =
    cond (nat_lt (length p.below) 16)
    (None, record p { phase = Plain; level = record { input = arg_at p.spans (slot_of_call p.below) i; start = length t.building; line = 0 }; below = p.below ++ waiting p c i ∷ [] }, t)
    (Some (fault TooManyLevels c.callee.location), p, t)

abbrev pub hollow : Span → Bool
hollow s = s.from == s.to

-- whether a call with one empty argument stands for a call with none
abbrev pub bare : Proc → Call → ℕ → Bool
bare p c a = cond (a == 0) (cond (c.count == 1) (hollow (arg_at p.spans (slot_of_call p.below) 0)) false) false

abbrev pub counted : Proc → Tank → Call → ℕ → Out
counted p t c a =
    cond (nat_lt a c.count) (cond (bare p c a) (descended p t c 0) (Some (fault TooManyDefineArguments c.paren), p, t))
    (cond (nat_lt c.count a) (Some (fault TooFewDefineArguments c.paren), p, t) (descended p t c 0))

abbrev pub closed : Defs → Proc → Tank → Call → Location → Out
closed d p t c l =
    counted (starting (parted p c (length t.working)) l.line) t (split c l (length t.working)) (length (mean d c.callee.handle).params)

abbrev pub storing : Proc → Tank → Call → Token → Out
storing p t c x = cond (roomy t) (None, phased p (Gather c), stored t x) (Some (fault WorkingTokensFull x.location), p, t)

abbrev pub gathered : Delimiter → Defs → Proc → Tank → Call → Token → Out
gathered Other d p t c x = storing p t (reached c c.nesting x.location) x
gathered Open d p t c x =
    cond (nat_lt c.nesting 4294967295) (storing p t (reached c (c.nesting + 1) x.location) x) (Some (fault IntegerOverflow x.location), p, t)
gathered Close d p t c x =
    cond (c.nesting == 0) (closed d p t c x.location) (storing p t (reached c (c.nesting - 1) x.location) x)
gathered Comma d p t c x =
    cond (c.nesting == 0) (None, phased (parted p c (length t.working)) (Gather (split c x.location (length t.working))), t) (storing p t (reached c c.nesting x.location) x)

-- the level below goes on, once the argument that it waits for is expanded
abbrev pub resumed : Proc → Pending → Proc
resumed p q = record p { phase = Plain; level = q.level; below = take (length p.below - 1) p.below; uses = take q.end p.uses }

abbrev pub filled : Proc → ℕ → Span → Proc
filled p i s = argued p (with_arg p.spans (slot_of_call p.below) i s)

abbrev pub returned : Proc → Tank → ℕ → Call → Out
returned p t i c =
    cond (nat_lt (i + 1) c.count) (descended p t c (i + 1))
    (let e = entered p c.callee c.count in (e.0, e.1, t))

-- the input of this level is used up
abbrev pub finished : Proc → Tank → Out
finished p t =
    cond (length p.below == 0) (Some (Err Finished), p, t)
    (let q = lowest p.below in returned (filled (resumed p q) q.next (whole p.level.start t)) (shifted t p.level.start) q.next q.call)

abbrev pub by_name : Option ℕ → Defs → Proc → Tank → Token → Out
by_name (Some n) d p t x = begun d p t x n
by_name None d p t x = passed p t x

-- what follows a function-like name that is no call is held back, and the name passes
abbrev pub holding : Proc → Tank → Callee → Answer → Out
holding p t w a = passed (phased p (Held a)) t (named w)

abbrev pub after_name : Delimiter → Proc → Tank → Callee → Token → Out
after_name Open p t w x = (None, phased p (Gather (opened w x.location (length t.working))), t)
after_name Close p t w x = holding p t w (Ok x)
after_name Comma p t w x = holding p t w (Ok x)
after_name Other p t w x = holding p t w (Ok x)

-- moves spent is never held back
abbrev pub spent : PreprocessorError → Bool
spent e = number e == 40

abbrev pub failed : Fault → Proc → Tank → Callee → Out
failed f p t w = cond (spent f.error) (Some (Err (Error f)), p, t) (holding p t w (Err (Error f)))

abbrev pub meeting : Phase → Answer → Defs → Proc → Tank → Out
meeting Plain (Ok x) d p t = by_name (ident_of x) d p t x
meeting Plain (Err Continue) d p t = (quiet p.below, p, t)
meeting Plain (Err Finished) d p t = finished p t
meeting Plain (Err (Error f)) d p t = (Some (Err (Error f)), p, t)
meeting (Held a) s d p t = (None, p, t)
meeting (Met w) (Ok x) d p t = after_name (delimits x.value) p t w x
meeting (Met w) (Err Continue) d p t = (None, p, t)
meeting (Met w) (Err Finished) d p t = holding p t w (Err Finished)
meeting (Met w) (Err (Error f)) d p t = failed f p t w
meeting (Gather c) (Ok x) d p t = gathered (delimits x.value) d p t c x
meeting (Gather c) (Err Continue) d p t = (None, p, t)
meeting (Gather c) (Err Finished) d p t = (Some (fault UnexpectedEndOfInput c.last), p, t)
meeting (Gather c) (Err (Error f)) d p t = (Some (Err (Error f)), p, t)

-- what was answered, and what was left of the processor and of the meter
pub record Made (w : Out) (r : Option Answer) (p : Proc) (t : Tank) : Type 0 where
  pub value : r ≡ w.0
  pub proc : p ≡ w.1
  pub tank : t ≡ w.2

-- what an entry of the stack gave, and what it left of the processor
pub record Read (w : Answer × List DefineInvocation) (p : Proc) (r : Answer) (q : Proc) : Type 0 where
  pub value : r ≡ w.0
  pub proc : q ≡ used p w.1
