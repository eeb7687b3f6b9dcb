-- What a look answers, and what it leaves of the parser, the feed and the meter.
-- located l a: an operator's answer, its error put at l
-- passing b x: what a name that is no macro stands for; taken p: the parser with no token carried
-- carries o: how many tokens are carried; ahead o t: no more tokens than this can still be taken; remains s: the same of an evaluator
-- Ready defs s: the invariant of the macros in expansion holds of the parser, under the book of the feed
-- Looked defs s t: from s to t: what Moved says, the directive's word and kind stay, `remains` does not grow, and the same loans are held
-- Passed d p t e q u: the same of a parser, a book and a tank, but for the loans
-- Took r m n: where r is an answer, what was ahead has fallen from m to n; Found r m n: the same where r is a token
-- Carried o r: a carried token is the answer; Spent r: only spent moves are raised; found_in r: what a look found; Holding r o: o is the answer
-- Ended l r: only spent moves and the end of the line are raised; Tells d r: an answer says whether some name is in force in d
-- Named r, Settled r: the only name in r is `defined`; OfLevel k r: the operator in r is of level k; OfNumber n r: of the level with this number
use Rattle.std.specs.Prelude.{◌≡◌, ℕ, ◌+◌, ◌-◌, ◌<◌, ◌≤◌, Bool, true, false, ◌⊎◌, ℤ, is_some, Some, None, Ok, Err, Option, Result}
use Rattle.tokens.specs.declared.location.Location.{Location}
use Rattle.tokens.specs.declared.punct.Punct.{Punct}
use Rattle.tokens.specs.declared.token.Token.{Token}
use Rattle.tokens.specs.declared.token.TokenValue.TheVariants.{Integer}
use Rattle.tokens.specs.declared.fault.Fault.{Fault}
use Rattle.tokens.specs.declared.fault.Layer.TheVariants.{Conditions}
use Rattle.tokens.specs.declared.fault.PreprocessorError.{PreprocessorError}
use Rattle.tokens.specs.declared.fault.PreprocessorError.TheVariants.{UnexpectedEndOfInput}
use Rattle.tokens.specs.Faults.{number, raised, unexpected}
use Rattle.stores.specs.Tank.{Tank, tank}
use Rattle.stores.specs.Idents.{ident_of}
use Rattle.books.specs.Book.{Defs, find}
use Rattle.expansion.specs.Processor.{view}
use Rattle.expansion.specs.Moved.{Moved}
use Rattle.expansion.specs.Sane.{Holds}
use Rattle.conditions.specs.declared.if_parser.IfParser.{IfParser}
use Rattle.conditions.specs.declared.evaluator.Evaluator.{Evaluator}
use Rattle.operators.specs.declared.Level.{Level}
use Rattle.operators.specs.Calc.{operator_level, place, flag}

abbrev pub located : Location → Result ℤ PreprocessorError → Result ℤ Fault
located l (Ok v) = Ok v
located l (Err e) = Err (raised Conditions e l)

abbrev pub passing : Bool → Token → Result Token Fault
passing true x = Ok (record { value = Integer (record { value = 0; signed = true; width = 64 }); location = x.location })
passing false x = Err (unexpected Conditions x)

abbrev pub taken : IfParser → IfParser
taken p = record { processor = p.processor; carry = None; location = p.location; parsing_if = p.parsing_if }

abbrev pub carries : Option Token → ℕ
carries (Some x) = 1
carries None = 0

-- a token that is taken was carried, or cost a move
abbrev pub ahead : Option Token → Tank → ℕ
ahead o t = (t.budget - t.moves) + carries o

abbrev pub remains : {F : Type 0} → Evaluator F → ℕ
remains s = ahead s.parser.now.carry (tank s.meter.now)

abbrev pub Ready : {F : Type 0} → (F → Defs) → Evaluator F → Type 0
Ready defs s = Holds (defs s.lexer.now) (view s.parser.now.processor)

pub record Looked {F : Type 0} (defs : F → Defs) (s t : Evaluator F) : Type 0 where
  pub moved : Moved (defs s.lexer.now) (view s.parser.now.processor) (tank s.meter.now) (defs t.lexer.now) (view t.parser.now.processor) (tank t.meter.now)
  pub location : t.parser.now.location ≡ s.parser.now.location
  pub zeros : t.parser.now.parsing_if ≡ s.parser.now.parsing_if
  pub less : remains t ≤ remains s
  pub parser : t.parser.ghost_name ≡ s.parser.ghost_name
  pub lexer : t.lexer.ghost_name ≡ s.lexer.ghost_name
  pub meter : t.meter.ghost_name ≡ s.meter.ghost_name

pub record Passed (d : Defs) (p : IfParser) (t : Tank) (e : Defs) (q : IfParser) (u : Tank) : Type 0 where
  pub moved : Moved d (view p.processor) t e (view q.processor) u
  pub location : q.location ≡ p.location
  pub zeros : q.parsing_if ≡ p.parsing_if
  pub less : ahead q.carry u ≤ ahead p.carry t

abbrev pub Took : {X : Type 0} → Result X Fault → ℕ → ℕ → Type 0
Took (Ok x) m n = n < m
Took (Err f) m n = Unit {0}

abbrev pub Found : {X : Type 0} → Result (Option X) Fault → ℕ → ℕ → Type 0
Found (Ok (Some x)) m n = n < m
Found (Ok None) m n = Unit {0}
Found (Err f) m n = Unit {0}

abbrev pub Carried : Option Token → Result (Option Token) Fault → Type 0
Carried (Some x) r = r ≡ Ok (Some x)
Carried None r = Unit {0}

abbrev pub Spent : {X : Type 0} → Result X Fault → Type 0
Spent (Ok x) = Unit {0}
Spent (Err f) = number f.error ≡ 40

abbrev pub Ended : {X : Type 0} → Location → Result X Fault → Type 0
Ended l (Ok x) = Unit {0}
Ended l (Err f) = (number f.error ≡ 40) ⊎ (f ≡ raised Conditions UnexpectedEndOfInput l)

abbrev pub Tells : Defs → Result ℤ Fault → Type 0
Tells d (Ok v) = (n : ℕ) × (v ≡ flag (is_some (find d n)))
Tells d (Err f) = Unit {0}

abbrev pub found_in : Result (Option Token) Fault → Option Token
found_in (Ok o) = o
found_in (Err f) = None

abbrev pub Holding : Result Token Fault → Option Token → Type 0
Holding (Ok x) o = o ≡ Some x
Holding (Err f) o = Unit {0}

abbrev pub defines : Option ℕ → Type 0
defines (Some n) = n ≡ 13
defines None = Unit {0}

abbrev pub Named : Result Token Fault → Type 0
Named (Ok x) = defines (ident_of x)
Named (Err f) = Unit {0}

abbrev pub Settled : Result (Option Token) Fault → Type 0
Settled (Ok (Some x)) = defines (ident_of x)
Settled (Ok None) = Unit {0}
Settled (Err f) = Unit {0}

abbrev pub OfLevel : Option Level → Result (Option Punct) Fault → Type 0
OfLevel k (Ok (Some p)) = operator_level p ≡ k
OfLevel k (Ok None) = Unit {0}
OfLevel k (Err f) = Unit {0}

abbrev pub OfNumber : ℕ → Result (Option Punct) Fault → Type 0
OfNumber n (Ok (Some p)) = place (operator_level p) ≡ n
OfNumber n (Ok None) = Unit {0}
OfNumber n (Err f) = Unit {0}
