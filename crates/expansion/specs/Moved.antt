-- Moved d p t e q u: from the book d, the processor p and the meter t to e, q and u: the invariant of the macros in
--   expansion is kept, no handle has changed, no move is taken back, and what was stored before stays in front
-- Pays a t u: where the turn's answer a is no fault, a move was made; PaysFor a t u: the same of a step's answer
use Rattle.std.specs.Prelude.{◌<◌, Some, None, Ok, Err, Option}
use Rattle.tokens.specs.declared.fault.StepExit.TheVariants.{Error, Continue, Finished}
use Rattle.stores.specs.Tank.{Tank}
use Rattle.books.specs.Book.{Defs, Grown}
use Rattle.expansion.specs.Processor.{Proc, Answer}
use Rattle.expansion.specs.Sane.{Holds, Went}

pub record Moved (d : Defs) (p : Proc) (t : Tank) (e : Defs) (q : Proc) (u : Tank) : Type 0 where
  pub holds : Holds d p → Holds e q
  pub went : Went p t q u
  pub grown : Grown d e

abbrev pub PaysFor : Answer → Tank → Tank → Type 0
PaysFor (Ok x) t u = t.moves < u.moves
PaysFor (Err Continue) t u = t.moves < u.moves
PaysFor (Err Finished) t u = t.moves < u.moves
PaysFor (Err (Error f)) t u = Unit {0}

abbrev pub Pays : Option Answer → Tank → Tank → Type 0
Pays (Some a) t u = PaysFor a t u
Pays None t u = t.moves < u.moves
