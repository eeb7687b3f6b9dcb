-- How looks compose.
use Rattle.std.proofs.Common.{refl, ◌∙◌, arith}
use Rattle.stores.specs.Tank.{tank}
use Rattle.books.specs.Book.{Defs}
use Rattle.expansion.specs.Processor.{view}
use Rattle.expansion.proofs.Motions.{none_moved, then_moved}
use Rattle.conditions.specs.declared.evaluator.Evaluator.{Evaluator}
use Rattle.conditions.specs.Looks.{Looked}

pub none_looked : {F : Type 0} {defs : F → Defs} {s : Evaluator F} → Looked defs s s
none_looked {F} {defs} {s} = record { moved = none_moved _ _ _; location = refl; zeros = refl; less = omega arith; parser = refl; lexer = refl; meter = refl }

pub then_looked : {F : Type 0} {defs : F → Defs} {s t u : Evaluator F} → Looked defs s t → Looked defs t u → Looked defs s u
then_looked {F} {defs} {s} {t} {u} a b = record {
  moved = then_moved _ _ _ _ (view t.parser.now.processor) _ _ (tank t.meter.now) _ a.moved b.moved;
  location = b.location ∙ a.location;
  zeros = b.zeros ∙ a.zeros;
  less = omega (arith, a.less, b.less);
  parser = b.parser ∙ a.parser;
  lexer = b.lexer ∙ a.lexer;
  meter = b.meter ∙ a.meter;
}

-- a level that has its left side, has gone some rounds, takes an operator and works out the right side
pub round_looked : {F : Type 0} {defs : F → Defs} {s t u v w : Evaluator F} → Looked defs s t → Looked defs t u → Looked defs u v → Looked defs v w → Looked defs s w
round_looked a b c d = then_looked (then_looked (then_looked a b) c) d
