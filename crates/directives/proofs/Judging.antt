-- A condition's processor begins anew, so it only adds to the stores.
use Rattle.std.proofs.Common.{◌≡◌, List, length, ap, ◌∙◌, arith}
use Rattle.std.proofs.lemmas.List.{take_all}
use Rattle.stores.specs.declared.span.Span.{Span}
use Rattle.stores.specs.Tank.{Tank, tank, Grows}
use Rattle.books.specs.Book.{Defs}
use Rattle.expansion.specs.Processor.{Proc, view, fresh}
use Rattle.expansion.specs.Sane.{Above}
use Rattle.expansion.specs.Moved.{Moved}
use Rattle.conditions.specs.declared.evaluator.Evaluator.{Evaluator}
use Rattle.conditions.specs.Looks.{Looked}

pub fresh_grows : (d e : Defs) (p q : Proc) (t u : Tank) (gs : List Span) → p ≡ fresh gs → Moved d p t e q u → Grows t u
fresh_grows d e p q t u gs f m =
    let b = length t.building in
    let none : length p.below ≡ 0 = ap (λ x. length x.below) f in
    let above : Above b p t = record { long = omega arith; here = λ l. absurd (omega arith); deep = λ i o l. absurd (omega arith) } in
    let k = m.went.keeps b above in
    record { moves = m.went.moves; budget = m.went.budget; working = k.fronts.working; building = k.fronts.building ∙ take_all b t.building (omega arith) }

-- the same of an evaluator
pub fresh_looked : {F : Type 0} {defs : F → Defs} {s t : Evaluator F} {gs : List Span} → view s.parser.now.processor ≡ fresh gs → Looked defs s t → Grows (tank s.meter.now) (tank t.meter.now)
fresh_looked f looked = fresh_grows _ _ _ _ _ _ _ f looked.moved
