use Rattle.conditions.proofs.Looking.{then_looked}
use Rattle.directives.proofs.conditional.pass_second_expression.Goals as goal

pub returns-in_err-evaluate_expression : goal.returns-in_err-evaluate_expression
returns-in_err-evaluate_expression g c = then_looked {t = c.peek.new.self} c.peek.ensures.looked c.evaluate_expression.ensures.looked

pub returns-in_ok-evaluate_expression : goal.returns-in_ok-evaluate_expression
returns-in_ok-evaluate_expression g c = then_looked {t = c.peek.new.self} c.peek.ensures.looked c.evaluate_expression.ensures.looked
