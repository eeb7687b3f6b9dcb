use Rattle.std.proofs.Common.{rules}
use Rattle.conditions.proofs.Looking.{then_looked}
use Rattle.directives.proofs.Judging.{fresh_looked}
use Rattle.directives.proofs.processor.DirectiveProcessor.evaluate_if_expression.Goals as goal

pub returns-in_err-value-clause-stores : goal.returns-in_err-value-clause-stores
returns-in_err-value-clause-stores g c = let h = fresh_looked c.begin.ensures.processor c.evaluate_expression.ensures.looked in search (rules, h)

pub returns-in_err-expect_end-clause-stores : goal.returns-in_err-expect_end-clause-stores
returns-in_err-expect_end-clause-stores g c = let h = fresh_looked c.begin.ensures.processor (then_looked {t = c.evaluate_expression.new.self} c.evaluate_expression.ensures.looked c.expect_end.ensures) in search (rules, h)

pub returns-clause-stores : goal.returns-clause-stores
returns-clause-stores g c = let h = fresh_looked c.begin.ensures.processor (then_looked {t = c.evaluate_expression.new.self} c.evaluate_expression.ensures.looked c.expect_end.ensures) in search (rules, h)
