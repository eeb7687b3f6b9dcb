use Rattle.conditions.proofs.Looking.{round_looked}
use Rattle.conditions.proofs.evaluator.Evaluator.+levels.Goals as goal

pub multiplicative-returns-in_err-right-clause-looked : goal.multiplicative-returns-in_err-right-clause-looked
multiplicative-returns-in_err-right-clause-looked g t c = round_looked c.unary.ensures.looked c.loop-op.invariant c.take_op.ensures.looked c.unary-in-Some.ensures.looked

pub multiplicative-returns-in_err-left-2-clause-looked : goal.multiplicative-returns-in_err-left-2-clause-looked
multiplicative-returns-in_err-left-2-clause-looked g t c = round_looked c.unary.ensures.looked c.loop-op.invariant c.take_op.ensures.looked c.unary-in-Some.ensures.looked

pub additive-returns-in_err-right-clause-looked : goal.additive-returns-in_err-right-clause-looked
additive-returns-in_err-right-clause-looked g t c = round_looked c.multiplicative.ensures.looked c.loop-op.invariant c.take_op.ensures.looked c.multiplicative-in-Some.ensures.looked

pub additive-returns-in_err-left-2-clause-looked : goal.additive-returns-in_err-left-2-clause-looked
additive-returns-in_err-left-2-clause-looked g t c = round_looked c.multiplicative.ensures.looked c.loop-op.invariant c.take_op.ensures.looked c.multiplicative-in-Some.ensures.looked

pub shift-returns-in_err-right-clause-looked : goal.shift-returns-in_err-right-clause-looked
shift-returns-in_err-right-clause-looked g t c = round_looked c.additive.ensures.looked c.loop-op.invariant c.take_op.ensures.looked c.additive-in-Some.ensures.looked

pub shift-returns-in_err-left-2-clause-looked : goal.shift-returns-in_err-left-2-clause-looked
shift-returns-in_err-left-2-clause-looked g t c = round_looked c.additive.ensures.looked c.loop-op.invariant c.take_op.ensures.looked c.additive-in-Some.ensures.looked

pub comparative-returns-in_err-right-clause-looked : goal.comparative-returns-in_err-right-clause-looked
comparative-returns-in_err-right-clause-looked g t c = round_looked c.shift.ensures.looked c.loop-op.invariant c.take_op.ensures.looked c.shift-in-Some.ensures.looked

pub comparative-returns-in_err-left-2-clause-looked : goal.comparative-returns-in_err-left-2-clause-looked
comparative-returns-in_err-left-2-clause-looked g t c = round_looked c.shift.ensures.looked c.loop-op.invariant c.take_op.ensures.looked c.shift-in-Some.ensures.looked

pub equality-returns-in_err-right-clause-looked : goal.equality-returns-in_err-right-clause-looked
equality-returns-in_err-right-clause-looked g t c = round_looked c.comparative.ensures.looked c.loop-op.invariant c.take_op.ensures.looked c.comparative-in-Some.ensures.looked

pub equality-returns-in_err-left-2-clause-looked : goal.equality-returns-in_err-left-2-clause-looked
equality-returns-in_err-left-2-clause-looked g t c = round_looked c.comparative.ensures.looked c.loop-op.invariant c.take_op.ensures.looked c.comparative-in-Some.ensures.looked

pub bit_and-returns-in_err-right-clause-looked : goal.bit_and-returns-in_err-right-clause-looked
bit_and-returns-in_err-right-clause-looked g t c = round_looked c.equality.ensures.looked c.loop-op.invariant c.take_op.ensures.looked c.equality-in-Some.ensures.looked

pub bit_and-returns-in_err-left-2-clause-looked : goal.bit_and-returns-in_err-left-2-clause-looked
bit_and-returns-in_err-left-2-clause-looked g t c = round_looked c.equality.ensures.looked c.loop-op.invariant c.take_op.ensures.looked c.equality-in-Some.ensures.looked

pub bit_xor-returns-in_err-right-clause-looked : goal.bit_xor-returns-in_err-right-clause-looked
bit_xor-returns-in_err-right-clause-looked g t c = round_looked c.bit_and.ensures.looked c.loop-op.invariant c.take_op.ensures.looked c.bit_and-in-Some.ensures.looked

pub bit_xor-returns-in_err-left-2-clause-looked : goal.bit_xor-returns-in_err-left-2-clause-looked
bit_xor-returns-in_err-left-2-clause-looked g t c = round_looked c.bit_and.ensures.looked c.loop-op.invariant c.take_op.ensures.looked c.bit_and-in-Some.ensures.looked

pub bit_or-returns-in_err-right-clause-looked : goal.bit_or-returns-in_err-right-clause-looked
bit_or-returns-in_err-right-clause-looked g t c = round_looked c.bit_xor.ensures.looked c.loop-op.invariant c.take_op.ensures.looked c.bit_xor-in-Some.ensures.looked

pub bit_or-returns-in_err-left-2-clause-looked : goal.bit_or-returns-in_err-left-2-clause-looked
bit_or-returns-in_err-left-2-clause-looked g t c = round_looked c.bit_xor.ensures.looked c.loop-op.invariant c.take_op.ensures.looked c.bit_xor-in-Some.ensures.looked

pub logical_and-returns-in_err-right-clause-looked : goal.logical_and-returns-in_err-right-clause-looked
logical_and-returns-in_err-right-clause-looked g t c = round_looked c.bit_or.ensures.looked c.loop-op.invariant c.take_op.ensures.looked c.bit_or-in-Some.ensures.looked

pub logical_and-returns-in_err-left-2-clause-looked : goal.logical_and-returns-in_err-left-2-clause-looked
logical_and-returns-in_err-left-2-clause-looked g t c = round_looked c.bit_or.ensures.looked c.loop-op.invariant c.take_op.ensures.looked c.bit_or-in-Some.ensures.looked

pub logical_or-returns-in_err-right-clause-looked : goal.logical_or-returns-in_err-right-clause-looked
logical_or-returns-in_err-right-clause-looked g t c = round_looked c.logical_and.ensures.looked c.loop-op.invariant c.take_op.ensures.looked c.logical_and-in-Some.ensures.looked

pub logical_or-returns-in_err-left-2-clause-looked : goal.logical_or-returns-in_err-left-2-clause-looked
logical_or-returns-in_err-left-2-clause-looked g t c = round_looked c.logical_and.ensures.looked c.loop-op.invariant c.take_op.ensures.looked c.logical_and-in-Some.ensures.looked
