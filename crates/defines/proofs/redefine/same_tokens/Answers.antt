use Rattle.std.proofs.Common.{◌≡◌, true, false, sym, rules, ◌∙◌}
use Rattle.std.proofs.lemmas.Iterator.{YieldsList-from_slice, YieldsList-from_zip, cases_from_all}
use borrow.Author.Tests.{tests}
use Rattle.defines.proofs.Sames.{alike, agreed, uneven}
use Rattle.defines.proofs.redefine.same_tokens.Goals as goal

pub returns-then-a-b : goal.returns-then-a-b
returns-then-a-b c = agreed c.args.a.now c.args.b.now c.all.result c.if-a-b.true (cases_from_all c.all.new.self _ _ (λ p. alike p ≡ true) (λ p. alike p ≡ false) c.all.ensures.ran (YieldsList-from_zip (YieldsList-from_slice c.args.a.now (cc)) (YieldsList-from_slice c.args.b.now (cc))) (λ x q k. search (rules, tests)) (λ x q k. search (rules, tests)))

pub returns-else-a-b : goal.returns-else-a-b
returns-else-a-b c = search (rules, c.if-a-b.false) ∙ sym (uneven c.args.a.now c.args.b.now c.if-a-b.false)
