-- One token's marks decide, then those after it.
use Rattle.std.proofs.Common.{sym, ◌∙◌}
use Rattle.std.proofs.lemmas.List.{at_drop_all}
use Rattle.sources.proofs.Laws.{keeps, keeps_lawful, keeps_stop}
use Rattle.sources.proofs.file.laws.keep_laws.Goals as goal

pub returns-then-not-may_follow : goal.returns-then-not-may_follow
returns-then-not-may_follow c =
    keeps_stop c.loop-token.seen c.loop-token.fresh c.args.tokens.now c.loop-token.token-index _ c.loop-token-test.true c.if-not-may_follow.ensures ∙ c.loop-token.invariant ∙ keeps_lawful c.args.tokens.now

pub returns : goal.returns
returns c =
    sym (at_drop_all (keeps c.loop-token.seen c.loop-token.fresh) c.args.tokens.now c.loop-token.token-index c.loop-token-test.false) ∙ c.loop-token.invariant ∙ keeps_lawful c.args.tokens.now
