use Rattle.std.proofs.Common.{rules}
use Rattle.std.proofs.lemmas.Iterator.{YieldsList-from_slice, IsFirst-from_position}
use borrow.Author.Tests.{tests}
use Rattle.stores.proofs.Laws.{Here, Elsewhere, borne, found}
use Rattle.stores.proofs.records.find.Goals as goal

pub returns-clause-value : goal.returns-clause-value
returns-clause-value g c =
    let key = g.T.Named.key in
    let xs = c.args.items.now in
    found key c.args.name xs c.position.result (IsFirst-from_position _ _ c.position.result (Here key c.args.name xs) (Elsewhere key c.args.name xs) c.position.ensures.ran (YieldsList-from_slice xs (cc)) (λ x q k. search (rules, tests, borne)) (λ x q k. search (rules, tests, borne)))
