use Rattle.std.proofs.Common.{◌∙◌, rules}
use Rattle.std.proofs.lemmas.Iterator.{YieldsList-from_slice}
use Rattle.std.proofs.lemmas.Iterator.Consumers.{YieldsList-from_filter, count_from_yields_List}
use borrow.Author.Tests.{tests}
use Rattle.defines.proofs.Meanings.{live_filter}
use Rattle.defines.specs.Held.{held}
use Rattle.defines.proofs.table.Defines.in_force.Goals as goal

pub returns : goal.returns
unfolding held
returns c =
    let s = c.args.self.now in
    count_from_yields_List c.filter.result _ c.count.ensures.ran (YieldsList-from_filter _ (λ d. d.in_force) (YieldsList-from_slice s.table.items (cc)) c.filter.ensures.closure (λ x b q k. search (rules, tests))) ∙ live_filter s.kept.items s.table.items
