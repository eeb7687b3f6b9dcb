use Rattle.std.proofs.cmp.Tests.{ltb_from_iff}
use Rattle.std.proofs.Common.{ltb, ap, ◌∙◌, rules}
use Rattle.stores.proofs.Laws.{taken_off}
use Rattle.stores.proofs.records.pop.Goals as goal

pub returns : goal.returns
returns g c = record {
  items = c.pop.ensures.items;
  front = c.pop.ensures.rest;
  last = taken_off _ _ _ c.pop.ensures.items ((ltb_from_iff c.pop.ensures.variant) ∙ ap (ltb 0) c.args.items.now.ok.0);
  none = search rules;
  capacity = c.pop.ensures.capacity;
}
