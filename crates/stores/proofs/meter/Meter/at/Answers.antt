use Rattle.std.proofs.Common.{ap, ◌∙◌}
use Rattle.std.specs.List.{slice_get}
use Rattle.stores.specs.Lent.{lent_at}
use Rattle.stores.proofs.meter.Meter.at.Goals as goal

pub returns : goal.returns
returns c = c.copied.ensures ∙ lent_at c.deref.result.now c.args.i c.get.result c.get.ensures.lookup ∙ ap (λ xs. slice_get xs c.args.i) c.deref.ensures.value
