use Rattle.stores.proofs.Laws.{is_latest}
use Rattle.stores.proofs.records.top.Goals as goal

pub returns : goal.returns
returns g c = is_latest _ _ c.last.ensures.item
