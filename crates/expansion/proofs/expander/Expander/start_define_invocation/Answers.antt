use Rattle.stores.specs.Tank.{tank}
use Rattle.expansion.specs.Processor.{view}
use Rattle.expansion.proofs.Motions.{begun_moved}
use Rattle.expansion.proofs.Stepping.{lent, lent_stepped, then_stepped}
use Rattle.expansion.proofs.expander.Expander.start_define_invocation.Goals as goal

pub step-requires : goal.step-requires
step-requires g c =
    let s = c.args.self.now in
    (begun_moved (g.F.Book.defs s.feed.now) (view s.processor.now) (tank s.meter.now) _ _ _ _ _ c.begin.ensures).holds c.requires

pub returns-in-Some : goal.returns-in-Some
returns-in-Some g c =
    let s = c.args.self.now in
    lent_stepped s (begun_moved (g.F.Book.defs s.feed.now) (view s.processor.now) (tank s.meter.now) _ _ _ _ _ c.begin.ensures)

pub returns-in-None : goal.returns-in-None
returns-in-None g c =
    let s = c.args.self.now in
    then_stepped {t = lent s c.begin.new.self s.feed.now c.begin.new.meter} (lent_stepped s (begun_moved (g.F.Book.defs s.feed.now) (view s.processor.now) (tank s.meter.now) _ _ _ _ _ c.begin.ensures)) c.step.ensures.stepped
