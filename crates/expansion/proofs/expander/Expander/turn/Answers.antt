use Rattle.std.proofs.Common.{◌<◌, arith}
use Rattle.stores.specs.Tank.{tank}
use Rattle.expansion.specs.Processor.{view}
use Rattle.expansion.proofs.Motions.{met_moved, paid}
use Rattle.expansion.proofs.Stepping.{lent_stepped, then_stepped}
use Rattle.expansion.proofs.expander.Expander.turn.Goals as goal

pub returns-in-Ok : goal.returns-in-Ok
returns-in-Ok g c =
    let s = c.paid_move.new.self in
    let met = met_moved _ (view s.processor.now) (tank s.meter.now) _ _ _ _ c.meet.ensures in
    record {
      stepped = then_stepped {t = s} c.paid_move.ensures.stepped (lent_stepped s met);
      pays =
          let t = tank c.args.self.now.meter.now in
          let later : t.moves < c.meet.new.meter.moves = omega (arith, c.in-Ok.ensures.pays, met.went.moves) in
          paid c.meet.result t (tank c.meet.new.meter) later;
    }
