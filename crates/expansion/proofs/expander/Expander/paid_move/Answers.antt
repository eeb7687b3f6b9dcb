use Rattle.std.proofs.Common.{◌≡◌, true, nat_lt}
use Rattle.stores.specs.Tank.{tank}
use Rattle.expansion.proofs.Motions.{charged_moved}
use Rattle.expansion.proofs.Stepping.{lent, lent_stepped, then_stepped}
use Rattle.expansion.proofs.expander.Expander.paid_move.Goals as goal

pub returns-clause-stepped : goal.returns-clause-stepped
returns-clause-stepped g c =
    let s = c.args.self.now in
    let m = c.spend.new.self in
    let test : nat_lt s.meter.now.moves s.meter.now.budget ≡ true = cc (c.spend.ensures.test, c.in_ok-map_err.ensures.variant) in
    then_stepped {t = lent s s.processor.now s.feed.now m} (lent_stepped s (charged_moved _ _ (tank s.meter.now) (tank m) _ test c.spend.ensures.after)) c.move_on.ensures
