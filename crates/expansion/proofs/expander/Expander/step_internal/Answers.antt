use Rattle.std.proofs.Common.{vec_items}
use Rattle.stores.specs.Tank.{tank, read}
use Rattle.expansion.specs.Processor.{view}
use Rattle.expansion.proofs.Motions.{read_moved, input_moved}
use Rattle.expansion.proofs.Stepping.{lent_stepped}
use Rattle.expansion.proofs.expander.Expander.step_internal.Goals as goal

pub returns-then-is_expanding_define : goal.returns-then-is_expanding_define
returns-then-is_expanding_define g c =
    let s = c.args.self.now in
    lent_stepped s (read_moved _ (view s.processor.now) _ (tank s.meter.now) _ _ c.is_expanding_define.ensures c.if-is_expanding_define.true c.read_invocation.ensures)

pub returns-else-is_empty : goal.returns-else-is_empty
returns-else-is_empty g c =
    let s = c.args.self.now in
    let m = s.meter.now in
    lent_stepped s (input_moved _ (view s.processor.now) _ (tank m) (read (vec_items m.working) s.processor.now.level.input) c.read_input.ensures.after)
