use Rattle.std.proofs.Common.{arith}
use Rattle.lists.proofs.list.list_run.Goals as goal

pub loop-token-smaller : goal.loop-token-smaller
loop-token-smaller g c = omega (arith, c.in-Ok-Some.ensures.pays, c.next.ensures.budget, c.next.new.self.meter.within)
