use Rattle.std.proofs.Common.{ltb, ap, ◌∙◌, arith}
use Rattle.reading.proofs.Stacks.{few_pushed}
use Rattle.reading.proofs.blocks.Blocks.begin.Goals as goal

pub invariant_of-self : goal.invariant_of-self
invariant_of-self c =
    let s = c.args.self.now.stack in
    let few = few_pushed _ _ _ _ c.push-pushed.ensures.items (c.push-pushed.ensures.test ∙ ap (λ n. ltb n 64) s.ok.0) (omega (arith, s.ok.0, c.args.self.now.few)) in
    record { room = omega (arith, c.push-pushed.ensures.capacity, c.args.self.now.room); few = omega (arith, few, c.push-pushed.new.items.ok.0) }
