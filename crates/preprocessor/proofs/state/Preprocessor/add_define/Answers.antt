use Rattle.std.proofs.Common.{vec_items}
use Rattle.defines.specs.Held.{held}
use Rattle.expansion.specs.Processor.{view}
use Rattle.expansion.proofs.Stacks.{host_holds}
use Rattle.preprocessor.proofs.Steadiness.{steady_of, facts}
use Rattle.preprocessor.proofs.state.Preprocessor.add_define.Goals as goal

pub invariant_of-self : goal.invariant_of-self
invariant_of-self g c =
    let s = c.args.self.now in
    let t = facts (held c.add_define.new.self.defines) (vec_items s.processor.invocations) (vec_items s.processor.below) s.processor.phase
    (host_holds (held s.directives.defines) (held c.add_define.new.self.defines) (view s.processor) c.add_define.ensures.handles c.add_define.ensures.names
    (steady_of s)) in
    record { apart = t.apart; borne = t.borne; forced = t.forced; within = t.within; rising = t.rising; calls = t.calls; unused = t.unused; allowed = t.allowed; known = t.known; fresh = t.fresh; force = t.force }
