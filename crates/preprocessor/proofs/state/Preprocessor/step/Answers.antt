use Rattle.std.proofs.Common.{vec_items}
use Rattle.defines.specs.Held.{held}
use Rattle.preprocessor.proofs.Steadiness.{steady_of, facts}
use Rattle.preprocessor.proofs.state.Preprocessor.step.Goals as goal

pub step-requires : goal.step-requires
step-requires g c =
    let s = c.args.self.now in
    steady_of s

pub invariant_of-self : goal.invariant_of-self
invariant_of-self g c =
    let s = c.args.self.now in
    let e = c.step.new.self in
    let p = e.processor.now in
    let t = facts (held e.feed.now.defines) (vec_items p.invocations) (vec_items p.below) p.phase (c.step.ensures.stepped.moved.holds (steady_of s)) in
    record { apart = t.apart; borne = t.borne; forced = t.forced; within = t.within; rising = t.rising; calls = t.calls; unused = t.unused; allowed = t.allowed; known = t.known; fresh = t.fresh; force = t.force }
