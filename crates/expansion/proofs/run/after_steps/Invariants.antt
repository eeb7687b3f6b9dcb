use Rattle.std.proofs.Common.{◌≡◌}
use Rattle.expansion.specs.Steps.{Ready}
use Rattle.expansion.proofs.run.after_steps.Given as goal

abbrev pub invariant-loop : goal.invariant-loop
invariant-loop g l = Ready g.F.Book.defs l.expander × (l.expander.processor.ghost_name ≡ l.initial.expander.processor.ghost_name) × (l.expander.feed.ghost_name ≡ l.initial.expander.feed.ghost_name)
