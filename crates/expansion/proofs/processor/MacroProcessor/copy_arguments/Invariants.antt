use Rattle.std.proofs.Common.{◌≡◌, vec_items}
use Rattle.expansion.specs.Processor.{view, argued}
use Rattle.expansion.specs.Arguments.{copied}
use Rattle.expansion.proofs.processor.MacroProcessor.copy_arguments.Given as goal

abbrev pub invariant-loop-i : goal.invariant-loop-i
invariant-loop-i l = view l.self ≡ argued (view l.initial.self) (copied (vec_items l.initial.self.arguments) l.from l.to l.i)
