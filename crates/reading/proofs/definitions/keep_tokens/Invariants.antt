use Rattle.defines.specs.Held.{ReadOn}
use Rattle.reading.proofs.definitions.keep_tokens.Given as goal

abbrev pub invariant-loop-token : goal.invariant-loop-token
invariant-loop-token l = ReadOn l.initial.defines l.defines
