use Rattle.std.proofs.Common.{length}
use Rattle.defines.specs.Held.{ReadOn}
use Rattle.reading.proofs.reader.Reader.parse_parameters.Given as goal

abbrev pub invariant-loop-token : goal.invariant-loop-token
invariant-loop-token g l = ReadOn l.initial.defines l.defines

abbrev pub decreases-loop-token : goal.decreases-loop-token
decreases-loop-token g l = length (g.S.Source.means l.self.source).rest
