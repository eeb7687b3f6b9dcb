use Rattle.std.proofs.Common.{length}
use Rattle.reading.proofs.reader.Reader.consume_until_newline.Given as goal

abbrev pub decreases-loop : goal.decreases-loop
decreases-loop g l = length (g.S.Source.means l.self.source).rest
