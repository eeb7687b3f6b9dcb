use Rattle.std.proofs.Common.{length}
use Rattle.reading.proofs.reader.Reader.put_until_newline.Given as goal

abbrev pub invariant-loop-token : goal.invariant-loop-token
invariant-loop-token g l = g.T.TokenStore.Grew l.initial.store l.store

abbrev pub decreases-loop-token : goal.decreases-loop-token
decreases-loop-token g l = length (g.S.Source.means l.self.source).rest
