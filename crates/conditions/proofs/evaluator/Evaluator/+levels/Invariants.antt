use Rattle.std.proofs.Common.{◌+◌, ◌-◌, ◌*◌}
use Rattle.conditions.specs.Looks.{remains, Looked}
use Rattle.conditions.proofs.evaluator.Evaluator.+levels.Given as goal

abbrev pub decreases-atom : goal.decreases-atom
decreases-atom g l = (64 - l.depth) * 12

abbrev pub decreases-unary : goal.decreases-unary
decreases-unary g l = (64 - l.depth) * 12 + 1

abbrev pub decreases-multiplicative : goal.decreases-multiplicative
decreases-multiplicative g l = (64 - l.depth) * 12 + 2

abbrev pub invariant-multiplicative-loop-op : goal.invariant-multiplicative-loop-op
invariant-multiplicative-loop-op g l = Looked g.F.Book.defs l.initial.self l.self

abbrev pub decreases-multiplicative-loop-op : goal.decreases-multiplicative-loop-op
decreases-multiplicative-loop-op g l = remains l.self

abbrev pub decreases-additive : goal.decreases-additive
decreases-additive g l = (64 - l.depth) * 12 + 3

abbrev pub invariant-additive-loop-op : goal.invariant-additive-loop-op
invariant-additive-loop-op g l = Looked g.F.Book.defs l.initial.self l.self

abbrev pub decreases-additive-loop-op : goal.decreases-additive-loop-op
decreases-additive-loop-op g l = remains l.self

abbrev pub decreases-shift : goal.decreases-shift
decreases-shift g l = (64 - l.depth) * 12 + 4

abbrev pub invariant-shift-loop-op : goal.invariant-shift-loop-op
invariant-shift-loop-op g l = Looked g.F.Book.defs l.initial.self l.self

abbrev pub decreases-shift-loop-op : goal.decreases-shift-loop-op
decreases-shift-loop-op g l = remains l.self

abbrev pub decreases-comparative : goal.decreases-comparative
decreases-comparative g l = (64 - l.depth) * 12 + 5

abbrev pub invariant-comparative-loop-op : goal.invariant-comparative-loop-op
invariant-comparative-loop-op g l = Looked g.F.Book.defs l.initial.self l.self

abbrev pub decreases-comparative-loop-op : goal.decreases-comparative-loop-op
decreases-comparative-loop-op g l = remains l.self

abbrev pub decreases-equality : goal.decreases-equality
decreases-equality g l = (64 - l.depth) * 12 + 6

abbrev pub invariant-equality-loop-op : goal.invariant-equality-loop-op
invariant-equality-loop-op g l = Looked g.F.Book.defs l.initial.self l.self

abbrev pub decreases-equality-loop-op : goal.decreases-equality-loop-op
decreases-equality-loop-op g l = remains l.self

abbrev pub decreases-bit_and : goal.decreases-bit_and
decreases-bit_and g l = (64 - l.depth) * 12 + 7

abbrev pub invariant-bit_and-loop-op : goal.invariant-bit_and-loop-op
invariant-bit_and-loop-op g l = Looked g.F.Book.defs l.initial.self l.self

abbrev pub decreases-bit_and-loop-op : goal.decreases-bit_and-loop-op
decreases-bit_and-loop-op g l = remains l.self

abbrev pub decreases-bit_xor : goal.decreases-bit_xor
decreases-bit_xor g l = (64 - l.depth) * 12 + 8

abbrev pub invariant-bit_xor-loop-op : goal.invariant-bit_xor-loop-op
invariant-bit_xor-loop-op g l = Looked g.F.Book.defs l.initial.self l.self

abbrev pub decreases-bit_xor-loop-op : goal.decreases-bit_xor-loop-op
decreases-bit_xor-loop-op g l = remains l.self

abbrev pub decreases-bit_or : goal.decreases-bit_or
decreases-bit_or g l = (64 - l.depth) * 12 + 9

abbrev pub invariant-bit_or-loop-op : goal.invariant-bit_or-loop-op
invariant-bit_or-loop-op g l = Looked g.F.Book.defs l.initial.self l.self

abbrev pub decreases-bit_or-loop-op : goal.decreases-bit_or-loop-op
decreases-bit_or-loop-op g l = remains l.self

abbrev pub decreases-logical_and : goal.decreases-logical_and
decreases-logical_and g l = (64 - l.depth) * 12 + 10

abbrev pub invariant-logical_and-loop-op : goal.invariant-logical_and-loop-op
invariant-logical_and-loop-op g l = Looked g.F.Book.defs l.initial.self l.self

abbrev pub decreases-logical_and-loop-op : goal.decreases-logical_and-loop-op
decreases-logical_and-loop-op g l = remains l.self

abbrev pub decreases-logical_or : goal.decreases-logical_or
decreases-logical_or g l = (64 - l.depth) * 12 + 11

abbrev pub invariant-logical_or-loop-op : goal.invariant-logical_or-loop-op
invariant-logical_or-loop-op g l = Looked g.F.Book.defs l.initial.self l.self

abbrev pub decreases-logical_or-loop-op : goal.decreases-logical_or-loop-op
decreases-logical_or-loop-op g l = remains l.self
