-- The bytes that are left hold the names still to be entered.
use Rattle.std.proofs.Common.{◌≤◌, map, length, sum, drop, vec_items}
use Rattle.sources.specs.Contents.{len_of, cut}
use Rattle.sources.proofs.Numbering.{Part}
use Rattle.sources.proofs.file.entering.number_names.Given as goal

abbrev pub invariant-loop-pair : goal.invariant-loop-pair
invariant-loop-pair l =
    (sum (map len_of (drop l.pair-index l.pairs)) ≤ length l.rest) × Part l.initial.table (cut (map len_of l.pairs) l.text) l.table (cut (map len_of (drop l.pair-index l.pairs)) l.rest) (vec_items l.numbers)
