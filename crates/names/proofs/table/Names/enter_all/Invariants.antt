-- The words that are left make of the table what all make of it.
use Rattle.std.proofs.Common.{◌≡◌, map, drop, fold}
use Rattle.names.specs.Interning.{after}
use Rattle.names.proofs.table.Names.enter_all.Given as goal

abbrev pub invariant-loop-word : goal.invariant-loop-word
invariant-loop-word l =
    fold after l.self (map (λ w. w.now) (drop l.word-index l.words)) ≡ fold after l.initial.self (map (λ w. w.now) l.words)
