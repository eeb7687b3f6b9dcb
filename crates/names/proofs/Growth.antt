-- The names only grow: those that there are keep their numbers.
use Rattle.std.proofs.Common.{◌≡◌, ℕ, Bool, true, false, cond, List, [], ◌∷◌, ◌++◌, length, take, Some, None, Option, refl, arith}
use Rattle.std.proofs.lemmas.List.{take_all, take_at}
use Rattle.names.specs.Interning.{seek, fits, room, extended, after}

pub after_front : (ns : List (List ℕ)) (b : List ℕ) → take (length ns) (after ns b) ≡ ns
after_front ns b = fitted (fits b)
  where
    same : take (length ns) ns ≡ ns
    same = take_all (length ns) ns (omega arith)

    roomed : (r : Bool) → take (length ns) (cond r (ns ++ b ∷ []) ns) ≡ ns
    roomed true = take_at ns (b ∷ []) (length ns) refl
    roomed false = same

    sought : (o : Option ℕ) → take (length ns) (extended o ns b) ≡ ns
    sought (Some k) = same
    sought None = roomed (room ns b)

    fitted : (f : Bool) → take (length ns) (cond f (extended (seek 0 ns b) ns b) ns) ≡ ns
    fitted true = sought (seek 0 ns b)
    fitted false = same
