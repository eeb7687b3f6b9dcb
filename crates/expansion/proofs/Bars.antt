-- A name is barred where the search of the stack finds it.
use Rattle.std.proofs.Common.{arith, ◌≡◌, ℕ, ◌+◌, List, [], ◌∷◌, map, is_some, Some, refl}
use Rattle.std.proofs.lemmas.Grind.{common_steps}
use Rattle.stores.specs.Places.{place}
use Rattle.expansion.specs.declared.invocation.DefineInvocation.{DefineInvocation}
use Rattle.expansion.specs.Phases.{barred}

pub bars_is : (us : List DefineInvocation) (i n : ℕ) → is_some (place i n (map (λ u. Some u.name) us)) ≡ barred us n
bars_is [] i n = refl
bars_is (u ∷ us) i n = grind (arith, common_steps, bars_is us (i + 1) n)
