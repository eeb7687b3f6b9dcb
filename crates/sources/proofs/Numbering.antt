-- Names numbered so far, and those still to be entered.
use Rattle.std.proofs.Common.{◌≡◌, ℕ, List, ◌++◌, Ok, Err, Result}
use Rattle.tokens.specs.declared.fault.Refusal.{Refusal}
use Rattle.sources.specs.Entering.{numbers_of, table_after, Grown}

abbrev pub behind : List ℕ → Result (List ℕ) Refusal → Result (List ℕ) Refusal
behind is (Err e) = Err e
behind is (Ok js) = Ok (is ++ js)

-- of the names `all`, entered into a table that held `old`, the numbers `is` are known, the table holds `ns`, and `left` are still to be entered
pub record Part (old all ns left : List (List ℕ)) (is : List ℕ) : Type 0 where
  pub numbers : behind is (numbers_of ns left) ≡ numbers_of old all
  pub table : table_after ns left ≡ table_after old all
  pub grown : Grown old ns
