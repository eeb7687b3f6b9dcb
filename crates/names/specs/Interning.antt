-- What entering a name answers, and which names there are after it.
-- seek i ns b: the first place that holds b, where the list begins at place i
-- fits b: a name has 1 to 1,024 bytes; room ns b: with b there are at most 1,024 names and 16,384 bytes
-- answer ns b: the number of the name, or why it is refused; after ns b: the names after that, where a refusal changes nothing
-- SameNumber: two names, one entered after the other, get the same number exactly when all their bytes agree
use Rattle.std.specs.Prelude.{◌≡◌, ℕ, ◌+◌, Bool, false, cond, List, [], ◌∷◌, ◌++◌, length, Some, None, Ok, Err, Option, Result, ◌==◌, nat_le, nat_lt}
use Rattle.std.specs.Str.{bytes_eq}
use Rattle.std.specs.List.{concat}
use Rattle.tokens.specs.declared.fault.Refusal.{Refusal}
use Rattle.tokens.specs.declared.fault.Refusal.TheVariants.{NameLength, NamesFull}
use Rattle.names.specs.Spans.{Distinct}

abbrev pub seek : ℕ → List (List ℕ) → List ℕ → Option ℕ
seek i [] b = None
seek i (n ∷ ns) b = cond (bytes_eq n b) (Some i) (seek (i + 1) ns b)

abbrev pub fits : List ℕ → Bool
fits b = cond (length b == 0) false (nat_le (length b) 1024)

abbrev pub room : List (List ℕ) → List ℕ → Bool
room ns b = cond (nat_lt (length ns) 1024) (nat_le (length (concat ns) + length b) 16384) false

abbrev pub entered : Option ℕ → List (List ℕ) → List ℕ → Result ℕ Refusal
entered (Some i) ns b = Ok i
entered None ns b = cond (room ns b) (Ok (length ns)) (Err NamesFull)

abbrev pub answer : List (List ℕ) → List ℕ → Result ℕ Refusal
answer ns b = cond (fits b) (entered (seek 0 ns b) ns b) (Err NameLength)

abbrev pub extended : Option ℕ → List (List ℕ) → List ℕ → List (List ℕ)
extended (Some i) ns b = ns
extended None ns b = cond (room ns b) (ns ++ b ∷ []) ns

abbrev pub after : List (List ℕ) → List ℕ → List (List ℕ)
after ns b = cond (fits b) (extended (seek 0 ns b) ns b) ns

abbrev pub SameNumber : Type 0
SameNumber =
    (ns : List (List ℕ)) (a b : List ℕ) (i j : ℕ) → Distinct ns → answer ns a ≡ Ok i → answer (after ns a) b ≡ Ok j → (i ≡ j → a ≡ b) × (a ≡ b → i ≡ j)
