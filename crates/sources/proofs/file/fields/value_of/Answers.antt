-- Past the last punctuation there is none.
use Rattle.std.proofs.Common.{◌≡◌, ℕ, ◌<◌, ◌≤◌, Some, None, Option, ok_or, sym, ap, ◌∙◌, ⊎_elim, arith, rules}
use Rattle.std.specs.Result.{result_ok}
use Rattle.std.proofs.lemmas.Option.{slice_get_past}
use Rattle.std.proofs.lemmas.Bool.{cases_lt}
use Rattle.tokens.specs.declared.punct.Punct.{Punct}
use Rattle.tokens.specs.declared.punct.UnknownPunct.{UnknownPunct}
use Rattle.tokens.specs.Puncts.{all, punct_known}
use Rattle.sources.proofs.file.fields.value_of.Goals as goal

below : (n : ℕ) (p : Punct) → Some p ≡ result_ok (punct_known n) → n < 45
below n p e = ⊎_elim (λ h. h) (λ (h : 45 ≤ n). let z : Some p ≡ None = e ∙ ap (λ (o : Option Punct). result_ok {E = UnknownPunct} (ok_or o (record { number = n }))) (slice_get_past all n h) in absurd (grind arith)) (cases_lt n 45)

pub returns-in_ok-punct-in-3 : goal.returns-in_ok-punct-in-3
returns-in_ok-punct-in-3 c =
    let few : c.in_ok-number-in-3.number < 45 = below _ c.in_ok-punct-in-3.punct (sym c.in_ok-punct-in-3.was ∙ c.ok-in-3-2.ensures.value ∙ ap result_ok c.try_from-in-3-2.ensures) in
    search rules
