-- Tank: the plain data of a meter
-- tank m: what a meter holds; roomy t: one token more may be stored
-- stored t x, built t x: a gathered token, a token that a level puts out
-- shifted t k: what was built from k on becomes a part of the working store; whole k t: that part
-- spending t n: n moves made in all; emptied t: nothing stored; cut t w b: the first w working and the first b built tokens
-- Spends t u: u has t's tokens and budget, and no fewer moves made
-- Grows t u: u has t's budget, no fewer moves made, and t's tokens in front of its own
use Rattle.std.specs.Prelude.{◌≡◌, ℕ, ◌+◌, ◌-◌, ◌≤◌, Bool, cond, List, [], ◌∷◌, ◌++◌, length, take, drop, None, vec_items, Option, nat_lt}
use Rattle.std.specs.List.{slice_get}
use Rattle.tokens.specs.declared.token.Token.{Token}
use Rattle.stores.specs.declared.span.Span.{Span}
use Rattle.stores.specs.declared.meter.Meter.{Meter}

pub record Tank : Type 0 where
  pub moves : ℕ
  pub budget : ℕ
  pub working : List Token
  pub building : List Token

abbrev pub tank : Meter → Tank
tank m = record { moves = m.moves; budget = m.budget; working = vec_items m.working; building = vec_items m.building }

abbrev pub roomy : Tank → Bool
roomy t = nat_lt (length t.working + length t.building) 2048

abbrev pub stored : Tank → Token → Tank
stored t x = record { moves = t.moves; budget = t.budget; working = t.working ++ x ∷ []; building = t.building }

abbrev pub built : Tank → Token → Tank
built t x = record { moves = t.moves; budget = t.budget; working = t.working; building = t.building ++ x ∷ [] }

abbrev pub shifted : Tank → ℕ → Tank
shifted t k = record { moves = t.moves; budget = t.budget; working = t.working ++ drop k t.building; building = take k t.building }

abbrev pub whole : ℕ → Tank → Span
whole k t = record { from = length t.working; to = length t.working + (length t.building - k) }

abbrev pub spending : Tank → ℕ → Tank
spending t n = record { moves = n; budget = t.budget; working = t.working; building = t.building }

abbrev pub emptied : Tank → Tank
emptied t = record { moves = t.moves; budget = t.budget; working = []; building = [] }

abbrev pub cut : Tank → ℕ → ℕ → Tank
cut t w b = record { moves = t.moves; budget = t.budget; working = take w t.working; building = take b t.building }

abbrev pub fresh : ℕ → Tank
fresh n = record { moves = 0; budget = n; working = []; building = [] }

-- the token at the start of a part
abbrev pub read : List Token → Span → Option Token
read ws s = cond (nat_lt s.from s.to) (slice_get ws s.from) None

pub record Spends (t u : Tank) : Type 0 where
  pub moves : t.moves ≤ u.moves
  pub budget : u.budget ≡ t.budget
  pub working : u.working ≡ t.working
  pub building : u.building ≡ t.building

pub record Grows (t u : Tank) : Type 0 where
  pub moves : t.moves ≤ u.moves
  pub budget : u.budget ≡ t.budget
  pub working : take (length t.working) u.working ≡ t.working
  pub building : take (length t.building) u.building ≡ t.building
