-- What is stored before stays in front, and is all that a cut back to the mark leaves.
use Rattle.std.proofs.Common.{◌≡◌, ◌≤◌, List, length, take, sym, refl, ap, ◌∙◌, subst, arith}
use Rattle.std.proofs.lemmas.List.{take_all, take-take, length-take}
use Rattle.tokens.specs.declared.token.Token.{Token}
use Rattle.stores.specs.declared.guard.Mark.{Mark}
use Rattle.stores.specs.Tank.{Tank, cut, Spends, Grows}
use Rattle.stores.specs.Marks.{marked}

front_on : (xs ys zs : List Token) → take (length xs) ys ≡ xs → take (length ys) zs ≡ ys → take (length xs) zs ≡ xs
front_on xs ys zs f g =
    let l : length xs ≤ length ys = omega (arith, ap length f, length-take (length xs) ys) in
    sym (take-take (length xs) (length ys) zs l) ∙ ap (take (length xs)) g ∙ f

pub grows_same : (t : Tank) → Grows t t
grows_same t = record {
  moves = omega arith;
  budget = refl;
  working = take_all (length t.working) t.working (omega arith);
  building = take_all (length t.building) t.building (omega arith);
}

pub grows_on : (t u v : Tank) → Grows t u → Grows u v → Grows t v
grows_on t u v f g = record {
  moves = omega (arith, f.moves, g.moves);
  budget = g.budget ∙ f.budget;
  working = front_on t.working u.working v.working f.working g.working;
  building = front_on t.building u.building v.building f.building g.building;
}

-- cut back to the mark, only moves are gone
pub given_back : (t u v : Tank) (m : Mark) → m ≡ marked t → Grows t u → v ≡ cut u m.working m.building → Spends t v
given_back t u v m e f g =
    let h : v ≡ cut u (length t.working) (length t.building) = g ∙ ap (λ k. cut u k.working k.building) e in
    subst (Spends t) (sym h) (record { moves = f.moves; budget = f.budget; working = f.working; building = f.building })

pub spends_same : (t : Tank) → Spends t t
spends_same t = record { moves = omega arith; budget = refl; working = refl; building = refl }
