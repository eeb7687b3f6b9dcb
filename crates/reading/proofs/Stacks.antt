-- Lists of blocks.
use Rattle.std.proofs.Common.{◌≡◌, ◌≤◌, Bool, true, false, cond, ltb, List, [], ◌∷◌, ◌++◌, length, sym, ap, arith, ltb-true}
use Rattle.std.proofs.lemmas.List.{length_push}
use Rattle.reading.specs.declared.blocks.DirectiveBlock.{DirectiveBlock}

pub few_pushed : (b : Bool) (xs ys : List DirectiveBlock) (x : DirectiveBlock) → ys ≡ cond b (xs ++ x ∷ []) xs → b ≡ ltb (length xs) 64 → length xs ≤ 64 → length ys ≤ 64
few_pushed true xs ys x e t l = omega (arith, ap length e, length_push xs x, ltb-true (length xs) 64 (sym t))
few_pushed false xs ys x e t l = omega (arith, ap length e)
