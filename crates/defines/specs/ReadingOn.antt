-- More is read past the same mark: nothing, one reading after another, one token or none where there is no room.
use Rattle.std.specs.Prelude.{◌≡◌, Bool, true, false, cond, [], ◌∷◌, ◌++◌, take, vec_items, refl}
use Rattle.std.proofs.Common.{sym, ap, ◌∙◌, arith}
use Rattle.std.proofs.lemmas.List.{take-append-le}
use Rattle.tokens.specs.declared.token.Token.{Token}
use Rattle.defines.specs.declared.table.Defines.{Defines}
use Rattle.defines.specs.Held.{held, ReadOn}

pub read_none : (s : Defines) → ReadOn s s
read_none s = record { defs = refl; mark = refl; kept = refl }

pub read_then : (s t u : Defines) → ReadOn s t → ReadOn t u → ReadOn s u
read_then s t u a b = record {
  defs = b.defs ∙ a.defs;
  mark = b.mark ∙ a.mark;
  kept = ap (λ n. take n (vec_items u.kept)) (sym a.mark) ∙ b.kept ∙ ap (λ n. take n (vec_items t.kept)) a.mark ∙ a.kept;
}

-- one token more, or none where there is no room
pub read_more : (s t : Defines) (b : Bool) (x : Token) → held t ≡ held s → t.mark ≡ s.mark → vec_items t.kept ≡ cond b (vec_items s.kept ++ x ∷ []) (vec_items s.kept) → ReadOn s t
read_more s t true x d m k = record { defs = d; mark = m; kept = ap (take s.mark) k ∙ take-append-le s.mark (vec_items s.kept) (x ∷ []) (omega (arith, s.ordered, s.inside, s.kept.ok.0)) }
read_more s t false x d m k = record { defs = d; mark = m; kept = ap (take s.mark) k }
