-- More is read past the same mark.
use Rattle.std.proofs.Common.{◌≡◌, take, vec_items, ap, ◌∙◌, arith}
use Rattle.std.proofs.lemmas.List.{take_all}
use Rattle.defines.specs.declared.table.Defines.{Defines}
use Rattle.defines.specs.Held.{settled, ReadOn, Settled}

-- where nothing was being read before, all is as it was
pub unread : (r s t : Defines) → Settled r → ReadOn r s → vec_items t.kept ≡ settled s → vec_items t.kept ≡ vec_items r.kept
unread r s t z o e =
    e ∙ ap (λ n. take n (vec_items s.kept)) o.mark ∙ o.kept ∙ take_all r.mark (vec_items r.kept) (omega (arith, z, r.kept.ok.0))
