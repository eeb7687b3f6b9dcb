use Rattle.std.proofs.Common.{◌-◌, drop, vec_items, refl, arith}
use Rattle.std.proofs.lemmas.List.{length-take, length-drop}
use Rattle.defines.proofs.table.Defines.pending_parameters.Goals as goal

pub returns : goal.returns
returns c =
    let s = c.args.self.now in
    record { count = refl; value = omega (arith, s.inside, s.kept.ok.0, length-take (s.body - s.mark) (drop s.mark (vec_items s.kept)), length-drop s.mark (vec_items s.kept)) }
