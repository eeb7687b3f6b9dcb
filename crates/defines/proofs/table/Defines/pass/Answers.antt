use Rattle.std.proofs.Common.{◌-◌, vec_items, refl, ap, ◌∙◌}
use Rattle.defines.proofs.Fronts.{past_mark}
use Rattle.defines.specs.Held.{held}
use Rattle.defines.proofs.table.Defines.pass.Goals as goal

pub returns : goal.returns
unfolding held
returns c =
    let s = c.args.self.now in
    let end = c.len-end.ensures in
    record {
      value = ap (λ n. record { start = s.mark; len = n - s.mark }) end;
      tokens = past_mark (vec_items s.kept) _ s.mark (end ∙ s.kept.ok.0);
      defs = refl;
      kept = refl;
      mark = end;
      body = end;
    }
