use Rattle.std.proofs.Common.{vec_items, refl, ◌∙◌, arith}
use Rattle.defines.specs.Held.{held}
use Rattle.defines.proofs.Rows.{entered_shelf, entered_within, entered_once}
use Rattle.defines.proofs.table.Defines.enter.Goals as goal

pub invariant_of-self : goal.invariant_of-self
unfolding held
invariant_of-self c =
    let s = c.args.self.now in
    let end = c.len-end.ensures in
    let kept = vec_items s.kept in
    let table = vec_items s.table in
    let pushed = c.push_reserved.ensures in
    record {
      room = s.room;
      spaces = omega (arith, pushed.capacity, s.spaces);
      small = s.small;
      few = omega (arith, pushed.len);
      ordered = omega arith;
      inside = omega (arith, end);
      slim = omega arith;
      within = entered_within kept table _ _ pushed.items s.mark c.len-end.result (omega (arith, s.ordered, s.inside)) (omega (arith, s.ordered, s.inside), omega (arith, s.slim), omega (arith, s.inside)) s.within;
      once = entered_once kept table _ _ pushed.items c.requires.free s.once;
    }

pub returns : goal.returns
unfolding held
returns c =
    let s = c.args.self.now in
    let end = c.len-end.ensures in
    record {
      defs = entered_shelf (vec_items s.kept) (vec_items s.table) _ _ c.push_reserved.ensures.items s.mark s.body c.len-end.result c.args.name c.args.function_like (end ∙ s.kept.ok.0) refl;
      kept = refl;
      mark = end;
      body = end;
    }
