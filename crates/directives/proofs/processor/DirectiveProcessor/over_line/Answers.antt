use Rattle.stores.specs.Tank.{tank}
use Rattle.stores.specs.Growing.{grows_on, given_back}
use Rattle.directives.proofs.processor.DirectiveProcessor.over_line.Goals as goal

pub returns : goal.returns
returns g c =
    let t = tank c.args.meter.now in
    let w = c.requires.works _ _ _ _ _ _ c.work-worked.ensures in
    record {
      defs = w.defs;
      segments = w.segments;
      stores = given_back t (tank c.work-worked.new.arg4) _ c.mark-mark.result c.mark-mark.ensures (grows_on t (tank c.gather_until_newline.new.meter) _ c.gather_until_newline.ensures w.stores) c.drop-guard-2.ensures;
    }
