use Rattle.std.proofs.Common.{vec_items, ◌∙◌}
use Rattle.defines.specs.Held.{held}
use Rattle.expansion.proofs.Counts.{sane_lawful}
use Rattle.preprocessor.proofs.Steadiness.{steady_of}
use Rattle.preprocessor.proofs.state.Preprocessor.names_in_expansion.Goals as goal

pub returns : goal.returns
returns g c =
    let s = c.args.self.now in
    record {
      count = c.len.ensures ∙ s.processor.invocations.ok.0;
      law = sane_lawful _ _ (vec_items s.processor.below) (steady_of s).0;
    }
