-- One word more.
use Rattle.std.proofs.Common.{map, fold, sym, ◌∙◌}
use Rattle.std.proofs.lemmas.List.{at_drop_all}
use Rattle.names.specs.Interning.{after}
use Rattle.names.proofs.Words.{next_word}
use Rattle.names.proofs.table.Names.enter_all.Goals as goal

pub loop-word-preserved : goal.loop-word-preserved
loop-word-preserved c = next_word c.args.words.now c.loop-word.self _ c.loop-word.word-index _ c.loop-word-test.true c.intern.ensures.after ∙ c.loop-word.invariant

pub returns : goal.returns
returns c = sym (at_drop_all (λ ws. fold after c.loop-word.self (map (λ w. w.now) ws)) c.args.words.now c.loop-word.word-index c.loop-word-test.false) ∙ c.loop-word.invariant
