use Rattle.std.proofs.Common.{sym, ◌∙◌}
use Rattle.defines.specs.Sounds.{table_len}
use Rattle.defines.proofs.table.Defines.accepted.Goals as goal

pub returns : goal.returns
returns c = c.len.ensures ∙ sym (table_len c.args.self.now)
