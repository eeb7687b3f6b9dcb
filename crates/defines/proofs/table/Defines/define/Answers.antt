use Rattle.std.proofs.Common.{◌≡◌, get_or, vec_items, rules}
use Rattle.defines.proofs.Meanings.{meant}
use Rattle.defines.specs.Parts.{vacant}
use Rattle.defines.specs.Held.{held}
use Rattle.defines.proofs.table.Defines.define.Goals as goal

pub returns-clause-means : goal.returns-clause-means
unfolding held
returns-clause-means c =
    let s = c.args.self.now in
    let v : c.unwrap_or_default.result ≡ get_or (vec_items s.table) c.args.handle vacant = search rules in
    meant (vec_items s.kept) (vec_items s.table) c.args.handle c.unwrap_or_default.result v
