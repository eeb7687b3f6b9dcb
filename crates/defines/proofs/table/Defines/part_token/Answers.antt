use Rattle.std.proofs.Common.{◌≡◌, ◌+◌, ◌∙◌, sym, ap, arith}
use Rattle.std.specs.List.{slice_get}
use Rattle.stores.specs.Lent.{lent_at}
use Rattle.defines.proofs.Meanings.{part_get, part_len, part_rest, token_past}
use Rattle.defines.proofs.table.Defines.part_token.Goals as goal

pub returns-else-i-part : goal.returns-else-i-part
returns-else-i-part c =
    let kept = c.args.self.now.kept.items in
    let long = part_len kept c.args.part c.args.i in
    token_past kept c.args.part c.args.i (omega (arith, long, c.if-i-part.false))

pub returns-in_ok-checked_add : goal.returns-in_ok-checked_add
returns-in_ok-checked_add c =
    let kept = c.args.self.now.kept.items in
    let at = c.in_ok-checked_add.field-0 in
    let same : at ≡ c.args.part.start + c.args.i = c.in_ok-checked_add.ensures.1 in
    c.copied.ensures ∙ lent_at c.deref.result.now at c.get.result c.get.ensures.lookup ∙ ap (λ xs. slice_get xs at) c.deref.ensures.value ∙ ap (slice_get kept) same ∙ sym (part_get kept c.args.part c.args.i c.if-i-part.true)

pub returns-in_err-checked_add : goal.returns-in_err-checked_add
returns-in_err-checked_add c =
    let kept = c.args.self.now.kept.items in
    let rest = part_rest kept c.args.part c.args.i in
    c.from_residual.ensures ∙ token_past kept c.args.part c.args.i (omega (arith, rest, c.args.self.now.small, c.args.self.now.kept.ok.0, c.in_err-checked_add.ensures))
