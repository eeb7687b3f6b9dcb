-- One record gives one token, or the file is refused.
use Rattle.std.proofs.Common.{◌+◌, drop, vec_items, sym, ap, ◌∙◌}
use Rattle.sources.specs.Fields.{tokens_of}
use Rattle.sources.proofs.Decoding.{behind, decoded}
use Rattle.sources.proofs.file.fields.decode.Goals as goal

pub loop-record-preserved : goal.loop-record-preserved
loop-record-preserved c =
    let on = decoded c.args.names c.as_chunks.result.0.now c.loop-record.record-index _ c.from.result (vec_items c.loop-record.out) c.loop-record-test.true c.from.ensures c.in_ok-token.token (sym c.in_ok-token.ensures.ok_part ∙ c.token_of.ensures) in
    ap (λ xs. behind xs (tokens_of c.args.names (drop (c.loop-record.record-index + 1) c.as_chunks.result.0.now))) c.in_ok-push.ensures.items ∙ on ∙ c.loop-record.invariant
