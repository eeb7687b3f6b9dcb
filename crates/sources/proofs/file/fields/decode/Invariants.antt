-- The tokens so far, before those still to be decoded, are the file's.
use Rattle.std.proofs.Common.{◌≡◌, drop, vec_items}
use Rattle.sources.specs.Fields.{tokens_of}
use Rattle.sources.proofs.Decoding.{behind}
use Rattle.sources.proofs.file.fields.decode.Given as goal

abbrev pub invariant-loop-record : goal.invariant-loop-record
invariant-loop-record l = behind (vec_items l.out) (tokens_of l.names (drop l.record-index l.records)) ≡ tokens_of l.names l.records
