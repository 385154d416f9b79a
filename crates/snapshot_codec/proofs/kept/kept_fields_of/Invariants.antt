use Rattle.std.proofs.Common.{◌≡◌, drop}
use Rattle.byte_codec.specs.Codec.{rows_at}
use Rattle.snapshot_codec.specs.Fields.{kept_codec}
use Rattle.snapshot_codec.specs.Reads.{behind}
use Rattle.snapshot_codec.proofs.kept.kept_fields_of.Given as goal

abbrev pub invariant-loop-field : goal.invariant-loop-field
invariant-loop-field l = behind l.values (rows_at kept_codec (drop l.field-index l.fields) l.rest) ≡ rows_at kept_codec l.fields l.bytes
