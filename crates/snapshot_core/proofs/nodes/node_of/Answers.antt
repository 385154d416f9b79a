use Rattle.std.proofs.Common.{rules}
use Rattle.byte_codec.specs.Codec.{Codec}
use Rattle.snapshot_codec.specs.Reads.{ReadsPart}
use Rattle.snapshot_core.specs.declared.nodes.NodeState.{NodeState}
use Rattle.snapshot_core.proofs.KeptRows.{read_in}
use Rattle.snapshot_core.proofs.nodes.node_of.Goals as goal

pub returns : goal.returns
returns c =
    read_in c.args.version (λ (codec : Codec NodeState). ReadsPart (λ x. (x.0, x.1.now)) c.state_of.result (codec.read c.args.bytes.now))
    c.args.scene.now c.args.node c.node_type.result c.list_kept.new.kept.items c.requires c.node_type.ensures (search rules) (search rules)
