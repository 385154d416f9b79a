-- What was added, in the terms of the definition.
use Rattle.std.specs.Prelude.{List, map}
use Rattle.proto_flat.specs.declared.flat.FlatNode.{FlatNode}
use Rattle.proto_meaning.specs.Sight.{Put}
use Rattle.proto_parts.specs.declared.put.PlacedNode.{PlacedNode}
use Rattle.proto_parts.specs.declared.put.PutIn.{PutIn}

abbrev pub flat_of : PlacedNode → FlatNode
flat_of node =
    record {
      line = node.line;
      name = node.name.now;
      node_type = node.node_type;
      fields = node.fields;
      interface = node.interface;
    }

abbrev pub nodes_of : List PlacedNode → List FlatNode
nodes_of nodes = map flat_of nodes

abbrev pub shown : PutIn → Put
shown put = record { nodes = nodes_of put.nodes.items; helpers = put.helpers }
