-- Words for what worked documents stand for. Those that are given on the right of an equation were
-- written by hand, from the rules.
use Rattle.std.proofs.Common.{ℕ, List, [], Option, None, Result, Ok}
use Rattle.x3d_values.specs.declared.node_type.NodeType.{NodeType}
use Rattle.classic_lex.specs.declared.versions.Version.TheVariants.{V3_0}
use Rattle.classic_tree.specs.declared.tree.Declaration.{Declaration}
use Rattle.classic_tree.specs.declared.tree.RawValue.{RawValue}
use Rattle.proto_flat.specs.declared.fault.ExpandFault.{ExpandFault}
use Rattle.proto_flat.specs.declared.flat.Flat.{Flat}
use Rattle.proto_flat.specs.declared.flat.FlatEnd.{FlatEnd}
use Rattle.proto_flat.specs.declared.flat.FlatField.{FlatField}
use Rattle.proto_flat.specs.declared.flat.FlatNode.{FlatNode}
use Rattle.proto_flat.specs.declared.flat.FlatRoute.{FlatRoute}
use Rattle.proto_meaning.specs.Limits.{limited}
use Rattle.proto_meaning.specs.Flat.{Stated, stand_together}

-- line, number, value
abbrev pub flat_field : ℕ → ℕ → RawValue ℕ → FlatField
flat_field line number v = record { line = line; number = number; value = v }

abbrev pub flat_node : ℕ → Option (List ℕ) → NodeType → List FlatField → List (Declaration ℕ) → FlatNode
flat_node line name t fields interface =
    record { line = line; name = name; node_type = t; fields = fields; interface = interface }

abbrev pub flat_route : ℕ → FlatEnd → FlatEnd → FlatRoute
flat_route line source target = record { line = line; source = source; target = target }

-- nodes, roots, helpers, routes
abbrev pub good : List FlatNode → List ℕ → List ℕ → List FlatRoute → Result Flat ExpandFault
good nodes roots helpers routes =
    Ok (record {
      header = record { version = V3_0; profile = None; components = []; metas = [] };
      nodes = nodes;
      roots = roots;
      helpers = helpers;
      routes = routes;
    })

-- what a document of these parts stands for
abbrev pub by_parts : List Stated → Result Flat ExpandFault
by_parts parts =
    limited (stand_together (record { version = V3_0; profile = None; components = []; metas = [] }) parts)
