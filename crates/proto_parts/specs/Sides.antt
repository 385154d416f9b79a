-- ROUTEs of a scope, in the terms of the definition.
use Rattle.std.specs.Prelude.{List, [], Option, None, Some}
use Rattle.std.specs.List.{flat_map}
use Rattle.std.specs.declared.rc.Rc.{Rc}
use Rattle.proto_flat.specs.declared.flat.FlatRoute.{FlatRoute}
use Rattle.proto_meaning.specs.Names as meaning
use Rattle.proto_meaning.specs.Names.{pairs, source_ends, stands_at, target_ends}
use Rattle.proto_parts.specs.declared.wires.Wires.{Wires}
use Rattle.proto_parts.specs.Wires.{means, wires}
use Rattle.proto_parts.specs.declared.sides.Pending.{Pending}
use Rattle.proto_parts.specs.declared.sides.RoutePart.{RoutePart}
use Rattle.proto_parts.specs.declared.sides.RoutePart.TheVariants as part

-- what proto_meaning's `note_route` adds, by what all braces stand for
abbrev pub pending_routes : Pending → List meaning.Braces → List FlatRoute
pending_routes p all =
    pairs p.line (source_ends p.source.field.now (stands_at all p.source.at))
    (target_ends p.target.field.now (stands_at all p.target.at))

abbrev pub part_routes : RoutePart → List meaning.Braces → List FlatRoute
part_routes (part.Pending p) all = pending_routes p all
part_routes (part.Made made) all = means (wires made.value)

abbrev pub parts_routes : List RoutePart → List meaning.Braces → List FlatRoute
parts_routes ps all = flat_map (λ (p : RoutePart). part_routes p all) ps

abbrev pub made_routes : {A : Type 0} → Option (Rc Wires A) → List FlatRoute
made_routes None = []
made_routes (Some made) = means (wires made.value)
