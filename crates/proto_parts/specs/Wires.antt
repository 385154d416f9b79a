-- ROUTEs in a row.
use Rattle.std.specs.Prelude.{◌≡◌, ◌⊎◌, ◌≤◌, List, [], ◌∷◌, ◌++◌, length, Result, Ok, Err}
use Rattle.std.specs.List.{flat_map, fold}
use Rattle.std.specs.Borrow.{Bor}
use Rattle.x3d_values.specs.Ranges.{max_routes}
use Rattle.proto_flat.specs.Fault.{memory}
use Rattle.proto_flat.specs.declared.fault.ExpandFault.{ExpandFault}
use Rattle.proto_flat.specs.declared.flat.FlatRoute.{FlatRoute}
use Rattle.proto_parts.specs.declared.routes.Wire.{Wire}
use Rattle.proto_parts.specs.declared.wires.Wires.{Wires}
use Rattle.proto_parts.specs.declared.wires.Wires.TheVariants.{One, Both'}
use Rattle.proto_parts.specs.Ends.{few}
use Rattle.proto_parts.specs.Routes.{routes_of_wire}

abbrev pub wires : Wires → List Wire
wires (One wire) = wire ∷ []
wires (Both' p first q second) = wires first ++ wires second

-- the ROUTEs that wait; the last on the stack comes first
abbrev pub wires_waiting : List (Bor Wires) → List Wire
wires_waiting left = fold (λ behind w. wires w.now ++ behind) [] left

-- the routes that ROUTEs mean, in their order
abbrev pub means : List Wire → List FlatRoute
means wires = flat_map routes_of_wire wires

-- of the ROUTEs that waited, some were made into routes, after those made before; the others still
-- wait
abbrev pub StepsOn : List FlatRoute → List Wire → Result (List FlatRoute) ExpandFault → List Wire
    → Type 0
StepsOn routes before (Ok made) after =
    (few (routes ++ means before) ≡ few (made ++ means after)) × (length made ≤ max_routes)
StepsOn routes before (Err e) after = (e ≡ memory) ⊎ (few (routes ++ means before) ≡ Err e)
