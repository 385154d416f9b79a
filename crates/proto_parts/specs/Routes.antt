-- The routes of ROUTEs whose ends are known.
use Rattle.std.specs.Prelude.{ℕ, List, [], map, Option, Some, None}
use Rattle.std.specs.List.{flat_map}
use Rattle.proto_flat.specs.declared.flat.FlatEnd.{FlatEnd}
use Rattle.proto_flat.specs.declared.flat.FlatRoute.{FlatRoute}
use Rattle.std.specs.declared.rc.Rc.{Rc}
use Rattle.proto_meaning.specs.Names.{pairs}
use Rattle.proto_parts.specs.declared.ends.End.{End}
use Rattle.proto_parts.specs.declared.ends.Ends.{Ends}
use Rattle.proto_parts.specs.declared.routes.Wire.{Wire}
use Rattle.proto_parts.specs.Ends.{end, list}

-- the ends of one side
abbrev pub ends_at : {A : Type 0} → Option (Rc Ends A) → List FlatEnd
ends_at None = []
ends_at (Some shared) = map end (list shared.value)

-- all pairs of its ends
abbrev pub routes_of_wire : Wire → List FlatRoute
routes_of_wire w = pairs w.line (ends_at w.source) (ends_at w.target)

-- the same, from the ends as they are stored
abbrev pub routes_from : ℕ → List End → End → List FlatRoute
routes_from line targets source =
    map (λ t. record { line = line; source = end source; target = end t }) targets

abbrev pub routes_between : ℕ → List End → List End → List FlatRoute
routes_between line sources targets = flat_map (λ s. routes_from line targets s) sources
