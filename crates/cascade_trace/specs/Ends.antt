-- The ends of routes (ISO/IEC 19775-1, event model: routes).
use Rattle.std.specs.Prelude.{Bool, true, not, ◌&&◌, List, [], ◌∷◌, map}
use Rattle.std.specs.List.{filter, list_any}
use Rattle.scene_core.specs.declared.scene.End.{End}
use Rattle.scene_core.specs.declared.scene.Route.{Route}
pub use Rattle.route_core.specs.Outputs.{same_end}

-- the output is among those that have sent
abbrev pub has_sent : List End → End → Bool
has_sent sent source = list_any (λ e. same_end e source) sent

-- the ends are different from each other
abbrev pub all_differ : List End → Bool
all_differ [] = true
all_differ (e ∷ es) = not (has_sent es e) && all_differ es

-- the targets of an output's routes, in order
abbrev pub targets_of : List Route → End → List End
targets_of routes source = map (λ r. r.target) (filter (λ r. same_end r.source source) routes)
