-- Routes without repeats.
use Rattle.std.specs.Prelude.{◌==◌, ◌&&◌, Bool, List, [], ◌∷◌, ◌++◌, if◌then◌else◌}
use Rattle.std.specs.List.{fold, list_any}
use Rattle.scene_core.specs.declared.scene.End.{End}
use Rattle.scene_core.specs.declared.scene.Route.{Route}

abbrev pub same_end : End → End → Bool
same_end a b = (a.node == b.node) && (a.field == b.field)

abbrev pub same_route : Route → Route → Bool
same_route a b = same_end a.source b.source && same_end a.target b.target

-- appends the route, unless it is among the earlier ones
abbrev pub added : List Route → Route → List Route
added routes r = if list_any (same_route r) routes then routes else routes ++ r ∷ []

-- the first of each group of equal routes, in order
abbrev pub firsts : List Route → List Route
firsts routes = fold added [] routes
