-- An order of routes, by their numbers.
use Rattle.std.specs.Prelude.{ℕ, ◌≡◌, List}
use Rattle.std.specs.List.{list_any}
use Rattle.std.specs.Ordering.{nat_cmp, ordering_then}
use Rattle.std.specs.declared.cmp.Ordering.{Ordering}
use Rattle.std.specs.BTreeSet.{BTreeSet, contains}
use Rattle.scene_core.specs.declared.scene.Route.{Route}
use Rattle.route_core.specs.Firsts.{same_route}

abbrev pub Key : Type 0
Key = ℕ × ℕ × ℕ × ℕ

abbrev pub key_of : Route → Key
key_of r = (r.source.node, r.source.field, r.target.node, r.target.field)

abbrev pub key_cmp : Key → Key → Ordering
key_cmp x y =
    ordering_then (ordering_then (ordering_then (nat_cmp x.0 y.0) (nat_cmp x.1 y.1))
    (nat_cmp x.2 y.2)) (nat_cmp x.3 y.3)

-- the set has the routes of the list
abbrev pub Holds : BTreeSet Key → List Route → Type 0
Holds seen routes = (r : Route) → contains key_cmp seen (key_of r) ≡ list_any (same_route r) routes
