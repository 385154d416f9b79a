-- Steps that proto_meaning has inside larger ones.
use Rattle.std.specs.Prelude.{ℕ, List, [], ◌∷◌, ◌++◌, length, Option, None}
use Rattle.std.specs.Option.{option_map_or}
use Rattle.proto_flat.specs.declared.fault.ExpandFaultKind.TheVariants.{UseWithoutDef}
use Rattle.proto_meaning.specs.Limits.{AnItem}
use Rattle.proto_flat.specs.declared.flat.FlatRoute.{FlatRoute}
use Rattle.proto_meaning.specs.Names.{Name, Stands, used}
use Rattle.proto_parts.specs.Scope.{with_join, with_routes}
use Rattle.proto_meaning.specs.Flat.{Does, ◌>>=◌, pure, refuse, meet, note, close, renamed}

-- the node of that name
abbrev pub named_node : ℕ → Name → Does ℕ
named_node line name = λ w.
    option_map_or pure (used name w.scope.braces) (refuse UseWithoutDef line) w

-- USE, as in `node_step`
abbrev pub using : ℕ → Name → Does ℕ
using line name = meet AnItem >>= λ _. named_node line name

-- opens braces, as in `inside`
abbrev pub opening : Option Name → Does ℕ
opening name =
    λ w. note (length w.scope.braces) (λ s. record s {
      braces = s.braces ++ record { name = name; stands = None } ∷ [];
    }) w

-- an IS joins a field, as in `join`
abbrev pub joining : Name → ℕ → Name → Does (Unit {0})
joining outer at field = note (tt {0}) (with_join outer at field)

-- the end of the body of an instance, as in `close_instance`
abbrev pub standing_in : Option Name → ℕ → Stands → List FlatRoute → Does ℕ
standing_in name at what routes =
    λ w. close name at what (record w.put { nodes = renamed name what.node w.put.nodes })
    (record w { scope = with_routes routes w.scope })
