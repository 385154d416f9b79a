-- A name scope of the program, in the terms of proto_meaning, and the steps of proto_meaning that
-- change a scope.
use Rattle.std.specs.Prelude.{ℕ, if◌then◌else◌, List, [], ◌++◌, map, Option, Some, None, slice_set}
use Rattle.std.specs.Borrow.{Bor}
use Rattle.std.specs.Option.{option_map_or}
use Rattle.std.specs.Str.{bytes_eq}
use Rattle.classic_tree.specs.declared.tree.RouteText.{RouteText}
use Rattle.proto_flat.specs.declared.flat.FlatRoute.{FlatRoute}
use Rattle.proto_meaning.specs.Names as meaning
use Rattle.proto_meaning.specs.Names.{Name, Field, stands_at, sources, targets, pairs}
use Rattle.proto_parts.specs.Names.{Knows}
use Rattle.proto_parts.specs.Given as given
use Rattle.proto_parts.specs.Joins.{braces_of, joins_ends}
use Rattle.proto_parts.specs.Sides.{parts_routes}
use Rattle.proto_parts.specs.declared.scope.Scope.{Scope}

abbrev pub fields_of : Option (Bor (List Field)) → List Field
fields_of None = []
fields_of (Some interface) = interface.now

abbrev pub shown : Scope → meaning.Scope
shown s =
    record {
      braces = map braces_of s.braces.items;
      routes = parts_routes s.routes.items;
      ends = joins_ends s.joins.items;
      interface = fields_of s.interface;
      given = given.shown s.given ++ given.shown s.defaults;
    }

-- the tables hold the names of the braces, and what is given
pub record Sound (s : Scope) : Type 0 where
  pub names : Knows s.names (map braces_of s.braces.items)
  pub defaults : given.IsHeld s.defaults
  pub given : given.IsHeld s.given

-- ---- proto_meaning's steps

-- as in `begin`
abbrev pub nothing : meaning.Scope
nothing =
    record { braces = []; routes = λ all. []; ends = λ all name. []; interface = []; given = [] }

-- as in `close`
abbrev pub closed_at : ℕ → Option Name → meaning.Stands → meaning.Scope → meaning.Scope
closed_at at name what s =
    record s { braces = slice_set s.braces at (record { name = name; stands = Some what }) }

-- as in `note_route`
abbrev pub with_route : RouteText → meaning.Scope → meaning.Scope
with_route r s =
    record s {
      routes = λ all. s.routes all
          ++ pairs r.line (sources s.braces all r.source) (targets s.braces all r.target);
    }

-- as in `close_instance`
abbrev pub with_routes : List FlatRoute → meaning.Scope → meaning.Scope
with_routes made s = record s { routes = λ all. s.routes all ++ made }

-- as in `join`
abbrev pub with_join : Name → ℕ → Name → meaning.Scope → meaning.Scope
with_join outer at field s =
    record s {
      ends = λ all name. s.ends all name ++ (if bytes_eq outer name
          then option_map_or (λ what. what.ends field) (stands_at all (Some at)) [] else []);
    }
