-- Which nodes the ROUTEs of a document without instances join (ISO/IEC 19775-1, ROUTE, and DEF and
-- USE): each end is the nearest DEF of its name before the ROUTE, whether its braces are closed
-- there or not.
use Rattle.std.specs.Prelude.{ℕ, ◌+◌, if◌then◌else◌, List, [], ◌∷◌, ◌++◌, length, map, Option, Some, None, slice_get, slice_set}
use Rattle.std.specs.Option.{option_or}
use Rattle.classic_tree.specs.declared.tree.Document.{Document}
use Rattle.classic_tree.specs.declared.tree.RouteEnd.{RouteEnd}
use Rattle.classic_tree.specs.declared.tree.RouteText.{RouteText}
use Rattle.proto_flat.specs.declared.flat.FlatEnd.{FlatEnd}
use Rattle.proto_flat.specs.declared.flat.FlatEnd.TheVariants.{At, NoNode}
use Rattle.proto_flat.specs.declared.flat.FlatRoute.{FlatRoute}
use Rattle.laws_documents.specs.Readings.{StateChange, Steps, read_document, same}
use Rattle.laws_documents.specs.Uses.{OpenBraces, has_name}

-- an end of a ROUTE: the braces that it names, by the number of braces that opened before them, and
-- the field
pub record ReadEnd : Type 0 where
  pub place : Option ℕ
  pub field : List ℕ

pub record ReadRoute : Type 0 where
  pub source : ReadEnd
  pub target : ReadEnd

-- a text up to some place: all braces that opened, in that order, each with the number of its node
-- once closed; the number of braces that are closed; and the ROUTEs so far
pub record Reading : Type 0 where
  pub opened : List OpenBraces
  pub closed : ℕ
  pub routes : List ReadRoute

abbrev pub nothing_read : Reading
nothing_read = record { opened = []; closed = 0; routes = [] }

-- ---- names

-- the place of the last braces of that name; the first of the list has the place `at`
abbrev pub last_from : ℕ → List ℕ → List OpenBraces → Option ℕ
last_from at name [] = None
last_from at name (o ∷ os) =
    option_or (last_from (at + 1) name os) (if has_name name o.name then Some at else None)

abbrev pub read_end : List OpenBraces → RouteEnd → ReadEnd
read_end opened end =
    record { place = last_from 0 end.node opened; field = end.field }

-- ---- what a part of the text does

abbrev pub opens : Option (List ℕ) → StateChange Reading
opens name r =
    record r { opened = r.opened ++ record { name = name; node = None } ∷ [] }

-- the braces that opened after `before` close: their node gets the next number
abbrev pub closes : Option (List ℕ) → Reading → StateChange Reading
closes name before r =
    record r {
      opened = slice_set r.opened (length before.opened)
          (record { name = name; node = Some r.closed });
      closed = r.closed + 1;
    }

abbrev pub routes : RouteText → StateChange Reading
routes route r =
    record r {
      routes = r.routes ++ record {
        source = read_end r.opened route.source;
        target = read_end r.opened route.target;
      } ∷ [];
    }

-- a USE changes nothing
abbrev pub steps : Steps Reading
steps = record { uses = λ name. same; routes = routes; opens = opens; closes = closes }

-- ---- ends when all braces are closed

abbrev pub end_at : List ℕ → Option ℕ → FlatEnd
end_at field None = NoNode
end_at field (Some node) = At node field

abbrev pub node_of : Option OpenBraces → Option ℕ
node_of None = None
node_of (Some o) = o.node

abbrev pub node_at : List OpenBraces → Option ℕ → Option ℕ
node_at opened None = None
node_at opened (Some place) = node_of (slice_get opened place)

abbrev pub end_shown : List OpenBraces → ReadEnd → FlatEnd
end_shown opened end = end_at end.field (node_at opened end.place)

-- ---- both ends

-- both ends of a route
abbrev pub Shown : Type 0
Shown = FlatEnd × FlatEnd

abbrev pub route_shown : FlatRoute → Shown
route_shown route = (route.source, route.target)

abbrev pub read_shown : List OpenBraces → ReadRoute → Shown
read_shown opened route = (end_shown opened route.source, end_shown opened route.target)

-- the ends of each ROUTE of a text, in turn
abbrev pub shown_of : Reading → List Shown
shown_of r = map (read_shown r.opened) r.routes

abbrev pub routes_read : Document → List Shown
routes_read document = shown_of (read_document steps document nothing_read)
