-- What a document with prototypes stands for (ISO/IEC 19775-1, 4.4.4, prototypes; 4.4.3, DEF and
-- USE). Each instance is its prototype's body, in which `field IS name` holds the value that the
-- instance gives, or else the default. Order, lines and which fault comes first are our choice.
--
-- How the steps tie together: the four steps at the end (`item_step` to `proto_step`) give each
-- part of the tree three functions, made from those of its own parts. `finds` searches the part for
-- an instance of a PROTO inside that PROTO. `sees` gives what the part declares, and which
-- interface fields its ISs take. `does` adds the part to the flat document. `flat` runs the `does`
-- of the statements in turn, from an empty `Walk`. A PROTO adds no node: `declare` brings a
-- prototype in sight, with its `instance_of`. When the braces of an instance close,
-- `close_instance` runs that `instance_of`, which runs the `does` of the body's statements in a
-- scope of its own.
--
-- An example, traced by hand:
--     1  PROTO Lamp [ inputOutput SFFloat power 1 ] { PointLight { intensity IS power } }
--     2  DEF L Lamp { power 0.5 }
-- Line 1, `declare`: Lamp comes in sight, and its body takes `power`. No node is added. Line 2,
-- `full_node`: the word Lamp means that prototype. An instance is counted, braces L open.
--   `give`: `power` is field 0 of Lamp and is given 500000 (millionths).
--   The braces close, so `close_instance` runs the body, which begins an empty scope.
--   `default`: the instance gives `power` a value, so the default 1 is left out.
--   `join`: `intensity`, field 5 of PointLight, fits `power`, and holds 500000.
--   `close_node`: the PointLight becomes node 0, with the end At 0 intensity for that field.
--   `made`: node 0 stands for the instance. `power` has the ends of `intensity`: At 0 intensity.
--   `renamed`, `close`: node 0 has the name L. Braces L stand for node 0.
-- `flat`: nodes = node 0 alone: line 1, name L, PointLight, fields = (line 1, field 5, 500000);
--   roots = 0; no helpers, no routes.
use Rattle.std.specs.Prelude.{ℕ, Bool, true, false, ◌&&◌, ◌||◌, not, if◌then◌else◌, List, [], ◌∷◌, ◌++◌, drop, length, map, Option, Some, None, option_map, is_none, is_some, Result, Ok, Err, slice_get, slice_set}
use Rattle.std.specs.List.{filter_map, list_any}
use Rattle.std.specs.Option.{option_map_or}
use Rattle.std.specs.Str.{bytes_eq}
use Rattle.x3d_values.specs.declared.node_type.NodeType.{NodeType}
use Rattle.x3d_values.specs.Names.{node_type_named}
use Rattle.x3d_values.specs.Tables.{rows}
use Rattle.classic_tree.specs.declared.tree.BodyItem.{BodyItem, fold-BodyItem}
use Rattle.classic_tree.specs.declared.tree.BodyItem.TheOpen.{BodyItem-F, NodeText-F, Statement-F, ProtoText-F}
use Rattle.classic_tree.specs.declared.tree.Declaration.{Declaration}
use Rattle.classic_tree.specs.declared.tree.Document.{Document}
use Rattle.classic_tree.specs.declared.tree.Given.{Given}
use Rattle.classic_tree.specs.declared.tree.Given.TheVariants as given
use Rattle.classic_tree.specs.declared.tree.NodeText.{NodeText, fold-NodeText}
use Rattle.classic_tree.specs.declared.tree.ProtoText.{ProtoText, fold-ProtoText}
use Rattle.classic_tree.specs.declared.tree.RouteText.{RouteText}
use Rattle.classic_tree.specs.declared.tree.Statement.{Statement, fold-Statement}
use Rattle.proto_flat.specs.Fault.{fault}
use Rattle.proto_flat.specs.declared.fault.ExpandFault.{ExpandFault}
use Rattle.proto_flat.specs.declared.fault.ExpandFaultKind.TheVariants.{UnknownNode, UnknownField, ProtoTwice, ProtoItself, EmptyBody, UseWithoutDef, FieldTwice}
use Rattle.proto_flat.specs.declared.flat.Flat.{Flat}
use Rattle.proto_flat.specs.declared.flat.FlatEnd.TheVariants.{At}
use Rattle.proto_flat.specs.declared.flat.FlatNode.{FlatNode}
use Rattle.proto_flat.specs.declared.flat.Header.{Header}
use Rattle.proto_meaning.specs.Limits.{ANode, AnInstance, AnItem, Outcome, and_then, limited}
use Rattle.proto_meaning.specs.Names.{Name, Field, Filled, value_of, Stands, used, sources, targets, pairs}
use Rattle.proto_meaning.specs.Sight.{Put, Instance, Prototype, Look, and_see, each, opened, aside, Names, no_names, Owner, OfType, OfProto, declared, meant, taken_by, is_kept, Search}
pub use Rattle.proto_meaning.specs.Walk.{Walk, Does, ◌>>=◌, comes, pure, refuse, through, meet, see, note, Part, part, Node, nothing_found, given_finds, given_sees, leave_out, put_in}
pub use Rattle.proto_meaning.specs.Fields.{Inside, field_with, field, fields_of, numbered_from, is_filled, is_node, joins, fits, met_field, fill, give_value, join, give_is, give, is_script, declare_field}

-- ---- nodes and instances

abbrev pub Item : Type 0
Item = Part (Option Names → Look) (Inside → Does Inside)

-- opens braces, and then does the items between them, in turn
abbrev pub inside : Option Name → Owner → List Field → List Item → Does Inside
inside name owner fields items =
    (λ w. note (length w.scope.braces) (λ s. record s {
      braces = s.braces ++ record { name = name; stands = None } ∷ [];
    }) w) >>= λ at. through (λ (item : Item). item.does) items
    (record { at = at; owner = owner; fields = fields; filled = [] })

-- closes the braces number `at`: they stand for `what`; `put` is what was added up to there
abbrev pub close : Option Name → ℕ → Stands → Put → Walk → Outcome (ℕ × Walk)
close name at what put w = comes (Ok (
  what.node,
  record w {
    put = put;
    scope = record w.scope {
      braces = slice_set w.scope.braces at (record { name = name; stands = Some what });
    };
  },
))

-- a node with the values that its fields hold, and with a Script's declarations
abbrev pub flat_node : ℕ → Option Name → NodeType → Inside → FlatNode
flat_node line name t i =
    record {
      line = line;
      name = name;
      node_type = t;
      fields = filter_map (λ (f : Filled).
          option_map (λ v. record { line = f.line; number = f.number; value = v }) f.value)
          i.filled;
      interface = drop (length (rows t)) i.fields;
    }

-- adds a node when its braces close; it gets the next number
abbrev pub close_node : Option Name → ℕ → FlatNode → Does ℕ
close_node name at node = λ w.
    close name at
    (record {
      node = length w.put.nodes;
      interface = None;
      ends = λ f. At (length w.put.nodes) f ∷ [];
    })
    (record w.put { nodes = w.put.nodes ++ node ∷ [] }) w

-- gives the instance's name, if it has one, to the node that stands for it
abbrev pub renamed : Option Name → ℕ → List FlatNode → List FlatNode
renamed None n nodes = nodes
renamed name n nodes =
    option_map_or (λ node. slice_set nodes n (record node { name = name }))
    (slice_get nodes n) nodes

-- adds an instance's body when its braces close, after the values that it is given. Its routes come
-- after those of the scope so far
abbrev pub close_instance : Option Name → Prototype → Inside → Does ℕ
close_instance name p i = λ w. and_then (p.instance i.filled w.put) (λ made.
    close name i.at
    (record { node = made.node; interface = Some p.interface; ends = made.ends })
    (record made.put { nodes = renamed name made.node made.put.nodes })
    (record w { scope = record w.scope { routes = λ all. w.scope.routes all ++ made.routes } }))

-- whether a name is one of these names
abbrev pub is_one : Name → List Name → Bool
is_one name names = list_any (bytes_eq name) names

-- no name may occur twice in an interface; that is checked at each instance (our choice)
abbrev pub unless_twice : List Name → List Field → Does (Unit {0})
unless_twice seen [] = pure tt
unless_twice seen (f ∷ fs) =
    if is_one f.name seen then refuse FieldTwice f.line else unless_twice (f.name ∷ seen) fs

-- does a node or an instance, by what the word before its braces means
abbrev pub full_node : ℕ → Option Name → List Item → Option Owner → Does ℕ
full_node line name items None = refuse UnknownNode line
full_node line name items (Some (OfType t)) =
    meet ANode >>= λ _. inside name (OfType t) (fields_of t) items
    >>= λ i. close_node name i.at (flat_node line name t i)
full_node line name items (Some (OfProto p)) =
    meet AnInstance >>= λ _. unless_twice [] p.interface
    >>= λ _. inside name (OfProto p) p.interface items >>= close_instance name p

-- a ROUTE names braces that open before it; its ends are read once all braces of the scope are
-- closed
abbrev pub note_route : RouteText → Does (Unit {0})
note_route r = meet AnItem >>= λ _. note (tt {0}) (λ s. record s {
  routes = λ all. s.routes all
      ++ pairs r.line (sources s.braces all r.source) (targets s.braces all r.target);
})

-- ---- prototypes

-- a statement: whether it is a node; adding it returns a list of its node, or an empty list
abbrev pub Stated : Type 0
Stated = Bool × Part Look (Does (List ℕ))

-- a statement of a body. The list is the node that stands for the instance: it is empty until the
-- first node. Later nodes are helpers
abbrev pub in_body : Stated → List ℕ → Does (List ℕ)
in_body s [] = s.1.does
in_body s first = s.1.does >>= λ ns. (λ w. comes (Ok (
  first,
  record w { put = record w.put { helpers = w.put.helpers ++ ns } },
)))

-- adds the field's default, if it has one
abbrev pub put_default : Declaration Node → List Filled → Given Node → Does (List Filled)
put_default d filled (given.Value v) =
    put_in v >>= λ r. pure (filled
    ++ record { line = d.line; name = d.name; number = 0; value = Some r } ∷ [])
put_default d filled _ = pure filled

-- adds a default if some IS takes the field and the instance gives it no value; else leaves it out
abbrev pub default : Names → Declaration Node → List Filled → Does (List Filled)
default takes d filled =
    if takes d.name && is_none (value_of d.name filled) then put_default d filled d.given
    else leave_out d.given >>= λ _. pure filled

-- the state at the start of a scope, with the prototypes around it in sight
abbrev pub begin : List Prototype → Put → Walk
begin outside put =
    record {
      put = put;
      sight = record { here = []; outside = outside; taken = no_names };
      scope = record {
        braces = [];
        routes = λ all. [];
        ends = λ all name. [];
        interface = [];
        given = [];
      };
    }

-- the instance at the end of a body, whose first node stands for it (`declare` checks that there is
-- one)
abbrev pub made : ℕ → List ℕ → Walk → Outcome Instance
made line [] w = comes (Err (fault EmptyBody line))
made line (n ∷ ns) w =
    comes (Ok (record {
      node = n;
      ends = w.scope.ends w.scope.braces;
      routes = w.scope.routes w.scope.braces;
      put = w.put;
    }))

-- a PROTO statement, by its parts
module _ (line : ℕ) (name : Name) (interface : List (Declaration Node)) (body : List Stated) where
  -- makes an instance: adds the defaults, in which an IS finds nothing, and then the statements
  abbrev pub instance_of : List Prototype → Names → List Filled → Put → Outcome Instance
  instance_of outside takes given put =
      and_then ((through (default takes) interface given
      >>= λ all. note (tt {0}) (λ s. record s { interface = map field interface; given = all })
      >>= λ _. through in_body body []) (begin outside put)) (λ p. made line p.0 p.1)

  -- the prototype, by those around it and by what its ISs take
  abbrev pub prototype : List Prototype → Names → Prototype
  prototype outside takes =
      record {
        name = name;
        interface = map field interface;
        takes = takes;
        instance = instance_of outside takes;
      }

  -- in the order of the text; the defaults are in the scope of the body
  abbrev pub body_finds : Name → Search
  body_finds own hidden =
      and_see (each (λ (d : Declaration Node). given_finds d.given own) interface hidden)
      (each (λ (s : Stated). s.1.finds own) body)

  -- an IS in a default takes nothing
  abbrev pub body_sees : Look
  body_sees s =
      and_see (aside (each (λ (d : Declaration Node). given_sees d.given) interface) s)
      (each (λ (s : Stated). s.1.sees) body)

  -- faults of the declaration itself come first, then those of the declarations inside. The
  -- prototype isn't in sight in its own body, but after it
  abbrev pub declare_body : Result Bool ℕ → Look
  declare_body (Err itself) s = Err (fault ProtoItself itself)
  declare_body (Ok hidden) s =
      if list_any (λ (x : Stated). x.0) body
      then and_see (body_sees (opened s)) (λ t.
      Ok (record s {
        here = s.here ++ prototype (s.here ++ s.outside) t.taken ∷ [];
      }))
      else Err (fault EmptyBody line)

  -- no PROTO may have the name of a node type, or of an earlier PROTO in its scope
  abbrev pub declare : Look
  declare s =
      if is_some (node_type_named name) || is_some (declared name s.here)
      then Err (fault ProtoTwice line)
      else declare_body (body_finds name false) s

-- ---- each part, from its own parts

abbrev pub Proto : Type 0
Proto = Part Look (Does (Unit {0}))

-- an item between braces: what it does to the fields given so far. (A BodyItem-F is a BodyItem in
-- which each part is replaced by its `Part`; so are NodeText-F and the others)
unfoldable pub item_step : BodyItem-F Item Node Stated Proto → Item
item_step (BodyItem-F.Field line name g) =
    part (given_finds g)
    (λ taken. if is_kept taken name then given_sees g else aside (given_sees g))
    (λ i. option_map_or (λ f. give line f (is_filled name i) g i) (numbered_from 0 name i.fields)
    (refuse UnknownField line))
item_step (BodyItem-F.Declaration d) =
    part (given_finds d.given) (λ taken. given_sees d.given) (declare_field d)
item_step (BodyItem-F.BodyItem::Route route) =
    part nothing_found (λ taken s. Ok s) (λ i. note_route route >>= λ _. pure i)
item_step (BodyItem-F.BodyItem::Proto proto) =
    part proto.finds (λ taken. proto.sees) (λ i. proto.does >>= λ _. pure i)

-- a USE, or braces; the word before the braces is looked up before they open
unfoldable pub node_step : NodeText-F Item Node Stated Proto → Node
node_step (NodeText-F.Use line name) =
    part nothing_found (λ s. Ok s) (meet AnItem >>= λ _ w.
    option_map_or pure (used name w.scope.braces) (refuse UseWithoutDef line) w)
node_step (NodeText-F.Full line name word items) =
    part
    (λ own hidden. if not hidden && bytes_eq word own then Err line
    else each (λ (i : Item). i.finds own) items hidden)
    (λ s. each (λ (i : Item). i.sees (taken_by (meant word s))) items s)
    (λ w. full_node line name items (meant word w.sight) w)

unfoldable pub statement_step : Statement-F Item Node Stated Proto → Stated
statement_step (Statement-F.Node node) =
    (true, part node.finds node.sees (node.does >>= λ n. pure (n ∷ [])))
statement_step (Statement-F.Statement::Route route) =
    (false, part nothing_found (λ s. Ok s) (note_route route >>= λ _. pure []))
statement_step (Statement-F.Statement::Proto proto) =
    (false, part proto.finds proto.sees (proto.does >>= λ _. pure []))

-- a PROTO hides its own name after it. It adds no node, but its prototype comes in sight
unfoldable pub proto_step : ProtoText-F Item Node Stated Proto → Proto
proto_step p =
    part
    (λ own hidden. and_see (body_finds p.line p.name p.interface p.body own hidden) (λ _.
    Ok (bytes_eq p.name own || hidden)))
    (declare p.line p.name p.interface p.body) (see (declare p.line p.name p.interface p.body))

abbrev pub item : BodyItem → Item
item = fold-BodyItem Item Node Stated Proto item_step node_step statement_step proto_step

abbrev pub node : NodeText → Node
node = fold-NodeText Item Node Stated Proto item_step node_step statement_step proto_step

abbrev pub proto : ProtoText → Proto
proto = fold-ProtoText Item Node Stated Proto item_step node_step statement_step proto_step

abbrev pub statement : Statement → Stated
statement = fold-Statement Item Node Stated Proto item_step node_step statement_step proto_step

-- ---- a document

-- what the statements give, without limits
abbrev pub stand_together : Header → List Stated → Outcome Flat
stand_together header parts =
    and_then
    (through (λ s roots. s.1.does >>= λ ns. pure (roots ++ ns)) parts []
    (begin [] (record { nodes = []; helpers = [] })))
    (λ p. comes (Ok (record {
      header = header;
      nodes = p.1.put.nodes;
      roots = p.0;
      helpers = p.1.put.helpers;
      routes = p.1.scope.routes p.1.scope.braces;
    })))

abbrev pub header_of : Document → Header
header_of d =
    record { version = d.version; profile = d.profile; components = d.components; metas = d.metas }

-- what a document stands for, or its first fault
unfoldable pub flat : Document → Result Flat ExpandFault
flat d = limited (stand_together (header_of d) (map statement d.statements))
