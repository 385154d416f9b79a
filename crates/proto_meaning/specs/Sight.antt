-- Which prototypes are in sight (ISO/IEC 19775-1, 4.4.4, prototype scoping rules), by the place in
-- the text alone. Our choice: a PROTO in a default value belongs to the body, and a PROTO in a
-- value that is left out is declared.
use Rattle.std.specs.Prelude.{ℕ, Bool, true, false, if◌then◌else◌, List, [], ◌∷◌, ◌++◌, Option, Some, None, option_map, Result, Ok, Err}
use Rattle.std.specs.List.{find}
use Rattle.std.specs.Option.{option_or}
use Rattle.std.specs.Str.{bytes_eq}
use Rattle.x3d_values.specs.Names.{node_type_named}
use Rattle.x3d_values.specs.declared.node_type.NodeType.{NodeType}
use Rattle.classic_tree.specs.declared.tree.Given.{Given}
use Rattle.classic_tree.specs.declared.tree.Given.TheVariants as given
use Rattle.classic_tree.specs.declared.tree.RawValue.TheVariants as value
use Rattle.proto_flat.specs.declared.fault.ExpandFault.{ExpandFault}
use Rattle.proto_flat.specs.declared.flat.FlatEnd.{FlatEnd}
use Rattle.proto_flat.specs.declared.flat.FlatNode.{FlatNode}
use Rattle.proto_flat.specs.declared.flat.FlatRoute.{FlatRoute}
use Rattle.proto_meaning.specs.Limits.{Outcome}
use Rattle.proto_meaning.specs.Names.{Name, Field, Filled}

-- ---- what was added

-- the nodes in the order in which they close, and the helpers: the nodes of bodies after the first
pub record Put : Type 0 where
  pub nodes : List FlatNode
  pub helpers : List ℕ

-- an instance: the node that stands for it, the ends of each interface field, the routes of its
-- body, and all that was added so far, its own nodes included
pub record Instance : Type 0 where
  pub node : ℕ
  pub ends : Name → List FlatEnd
  pub routes : List FlatRoute
  pub put : Put

-- ---- names that ISs take

-- a set of names of an interface
abbrev pub Names : Type 0
Names = Name → Bool

abbrev pub no_names : Names
no_names name = false

abbrev pub with_name : Name → Names → Names
with_name given names name = if bytes_eq given name then true else names name

-- ---- what is in sight

-- a prototype: its name, its interface, the fields that some IS of its body takes, and what an
-- instance is, by what it is given and what was added before
pub record Prototype : Type 0 where
  pub name : Name
  pub interface : List Field
  pub takes : Names
  pub instance : List Filled → Put → Outcome Instance

-- the prototypes in sight at a place of the text: those declared in the scope, in the order of the
-- text; and those of the scopes around it, the nearest scope first. And the names that the ISs of
-- the body have taken so far
pub record Sight : Type 0 where
  pub here : List Prototype
  pub outside : List Prototype
  pub taken : Names

-- what a part of the text declares and takes: from what is in sight before it, what is in sight
-- after it, or what is wrong with a declaration
abbrev pub Look : Type 0
Look = Sight → Result Sight ExpandFault

-- one part after the other, up to the first fault; `each` does so for a list
abbrev pub and_see : {X Y E : Type 0} → Result X E → (X → Result Y E) → Result Y E
and_see (Ok x) f = f x
and_see (Err e) f = Err e

abbrev pub each : {A X E : Type 0} → (A → X → Result X E) → List A → X → Result X E
each f [] x = Ok x
each f (a ∷ rest) x = and_see (f a x) (each f rest)

-- the start of a PROTO's parts: a new scope, in which what is around it is in sight
abbrev pub opened : Sight → Sight
opened s = record { here = []; outside = s.here ++ s.outside; taken = no_names }

-- a part whose PROTOs are declared, but whose ISs take nothing
abbrev pub aside : Look → Look
aside step s =
    and_see (step (record s { taken = no_names })) (λ t. Ok (record t { taken = s.taken }))

-- the nodes in a value
abbrev pub nodes_in : {N : Type 0} → Given N → List N
nodes_in (given.Value (value.Node node)) = node ∷ []
nodes_in (given.Value (value.NodeList nodes)) = nodes
nodes_in _ = []

-- the nodes in a value
abbrev pub taking : {N : Type 0} → Given N → Names → Names
taking (given.Is name) names = with_name name names
taking _ names = names

-- ---- what the word before the braces means

pub data Owner : Type 0 where
  OfType : NodeType → Owner
  OfProto : Prototype → Owner

-- the first of that name; no scope has two
abbrev pub declared : Name → List Prototype → Option Prototype
declared name prototypes = find (λ (p : Prototype). bytes_eq name p.name) prototypes

-- the first prototype of that name; no scope has two
abbrev pub meant : Name → Sight → Option Owner
meant word s =
    option_or (option_map OfType (node_type_named word))
    (option_map OfProto (declared word (s.here ++ s.outside)))

-- which fields keep what they are given (None: all). A node keeps all; an instance keeps those that
-- some IS of its prototype's body takes. A word that means nothing leaves nothing out: `full_node`
-- answers UnknownNode if the node is added
abbrev pub taken_by : Option Owner → Option Names
taken_by (Some (OfProto p)) = Some p.takes
taken_by _ = None

abbrev pub is_kept : Option Names → Name → Bool
is_kept None name = true
is_kept (Some taken) name = taken name

-- ---- whether a prototype contains an instance of itself

-- the search in a part of the text for an instance of a PROTO inside that PROTO: for a node with
-- the PROTO's name before its braces. The argument says whether the name is hidden where the part
-- begins: a PROTO of the same name, declared further inside, hides it. There are two outcomes:
--   Err line: such a node is on that line, where the name isn't hidden (ProtoItself).
--   Ok hidden: there is none in the part; `hidden` says whether the name is hidden after it.
-- (A PROTO isn't in sight in its own body. So the word could only mean a PROTO of that name further
-- out; it is refused all the same.)
abbrev pub Search : Type 0
Search = Bool → Result Bool ℕ
