-- The work that is left on a tree, by what is between braces so far. None of this is part of the
-- definition of a flat document.
use Rattle.std.specs.Prelude.{ℕ, List, [], ◌∷◌, ◌++◌, map, Option, Some, None, Result, Ok, Err}
use Rattle.std.specs.Option.{option_map_or}
use Rattle.classic_tree.specs.declared.tree.ProtoText.{out-ProtoText}
use Rattle.classic_tree.specs.declared.tree.RawValue.{RawValue}
use Rattle.classic_tree.specs.declared.tree.RouteText.{RouteText}
use Rattle.proto_flat.specs.Fault.{fault}
use Rattle.proto_flat.specs.declared.fault.ExpandFault.{ExpandFault}
use Rattle.proto_flat.specs.declared.fault.ExpandFaultKind.TheVariants.{EmptyBody, UnknownField}
use Rattle.proto_meaning.specs.Flat as flat
use Rattle.proto_meaning.specs.Flat.{Does, ◌>>=◌, pure, note, through}
use Rattle.proto_meaning.specs.Names.{Name, Field, Filled, Scope}
use Rattle.proto_meaning.specs.Sight.{Prototype, OfProto, and_see, no_names}
use Rattle.proto_parts.specs.Given as table
use Rattle.proto_parts.specs.Inside.{fields_of_owner}
use Rattle.proto_parts.specs.declared.inside.Owner as holder
use Rattle.proto_parts.specs.declared.inside.Owner.TheVariants.{Node, Instance}
use Rattle.proto_parts.specs.Fields.{numbered}
use Rattle.proto_parts.specs.Settled.{State, doing}
use Rattle.proto_parts.specs.Scope as scope
use Rattle.proto_nodes.specs.Giving.{inside_of}
use Rattle.proto_nodes.specs.Steps.{standing_in}
use Rattle.proto_meaning.specs.trees.Meaning.{item, node, statement, default, gives, value_in, with_given}
use Rattle.proto_meaning.specs.declared.tree.BodyTree.{BodyTree}
use Rattle.proto_meaning.specs.declared.tree.DefaultTree.{DefaultTree}
use Rattle.proto_meaning.specs.trees.Given.{GivenTree}
use Rattle.proto_meaning.specs.declared.tree.GivenTree.TheVariants as tree
use Rattle.proto_meaning.specs.declared.tree.ItemTree.{ItemTree}
use Rattle.proto_meaning.specs.declared.tree.NodeTree.{NodeTree}
use Rattle.proto_meaning.specs.declared.tree.Word.{Word}
use Rattle.proto_nodes.specs.declared.frames.Around.{Around}
use Rattle.proto_nodes.specs.declared.frames.Filling.{Filling}
use Rattle.proto_nodes.specs.declared.frames.Open.{Open}
use Rattle.proto_nodes.specs.declared.frames.FieldAt.{FieldAt}
use Rattle.proto_nodes.specs.Protos.{owner_by, proto_by}

-- ---- the result of a part, from the state of the walk

abbrev pub Comes : Type 0 → Type 0
Comes A = Result (A × State) ExpandFault

-- and what then follows, by what the part returns
abbrev pub after : {A B : Type 0} → Comes A → (A → State → Comes B) → Comes B
after o next = and_see o (λ p. next p.0 p.1)

abbrev pub done : {A : Type 0} → A → State → Comes A
done a s = Ok (a, s)

-- ---- braces

-- the nodes of a list in turn, after those before
abbrev pub add_node : flat.Node → List ℕ → Does (List ℕ)
add_node n ns = n.does >>= λ number. pure (ns ++ number ∷ [])

abbrev pub nodes_do : List Prototype → List NodeTree → List ℕ → Does (List ℕ)
nodes_do ps nodes numbers = through add_node (map (node ps) nodes) numbers

-- what a field is given, with its nodes replaced by what they do
abbrev pub given_by : List Prototype → GivenTree NodeTree → GivenTree flat.Node
given_by ps tree.Nothing = tree.Nothing
given_by ps (tree.Is name) = tree.Is name
given_by ps (tree.Plain v) = tree.Plain v
given_by ps (tree.One n) = tree.One (node ps n)
given_by ps (tree.Many count ns) = tree.Many count (map (node ps) ns)
given_by ps (tree.LeftOut wrong) = tree.LeftOut wrong

-- as in `item_step`
abbrev pub field_does : ℕ → Name → GivenTree flat.Node → flat.Inside → Does flat.Inside
field_does line name g i =
    option_map_or (λ f. gives line f (flat.is_filled name i) g i)
    (flat.numbered_from 0 name i.fields) (flat.refuse UnknownField line)

abbrev pub route_does : RouteText → flat.Inside → Does flat.Inside
route_does r i = flat.note_route r >>= λ _. pure i

abbrev pub items_do : List Prototype → List ItemTree → flat.Inside → Does flat.Inside
items_do ps items = through (λ (i : flat.Item). i.does) (map (item ps) items)

-- braces close
abbrev pub closes : List Prototype → ℕ → Option Name → Word → holder.Owner → flat.Inside → Does ℕ
closes ps line name w (Node t) i = flat.close_node name i.at (flat.flat_node line name t i)
closes ps line name w (Instance interface) i = flat.close_instance name (proto_by ps w) i

-- opens braces, adds all between them, and closes them
abbrev pub braces_do : List Prototype → ℕ → Option Name → Word → holder.Owner → List ItemTree
    → Does ℕ
braces_do ps line name w o items =
    flat.inside name (owner_by ps w o) (fields_of_owner o) (map (item ps) items)
    >>= closes ps line name w o

-- the braces of an instance with that interface
abbrev pub instance_do : List Prototype → Option Name → Prototype → List Field → List ItemTree
    → Does ℕ
instance_do ps name p fields items =
    flat.inside name (OfProto p) fields (map (item ps) items) >>= flat.close_instance name p

-- does the items that are left between braces, and then closes the braces
unfoldable pub open_does : List Prototype → Open → flat.Inside → Does ℕ
open_does ps o i =
    items_do ps o.rest.now i >>= closes ps o.line o.name.now o.word o.inside.owner

-- what is between them so far
abbrev pub inside_now : List Prototype → Open → flat.Inside
inside_now ps o = inside_of o.at (owner_by ps o.word o.inside.owner) o.inside

-- what is between them when a field is given a value
abbrev pub with_value : List Prototype → Open → FieldAt → RawValue ℕ → flat.Inside
with_value ps o p v =
    flat.fill p.line (numbered p.name.now p.field) (inside_now ps o) (Some v)

-- ---- bodies

-- the scope around goes on; no prototype is looked up by name
abbrev pub outside : Scope → State → State
outside around t =
    record {
      room = t.room;
      walk = record {
        put = t.walk.put;
        sight = record { here = []; outside = []; taken = no_names };
        scope = around;
      };
    }

-- a body ends: its scope is left, and the braces around stand for its first node
abbrev pub leaves_by : ℕ → List Field → Option Name → ℕ → Scope → List ℕ → State → Comes ℕ
leaves_by line interface name at around [] t = Err (fault EmptyBody line)
leaves_by line interface name at around (n ∷ ns) t =
    doing (standing_in name at (record {
      node = n;
      interface = Some interface;
      ends = t.walk.scope.ends t.walk.scope.braces;
    })
    (t.walk.scope.routes t.walk.scope.braces)) (outside around t)

abbrev pub line_of : Around → ℕ
line_of a = (out-ProtoText a.proto.now.tree.now.text.now).line

abbrev pub leaves : Around → List ℕ → State → Comes ℕ
leaves a ns t =
    leaves_by (line_of a) a.proto.now.interface a.name.now a.at (scope.shown a.scope) ns t

abbrev pub statements_do : List Prototype → List BodyTree → List ℕ → Does (List ℕ)
statements_do ps statements = through flat.in_body (map (statement ps) statements)

-- the first node of a body, if it has one
abbrev pub first_of : Option ℕ → List ℕ
first_of None = []
first_of (Some n) = n ∷ []

-- the rest of a body, after that first node
unfoldable pub body_comes : List Prototype → Around → List BodyTree → List ℕ → State → Comes ℕ
body_comes ps a rest first s = after (doing (statements_do ps rest first) s) (leaves a)

-- an IS finds the interface, and what the instance is given
abbrev pub finds : List Field → List Filled → Does (Unit {0})
finds interface all = note (tt {0}) (λ s. record s { interface = interface; given = all })

-- the rest of the default values, and then the body
abbrev pub defaults_do : List Prototype → Around → List DefaultTree → List Filled → Does (List ℕ)
defaults_do ps a rest all =
    through (default ps) rest all >>= λ filled. finds a.proto.now.interface filled
    >>= λ _. statements_do ps a.proto.now.tree.now.body []

unfoldable pub filling_comes : List Prototype → Around → List DefaultTree → List Filled → State
    → Comes ℕ
filling_comes ps a rest all s = after (doing (defaults_do ps a rest all) s) (leaves a)

-- what the instance is given, and the default values so far
abbrev pub filled_now : Filling → List Filled
filled_now f = table.shown f.given ++ table.shown f.defaults

abbrev pub default_value : FieldAt → RawValue ℕ → Filled
default_value p v =
    record { line = p.line; name = p.name.now; number = p.field.number; value = Some v }

-- adds a default value, and then does the rest
abbrev pub default_comes : List Prototype → DefaultTree → Filling → State → Comes ℕ
default_comes ps d f s =
    after
    (doing (flat.put_default (with_given d.declaration.now (value_in ps d.value)) (filled_now f)
    (value_in ps d.value)) s)
    (filling_comes ps f.around.value f.rest.now)
