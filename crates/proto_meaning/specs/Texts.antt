-- What the parts of a text declare and take, by the text itself: the steps of proto_meaning for
-- each part.
use Rattle.std.specs.Prelude.{ℕ, Bool, false, not, ◌&&◌, ◌||◌, if◌then◌else◌, List, [], ◌∷◌, ◌++◌, Result, Ok, Err, is_some}
use Rattle.std.specs.List.{list_any}
use Rattle.std.specs.Str.{bytes_eq}
use Rattle.x3d_values.specs.Names.{node_type_named}
use Rattle.classic_tree.specs.declared.tree.BodyItem.{BodyItem}
use Rattle.classic_tree.specs.declared.tree.Declaration.{Declaration}
use Rattle.classic_tree.specs.declared.tree.Given.{Given}
use Rattle.classic_tree.specs.declared.tree.Given.TheVariants as given
use Rattle.classic_tree.specs.declared.tree.NodeText.{NodeText}
use Rattle.classic_tree.specs.declared.tree.ProtoText.{ProtoText, out-ProtoText, map-ProtoText}
use Rattle.classic_tree.specs.declared.tree.BodyItem.TheOpen.{ProtoText-F}
use Rattle.classic_tree.specs.declared.tree.RawValue.{RawValue}
use Rattle.classic_tree.specs.declared.tree.RawValue.TheVariants as value
use Rattle.classic_tree.specs.declared.tree.Statement.{Statement}
use Rattle.proto_flat.specs.Fault.{fault}
use Rattle.proto_flat.specs.declared.fault.ExpandFault.{ExpandFault}
use Rattle.proto_flat.specs.declared.fault.ExpandFaultKind.TheVariants.{ProtoTwice, ProtoItself, EmptyBody}
use Rattle.proto_meaning.specs.Names.{Name}
use Rattle.proto_meaning.specs.Sight.{Names, with_name, Prototype, Sight, Look, Search, and_see, each, opened, aside, declared, meant, taken_by}
use Rattle.proto_meaning.specs.Flat as flat
use Rattle.proto_meaning.specs.Flat.{Item, Node, Stated, Proto}

-- ---- the search for a node of one type

abbrev pub finds_value : Name → RawValue NodeText → Search
finds_value own (value.Node n) hidden = (flat.node n).finds own hidden
finds_value own (value.NodeList ns) hidden = each (λ n. (flat.node n).finds own) ns hidden
finds_value own _ hidden = Ok hidden

abbrev pub finds_given : Name → Given NodeText → Search
finds_given own (given.Value v) hidden = finds_value own v hidden
finds_given own _ hidden = Ok hidden

abbrev pub finds_full : ℕ → Name → List BodyItem → Name → Search
finds_full line word items own hidden =
    if not hidden && bytes_eq word own then Err line
    else each (λ i. (flat.item i).finds own) items hidden

abbrev pub finds_inside : List (Declaration NodeText) → List Statement → Name → Search
finds_inside interface body own hidden =
    and_see (each (λ (d : Declaration NodeText). finds_given own d.given) interface hidden)
    (each (λ s. (flat.statement s).1.finds own) body)

-- ---- what is declared and taken

abbrev pub sees_value : RawValue NodeText → Look
sees_value (value.Node n) s = (flat.node n).sees s
sees_value (value.NodeList ns) s = each (λ n. (flat.node n).sees) ns s
sees_value _ s = Ok s

abbrev pub sees_given : Given NodeText → Look
sees_given given.Nothing s = Ok s
sees_given (given.Value v) s = sees_value v s
sees_given (given.Is name) s = Ok (record s { taken = with_name name s.taken })

-- a value that is kept takes names; a value that no IS takes only declares
abbrev pub sees_field : Bool → Given NodeText → Look
sees_field kept g = if kept then sees_given g else aside (sees_given g)

unfoldable pub sees_full : Name → List BodyItem → Look
sees_full word items s = each (λ i. (flat.item i).sees (taken_by (meant word s))) items s

abbrev pub sees_interface : List (Declaration NodeText) → Look
sees_interface interface = each (λ (d : Declaration NodeText). sees_given d.given) interface

unfoldable pub sees_inside : List (Declaration NodeText) → List Statement → Look
sees_inside interface body s =
    and_see (aside (sees_interface interface) s) (each (λ x. (flat.statement x).1.sees) body)

-- ---- declarations

abbrev pub parts : ProtoText → ProtoText-F Item Node Stated Proto
parts p =
    map-ProtoText BodyItem NodeText Statement ProtoText Item Node Stated Proto
    flat.item flat.node flat.statement flat.proto (out-ProtoText p)

-- the prototype of a text under that name, by the prototypes around it and the fields that its ISs
-- take
unfoldable pub prototype_of : Name → ProtoText → List Prototype → Names → Prototype
prototype_of name p outside takes =
    flat.prototype (parts p).line name (parts p).interface (parts p).body outside takes

-- after its closing brace a prototype is declared in the scope around it
abbrev pub closed : ProtoText → Sight → Sight → Sight
closed p around s =
    record around {
      here = around.here
          ++ prototype_of (out-ProtoText p).name p (around.here ++ around.outside) s.taken ∷ [];
    }

abbrev pub is_known : Name → Sight → Bool
is_known name s = is_some (node_type_named name) || is_some (declared name s.here)

abbrev pub has_node : List Statement → Bool
has_node body = list_any (λ s. (flat.statement s).0) body

abbrev pub unless_found : Result Bool ℕ → Result (Unit {0}) ExpandFault
    → Result (Unit {0}) ExpandFault
unless_found (Ok hidden) answer = answer
unless_found (Err line) answer = Err (fault ProtoItself line)

unfoldable pub checked : ProtoText → Sight → Result (Unit {0}) ExpandFault
checked p s =
    if is_known (out-ProtoText p).name s
    then Err (fault ProtoTwice (out-ProtoText p).line)
    else unless_found
    (finds_inside (out-ProtoText p).interface (out-ProtoText p).body (out-ProtoText p).name false)
    (if has_node (out-ProtoText p).body then Ok tt
    else Err (fault EmptyBody (out-ProtoText p).line))

unfoldable pub enters : ProtoText → Look
enters p s =
    and_see (sees_inside (out-ProtoText p).interface (out-ProtoText p).body (opened s)) (λ t.
    Ok (closed p s t))

-- faults of the declaration itself come first, then those of the declarations inside
unfoldable pub declares : ProtoText → Look
declares p s = and_see (checked p s) (λ _. enters p s)
