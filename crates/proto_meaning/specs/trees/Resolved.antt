-- The resolved tree of a text (ISO/IEC 19775-1, 4.4.4, prototype scoping rules), by what is in
-- sight before a part of the text and what its `sees` gives: each word before braces is replaced by
-- what it means there, values that no IS takes are left out, and nothing follows the first wrong
-- declaration.
use Rattle.std.specs.Borrow.{Bor}
use Rattle.std.specs.Prelude.{◌≡◌, ℕ, Bool, true, false, ◌&&◌, List, [], ◌∷◌, length, Option, Some, None, Result, Ok, Err}
use Rattle.classic_tree.specs.declared.tree.BodyItem.{BodyItem}
use Rattle.classic_tree.specs.declared.tree.BodyItem.TheVariants as text_item
use Rattle.classic_tree.specs.declared.tree.Declaration.{Declaration}
use Rattle.classic_tree.specs.declared.tree.Given.{Given}
use Rattle.classic_tree.specs.declared.tree.Given.TheVariants as given
use Rattle.classic_tree.specs.declared.tree.NodeText.{NodeText}
use Rattle.classic_tree.specs.declared.tree.NodeText.TheVariants as text_node
use Rattle.classic_tree.specs.declared.tree.ProtoText.{ProtoText, out-ProtoText}
use Rattle.classic_tree.specs.declared.tree.RawValue.{RawValue}
use Rattle.classic_tree.specs.declared.tree.RawValue.TheVariants as value
use Rattle.classic_tree.specs.declared.tree.RouteText.{RouteText}
use Rattle.classic_tree.specs.declared.tree.Statement.{Statement}
use Rattle.classic_tree.specs.declared.tree.Statement.TheVariants as text_statement
use Rattle.proto_flat.specs.declared.fault.ExpandFault.{ExpandFault}
use Rattle.proto_meaning.specs.Names.{Name}
use Rattle.proto_meaning.specs.Sight.{Names, with_name, no_names, Prototype, Sight, Look, each, opened, aside, nodes_in, meant, taken_by, is_kept}
use Rattle.proto_meaning.specs.Sight as sight
use Rattle.proto_meaning.specs.Flat as flat
use Rattle.proto_meaning.specs.declared.tree.BodyTree.{BodyTree}
use Rattle.proto_meaning.specs.declared.tree.BodyTree.TheVariants as body
use Rattle.proto_meaning.specs.declared.tree.DefaultTree.{DefaultTree}
use Rattle.proto_meaning.specs.trees.Given.{GivenTree}
use Rattle.proto_meaning.specs.declared.tree.GivenTree.TheVariants as tree_given
use Rattle.proto_meaning.specs.declared.tree.ItemTree.{ItemTree}
use Rattle.proto_meaning.specs.declared.tree.ItemTree.TheVariants as tree_item
use Rattle.proto_meaning.specs.declared.tree.NodeTree.{NodeTree}
use Rattle.proto_meaning.specs.declared.tree.NodeTree.TheVariants as tree_node
use Rattle.proto_meaning.specs.declared.tree.ProtoTree.{ProtoTree}
use Rattle.proto_meaning.specs.declared.tree.Word.{Word}
use Rattle.proto_meaning.specs.trees.Meaning.{owner}

abbrev pub Seen : Type 0
Seen = Result Sight ExpandFault

-- ---- values that no IS takes

-- what a value declares, and what an IS that is given takes
abbrev pub given_sees : Given NodeText → Look
given_sees g s =
    each (λ n. (flat.node n).sees) (nodes_in g) (record s { taken = sight.taking g s.taken })

abbrev pub wrong_in : Seen → Option ExpandFault
wrong_in (Ok s) = None
wrong_in (Err e) = Some e

abbrev pub is_value : Given NodeText → Bool
is_value (given.Value v) = true
is_value g = false

abbrev pub is_plain : RawValue NodeText → Bool
is_plain (value.Node n) = false
is_plain (value.NodeList ns) = false
is_plain v = true

-- an IS takes a name if its field is kept
abbrev pub taking : Bool → Name → Sight → Sight
taking true name s = record s { taken = with_name name s.taken }
taking false name s = s

-- ---- parts of a text, by the prototypes of the numbers

mutual
  pub data IsNode (ps : List Prototype) : NodeText → NodeTree → Sight → Seen → Type 0 where
    used : (line : ℕ) (name : Bor (List ℕ)) (s : Sight)
        → IsNode ps (text_node.Use line name.now) (tree_node.Use line name) s (Ok s)
    full : (line : ℕ) (name : Bor (Option (List ℕ))) (word : Name) (w : Word)
        (items : List BodyItem) (trees : List ItemTree) (s : Sight) (r : Seen)
        → meant word s ≡ owner ps w → AreItems ps (taken_by (meant word s)) items trees s r
        → IsNode ps (text_node.Full line name.now word items) (tree_node.Full line name w trees) s r

  pub data AreNodes (ps : List Prototype)
      : List NodeText → List NodeTree → Sight → Seen → Type 0 where
    no_nodes : (s : Sight) → AreNodes ps [] [] s (Ok s)
    next_node : (n : NodeText) (t : NodeTree) (ns : List NodeText) (ts : List NodeTree)
        (s u : Sight) (r : Seen)
        → IsNode ps n t s (Ok u) → AreNodes ps ns ts u r → AreNodes ps (n ∷ ns) (t ∷ ts) s r
    last_node : (n : NodeText) (t : NodeTree) (ns : List NodeText) (s : Sight) (e : ExpandFault)
        → IsNode ps n t s (Err e) → AreNodes ps (n ∷ ns) (t ∷ []) s (Err e)

  -- kept: some IS takes the field, or it is a node's
  pub data IsGiven (ps : List Prototype)
      : Bool → Given NodeText → GivenTree NodeTree → Sight → Seen → Type 0 where
    nothing : (kept : Bool) (s : Sight) → IsGiven ps kept given.Nothing tree_given.Nothing s (Ok s)
    is : (kept : Bool) (name : Bor (List ℕ)) (s : Sight)
        → IsGiven ps kept (given.Is name.now) (tree_given.Is name) s (Ok (taking kept name.now s))
    plain : (v : Bor (RawValue NodeText)) (s : Sight) → is_plain v.now ≡ true
        → IsGiven ps true (given.Value v.now) (tree_given.Plain v) s (Ok s)
    one : (n : NodeText) (t : NodeTree) (s : Sight) (r : Seen) → IsNode ps n t s r
        → IsGiven ps true (given.Value (value.Node n)) (tree_given.One t) s r
    many : (ns : List NodeText) (ts : List NodeTree) (s : Sight) (r : Seen) → AreNodes ps ns ts s r
        → IsGiven ps true (given.Value (value.NodeList ns)) (tree_given.Many (length ns) ts) s r
    left_out : (v : RawValue NodeText) (s : Sight) (r : Seen)
        → aside (given_sees (given.Value v)) s ≡ r
        → IsGiven ps false (given.Value v) (tree_given.LeftOut (wrong_in r)) s r

  pub data IsItem (ps : List Prototype)
      : Option Names → BodyItem → ItemTree → Sight → Seen → Type 0 where
    field : (taken : Option Names) (line : ℕ) (name : Bor (List ℕ)) (g : Given NodeText)
        (t : GivenTree NodeTree) (s : Sight) (r : Seen)
        → IsGiven ps (is_kept taken name.now) g t s r
        → IsItem ps taken (text_item.Field line name.now g) (tree_item.Field line name t) s r
    declaration : (taken : Option Names) (d : Bor (Declaration NodeText)) (t : GivenTree NodeTree)
        (s : Sight) (r : Seen) → IsGiven ps true d.now.given t s r
        → IsItem ps taken (text_item.Declaration d.now) (tree_item.Declaration d t) s r
    route : (taken : Option Names) (route : Bor RouteText) (s : Sight)
        → IsItem ps taken (text_item.Route route.now) (tree_item.Route route) s (Ok s)
    wrong : (taken : Option Names) (p : ProtoText) (s : Sight) (e : ExpandFault)
        → (flat.proto p).sees s ≡ Err e
        → IsItem ps taken (text_item.Proto p) (tree_item.Wrong e) s (Err e)

  -- between braces that keep the fields of those names (None: all)
  pub data AreItems (ps : List Prototype)
      : Option Names → List BodyItem → List ItemTree → Sight → Seen → Type 0 where
    no_items : (taken : Option Names) (s : Sight) → AreItems ps taken [] [] s (Ok s)
    next_item : (taken : Option Names) (i : BodyItem) (t : ItemTree) (is : List BodyItem)
        (ts : List ItemTree) (s u : Sight) (r : Seen) → IsItem ps taken i t s (Ok u)
        → AreItems ps taken is ts u r
        → AreItems ps taken (i ∷ is) (t ∷ ts) s r
    last_item : (taken : Option Names) (i : BodyItem) (t : ItemTree) (is : List BodyItem)
        (s : Sight) (e : ExpandFault) → IsItem ps taken i t s (Err e)
        → AreItems ps taken (i ∷ is) (t ∷ []) s (Err e)
    declared_item : (taken : Option Names) (p : ProtoText) (is : List BodyItem) (ts : List ItemTree)
        (s u : Sight) (r : Seen) → (flat.proto p).sees s ≡ Ok u → AreItems ps taken is ts u r
        → AreItems ps taken (text_item.Proto p ∷ is) ts s r

-- ---- statements

pub data AreStatements (ps : List Prototype)
    : List Statement → List BodyTree → Sight → Seen → Type 0 where
  none : (s : Sight) → AreStatements ps [] [] s (Ok s)
  node : (n : NodeText) (t : NodeTree) (xs : List Statement) (ts : List BodyTree) (s u : Sight)
      (r : Seen) → IsNode ps n t s (Ok u) → AreStatements ps xs ts u r
      → AreStatements ps (text_statement.Node n ∷ xs) (body.Node t ∷ ts) s r
  last : (n : NodeText) (t : NodeTree) (xs : List Statement) (s : Sight) (e : ExpandFault)
      → IsNode ps n t s (Err e)
      → AreStatements ps (text_statement.Node n ∷ xs) (body.Node t ∷ []) s (Err e)
  route_statement : (route : Bor RouteText) (xs : List Statement) (ts : List BodyTree) (s : Sight)
      (r : Seen)
      → AreStatements ps xs ts s r
      → AreStatements ps (text_statement.Route route.now ∷ xs) (body.Route route ∷ ts) s r
  declared : (p : ProtoText) (xs : List Statement) (ts : List BodyTree) (s u : Sight) (r : Seen)
      → (flat.proto p).sees s ≡ Ok u → AreStatements ps xs ts u r
      → AreStatements ps (text_statement.Proto p ∷ xs) ts s r
  wrong_statement : (p : ProtoText) (xs : List Statement) (s : Sight) (e : ExpandFault)
      → (flat.proto p).sees s ≡ Err e
      → AreStatements ps (text_statement.Proto p ∷ xs) (body.Wrong e ∷ []) s (Err e)

-- ---- prototypes

-- default values that some IS takes, without a wrong declaration
pub data AreDefaults (ps : List Prototype) (takes : Names)
    : List (Declaration NodeText) → List DefaultTree → Sight → Sight → Type 0 where
  no_defaults : (s : Sight) → AreDefaults ps takes [] [] s s
  kept : (d : Bor (Declaration NodeText)) (t : GivenTree NodeTree)
      (ds : List (Declaration NodeText)) (ts : List DefaultTree) (s u v : Sight)
      → takes d.now.name ≡ true
      → IsGiven ps true d.now.given t s (Ok u) → AreDefaults ps takes ds ts u v
      → AreDefaults ps takes (d.now ∷ ds) (record { declaration = d; value = t } ∷ ts) s v
  left : (d : Declaration NodeText) (ds : List (Declaration NodeText)) (ts : List DefaultTree)
      (s u v : Sight) → (takes d.name && is_value d.given) ≡ false → given_sees d.given s ≡ Ok u
      → AreDefaults ps takes ds ts u v → AreDefaults ps takes (d ∷ ds) ts s v

-- the interface and the body of a prototype that is declared where s is in sight; at the end of its
-- body u is in sight, and its ISs have taken u.taken
pub record IsProto (ps : List Prototype) (t : ProtoTree) (s u : Sight) : Type 0 where
  pub behind : Sight
  pub defaults : AreDefaults ps u.taken (out-ProtoText t.text.now).interface t.defaults
      (opened s) behind
  pub body : AreStatements ps (out-ProtoText t.text.now).body t.body
      (record behind { taken = no_names }) (Ok u)
