-- Parts of a text and their trees, in order.
use Rattle.std.specs.Prelude.{◌≡◌, List, [], ◌∷◌, ◌++◌, Option, None, Some, Ok, Err}
use Rattle.classic_tree.specs.declared.tree.Declaration.{Declaration}
use Rattle.classic_tree.specs.declared.tree.NodeText.{NodeText}
use Rattle.classic_tree.specs.declared.tree.ProtoText.{ProtoText, out-ProtoText}
use Rattle.classic_tree.specs.declared.tree.Statement.{Statement}
use Rattle.proto_meaning.specs.Sight.{Names, no_names, Prototype, Sight, each, aside}
use Rattle.proto_meaning.specs.Texts.{sees_given, sees_interface, sees_inside}
use Rattle.proto_meaning.specs.declared.tree.BodyTree.{BodyTree}
use Rattle.proto_meaning.specs.declared.tree.DefaultTree.{DefaultTree}
use Rattle.proto_meaning.specs.declared.tree.ProtoTree.{ProtoTree}
use Rattle.proto_meaning.specs.trees.Resolved.{Seen, AreDefaults, AreStatements}
use Rattle.proto_resolver.specs.Standing.{TreesStand}
use Rattle.proto_resolver.specs.Steps.{defaults_taken}

-- the rest after a part: no trees, once something is wrong
abbrev pub Left : {X T : Type 0} → (List X → List T → Sight → Seen → Type 0) → List X → Seen
    → List T → Seen → Type 0
Left are rest (Ok u) trees r = are rest trees u r
Left are rest (Err e) trees r = (trees ≡ []) × (r ≡ Err e)

-- whatever the trees of the rest are, together with those made before they are trees of all
abbrev pub Before : {X T : Type 0} → (List X → List T → Sight → Seen → Type 0) → List X → List X
    → List T → Sight → Seen → Type 0
Before {X} {T} are xs rest made s u =
    (trees : List T) (r : Seen) → Left are rest u trees r → are xs (made ++ trees) s r

-- one tree or none
abbrev pub one_or_none : {T : Type 0} → Option T → List T
one_or_none None = []
one_or_none (Some t) = t ∷ []

-- default values, before it is known which of them are taken
pub record AreAllDefaults (ps : List Prototype) (ds : List (Declaration NodeText))
    (ts : List DefaultTree) (s : Sight) (r : Seen) : Type 0 where
  pub sees : each (λ (d : Declaration NodeText). sees_given d.given) ds s ≡ r
  pub are : (u : Sight) → r ≡ Ok u → (takes : Names)
      → AreDefaults ps takes ds (defaults_taken takes ts) s u

-- default values in which an IS takes nothing
pub record AreDefaultsAside (ps : List Prototype) (ds : List (Declaration NodeText))
    (ts : List DefaultTree) (s : Sight) (r : Seen) : Type 0 where
  pub sees : aside (sees_interface ds) s ≡ r
  pub are : (u : Sight) → r ≡ Ok u → (behind : Sight) × (u ≡ record behind { taken = s.taken })
      × ((takes : Names)
      → AreDefaults ps takes ds (defaults_taken takes ts) (record s { taken = no_names }) behind)

-- the interface and the body of a prototype
pub record IsInterior (ps : List Prototype) (p : ProtoText) (defaults : List DefaultTree)
    (body : List BodyTree) (s : Sight) (r : Seen) : Type 0 where
  pub sees : sees_inside (out-ProtoText p).interface (out-ProtoText p).body s ≡ r
  pub are : (u : Sight) → r ≡ Ok u → (behind : Sight)
      × AreDefaults ps u.taken (out-ProtoText p).interface (defaults_taken u.taken defaults)
      (record s { taken = no_names }) behind
      × AreStatements ps (out-ProtoText p).body body (record behind { taken = s.taken }) (Ok u)

-- a resolved text: its trees are those of its statements, and of its prototypes
pub record IsResolved (text : List Statement) (protos : List ProtoTree) (trees : List BodyTree)
    : Type 0 where
  pub prototypes : List Prototype
  pub seen : Seen
  pub stand : TreesStand prototypes protos
  pub are : AreStatements prototypes text trees
      (record { here = []; outside = []; taken = no_names }) seen
