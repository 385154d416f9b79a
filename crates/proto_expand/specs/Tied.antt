-- The prototypes of the numbers in a tree, and the trees.
use Rattle.std.specs.Prelude.{◌≡◌, ℕ, List, map, Option, Some, None, slice_get}
use Rattle.classic_tree.specs.declared.tree.ProtoText.{out-ProtoText}
use Rattle.proto_meaning.specs.Flat.{field}
use Rattle.proto_meaning.specs.Names.{Field, Filled}
use Rattle.proto_meaning.specs.Sight.{Put, Prototype}
use Rattle.proto_meaning.specs.trees.Meaning.{instance}
use Rattle.proto_meaning.specs.declared.tree.ProtoTree.{ProtoTree}
use Rattle.proto_nodes.specs.declared.frames.Proto.{Proto}

-- an instance of the prototype is what the tree stands for, and the interface is the tree's
pub record IsTied (ps : List Prototype) (p : Prototype) (tree : ProtoTree) : Type 0 where
  pub interface : p.interface ≡ map field (out-ProtoText tree.text.now).interface
  pub instance : (given : List Filled) (put : Put)
      → p.instance given put ≡ instance ps tree given put

abbrev pub AreTied : List Prototype → Option Prototype → Option ProtoTree → Type 0
AreTied ps None None = Unit
AreTied ps (Some p) (Some tree) = IsTied ps p tree
AreTied ps (Some p) None = ⊥
AreTied ps None (Some tree) = ⊥

-- each number has a prototype and the tree of that prototype, or neither
abbrev pub Tied : List Prototype → List ProtoTree → Type 0
Tied ps trees = (number : ℕ) → AreTied ps (slice_get ps number) (slice_get trees number)

-- ---- the prototypes of the program

abbrev pub known_of : Proto → ProtoTree × List Field
known_of p = (p.tree.now, p.interface)

abbrev pub read_of : ProtoTree → ProtoTree × List Field
read_of t = (t, map field (out-ProtoText t.text.now).interface)
