-- What a resolved text stands for.
use Rattle.std.specs.Prelude.{◌≡◌, ℕ, List, map, Option, None, Some, slice_get}
use Rattle.classic_tree.specs.declared.tree.ProtoText.{out-ProtoText}
use Rattle.classic_tree.specs.declared.tree.Statement.{Statement}
use Rattle.proto_flat.specs.declared.flat.Header.{Header}
use Rattle.proto_meaning.specs.Names.{Filled}
use Rattle.proto_meaning.specs.Sight.{Put, Prototype}
use Rattle.proto_meaning.specs.Flat as flat
use Rattle.proto_meaning.specs.declared.tree.BodyTree.{BodyTree}
use Rattle.proto_meaning.specs.declared.tree.ProtoTree.{ProtoTree}
use Rattle.proto_meaning.specs.trees.Meaning.{instance, stand_together}
use Rattle.proto_resolver.specs.Parts.{IsResolved}

-- the statements of the text and of the tree give the same
abbrev pub ResolvedTextsStandForTheSame : Type 0
ResolvedTextsStandForTheSame =
    (text : List Statement) (protos : List ProtoTree) (trees : List BodyTree)
    (r : IsResolved text protos trees) (header : Header)
    → stand_together r.prototypes header trees
    ≡ flat.stand_together header (map flat.statement text)

-- a number means a tree and a prototype, or neither; an instance of the prototype is what the tree
-- says
abbrev pub IsTreeOf : List Prototype → Option ProtoTree → Option Prototype → Type 0
IsTreeOf ps None None = Unit {0}
IsTreeOf ps None (Some p) = ⊥
IsTreeOf ps (Some t) None = ⊥
IsTreeOf ps (Some t) (Some p) =
    (p.name ≡ (out-ProtoText t.text.now).name)
    × (p.interface ≡ map flat.field (out-ProtoText t.text.now).interface)
    × ((given : List Filled) (put : Put) → p.instance given put ≡ instance ps t given put)

abbrev pub NumbersMeanTheirTrees : Type 0
NumbersMeanTheirTrees =
    (text : List Statement) (protos : List ProtoTree) (trees : List BodyTree)
    (r : IsResolved text protos trees) (n : ℕ)
    → IsTreeOf r.prototypes (slice_get protos n) (slice_get r.prototypes n)
