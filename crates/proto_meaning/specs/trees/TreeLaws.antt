-- Resolved trees stand for what their texts stand for.
use Rattle.std.specs.Prelude.{◌≡◌, List, [], ◌∷◌, ◌++◌, Ok, map}
use Rattle.classic_tree.specs.declared.tree.ProtoText.{out-ProtoText}
use Rattle.classic_tree.specs.declared.tree.Statement.{Statement}
use Rattle.proto_flat.specs.declared.flat.Header.{Header}
use Rattle.proto_meaning.specs.Names.{Filled}
use Rattle.proto_meaning.specs.Sight.{Put, Prototype, Sight, no_names}
use Rattle.proto_meaning.specs.Flat as flat
use Rattle.proto_meaning.specs.declared.tree.BodyTree.{BodyTree}
use Rattle.proto_meaning.specs.declared.tree.ProtoTree.{ProtoTree}
use Rattle.proto_meaning.specs.trees.Meaning.{instance, stand_together}
use Rattle.proto_meaning.specs.trees.Resolved.{Seen, AreStatements, IsProto}

-- a text and its resolved tree give the same outcome
abbrev pub TextsStandForTheSame : Type 0
TextsStandForTheSame =
    (ps : List Prototype) (header : Header) (text : List Statement) (tree : List BodyTree)
    (r : Seen)
    → AreStatements ps text tree (record { here = []; outside = []; taken = no_names }) r
    → stand_together ps header tree ≡ flat.stand_together header (map flat.statement text)

-- an instance of a declared prototype is what its tree says, and it takes the fields that the ISs
-- of its text take
abbrev pub PrototypesAreTheSame : Type 0
PrototypesAreTheSame =
    (ps : List Prototype) (t : ProtoTree) (s u v : Sight) → IsProto ps t s u
    → (flat.proto t.text.now).sees s ≡ Ok v
    → (p : Prototype) × (v ≡ record s { here = s.here ++ p ∷ [] })
    × (p.name ≡ (out-ProtoText t.text.now).name)
    × (p.interface ≡ map flat.field (out-ProtoText t.text.now).interface) × (p.takes ≡ u.taken)
    × ((given : List Filled) (put : Put) → p.instance given put ≡ instance ps t given put)
