-- The prototypes of the numbers in a tree, and the trees.
use Rattle.std.specs.Prelude.{◌≡◌, ℕ, List, [], map, Option, Some, None, Err, slice_get}
use Rattle.classic_tree.specs.declared.tree.ProtoText.{out-ProtoText}
use Rattle.proto_flat.specs.Fault.{memory}
use Rattle.proto_meaning.specs.Flat.{comes, field}
use Rattle.proto_meaning.specs.Names.{Filled}
use Rattle.proto_meaning.specs.Sight.{Put, Prototype, Owner, OfType, OfProto, no_names}
use Rattle.proto_parts.specs.declared.inside.Owner as holder
use Rattle.proto_parts.specs.declared.inside.Owner.TheVariants.{Node, Instance}
use Rattle.proto_meaning.specs.trees.Meaning.{instance}
use Rattle.proto_meaning.specs.declared.tree.Word.{Word}
use Rattle.proto_meaning.specs.declared.tree.Word.TheVariants as word
use Rattle.proto_nodes.specs.declared.frames.Proto.{Proto}

-- an instance of the prototype is what its tree stands for, and it has that interface
pub record IsKnown (ps : List Prototype) (p : Prototype) (known : Proto) : Type 0 where
  pub interface : p.interface ≡ known.interface
  pub read : known.interface ≡ map field (out-ProtoText known.tree.now.text.now).interface
  pub instance : (given : List Filled) (put : Put)
      → p.instance given put ≡ instance ps known.tree.now given put

abbrev pub AreKnown : List Prototype → Option Prototype → Option Proto → Type 0
AreKnown ps None None = Unit
AreKnown ps (Some p) (Some known) = IsKnown ps p known
AreKnown ps (Some p) None = ⊥
AreKnown ps None (Some known) = ⊥

abbrev pub Knows : List Prototype → List Proto → Type 0
Knows ps protos = (number : ℕ) → AreKnown ps (slice_get ps number) (slice_get protos number)

-- ---- the owner of braces

abbrev pub no_prototype : Prototype
no_prototype =
    record {
      name = [];
      interface = [];
      takes = no_names;
      instance = λ given put. comes (Err memory);
    }

abbrev pub found : Option Prototype → Prototype
found None = no_prototype
found (Some p) = p

abbrev pub proto_by : List Prototype → Word → Prototype
proto_by ps word.Unknown = no_prototype
proto_by ps (word.Node t) = no_prototype
proto_by ps (word.Instance number) = found (slice_get ps number)

-- the owner, by the kind of braces and what the word before them means
abbrev pub owner_by : List Prototype → Word → holder.Owner → Owner
owner_by ps w (Node t) = OfType t
owner_by ps w (Instance interface) = OfProto (proto_by ps w)
