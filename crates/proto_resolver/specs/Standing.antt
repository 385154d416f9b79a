-- What the program holds, by the prototypes of the numbers, and what a call of it resolves.
use Rattle.std.specs.Prelude.{◌≡◌, ℕ, List, length, map, Option, None, Some, Ok, Err, slice_get}
use Rattle.classic_tree.specs.declared.tree.ProtoText.{out-ProtoText}
use Rattle.proto_flat.specs.declared.fault.ExpandFault.{ExpandFault}
use Rattle.proto_meaning.specs.Flat.{field}
use Rattle.proto_meaning.specs.Names.{Name, Filled}
use Rattle.proto_meaning.specs.Sight.{Put, Prototype, Sight, declared}
use Rattle.proto_meaning.specs.declared.tree.ProtoTree.{ProtoTree}
use Rattle.proto_meaning.specs.trees.Meaning.{instance}
use Rattle.proto_meaning.specs.trees.Resolved.{Seen}
use Rattle.proto_resolver.specs.declared.scopes.KnownProto.{KnownProto}
use Rattle.proto_resolver.specs.declared.scopes.Scopes.{Scopes}
use Rattle.proto_resolver.specs.declared.resolver.Resolver.{Resolver}
use Rattle.proto_resolver.specs.Held.{names_of, takes_of, found, seen}

-- ---- prototypes by number

-- a number that means something means the same in the longer list
abbrev pub Extends : List Prototype → List Prototype → Type 0
Extends ps all = (n : ℕ) (p : Prototype) → slice_get ps n ≡ Some p → slice_get all n ≡ Some p

-- the tree stands for the prototype, if words in it mean the prototypes of ps, or of a longer list
pub record IsOf (ps : List Prototype) (t : ProtoTree) (p : Prototype) : Type 0 where
  pub name : p.name ≡ (out-ProtoText t.text.now).name
  pub interface : p.interface ≡ map field (out-ProtoText t.text.now).interface
  pub instance : (all : List Prototype) → Extends ps all → (given : List Filled) (put : Put)
      → p.instance given put ≡ instance all t given put

-- each tree stands for the prototype of its number
pub record TreesStand (ps : List Prototype) (trees : List ProtoTree) : Type 0 where
  pub count : length ps ≡ length trees
  pub each : (n : ℕ) (t : ProtoTree) → slice_get trees n ≡ Some t
      → (p : Prototype) × (slice_get ps n ≡ Some p) × IsOf ps t p

-- ---- prototypes by name

-- the entry has the prototype's number, and takes the names that the prototype takes
abbrev pub Means : List Prototype → Option KnownProto → Option Prototype → Type 0
Means ps None None = Unit {0}
Means ps None (Some p) = ⊥
Means ps (Some e) None = ⊥
Means ps (Some e) (Some p) = (slice_get ps e.number ≡ Some p) × (p.takes ≡ takes_of e)

-- the scopes hold what is in sight
pub record Shows (ps : List Prototype) (scopes : Scopes) (s : Sight) : Type 0 where
  pub here : (name : Name) → Means ps (found scopes.here name) (declared name s.here)
  pub outside : (name : Name) → Means ps (seen scopes.outside.items name) (declared name s.outside)
  pub taken : names_of scopes.takes ≡ s.taken

-- ---- what a call does

-- after a part without a fault, the scopes hold what is in sight, and the scopes around are
-- unchanged
abbrev pub Ends : List Prototype → Resolver → Resolver → Option ExpandFault → Seen → Type 0
Ends ps old new None (Ok u) =
    Shows ps new.scopes u × (new.scopes.outside.items ≡ old.scopes.outside.items)
Ends ps old new None (Err e) = ⊥
Ends ps old new (Some wrong) (Ok u) = ⊥
Ends ps old new (Some wrong) (Err e) = wrong ≡ e

-- where s is in sight: there is a longer list of prototypes, by which the part leads to `seen`; and
-- `holds` holds for every list that is longer still
pub record LeadsTo (ps : List Prototype) (s : Sight) (old new : Resolver)
    (wrong : Option ExpandFault) (holds : List Prototype → Sight → Seen → Type 0) : Type 0 where
  pub more : List Prototype
  pub seen : Seen
  pub extends : Extends ps more
  pub stands : TreesStand more new.protos
  pub ends : Ends more old new wrong seen
  pub is : (all : List Prototype) → Extends more all → holds all s seen

abbrev pub Resolves : Resolver → Resolver → Option ExpandFault
    → (List Prototype → Sight → Seen → Type 0) → Type 0
Resolves old new wrong holds =
    (ps : List Prototype) (s : Sight) → TreesStand ps old.protos → Shows ps old.scopes s
    → LeadsTo ps s old new wrong holds
