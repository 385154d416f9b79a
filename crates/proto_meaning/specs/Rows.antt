-- Instances that are given nothing, one after the other.
use Rattle.std.specs.Prelude.{◌≡◌, ℕ, zero, suc, List, [], ◌∷◌, ◌++◌, Option, Some, Ok}
use Rattle.classic_tree.specs.declared.tree.BodyItem.TheOpen.{Statement-F}
use Rattle.proto_meaning.specs.Limits.{Met, behind}
use Rattle.proto_meaning.specs.Names.{Name}
use Rattle.proto_meaning.specs.Sight.{Prototype, Sight, OfProto}
use Rattle.proto_meaning.specs.Flat.{Walk, Does, ◌>>=◌, pure, through, Node, Stated, full_node, statement_step}
use Rattle.proto_meaning.specs.Sizes.{IsSized}

-- ---- one

-- the prototype's name, with or without DEF and a name before it, and empty braces
abbrev pub bare : Prototype → ℕ → Option Name → Does ℕ
bare p line name = full_node line name [] (Some (OfProto p))

-- somewhere such an instance was added, and `met` was counted on the way
pub record MetIn (p : Prototype) (met : List Met) : Type 0 where
  pub line : ℕ
  pub name : Option Name
  pub walk : Walk
  pub first : ℕ × Walk
  pub was : bare p line name walk ≡ record { met = met; comes = Ok first }

-- a node that is such an instance where s is in sight, of a prototype of which one was added
pub record Known (s : Sight) : Type 0 where
  pub node : Node
  pub line : ℕ
  pub name : Option Name
  pub prototype : Prototype
  pub does : (w : Walk) → w.sight ≡ s → node.does w ≡ bare prototype line name w
  pub sized : IsSized prototype
  pub met : List Met
  pub was : MetIn prototype met

-- ---- many

abbrev pub node_of : {s : Sight} → Known s → Node
node_of k = k.node

-- the node as a statement
abbrev pub stated_of : {s : Sight} → Known s → Stated
stated_of k = statement_step (Statement-F.Node k.node)

-- what is counted for each of them, in turn
abbrev pub mets : {s : Sight} → List (Known s) → List Met
mets [] = []
mets (k ∷ known) = k.met ++ mets known

-- that, counted k times
abbrev pub times : ℕ → List Met → List Met
times zero met = []
times (suc k) met = met ++ times k met

-- one node more in a value, as in `put_in`, and one root more, as in `stand_together`
abbrev pub add_node : Node → List ℕ → Does (List ℕ)
add_node n numbers = n.does >>= λ number. pure (numbers ++ number ∷ [])

abbrev pub add_root : Stated → List ℕ → Does (List ℕ)
add_root s roots = s.1.does >>= λ numbers. pure (roots ++ numbers)

-- where s is in sight, all of these are added, whatever follows them; `met` is counted on the way,
-- and then the rest goes on, with s in sight
abbrev pub AreInARow : {A X : Type 0} → (A → X → Does X) → Sight → List A → List Met → Type 0
AreInARow {A} {X} f s these met =
    (rest : List A) (x : X) (w : Walk) → w.sight ≡ s
    → (y : X) × (v : Walk) × (v.sight ≡ s)
    × (through f (these ++ rest) x w ≡ behind met (through f rest y v))
