-- What instances give depends only on the sizes of what they are given; so a document with too many
-- instances is TooLarge, whatever follows them.
use Rattle.std.specs.Prelude.{◌≡◌, ◌⊎◌, ℕ, ◌+◌, ◌*◌, ◌<◌, false, List, [], ◌∷◌, ◌++◌, length, map, Option, Some, Ok, Err}
use Rattle.std.specs.List.{sum_by}
use Rattle.x3d_values.specs.Ranges.{max_instances, max_items, max_nodes, max_put_in}
use Rattle.classic_tree.specs.declared.tree.Document.{Document}
use Rattle.classic_tree.specs.declared.tree.NodeText.TheVariants as node
use Rattle.classic_tree.specs.declared.tree.ProtoText.{ProtoText}
use Rattle.classic_tree.specs.declared.tree.Statement.{Statement}
use Rattle.classic_tree.specs.declared.tree.Statement.TheVariants as statements
use Rattle.proto_flat.specs.Fault.{fault}
use Rattle.proto_flat.specs.declared.fault.ExpandFaultKind.TheVariants.{TooLarge}
use Rattle.proto_meaning.specs.Limits.{Met, nodes_met, instances_met, items_met, all_met, is_within}
use Rattle.proto_meaning.specs.Names.{Name}
use Rattle.proto_meaning.specs.Sight.{Prototype, Sight, OfProto, meant}
use Rattle.proto_meaning.specs.Flat.{Walk, through, begin, proto, statement, in_body, flat}
use Rattle.proto_meaning.specs.Sizes.{ComeAlike, IsSized, AreSized, Alike}
use Rattle.proto_meaning.specs.Rows.{bare, MetIn, Known, node_of, stated_of, mets, times, add_node, add_root, AreInARow}

-- if the prototypes in sight are sized, those that a statement declares are sized as well
abbrev pub PrototypesAreSized : Type 0
PrototypesAreSized =
    (text : Statement) (s t : Sight) → AreSized s → (statement text).1.sees s ≡ Ok t → AreSized t

-- and so is the prototype that a declaration adds to them
abbrev pub DeclaredPrototypesAreSized : Type 0
DeclaredPrototypesAreSized =
    (text : ProtoText) (s : Sight) (p : Prototype) → AreSized s
    → (proto text).sees s ≡ Ok (record s { here = s.here ++ p ∷ [] }) → IsSized p

-- a statement ends alike from walks that differ only in the numbers of nodes
abbrev pub StatementsComeAlike : Type 0
StatementsComeAlike =
    (text : Statement) (w v : Walk) → Alike w v
    → ComeAlike ((statement text).1.does w) ((statement text).1.does v)

-- an instance that is given nothing ends alike anywhere, whatever its line and its name
abbrev pub BareInstancesComeAlike : Type 0
BareInstancesComeAlike =
    (p : Prototype) (line other : ℕ) (name called : Option Name) (w v : Walk) → IsSized p
    → ComeAlike (bare p line name w) (bare p other called v)

-- so if one instance of each prototype was added, all instances in a row can be: nodes of a value,
-- roots, and statements of a body
abbrev pub BareInstancesStandInRows : Type 0
BareInstancesStandInRows =
    (s : Sight) (known : List (Known s))
    → AreInARow add_node s (map node_of known) (mets known)
    × AreInARow add_root s (map stated_of known) (mets known)
    × AreInARow in_body s (map stated_of known) (mets known)

-- the size of a row is the sum of the sizes of its instances; for k equal ones it is k times the
-- size of one
abbrev pub RowsAreSums : Type 0
RowsAreSums =
    (amount : Met → ℕ) (s : Sight) (known : List (Known s)) (k : ℕ) (met : List Met)
    → (sum_by amount (mets known) ≡ sum_by (λ (i : Known s). sum_by amount i.met) known)
    × (sum_by amount (times k met) ≡ k * sum_by amount met)

-- one of these counts is over its limit
abbrev pub IsOver : ((Met → ℕ) → ℕ) → Type 0
IsOver count =
    (max_nodes < count nodes_met) ⊎ (max_instances < count instances_met)
    ⊎ (max_items < count items_met) ⊎ (max_put_in < count all_met)

-- what is counted k times, after what was counted before, is over a limit if the counts are
abbrev pub RepeatsPassLimits : Type 0
RepeatsPassLimits =
    (before met : List Met) (k : ℕ)
    → IsOver (λ amount. sum_by amount before + k * sum_by amount met)
    → is_within (before ++ times k met) ≡ false

-- ---- of a document

-- the word and empty braces, by line and name
abbrev pub bare_statement : Name → ℕ × Option Name → Statement
bare_statement word b = statements.Node (node.Full b.0 b.1 word [])

-- statements were added, and after them come bare instances of a prototype that is in sight there,
-- of which one can be added anywhere. If that many are over the limits, the document is TooLarge,
-- whatever follows them
abbrev pub FloodsAreTooLarge : Type 0
FloodsAreTooLarge =
    (d : Document) (first : List Statement) (word : Name) (instances : List (ℕ × Option Name))
    (rest : List Statement) (before met : List Met) (roots : List ℕ) (w : Walk) (p : Prototype)
    → d.statements ≡ first ++ map (bare_statement word) instances ++ rest
    → through add_root (map statement first) [] (begin [] (record { nodes = []; helpers = [] }))
    ≡ record { met = before; comes = Ok (roots, w) }
    → meant word w.sight ≡ Some (OfProto p) → MetIn p met
    → is_within (before ++ times (length instances) met) ≡ false
    → flat d ≡ Err (fault TooLarge 0)
