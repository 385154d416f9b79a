-- Which documents have a flat form, except for their size (ISO/IEC 19775-1, object model): those of
-- known nodes, whose fields are known and given once, and in which each USE names a node.
use Rattle.std.specs.Prelude.{◌≡◌, ℕ, ◌==◌, true, false, Bool, List, [], ◌∷◌, ◌++◌, Option, Some, None, option_map, is_some, Result, Ok, Err}
use Rattle.std.specs.List.{AllByRecursion, flat_map, list_any}
use Rattle.x3d_values.specs.declared.node_type.NodeType.{NodeType}
use Rattle.x3d_values.specs.Names.{node_type_named}
use Rattle.classic_tree.specs.declared.tree.Document.{Document}
use Rattle.proto_flat.specs.declared.fault.ExpandFault.{ExpandFault}
use Rattle.proto_flat.specs.declared.fault.ExpandFaultKind.TheVariants.{TooLarge}
use Rattle.laws_documents.specs.Signatures.{Signature, of_type, of_declared}
use Rattle.laws_documents.specs.Signatures.{KnownField}
use Rattle.proto_meaning.specs.Flat.{flat}
use Rattle.laws_documents.specs.Fields.{number_of}
use Rattle.laws_documents.specs.Uses.{Reading, read}
use Rattle.laws_documents.specs.Parts.{BraceField, Gives, Declares, TreePart, Braces, Prototype, Joins, parts}

-- ---- fields

-- a name that the type has isn't declared again
abbrev pub unless_own : Option KnownField → Option ℕ → Option ℕ
unless_own None number = number
unless_own (Some field) number = None

-- the number of a field that is given is that of its row; after these come the declared fields
abbrev pub entry_number : NodeType → List Signature → BraceField → Option ℕ
entry_number t declared (Gives name) = option_map number_of (of_type t name)
entry_number t declared (Declares s) =
    unless_own (of_type t s.name) (option_map number_of (of_declared t declared s.name))

abbrev pub signed : BraceField → List Signature
signed (Gives name) = []
signed (Declares s) = s ∷ []

-- whether the number is one of these
abbrev pub is_among : ℕ → List ℕ → Bool
is_among number before = list_any (λ k. k == number) before

-- there is a number, and it isn't one of those before
abbrev pub IsNext : List ℕ → Option ℕ → Type 0
IsNext before None = ⊥
IsNext before (Some number) = is_among number before ≡ false

abbrev pub with_next : List ℕ → Option ℕ → List ℕ
with_next before None = before
with_next before (Some number) = before ++ number ∷ []

-- each field has a number that none before it has
abbrev pub AreOnce : NodeType → List Signature → List ℕ → List BraceField → Type 0
AreOnce t declared before [] = Unit {0}
AreOnce t declared before (e ∷ others) =
    IsNext before (entry_number t declared e)
    × AreOnce t declared (with_next before (entry_number t declared e)) others

-- ---- nodes

abbrev pub IsOfType : Option NodeType → List BraceField → Type 0
IsOfType None entries = ⊥
IsOfType (Some t) entries = AreOnce t (flat_map signed entries) [] entries

-- the word is that of a node type, and the fields are those of a node of this type, each once;
-- there is no prototype and no IS
abbrev pub IsSound : TreePart → Type 0
IsSound (Braces word entries) = IsOfType (node_type_named word) entries
IsSound Prototype = ⊥
IsSound Joins = ⊥

-- ---- names

abbrev pub IsNodeNamed : Option ℕ → Type 0
IsNodeNamed node = is_some node ≡ true

abbrev pub AreNamed : List (Option ℕ) → Type 0
AreNamed nodes = AllByRecursion IsNodeNamed nodes

-- each USE names a node before it whose braces are closed
pub record AllNamed (r : Reading) : Type 0 where
  pub closed : AllByRecursion AreNamed r.closed
  pub here : AreNamed r.here

-- ---- the law

abbrev pub IsTooLarge : ExpandFault → Type 0
IsTooLarge e = e.kind ≡ TooLarge

abbrev pub IsFlatOrTooLarge : {A : Type 0} → Result A ExpandFault → Type 0
IsFlatOrTooLarge (Ok f) = Unit {0}
IsFlatOrTooLarge (Err e) = IsTooLarge e

-- such a document has a flat form, or is too large
abbrev pub SoundDocumentsAreFlat : Type 0
SoundDocumentsAreFlat =
    (d : Document) → AllByRecursion IsSound (parts d) → AllNamed (read d)
    → IsFlatOrTooLarge (flat d)
