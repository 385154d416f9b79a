-- Which faults a document without prototypes can have. If its fields and names are right, its only
-- fault can be its size (ISO/IEC 19775-1, object model).
use Rattle.std.specs.Prelude.{◌≡◌, Err}
use Rattle.std.specs.List.{AllByRecursion}
use Rattle.classic_tree.specs.declared.tree.Document.{Document}
use Rattle.proto_flat.specs.declared.fault.ExpandFault.{ExpandFault}
use Rattle.proto_flat.specs.declared.fault.ExpandFaultKind.{ExpandFaultKind}
use Rattle.proto_flat.specs.declared.fault.ExpandFaultKind.TheVariants.{UnknownNode, UnknownField, UseWithoutDef, FieldTwice, TooLarge}
use Rattle.proto_meaning.specs.Flat.{flat}
use Rattle.laws_documents.specs.Parts.{TreePart, Braces, parts}

-- no prototype, and no IS
abbrev pub IsPlain : TreePart → Type 0
IsPlain (Braces word entries) = Unit {0}
IsPlain _ = ⊥

-- a word that names no type, a field that its node lacks or that is given twice, a USE that names
-- no node, or a limit that is passed
abbrev pub IsPlainFault : ExpandFaultKind → Type 0
IsPlainFault UnknownNode = Unit {0}
IsPlainFault UnknownField = Unit {0}
IsPlainFault UseWithoutDef = Unit {0}
IsPlainFault FieldTwice = Unit {0}
IsPlainFault TooLarge = Unit {0}
IsPlainFault _ = ⊥

-- if such a document has no flat form, the fault is one of these
abbrev pub PlainDocumentsFail : Type 0
PlainDocumentsFail =
    (d : Document) (e : ExpandFault) → AllByRecursion IsPlain (parts d) → flat d ≡ Err e
    → IsPlainFault e.kind
