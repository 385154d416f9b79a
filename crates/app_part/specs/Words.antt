-- The words of the lines on what was left out (our choice).
use Rattle.std.specs.Prelude.{ℕ, List, [], Bool, true, false, codes}
use Rattle.classic_lenient.specs.declared.scan.UnreadKind.{UnreadKind}
use Rattle.classic_lenient.specs.declared.scan.UnreadKind.TheVariants as unread
use Rattle.classic_part.specs.declared.notes.NoteKind.{NoteKind}
use Rattle.classic_part.specs.declared.notes.NoteKind.TheVariants as kind

abbrev pub before_name : NoteKind → List ℕ
before_name kind.Named = []
before_name kind.Declared = []
before_name kind.Grouped = codes "node "
before_name kind.Node = codes "node "
before_name kind.Field = codes "field "
before_name kind.Turned = codes "field "
before_name kind.Use = codes "USE "
before_name kind.Route = codes "ROUTE left out: no node "
before_name kind.Proto = codes "PROTO "
before_name kind.Refused = []

abbrev pub after_name : NoteKind → List ℕ
after_name kind.Named = []
after_name kind.Declared = []
after_name kind.Grouped = codes " read as a group"
after_name kind.Node = codes " left out"
after_name kind.Field = codes " left out"
after_name kind.Turned = codes " left out: it turns, which changes the picture"
after_name kind.Use = codes " left out: no node has this name"
after_name kind.Route = []
after_name kind.Proto = codes " left out: its body has no node"
after_name kind.Refused = codes " left out: "

abbrev pub before_unread : UnreadKind → List ℕ
before_unread unread.ExternProto = codes "EXTERNPROTO "
before_unread unread.Import = codes "IMPORT "
before_unread unread.Export = codes "EXPORT "
before_unread unread.Unit = codes "UNIT "
before_unread unread.Declaration = codes "declaration "

abbrev pub after_unread : UnreadKind → List ℕ
after_unread unread.ExternProto = codes " left out"
after_unread unread.Import = codes " left out"
after_unread unread.Export = codes " left out"
after_unread unread.Unit = codes " left out"
after_unread unread.Declaration = codes " left out: its type is not read"

-- a node that became a group
abbrev pub is_grouped : NoteKind → Bool
is_grouped kind.Grouped = true
is_grouped _ = false

-- what was left out for a fault
abbrev pub is_refused : NoteKind → Bool
is_refused kind.Refused = true
is_refused _ = false
