-- What a token is to the statements that are left out (ISO/IEC 19776-2, lexical elements).
use Rattle.std.specs.Prelude.{ℕ, List, Bool, ◌||◌, Option, Some, None, codes, if◌then◌else◌}
use Rattle.std.specs.Str.{bytes_eq, is_utf8}
use Rattle.x3d_values.specs.declared.field_type.Access.{Access}
use Rattle.x3d_values.specs.declared.field_type.Access.TheVariants as access
use Rattle.x3d_values.specs.declared.field_type.FieldType.{FieldType}
use Rattle.x3d_values.specs.Names.{access_named, field_type_named}
use Rattle.classic_lex.specs.declared.token.TokenKind.{TokenKind}
use Rattle.classic_lex.specs.declared.token.TokenKind.TheVariants as kind
use Rattle.classic_lenient.specs.declared.mark.Mark.{Mark}
use Rattle.classic_lenient.specs.declared.mark.Mark.TheVariants as mark

abbrev pub access_mark : Access → Mark
access_mark access.InputOnly = mark.Event
access_mark access.OutputOnly = mark.Event
access_mark access.InputOutput = mark.Holds
access_mark access.InitializeOnly = mark.Holds

abbrev pub typed : Option FieldType → Mark
typed None = mark.Name
typed (Some _) = mark.FieldType

-- one of the 19 field types that are read, or another name
abbrev pub type_mark : List ℕ → Mark
type_mark word = typed (field_type_named word)

abbrev pub accessed : List ℕ → Option Access → Mark
accessed word None = type_mark word
accessed word (Some a) = access_mark a

abbrev pub plain_mark : List ℕ → Mark
plain_mark word = accessed word (access_named word)

unfoldable pub is_binding : List ℕ → Bool
is_binding word =
    bytes_eq word (codes "DEF") || bytes_eq word (codes "USE") || bytes_eq word (codes "PROTO")
    || bytes_eq word (codes "ROUTE") || bytes_eq word (codes "TO")

unfoldable pub is_constant : List ℕ → Bool
is_constant word =
    bytes_eq word (codes "TRUE") || bytes_eq word (codes "FALSE") || bytes_eq word (codes "NULL")

unfoldable pub reserved_mark : List ℕ → Mark
reserved_mark word =
    if bytes_eq word (codes "IS") then mark.Is
    else (if is_binding word then mark.Binding
    else (if is_constant word then mark.Constant else plain_mark word))

unfoldable pub word_mark : List ℕ → Mark
word_mark word =
    if bytes_eq word (codes "EXTERNPROTO") then mark.ExternProto
    else (if bytes_eq word (codes "IMPORT") then mark.Import
    else (if bytes_eq word (codes "EXPORT") then mark.Export
    else (if bytes_eq word (codes "UNIT") then mark.Unit
    else (if bytes_eq word (codes "AS") then mark.As else reserved_mark word))))

-- identifiers of a text are UTF-8
abbrev pub identifier_mark : List ℕ → Mark
identifier_mark text = if is_utf8 text then word_mark text else mark.Name

abbrev pub mark_of : TokenKind → List ℕ → Mark
mark_of kind.Identifier text = identifier_mark text
mark_of kind.Numeral text = mark.Numeral
mark_of kind.Text text = mark.Text
mark_of kind.OpenBracket text = mark.OpenBracket
mark_of kind.CloseBracket text = mark.CloseBracket
mark_of kind.OpenBrace text = mark.OpenBrace
mark_of kind.CloseBrace text = mark.CloseBrace
mark_of kind.Point text = mark.Point
