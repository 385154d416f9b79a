-- The head of a text: its size, its encoding and its first line (ISO/IEC 19776-2, header
-- statement).
use Rattle.std.specs.Prelude.{ℕ, ◌+◌, List, [], ◌∷◌, length, take, drop, Bool, true, false, ◌&&◌, ◌==◌, nat_lt, nat_eq, Option, Some, None, Result, Ok, Err, codes, if◌then◌else◌}
use Rattle.std.specs.List.{prefix_len, starts_with}
use Rattle.std.specs.Cmp.Lexicographic.{pointwise}
use Rattle.std.specs.Str.{is_utf8}
use Rattle.classic_lex.specs.declared.fault.LexFault.{LexFault}
use Rattle.classic_lex.specs.declared.fault.LexFaultKind.{LexFaultKind}
use Rattle.classic_lex.specs.declared.fault.LexFaultKind.TheVariants.{TooLong, NotUtf8, NoHeader, BadVersion}
use Rattle.classic_lex.specs.declared.versions.Version.{Version}
use Rattle.classic_lex.specs.declared.versions.Version.TheVariants.{V3_0, V3_1, V3_2, V3_3, V4_0}
use Rattle.classic_bytes.specs.Bytes.{is_digit, is_space}

-- the largest number of bytes of a text, 16 MiB (our choice)
abbrev pub max_len : ℕ
max_len = 16777216

-- the byte order mark in UTF-8
abbrev pub byte_order_mark : List ℕ
byte_order_mark = 239 ∷ 187 ∷ 191 ∷ []

-- the number of bytes of the byte order mark at the front; 0 if there is none
unfoldable pub mark_len : List ℕ → ℕ
mark_len text = if starts_with nat_eq text byte_order_mark then 3 else 0

-- the text after a byte order mark (our choice)
abbrev pub without_mark : List ℕ → List ℕ
without_mark text = drop (mark_len text) text

-- ---- the version

abbrev pub version_text : Version → List ℕ
version_text V3_0 = codes "3.0"
version_text V3_1 = codes "3.1"
version_text V3_2 = codes "3.2"
version_text V3_3 = codes "3.3"
version_text V4_0 = codes "4.0"

-- the version of that name
unfoldable pub version_named : List ℕ → Result Version LexFaultKind
version_named name =
    if pointwise nat_eq name (codes "3.0") then Ok V3_0
    else (if pointwise nat_eq name (codes "3.1") then Ok V3_1 else
    (if pointwise nat_eq name (codes "3.2") then Ok V3_2
    else (if pointwise nat_eq name (codes "3.3") then Ok V3_3 else
    (if pointwise nat_eq name (codes "4.0") then Ok V4_0 else Err BadVersion))))

-- the number of digits at the front
abbrev pub digits_len : List ℕ → ℕ
digits_len text = prefix_len is_digit text

-- the length of digits, a point and digits, given the number of the first digits and the text after
-- them
abbrev pub with_fraction : ℕ → List ℕ → Option ℕ
with_fraction whole [] = None
with_fraction whole (b ∷ bs) =
    if b == 46 && nat_lt 0 whole && nat_lt 0 (digits_len bs) then Some (whole + 1 + digits_len bs)
    else None

-- the number of bytes of digits, a point and digits at the front, if they are there
unfoldable pub number_len : List ℕ → Option ℕ
number_len text = with_fraction (digits_len text) (drop (digits_len text) text)

-- ---- the first line

-- white space or the end
abbrev pub is_space_or_end : List ℕ → Bool
is_space_or_end [] = true
is_space_or_end (b ∷ bs) = is_space b

-- ` utf8`, and then white space or the end
unfoldable pub ends_header : List ℕ → Bool
ends_header text = if starts_with nat_eq text (codes " utf8") then is_space_or_end (drop 5 text)
    else false

-- the version named by the first n bytes, if the end of the header follows
abbrev pub version_of_len : Option ℕ → List ℕ → Result Version LexFaultKind
version_of_len None text = Err NoHeader
version_of_len (Some n) text =
    if ends_header (drop n text) then version_named (take n text) else Err NoHeader

unfoldable pub version_at : List ℕ → Result Version LexFaultKind
version_at text = version_of_len (number_len text) text

-- `#X3D V`, digits, a point, digits, ` utf8`, and then white space or the end; the rest of the line
-- is ignored
unfoldable pub header : List ℕ → Result Version LexFaultKind
header text = if starts_with nat_eq text (codes "#X3D V") then version_at (drop 6 text)
    else Err NoHeader

-- ---- the head

-- a fault of the head is on the first line
abbrev pub at_head : LexFaultKind → LexFault
at_head kind = record { kind = kind; line = 1 }

abbrev pub in_head : {X : Type 0} → Result X LexFaultKind → Result X LexFault
in_head (Ok x) = Ok x
in_head (Err kind) = Err (at_head kind)

-- the version that a text's header names, or the first fault of its size, its encoding and its
-- header
unfoldable pub version_of : List ℕ → Result Version LexFault
version_of text =
    if nat_lt max_len (length text) then Err (at_head TooLong)
    else (if is_utf8 text then in_head (header (without_mark text)) else Err (at_head NotUtf8))
