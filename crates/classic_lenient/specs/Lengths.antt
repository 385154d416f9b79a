-- How many tokens a statement that is left out has (ISO/IEC 19776-2, grammar); 0 if the tokens are
-- not such a statement.
use Rattle.std.specs.Prelude.{ℕ, ◌+◌, List, [], ◌∷◌, length, drop, Bool, true, false, not, ◌&&◌, ◌||◌, ◌==◌, nat_lt, if◌then◌else◌}
use Rattle.std.specs.List.{prefix_len}
use Rattle.classic_lenient.specs.declared.mark.Mark.{Mark}
use Rattle.classic_lenient.specs.declared.mark.Mark.TheVariants as mark
use Rattle.classic_lenient.specs.declared.pieces.Piece.{Piece}

abbrev pub names : Mark → Bool
names mark.ExternProto = true
names mark.Import = true
names mark.Export = true
names mark.Unit = true
names mark.As = true
names mark.FieldType = true
names mark.Name = true
names _ = false

abbrev pub is_name : Piece → Bool
is_name p = names p.mark

abbrev pub closes : Mark → Bool
closes mark.CloseBracket = true
closes _ = false

abbrev pub is_close : Piece → Bool
is_close p = closes p.mark

abbrev pub counts : Mark → Bool
counts mark.Numeral = true
counts _ = false

abbrev pub is_numeral : Piece → Bool
is_numeral p = counts p.mark

abbrev pub points : Mark → Bool
points mark.Point = true
points _ = false

abbrev pub is_point : Piece → Bool
is_point p = points p.mark

abbrev pub opens : Mark → Bool
opens mark.OpenBracket = true
opens _ = false

abbrev pub is_open : Piece → Bool
is_open p = opens p.mark

abbrev pub says_as : Mark → Bool
says_as mark.As = true
says_as _ = false

abbrev pub is_as : Piece → Bool
is_as p = says_as p.mark

abbrev pub is_plain : Mark → Bool
is_plain mark.Name = true
is_plain _ = false

-- a name, and that of no field type that is read
abbrev pub is_other_type : Piece → Bool
is_other_type p = is_plain p.mark

-- the number of tokens before the first closing bracket
abbrev pub before_close : List Piece → ℕ
before_close ps = prefix_len (λ p. not (is_close p)) ps

-- a list after its opening bracket, counting both brackets
abbrev pub list_len : List Piece → ℕ
list_len ps = if nat_lt (before_close ps) (length ps) then before_close ps + 2 else 0

abbrev pub url_by : Mark → List Piece → ℕ
url_by mark.Text ps = 1
url_by mark.OpenBracket ps = list_len ps
url_by _ ps = 0

-- a string, or a list
abbrev pub url_len : List Piece → ℕ
url_len [] = 0
url_len (p ∷ ps) = url_by p.mark ps

abbrev pub value_by : Mark → List Piece → ℕ
value_by mark.Is ps = 2
value_by mark.Text ps = 1
value_by mark.Constant ps = 1
value_by mark.Numeral ps = prefix_len is_numeral ps + 1
value_by mark.OpenBracket ps = list_len ps
value_by _ ps = 0

-- `IS name`, or a value without nodes
abbrev pub value_len : List Piece → ℕ
value_len [] = 0
value_len (p ∷ ps) = value_by p.mark ps

-- ---- statements

-- `EXTERNPROTO name [ interface ] url`, given what follows the opening bracket
abbrev pub interface_len : List Piece → ℕ
interface_len ps =
    if before_close ps == length ps then 0
    else (if url_len (drop (before_close ps + 1) ps) == 0 then 0
    else before_close ps + 4 + url_len (drop (before_close ps + 1) ps))

abbrev pub extern_len : List Piece → ℕ
extern_len (name ∷ (open_bracket ∷ ps)) =
    if is_name name && is_open open_bracket then interface_len ps else 0
extern_len _ = 0

-- `AS name`
abbrev pub as_len : List Piece → ℕ
as_len (word ∷ (name ∷ ps)) = if is_as word && is_name name then 2 else 0
as_len _ = 0

-- `IMPORT node.name`, and perhaps `AS name`
abbrev pub import_len : List Piece → ℕ
import_len (node ∷ (point ∷ (name ∷ ps))) =
    if is_name node && is_point point && is_name name then as_len ps + 4 else 0
import_len _ = 0

-- `EXPORT name`, and perhaps `AS name`
abbrev pub export_len : List Piece → ℕ
export_len [] = 0
export_len (name ∷ ps) = if is_name name then as_len ps + 2 else 0

-- `UNIT category name factor`
abbrev pub unit_len : List Piece → ℕ
unit_len (category ∷ (name ∷ (factor ∷ ps))) =
    if is_name category && is_name name && is_numeral factor then 4 else 0
unit_len _ = 0

abbrev pub valued_len : List Piece → ℕ
valued_len ps = if value_len ps == 0 then 0 else value_len ps + 3

-- `access type name`, and a value if the field holds one; the type is not one that is read
abbrev pub declaration_len : Bool → List Piece → ℕ
declaration_len holds (field_type ∷ (name ∷ ps)) =
    if not (is_other_type field_type) || not (is_name name) then 0
    else (if holds then valued_len ps else 3)
declaration_len holds _ = 0
