-- The values that fields hold where nothing is given are sound.
use Rattle.std.proofs.Common.{◌≡◌, ℕ, Bool, true, List, [], codes, Option, Some, None, refl}
use Rattle.std.specs.List.{list_all}
use Rattle.std.specs.Option.{option_and_then, option_map_or}
use Rattle.std.specs.Str.{is_utf8}
use Rattle.std.proofs.lemmas.Str.{is_utf8-from_IsUtf8, IsUtf8-nil}
use Rattle.x3d_values.specs.declared.default.FieldDefault.{FieldDefault}
use Rattle.x3d_values.specs.declared.default.FieldDefault.TheVariants as default
use Rattle.x3d_values.specs.declared.field_type.FieldType.{FieldType}
use Rattle.x3d_values.specs.declared.field_type.FieldType.TheVariants as types
use Rattle.x3d_values.specs.declared.node_type.NodeType.{NodeType}
use Rattle.x3d_values.specs.declared.node_type.NodeType.TheVariants.{Group}
use Rattle.x3d_values.specs.declared.value.Value.TheVariants as value
use Rattle.x3d_values.specs.Defaults.{default_value}
use Rattle.x3d_values.specs.Tables.{FieldRowView, rows}
use Rattle.x3d_values.specs.Values.{empty_value}
use Rattle.classic_bytes.specs.Bytes.{begins_name, continues_name, is_digit}
use Rattle.laws_written.specs.Values.{is_int32, is_number, is_time, is_sound}
use Rattle.laws_written.proofs.TextNames.{is_free, free_name}
use Rattle.laws_written.proofs.Tests.{and_true}

-- ---- defaults

abbrev pub numbers_fit : FieldDefault → Bool
numbers_fit (default.Int32 n) = is_int32 n
numbers_fit (default.Float n) = is_number n
numbers_fit (default.Time n) = is_time n
numbers_fit (default.Vec2f v) = is_sound (value.SFVec2f v)
numbers_fit (default.Vec3f v) = is_sound (value.SFVec3f v)
numbers_fit (default.Color c) = is_sound (value.SFColor c)
numbers_fit _ = true

pub empty_sound : (t : FieldType) → option_map_or is_sound (empty_value t) true ≡ true
empty_sound types.SFString = is_utf8-from_IsUtf8 [] IsUtf8-nil
empty_sound _ = refl

pub word_sound : (s : List ℕ) → is_free s ≡ true → is_utf8 s ≡ true
word_sound s h = is_utf8-from_IsUtf8 s (free_name s h).utf8

pub default_sound : (t : FieldType) (d : FieldDefault) → numbers_fit d ≡ true → option_map_or is_sound (default_value t d) true ≡ true
unfolding begins_name continues_name is_digit
default_sound t default.Empty h = empty_sound t
default_sound t default.True h = refl
default_sound t (default.Int32 n) h = h
default_sound t (default.Float n) h = h
default_sound t (default.Time n) h = h
default_sound t (default.Vec2f v) h = h
default_sound t (default.Vec3f v) h = h
default_sound t (default.Color c) h = h
default_sound t default.PlainStyle h = word_sound (codes "PLAIN") refl
default_sound t default.SerifFamily h = and_true _ _ (word_sound (codes "SERIF") refl) refl
default_sound t default.BeginJustify h = and_true _ _ (word_sound (codes "BEGIN") refl) refl
default_sound t default.StandardAvatar h = refl
default_sound t default.ExamineAny h = and_true _ _ (word_sound (codes "EXAMINE") refl) (and_true _ _ (word_sound (codes "ANY") refl) refl)
default_sound t default.BlackSky h = refl

abbrev pub fits_or_none : Option FieldDefault → Bool
fits_or_none d = option_map_or numbers_fit d true

pub none_given : (t : FieldType) (d : Option FieldDefault) → fits_or_none d ≡ true → option_map_or is_sound (option_and_then (default_value t) d) true ≡ true
none_given t None h = refl
none_given t (Some d) h = default_sound t d h

pub rows_fit : (t : NodeType) → list_all (λ (e : FieldRowView). fits_or_none e.default) (rows t) ≡ true
rows_fit Group = refl
rows_fit _ = refl
