-- The word before the braces of a grouping node becomes Group or Transform.
use Rattle.std.proofs.Common.{◌≡◌, ℕ, List, [], ◌∷◌, Bool, true, false, ◌&&◌, Option, Some, None, inl, inr, refl, if◌then◌else◌}
use Rattle.std.specs.List.{list_all, list_any}
use Rattle.std.specs.Str.{bytes_eq}
use Rattle.x3d_values.specs.declared.node_type.NodeType.{NodeType}
use Rattle.x3d_values.specs.declared.node_type.NodeType.TheVariants.{Group, Transform}
use Rattle.x3d_values.specs.Names.{node_type_named, node_type_name}
use Rattle.classic_part.specs.declared.knowing.Known.{Known}
use Rattle.classic_part.specs.declared.notes.Note.{Note}
use Rattle.classic_part.specs.declared.rules.Meant.{Meant}
use Rattle.classic_part.specs.declared.rules.Meant.TheVariants.{Grouped}
use Rattle.classic_part.specs.Groupings.{GroupingRow, table}
use Rattle.classic_part.specs.Notes.{declares}
use Rattle.classic_part.specs.Rules.{grouped, declared_or_grouped, untyped, typed_or, meaning_of, word_of}
use Rattle.laws_parts.specs.Stays.{IsWord}

abbrev is_group : NodeType → Bool
is_group Group = true
is_group Transform = true
is_group _ = false

abbrev becomes_group : GroupingRow → Bool
becomes_group row = is_group row.becomes

group_word : (t : NodeType) (word : List ℕ) → is_group t ≡ true → IsWord (node_type_name t) word
group_word Group word e = inr (inl refl)
group_word Transform word e = inr (inr refl)
group_word _ word e = absurd cc

both_of : (a b : Bool) → (a && b) ≡ true → (a ≡ true) × (b ≡ true)
both_of true b e = (refl, e)
both_of false b e = absurd cc

abbrev Stands : Meant → List ℕ → Type 0
Stands m word = IsWord (word_of m word) word

choose : (b : Bool) (row : GroupingRow) (other : Meant) (word : List ℕ) → becomes_group row ≡ true → Stands other word
    → Stands (if b then Grouped row.becomes row.children else other) word
choose true row other word right rest = group_word row.becomes word right
choose false row other word right rest = rest

grouped_word : (word : List ℕ) (rows : List GroupingRow) → list_all becomes_group rows ≡ true → Stands (grouped word rows) word
grouped_word word [] e = inl refl
grouped_word word (row ∷ rows) e =
    let p = both_of (becomes_group row) (list_all becomes_group rows) e in
    choose (bytes_eq word row.word) row (grouped word rows) word p.0 (grouped_word word rows p.1)

declared_word : (b : Bool) (word : List ℕ) → Stands (declared_or_grouped b word) word
declared_word true word = inl refl
declared_word false word = grouped_word word table refl

untyped_word : (word : List ℕ) (notes : Option (List Note)) → Stands (untyped word notes) word
untyped_word word None = inl refl
untyped_word word (Some notes) = declared_word (list_any (declares word) notes) word

typed_word : (word : List ℕ) (other : Meant) (t : Option NodeType) → Stands other word → Stands (typed_or other t) word
typed_word word other None rest = rest
typed_word word other (Some t) rest = inl refl

pub word_stays : (known : Known) (word : List ℕ) → IsWord (word_of (meaning_of known word) word) word
word_stays known word = typed_word word (untyped word known.notes) (node_type_named word) (untyped_word word known.notes)
