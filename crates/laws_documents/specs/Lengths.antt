-- The lengths of the texts and lists of a flat document, limited by the text that the document was
-- read from.
use Rattle.std.specs.Prelude.{◌≡◌, ℕ, ◌≤◌, List, length, IsUtf8, Ok}
use Rattle.std.specs.List.{AllByRecursion}
use Rattle.classic_lex.specs.Header.{max_len}
use Rattle.classic_tree.specs.declared.tree.Document.{Document}
use Rattle.classic_tree.specs.declared.tree.RawValue.{RawValue}
use Rattle.classic_tree.specs.declared.tree.RawValue.TheVariants.{String, Numbers, TruthList, StringList, NumberList}
use Rattle.classic_text.specs.Reading.{read_text}
use Rattle.proto_flat.specs.declared.flat.Flat.{Flat}
use Rattle.proto_flat.specs.declared.flat.FlatField.{FlatField}
use Rattle.proto_flat.specs.declared.flat.FlatNode.{FlatNode}
use Rattle.proto_meaning.specs.Flat.{flat}

-- `Text` holds for each text of a value, and `Count` for the length of its list; nodes don't matter
abbrev pub HasParts : {N : Type 0} → (List ℕ → Type 0) → (ℕ → Type 0) → RawValue N → Type 0
HasParts Text Count (String text) = Text text
HasParts Text Count (Numbers numbers) = Count (length numbers)
HasParts Text Count (TruthList truths) = Count (length truths)
HasParts Text Count (StringList texts) = Count (length texts) × AllByRecursion Text texts
HasParts Text Count (NumberList numbers) = Count (length numbers)
HasParts Text Count _ = Unit {0}

-- UTF-8, of at most `most` bytes
abbrev pub IsShortText : ℕ → List ℕ → Type 0
IsShortText most text = IsUtf8 text × (length text ≤ most)

-- no text of the value has more bytes than `most`, and no list more items
abbrev pub IsShort : {N : Type 0} → ℕ → RawValue N → Type 0
IsShort most value = HasParts (IsShortText most) (λ n. n ≤ most) value

abbrev pub IsShortField : ℕ → FlatField → Type 0
IsShortField most field = IsShort most field.value

abbrev pub IsShortNode : ℕ → FlatNode → Type 0
IsShortNode most node = AllByRecursion (IsShortField most) node.fields

-- no value of the document has a longer text or list
abbrev pub IsShortFlat : ℕ → Flat → Type 0
IsShortFlat most f = AllByRecursion (IsShortNode most) f.nodes

-- what was read from a text is no longer than the text
abbrev pub FlatsAreShort : Type 0
FlatsAreShort =
    (text : List ℕ) (d : Document) (f : Flat)
    → read_text text ≡ Ok d → flat d ≡ Ok f → IsShortFlat (length text) f

-- the text has at most 16 MiB
abbrev pub TextsAreShort : Type 0
TextsAreShort = (text : List ℕ) (d : Document) → read_text text ≡ Ok d → length text ≤ max_len
