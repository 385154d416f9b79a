-- What follows from a text for the flat form of its document: its names are valid, and its texts
-- are UTF-8 (ISO/IEC 19776-2, grammar).
use Rattle.std.specs.Prelude.{◌≡◌, ◌⊎◌, ℕ, Bool, true, [], List, Ok}
use Rattle.std.specs.List.{AllByRecursion, list_all}
use Rattle.std.specs.Str.{is_utf8}
use Rattle.x3d_values.specs.declared.node_type.NodeType.TheVariants.{Script}
use Rattle.classic_tree.specs.declared.tree.Declaration.{Declaration}
use Rattle.classic_tree.specs.declared.tree.RawValue.{RawValue}
use Rattle.classic_tree.specs.declared.tree.RawValue.TheVariants as raw
use Rattle.classic_tree.specs.declared.tree.Document.{Document}
use Rattle.classic_text.specs.Spells.{SpellsButLines}
use Rattle.classic_round_trip.specs.Spellable.{IsFreeName, IsNameOrNone, IsSpellableComponent, IsSpellableMeta}
use Rattle.proto_flat.specs.declared.flat.Flat.{Flat}
use Rattle.proto_flat.specs.declared.flat.FlatField.{FlatField}
use Rattle.proto_flat.specs.declared.flat.FlatNode.{FlatNode}
use Rattle.proto_meaning.specs.Flat.{flat}

-- the texts in a value are UTF-8
abbrev pub has_utf8 : RawValue ℕ → Bool
has_utf8 (raw.String text) = is_utf8 text
has_utf8 (raw.StringList texts) = list_all is_utf8 texts
has_utf8 _ = true

-- names are valid, and texts are UTF-8; only a Script declares fields
pub record IsNamedNode (node : FlatNode) : Type 0 where
  pub named : IsNameOrNone node.name
  pub scripted : (node.node_type ≡ Script) ⊎ (node.interface ≡ [])
  pub declared : AllByRecursion (λ (d : Declaration ℕ). IsFreeName d.name) node.interface
  pub texts : list_all (λ (f : FlatField). has_utf8 f.value) node.fields ≡ true

-- the same for the header of a flat form and all of its nodes
pub record IsNamed (flat : Flat) : Type 0 where
  pub profile : IsNameOrNone flat.header.profile
  pub components : AllByRecursion IsSpellableComponent flat.header.components
  pub metas : AllByRecursion IsSpellableMeta flat.header.metas
  pub nodes : AllByRecursion IsNamedNode flat.nodes

-- this holds for the flat form of a document that some text spells, lines apart
abbrev pub SpelledFlatsAreNamed : Type 0
SpelledFlatsAreNamed =
    (text : List ℕ) (d : Document) (f : Flat) → SpellsButLines text d → flat d ≡ Ok f → IsNamed f
