-- What the functions of the walk return, by what their callees returned.
use Rattle.std.proofs.Common.{◌≡◌, ℕ, List, [], ◌++◌, Bool, false, Option, Some, Result, Ok, Err, IfOk, OnOk, ap, sym, subst, ◌∙◌, append_assoc, if◌then◌else◌}
use Rattle.classic_tree.specs.declared.tree.RawValue.{RawValue}
use Rattle.classic_tree.specs.declared.tree.RawValue.TheVariants as value
use Rattle.classic_tree.specs.declared.tree.Given.{Given}
use Rattle.classic_tree.specs.declared.tree.Declaration.{Declaration}
use Rattle.classic_tree.specs.declared.tree.BodyItem.{BodyItem}
use Rattle.classic_tree.specs.declared.tree.BodyItem.TheVariants as item
use Rattle.classic_tree.specs.declared.tree.NodeText.{NodeText}
use Rattle.classic_tree.specs.declared.tree.NodeText.TheVariants as node
use Rattle.classic_part.specs.declared.knowing.Known.{Known}
use Rattle.classic_part.specs.declared.notes.Note.{Note}
use Rattle.classic_part.specs.declared.notes.NoteKind.TheVariants as kind
use Rattle.classic_part.specs.declared.rules.FieldRule.{FieldRule}
use Rattle.classic_part.specs.declared.rules.Meant.{Meant}
use Rattle.classic_part.specs.Notes.{refuses}
use Rattle.classic_part.specs.Rules.{meaning_of, turns, field_rule}
use Rattle.classic_part.specs.Part.{Part, gone, kept_in, notes_in, list_of, given_or, declared_as, value_part, given_part, declared_part, declaration_part, ruled_part, field_part, is_nothing, grouped_notes, named_notes, braces_part, item_part, node_part}
use Rattle.classic_part.proofs.Equations.{item_part-field, node_part-full}

abbrev pub nodes_by : Known → List ℕ → NodeText → Part NodeText
nodes_by known field n = node_part known n field

-- what holds anyway holds of a result
pub on_ok : {A E P : Type 0} (r : Result A E) → P → OnOk r P
on_ok (Ok _) p = p
on_ok (Err _) p = tt

on_ok_then : {A E P Q : Type 0} (r : Result A E) → (P → Q) → OnOk r P → OnOk r Q
on_ok_then (Ok _) f p = f p
on_ok_then (Err _) f p = tt

-- by three lists
thrice : {A : Type 0} (a b c old first second new : List A) →
    first ≡ old ++ a → second ≡ first ++ b → new ≡ second ++ c → new ≡ old ++ (a ++ b ++ c)
thrice a b c old first second new one two three =
    three ∙ ap (λ t. t ++ c) (two ∙ ap (λ t. t ++ b) one ∙ append_assoc old a b)
    ∙ append_assoc old (a ++ b) c

-- ---- declarations

declaration_is : (known : Known) (d : Declaration NodeText) (asked : Bool) → asked ≡ refuses known d.line → asked ≡ false
    → declaration_part (nodes_by known) known d ≡ declared_part d (given_part (nodes_by known) d.name d.given)
declaration_is known d asked by off =
    ap (λ b. if b then gone kind.Refused d.line d.name [] else declared_part d (given_part (nodes_by known) d.name d.given)) (sym by ∙ off)

pub declaration_made : {E : Type 0} (known : Known) (d : Declaration NodeText) (asked : Bool) (name : List ℕ) (g : Option (Given NodeText)) (r : Result (Option (Declaration NodeText)) E)
    → asked ≡ refuses known d.line → asked ≡ false → name ≡ d.name → g ≡ (given_part (nodes_by known) name d.given).kept
    → IfOk r (λ x. x ≡ Some (declared_as d (given_or g))) → IfOk r (λ x. x ≡ (declaration_part (nodes_by known) known d).kept)
declaration_made known d asked name g r by off named made h =
    subst (λ y. IfOk r (λ x. x ≡ y))
    (ap (λ o. Some (declared_as d (given_or o))) (made ∙ ap (λ n. (given_part (nodes_by known) n d.given).kept) named)
    ∙ sym (ap (λ (p : Part (Declaration NodeText)). p.kept) (declaration_is known d asked by off))) h

pub declaration_told : {A E : Type 0} (known : Known) (d : Declaration NodeText) (asked : Bool) (name : List ℕ) (old new : List Note) (r : Result A E)
    → asked ≡ refuses known d.line → asked ≡ false → name ≡ d.name → new ≡ old ++ (given_part (nodes_by known) name d.given).notes
    → OnOk r (new ≡ old ++ (declaration_part (nodes_by known) known d).notes)
declaration_told known d asked name old new r by off named told =
    on_ok r (told ∙ ap (λ ns. old ++ ns) (ap (λ n. (given_part (nodes_by known) n d.given).notes) named
    ∙ sym (ap (λ (p : Part (Declaration NodeText)). p.notes) (declaration_is known d asked by off))))

-- ---- fields

pub field_made : {E : Type 0} (known : Known) (line : ℕ) (name own : List ℕ) (g : Given NodeText) (m : Meant) (asked turned : Bool) (rule : FieldRule) (r : Result (Option BodyItem) E)
    → asked ≡ refuses known line → asked ≡ false → own ≡ name → turned ≡ turns g → rule ≡ field_rule m own turned
    → IfOk r (λ x. x ≡ (ruled_part (nodes_by known) line own g rule).kept) → IfOk r (λ x. x ≡ (field_part (nodes_by known) known line name g m).kept)
field_made known line name own g m asked turned rule r by off named turning ruled h =
    subst (λ y. IfOk r (λ x. x ≡ y))
    (ap (λ (p : Part BodyItem). p.kept)
    (ap (λ k. ruled_part (nodes_by known) line own g k) (ruled ∙ ap (λ t. field_rule m own t) turning)
    ∙ ap (λ n. ruled_part (nodes_by known) line n g (field_rule m n (turns g))) named
    ∙ sym (ap (λ b. if b then gone kind.Refused line name [] else ruled_part (nodes_by known) line name g (field_rule m name (turns g))) (sym by ∙ off)))) h

pub item_made : {E : Type 0} (known : Known) (it : BodyItem) (line : ℕ) (name : List ℕ) (g : Given NodeText) (m : Meant) (r : Result (Option BodyItem) E)
    → it ≡ item.Field line name g → IfOk r (λ x. x ≡ (field_part (nodes_by known) known line name g m).kept) → IfOk r (λ x. x ≡ (item_part known it m).kept)
item_made known it line name g m r is h =
    subst (λ (p : Part BodyItem). IfOk r (λ x. x ≡ p.kept)) (sym (ap (λ w. item_part known w m) is ∙ item_part-field known line name g m)) h

pub item_told : {A E : Type 0} (known : Known) (it : BodyItem) (line : ℕ) (name : List ℕ) (g : Given NodeText) (m : Meant) (old new : List Note) (r : Result A E)
    → it ≡ item.Field line name g → OnOk r (new ≡ old ++ (field_part (nodes_by known) known line name g m).notes) → OnOk r (new ≡ old ++ (item_part known it m).notes)
item_told known it line name g m old new r is h =
    subst (λ (p : Part BodyItem). OnOk r (new ≡ old ++ p.notes)) (sym (ap (λ w. item_part known w m) is ∙ item_part-field known line name g m)) h

-- ---- nodes

module _ (known : Known) (nd : NodeText) (line : ℕ) (name : Option (List ℕ)) (word one two field : List ℕ) (items xs : List BodyItem) (m : Meant) (asked nothing : Bool) where
  full_is : nd ≡ node.Full line name word items → asked ≡ refuses known line → asked ≡ false → one ≡ word → m ≡ meaning_of known one → nothing ≡ is_nothing m → nothing ≡ false → two ≡ word → xs ≡ items
      → node_part known nd field ≡ braces_part line name two field m (kept_in (λ i. item_part known i m) xs) (notes_in (λ i. item_part known i m) xs)
  full_is is by off first means none some second same =
      ap (λ w. node_part known w field) is
      ∙ node_part-full known line name word items field
      ∙ ap (λ k. if refuses known line then gone kind.Refused line word field
      else if is_nothing k then gone kind.Node line word field
      else braces_part line name word field k (kept_in (λ i. item_part known i k) items) (notes_in (λ i. item_part known i k) items)) (sym (means ∙ ap (λ w. meaning_of known w) first))
      ∙ ap (λ b. if b then gone kind.Refused line word field
      else if is_nothing m then gone kind.Node line word field
      else braces_part line name word field m (kept_in (λ i. item_part known i m) items) (notes_in (λ i. item_part known i m) items)) (sym by ∙ off)
      ∙ ap (λ b. if b then gone kind.Node line word field
      else braces_part line name word field m (kept_in (λ i. item_part known i m) items) (notes_in (λ i. item_part known i m) items)) (sym none ∙ some)
      ∙ ap (λ w. braces_part line name w field m (kept_in (λ i. item_part known i m) items) (notes_in (λ i. item_part known i m) items)) (sym second)
      ∙ ap (λ ys. braces_part line name two field m (kept_in (λ i. item_part known i m) ys) (notes_in (λ i. item_part known i m) ys)) (sym same)

  pub node_told : {A E : Type 0} (n0 n1 n2 n3 : List Note) (r : Result A E)
      → nd ≡ node.Full line name word items → asked ≡ refuses known line → asked ≡ false → one ≡ word → m ≡ meaning_of known one → nothing ≡ is_nothing m → nothing ≡ false → two ≡ word → xs ≡ items
      → n1 ≡ n0 ++ grouped_notes m line two field → n2 ≡ n1 ++ notes_in (λ i. item_part known i m) xs → OnOk r (n3 ≡ n2 ++ named_notes line name)
      → OnOk r (n3 ≡ n0 ++ (node_part known nd field).notes)
  node_told n0 n1 n2 n3 r is by off first means none some second same grouped inside named =
      on_ok_then r (λ last. thrice (grouped_notes m line two field) (notes_in (λ i. item_part known i m) xs) (named_notes line name) n0 n1 n2 n3 grouped inside last
      ∙ ap (λ (p : Part NodeText). n0 ++ p.notes) (sym (full_is is by off first means none some second same))) named

-- ---- lists of nodes

pub list_made : (known : Known) (v : RawValue NodeText) (nodes xs kept : List NodeText) (name : List ℕ) (made : RawValue NodeText)
    → v ≡ value.NodeList nodes → xs ≡ nodes → kept ≡ kept_in (λ n. node_part known n name) xs → made ≡ list_of kept
    → Some made ≡ (value_part (nodes_by known) name v).kept
list_made known v nodes xs kept name made is same of_each all =
    ap (λ w. Some w) (all ∙ ap list_of (of_each ∙ ap (λ ys. kept_in (λ n. node_part known n name) ys) same))
    ∙ sym (ap (λ w. (value_part (nodes_by known) name w).kept) is)
