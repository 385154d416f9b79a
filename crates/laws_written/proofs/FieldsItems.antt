-- What is written of the fields of a node, by their names.
use Rattle.std.proofs.Common.{◌≡◌, ℕ, Bool, ℤ, List, [], ◌∷◌, ◌++◌, length, map, Option, Some, None, refl, sym, ap, ◌∙◌, arith, append_assoc, append-nil}
use Rattle.std.specs.List.{flat_map, fold}
use Rattle.std.proofs.lemmas.Grind.{flat_map-append}
use Rattle.x3d_values.specs.declared.node_type.NodeType.{NodeType}
use Rattle.x3d_values.specs.declared.value.Value.{Value}
use Rattle.x3d_values.specs.declared.value.Value.TheVariants as value
use Rattle.x3d_values.specs.Names.{node_type_name}
use Rattle.classic_tree.specs.declared.tree.BodyItem.{BodyItem}
use Rattle.classic_tree.specs.declared.tree.Given.TheVariants as given
use Rattle.classic_tree.specs.declared.tree.NodeText.{NodeText}
use Rattle.classic_tree.specs.declared.tree.RawValue.{RawValue}
use Rattle.classic_tree.specs.declared.tree.RawValue.TheVariants as raw
use Rattle.laws_documents.specs.Signatures.{Signature, own_interface}
use Rattle.laws_documents.specs.Fields.{Numbering, interface_of, numbering}
use Rattle.laws_documents.specs.Shapes.{FieldShape, blank, item_shape, no_node, node_of}
use Rattle.laws_documents.proofs.ShapeParts.{all_fields, declared_shapes, shape-declaration, shape-field}
use Rattle.scene_text.specs.Raw.{color_run, integer_run, number_list, number_run, pair_run, string_list, truth_list, vector_run}
use Rattle.scene_text.specs.Tree.{Declared, Makes, Plain, Shown, Grows, each, field_tree, one_more, value_tree}
use Rattle.laws_written.proofs.Braces.{type_named}
use Rattle.laws_written.proofs.NodesWhole.{made_many}
use Rattle.laws_written.specs.Fields.{written_value}
use Rattle.laws_written.proofs.FieldsShown.{all_shown, all_signed, shown_shape, shown_signature}

-- ---- values, up to which nodes stand in them

same_truths : (truths : List Bool) → blank {N = NodeText} (truth_list truths) ≡ blank {N = ℕ} (truth_list truths)
same_truths [] = refl
same_truths (t ∷ ts) = refl

same_numbers : (numbers : List ℤ) → blank {N = NodeText} (number_list numbers) ≡ blank {N = ℕ} (number_list numbers)
same_numbers [] = refl
same_numbers (n ∷ ns) = refl

same_texts : (texts : List (List ℕ)) → blank {N = NodeText} (string_list texts) ≡ blank {N = ℕ} (string_list texts)
same_texts [] = refl
same_texts (t ∷ ts) = refl

pub as_many_blanks : {A B : Type 0} (xs : List A) (ys : List B) → length xs ≡ length ys → map no_node xs ≡ map no_node ys
as_many_blanks [] [] l = refl
as_many_blanks [] (y ∷ ys) l = absurd (omega (arith, l))
as_many_blanks (x ∷ xs) [] l = absurd (omega (arith, l))
as_many_blanks (x ∷ xs) (y ∷ ys) l = ap (λ (us : List (Unit {0})). tt ∷ us) (as_many_blanks xs ys (omega (arith, l)))

module _ (tree : Makes ℕ NodeText) (seen : List Bool) where
  value_blank : (v : Value) → blank (value_tree tree seen v).made ≡ blank (written_value v)
  value_blank (value.SFNode (Some n)) = refl
  value_blank (value.MFNode []) = refl
  value_blank (value.MFNode (n ∷ ns)) =
      let many = made_many tree (record { seen = seen; made = [] }) (n ∷ ns) in
      ap (λ (us : List (Unit {0})). raw.NodeList us) (as_many_blanks (each tree seen (n ∷ ns)).made (n ∷ ns) (omega (arith, many)))
  value_blank (value.SFNode None) = refl
  value_blank (value.SFBool v) = refl
  value_blank (value.SFInt32 v) = refl
  value_blank (value.SFFloat v) = refl
  value_blank (value.SFTime v) = refl
  value_blank (value.SFString v) = refl
  value_blank (value.SFVec2f v) = refl
  value_blank (value.SFVec3f v) = refl
  value_blank (value.SFColor v) = refl
  value_blank (value.MFBool v) = same_truths v
  value_blank (value.MFInt32 v) = same_numbers (flat_map integer_run v)
  value_blank (value.MFFloat v) = same_numbers (flat_map number_run v)
  value_blank (value.MFTime v) = same_numbers (flat_map number_run v)
  value_blank (value.MFString v) = same_texts v
  value_blank (value.MFVec2f v) = same_numbers (flat_map pair_run v)
  value_blank (value.MFVec3f v) = same_numbers (flat_map vector_run v)
  value_blank (value.MFColor v) = same_numbers (flat_map color_run v)

  -- ---- a field

  abbrev made_value : Value → RawValue NodeText
  made_value v = (value_tree tree seen v).made

  abbrev blank_by : Option ℕ → RawValue (Unit {0}) → List FieldShape
  blank_by number u = record { line = 0; number = number; value = u } ∷ []

  field_shown : (numbers : Numbering) (x : Shown) → (item_shape (field_tree tree seen x).made).fields numbers ≡ shown_shape numbers x
  field_shown numbers (Plain name v) =
      (shape-field 0 name (given.Value (made_value v))).has_fields numbers ∙ ap (λ (u : RawValue (Unit {0})). blank_by (numbers name) u) (value_blank v)
  field_shown numbers (Declared d None) =
      (shape-declaration (record { line = 0; access = d.access; field_type = d.field_type; name = d.name; given = given.Nothing })).has_fields numbers
  field_shown numbers (Declared d (Some v)) =
      (shape-declaration (record { line = 0; access = d.access; field_type = d.field_type; name = d.name; given = given.Value (made_value v) })).has_fields numbers
      ∙ ap (λ (u : RawValue (Unit {0})). blank_by (numbers d.name) u) (value_blank v)

  field_signed : (x : Shown) → (item_shape (field_tree tree seen x).made).declares ≡ shown_signature x
  field_signed (Plain name v) = (shape-field 0 name (given.Value (made_value v))).has_declared
  field_signed (Declared d None) =
      (shape-declaration (record { line = 0; access = d.access; field_type = d.field_type; name = d.name; given = given.Nothing })).has_declared
  field_signed (Declared d (Some v)) =
      (shape-declaration (record { line = 0; access = d.access; field_type = d.field_type; name = d.name; given = given.Value (made_value v) })).has_declared

-- ---- fields in turn

module _ {A B C : Type 0} (make : Makes A B) (f : B → List C) (g : A → List C) (k : (seen : List Bool) (x : A) → f (make seen x).made ≡ g x) where
  gives_more : (m : Grows (List B)) (xs : List A) → flat_map f (fold (one_more make) m xs).made ≡ flat_map f m.made ++ flat_map g xs
  gives_more m [] = sym (append-nil (flat_map f m.made))
  gives_more m (x ∷ xs) =
      let b : B = (make m.seen x).made in
      gives_more (one_more make m x) xs
      ∙ (ap (λ (l : List C). l ++ flat_map g xs) (flat_map-append f m.made (b ∷ []) ∙ ap (λ (l : List C). flat_map f m.made ++ l) (append-nil (f b) ∙ k m.seen x))
      ∙ append_assoc (flat_map f m.made) (g x) (flat_map g xs))

  gives : (seen : List Bool) (xs : List A) → flat_map f (each make seen xs).made ≡ flat_map g xs
  gives seen xs = gives_more (record { seen = seen; made = [] }) xs

-- ---- what stands between braces with these fields

pub node_shown : (tree : Makes ℕ NodeText) (seen : List Bool) (t : NodeType) (fields : List Shown)
    → node_of (node_type_name t) (declared_shapes (each (field_tree tree) seen fields).made) (all_fields (each (field_tree tree) seen fields).made)
    ≡ record { fields = all_shown (numbering (Some t) (all_signed fields)) fields; interface = own_interface t (all_signed fields) }
node_shown tree seen t fields =
    let items : List BodyItem = (each (field_tree tree) seen fields).made in
    let signed : declared_shapes items ≡ all_signed fields =
    gives (field_tree tree) (λ i. (item_shape i).declares) shown_signature (λ seen x. field_signed tree seen x) seen fields in
    let numbers : Numbering = numbering (Some t) (all_signed fields) in
    let shown : all_fields items numbers ≡ all_shown numbers fields =
    gives (field_tree tree) (λ i. (item_shape i).fields numbers) (shown_shape numbers) (λ seen x. field_shown tree seen numbers x) seen fields in
    ap (λ (l : List Signature). node_of (node_type_name t) l (all_fields items)) signed
    ∙ (ap (λ (o : Option NodeType). record { fields = all_fields items (numbering o (all_signed fields)); interface = interface_of o (all_signed fields) }) (type_named t)
    ∙ ap (λ (l : List FieldShape). record { fields = l; interface = own_interface t (all_signed fields) }) shown)
