-- In the nodes of the flat form of a written scene stand the nodes that stand in the scene's.
use Rattle.std.proofs.Common.{◌≡◌, ℕ, suc, ◌+◌, Bool, true, false, ℤ, if◌then◌else◌, List, [], ◌∷◌, ◌++◌, length, map, Option, Some, None, slice_get, refl, sym, ap, subst, ◌∙◌, arith, append-nil}
use Rattle.std.specs.List.{flat_map}
use Rattle.std.proofs.lemmas.Grind.{flat_map-append}
use Rattle.std.proofs.lemmas.List.{map-append}
use Rattle.x3d_values.specs.declared.default.FieldDefault.{FieldDefault}
use Rattle.x3d_values.specs.declared.field_type.FieldType.{FieldType}
use Rattle.x3d_values.specs.declared.fields.Fields.{Fields}
use Rattle.x3d_values.specs.declared.node_type.NodeType.{NodeType}
use Rattle.x3d_values.specs.declared.value.Value.{Value}
use Rattle.x3d_values.specs.declared.value.Value.TheVariants as value
use Rattle.x3d_values.specs.Access.{holds_nodes, is_initial}
use Rattle.x3d_values.specs.Tables.{FieldRowView, rows}
use Rattle.x3d_values.specs.Values.{nodes_of, type_of}
use Rattle.classic_tree.specs.declared.tree.Declaration.{Declaration}
use Rattle.proto_flat.specs.declared.flat.FlatField.{FlatField}
use Rattle.proto_flat.specs.declared.flat.FlatNode.{FlatNode}
use Rattle.laws_documents.specs.Order.{nodes_in}
use Rattle.scene_core.specs.declared.row.DeclaredField.{DeclaredField}
use Rattle.scene_core.specs.Deep.{linked}
use Rattle.scene_core.specs.Parts.{given, inner_nodes, parts, parts_from, parts_in}
use Rattle.scene_core.specs.Scene.{SceneView}
use Rattle.scene_core.specs.Shape.{declaration_entry, declared_by, declared_entry, numbered_fields}
use Rattle.scene_text.specs.Defaulted.{is_default}
use Rattle.scene_text.specs.Raw.{color_run, integer_run, number_list, number_run, pair_run, string_list, truth_list, vector_run}
use Rattle.laws_written.proofs.Inner.{inner_if}
use Rattle.laws_written.specs.Fields.{HeldField, declared_value, held_by, unless_default, value_now, written_field, written_value}
use Rattle.laws_written.proofs.Given.{all_written, declared_given, declared_slots, fields, fields_are, given_by, held_from, row_given, row_slots, slots}
use Rattle.laws_written.proofs.Holding.{Holds}
use Rattle.laws_written.proofs.Places.{mapped_at}

-- ---- the nodes in what is written of a value

no_truths : (truths : List Bool) → nodes_in (truth_list truths) ≡ []
no_truths [] = refl
no_truths (t ∷ ts) = refl

no_numbers : (numbers : List ℤ) → nodes_in (number_list numbers) ≡ []
no_numbers [] = refl
no_numbers (n ∷ ns) = refl

no_texts : (texts : List (List ℕ)) → nodes_in (string_list texts) ≡ []
no_texts [] = refl
no_texts (t ∷ ts) = refl

value_nodes : (v : Value) → nodes_in (written_value v) ≡ nodes_of v
value_nodes (value.SFNode (Some n)) = refl
value_nodes (value.SFNode None) = refl
value_nodes (value.MFNode []) = refl
value_nodes (value.MFNode (n ∷ ns)) = refl
value_nodes (value.SFBool v) = refl
value_nodes (value.SFInt32 v) = refl
value_nodes (value.SFFloat v) = refl
value_nodes (value.SFTime v) = refl
value_nodes (value.SFString v) = refl
value_nodes (value.SFVec2f v) = refl
value_nodes (value.SFVec3f v) = refl
value_nodes (value.SFColor v) = refl
value_nodes (value.MFBool v) = no_truths v
value_nodes (value.MFInt32 v) = no_numbers (flat_map integer_run v)
value_nodes (value.MFFloat v) = no_numbers (flat_map number_run v)
value_nodes (value.MFTime v) = no_numbers (flat_map number_run v)
value_nodes (value.MFString v) = no_texts v
value_nodes (value.MFVec2f v) = no_numbers (flat_map pair_run v)
value_nodes (value.MFVec3f v) = no_numbers (flat_map vector_run v)
value_nodes (value.MFColor v) = no_numbers (flat_map color_run v)

-- in a field of the value's type
value_parts : (v : Value) → inner_if (holds_nodes (type_of v)) (inner_nodes (written_value v)) ≡ nodes_of v
value_parts (value.SFNode (Some n)) = refl
value_parts (value.SFNode None) = refl
value_parts (value.MFNode []) = refl
value_parts (value.MFNode (n ∷ ns)) = refl
value_parts _ = refl

none_if : (holds : Bool) → inner_if holds [] ≡ []
none_if true = refl
none_if false = refl

parts_given : (t : FieldType) (k : ℕ) (o : Option Value) → ((v : Value) → o ≡ Some v → type_of v ≡ t) → parts_in t (given_by k o) ≡ linked o
parts_given t k None h = none_if (holds_nodes t)
parts_given t k (Some v) h =
    ap (λ (u : FieldType). inner_if (holds_nodes u) (inner_nodes (written_value v))) (sym (h v refl)) ∙ value_parts v

-- ---- in fields one after the other

abbrev pub nodes_within : List FlatField → List ℕ
nodes_within fields = flat_map (λ (field : FlatField). nodes_in field.value) fields

held_inside : (number : ℕ) (o : Option Value) → nodes_within (all_written (held_by number o)) ≡ linked o
held_inside number None = refl
held_inside number (Some v) = append-nil (nodes_in (written_value v)) ∙ value_nodes v

slots_inside : (number : ℕ) (os : List (Option Value)) → nodes_within (all_written (held_from number os)) ≡ flat_map linked os
slots_inside number [] = refl
slots_inside number (o ∷ os) =
    ap nodes_within (map-append written_field (held_by number o) (held_from (number + 1) os))
    ∙ (flat_map-append (λ (field : FlatField). nodes_in field.value) (all_written (held_by number o)) (all_written (held_from (number + 1) os))
    ∙ (ap (λ (l : List ℕ). l ++ nodes_within (all_written (held_from (number + 1) os))) (held_inside number o)
    ∙ ap (λ (l : List ℕ). linked o ++ l) (slots_inside (number + 1) os)))

unless_some : (d : Option FieldDefault) (o : Option Value) (v : Value) → unless_default d o ≡ Some v → o ≡ Some v
unless_some None o v h = absurd cc
unless_some (Some d) None v h = absurd cc
unless_some (Some d) (Some x) v h = by_test (is_default d x) h where
  by_test : (b : Bool) → (if b then None else Some x) ≡ Some v → Some x ≡ Some v
  by_test true h = absurd cc
  by_test false h = h

initial_some : (b : Bool) (o : Option Value) (v : Value) → (if b then o else None) ≡ Some v → o ≡ Some v
initial_some true o v h = h
initial_some false o v h = absurd cc

module _ (s : SceneView) (state : List Fields) (n : ℕ) where
  abbrev now : ℕ → FieldRowView → Option Value
  now k e = value_now s state n k e.access e.field_type

  rows_parts : (fs : List FlatField) (number : ℕ) (es : List FieldRowView)
      → ((i : ℕ) (e : FieldRowView) → slice_get es i ≡ Some e → parts_in e.field_type (given fs (number + i)) ≡ linked (unless_default e.default (now (number + i) e)))
      → parts_from fs number es ≡ flat_map linked (row_slots s state n number es)
  rows_parts fs number [] k = refl
  rows_parts fs number (e ∷ es) k =
      let here : number + 0 ≡ number = omega arith in
      let first = subst (λ (j : ℕ). parts_in e.field_type (given fs j) ≡ linked (unless_default e.default (now j e))) here (k 0 e refl) in
      let rest = rows_parts fs (number + 1) es (λ i x at.
      (let there : number + suc i ≡ number + 1 + i = omega arith in
      subst (λ (j : ℕ). parts_in x.field_type (given fs j) ≡ linked (unless_default x.default (now j x))) there (k (suc i) x at))) in
      ap (λ (l : List ℕ). l ++ parts_from fs (number + 1) es) first
      ∙ ap (λ (l : List ℕ). linked (unless_default e.default (now number e)) ++ l) rest

  declared_parts : (fs : List FlatField) (number : ℕ) (ds : List (Declaration ℕ))
      → ((i : ℕ) (d : Declaration ℕ) → slice_get ds i ≡ Some d → parts_in d.field_type (given fs (number + i)) ≡ linked (declared_value s state n (number + i) (declared_by d)))
      → parts_from fs number (map declaration_entry ds) ≡ flat_map linked (declared_slots s state n number (map declared_by ds))
  declared_parts fs number [] k = refl
  declared_parts fs number (d ∷ ds) k =
      let here : number + 0 ≡ number = omega arith in
      let first = subst (λ (j : ℕ). parts_in d.field_type (given fs j) ≡ linked (declared_value s state n j (declared_by d))) here (k 0 d refl) in
      let rest = declared_parts fs (number + 1) ds (λ i x at.
      (let there : number + suc i ≡ number + 1 + i = omega arith in
      subst (λ (j : ℕ). parts_in x.field_type (given fs j) ≡ linked (declared_value s state n j (declared_by x))) there (k (suc i) x at))) in
      ap (λ (l : List ℕ). l ++ parts_from fs (number + 1) (map declaration_entry ds)) first
      ∙ ap (λ (l : List ℕ). linked (declared_value s state n number (declared_by d)) ++ l) rest

  -- in a node with these fields stand the nodes in them
  pub node_parts : (t : NodeType) (ds : List DeclaredField) (g : FlatNode) → g.node_type ≡ t → g.fields ≡ fields s state n (rows t) ds
      → map declared_by (numbered_fields t g.interface) ≡ ds
      → ((k : ℕ) (e : FieldRowView) → slice_get (rows t) k ≡ Some e → Holds e (now k e))
      → ((i : ℕ) (d : DeclaredField) → slice_get ds i ≡ Some d → Holds (declared_entry d) (now (length (rows t) + i) (declared_entry d)))
      → parts g ≡ nodes_within g.fields
  node_parts t ds g type_is fields_same declared_same own more =
      let fs : List FlatField = fields s state n (rows t) ds in
      let ns : List (Declaration ℕ) = numbered_fields t g.interface in
      let first : parts_from fs 0 (rows t) ≡ flat_map linked (row_slots s state n 0 (rows t)) =
      rows_parts fs 0 (rows t) (λ i e at. row_at i e at) in
      let second : parts_from fs (length (rows t)) (map declaration_entry ns) ≡ flat_map linked (declared_slots s state n (length (rows t)) (map declared_by ns)) =
      declared_parts fs (length (rows t)) ns (λ i d at. declared_at i d at) in
      ap (λ (u : NodeType). parts_from g.fields 0 (rows u) ++ parts_from g.fields (length (rows u)) (map declaration_entry (numbered_fields u g.interface))) type_is
      ∙ (ap (λ (l : List FlatField). parts_from l 0 (rows t) ++ parts_from l (length (rows t)) (map declaration_entry ns)) fields_same
      ∙ (ap (λ (l : List ℕ). l ++ parts_from fs (length (rows t)) (map declaration_entry ns)) first
      ∙ (ap (λ (l : List ℕ). flat_map linked (row_slots s state n 0 (rows t)) ++ l) second
      ∙ (ap (λ (l : List DeclaredField). flat_map linked (row_slots s state n 0 (rows t)) ++ flat_map linked (declared_slots s state n (length (rows t)) l)) declared_same
      ∙ (sym (flat_map-append linked (row_slots s state n 0 (rows t)) (declared_slots s state n (length (rows t)) ds))
      ∙ (sym (slots_inside 0 (slots s state n (rows t) ds))
      ∙ (ap (λ (l : List HeldField). nodes_within (all_written l)) (sym (fields_are s state n (rows t) ds))
      ∙ ap nodes_within (sym fields_same)))))))) where
        row_at : (i : ℕ) (e : FieldRowView) → slice_get (rows t) i ≡ Some e
            → parts_in e.field_type (given (fields s state n (rows t) ds) (0 + i)) ≡ linked (unless_default e.default (now (0 + i) e))
        row_at i e at =
            let here : i ≡ 0 + i = omega arith in
            subst (λ (j : ℕ). parts_in e.field_type (given (fields s state n (rows t) ds) j) ≡ linked (unless_default e.default (now j e))) here
            (ap (λ (o : Option FlatField). parts_in e.field_type o) (row_given s state n (rows t) ds i e at)
            ∙ parts_given e.field_type i (unless_default e.default (now i e)) (λ v h. (own i e at).typed v (unless_some e.default (now i e) v h)))

        declared_at : (i : ℕ) (d : Declaration ℕ) → slice_get (numbered_fields t g.interface) i ≡ Some d
            → parts_in d.field_type (given (fields s state n (rows t) ds) (length (rows t) + i)) ≡ linked (declared_value s state n (length (rows t) + i) (declared_by d))
        declared_at i d at =
            let k : ℕ = length (rows t) + i in
            let there : slice_get ds i ≡ Some (declared_by d) =
            ap (λ (l : List DeclaredField). slice_get l i) (sym declared_same) ∙ mapped_at declared_by (numbered_fields t g.interface) i d at in
            ap (λ (o : Option FlatField). parts_in d.field_type o) (declared_given s state n (rows t) ds i (declared_by d) there)
            ∙ parts_given d.field_type k (declared_value s state n k (declared_by d))
            (λ v h. (more i (declared_by d) there).typed v (initial_some (is_initial d.access) (now k (declared_entry (declared_by d))) v h))
