-- The nodes in the fields that stand in the text are those in the fields of the node, in order.
use Rattle.std.proofs.Common.{◌≡◌, ℕ, suc, ◌+◌, Bool, true, false, not, ◌&&◌, if◌then◌else◌, List, [], ◌∷◌, ◌++◌, length, map, take, Option, Some, None, slice_get, refl, sym, ap, ◌∙◌, append_assoc, append-nil}
use Rattle.std.specs.List.{flat_map}
use Rattle.std.specs.Option.{option_and_then, option_map_or, option_or}
use Rattle.std.proofs.lemmas.Grind.{flat_map-append}
use Rattle.std.proofs.lemmas.List.{length-append, take-map}
use Rattle.x3d_values.specs.declared.default.FieldDefault.{FieldDefault}
use Rattle.x3d_values.specs.declared.field_type.Access.{Access}
use Rattle.x3d_values.specs.declared.field_type.FieldType.{FieldType}
use Rattle.x3d_values.specs.declared.fields.Fields.{Fields}
use Rattle.x3d_values.specs.declared.node_type.NodeType.{NodeType}
use Rattle.x3d_values.specs.declared.value.Value.{Value}
use Rattle.x3d_values.specs.Access.{holds_nodes, is_exposed, is_initial, is_kept}
use Rattle.x3d_values.specs.Kept.{field_value}
use Rattle.x3d_values.specs.Tables.{FieldRowView, rows}
use Rattle.x3d_values.specs.Values.{nodes_of, type_of}
use Rattle.classic_tree.specs.declared.tree.Declaration.{Declaration}
use Rattle.proto_flat.specs.declared.flat.FlatNode.{FlatNode}
use Rattle.scene_core.specs.declared.row.DeclaredField.{DeclaredField}
use Rattle.scene_core.specs.declared.scene.SceneNode.{SceneNode}
use Rattle.scene_core.specs.Deep.{linked}
use Rattle.scene_core.specs.Scene.{declared_at, value_at}
use Rattle.scene_core.specs.Shape.{declared_by, most_declared, numbered_fields}
use Rattle.scene_text.specs.Defaulted.{is_default}
use Rattle.scene_text.specs.Tree.{Declared, Plain, PlanView, Shown, declared_from, held_value, present_value, shown_field, shown_fields, shown_from, shown_if}
use Rattle.laws_written.specs.Children.{children}
use Rattle.laws_written.proofs.Inner.{default_none}
use Rattle.laws_written.specs.Writable.{AreKeepable}
use Rattle.laws_written.proofs.Defaults.{left_out_are_defaults}
use Rattle.laws_written.proofs.OrderFields.{FitDeclared, FitRows, FitsDeclared, FitsRow, HasValues}

-- the nodes in a field that stands in the text
abbrev pub links : Shown → List ℕ
links (Plain name v) = nodes_of v
links (Declared d held) = linked held

-- ---- a field

-- what is left out holds no nodes
none_left_out : (d : FieldDefault) (v : Value) → is_default d v ≡ true → nodes_of v ≡ []
none_left_out d v h = ap linked (sym (left_out_are_defaults d v h)) ∙ default_none (type_of v) (Some d)

if_shown : (b : Bool) (name : List ℕ) (d : FieldDefault) (v : Value) → is_default d v ≡ b → flat_map links (shown_if (not b) name v) ≡ nodes_of v
if_shown true name d v e = sym (none_left_out d v e)
if_shown false name d v e = append-nil (nodes_of v)

field_links : (name : List ℕ) (d : Option FieldDefault) (o : Option Value) → (d ≡ None → linked o ≡ []) → flat_map links (shown_field name d o) ≡ linked o
field_links name (Some d) (Some v) k = if_shown (is_default d v) name d v refl
field_links name (Some d) None k = refl
field_links name None o k = sym (k refl)

holds_none : (exposed holds : Bool) → (exposed && not holds) ≡ true → holds ≡ false
holds_none true false h = refl
holds_none true true h = absurd cc
holds_none false holds h = absurd cc

none_kept : (n number : ℕ) (state : List Fields) → AreKeepable state → (x : Value)
    → option_and_then (λ (fields : Fields). field_value fields number) (slice_get state n) ≡ Some x → nodes_of x ≡ []
none_kept n number state kept x e = by_fields (slice_get state n) refl e where
  by_fields : (o : Option Fields) → slice_get state n ≡ o → option_and_then (λ (fields : Fields). field_value fields number) o ≡ Some x → nodes_of x ≡ []
  by_fields None at h = absurd cc
  by_fields (Some fields) at h = (kept n number fields x at h).1

behind : {A : Type 0} (xs : List A) (y : A) (ys : List A) → slice_get (xs ++ y ∷ ys) (length xs) ≡ Some y
behind [] y ys = refl
behind (x ∷ xs) y ys = behind xs y ys

module _ (p : PlanView) (n : ℕ) (node : SceneNode) (kept : AreKeepable p.state) (is : slice_get p.scene.nodes n ≡ Some node) where
  abbrev held_at : ℕ → Option Value
  held_at number = option_and_then (λ (fields : Fields). field_value fields number) (slice_get p.state n)

  -- what it keeps holds no nodes, and is kept where no nodes are held
  present_links : (number : ℕ) (access : Access) (t : FieldType) → (holds_nodes t ≡ false → linked (value_at p.scene n number) ≡ [])
      → linked (present_value p n number access t) ≡ linked (value_at p.scene n number)
  present_links number access t plain = by_kept (is_kept access t) refl where
    by_held : (o : Option Value) → held_at number ≡ o → holds_nodes t ≡ false → linked (option_or o (value_at p.scene n number)) ≡ linked (value_at p.scene n number)
    by_held None e f = refl
    by_held (Some x) e f = none_kept n number p.state kept x e ∙ sym (plain f)

    by_kept : (b : Bool) → is_kept access t ≡ b → linked (option_or (if b then held_at number else None) (value_at p.scene n number)) ≡ linked (value_at p.scene n number)
    by_kept true e = by_held (held_at number) refl (holds_none (is_exposed access) (holds_nodes t) e)
    by_kept false e = refl

  value_is : (number : ℕ) (before rest : List (Option Value)) (v : Option Value) → node.values ≡ before ++ v ∷ rest → length before ≡ number
      → value_at p.scene n number ≡ v
  value_is number before rest v e l =
      ap (λ (o : Option SceneNode). option_and_then (λ (m : SceneNode). option_and_then (λ v. v) (slice_get m.values number)) o) is
      ∙ ap (λ (o : Option (Option Value)). option_and_then (λ v. v) o)
      (ap (λ (l : List (Option Value)). slice_get l number) e ∙ (ap (λ (k : ℕ). slice_get (before ++ v ∷ rest) k) (sym l) ∙ behind before v rest))

  row_links : (number : ℕ) (e : FieldRowView) (v : Option Value) → value_at p.scene n number ≡ v → FitsRow e v
      → flat_map links (shown_field e.name e.default (present_value p n number e.access e.field_type)) ≡ linked v
  row_links number e v at f =
      let same : linked (present_value p n number e.access e.field_type) ≡ linked v =
      present_links number e.access e.field_type (λ h. ap linked at ∙ f.plain h) ∙ ap linked at in
      field_links e.name e.default (present_value p n number e.access e.field_type) (λ d. same ∙ ap linked (f.held d)) ∙ same

  next : (before rest : List (Option Value)) (v : Option Value) (vs : List (Option Value)) → node.values ≡ before ++ ((v ∷ vs) ++ rest)
      → node.values ≡ (before ++ v ∷ []) ++ (vs ++ rest)
  next before rest v vs e = e ∙ sym (append_assoc before (v ∷ []) (vs ++ rest))

  one_more : (before : List (Option Value)) (v : Option Value) (number : ℕ) → length before ≡ number → length (before ++ v ∷ []) ≡ number + 1
  one_more before v number l = length-append before (v ∷ []) ∙ ap (λ (k : ℕ). k + 1) l

  rows_links : (number : ℕ) (es : List FieldRowView) (vs before rest : List (Option Value)) → node.values ≡ before ++ (vs ++ rest) → length before ≡ number
      → FitRows es vs → flat_map links (shown_from p n number es) ≡ flat_map linked vs
  rows_links number [] [] before rest e l f = refl
  rows_links number [] (v ∷ vs) before rest e l f = absurd f
  rows_links number (row ∷ es) [] before rest e l f = absurd f
  rows_links number (row ∷ es) (v ∷ vs) before rest e l f =
      let first = row_links number row v (value_is number before (vs ++ rest) v e l) f.0 in
      let others = rows_links (number + 1) es vs (before ++ v ∷ []) rest (next before rest v vs e) (one_more before v number l) f.1 in
      flat_map-append links (shown_field row.name row.default (present_value p n number row.access row.field_type)) (shown_from p n (number + 1) es)
      ∙ (ap (λ (l : List ℕ). l ++ flat_map links (shown_from p n (number + 1) es)) first ∙ ap (λ (l : List ℕ). linked v ++ l) others)

  -- ---- the fields that are declared

  declared_links : (number : ℕ) (d : Declaration ℕ) (v : Option Value) → value_at p.scene n number ≡ v → FitsDeclared d v
      → linked (held_value p n number (declared_by d)) ≡ linked v
  declared_links number d v at f = by_initial (is_initial d.access) refl where
    by_initial : (b : Bool) → is_initial d.access ≡ b → linked (if b then present_value p n number d.access d.field_type else None) ≡ linked v
    by_initial true e = present_links number d.access d.field_type (λ h. ap linked at ∙ f.plain h) ∙ ap linked at
    by_initial false e = sym (f.held e)

  all_declared_links : (number : ℕ) (ds : List (Declaration ℕ)) (vs before rest : List (Option Value)) → node.values ≡ before ++ (vs ++ rest) → length before ≡ number
      → FitDeclared ds vs → flat_map links (declared_from p n number (map declared_by ds)) ≡ flat_map linked vs
  all_declared_links number [] [] before rest e l f = refl
  all_declared_links number [] (v ∷ vs) before rest e l f = absurd f
  all_declared_links number (d ∷ ds) [] before rest e l f = absurd f
  all_declared_links number (d ∷ ds) (v ∷ vs) before rest e l f =
      let first = declared_links number d v (value_is number before (vs ++ rest) v e l) f.0 in
      let others = all_declared_links (number + 1) ds vs (before ++ v ∷ []) rest (next before rest v vs e) (one_more before v number l) f.1 in
      ap (λ (l : List ℕ). l ++ flat_map links (declared_from p n (number + 1) (map declared_by ds))) first ∙ ap (λ (l : List ℕ). linked v ++ l) others

  -- ---- all fields

  as_many : (es : List FieldRowView) (vs : List (Option Value)) → FitRows es vs → length vs ≡ length es
  as_many [] [] f = refl
  as_many [] (v ∷ vs) f = absurd f
  as_many (e ∷ es) [] f = absurd f
  as_many (e ∷ es) (v ∷ vs) f = ap (λ (k : ℕ). suc k) (as_many es vs f.1)

  declared_is : (flat : FlatNode) → HasValues flat node → declared_at p.scene n ≡ map declared_by (numbered_fields flat.node_type flat.interface)
  declared_is flat h =
      ap (λ (o : Option SceneNode). option_map_or (λ (m : SceneNode). numbered_fields m.node_type m.declared) o []) is
      ∙ (ap (λ (t : NodeType). take (most_declared t) node.declared) h.node_type
      ∙ (ap (λ (l : List DeclaredField). take (most_declared flat.node_type) l) h.declared
      ∙ take-map declared_by (most_declared flat.node_type) flat.interface))

  pub shown_links : (flat : FlatNode) → HasValues flat node → flat_map links (shown_fields p n node.node_type) ≡ children node
  unfolding shown_fields
  shown_links flat h =
      let ds : List (Declaration ℕ) = numbered_fields flat.node_type flat.interface in
      let many = as_many (rows flat.node_type) h.own h.own_fit in
      let own = rows_links 0 (rows flat.node_type) h.own [] h.more h.values refl h.own_fit in
      let more = all_declared_links (length (rows flat.node_type)) ds h.more h.own [] (h.values ∙ ap (λ (l : List (Option Value)). h.own ++ l) (sym (append-nil h.more))) many h.more_fit in
      ap (λ (t : NodeType). flat_map links (shown_from p n 0 (rows t) ++ declared_from p n (length (rows t)) (declared_at p.scene n))) h.node_type
      ∙ (ap (λ (l : List DeclaredField). flat_map links (shown_from p n 0 (rows flat.node_type) ++ declared_from p n (length (rows flat.node_type)) l)) (declared_is flat h)
      ∙ (flat_map-append links (shown_from p n 0 (rows flat.node_type)) (declared_from p n (length (rows flat.node_type)) (map declared_by ds))
      ∙ (ap (λ (l : List ℕ). l ++ flat_map links (declared_from p n (length (rows flat.node_type)) (map declared_by ds))) own
      ∙ (ap (λ (l : List ℕ). flat_map linked h.own ++ l) more
      ∙ (sym (flat_map-append linked h.own h.more) ∙ ap (λ (l : List (Option Value)). flat_map linked l) (sym h.values))))))
