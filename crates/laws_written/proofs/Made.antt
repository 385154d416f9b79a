-- The values of a node of a scene, each by its field's number, and what they were made of.
use Rattle.std.proofs.Common.{◌≡◌, ℕ, Bool, zero, suc, ◌+◌, List, [], ◌∷◌, ◌++◌, length, map, Option, Some, Ok, slice_get, refl, sym, ap, subst, ◌∙◌, arith, append_assoc, append-nil}
use Rattle.std.specs.Option.{option_and_then}
use Rattle.x3d_values.specs.declared.node_type.NodeType.{NodeType}
use Rattle.x3d_values.specs.declared.value.Value.{Value}
use Rattle.x3d_values.specs.Tables.{FieldRowView, rows}
use Rattle.classic_tree.specs.declared.tree.Declaration.{Declaration}
use Rattle.proto_flat.specs.declared.flat.FlatField.{FlatField}
use Rattle.proto_flat.specs.declared.flat.FlatNode.{FlatNode}
use Rattle.scene_core.specs.declared.scene.SceneNode.{SceneNode}
use Rattle.scene_core.specs.Building.{node_of}
use Rattle.scene_core.specs.Labels.{label_by}
use Rattle.scene_core.specs.Parts.{given}
use Rattle.scene_core.specs.Shape.{declared_by, numbered_fields}
use Rattle.scene_core.specs.Typed.{declared_from, declared_value, field_value, values_from, values_of}
use Rattle.laws_written.proofs.Inner.{bind_is, scene_ok_is}
use Rattle.laws_written.proofs.NumberedLists.{some_is}

-- ---- one value for each item

module _ {A : Type 0} (R : A → ℕ → Option Value → Type 0) where
  -- the first of these items has that number
  abbrev pub Related : ℕ → List A → List (Option Value) → Type 0
  Related number [] [] = Unit {0}
  Related number [] (v ∷ vs) = ⊥
  Related number (a ∷ xs) [] = ⊥
  Related number (a ∷ xs) (v ∷ vs) = R a number v × Related (number + 1) xs vs

  pub related_at : (number : ℕ) (xs : List A) (vs : List (Option Value)) → Related number xs vs → (i : ℕ) (a : A) → slice_get xs i ≡ Some a
      → (v : Option Value) × (slice_get vs i ≡ Some v) × R a (number + i) v
  related_at number [] vs h i a e = absurd cc
  related_at number (b ∷ bs) [] h i a e = absurd h
  related_at number (b ∷ bs) (v ∷ vs) h zero a e =
      let here : number ≡ number + 0 = omega arith in
      (v, refl, subst (λ (k : ℕ). R a k v) here (subst (λ (x : A). R x number v) (some_is b a e) h.0))
  related_at number (b ∷ bs) (v ∷ vs) h (suc i) a e =
      let r = related_at (number + 1) bs vs h.1 i a e in
      let here : number + 1 + i ≡ number + suc i = omega arith in
      (r.0, r.1, subst (λ (k : ℕ). R a k r.0) here r.2)

  pub related_many : (number : ℕ) (xs : List A) (vs : List (Option Value)) → Related number xs vs → length vs ≡ length xs
  related_many number [] [] h = refl
  related_many number [] (v ∷ vs) h = absurd h
  related_many number (a ∷ xs) [] h = absurd h
  related_many number (a ∷ xs) (v ∷ vs) h = ap (λ (k : ℕ). suc k) (related_many (number + 1) xs vs h.1)

-- ---- as a node is made

abbrev pub value_in : List (Option Value) → ℕ → Option Value
value_in values field = option_and_then (λ v. v) (slice_get values field)

pub front : {A : Type 0} (xs ys : List A) (i : ℕ) (x : A) → slice_get xs i ≡ Some x → slice_get (xs ++ ys) i ≡ Some x
front [] ys i x e = absurd cc
front (z ∷ xs) ys zero x e = e
front (z ∷ xs) ys (suc i) x e = front xs ys i x e

pub behind : {A : Type 0} (xs ys : List A) (i : ℕ) → slice_get (xs ++ ys) (length xs + i) ≡ slice_get ys i
behind [] ys i = let e : 0 + i ≡ i = omega arith in ap (λ (k : ℕ). slice_get ys k) e
behind (x ∷ xs) ys i = let e : suc (length xs) + i ≡ suc (length xs + i) = omega arith in ap (λ (k : ℕ). slice_get (x ∷ xs ++ ys) k) e ∙ behind xs ys i

module _ (all : List FlatNode) (numbers : List ℕ) where
  -- the value was made of what was given by that number
  abbrev pub IsRowMade : List FlatField → FieldRowView → ℕ → Option Value → Type 0
  IsRowMade fields e number v = field_value all numbers e (given fields number) ≡ Ok v

  abbrev pub IsDeclaredMade : List FlatField → Declaration ℕ → ℕ → Option Value → Type 0
  IsDeclaredMade fields d number v = declared_value all numbers d (given fields number) ≡ Ok v

  rows_made : (fields : List FlatField) (number : ℕ) (es : List FieldRowView) (made values : List (Option Value)) → values_from all numbers fields number es made ≡ Ok values
      → (more : List (Option Value)) × (values ≡ made ++ more) × Related (IsRowMade fields) number es more
  rows_made fields number [] made values h = ([], sym (scene_ok_is made values h) ∙ sym (append-nil made), tt)
  rows_made fields number (e ∷ es) made values h =
      let b = bind_is (field_value all numbers e (given fields number)) (λ v. values_from all numbers fields (number + 1) es (made ++ v ∷ [])) values h in
      let r = rows_made fields (number + 1) es (made ++ b.0 ∷ []) values b.2 in
      (b.0 ∷ r.0, r.1 ∙ append_assoc made (b.0 ∷ []) r.0, (b.1, r.2))

  declared_made : (fields : List FlatField) (number : ℕ) (ds : List (Declaration ℕ)) (made values : List (Option Value))
      → declared_from all numbers fields number ds made ≡ Ok values
      → (more : List (Option Value)) × (values ≡ made ++ more) × Related (IsDeclaredMade fields) number ds more
  declared_made fields number [] made values h = ([], sym (scene_ok_is made values h) ∙ sym (append-nil made), tt)
  declared_made fields number (d ∷ ds) made values h =
      let b = bind_is (declared_value all numbers d (given fields number)) (λ v. declared_from all numbers fields (number + 1) ds (made ++ v ∷ [])) values h in
      let r = declared_made fields (number + 1) ds (made ++ b.0 ∷ []) values b.2 in
      (b.0 ∷ r.0, r.1 ∙ append_assoc made (b.0 ∷ []) r.0, (b.1, r.2))

  abbrev new_node : FlatNode → Option (List ℕ) → List (Option Value) → SceneNode
  new_node node label values =
      record { node_type = node.node_type; label = label; declared = map declared_by node.interface; values = values }

  pub record IsNode (is_label : List ℕ → Bool) (flat : FlatNode) (node : SceneNode) : Type 0 where
    pub node_type : node.node_type ≡ flat.node_type
    pub label : node.label ≡ label_by is_label flat.name
    pub declared : node.declared ≡ map declared_by flat.interface
    pub row : (i : ℕ) (e : FieldRowView) → slice_get (rows flat.node_type) i ≡ Some e → IsRowMade flat.fields e i (value_in node.values i)
    pub field : (i : ℕ) (d : Declaration ℕ) → slice_get (numbered_fields flat.node_type flat.interface) i ≡ Some d
        → IsDeclaredMade flat.fields d (length (rows flat.node_type) + i) (value_in node.values (length (rows flat.node_type) + i))

  pub node_is : (is_label : List ℕ → Bool) (flat : FlatNode) (node : SceneNode) → node_of all numbers is_label flat ≡ Ok node → IsNode is_label flat node
  unfolding values_of
  node_is is_label flat node h =
      let t : NodeType = flat.node_type in
      let ds : List (Declaration ℕ) = numbered_fields t flat.interface in
      let label : Option (List ℕ) = label_by is_label flat.name in
      let a = bind_is (values_of all numbers flat) (λ values. Ok (new_node flat label values)) node h in
      let b = bind_is (values_from all numbers flat.fields 0 (rows t) []) (declared_from all numbers flat.fields (length (rows t)) ds) a.0 a.1 in
      let first = rows_made flat.fields 0 (rows t) [] b.0 b.1 in
      let more = declared_made flat.fields (length (rows t)) ds b.0 a.0 b.2 in
      let own : a.0 ≡ first.0 ++ more.0 = more.1 ∙ ap (λ (l : List (Option Value)). l ++ more.0) first.1 in
      subst (IsNode is_label flat) (scene_ok_is (new_node flat label a.0) node a.2) (record {
        node_type = refl;
        label = refl;
        declared = refl;
        row = λ i e at. row_at first.0 more.0 a.0 own first.2 i e at;
        field = λ i d at. field_at first.0 more.0 a.0 own first.2 more.2 i d at;
      }) where
        row_at : (first more values : List (Option Value)) → values ≡ first ++ more → Related (IsRowMade flat.fields) 0 (rows flat.node_type) first
            → (i : ℕ) (e : FieldRowView) → slice_get (rows flat.node_type) i ≡ Some e → IsRowMade flat.fields e i (value_in values i)
        row_at first more values own h i e at =
            let r = related_at (IsRowMade flat.fields) 0 (rows flat.node_type) first h i e at in
            let is : value_in values i ≡ r.0 =
            ap (λ (l : List (Option Value)). value_in l i) own ∙ ap (λ (o : Option (Option Value)). option_and_then (λ v. v) o) (front first more i r.0 r.1) in
            let here : 0 + i ≡ i = omega arith in
            subst (λ (v : Option Value). IsRowMade flat.fields e i v) (sym is) (subst (λ (k : ℕ). IsRowMade flat.fields e k r.0) here r.2)

        field_at : (first more values : List (Option Value)) → values ≡ first ++ more → Related (IsRowMade flat.fields) 0 (rows flat.node_type) first
            → Related (IsDeclaredMade flat.fields) (length (rows flat.node_type)) (numbered_fields flat.node_type flat.interface) more
            → (i : ℕ) (d : Declaration ℕ) → slice_get (numbered_fields flat.node_type flat.interface) i ≡ Some d
            → IsDeclaredMade flat.fields d (length (rows flat.node_type) + i) (value_in values (length (rows flat.node_type) + i))
        field_at first more values own h k i d at =
            let r = related_at (IsDeclaredMade flat.fields) (length (rows flat.node_type)) (numbered_fields flat.node_type flat.interface) more k i d at in
            let many : length first ≡ length (rows flat.node_type) = related_many (IsRowMade flat.fields) 0 (rows flat.node_type) first h in
            let is : value_in values (length (rows flat.node_type) + i) ≡ r.0 =
            ap (λ (l : List (Option Value)). value_in l (length (rows flat.node_type) + i)) own
            ∙ (ap (λ (n : ℕ). value_in (first ++ more) (n + i)) (sym many)
            ∙ ap (λ (o : Option (Option Value)). option_and_then (λ v. v) o) (behind first more i ∙ r.1)) in
            subst (λ (v : Option Value). IsDeclaredMade flat.fields d (length (rows flat.node_type) + i) v) (sym is) r.2
