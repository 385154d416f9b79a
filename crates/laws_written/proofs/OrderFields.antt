-- What the fields of a scene's node hold: where a field is of no node type it holds no nodes, and
-- where nothing may be given to it, it holds nothing.
use Rattle.std.proofs.Common.{◌≡◌, ℕ, ◌+◌, Bool, true, false, not, ◌&&◌, ◌||◌, if◌then◌else◌, List, [], ◌∷◌, ◌++◌, codes, length, map, nat_eq, Option, Some, None, Ok, Err, refl, sym, ap, subst, ◌∙◌, append_assoc, append-nil}
use Rattle.std.specs.Prelude.{is_some}
use Rattle.std.specs.Cmp.Lexicographic.{pointwise}
use Rattle.std.specs.List.{list_all}
use Rattle.std.specs.Option.{option_and_then}
use Rattle.x3d_values.specs.declared.default.FieldDefault.{FieldDefault}
use Rattle.x3d_values.specs.declared.field_type.Access.{Access}
use Rattle.x3d_values.specs.declared.field_type.FieldType.{FieldType}
use Rattle.x3d_values.specs.declared.node_type.NodeKind.{NodeKind}
use Rattle.x3d_values.specs.declared.node_type.NodeType.{NodeType}
use Rattle.x3d_values.specs.declared.node_type.NodeType.TheVariants.{Group}
use Rattle.x3d_values.specs.declared.value.Value.{Value}
use Rattle.x3d_values.specs.Access.{holds_nodes, is_initial}
use Rattle.x3d_values.specs.Defaults.{default_value}
use Rattle.x3d_values.specs.Tables.{FieldRowView, rows}
use Rattle.classic_tree.specs.declared.tree.Declaration.{Declaration}
use Rattle.proto_flat.specs.declared.flat.FlatField.{FlatField}
use Rattle.proto_flat.specs.declared.flat.FlatNode.{FlatNode}
use Rattle.scene_values.specs.Rotations.{checked_rotation}
use Rattle.scene_values.specs.Typing.{called, typed}
use Rattle.scene_core.specs.declared.fault.SceneFault.{SceneFault}
use Rattle.scene_core.specs.declared.fault.SceneFaultKind.TheVariants.{BadChild, NotInitial, RotationUnsupported, ValueRange}
use Rattle.scene_core.specs.declared.scene.SceneNode.{SceneNode}
use Rattle.scene_core.specs.Building.{node_of}
use Rattle.scene_core.specs.Deep.{linked}
use Rattle.scene_core.specs.Faults.{fault, ◌>>=◌}
use Rattle.scene_core.specs.Labels.{label_by}
use Rattle.scene_core.specs.Parts.{given, inner_nodes}
use Rattle.scene_core.specs.Shape.{declaration_entry, declared_by, is_rotation, numbered_fields}
use Rattle.scene_core.specs.Typed.{accepted, accepted_in_range, all_taken, at_line, declared_from, declared_value, default_of, dropped_rotation, field_value, in_range, no_rotation, typed_value, values_from, values_of}
use Rattle.laws_written.proofs.Inner.{bind_is, default_none, inner_if, line_is, range_is, scene_ok_is, typed_nodes}

-- ---- a value that was given

accepted_told : (a b : Bool) (x y : SceneFault) (k v : Option Value) → (if not a then Err x else (if b then Ok k else Err y)) ≡ Ok v → (a ≡ true) × (k ≡ v)
accepted_told false b x y k v h = absurd cc
accepted_told true false x y k v h = absurd cc
accepted_told true true x y k v h = (refl, scene_ok_is k v h)

-- it may be given there, and holds no nodes if the type holds none
pub record IsGiven (access : Access) (t : FieldType) (o : Option Value) : Type 0 where
  pub initial : is_initial access ≡ true
  pub plain : holds_nodes t ≡ false → linked o ≡ []

-- ---- what fields hold

abbrev right : FieldRowView → Bool
right e = not (is_initial e.access) || (is_rotation e.field_type || is_some e.default)

-- it holds no nodes if its type holds none, and nothing where the table has no default
pub record FitsRow (e : FieldRowView) (o : Option Value) : Type 0 where
  pub plain : holds_nodes e.field_type ≡ false → linked o ≡ []
  pub held : e.default ≡ None → o ≡ None

never : (i r : Bool) (d : Bool) → (not i || (r || d)) ≡ true → i ≡ true → r ≡ false → d ≡ false → ⊥
never true false false h i r d = absurd cc
never false r d h i e f = absurd cc
never true true d h i e f = absurd cc
never true false true h i e f = absurd cc

pub record FitsDeclared (d : Declaration ℕ) (o : Option Value) : Type 0 where
  pub plain : holds_nodes d.field_type ≡ false → linked o ≡ []
  pub held : is_initial d.access ≡ false → linked o ≡ []

not_both : (b : Bool) → b ≡ true → b ≡ false → ⊥
not_both true h k = absurd cc
not_both false h k = absurd cc

abbrev pub FitRows : List FieldRowView → List (Option Value) → Type 0
FitRows [] [] = Unit {0}
FitRows [] (v ∷ vs) = ⊥
FitRows (e ∷ es) [] = ⊥
FitRows (e ∷ es) (v ∷ vs) = FitsRow e v × FitRows es vs

abbrev pub FitDeclared : List (Declaration ℕ) → List (Option Value) → Type 0
FitDeclared [] [] = Unit {0}
FitDeclared [] (v ∷ vs) = ⊥
FitDeclared (d ∷ ds) [] = ⊥
FitDeclared (d ∷ ds) (v ∷ vs) = FitsDeclared d v × FitDeclared ds vs

both : (a b : Bool) → (a && b) ≡ true → (a ≡ true) × (b ≡ true)
both true b e = (refl, e)
both false b e = absurd cc

rows_right : (t : NodeType) → list_all right (rows t) ≡ true
rows_right Group = refl
rows_right _ = refl

-- the values of a node: those of its type, and behind them those that it declares
pub record HasValues (node : FlatNode) (n : SceneNode) : Type 0 where
  pub own : List (Option Value)
  pub more : List (Option Value)
  pub values : n.values ≡ own ++ more
  pub own_fit : FitRows (rows node.node_type) own
  pub more_fit : FitDeclared (numbered_fields node.node_type node.interface) more
  pub node_type : n.node_type ≡ node.node_type
  pub declared : n.declared ≡ map declared_by node.interface

abbrev new_node : FlatNode → Option (List ℕ) → List (Option Value) → SceneNode
new_node node label values =
    record { node_type = node.node_type; label = label; declared = map declared_by node.interface; values = values }

-- ---- as a scene is made

module _ (all : List FlatNode) (numbers : List ℕ) where
  given_is : (t : FieldType) (access : Access) (kind : Option NodeKind) (f : FlatField) (x : Value) (v : Option Value) → typed t f.value numbers ≡ Ok x
      → accepted all access kind f x ≡ Ok v → IsGiven access t v
  given_is t access kind f x v h k =
      let a = accepted_told (is_initial access) (all_taken kind all (inner_nodes f.value)) (fault NotInitial f.line) (fault BadChild f.line) (Some x) v k in
      record {
        initial = a.0;
        plain = λ p. ap linked (sym a.1)
            ∙ (typed_nodes numbers t f.value x h ∙ ap (λ (b : Bool). map (called numbers) (inner_if b (inner_nodes f.value))) p);
      }

  row_is : (e : FieldRowView) (o : Option FlatField) (v : Option Value) → right e ≡ true → field_value all numbers e o ≡ Ok v → FitsRow e v
  unfolding field_value
  row_is e None v k h =
      let is = scene_ok_is (default_of e) v h in
      record {
        plain = λ p. ap linked (sym is) ∙ default_none e.field_type e.default;
        held = λ d. sym is ∙ ap (λ (x : Option FieldDefault). option_and_then (default_value e.field_type) x) d;
      }
  row_is e (Some f) v k h = by_rotation (is_rotation e.field_type) refl h where
    by_rotation : (b : Bool) → is_rotation e.field_type ≡ b
        → (if b then dropped_rotation e f else (typed_value numbers e.field_type f >>= accepted_in_range all e f)) ≡ Ok v → FitsRow e v
    by_rotation true r h =
        let b = bind_is (at_line f.line (checked_rotation f.value (pointwise nat_eq e.name (codes "orientation")))) (λ _. Ok None) v h in
        let is = scene_ok_is None v b.2 in
        record { plain = λ p. ap linked (sym is); held = λ d. sym is }
    by_rotation false r h =
        let b = bind_is (typed_value numbers e.field_type f) (accepted_in_range all e f) v h in
        let g = given_is e.field_type e.access e.kind f b.0 v (line_is f.line (typed e.field_type f.value numbers) b.0 b.1)
        (range_is (in_range e.name b.0) (fault ValueRange f.line) (accepted all e.access e.kind f b.0) v b.2) in
        record {
          plain = g.plain;
          held = λ d. absurd (never (is_initial e.access) (is_rotation e.field_type) (is_some e.default) k g.initial r (ap is_some d));
        }

  declared_is : (d : Declaration ℕ) (o : Option FlatField) (v : Option Value) → declared_value all numbers d o ≡ Ok v → FitsDeclared d v
  unfolding declared_value
  declared_is d None v h = by_rotation (is_rotation d.field_type) h where
    by_rotation : (b : Bool) → (if b then Err (fault RotationUnsupported d.line) else Ok (default_of (declaration_entry d))) ≡ Ok v → FitsDeclared d v
    by_rotation true h = absurd cc
    by_rotation false h =
        let none : linked v ≡ [] =
        ap linked (sym (scene_ok_is (default_of (declaration_entry d)) v h)) ∙ default_none d.field_type (declaration_entry d).default in
        record { plain = λ p. none; held = λ p. none }
  declared_is d (Some f) v h = by_rotation (is_rotation d.field_type) h where
    by_rotation : (b : Bool) → (if b then no_rotation f else (typed_value numbers d.field_type f >>= accepted all d.access None f)) ≡ Ok v → FitsDeclared d v
    by_rotation true h =
        let b = bind_is (at_line f.line (checked_rotation f.value true)) (λ _. Err (fault RotationUnsupported f.line)) v h in absurd cc
    by_rotation false h =
        let b = bind_is (typed_value numbers d.field_type f) (accepted all d.access None f) v h in
        let g = given_is d.field_type d.access None f b.0 v (line_is f.line (typed d.field_type f.value numbers) b.0 b.1) b.2 in
        record { plain = g.plain; held = λ i. absurd (not_both (is_initial d.access) g.initial i) }

  rows_fit : (fields : List FlatField) (number : ℕ) (es : List FieldRowView) (made values : List (Option Value)) → list_all right es ≡ true
      → values_from all numbers fields number es made ≡ Ok values → (more : List (Option Value)) × (values ≡ made ++ more) × FitRows es more
  rows_fit fields number [] made values k h = ([], sym (scene_ok_is made values h) ∙ sym (append-nil made), tt)
  rows_fit fields number (e ∷ es) made values k h =
      let b = bind_is (field_value all numbers e (given fields number)) (λ v. values_from all numbers fields (number + 1) es (made ++ v ∷ [])) values h in
      let c = both (right e) (list_all right es) k in
      let r = rows_fit fields (number + 1) es (made ++ b.0 ∷ []) values c.1 b.2 in
      (b.0 ∷ r.0, r.1 ∙ append_assoc made (b.0 ∷ []) r.0, (row_is e (given fields number) b.0 c.0 b.1, r.2))

  declared_fit : (fields : List FlatField) (number : ℕ) (ds : List (Declaration ℕ)) (made values : List (Option Value))
      → declared_from all numbers fields number ds made ≡ Ok values → (more : List (Option Value)) × (values ≡ made ++ more) × FitDeclared ds more
  declared_fit fields number [] made values h = ([], sym (scene_ok_is made values h) ∙ sym (append-nil made), tt)
  declared_fit fields number (d ∷ ds) made values h =
      let b = bind_is (declared_value all numbers d (given fields number)) (λ v. declared_from all numbers fields (number + 1) ds (made ++ v ∷ [])) values h in
      let r = declared_fit fields (number + 1) ds (made ++ b.0 ∷ []) values b.2 in
      (b.0 ∷ r.0, r.1 ∙ append_assoc made (b.0 ∷ []) r.0, (declared_is d (given fields number) b.0 b.1, r.2))

  pub has_values : (is_label : List ℕ → Bool) (node : FlatNode) (n : SceneNode) → node_of all numbers is_label node ≡ Ok n → HasValues node n
  unfolding values_of
  has_values is_label node n h =
      let t : NodeType = node.node_type in
      let ds : List (Declaration ℕ) = numbered_fields t node.interface in
      let label : Option (List ℕ) = label_by is_label node.name in
      let a = bind_is (values_of all numbers node) (λ values. Ok (new_node node label values)) n h in
      let b = bind_is (values_from all numbers node.fields 0 (rows t) []) (declared_from all numbers node.fields (length (rows t)) ds) a.0 a.1 in
      let first = rows_fit node.fields 0 (rows t) [] b.0 (rows_right t) b.1 in
      let more = declared_fit node.fields (length (rows t)) ds b.0 a.0 b.2 in
      subst (HasValues node) (scene_ok_is (new_node node label a.0) n a.2) (record {
        own = b.0;
        more = more.0;
        values = more.1;
        own_fit = subst (FitRows (rows t)) (sym first.1) first.2;
        more_fit = more.2;
        node_type = refl;
        declared = refl;
      })
