-- What is written of the fields of a scene may stand in them.
use Rattle.std.proofs.Common.{◌≡◌, ℕ, ◌<◌, Bool, true, false, not, ◌&&◌, if◌then◌else◌, List, Option, Some, None, Ok, length, slice_get, refl, sym, ap, subst, ◌∙◌, ◌⊎◌, inl, inr, arith}
use Rattle.std.specs.Prelude.{option_map}
use Rattle.std.specs.List.{AllByRecursion}
use Rattle.std.specs.Option.{option_and_then, option_or}
use Rattle.std.proofs.lemmas.Option.{slice_get-map}
use Rattle.x3d_values.specs.declared.default.FieldDefault.{FieldDefault}
use Rattle.x3d_values.specs.declared.field_type.Access.{Access}
use Rattle.x3d_values.specs.declared.field_type.Access.TheVariants as access
use Rattle.x3d_values.specs.declared.field_type.FieldType.{FieldType}
use Rattle.x3d_values.specs.declared.fields.Fields.{Fields}
use Rattle.x3d_values.specs.declared.value.Value.{Value}
use Rattle.x3d_values.specs.Access.{holds_nodes, is_exposed, is_initial, is_kept}
use Rattle.x3d_values.specs.Defaults.{default_value}
use Rattle.x3d_values.specs.Kept.{field_value}
use Rattle.x3d_values.specs.Tables.{FieldRowView, rows}
use Rattle.x3d_values.specs.Values.{nodes_of}
use Rattle.proto_flat.specs.declared.flat.Flat.{Flat}
use Rattle.scene_core.specs.declared.scene.SceneNode.{SceneNode}
use Rattle.scene_core.specs.Building.{scene_of}
use Rattle.scene_core.specs.Deep.{linked}
use Rattle.scene_core.specs.Scene.{SceneView, type_at, value_at}
use Rattle.scene_core.specs.Typed.{default_of}
use Rattle.scene_text.specs.Defaulted.{is_default}
use Rattle.scene_text.specs.Tree.{kept_value}
use Rattle.laws_written.proofs.Lower.{children_lower}
use Rattle.laws_written.proofs.NumberedScenes.{found}
use Rattle.laws_written.specs.Defaults.{DefaultsAreLeftOut}
use Rattle.laws_written.specs.Writable.{AreKeepable}
use Rattle.laws_written.proofs.Lists.{all_weaker}
use Rattle.laws_written.specs.Fields.{value_now, without_routes}
use Rattle.laws_written.specs.Exist.{AreInRange}
use Rattle.laws_written.proofs.Standing.{IsGivenTo, IsOfKind, row_by}

exposed_initial : (a : Access) (h : Bool) → (is_exposed a && h) ≡ true → is_initial a ≡ true
exposed_initial access.InputOnly h e = absurd cc
exposed_initial access.OutputOnly h e = absurd cc
exposed_initial access.InputOutput h e = refl
exposed_initial access.InitializeOnly h e = absurd cc

record IsKept (state : List Fields) (n field : ℕ) (a : Access) (v : Value) : Type 0 where
  pub fields : Fields
  pub at : slice_get state n ≡ Some fields
  pub held : field_value fields field ≡ Some v
  pub initial : is_initial a ≡ true

kept_at : (state : List Fields) (n field : ℕ) (a : Access) (t : FieldType) (v : Value) (b : Bool) → is_kept a t ≡ b → (o : Option Fields) → slice_get state n ≡ o
    → (if b then option_and_then (λ (fields : Fields). field_value fields field) o else None) ≡ Some v → IsKept state n field a v
kept_at state n field a t v false k o at h = absurd cc
kept_at state n field a t v true k None at h = absurd cc
kept_at state n field a t v true k (Some fields) at h = record { fields = fields; at = at; held = h; initial = exposed_initial a (not (holds_nodes t)) k }

not_both : (b : Bool) → b ≡ true → b ≡ false → ⊥
not_both true h k = absurd cc
not_both false h k = absurd cc

either : (P : Value → Type 0) (o p : Option Value) → ((v : Value) → o ≡ Some v → P v) → ((v : Value) → p ≡ Some v → P v) → (v : Value) → option_or o p ≡ Some v → P v
either P None p f g v h = g v h
either P (Some x) p f g v h = f v h

module _ (from : Flat) (s : SceneView) (state : List Fields) (is_scene : scene_of from ≡ Ok s) (kept : AreKeepable state) (ranged : AreInRange s state) (all_left : DefaultsAreLeftOut) where
  kept_is : (n k : ℕ) (a : Access) (t : FieldType) (v : Value) → kept_value (without_routes s state) n k a t ≡ Some v → IsKept state n k a v
  kept_is n k a t v h = kept_at state n k a t v (is_kept a t) refl (slice_get state n) refl h

  -- a value that isn't left out may stand in its field
  pub now_given : (n : ℕ) (node : SceneNode) → slice_get s.nodes n ≡ Some node → (k : ℕ) (e : FieldRowView) → slice_get (rows node.node_type) k ≡ Some e
      → (d : FieldDefault) → e.default ≡ Some d → (x : Value) → is_default d x ≡ false → value_now s state n k e.access e.field_type ≡ Some x → IsGivenTo s e x
  now_given n node is k e row d default x other h =
      either (λ (v : Value). is_default d v ≡ false → IsGivenTo s e v) (kept_value (without_routes s state) n k e.access e.field_type) (value_at s n k) by_state by_scene x h other where
        by_state : (v : Value) → kept_value (without_routes s state) n k e.access e.field_type ≡ Some v → is_default d v ≡ false → IsGivenTo s e v
        by_state v h other =
            let x = kept_is n k e.access e.field_type v h in
            let there : type_at s n ≡ Some node.node_type =
            slice_get-map (λ (m : SceneNode). m.node_type) s.nodes n ∙ ap (λ (o : Option SceneNode). option_map (λ (m : SceneNode). m.node_type) o) is in
            record {
              initial = x.initial;
              ranged = ranged n k node.node_type e x.fields v there row x.at x.held;
              kinds_are = subst (AllByRecursion (IsOfKind s e.kind)) (sym (kept n k x.fields v x.at x.held).1) tt;
            }

        by_given : (v : Value) → is_default d v ≡ false → (default_of e ≡ Some v) ⊎ IsGivenTo s e v → IsGivenTo s e v
        by_given v other (inl same) =
            let law : default_value e.field_type d ≡ Some v =
            ap (λ (o : Option FieldDefault). option_and_then (default_value e.field_type) o) (sym default) ∙ same in
            absurd (not_both (is_default d v) (all_left e.field_type d v law) other)
        by_given v other (inr g) = g

        by_scene : (v : Value) → value_at s n k ≡ Some v → is_default d v ≡ false → IsGivenTo s e v
        by_scene v h other = by_given v other (row_by from s is_scene n node is k e row v h)

  linked_all : (P : ℕ → Type 0) (o : Option Value) → AllByRecursion P (linked o) → (v : Value) → o ≡ Some v → AllByRecursion P (nodes_of v)
  linked_all P o h v e = subst (λ (x : Option Value). AllByRecursion P (linked x)) e h

  -- the nodes in it are nodes of the scene
  pub now_inside : (n : ℕ) → n < length s.nodes → (k : ℕ) (a : Access) (t : FieldType) (x : Value) → value_now s state n k a t ≡ Some x
      → AllByRecursion (IsOfKind s None) (nodes_of x)
  now_inside n l k a t =
      either (λ (v : Value). AllByRecursion (IsOfKind s None) (nodes_of v)) (kept_value (without_routes s state) n k a t) (value_at s n k)
      (λ v h. let x = kept_is n k a t v h in subst (AllByRecursion (IsOfKind s None)) (sym (kept n k x.fields v x.at x.held).1) tt)
      (linked_all (IsOfKind s None) (value_at s n k)
      (all_weaker (λ (m : ℕ). m < n) (IsOfKind s None) (λ m h. there m (omega (arith, h, l))) (linked (value_at s n k)) (children_lower from s is_scene n k))) where
        there : (m : ℕ) → m < length s.nodes → IsOfKind s None m
        there m h = let f = found s.nodes m h in record { node = f.0; at = f.1; goes = refl }
