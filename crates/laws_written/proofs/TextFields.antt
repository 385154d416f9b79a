-- The fields of a node that stand in the text are spellable.
use Rattle.std.proofs.Common.{◌≡◌, ℕ, zero, suc, ◌+◌, Bool, true, false, not, List, [], ◌∷◌, Option, Some, None, if◌then◌else◌, slice_get, refl, sym, ap, subst, ◌∙◌, ◌⊎◌, inl, inr}
use Rattle.std.specs.List.{AllByRecursion, list_all}
use Rattle.std.specs.Option.{option_and_then, option_or}
use Rattle.x3d_values.specs.declared.default.FieldDefault.{FieldDefault}
use Rattle.x3d_values.specs.declared.field_type.Access.{Access}
use Rattle.x3d_values.specs.declared.field_type.Access.TheVariants.{InputOnly, OutputOnly, InputOutput, InitializeOnly}
use Rattle.x3d_values.specs.declared.field_type.FieldType.{FieldType}
use Rattle.x3d_values.specs.declared.fields.Fields.{Fields}
use Rattle.x3d_values.specs.declared.node_type.NodeType.{NodeType}
use Rattle.x3d_values.specs.declared.node_type.NodeType.TheVariants.{Script}
use Rattle.x3d_values.specs.declared.value.Value.{Value}
use Rattle.x3d_values.specs.Access.{is_initial, is_kept}
use Rattle.x3d_values.specs.Kept.{field_value}
use Rattle.x3d_values.specs.Names.{node_type_name}
use Rattle.x3d_values.specs.Tables.{FieldRowView}
use Rattle.x3d_values.specs.Values.{nodes_of}
use Rattle.classic_tree.specs.declared.tree.Given.TheVariants as given
use Rattle.classic_tree.specs.declared.tree.NodeText.{NodeText}
use Rattle.classic_tree.specs.declared.tree.ProtoText.{ProtoText}
use Rattle.classic_text.specs.Spells.{IsEvent, IsStored}
use Rattle.classic_round_trip.specs.Spellable.{IsFreeName, IsSpellableItem}
use Rattle.scene_core.specs.declared.row.DeclaredField.{DeclaredField}
use Rattle.scene_core.specs.declared.scene.SceneNode.{SceneNode}
use Rattle.scene_core.specs.Deep.{linked}
use Rattle.scene_core.specs.Scene.{value_at}
use Rattle.scene_text.specs.Defaulted.{is_default}
use Rattle.scene_text.specs.Tree.{PlanView, Makes, Shown, Plain, Declared, kept_value, present_value, shown_if, shown_field, shown_from, declared_from, value_tree, field_tree}
use Rattle.laws_written.specs.Values.{is_sound}
use Rattle.laws_written.specs.Writable.{is_sound_or_none, HoldValues, AreKeepable}
use Rattle.laws_written.proofs.Lists.{all_append, some_is}
use Rattle.laws_written.proofs.TextNames.{IsFieldName}
use Rattle.laws_written.proofs.Numbers.{value_spelled}
use Rattle.laws_written.proofs.Tests.{both}

-- ---- what stands

-- a sound value, by what is to be of the nodes in it
abbrev pub IsFit : (ℕ → Type 0) → Value → Type 0
IsFit Q v = (is_sound v ≡ true) × AllByRecursion Q (nodes_of v)

abbrev pub IsFitHeld : (ℕ → Type 0) → Access → Option Value → Type 0
IsFitHeld Q access None = IsEvent access
IsFitHeld Q access (Some v) = IsStored access × IsFit Q v

abbrev pub IsFitShown : (ℕ → Type 0) → NodeType → Shown → Type 0
IsFitShown Q t (Plain name v) = IsFieldName name × IsFit Q v
IsFitShown Q t (Declared d held) = (t ≡ Script) × IsFreeName d.name × IsFitHeld Q d.access held

module _ (Inner : NodeText → Type 0) (Proto : ProtoText → Type 0) (tree : Makes ℕ NodeText) (Q : ℕ → Type 0)
    (k : (seen : List Bool) (n : ℕ) → Q n → Inner (tree seen n).made) (t : NodeType) where
  pub field_spelled : (seen : List Bool) (f : Shown) → IsFitShown Q t f → IsSpellableItem Inner Proto (node_type_name t) (field_tree tree seen f).made
  field_spelled seen (Plain name v) h =
      inl (record {
        at = 0;
        name = name;
        value = given.Value (value_tree tree seen v).made;
        is = refl;
        named = h.0.0;
        other = h.0.1;
        given = value_spelled Inner tree Q k seen v h.1.0 h.1.1;
      })
  field_spelled seen (Declared d None) h =
      inr (inr (inr (record {
        scripted = ap node_type_name h.0;
        declaration = record { line = 0; access = d.access; field_type = d.field_type; name = d.name; given = given.Nothing };
        is = refl;
        spellable = (h.1, h.2);
      })))
  field_spelled seen (Declared d (Some v)) h =
      inr (inr (inr (record {
        scripted = ap node_type_name h.0;
        declaration = record {
          line = 0;
          access = d.access;
          field_type = d.field_type;
          name = d.name;
          given = given.Value (value_tree tree seen v).made;
        };
        is = refl;
        spellable = (h.1, (h.2.0, value_spelled Inner tree Q k seen v h.2.1.0 h.2.1.1));
      })))

-- ---- present values

told_present : (a b : Option Value) (x : Value) → option_or a b ≡ Some x → (a ≡ Some x) ⊎ (b ≡ Some x)
told_present None b x e = inr e
told_present (Some y) b x e = inl e

present_some : (a b : Option Value) (y : Value) → b ≡ Some y → (x : Value) × (option_or a b ≡ Some x)
present_some None b y e = (y, e)
present_some (Some x) b y e = (x, refl)

told_kept : (b : Bool) (o : Option Fields) (number : ℕ) (x : Value) → (if b then option_and_then (λ (fields : Fields). field_value fields number) o else None) ≡ Some x
    → (fields : Fields) × (o ≡ Some fields) × (field_value fields number ≡ Some x)
told_kept false o number x e = absurd cc
told_kept true None number x e = absurd cc
told_kept true (Some fields) number x e = (fields, refl, e)

told_value : (values : List (Option Value)) (number : ℕ) (x : Value) → list_all is_sound_or_none values ≡ true
    → option_and_then (λ o. o) (slice_get values number) ≡ Some x → is_sound x ≡ true
told_value [] number x s e = absurd cc
told_value (None ∷ vs) zero x s e = absurd cc
told_value (Some v ∷ vs) zero x s e = subst (λ (y : Value). is_sound y ≡ true) (some_is v x e) (both (is_sound v) (list_all is_sound_or_none vs) s).0
told_value (v ∷ vs) (suc number) x s e = told_value vs number x (both (is_sound_or_none v) (list_all is_sound_or_none vs) s).1 e

-- by what is to be of the nodes in the fields of a node
module _ (p : PlanView) (n : ℕ) (node : SceneNode) (Q : ℕ → Type 0) (kept : AreKeepable p.state)
    (is : slice_get p.scene.nodes n ≡ Some node) (sound : list_all is_sound_or_none node.values ≡ true)
    (inside : (number : ℕ) → AllByRecursion Q (linked (value_at p.scene n number))) where
  value_is : (number : ℕ) → value_at p.scene n number ≡ option_and_then (λ o. o) (slice_get node.values number)
  value_is number =
      ap (λ (o : Option SceneNode). option_and_then (λ (m : SceneNode). option_and_then (λ v. v) (slice_get m.values number)) o) is

  fit_opening : (number : ℕ) (x : Value) → value_at p.scene n number ≡ Some x → IsFit Q x
  fit_opening number x e = (
    told_value node.values number x sound (sym (value_is number) ∙ e),
    subst (λ (o : Option Value). AllByRecursion Q (linked o)) e (inside number),
  )

  fit_kept : (number : ℕ) (access : Access) (ft : FieldType) (x : Value) → kept_value p n number access ft ≡ Some x → IsFit Q x
  fit_kept number access ft x e =
      let f = told_kept (is_kept access ft) (slice_get p.state n) number x e in
      let g = kept n number f.0 x f.1 f.2 in
      (g.0, subst (λ (ns : List ℕ). AllByRecursion Q ns) (sym g.1) tt)

  fit_either : (number : ℕ) (access : Access) (ft : FieldType) (x : Value) → (kept_value p n number access ft ≡ Some x) ⊎ (value_at p.scene n number ≡ Some x)
      → IsFit Q x
  fit_either number access ft x (inl h) = fit_kept number access ft x h
  fit_either number access ft x (inr h) = fit_opening number x h

  fit_present : (number : ℕ) (access : Access) (ft : FieldType) (x : Value) → present_value p n number access ft ≡ Some x → IsFit Q x
  fit_present number access ft x e =
      fit_either number access ft x (told_present (kept_value p n number access ft) (value_at p.scene n number) x e)

  -- ---- the fields of a type

  shown_one : (t : NodeType) (name : List ℕ) (b : Bool) (v : Value) → IsFieldName name → IsFit Q v → AllByRecursion (IsFitShown Q t) (shown_if b name v)
  shown_one t name true v f g = ((f, g), tt)
  shown_one t name false v f g = tt

  shown_fit : (t : NodeType) (name : List ℕ) (default : Option FieldDefault) (o : Option Value) → IsFieldName name
      → ((x : Value) → o ≡ Some x → IsFit Q x) → AllByRecursion (IsFitShown Q t) (shown_field name default o)
  shown_fit t name (Some d) (Some v) f k = shown_one t name (not (is_default d v)) v f (k v refl)
  shown_fit t name (Some d) None f k = tt
  shown_fit t name None o f k = tt

  pub shown_all : (t : NodeType) (number : ℕ) (es : List FieldRowView) → AllByRecursion (λ (e : FieldRowView). IsFieldName e.name) es
      → AllByRecursion (IsFitShown Q t) (shown_from p n number es)
  shown_all t number [] h = tt
  shown_all t number (e ∷ es) h =
      all_append (IsFitShown Q t) (shown_field e.name e.default (present_value p n number e.access e.field_type)) (shown_from p n (number + 1) es)
      (shown_fit t e.name e.default (present_value p n number e.access e.field_type) h.0 (λ x. fit_present number e.access e.field_type x))
      (shown_all t (number + 1) es h.1)

  -- ---- the fields that are declared

  held_fit : (number : ℕ) (d : DeclaredField) (access : Access) (o : Option Value) → ((x : Value) → o ≡ Some x → IsFit Q x)
      → (is_initial access ≡ true → (x : Value) × (o ≡ Some x)) → IsFitHeld Q access (if is_initial access then o else None)
  held_fit number d InputOnly o k h = inl refl
  held_fit number d OutputOnly o k h = inr refl
  held_fit number d InputOutput o k h = let s = h refl in subst (IsFitHeld Q InputOutput) (sym s.1) (inl refl, k s.0 s.1)
  held_fit number d InitializeOnly o k h = let s = h refl in subst (IsFitHeld Q InitializeOnly) (sym s.1) (inr refl, k s.0 s.1)

  pub declared_all : (t : NodeType) (number : ℕ) (ds : List DeclaredField) → t ≡ Script → AllByRecursion (λ (d : DeclaredField). IsFreeName d.name) ds
      → HoldValues node.values number ds → AllByRecursion (IsFitShown Q t) (declared_from p n number ds)
  declared_all t number [] e names h = tt
  declared_all t number (d ∷ ds) e names h = (
    (
      e,
      names.0,
      held_fit number d d.access (present_value p n number d.access d.field_type) (λ x. fit_present number d.access d.field_type x)
          (λ i. let s = h.0 i in
          present_some (kept_value p n number d.access d.field_type) (value_at p.scene n number) s.0 (value_is number ∙ s.1)),
    ),
    declared_all t (number + 1) ds e names.1 h.1,
  )
