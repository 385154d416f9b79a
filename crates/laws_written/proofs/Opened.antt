-- The nodes of a scene are writable, where the names and the texts of its document are good.
use Rattle.std.proofs.Common.{◌≡◌, ℕ, suc, ◌+◌, ◌<◌, pos, Bool, true, false, not, ◌&&◌, List, [], ◌∷◌, ◌++◌, codes, length, map, Option, Some, None, Result, Ok, Err, if◌then◌else◌, slice_get, refl, sym, ap, subst, ◌∙◌, ◌⊎◌, inl, inr, append_assoc, append-nil, nat_eq, ◌==◌}
use Rattle.std.specs.Cmp.Lexicographic.{pointwise}
use Rattle.std.specs.List.{AllByRecursion, list_all}
use Rattle.std.specs.Option.{option_and_then, option_map_or}
use Rattle.std.proofs.lemmas.List.{length-append, take-map}
use Rattle.x3d_values.specs.declared.default.FieldDefault.{FieldDefault}
use Rattle.x3d_values.specs.declared.default.FieldDefault.TheVariants as default
use Rattle.x3d_values.specs.declared.field_type.Access.{Access}
use Rattle.x3d_values.specs.declared.field_type.FieldType.{FieldType}
use Rattle.x3d_values.specs.declared.field_type.FieldType.TheVariants as types
use Rattle.x3d_values.specs.declared.node_type.NodeKind.{NodeKind}
use Rattle.x3d_values.specs.declared.node_type.NodeType.{NodeType}
use Rattle.x3d_values.specs.declared.node_type.NodeType.TheVariants.{Script}
use Rattle.x3d_values.specs.declared.value.Value.{Value}
use Rattle.x3d_values.specs.declared.value.Value.TheVariants as value
use Rattle.x3d_values.specs.Access.{is_initial}
use Rattle.x3d_values.specs.Defaults.{default_value}
use Rattle.x3d_values.specs.Tables.{FieldRowView, rows}
use Rattle.x3d_values.specs.Values.{empty_value}
use Rattle.classic_tree.specs.declared.tree.Declaration.{Declaration}
use Rattle.classic_tree.specs.declared.tree.RawValue.{RawValue}
use Rattle.classic_round_trip.specs.Spellable.{IsFreeName, IsNameOrNone}
use Rattle.proto_flat.specs.declared.flat.FlatField.{FlatField}
use Rattle.proto_flat.specs.declared.flat.FlatNode.{FlatNode}
use Rattle.scene_values.specs.declared.fault.ValueFault.{ValueFault}
use Rattle.scene_values.specs.Rotations.{checked_rotation}
use Rattle.scene_values.specs.Typing.{called, typed}
use Rattle.scene_core.specs.declared.fault.SceneFault.{SceneFault}
use Rattle.scene_core.specs.declared.fault.SceneFaultKind.TheVariants.{ValueRange, NotInitial, BadChild, RotationUnsupported}
use Rattle.scene_core.specs.declared.row.DeclaredField.{DeclaredField}
use Rattle.scene_core.specs.declared.scene.SceneNode.{SceneNode}
use Rattle.scene_core.specs.Building.{node_of}
use Rattle.scene_core.specs.Deep.{linked}
use Rattle.scene_core.specs.Faults.{fault, ◌>>=◌}
use Rattle.scene_core.specs.Labels.{label_by}
use Rattle.scene_core.specs.Parts.{given, inner_nodes}
use Rattle.scene_core.specs.Shape.{is_rotation, declared_by, declared_default, declaration_entry, numbered_fields, most_declared}
use Rattle.scene_core.specs.Typed.{at_line, dropped_rotation, in_range, all_taken, accepted, accepted_in_range, typed_value, given_value, default_of, field_value, values_from, no_rotation, declared_given, declared_empty, declared_value, declared_from, values_of}
use Rattle.laws_documents.specs.Named.{has_utf8, IsNamedNode}
use Rattle.laws_written.specs.Writable.{is_sound_or_none, HoldValues, IsWritableNode}
use Rattle.laws_written.proofs.Chains.{IsClosedNode}
use Rattle.laws_written.proofs.Defaulted.{fits_or_none, none_given, rows_fit}
use Rattle.laws_written.proofs.Lists.{all_append, all_map, all_weaker}
use Rattle.laws_written.proofs.Sound.{typed_sound, typed_closed}
use Rattle.laws_written.proofs.Steps.{bind_is, ok_is}
use Rattle.laws_written.proofs.Tests.{both, and_true}

-- ---- values that are given

abbrev Sound : Option Value → Type 0
Sound o = is_sound_or_none o ≡ true

line_is : {A : Type 0} (line : ℕ) (r : Result A ValueFault) (a : A) → at_line line r ≡ Ok a → r ≡ Ok a
line_is {A} line (Err e) a h = absurd cc
line_is {A} line (Ok x) a h = ap (λ (k : A). Ok k) (ok_is x a h)

tests_are : (a b : Bool) (x y : SceneFault) (k v : Option Value) → (if not a then Err x else (if b then Ok k else Err y)) ≡ Ok v → (a ≡ true) × (k ≡ v)
tests_are false b x y k v h = absurd cc
tests_are true false x y k v h = absurd cc
tests_are true true x y k v h = (refl, ok_is k v h)

range_is : (r : Bool) (x : SceneFault) (s : Result (Option Value) SceneFault) (v : Option Value) → (if r then s else Err x) ≡ Ok v → s ≡ Ok v
range_is true x s v h = h
range_is false x s v h = absurd cc

accepted_is : (nodes : List FlatNode) (access : Access) (kind : Option NodeKind) (f : FlatField) (x : Value) (v : Option Value)
    → accepted nodes access kind f x ≡ Ok v → Some x ≡ v
accepted_is nodes access kind f x v h =
    (tests_are (is_initial access) (all_taken kind nodes (inner_nodes f.value)) (fault NotInitial f.line) (fault BadChild f.line) (Some x) v h).1

utf8_of : (f : FlatField) (o p : Option FlatField) → has_utf8 f.value ≡ true
    → (p ≡ o → option_map_or (λ (f : FlatField). has_utf8 f.value) o true ≡ true) → (b : Bool) → (if b then Some f else p) ≡ o
    → option_map_or (λ (f : FlatField). has_utf8 f.value) o true ≡ true
utf8_of f o p u k true e = subst (λ (o : Option FlatField). option_map_or (λ (f : FlatField). has_utf8 f.value) o true ≡ true) e u
utf8_of f o p u k false e = k e

found_utf8 : (fields : List FlatField) (number : ℕ) → list_all (λ (f : FlatField). has_utf8 f.value) fields ≡ true
    → (o : Option FlatField) → given fields number ≡ o → option_map_or (λ (f : FlatField). has_utf8 f.value) o true ≡ true
found_utf8 [] number u o e = subst (λ (o : Option FlatField). option_map_or (λ (f : FlatField). has_utf8 f.value) o true ≡ true) e refl
found_utf8 (f ∷ fs) number u o e =
    let b = both (has_utf8 f.value) (list_all (λ (f : FlatField). has_utf8 f.value) fs) u in
    utf8_of f o (given fs number) b.0 (λ k. found_utf8 fs number b.1 o k) (f.number == number) e

-- ---- the values of a node: those of its type

-- by what is to be of each value: of none, of those of the document, and of defaults
module _ (P : Option Value → Type 0) (of_none : P None)
    (of_default : (t : FieldType) (d : Option FieldDefault) → fits_or_none d ≡ true → P (option_and_then (default_value t) d))
    (nodes : List FlatNode) (numbers : List ℕ)
    (of_typed : (t : FieldType) (r : RawValue ℕ) (v : Value) → has_utf8 r ≡ true → typed t r numbers ≡ Ok v → P (Some v))
    (fields : List FlatField) (texts : list_all (λ (f : FlatField). has_utf8 f.value) fields ≡ true) where
  given_good : (e : FieldRowView) (f : FlatField) (v : Option Value) → has_utf8 f.value ≡ true
      → given_value nodes numbers e f ≡ Ok v → P v
  given_good e f v u h = by_rotation (is_rotation e.field_type) h where
    by_rotation : (b : Bool) → (if b then dropped_rotation e f else (typed_value numbers e.field_type f >>= accepted_in_range nodes e f)) ≡ Ok v → P v
    by_rotation true h =
        let b = bind_is (at_line f.line (checked_rotation f.value (pointwise nat_eq e.name (codes "orientation")))) (λ _. Ok None) v h in
        subst P (ok_is None v b.2) of_none
    by_rotation false h =
        let b = bind_is (typed_value numbers e.field_type f) (accepted_in_range nodes e f) v h in
        let t = of_typed e.field_type f.value b.0 u (line_is f.line (typed e.field_type f.value numbers) b.0 b.1) in
        let r = range_is (in_range e.name b.0) (fault ValueRange f.line) (accepted nodes e.access e.kind f b.0) v b.2 in
        subst P (accepted_is nodes e.access e.kind f b.0 v r) t

  one_good : (e : FieldRowView) (o : Option FlatField) (v : Option Value) → option_map_or (λ (f : FlatField). has_utf8 f.value) o true ≡ true
      → fits_or_none e.default ≡ true → field_value nodes numbers e o ≡ Ok v → P v
  unfolding field_value
  one_good e None v u d h = subst P (ok_is (default_of e) v h) (of_default e.field_type e.default d)
  one_good e (Some f) v u d h = given_good e f v u h

  -- what was made, and what comes behind it
  record AreMade (made all : List (Option Value)) (count : ℕ) : Type 0 where
    pub more : List (Option Value)
    pub is : all ≡ made ++ more
    pub many : length more ≡ count
    pub good : AllByRecursion P more

  values_made : (number : ℕ) (es : List FieldRowView) (made all : List (Option Value)) → list_all (λ (e : FieldRowView). fits_or_none e.default) es ≡ true
      → values_from nodes numbers fields number es made ≡ Ok all → AreMade made all (length es)
  values_made number [] made all d h = record { more = []; is = sym (ok_is made all h) ∙ sym (append-nil made); many = refl; good = tt }
  values_made number (e ∷ es) made all d h =
      let b = bind_is (field_value nodes numbers e (given fields number)) (λ v. values_from nodes numbers fields (number + 1) es (made ++ v ∷ [])) all h in
      let g = both (fits_or_none e.default) (list_all (λ (e : FieldRowView). fits_or_none e.default) es) d in
      let m = values_made (number + 1) es (made ++ b.0 ∷ []) all g.1 b.2 in
      record {
        more = b.0 ∷ m.more;
        is = m.is ∙ append_assoc made (b.0 ∷ []) m.more;
        many = ap (λ n. suc n) m.many;
        good = (one_good e (given fields number) b.0 (found_utf8 fields number texts (given fields number) refl) g.0 b.1, m.good);
      }

  -- ---- and those that it declares

  abbrev IsHeld : Declaration ℕ → Option Value → Type 0
  IsHeld d o = is_initial d.access ≡ true → (v : Value) × (o ≡ Some v)

  abbrev AreHeld : List (Declaration ℕ) → List (Option Value) → Type 0
  AreHeld [] os = Unit {0}
  AreHeld (d ∷ ds) [] = ⊥
  AreHeld (d ∷ ds) (o ∷ os) = IsHeld d o × AreHeld ds os

  record IsDeclared (d : Declaration ℕ) (o : Option Value) : Type 0 where
    pub good : P o
    pub held : IsHeld d o

  given_declared : (d : Declaration ℕ) (f : FlatField) (v : Option Value) → has_utf8 f.value ≡ true → declared_given nodes numbers d f ≡ Ok v → IsDeclared d v
  given_declared d f v u h = by_rotation (is_rotation d.field_type) h where
    by_rotation : (b : Bool) → (if b then no_rotation f else (typed_value numbers d.field_type f >>= accepted nodes d.access None f)) ≡ Ok v → IsDeclared d v
    by_rotation true h =
        let b = bind_is (at_line f.line (checked_rotation f.value true)) (λ _. Err (fault RotationUnsupported f.line)) v h in absurd cc
    by_rotation false h =
        let b = bind_is (typed_value numbers d.field_type f) (accepted nodes d.access None f) v h in
        let t = of_typed d.field_type f.value b.0 u (line_is f.line (typed d.field_type f.value numbers) b.0 b.1) in
        let r = accepted_is nodes d.access None f b.0 v b.2 in
        record { good = subst P r t; held = λ i. (b.0, sym r) }

  empty_some : (t : FieldType) → is_rotation t ≡ false → (v : Value) × (empty_value t ≡ Some v)
  empty_some types.SFBool r = (value.SFBool false, refl)
  empty_some types.SFInt32 r = (value.SFInt32 (pos 0), refl)
  empty_some types.SFFloat r = (value.SFFloat (pos 0), refl)
  empty_some types.SFTime r = (value.SFTime (pos 0), refl)
  empty_some types.SFString r = (value.SFString [], refl)
  empty_some types.SFVec2f r = (value.SFVec2f (record { x = pos 0; y = pos 0 }), refl)
  empty_some types.SFVec3f r = (value.SFVec3f (record { x = pos 0; y = pos 0; z = pos 0 }), refl)
  empty_some types.SFColor r = (value.SFColor (record { red = pos 0; green = pos 0; blue = pos 0 }), refl)
  empty_some types.SFNode r = (value.SFNode None, refl)
  empty_some types.MFBool r = (value.MFBool [], refl)
  empty_some types.MFInt32 r = (value.MFInt32 [], refl)
  empty_some types.MFFloat r = (value.MFFloat [], refl)
  empty_some types.MFTime r = (value.MFTime [], refl)
  empty_some types.MFString r = (value.MFString [], refl)
  empty_some types.MFVec2f r = (value.MFVec2f [], refl)
  empty_some types.MFVec3f r = (value.MFVec3f [], refl)
  empty_some types.MFColor r = (value.MFColor [], refl)
  empty_some types.MFNode r = (value.MFNode [], refl)
  empty_some types.SFRotation r = absurd cc

  fits_if : (b : Bool) → fits_or_none (if b then Some default.Empty else None) ≡ true
  fits_if true = refl
  fits_if false = refl

  empty_held : (d : Declaration ℕ) (i : Bool) (r : Bool) → is_rotation d.field_type ≡ r → r ≡ false → i ≡ true
      → (v : Value) × (option_and_then (default_value d.field_type) (if i && not r then Some default.Empty else None) ≡ Some v)
  empty_held d true false q e h = empty_some d.field_type q
  empty_held d true true q e h = absurd cc
  empty_held d false r q e h = absurd cc

  none_declared : (d : Declaration ℕ) (v : Option Value) → declared_empty d ≡ Ok v → IsDeclared d v
  none_declared d v h = by_rotation (is_rotation d.field_type) refl h where
    by_rotation : (b : Bool) → is_rotation d.field_type ≡ b → (if b then Err (fault RotationUnsupported d.line) else Ok (default_of (declaration_entry d))) ≡ Ok v
        → IsDeclared d v
    by_rotation true q h = absurd cc
    by_rotation false q h =
        let same : default_of (declaration_entry d) ≡ v = ok_is (default_of (declaration_entry d)) v h in
        record {
          good = subst P same (of_default d.field_type (declared_default d.access d.field_type)
              (fits_if (is_initial d.access && not (is_rotation d.field_type))));
          held = λ i. let g = empty_held d (is_initial d.access) (is_rotation d.field_type) refl q i in (g.0, sym same ∙ g.1);
        }

  one_declared : (d : Declaration ℕ) (o : Option FlatField) (v : Option Value) → option_map_or (λ (f : FlatField). has_utf8 f.value) o true ≡ true
      → declared_value nodes numbers d o ≡ Ok v → IsDeclared d v
  unfolding declared_value
  one_declared d None v u h = none_declared d v h
  one_declared d (Some f) v u h = given_declared d f v u h

  record AreDeclared (ds : List (Declaration ℕ)) (made all : List (Option Value)) : Type 0 where
    pub more : List (Option Value)
    pub is : all ≡ made ++ more
    pub good : AllByRecursion P more
    pub held : AreHeld ds more

  declared_made : (number : ℕ) (ds : List (Declaration ℕ)) (made all : List (Option Value)) → declared_from nodes numbers fields number ds made ≡ Ok all
      → AreDeclared ds made all
  declared_made number [] made all h = record { more = []; is = sym (ok_is made all h) ∙ sym (append-nil made); good = tt; held = tt }
  declared_made number (d ∷ ds) made all h =
      let b = bind_is (declared_value nodes numbers d (given fields number)) (λ v. declared_from nodes numbers fields (number + 1) ds (made ++ v ∷ [])) all h in
      let g = one_declared d (given fields number) b.0 (found_utf8 fields number texts (given fields number) refl) b.1 in
      let m = declared_made (number + 1) ds (made ++ b.0 ∷ []) all b.2 in
      record {
        more = b.0 ∷ m.more;
        is = m.is ∙ append_assoc made (b.0 ∷ []) m.more;
        good = (g.good, m.good);
        held = (g.held, m.held);
      }

  -- ---- by their numbers

  behind : (xs : List (Option Value)) (y : Option Value) (ys : List (Option Value)) → slice_get (xs ++ y ∷ ys) (length xs) ≡ Some y
  behind [] y ys = refl
  behind (x ∷ xs) y ys = behind xs y ys

  one_held : (o : Option (Option Value)) (p : Option Value) (v : Value) → o ≡ Some p → p ≡ Some v → option_and_then (λ o. o) o ≡ Some v
  one_held o p v e f = ap (λ (o : Option (Option Value)). option_and_then (λ o. o) o) e ∙ f

  held_from : (all made more : List (Option Value)) (number : ℕ) (ds : List (Declaration ℕ)) → all ≡ made ++ more → length made ≡ number → AreHeld ds more
      → HoldValues all number (map declared_by ds)
  held_from all made more number [] e n h = tt
  held_from all made [] number (d ∷ ds) e n h = absurd h
  held_from all made (o ∷ os) number (d ∷ ds) e n h = (
    λ i. let g = h.0 i in
        let at : slice_get all number ≡ Some o = ap (λ (l : List (Option Value)). slice_get l number) e
        ∙ (ap (λ k. slice_get (made ++ o ∷ os) k) (sym n) ∙ behind made o os) in
        (g.0, one_held (slice_get all number) o g.0 at g.1),
    held_from all (made ++ o ∷ []) os (number + 1) ds (e ∙ sym (append_assoc made (o ∷ []) os)) (length-append made (o ∷ []) ∙ ap (λ k. k + 1) n) h.1,
  )

-- ---- values that are sound and hold nodes of the scene

abbrev IsGood : ℕ → Option Value → Type 0
IsGood count o = Sound o × AllByRecursion (λ (m : ℕ). m < count) (linked o)

sound_all : (count : ℕ) (os : List (Option Value)) → AllByRecursion (IsGood count) os → list_all is_sound_or_none os ≡ true
sound_all count [] h = refl
sound_all count (o ∷ os) h = and_true _ _ h.0.0 (sound_all count os h.1)

no_nodes : (count : ℕ) (t : FieldType) (d : Option FieldDefault) → AllByRecursion (λ (m : ℕ). m < count) (linked (option_and_then (default_value t) d))
no_nodes count t None = tt
no_nodes count t (Some default.Empty) = no_empty t where
  no_empty : (t : FieldType) → AllByRecursion (λ (m : ℕ). m < count) (linked (empty_value t))
  no_empty types.SFNode = tt
  no_empty _ = tt
no_nodes count t (Some default.True) = tt
no_nodes count t (Some _) = tt

-- ---- the node

label_kept : (is_label : List ℕ → Bool) (o : Option (List ℕ)) → IsNameOrNone o → IsNameOrNone (label_by is_label o)
label_kept is_label None h = tt
label_kept is_label (Some name) h = kept_if (is_label name) where
  kept_if : (b : Bool) → IsNameOrNone (if b then Some name else None)
  kept_if true = h
  kept_if false = tt

scripted : (t : NodeType) (ds : List (Declaration ℕ)) → (t ≡ Script) ⊎ (ds ≡ []) → (t ≡ Script) ⊎ (map declared_by ds ≡ [])
scripted t ds (inl e) = inl e
scripted t ds (inr e) = inr (ap (λ (l : List (Declaration ℕ)). map declared_by l) e)

abbrev new_node : FlatNode → Option (List ℕ) → List (Option Value) → SceneNode
new_node node label values =
    record { node_type = node.node_type; label = label; declared = map declared_by node.interface; values = values }

module _ (count : ℕ) (numbers : List ℕ) (low : (m : ℕ) → called numbers m < count) where
  good_typed : (t : FieldType) (r : RawValue ℕ) (v : Value) → has_utf8 r ≡ true → typed t r numbers ≡ Ok v → IsGood count (Some v)
  good_typed t r v u h = (typed_sound t r numbers v u h, typed_closed count numbers low t r v h)

  good_default : (t : FieldType) (d : Option FieldDefault) → fits_or_none d ≡ true → IsGood count (option_and_then (default_value t) d)
  good_default t d h = (none_given t d h, no_nodes count t d)

  -- a node that is writable, and whose values hold nodes of the scene
  pub record IsOpened (n : SceneNode) : Type 0 where
    pub writable : IsWritableNode n
    pub closed : IsClosedNode count n

  module _ (nodes : List FlatNode) (is_label : List ℕ → Bool) (node : FlatNode) (w : IsNamedNode node) where
    pub node_opened : (n : SceneNode) → node_of nodes numbers is_label node ≡ Ok n → IsOpened n
    unfolding values_of
    node_opened n h =
        let t : NodeType = node.node_type in
        let label : Option (List ℕ) = label_by is_label node.name in
        let ds : List (Declaration ℕ) = numbered_fields t node.interface in
        let a = bind_is (values_of nodes numbers node) (λ values. Ok (new_node node label values)) n h in
        let b = bind_is (values_from nodes numbers node.fields 0 (rows t) []) (declared_from nodes numbers node.fields (length (rows t)) ds) a.0 a.1 in
        let first = values_made (IsGood count) (refl, tt) good_default nodes numbers good_typed node.fields w.texts 0 (rows t) [] b.0 (rows_fit t) b.1 in
        let more = declared_made (IsGood count) (refl, tt) good_default nodes numbers good_typed node.fields w.texts (length (rows t)) ds b.0 a.0 b.2 in
        let many : length b.0 ≡ length (rows t) = ap (λ (l : List (Option Value)). length l) first.is ∙ first.many in
        let held = held_from (IsGood count) (refl, tt) good_default nodes numbers good_typed node.fields w.texts a.0 b.0 more.more (length (rows t)) ds more.is many more.held in
        let good : AllByRecursion (IsGood count) a.0 = subst (AllByRecursion (IsGood count)) (sym more.is)
        (all_append (IsGood count) b.0 more.more (subst (AllByRecursion (IsGood count)) (sym first.is) first.good) more.good) in
        subst IsOpened (ok_is (new_node node label a.0) n a.2) (record {
          writable = record {
            named = label_kept is_label node.name w.named;
            scripted = scripted t node.interface w.scripted;
            declared = all_map declared_by (λ (d : Declaration ℕ). IsFreeName d.name) (λ (d : DeclaredField). IsFreeName d.name) (λ d f. f) node.interface w.declared;
            sound = sound_all count a.0 good;
            held = subst (λ (l : List DeclaredField). HoldValues a.0 (length (rows t)) l) (sym (take-map declared_by (most_declared t) node.interface)) held;
          };
          closed = all_weaker (IsGood count) (λ (o : Option Value). AllByRecursion (λ (m : ℕ). m < count) (linked o)) (λ o g. g.1) a.0 good;
        })
