-- What the nodes of a world that fits keep is in the range of its field.
use Rattle.std.proofs.Common.{◌≡◌, ℕ, ℤ, zero, suc, ◌+◌, pos, Bool, true, false, not, ◌&&◌, ◌||◌, int_lt, nat_eq, codes, List, [], ◌∷◌, ◌++◌, map, Option, Some, slice_get, refl, ap, subst, ◌∙◌, arith}
use Rattle.std.specs.Cmp.Lexicographic.{pointwise}
use Rattle.std.specs.Option.{option_and_then}
use Rattle.byte_codec.proofs.Laws.{both}
use Rattle.share_law.proofs.Elements.{slice_get_left}
use Rattle.x3d_values.specs.declared.field_type.FieldType.{FieldType}
use Rattle.x3d_values.specs.declared.field_type.FieldType.TheVariants as types
use Rattle.x3d_values.specs.declared.fields.Fields.{Fields}
use Rattle.x3d_values.specs.declared.node_type.NodeType.{NodeType}
use Rattle.x3d_values.specs.declared.node_type.NodeType.TheVariants.{Group}
use Rattle.x3d_values.specs.declared.value.Value.{Value}
use Rattle.x3d_values.specs.declared.value.Value.TheVariants as value
use Rattle.x3d_values.specs.declared.vector.Vec3.{Vec3}
use Rattle.x3d_values.specs.Kept.{field_value}
use Rattle.x3d_values.specs.Tables.{FieldRowView, rows}
use Rattle.snapshot_codec.specs.declared.kept.KeptField.{KeptField}
use Rattle.snapshot_codec.specs.declared.kept.KeptField.TheVariants.{Absent, Interval, Typed}
use Rattle.snapshot_codec.specs.Fields.{is_positive, kept_field, kept_fits}
use Rattle.snapshot_codec.specs.Values.{value_fits}
use Rattle.sensor_plane.specs.declared.pointing.PointingState.{PointingState}
use Rattle.sensor_plane.specs.Pointing.{pointing_fits}
use Rattle.scene_core.specs.declared.scene.SceneNode.{SceneNode}
use Rattle.scene_core.specs.Scene.{shape_of}
use Rattle.scene_core.specs.Shape.{Shape}
use Rattle.scene_core.specs.Typed.{in_range, is_negative}
use Rattle.laws_worlds.specs.Ranges.{fields_fit, position_fits, values_fit}
use Rattle.laws_worlds.specs.Fits.{node_fits, nodes_fit, time_fits}
use Rattle.laws_written.specs.Ranged.{FittingAreInRange}

-- ---- values

or_left : (a b : Bool) → a ≡ true → (a || b) ≡ true
or_left true b h = refl
or_left false b h = absurd cc

or_right : (a b : Bool) → b ≡ true → (a || b) ≡ true
or_right true b h = refl
or_right false b h = h

-- the field of that name takes each value that is kept so
abbrev takes_all : List ℕ → FieldType → Bool
takes_all name types.SFTime = not (pointwise nat_eq name (codes "cycleInterval"))
takes_all name types.SFVec3f = not (pointwise nat_eq name (codes "size"))
takes_all name _ = true

abbrev takes_kept : List ℕ → KeptField → Bool
takes_kept name (Typed t) = takes_all name t
takes_kept name _ = true

time_ranged : (t : FieldType) (name : List ℕ) (x : ℤ) → takes_all name t ≡ true → value_fits t (value.SFTime x) ≡ true → in_range name (value.SFTime x) ≡ true
unfolding value_fits
time_ranged types.SFTime name x k h = or_left (not (pointwise nat_eq name (codes "cycleInterval"))) (int_lt (pos 0) x) k
time_ranged _ name x k h = absurd cc

size_ranged : (t : FieldType) (name : List ℕ) (x : Vec3) → takes_all name t ≡ true → value_fits t (value.SFVec3f x) ≡ true → in_range name (value.SFVec3f x) ≡ true
unfolding value_fits
size_ranged types.SFVec3f name x k h = or_left (not (pointwise nat_eq name (codes "size"))) (not (is_negative x)) k
size_ranged _ name x k h = absurd cc

typed_ranged : (t : FieldType) (name : List ℕ) (v : Value) → takes_all name t ≡ true → value_fits t v ≡ true → in_range name v ≡ true
typed_ranged t name (value.SFTime x) k h = time_ranged t name x k h
typed_ranged t name (value.SFVec3f x) k h = size_ranged t name x k h
typed_ranged t name _ k h = refl

positive_ranged : (name : List ℕ) (v : Value) → is_positive v ≡ true → in_range name v ≡ true
positive_ranged name (value.SFTime x) h = or_right (not (pointwise nat_eq name (codes "cycleInterval"))) (int_lt (pos 0) x) h
positive_ranged name _ h = absurd cc

kept_ranged : (kept : KeptField) (name : List ℕ) (v : Value) → takes_kept name kept ≡ true → kept_fits kept (Some v) ≡ true → in_range name v ≡ true
unfolding kept_fits
kept_ranged Absent name v k h = absurd cc
kept_ranged Interval name v k h = positive_ranged name v (both (value_fits types.SFTime v) (is_positive v) h).1
kept_ranged (Typed t) name v k h = typed_ranged t name v k h

-- ---- the table

abbrev row_takes : NodeType → ℕ → FieldRowView → Bool
row_takes t n e = takes_kept e.name (kept_field t n e.access e.field_type)

abbrev rows_take : NodeType → ℕ → List FieldRowView → Bool
rows_take t n [] = true
rows_take t n (e ∷ es) = row_takes t n e && rows_take t (n + 1) es

table_takes : (t : NodeType) → rows_take t 0 (rows t) ≡ true
table_takes Group = refl
table_takes _ = refl

some_is : {A : Type 0} (x y : A) → Some x ≡ Some y → x ≡ y
some_is x y e = cc

same_place : (n : ℕ) → n ≡ n + zero
same_place n = omega arith

next_place : (n k : ℕ) → n + 1 + k ≡ n + suc k
next_place n k = omega arith

take_at : (t : NodeType) (n : ℕ) (es : List FieldRowView) (number : ℕ) (e : FieldRowView) → rows_take t n es ≡ true → slice_get es number ≡ Some e → row_takes t (n + number) e ≡ true
take_at t n [] number e h at = absurd cc
take_at t n (row ∷ es) zero e h at =
    let b = both (row_takes t n row) (rows_take t (n + 1) es) h in
    subst (λ (m : ℕ). row_takes t m e ≡ true) (same_place n) (subst (λ (x : FieldRowView). row_takes t n x ≡ true) (some_is row e at) b.0)
take_at t n (row ∷ es) (suc number) e h at =
    let b = both (row_takes t n row) (rows_take t (n + 1) es) h in
    subst (λ (m : ℕ). row_takes t m e ≡ true) (next_place n number) (take_at t (n + 1) es number e b.1 at)

-- ---- the fields of a node

abbrev Keeps : NodeType → ℕ → FieldRowView → Value → Type 0
Keeps t n e v = kept_fits (kept_field t n e.access e.field_type) (Some v) ≡ true

keeps_at : (t : NodeType) (n : ℕ) (es : List FieldRowView) (vs : List (Option Value)) (number : ℕ) (e : FieldRowView) (v : Value)
    → values_fit t n es vs ≡ true → slice_get es number ≡ Some e → option_and_then (λ o. o) (slice_get vs number) ≡ Some v → Keeps t (n + number) e v
keeps_at t n [] vs number e v f at held = absurd cc
keeps_at t n (row ∷ es) [] number e v f at held = absurd cc
keeps_at t n (row ∷ es) (o ∷ vs) zero e v f at held =
    let b = both (kept_fits (kept_field t n row.access row.field_type) o) (values_fit t (n + 1) es vs) f in
    let here : Keeps t n row v = subst (λ (x : Option Value). kept_fits (kept_field t n row.access row.field_type) x ≡ true) held b.0 in
    subst (λ (m : ℕ). Keeps t m e v) (same_place n) (subst (λ (x : FieldRowView). Keeps t n x v) (some_is row e at) here)
keeps_at t n (row ∷ es) (o ∷ vs) (suc number) e v f at held =
    let b = both (kept_fits (kept_field t n row.access row.field_type) o) (values_fit t (n + 1) es vs) f in
    subst (λ (m : ℕ). Keeps t m e v) (next_place n number) (keeps_at t (n + 1) es vs number e v b.1 at held)

node_ranged : (s : Shape) (fields : Fields) (cycle : Option ℕ) (state : PointingState) (t : NodeType) (number : ℕ) (e : FieldRowView) (v : Value)
    → node_fits s fields cycle state ≡ true → s.node_type ≡ t → slice_get (rows t) number ≡ Some e → field_value fields number ≡ Some v → in_range e.name v ≡ true
node_ranged s fields cycle state t number e v f is row held =
    let own : slice_get (rows s.node_type) number ≡ Some e = ap (λ (u : NodeType). slice_get (rows u) number) is ∙ row in
    let b = both (fields_fit s.node_type s.declared fields) (time_fits s.node_type cycle && pointing_fits s.node_type state) f in
    let c = both (values_fit s.node_type 0 (rows s.node_type ++ s.declared) fields.values) (position_fits s.node_type fields.position) b.0 in
    kept_ranged (kept_field s.node_type (0 + number) e.access e.field_type) e.name v
    (take_at s.node_type 0 (rows s.node_type) number e (table_takes s.node_type) own)
    (keeps_at s.node_type 0 (rows s.node_type ++ s.declared) fields.values number e v c.0 (slice_get_left (rows s.node_type) s.declared number e own) held)

-- ---- nodes

nodes_ranged : (nodes : List SceneNode) (fs : List Fields) (cs : List (Option ℕ)) (us : List PointingState) → nodes_fit (map shape_of nodes) fs cs us ≡ true
    → (n number : ℕ) (t : NodeType) (e : FieldRowView) (fields : Fields) (v : Value) → slice_get (map (λ (m : SceneNode). m.node_type) nodes) n ≡ Some t
    → slice_get (rows t) number ≡ Some e → slice_get fs n ≡ Some fields → field_value fields number ≡ Some v → in_range e.name v ≡ true
nodes_ranged nodes [] cs us f n number t e fields v typed row at held = absurd cc
nodes_ranged [] (x ∷ fs) cs us f n number t e fields v typed row at held = absurd cc
nodes_ranged (s ∷ nodes) (x ∷ fs) [] us f n number t e fields v typed row at held = absurd cc
nodes_ranged (s ∷ nodes) (x ∷ fs) (c ∷ cs) [] f n number t e fields v typed row at held = absurd cc
nodes_ranged (s ∷ nodes) (x ∷ fs) (c ∷ cs) (u ∷ us) f zero number t e fields v typed row at held =
    let b = both (node_fits (shape_of s) x c u) (nodes_fit (map shape_of nodes) fs cs us) f in
    node_ranged (shape_of s) fields c u t number e v
    (subst (λ (y : Fields). node_fits (shape_of s) y c u ≡ true) (some_is x fields at) b.0) (some_is s.node_type t typed) row held
nodes_ranged (s ∷ nodes) (x ∷ fs) (c ∷ cs) (u ∷ us) f (suc n) number t e fields v typed row at held =
    let b = both (node_fits (shape_of s) x c u) (nodes_fit (map shape_of nodes) fs cs us) f in
    nodes_ranged nodes fs cs us b.1 n number t e fields v typed row at held

pub fitting_in_range : FittingAreInRange
fitting_in_range scene w fits = λ n field t e fields v typed row at held. nodes_ranged scene.nodes w.fields w.sensors w.pointing fits.nodes n field t e fields v typed row at held
