-- A field, a declaration or a child is blamed exactly if a scene refuses it.
use Rattle.std.proofs.Common.{◌≡◌, ℕ, List, [], ◌∷◌, ◌++◌, map, Bool, true, false, not, ◌&&◌, Option, Some, None, Result, Ok, Err, slice_get, refl, ap, sym, ◌∙◌, if◌then◌else◌}
use Rattle.std.specs.Prelude.{is_none}
use Rattle.std.specs.List.{flat_map}
use Rattle.x3d_values.specs.declared.field_type.Access.{Access}
use Rattle.x3d_values.specs.declared.field_type.FieldType.{FieldType}
use Rattle.x3d_values.specs.declared.field_type.FieldType.TheVariants as type
use Rattle.x3d_values.specs.declared.node_type.NodeKind.{NodeKind}
use Rattle.x3d_values.specs.declared.node_type.NodeKind.TheVariants.{Child}
use Rattle.x3d_values.specs.declared.value.Value.{Value}
use Rattle.x3d_values.specs.declared.value.Value.TheVariants as held
use Rattle.x3d_values.specs.Access.{is_initial}
use Rattle.x3d_values.specs.Tables.{FieldRowView}
use Rattle.classic_tree.specs.declared.tree.RawValue.{RawValue}
use Rattle.classic_tree.specs.declared.tree.RawValue.TheVariants as raw
use Rattle.proto_flat.specs.declared.flat.FlatField.{FlatField}
use Rattle.proto_flat.specs.declared.flat.FlatNode.{FlatNode}
use Rattle.scene_values.specs.declared.fault.ValueFault.{ValueFault}
use Rattle.scene_values.specs.declared.fault.ValueFault.TheVariants as refused
use Rattle.scene_values.specs.Rotations.{checked_rotation}
use Rattle.scene_values.specs.Typing.{typed, called}
use Rattle.scene_core.specs.declared.fault.SceneFault.{SceneFault}
use Rattle.scene_core.specs.declared.fault.SceneFaultKind.TheVariants.{RotationUnsupported, NotInitial, BadChild, ValueRange}
use Rattle.scene_core.specs.Faults.{fault, ◌>>=◌}
use Rattle.scene_core.specs.Parts.{inner_nodes}
use Rattle.scene_core.specs.Shape.{is_rotation}
use Rattle.scene_core.specs.Typed.{accepted, accepted_in_range, all_taken, at_line, child, declared_value, dropped_rotation, given_value, in_range, line_of, no_rotation, takes, typed_value}
use Rattle.scene_faults.specs.Fields.{blames_in, inner_blames, itself, value_blames}
use Rattle.scene_faults.specs.Laws.{is_blameless, is_made, FieldsAreBlamed, DeclarationsAreBlamed, ChildrenAreBlamed}
use Rattle.scene_faults.specs.declared.blame.Blame.{Blame}

-- ---- results that are made or refused alike

abbrev outcome : {A : Type 0} → Result A SceneFault → Option SceneFault
outcome (Ok a) = None
outcome (Err e) = Some e

is_none_outcome : {A : Type 0} (r : Result A SceneFault) → is_made r ≡ is_none (outcome r)
is_none_outcome (Ok a) = refl
is_none_outcome (Err e) = refl

made_alike : {A B : Type 0} (r : Result A SceneFault) (s : Result B SceneFault) → outcome r ≡ outcome s → is_made r ≡ is_made s
made_alike r s e = is_none_outcome r ∙ ap (λ (o : Option SceneFault). is_none o) e ∙ sym (is_none_outcome s)

if_alike : {A B : Type 0} (b : Bool) (p q : Result A SceneFault) (r s : Result B SceneFault) → outcome p ≡ outcome r → outcome q ≡ outcome s
    → outcome (if b then p else q) ≡ outcome (if b then r else s)
if_alike true p q r s e f = e
if_alike false p q r s e f = f

-- whatever the value is
accepted_alike : (nodes : List FlatNode) (access : Access) (kind : Option NodeKind) (f : FlatField) (v w : Value)
    → outcome (accepted nodes access kind f v) ≡ outcome (accepted nodes access kind f w)
accepted_alike nodes access kind f v w =
    if_alike (not (is_initial access)) (Err (fault NotInitial f.line)) _ (Err (fault NotInitial f.line)) _ refl
    (if_alike (all_taken kind nodes (inner_nodes f.value)) (Ok (Some v)) (Err (fault BadChild f.line)) (Ok (Some w)) (Err (fault BadChild f.line)) refl refl)

-- whatever numbers the nodes have
value_alike : (next : Value → Result (Option Value) SceneFault) (numbers : List ℕ) (line : ℕ) (t : FieldType) (v : RawValue ℕ)
    → ((a b : Option ℕ) → outcome (next (held.SFNode a)) ≡ outcome (next (held.SFNode b)))
    → ((a b : List ℕ) → outcome (next (held.MFNode a)) ≡ outcome (next (held.MFNode b)))
    → outcome (at_line line (typed t v numbers) >>= next) ≡ outcome (at_line line (typed t v []) >>= next)
value_alike next numbers line type.SFNode raw.Null one many = refl
value_alike next numbers line type.SFNode (raw.Truth b) one many = refl
value_alike next numbers line type.SFNode (raw.String s) one many = refl
value_alike next numbers line type.SFNode (raw.Numbers ns) one many = refl
value_alike next numbers line type.SFNode (raw.Node n) one many = one (Some (called numbers n)) (Some (called [] n))
value_alike next numbers line type.SFNode raw.EmptyList one many = refl
value_alike next numbers line type.SFNode (raw.TruthList bs) one many = refl
value_alike next numbers line type.SFNode (raw.StringList ss) one many = refl
value_alike next numbers line type.SFNode (raw.NumberList ns) one many = refl
value_alike next numbers line type.SFNode (raw.NodeList ns) one many = refl
value_alike next numbers line type.MFNode raw.Null one many = refl
value_alike next numbers line type.MFNode (raw.Truth b) one many = refl
value_alike next numbers line type.MFNode (raw.String s) one many = refl
value_alike next numbers line type.MFNode (raw.Numbers ns) one many = refl
value_alike next numbers line type.MFNode (raw.Node n) one many = many (called numbers n ∷ []) (called [] n ∷ [])
value_alike next numbers line type.MFNode raw.EmptyList one many = refl
value_alike next numbers line type.MFNode (raw.TruthList bs) one many = refl
value_alike next numbers line type.MFNode (raw.StringList ss) one many = refl
value_alike next numbers line type.MFNode (raw.NumberList ns) one many = refl
value_alike next numbers line type.MFNode (raw.NodeList ns) one many = many (map (called numbers) ns) (map (called []) ns)
value_alike next numbers line _ v one many = refl

given_alike : (nodes : List FlatNode) (numbers : List ℕ) (e : FieldRowView) (f : FlatField) → outcome (given_value nodes numbers e f) ≡ outcome (given_value nodes [] e f)
given_alike nodes numbers e f =
    if_alike (is_rotation e.field_type) (dropped_rotation e f) _ (dropped_rotation e f) _ refl
    (value_alike (accepted_in_range nodes e f) numbers f.line e.field_type f.value
    (λ a b. accepted_alike nodes e.access e.kind f (held.SFNode a) (held.SFNode b))
    (λ a b. accepted_alike nodes e.access e.kind f (held.MFNode a) (held.MFNode b)))

-- ---- the blames for a fault

abbrev Told : {A : Type 0} → (SceneFault → List Blame) → Result A SceneFault → Type 0
Told blames r = is_blameless (blames_in blames r) ≡ is_made r

if_told : {A : Type 0} (blames : SceneFault → List Blame) (b : Bool) (p q : Result A SceneFault) → Told blames p → Told blames q → Told blames (if b then p else q)
if_told blames true p q h k = h
if_told blames false p q h k = k

itself_told : {A : Type 0} (r : Result A SceneFault) → Told itself r
itself_told (Ok a) = refl
itself_told (Err e) = refl

one_more : (b : Bool) (x : Blame) (xs : List Blame) (all : Bool) → is_blameless xs ≡ all → is_blameless ((if b then [] else x ∷ []) ++ xs) ≡ b && all
one_more true x xs all e = e
one_more false x xs all e = refl

inner_told : (nodes : List FlatNode) (kind : Option NodeKind) (line : ℕ) (ns : List ℕ)
    → is_blameless (flat_map (inner_blames nodes kind line) ns) ≡ all_taken kind nodes ns
inner_told nodes kind line [] = refl
inner_told nodes kind line (n ∷ ns) =
    one_more (takes kind (slice_get nodes n)) _ (flat_map (inner_blames nodes kind line) ns) (all_taken kind nodes ns) (inner_told nodes kind line ns)

accepted_told : (nodes : List FlatNode) (access : Access) (kind : Option NodeKind) (f : FlatField) (v : Value)
    → Told (value_blames nodes kind f) (accepted nodes access kind f v)
accepted_told nodes access kind f v =
    if_told (value_blames nodes kind f) (not (is_initial access)) (Err (fault NotInitial f.line)) _ refl
    (by (all_taken kind nodes (inner_nodes f.value)) refl)
  where
    by : (b : Bool) → all_taken kind nodes (inner_nodes f.value) ≡ b
        → Told (value_blames nodes kind f) (if b then Ok (Some v) else Err (fault BadChild f.line))
    by true e = refl
    by false e = inner_told nodes kind f.line (inner_nodes f.value) ∙ e

line_told : {X A : Type 0} (nodes : List FlatNode) (kind : Option NodeKind) (f : FlatField) (line : ℕ) (r : Result X ValueFault) (next : X → Result A SceneFault)
    → ((x : X) → Told (value_blames nodes kind f) (next x)) → Told (value_blames nodes kind f) (at_line line r >>= next)
line_told nodes kind f line (Ok x) next h = h x
line_told nodes kind f line (Err refused.WrongType) next h = refl
line_told nodes kind f line (Err refused.ValueRange) next h = refl
line_told nodes kind f line (Err refused.RotationUnsupported) next h = refl
line_told nodes kind f line (Err refused.Memory) next h = refl

range_told : (nodes : List FlatNode) (e : FieldRowView) (f : FlatField) (v : Value) → Told (value_blames nodes e.kind f) (accepted_in_range nodes e f v)
range_told nodes e f v =
    if_told (value_blames nodes e.kind f) (in_range e.name v) (accepted nodes e.access e.kind f v) (Err (fault ValueRange f.line))
    (accepted_told nodes e.access e.kind f v) refl

given_told : (nodes : List FlatNode) (e : FieldRowView) (f : FlatField) → Told (value_blames nodes e.kind f) (given_value nodes [] e f)
given_told nodes e f =
    if_told (value_blames nodes e.kind f) (is_rotation e.field_type) (dropped_rotation e f) _
    (line_told nodes e.kind f f.line _ (λ _. Ok None) (λ _. refl))
    (line_told nodes e.kind f f.line (typed e.field_type f.value []) (accepted_in_range nodes e f) (range_told nodes e f))

pub fields_are_blamed : FieldsAreBlamed
fields_are_blamed nodes numbers e f =
    given_told nodes e f ∙ made_alike (given_value nodes [] e f) (given_value nodes numbers e f) (sym (given_alike nodes numbers e f))

-- ---- declared fields

rotation_fails : {X : Type 0} (A : Type 0) (line : ℕ) (r : Result X ValueFault) (e : SceneFault) → is_made (at_line line r >>= λ (_ : X). (let s : Result A SceneFault = Err e in s)) ≡ false
rotation_fails A line (Ok x) e = refl
rotation_fails A line (Err why) e = refl

nothing_more : (xs : List Blame) → is_blameless (xs ++ []) ≡ is_blameless xs
nothing_more [] = refl
nothing_more (x ∷ xs) = refl

given_declared : (b : Bool) (x : Blame) (p turned q : Result (Option Value) SceneFault) → is_made turned ≡ false → outcome p ≡ outcome q
    → is_blameless (blames_in itself (if b then Ok None else p) ++ (if b then x ∷ [] else [])) ≡ is_made (if b then turned else q)
given_declared true x p turned q off e = sym off
given_declared false x p turned q off e = nothing_more (blames_in itself p) ∙ itself_told p ∙ made_alike p q e

empty_declared : {A : Type 0} (b : Bool) (x : Blame) (a : A) (e : SceneFault) → is_blameless (if b then x ∷ [] else []) ≡ is_made (if b then Err e else Ok a)
empty_declared true x a e = refl
empty_declared false x a e = refl

pub declarations_are_blamed : DeclarationsAreBlamed
unfolding declared_value
declarations_are_blamed nodes numbers d None = empty_declared (is_rotation d.field_type) _ _ (fault RotationUnsupported d.line)
declarations_are_blamed nodes numbers d (Some f) =
    given_declared (is_rotation d.field_type) _ (typed_value [] d.field_type f >>= accepted nodes d.access None f) (no_rotation f)
    (typed_value numbers d.field_type f >>= accepted nodes d.access None f)
    (rotation_fails (Option Value) f.line (checked_rotation f.value true) (fault RotationUnsupported f.line))
    (sym (value_alike (accepted nodes d.access None f) numbers f.line d.field_type f.value
    (λ a b. accepted_alike nodes d.access None f (held.SFNode a) (held.SFNode b))
    (λ a b. accepted_alike nodes d.access None f (held.MFNode a) (held.MFNode b))))

-- ---- children

one_child : {A : Type 0} (b : Bool) (x : Blame) (a : A) (e : SceneFault) → is_blameless (if b then [] else x ∷ []) ≡ is_made (if b then Ok a else Err e)
one_child true x a e = refl
one_child false x a e = refl

pub children_are_blamed : ChildrenAreBlamed
unfolding child
children_are_blamed nodes n = one_child (takes (Some Child) (slice_get nodes n)) _ (tt {0}) (fault BadChild (line_of (slice_get nodes n)))
