-- What a node keeps of the values that it begins with fits.
use Rattle.std.proofs.Common.{◌≡◌, ℕ, zero, suc, ◌+◌, ◌≤◌, pos, Bool, true, false, not, ◌&&◌, ◌||◌, int_lt, nat_lt, if◌then◌else◌, List, [], ◌∷◌, ◌++◌, length, map, zip, codes, nat_eq, Option, Some, None, Result, Ok, Err, refl, sym, ap, subst, ◌∙◌, append_assoc, rules, arith, ltb-true}
use Rattle.std.specs.List.{list_all}
use Rattle.std.specs.Option.{option_and_then, option_map_or}
use Rattle.std.specs.Cmp.Lexicographic.{pointwise}
use Rattle.std.specs.Str.{IsAscii, is_utf8}
use Rattle.std.proofs.lemmas.Bool.{leb-true, ne_eqb}
use Rattle.std.proofs.lemmas.List.{append-nil}
use Rattle.std.proofs.lemmas.Str.{IsUtf8-from_ascii, is_utf8-from_IsUtf8}
use denote.Enum.Bare.{sameb, same_true}
use Rattle.byte_codec.proofs.Laws.{both, and_true}
use Rattle.x3d_values.specs.contracts.field_type.FieldType as types
use Rattle.x3d_values.specs.declared.default.FieldDefault.TheVariants.{Empty}
use Rattle.x3d_values.specs.declared.field_type.Access.{Access}
use Rattle.x3d_values.specs.declared.field_type.Access.TheVariants.{InputOnly, OutputOnly, InputOutput, InitializeOnly}
use Rattle.x3d_values.specs.declared.field_type.FieldType.{FieldType}
use Rattle.x3d_values.specs.declared.field_type.FieldType.TheVariants.{SFTime, SFString, SFNode, MFNode, SFRotation}
use Rattle.x3d_values.specs.declared.node_type.NodeKind.{NodeKind}
use Rattle.x3d_values.specs.declared.node_type.NodeType.{NodeType}
use Rattle.x3d_values.specs.declared.node_type.NodeType.TheVariants.{WorldInfo, Viewpoint, NavigationInfo, MetadataString, MetadataInteger, MetadataFloat, MetadataSet, TimeSensor, TouchSensor, PlaneSensor, BooleanSequencer, IntegerSequencer}
use Rattle.x3d_values.specs.declared.value.Value.{Value}
use Rattle.x3d_values.specs.declared.value.Value.TheVariants as value
use Rattle.x3d_values.specs.Access.{is_kept, is_initial, holds_nodes}
use Rattle.x3d_values.specs.Defaults.{default_value}
use Rattle.x3d_values.specs.Tables.{FieldRowView, rows}
use Rattle.snapshot_codec.specs.declared.kept.KeptField.TheVariants.{Absent, Typed}
use Rattle.snapshot_codec.specs.Fields.{has_bytes, is_interval, is_positive, kept_field, kept_fits}
use Rattle.snapshot_codec.specs.Values.{text, vector2, vector3, color, value_fits}
use Rattle.classic_tree.specs.declared.tree.Declaration.{Declaration}
use Rattle.proto_flat.specs.declared.flat.FlatNode.{FlatNode}
use Rattle.proto_flat.specs.declared.flat.FlatField.{FlatField}
use Rattle.scene_values.specs.declared.fault.ValueFault.{ValueFault}
use Rattle.scene_values.specs.Rotations.{checked_rotation}
use Rattle.scene_values.specs.Typing.{typed}
use Rattle.scene_core.specs.declared.fault.SceneFault.{SceneFault}
use Rattle.scene_core.specs.declared.fault.SceneFaultKind.TheVariants.{ValueRange, NotInitial, BadChild, RotationUnsupported}
use Rattle.scene_core.specs.Faults.{fault, ◌>>=◌}
use Rattle.scene_core.specs.Parts.{given, inner_nodes}
use Rattle.scene_core.specs.Scene.{kept}
use Rattle.scene_core.specs.Shape.{declaration_entry, declared_default, is_rotation}
use Rattle.scene_core.specs.Typed.{at_line, dropped_rotation, in_range, all_taken, accepted, accepted_in_range, typed_value, default_of, field_value, values_from}
use Rattle.scene_core.specs.Typed.{no_rotation, declared_value, declared_from}
use Rattle.laws_worlds.specs.Ranges.{values_fit, position_fits}
use Rattle.laws_worlds.specs.Openings.{is_countable}
use Rattle.laws_worlds.proofs.Routes.{never, ok_is}
use Rattle.laws_worlds.proofs.Typed.{typed_fits}

-- ---- steps that may fail

pub bind_is : {A B : Type 0} (r : Result A SceneFault) (k : A → Result B SceneFault) (b : B) → (r >>= k) ≡ Ok b → (a : A) × (r ≡ Ok a) × (k a ≡ Ok b)
bind_is (Err e) k b h = absurd cc
bind_is (Ok a) k b h = (a, refl, h)

pub line_is : {A : Type 0} (line : ℕ) (r : Result A ValueFault) (a : A) → at_line line r ≡ Ok a → r ≡ Ok a
line_is {A} line (Err e) a h = absurd cc
line_is {A} line (Ok x) a h = ap (λ (k : A). Ok k) (ok_is x a h)

-- ---- what the table says of each row

-- the default fits, and the interval is `cycleInterval`
abbrev row_right : NodeType → ℕ → FieldRowView → Bool
row_right t n e =
    kept_fits (kept_field t n e.access e.field_type) (kept e (default_of e))
    && (if is_interval t n then pointwise nat_eq e.name (codes "cycleInterval") && sameb types.the_type e.field_type SFTime else true)

abbrev rows_right : NodeType → ℕ → List FieldRowView → Bool
rows_right t n [] = true
rows_right t n (e ∷ es) = row_right t n e && rows_right t (n + 1) es

is_ascii : (bytes : List ℕ) → list_all (λ b. nat_lt b 128) bytes ≡ true → IsAscii bytes
is_ascii [] e i = omega arith
is_ascii (b ∷ bytes) e zero = ltb-true b 128 (both (nat_lt b 128) (list_all (λ b. nat_lt b 128) bytes) e).0
is_ascii (b ∷ bytes) e (suc i) = is_ascii bytes (both (nat_lt b 128) (list_all (λ b. nat_lt b 128) bytes) e).1 i

plain : (bytes : List ℕ) → list_all (λ b. nat_lt b 128) bytes ≡ true → is_utf8 bytes ≡ true
plain bytes e = is_utf8-from_IsUtf8 bytes (IsUtf8-from_ascii bytes (is_ascii bytes e))

all_right : (t : NodeType) → rows_right t 0 (rows t) ≡ true
unfolding kept_fits value_fits text vector2 vector3 color
all_right WorldInfo = rw (plain [] refl) refl
all_right Viewpoint = rw (plain [] refl) refl
all_right NavigationInfo = rw (plain (codes "EXAMINE") refl, plain (codes "ANY") refl) refl
all_right MetadataString = rw (plain [] refl) refl
all_right MetadataInteger = rw (plain [] refl) refl
all_right MetadataFloat = rw (plain [] refl) refl
all_right MetadataSet = rw (plain [] refl) refl
all_right TouchSensor = rw (plain [] refl) refl
all_right PlaneSensor = rw (plain [] refl) refl
all_right _ = refl

interval_is : (i p q : Bool) → (if i then p && q else true) ≡ true → i ≡ true → (p ≡ true) × (q ≡ true)
interval_is true p q h e = both p q h
interval_is false p q h e = absurd cc

-- ---- the value of a field

abbrev keeps : Access → FieldType → Option Value → Option Value
keeps access t v = if is_kept access t then v else None

none_fits : (t : NodeType) (n : ℕ) (a : Access) (ft : FieldType) → ft ≡ SFRotation → is_interval t n ≡ false → kept_fits (kept_field t n a ft) (keeps a ft None) ≡ true
unfolding kept_fits
none_fits t n InputOutput ft s i = rw (s, i) refl
none_fits t n InputOnly ft s i = refl
none_fits t n OutputOnly ft s i = refl
none_fits t n InitializeOnly ft s i = refl

typed_keeps : (ft : FieldType) (x : Value) → sameb types.the_type ft SFRotation ≡ false → (if has_bytes ft then value_fits ft x else true) ≡ true
    → kept_fits (if has_bytes ft then Typed ft else Absent) (if not (holds_nodes ft) then Some x else None) ≡ true
unfolding kept_fits
typed_keeps SFNode x s r = refl
typed_keeps MFNode x s r = refl
typed_keeps SFRotation x s r = absurd cc
typed_keeps _ x s r = r

abbrev Ready : Bool → FieldType → Value → Type 0
Ready true ft x = (ft ≡ SFTime) × ((value_fits SFTime x && is_positive x) ≡ true)
Ready false ft x = (if has_bytes ft then value_fits ft x else true) ≡ true

some_fits : (t : NodeType) (n : ℕ) (a : Access) (ft : FieldType) (x : Value) → sameb types.the_type ft SFRotation ≡ false → (i : Bool) → is_interval t n ≡ i → Ready i ft x → kept_fits (kept_field t n a ft) (keeps a ft (Some x)) ≡ true
unfolding kept_fits
some_fits t n InputOutput ft x s true i r = rw (i, r.0) r.1
some_fits t n InputOutput ft x s false i r = rw i (typed_keeps ft x s r)
some_fits t n InputOnly ft x s b i r = refl
some_fits t n OutputOnly ft x s b i r = refl
some_fits t n InitializeOnly ft x s b i r = refl

pub range_is : (a : Bool) (x : SceneFault) (r : Result (Option Value) SceneFault) (v : Option Value) → (if a then r else Err x) ≡ Ok v → (a ≡ true) × (r ≡ Ok v)
range_is true x r v h = (refl, h)
range_is false x r v h = absurd cc

tests_are : (b c : Bool) (y z : SceneFault) (k v : Option Value) → (if not b then Err y else (if c then Ok k else Err z)) ≡ Ok v → k ≡ v
tests_are false c y z k v h = absurd cc
tests_are true false y z k v h = absurd cc
tests_are true true y z k v h = ok_is k v h

pub accepted_is : (nodes : List FlatNode) (access : Access) (kind : Option NodeKind) (f : FlatField) (x : Value) (v : Option Value) → accepted nodes access kind f x ≡ Ok v → Some x ≡ v
accepted_is nodes access kind f x v h =
    tests_are (is_initial access) (all_taken kind nodes (inner_nodes f.value)) (fault NotInitial f.line) (fault BadChild f.line) (Some x) v h

positive : (name : List ℕ) (x : Value) → pointwise nat_eq name (codes "cycleInterval") ≡ true → in_range name x ≡ true → value_fits SFTime x ≡ true → is_positive x ≡ true
unfolding value_fits
positive name (value.SFTime z) p r f = then_positive (pointwise nat_eq name (codes "cycleInterval")) p r
  where
    then_positive : (b : Bool) → b ≡ true → (not b || int_lt (pos 0) z) ≡ true → int_lt (pos 0) z ≡ true
    then_positive true e h = h
    then_positive false e h = absurd cc
positive name _ p r f = absurd cc

abbrev Fits : NodeType → ℕ → FieldRowView → Option Value → Type 0
Fits t n e v = kept_fits (kept_field t n e.access e.field_type) (kept e v) ≡ true

abbrev countable : Option Value → Bool
countable v = option_map_or is_countable v true

value_fits_row : (t : NodeType) (n : ℕ) (e : FieldRowView) (nodes : List FlatNode) (numbers : List ℕ) (f : FlatField) (v : Option Value) → row_right t n e ≡ true → (x : Value) → typed_value numbers e.field_type f ≡ Ok x → accepted_in_range nodes e f x ≡ Ok v → sameb types.the_type e.field_type SFRotation ≡ false → countable v ≡ true → Fits t n e v
value_fits_row t n e nodes numbers f v r x h k s c =
    let a = range_is (in_range e.name x) (fault ValueRange f.line) (accepted nodes e.access e.kind f x) v k in
    let held : Some x ≡ v = accepted_is nodes e.access e.kind f x v a.1 in
    let small : is_countable x ≡ true = subst (λ (y : Option Value). countable y ≡ true) (sym held) c in
    let good = typed_fits e.field_type f.value numbers x (line_is f.line (typed e.field_type f.value numbers) x h) small in
    subst (λ (y : Option Value). Fits t n e y) held (some_fits t n e.access e.field_type x s (is_interval t n) refl (ready (is_interval t n) refl a.0 good))
  where
    ready : (i : Bool) → is_interval t n ≡ i → in_range e.name x ≡ true → (if has_bytes e.field_type then value_fits e.field_type x else true) ≡ true → Ready i e.field_type x
    ready false i q good = good
    ready true i q good =
        let p = interval_is (is_interval t n) (pointwise nat_eq e.name (codes "cycleInterval")) (sameb types.the_type e.field_type SFTime) (both (kept_fits (kept_field t n e.access e.field_type) (kept e (default_of e))) _ r).1 i in
        let is : e.field_type ≡ SFTime = same_true types.the_type (search rules) _ _ p.1 in
        let fit : value_fits SFTime x ≡ true = subst (λ (k : FieldType). (if has_bytes k then value_fits k x else true) ≡ true) is good in
        (is, and_true _ _ fit (positive e.name x p.0 q fit))

no_interval : (ft : FieldType) (i p : Bool) → ft ≡ SFRotation → (if i then p && sameb types.the_type ft SFTime else true) ≡ true → i ≡ false
no_interval ft false p s h = refl
no_interval ft true p s h = let b = both p (sameb types.the_type ft SFTime) h in let no : sameb types.the_type SFRotation SFTime ≡ true = subst (λ (k : FieldType). sameb types.the_type k SFTime ≡ true) s b.1 in absurd cc

row_fits : (t : NodeType) (n : ℕ) (e : FieldRowView) (nodes : List FlatNode) (numbers : List ℕ) (g : Option FlatField) (v : Option Value) → row_right t n e ≡ true → field_value nodes numbers e g ≡ Ok v → countable v ≡ true → Fits t n e v
unfolding field_value
row_fits t n e nodes numbers None v r h c =
    subst (λ (y : Option Value). Fits t n e y) (ok_is (default_of e) v h) (both (kept_fits (kept_field t n e.access e.field_type) (kept e (default_of e))) _ r).0
row_fits t n e nodes numbers (Some f) v r h c = by_type (sameb types.the_type e.field_type SFRotation) refl h
  where
    by_type : (b : Bool) → sameb types.the_type e.field_type SFRotation ≡ b → (if b then dropped_rotation e f else (typed_value numbers e.field_type f >>= accepted_in_range nodes e f)) ≡ Ok v → Fits t n e v
    by_type true s k =
        let b = bind_is (at_line f.line (checked_rotation f.value (pointwise nat_eq e.name (codes "orientation")))) (λ _. Ok None) v k in
        let is : e.field_type ≡ SFRotation = same_true types.the_type (search rules) _ _ s in
        let i = no_interval e.field_type (is_interval t n) (pointwise nat_eq e.name (codes "cycleInterval")) is (both (kept_fits (kept_field t n e.access e.field_type) (kept e (default_of e))) _ r).1 in
        subst (λ (y : Option Value). Fits t n e y) (ok_is None v b.2) (none_fits t n e.access e.field_type is i)
    by_type false s k =
        let b = bind_is (typed_value numbers e.field_type f) (accepted_in_range nodes e f) v k in
        value_fits_row t n e nodes numbers f v r b.0 b.1 b.2 s c

-- ---- the value of a field that a Script declares

-- the empty value of a type
empty_keeps : (ft : FieldType) → sameb types.the_type ft SFRotation ≡ false
    → kept_fits (if has_bytes ft then Typed ft else Absent) (if not (holds_nodes ft) then option_and_then (default_value ft) (if not (is_rotation ft) then Some Empty else None) else None) ≡ true
unfolding kept_fits value_fits text vector2 vector3 color
empty_keeps SFString s = rw (plain [] refl) refl
empty_keeps SFRotation s = absurd cc
empty_keeps _ s = refl

empty_fits : (t : NodeType) (n : ℕ) (a : Access) (ft : FieldType) → sameb types.the_type ft SFRotation ≡ false → is_interval t n ≡ false
    → kept_fits (kept_field t n a ft) (keeps a ft (option_and_then (default_value ft) (declared_default a ft))) ≡ true
unfolding kept_fits
empty_fits t n InputOutput ft s i = rw i (empty_keeps ft s)
empty_fits t n InputOnly ft s i = refl
empty_fits t n OutputOnly ft s i = refl
empty_fits t n InitializeOnly ft s i = refl

-- it is of its type: no rotation is declared, and no cycle
declared_fits : (t : NodeType) (n : ℕ) (d : Declaration ℕ) (nodes : List FlatNode) (numbers : List ℕ) (g : Option FlatField) (v : Option Value) → is_interval t n ≡ false
    → declared_value nodes numbers d g ≡ Ok v → countable v ≡ true → Fits t n (declaration_entry d) v
unfolding declared_value
declared_fits t n d nodes numbers None v i h c = by_type (is_rotation d.field_type) refl h
  where
    by_type : (b : Bool) → is_rotation d.field_type ≡ b → (if b then Err (fault RotationUnsupported d.line) else Ok (default_of (declaration_entry d))) ≡ Ok v → Fits t n (declaration_entry d) v
    by_type true s k = absurd cc
    by_type false s k = subst (λ (y : Option Value). Fits t n (declaration_entry d) y) (ok_is (default_of (declaration_entry d)) v k) (empty_fits t n d.access d.field_type s i)
declared_fits t n d nodes numbers (Some f) v i h c = by_type (is_rotation d.field_type) refl h
  where
    by_type : (b : Bool) → is_rotation d.field_type ≡ b → (if b then no_rotation f else (typed_value numbers d.field_type f >>= accepted nodes d.access None f)) ≡ Ok v → Fits t n (declaration_entry d) v
    by_type true s k =
        let b = bind_is (at_line f.line (checked_rotation f.value true)) (λ _. Err (fault RotationUnsupported f.line)) v k in
        never (fault RotationUnsupported f.line) v b.2
    by_type false s k =
        let b = bind_is (typed_value numbers d.field_type f) (accepted nodes d.access None f) v k in
        let held : Some b.0 ≡ v = accepted_is nodes d.access None f b.0 v b.2 in
        let small : is_countable b.0 ≡ true = subst (λ (y : Option Value). countable y ≡ true) (sym held) c in
        let good = typed_fits d.field_type f.value numbers b.0 (line_is f.line (typed d.field_type f.value numbers) b.0 b.1) small in
        subst (λ (y : Option Value). Fits t n (declaration_entry d) y) held (some_fits t n d.access d.field_type b.0 s false i good)

-- ---- the values of a node

-- `cycleInterval` is no declared field
no_cycle : (t : NodeType) (n : ℕ) → length (rows t) ≤ n → is_interval t n ≡ false
no_cycle TimeSensor n h =
    let least : 2 ≤ length (rows TimeSensor) = leb-true 2 (length (rows TimeSensor)) refl in
    ne_eqb n 1 (λ e. omega (arith, least, h, e))
no_cycle _ n h = refl

abbrev all_kept : List FieldRowView → List (Option Value) → List (Option Value)
all_kept es vs = map (λ p. kept p.0 p.1) (zip es vs)

module _ (nodes : List FlatNode) (numbers : List ℕ) where
  -- the values are those of the declared fields
  abbrev pub AreDeclared : List (Declaration ℕ) → List (Option Value) → Type 0
  AreDeclared [] [] = Unit {0}
  AreDeclared (d ∷ ds) (v ∷ vs) = (g : Option FlatField) × (declared_value nodes numbers d g ≡ Ok v) × (AreDeclared ds vs)
  AreDeclared [] (v ∷ vs) = ⊥
  AreDeclared (d ∷ ds) [] = ⊥

  pub are_declared : (fields : List FlatField) (n : ℕ) (ds : List (Declaration ℕ)) (done all : List (Option Value)) → declared_from nodes numbers fields n ds done ≡ Ok all
      → (rest : List (Option Value)) × (done ++ rest ≡ all) × (AreDeclared ds rest)
  are_declared fields n [] done all h = ([], append-nil done ∙ ok_is done all h, tt)
  are_declared fields n (d ∷ ds) done all h =
      let b = bind_is (declared_value nodes numbers d (given fields n)) (λ v. declared_from nodes numbers fields (n + 1) ds (done ++ v ∷ [])) all h in
      let r = are_declared fields (n + 1) ds (done ++ b.0 ∷ []) all b.2 in
      (b.0 ∷ r.0, sym (append_assoc done (b.0 ∷ []) r.0) ∙ r.1, (given fields n, b.1, r.2))

  declared_fit : (t : NodeType) (n : ℕ) (ds : List (Declaration ℕ)) (vs : List (Option Value)) → length (rows t) ≤ n → AreDeclared ds vs → list_all countable vs ≡ true
      → values_fit t n (map declaration_entry ds) (all_kept (map declaration_entry ds) vs) ≡ true
  declared_fit t n [] [] few a c = refl
  declared_fit t n [] (v ∷ vs) few a c = absurd a
  declared_fit t n (d ∷ ds) [] few a c = absurd a
  declared_fit t n (d ∷ ds) (v ∷ vs) few a c =
      let b = both (countable v) (list_all countable vs) c in
      and_true _ _ (declared_fits t n d nodes numbers a.0 v (no_cycle t n few) a.1 b.0) (declared_fit t (n + 1) ds vs (omega (arith, few)) a.2 b.1)

module _ (nodes : List FlatNode) (numbers : List ℕ) (fields : List FlatField) where
  -- the values are those of the rows, the first of which has that number
  abbrev pub AreValues : ℕ → List FieldRowView → List (Option Value) → Type 0
  AreValues n [] [] = Unit {0}
  AreValues n (e ∷ es) (v ∷ vs) = (field_value nodes numbers e (given fields n) ≡ Ok v) × (AreValues (n + 1) es vs)
  AreValues n [] (v ∷ vs) = ⊥
  AreValues n (e ∷ es) [] = ⊥

  pub are_values : (n : ℕ) (es : List FieldRowView) (done all : List (Option Value)) → values_from nodes numbers fields n es done ≡ Ok all → (rest : List (Option Value)) × (done ++ rest ≡ all) × (AreValues n es rest)
  are_values n [] done all h = ([], append-nil done ∙ ok_is done all h, tt)
  are_values n (e ∷ es) done all h =
      let b = bind_is (field_value nodes numbers e (given fields n)) (λ v. values_from nodes numbers fields (n + 1) es (done ++ v ∷ [])) all h in
      let r = are_values (n + 1) es (done ++ b.0 ∷ []) all b.2 in
      (b.0 ∷ r.0, sym (append_assoc done (b.0 ∷ []) r.0) ∙ r.1, (b.1, r.2))

  -- behind them come those of other rows
  kept_fit : (t : NodeType) (n : ℕ) (es others : List FieldRowView) (vs more : List (Option Value)) → rows_right t n es ≡ true → AreValues n es vs
      → ((m : ℕ) → n + length es ≤ m → list_all countable more ≡ true → values_fit t m others (all_kept others more) ≡ true) → list_all countable (vs ++ more) ≡ true
      → values_fit t n (es ++ others) (all_kept (es ++ others) (vs ++ more)) ≡ true
  kept_fit t n [] others [] more r a k c = k n (omega arith) c
  kept_fit t n [] others (v ∷ vs) more r a k c = absurd a
  kept_fit t n (e ∷ es) others [] more r a k c = absurd a
  kept_fit t n (e ∷ es) others (v ∷ vs) more r a k c =
      let b = both (row_right t n e) (rows_right t (n + 1) es) r in
      let d = both (countable v) (list_all countable (vs ++ more)) c in
      and_true _ _ (row_fits t n e nodes numbers (given fields n) v b.0 a.0 d.0) (kept_fit t (n + 1) es others vs more b.1 a.1 (λ m h. k m (omega (arith, h))) d.1)

  pub all_kept_fit : (t : NodeType) (vs : List (Option Value)) (ds : List (Declaration ℕ)) (more : List (Option Value)) → AreValues 0 (rows t) vs → AreDeclared nodes numbers ds more → list_all countable (vs ++ more) ≡ true
      → values_fit t 0 (rows t ++ map declaration_entry ds) (all_kept (rows t ++ map declaration_entry ds) (vs ++ more)) ≡ true
  all_kept_fit t vs ds more a d c =
      kept_fit t 0 (rows t) (map declaration_entry ds) vs more (all_right t) a (λ m h. declared_fit nodes numbers t m ds more (omega (arith, h)) d) c

pub no_position : (t : NodeType) → position_fits t (record { at = None }) ≡ true
no_position BooleanSequencer = refl
no_position IntegerSequencer = refl
no_position _ = refl
