-- The routes of a document join fields of nodes of its scene.
use Rattle.std.proofs.Common.{◌≡◌, ℕ, suc, ◌+◌, ◌-◌, ◌<◌, Bool, true, false, List, [], ◌∷◌, ◌++◌, codes, length, take, drop, nat_lt, nat_eq, Option, Some, None, Result, Ok, Err, if◌then◌else◌, slice_get, refl, ap, subst, arith, ltb-true}
use Rattle.std.specs.Cmp.Lexicographic.{pointwise}
use Rattle.std.specs.List.{AllByRecursion, fold, list_any, starts_with, ends_with}
use Rattle.std.specs.Option.{option_and_then, option_or}
use denote.Enum.Bare.{sameb}
use Rattle.x3d_values.specs.contracts.field_type.FieldType as types
use Rattle.x3d_values.specs.declared.field_type.FieldType.TheVariants.{SFRotation}
use Rattle.x3d_values.specs.declared.field_type.Access.{Access}
use Rattle.x3d_values.specs.declared.table.FieldRow.{FieldRow}
use Rattle.x3d_values.specs.Access.{is_exposed, receives, sends, holds_nodes}
use Rattle.x3d_values.specs.Aliases.{set_alias, changed_alias}
use Rattle.x3d_values.specs.Tables.{FieldRowView, numbered, row_named}
use Rattle.proto_flat.specs.declared.flat.Flat.{Flat}
use Rattle.proto_flat.specs.declared.flat.FlatEnd.{FlatEnd}
use Rattle.proto_flat.specs.declared.flat.FlatEnd.TheVariants.{At, NoNode, NoField, WrongWay}
use Rattle.proto_flat.specs.declared.flat.FlatRoute.{FlatRoute}
use Rattle.scene_core.specs.declared.scene.Route.{Route}
use Rattle.scene_core.specs.Scene.{SceneView, rows_at, number_of}
use Rattle.route_core.specs.Names.{no_rotation, if_exposed, exact, exposed, target_field, source_field}
use Rattle.route_core.specs.Ends.{node_of, field_at, usable, output_named, input_named, source_of, target_of, joined, joined_ends, route_of}
use Rattle.route_core.specs.Resolved.{at_line, before_others, each_of, same_route, added, firsts, firsts_of, resolved}
use Rattle.route_core.specs.declared.fault.RouteFault.{RouteFault}
use Rattle.route_core.specs.declared.fault.RouteFaultKind.{RouteFaultKind}
use Rattle.route_core.specs.declared.fault.RouteFaultKind.TheVariants.{NodeEvent, NotInput, NotOutput, TypesDiffer}
use Rattle.route_core.proofs.Repeats.{limited_is}
use Rattle.laws_written.specs.Writable.{IsEnd, IsWritableRoute}
use Rattle.laws_written.proofs.Lists.{all_push}

-- ---- the row of a name

record HasRow (n : ℕ) (es : List FieldRowView) (row : FieldRow) : Type 0 where
  pub index : ℕ
  pub entry : FieldRowView
  pub number : row.number ≡ n + index
  pub is : slice_get es index ≡ Some entry

abbrev some : {A : Type 0} → A → Option A
some x = Some x

row_is : (a b : FieldRow) → some a ≡ some b → a ≡ b
row_is a b e = cc

row_by : (n : ℕ) (x : FieldRowView) (xs : List FieldRowView) (row : FieldRow) (o : Option FieldRow) → (o ≡ Some row → HasRow (n + 1) xs row) → (b : Bool)
    → (if b then Some (numbered n x) else o) ≡ Some row → HasRow n (x ∷ xs) row
row_by n x xs row o k true h =
    let same : n ≡ row.number = ap (λ (r : FieldRow). r.number) (row_is (numbered n x) row h) in
    record { index = 0; entry = x; number = omega (arith, same); is = refl }
row_by n x xs row o k false h =
    let f = k h in record { index = suc f.index; entry = f.entry; number = omega (arith, f.number); is = f.is }

row_found : (n : ℕ) (name : List ℕ) (es : List FieldRowView) (row : FieldRow) → row_named n name es ≡ Some row → HasRow n es row
row_found n name [] row e = absurd cc
row_found n name (x ∷ xs) row e =
    row_by n x xs row (row_named (n + 1) name xs) (λ h. row_found (n + 1) name xs row h) (pointwise nat_eq name x.name) e

module _ (es : List FieldRowView) where
  abbrev Has : FieldRow → Type 0
  Has row = HasRow 0 es row

  unless : (b : Bool) (r row : FieldRow) → (if b then None else Some r) ≡ Some row → r ≡ row
  unless true r row e = absurd cc
  unless false r row e = row_is r row e

  when : (b : Bool) (r row : FieldRow) → (if b then Some r else None) ≡ Some row → r ≡ row
  when true r row e = row_is r row e
  when false r row e = absurd cc

  and_then : (f : FieldRow → Option FieldRow) → ((r row : FieldRow) → f r ≡ Some row → r ≡ row) → (o : Option FieldRow) (row : FieldRow)
      → option_and_then f o ≡ Some row → o ≡ Some row
  and_then f k None row e = absurd cc
  and_then f k (Some r) row e = ap (λ (x : FieldRow). Some x) (k r row e)

  exact_has : (name : List ℕ) (row : FieldRow) → exact es name ≡ Some row → Has row
  exact_has name row e =
      row_found 0 name es row
      (and_then no_rotation (λ r row h. unless (sameb types.the_type r.field_type SFRotation) r row h) (row_named 0 name es) row e)

  exposed_has : (name : List ℕ) (row : FieldRow) → exposed es name ≡ Some row → Has row
  exposed_has name row e = exact_has name row (and_then if_exposed (λ r row h. when (is_exposed r.access) r row h) (exact es name) row e)

  if_has : (b : Bool) (name : List ℕ) (row : FieldRow) → (if b then exposed es name else None) ≡ Some row → Has row
  if_has true name row e = exposed_has name row e
  if_has false name row e = absurd cc

  either_has : (a b : Option FieldRow) (row : FieldRow) → (a ≡ Some row → Has row) → (b ≡ Some row → Has row) → option_or a b ≡ Some row → Has row
  either_has None b row f g e = g e
  either_has (Some x) b row f g e = f e

  source_has : (name : List ℕ) (row : FieldRow) → source_field es name ≡ Some row → Has row
  unfolding source_field
  source_has name row e =
      either_has (exact es name) (changed_alias (exposed es) name) row (exact_has name row)
      (if_has (ends_with nat_eq name (codes "_changed")) (take (length name - length (codes "_changed")) name) row) e

  target_has : (name : List ℕ) (row : FieldRow) → target_field es name ≡ Some row → Has row
  unfolding target_field
  target_has name row e =
      either_has (exact es name) (set_alias (exposed es) name) row (exact_has name row)
      (if_has (starts_with nat_eq name (codes "set_")) (drop (length (codes "set_")) name) row) e

-- ---- ends

abbrev ResultOf : {A B C : Type 0} → (A → B → C) → Type 0
ResultOf {A} {B} {C} f = C

-- what an end names: its crate does not export the type
abbrev SceneField : Type 0
SceneField = ResultOf field_at

abbrev right : {A B : Type 0} → A → Result A B
right x = Ok x

right_is : {A B : Type 0} (x y : A) → right {A = A} {B = B} x ≡ right {A = A} {B = B} y → x ≡ y
right_is x y e = cc

module _ (s : SceneView) where
  IsFieldEnd : SceneField → Type 0
  IsFieldEnd f = IsEnd s f.end

  node_within : (node n : ℕ) → node_of s node ≡ Some n → n < length s.nodes
  node_within node n e = by_number (number_of s node) e where
    by_bound : (m : ℕ) (b : Bool) → nat_lt m (length s.nodes) ≡ b → (if b then Some m else None) ≡ Some n → n < length s.nodes
    by_bound m true h k = let same : m ≡ n = cc in subst (λ j. j < length s.nodes) same (ltb-true m (length s.nodes) h)
    by_bound m false h k = absurd cc

    by_number : (o : Option ℕ) → option_and_then (λ n. if nat_lt n (length s.nodes) then Some n else None) o ≡ Some n → n < length s.nodes
    by_number None k = absurd cc
    by_number (Some m) k = by_bound m (nat_lt m (length s.nodes)) refl k

  field_is : (n : ℕ) (row : FieldRow) → n < length s.nodes → HasRow 0 (rows_at s n) row → IsFieldEnd (field_at n row)
  unfolding IsFieldEnd
  field_is n row l h =
      let same : h.index ≡ row.number = omega (arith, h.number) in
      (l, (h.entry, subst (λ k. slice_get (rows_at s n) k ≡ Some h.entry) same h.is))

  usable_is : (allowed : Access → Bool) (fault : RouteFaultKind) (n : ℕ) (o : Option FieldRow) (f : SceneField) → n < length s.nodes
      → ((row : FieldRow) → o ≡ Some row → HasRow 0 (rows_at s n) row) → usable allowed fault n o ≡ Ok f → IsFieldEnd f
  usable_is allowed fault n None f l k e = absurd cc
  usable_is allowed fault n (Some row) f l k e = by_access (allowed row.access) e where
    by_access : (b : Bool) → (if b then Ok (field_at n row) else Err fault) ≡ Ok f → IsFieldEnd f
    by_access true h = subst IsFieldEnd (right_is (field_at n row) f h) (field_is n row l (k row refl))
    by_access false h = absurd cc

  output_is : (name : List ℕ) (o : Option ℕ) (f : SceneField) → ((n : ℕ) → o ≡ Some n → n < length s.nodes) → output_named s name o ≡ Ok f → IsFieldEnd f
  output_is name None f k e = absurd cc
  output_is name (Some n) f k e =
      usable_is sends NotOutput n (source_field (rows_at s n) name) f (k n refl) (λ row h. source_has (rows_at s n) name row h) e

  input_is : (name : List ℕ) (o : Option ℕ) (f : SceneField) → ((n : ℕ) → o ≡ Some n → n < length s.nodes) → input_named s name o ≡ Ok f → IsFieldEnd f
  input_is name None f k e = absurd cc
  input_is name (Some n) f k e =
      usable_is receives NotInput n (target_field (rows_at s n) name) f (k n refl) (λ row h. target_has (rows_at s n) name row h) e

  source_is : (end : FlatEnd) (f : SceneField) → source_of s end ≡ Ok f → IsFieldEnd f
  source_is (At node name) f e = output_is name (node_of s node) f (λ n h. node_within node n h) e
  source_is NoNode f e = absurd cc
  source_is NoField f e = absurd cc
  source_is WrongWay f e = absurd cc

  target_is : (end : FlatEnd) (f : SceneField) → target_of s end ≡ Ok f → IsFieldEnd f
  target_is (At node name) f e = input_is name (node_of s node) f (λ n h. node_within node n h) e
  target_is NoNode f e = absurd cc
  target_is NoField f e = absurd cc
  target_is WrongWay f e = absurd cc

  -- ---- routes

  ends_are : (a b : SceneField) (r : Route) → IsFieldEnd a → IsFieldEnd b → joined a b ≡ Ok r → IsWritableRoute s r
  unfolding IsFieldEnd
  ends_are a b r p q e = by_type (sameb types.the_type a.field_type b.field_type) (holds_nodes a.field_type) e where
    by_type : (x y : Bool) → (if x then (if y then Err NodeEvent else Ok (record { source = a.end; target = b.end })) else Err TypesDiffer) ≡ Ok r
        → IsWritableRoute s r
    by_type true false h = subst (IsWritableRoute s) (right_is (record { source = a.end; target = b.end }) r h) (p, q)
    by_type true true h = absurd cc
    by_type false y h = absurd cc

  route_joins : (f : FlatRoute) (r : Route) → route_of s f ≡ Ok r → IsWritableRoute s r
  route_joins f r e = by_ends (source_of s f.source) (target_of s f.target) (λ x. source_is f.source x) (λ x. target_is f.target x) e where
    by_ends : (a b : Result SceneField RouteFaultKind) → ((x : SceneField) → a ≡ Ok x → IsFieldEnd x) → ((x : SceneField) → b ≡ Ok x → IsFieldEnd x)
        → joined_ends a b ≡ Ok r → IsWritableRoute s r
    by_ends (Err x) b p q h = absurd cc
    by_ends (Ok x) (Err y) p q h = absurd cc
    by_ends (Ok x) (Ok y) p q h = ends_are x y r (p x refl) (q y refl) h

  all_join : (rs : List FlatRoute) (routes : List Route) → each_of s rs ≡ Ok routes → AllByRecursion (IsWritableRoute s) routes
  all_join [] routes e = subst (AllByRecursion (IsWritableRoute s)) (right_is [] routes e) tt
  all_join (f ∷ fs) routes e =
      by_first (route_of s f) (each_of s fs) (λ r. route_joins f r) (λ rs. all_join fs rs) e where
        by_first : (a : Result Route RouteFaultKind) (b : Result (List Route) RouteFault) → ((r : Route) → a ≡ Ok r → IsWritableRoute s r)
            → ((rs : List Route) → b ≡ Ok rs → AllByRecursion (IsWritableRoute s) rs) → before_others (at_line f.line a) b ≡ Ok routes
            → AllByRecursion (IsWritableRoute s) routes
        by_first (Err x) b p q h = absurd cc
        by_first (Ok x) (Err y) p q h = absurd cc
        by_first (Ok x) (Ok rs) p q h = subst (AllByRecursion (IsWritableRoute s)) (right_is (x ∷ rs) routes h) (p x refl, q rs refl)

  all_added : (rs made : List Route) → AllByRecursion (IsWritableRoute s) made → AllByRecursion (IsWritableRoute s) rs
      → AllByRecursion (IsWritableRoute s) (fold added made rs)
  all_added [] made h k = h
  all_added (r ∷ rs) made h k = all_added rs (added made r) (by_seen (list_any (same_route r) made)) k.1 where
    by_seen : (b : Bool) → AllByRecursion (IsWritableRoute s) (if b then made else made ++ r ∷ [])
    by_seen true = h
    by_seen false = all_push (IsWritableRoute s) made r h k.0

  pub routes_writable : (flat : Flat) (routes : List Route) → resolved flat s ≡ Ok routes → AllByRecursion (IsWritableRoute s) routes
  routes_writable flat routes e = by_all (each_of s flat.routes) (λ rs. all_join flat.routes rs) e where
    by_all : (a : Result (List Route) RouteFault) → ((rs : List Route) → a ≡ Ok rs → AllByRecursion (IsWritableRoute s) rs) → firsts_of a ≡ Ok routes
        → AllByRecursion (IsWritableRoute s) routes
    by_all (Err x) k h = absurd cc
    by_all (Ok rs) k h =
        subst (AllByRecursion (IsWritableRoute s)) (limited_is (firsts rs) routes h) (all_added rs [] tt (k rs refl))
