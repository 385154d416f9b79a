-- The routes of a document join outputs and inputs of one type.
use Rattle.std.proofs.Common.{◌≡◌, ℕ, suc, ◌+◌, ◌-◌, Bool, true, false, if◌then◌else◌, List, [], ◌∷◌, ◌++◌, length, take, drop, codes, nat_eq, Option, Some, None, Result, Ok, Err, slice_get, option_map, refl, sym, ap, subst, ◌∙◌, arith, rules, inl, inr, ⊎_elim}
use Rattle.std.specs.Prelude.{◌⊎◌}
use Rattle.std.specs.Option.{option_and_then, option_or}
use Rattle.std.specs.List.{starts_with, ends_with, list_any, fold}
use Rattle.std.specs.Cmp.Lexicographic.{pointwise}
use Rattle.std.proofs.lemmas.Bool.{cond_both}
use denote.Enum.Bare.{sameb, same_true}
use Rattle.x3d_values.specs.contracts.field_type.FieldType as types
use Rattle.x3d_values.specs.declared.field_type.Access.{Access}
use Rattle.x3d_values.specs.declared.field_type.FieldType.{FieldType}
use Rattle.x3d_values.specs.declared.field_type.FieldType.TheVariants.{SFRotation}
use Rattle.x3d_values.specs.declared.table.FieldRow.{FieldRow}
use Rattle.x3d_values.specs.Access.{is_exposed, receives, sends, holds_nodes}
use Rattle.x3d_values.specs.Aliases.{set_alias, changed_alias}
use Rattle.x3d_values.specs.Tables.{FieldRowView, row_named, numbered}
use Rattle.proto_flat.specs.declared.flat.Flat.{Flat}
use Rattle.proto_flat.specs.declared.flat.FlatEnd.{FlatEnd}
use Rattle.proto_flat.specs.declared.flat.FlatEnd.TheVariants.{At, NoNode, NoField, WrongWay}
use Rattle.proto_flat.specs.declared.flat.FlatRoute.{FlatRoute}
use Rattle.scene_core.specs.declared.scene.Route.{Route}
use Rattle.scene_core.specs.Scene.{SceneView, rows_at, shapes_of}
use Rattle.scene_core.specs.Shape.{Shape}
use Rattle.route_core.specs.declared.fault.RouteFault.{RouteFault}
use Rattle.route_core.specs.declared.fault.RouteFaultKind.{RouteFaultKind}
use Rattle.route_core.specs.declared.fault.RouteFaultKind.TheVariants.{NoSuchNode, NoSuchField, NotOutput, NotInput, TypesDiffer, NodeEvent}
use Rattle.route_core.proofs.Repeats.{limited_is}
use Rattle.route_core.specs.Ends.{node_of, field_at, usable, output_named, input_named, source_of, target_of, joined, joined_ends, route_of}
use Rattle.route_core.specs.Names.{no_rotation, if_exposed, exact, exposed, source_field, target_field}
use Rattle.route_core.specs.Resolved.{at_line, before_others, each_of, same_route, added, firsts, firsts_of, resolved}
use Rattle.cascade_world.specs.Fits.{sent_type, output_type}
use Rattle.laws_worlds.proofs.Rows.{some_is}
use Rattle.laws_worlds.specs.Fits.{input_type, Joins, AllJoin}

-- ---- a row that was found is a row of the table

record Found (n : ℕ) (es : List FieldRowView) (row : FieldRow) : Type 0 where
  pub index : ℕ
  pub entry : FieldRowView
  pub number : row.number ≡ n + index
  pub is : slice_get es index ≡ Some entry
  pub access : entry.access ≡ row.access
  pub field_type : entry.field_type ≡ row.field_type

found : (n : ℕ) (name : List ℕ) (es : List FieldRowView) (row : FieldRow) → row_named n name es ≡ Some row → Found n es row
found n name [] row e = absurd cc
found n name (x ∷ xs) row e =
    cond_both (pointwise nat_eq name x.name) (Some (numbered n x)) (row_named (n + 1) name xs) (λ o. o ≡ Some row → Found n (x ∷ xs) row)
    (λ _ here. let same : numbered n x ≡ row = some_is (numbered n x) row here in record {
      index = 0;
      entry = x;
      number = omega (arith, ap (λ (r : FieldRow). r.number) same);
      is = refl;
      access = ap (λ (r : FieldRow). r.access) same;
      field_type = ap (λ (r : FieldRow). r.field_type) same;
    })
    (λ _ later. let f = found (n + 1) name xs row later in record {
      index = suc f.index;
      entry = f.entry;
      number = omega (arith, f.number);
      is = f.is;
      access = f.access;
      field_type = f.field_type;
    })
    e

unless : (o : Option FieldRow) (row : FieldRow) → option_and_then no_rotation o ≡ Some row → o ≡ Some row
unless None row e = e
unless (Some r) row e = cond_both (sameb types.the_type r.field_type SFRotation) None (Some r) (λ x. x ≡ Some row → Some r ≡ Some row) (λ _ none. absurd cc) (λ _ same. same) e

when : (o : Option FieldRow) (row : FieldRow) → option_and_then if_exposed o ≡ Some row → o ≡ Some row
when None row e = e
when (Some r) row e = cond_both (is_exposed r.access) (Some r) None (λ x. x ≡ Some row → Some r ≡ Some row) (λ _ same. same) (λ _ none. absurd cc) e

either : (a b : Option FieldRow) (row : FieldRow) → option_or a b ≡ Some row → (a ≡ Some row) ⊎ (b ≡ Some row)
either None b row e = inr e
either (Some x) b row e = inl e

-- among the fields of a node, those that it declares too
module _ (es : List FieldRowView) where
  abbrev IsRow : FieldRow → Type 0
  IsRow row = Found 0 es row

  exact_row : (name : List ℕ) (row : FieldRow) → exact es name ≡ Some row → IsRow row
  exact_row name row e = found 0 name es row (unless (row_named 0 name es) row e)

  exposed_row : (name : List ℕ) (row : FieldRow) → exposed es name ≡ Some row → IsRow row
  exposed_row name row e = exact_row name row (when (exact es name) row e)

  set_row : (name : List ℕ) (row : FieldRow) → set_alias (exposed es) name ≡ Some row → IsRow row
  set_row name row e =
      let back : List ℕ = drop (length (codes "set_")) name in
      cond_both (starts_with nat_eq name (codes "set_")) (exposed es back) None (λ x. x ≡ Some row → IsRow row)
      (λ _ here. exposed_row back row here) (λ _ none. absurd cc) e

  changed_row : (name : List ℕ) (row : FieldRow) → changed_alias (exposed es) name ≡ Some row → IsRow row
  changed_row name row e =
      let front : List ℕ = take (length name - length (codes "_changed")) name in
      cond_both (ends_with nat_eq name (codes "_changed")) (exposed es front) None (λ x. x ≡ Some row → IsRow row)
      (λ _ here. exposed_row front row here) (λ _ none. absurd cc) e

  source_row : (name : List ℕ) (row : FieldRow) → source_field es name ≡ Some row → IsRow row
  unfolding source_field
  source_row name row e = ⊎_elim (exact_row name row) (changed_row name row) (either (exact es name) (changed_alias (exposed es) name) row e)

  target_row : (name : List ℕ) (row : FieldRow) → target_field es name ≡ Some row → IsRow row
  unfolding target_field
  target_row name row e = ⊎_elim (exact_row name row) (set_row name row) (either (exact es name) (set_alias (exposed es) name) row e)

  row_is : (row : FieldRow) (f : IsRow row) → slice_get es row.number ≡ Some f.entry
  row_is row f =
      let same : row.number ≡ f.index = omega (arith, f.number) in
      subst (λ (k : ℕ). slice_get es k ≡ Some f.entry) (sym same) f.is

-- ---- the types of ends

sent_row : (entry : FieldRowView) (row : FieldRow) → entry.access ≡ row.access → entry.field_type ≡ row.field_type → sends row.access ≡ true → sent_type entry ≡ Some row.field_type
sent_row entry row a f s = rw (a, s) (ap (λ (t : FieldType). Some t) f)

output_is : (scene : SceneView) (node : ℕ) (row : FieldRow) → IsRow (rows_at scene node) row → sends row.access ≡ true → output_type (shapes_of scene) node row.number ≡ Some row.field_type
output_is scene node row f s =
    ap (λ (o : Option FieldRowView). option_and_then sent_type o) (row_is (rows_at scene node) row f)
    ∙ sent_row f.entry row f.access f.field_type s

input_is : (scene : SceneView) (node : ℕ) (row : FieldRow) → IsRow (rows_at scene node) row → input_type (shapes_of scene) node row.number ≡ Some row.field_type
input_is scene node row f =
    ap (λ (o : Option FieldRowView). option_map (λ (entry : FieldRowView). entry.field_type) o) (row_is (rows_at scene node) row f)
    ∙ ap (λ (k : FieldType). Some k) f.field_type

abbrev ok : {A B : Type 0} → A → Result A B
ok x = Ok x

abbrev err : {A B : Type 0} → B → Result A B
err e = Err e

pub ok_is : {A B : Type 0} (x y : A) → ok {A = A} {B = B} x ≡ ok {A = A} {B = B} y → x ≡ y
ok_is x y e = cc

pub never : {C A B : Type 0} (f : B) (x : A) → err {A = A} {B = B} f ≡ ok {A = A} {B = B} x → C
never f x e = absurd cc

-- the field may be used so, or there is a fault
abbrev Used : (Access → Bool) → RouteFaultKind → ℕ → Option FieldRow → Type 0
Used allowed fault node o =
    ((f : RouteFaultKind) × (usable allowed fault node o ≡ Err f))
    ⊎ ((row : FieldRow) × (o ≡ Some row) × (allowed row.access ≡ true) × (usable allowed fault node o ≡ Ok (field_at node row)))

used : (allowed : Access → Bool) (fault : RouteFaultKind) (node : ℕ) (o : Option FieldRow) → Used allowed fault node o
used allowed fault node None = inl (NoSuchField, refl)
used allowed fault node (Some row) = given (allowed row.access) refl
  where
    given : (b : Bool) → allowed row.access ≡ b → Used allowed fault node (Some row)
    given true e = inr (row, refl, e, rw e refl)
    given false e = inl (fault, rw e refl)

-- a source sends, or there is a fault
abbrev Named : SceneView → List ℕ → Option ℕ → Type 0
Named scene name o =
    ((f : RouteFaultKind) × (output_named scene name o ≡ Err f))
    ⊎ ((node : ℕ) × (row : FieldRow) × (output_named scene name o ≡ Ok (field_at node row)) × (output_type (shapes_of scene) node row.number ≡ Some row.field_type))

abbrev Sends : SceneView → FlatEnd → Type 0
Sends scene end =
    ((f : RouteFaultKind) × (source_of scene end ≡ Err f))
    ⊎ ((node : ℕ) × (row : FieldRow) × (source_of scene end ≡ Ok (field_at node row)) × (output_type (shapes_of scene) node row.number ≡ Some row.field_type))

named : (scene : SceneView) (name : List ℕ) (o : Option ℕ) → Named scene name o
named scene name None = inl (NoSuchNode, refl)
named scene name (Some n) = given (used sends NotOutput n (source_field (rows_at scene n) name))
  where
    given : Used sends NotOutput n (source_field (rows_at scene n) name) → Named scene name (Some n)
    given (inl u) = inl u
    given (inr u) = inr (n, u.0, u.3, output_is scene n u.0 (source_row (rows_at scene n) name u.0 u.1) u.2)

sends_of : (scene : SceneView) (end : FlatEnd) → Sends scene end
sends_of scene (At node name) = named scene name (node_of scene node)
sends_of scene NoNode = inl (NoSuchNode, refl)
sends_of scene NoField = inl (NoSuchField, refl)
sends_of scene WrongWay = inl (NotOutput, refl)

-- a destination takes, or there is a fault
abbrev NamedInput : SceneView → List ℕ → Option ℕ → Type 0
NamedInput scene name o =
    ((f : RouteFaultKind) × (input_named scene name o ≡ Err f))
    ⊎ ((node : ℕ) × (row : FieldRow) × (input_named scene name o ≡ Ok (field_at node row)) × (input_type (shapes_of scene) node row.number ≡ Some row.field_type))

abbrev Takes : SceneView → FlatEnd → Type 0
Takes scene end =
    ((f : RouteFaultKind) × (target_of scene end ≡ Err f))
    ⊎ ((node : ℕ) × (row : FieldRow) × (target_of scene end ≡ Ok (field_at node row)) × (input_type (shapes_of scene) node row.number ≡ Some row.field_type))

named_input : (scene : SceneView) (name : List ℕ) (o : Option ℕ) → NamedInput scene name o
named_input scene name None = inl (NoSuchNode, refl)
named_input scene name (Some n) = given (used receives NotInput n (target_field (rows_at scene n) name))
  where
    given : Used receives NotInput n (target_field (rows_at scene n) name) → NamedInput scene name (Some n)
    given (inl u) = inl u
    given (inr u) = inr (n, u.0, u.3, input_is scene n u.0 (target_row (rows_at scene n) name u.0 u.1))

takes_of : (scene : SceneView) (end : FlatEnd) → Takes scene end
takes_of scene (At node name) = named_input scene name (node_of scene node)
takes_of scene NoNode = inl (NoSuchNode, refl)
takes_of scene NoField = inl (NoSuchField, refl)
takes_of scene WrongWay = inl (NotInput, refl)

-- ---- a route

abbrev between : ℕ → FieldRow → ℕ → FieldRow → Route
between n p m q = record { source = record { node = n; field = p.number }; target = record { node = m; field = q.number } }

abbrev unless_nodes : ℕ → FieldRow → ℕ → FieldRow → Result Route RouteFaultKind
unless_nodes n p m q = if holds_nodes p.field_type then Err NodeEvent else Ok (between n p m q)

joined_is : (n : ℕ) (p : FieldRow) (m : ℕ) (q : FieldRow) (r : Route) → joined (field_at n p) (field_at m q) ≡ Ok r → (p.field_type ≡ q.field_type) × (between n p m q ≡ r)
joined_is n p m q r e =
    cond_both (sameb types.the_type p.field_type q.field_type) (unless_nodes n p m q) (Err TypesDiffer) (λ (x : Result Route RouteFaultKind). x ≡ Ok r → (p.field_type ≡ q.field_type) × (between n p m q ≡ r))
    (λ same here. (same_true types.the_type (search rules) _ _ same, cond_both (holds_nodes p.field_type) (Err NodeEvent) (Ok (between n p m q)) (λ (x : Result Route RouteFaultKind). x ≡ Ok r → between n p m q ≡ r) (λ _ none. absurd cc) (λ _ is. ok_is (between n p m q) r is) here))
    (λ _ none. absurd cc) e

ends_join : (scene : SceneView) (f : FlatRoute) (r : Route) → Sends scene f.source → Takes scene f.target → route_of scene f ≡ Ok r → Joins (shapes_of scene) r
ends_join scene f r (inl s) t e = never s.0 r (subst (λ x. joined_ends x (target_of scene f.target) ≡ Ok r) s.1 e)
ends_join scene f r (inr s) (inl t) e = never t.0 r (subst (λ x. joined_ends (Ok (field_at s.0 s.1)) x ≡ Ok r) t.1 (subst (λ x. joined_ends x (target_of scene f.target) ≡ Ok r) s.2 e))
ends_join scene f r (inr s) (inr t) e =
    let j = joined_is s.0 s.1 t.0 t.1 r (subst (λ x. joined_ends (Ok (field_at s.0 s.1)) x ≡ Ok r) t.2 (subst (λ x. joined_ends x (target_of scene f.target) ≡ Ok r) s.2 e)) in
    subst (λ (x : Route). Joins (shapes_of scene) x) j.1
    (s.1.field_type, s.3, subst (λ (k : FieldType). input_type (shapes_of scene) t.0 t.1.number ≡ Some k) (sym j.0) t.3)

route_joins : (scene : SceneView) (f : FlatRoute) (r : Route) → route_of scene f ≡ Ok r → Joins (shapes_of scene) r
route_joins scene f r e = ends_join scene f r (sends_of scene f.source) (takes_of scene f.target) e

-- ---- all of them

line_is : (line : ℕ) (x : Result Route RouteFaultKind) (r : Route) → at_line line x ≡ Ok r → x ≡ Ok r
line_is line (Err f) r e = absurd cc
line_is line (Ok q) r e = ap (λ (k : Route). Ok k) (ok_is q r e)

before_is : (x : Result Route RouteFault) (others : Result (List Route) RouteFault) (rs : List Route) → before_others x others ≡ Ok rs → (r : Route) × (rest : List Route) × (x ≡ Ok r) × (others ≡ Ok rest) × (r ∷ rest ≡ rs)
before_is (Err f) others rs e = absurd cc
before_is (Ok r) (Err f) rs e = absurd cc
before_is (Ok r) (Ok rest) rs e = (r, rest, refl, refl, ok_is (r ∷ rest) rs e)

each_joins : (scene : SceneView) (fs : List FlatRoute) (rs : List Route) → each_of scene fs ≡ Ok rs → AllJoin (shapes_of scene) rs
each_joins scene [] rs e = subst (λ (l : List Route). AllJoin (shapes_of scene) l) (ok_is [] rs e) tt
each_joins scene (f ∷ fs) rs e =
    let b = before_is (at_line f.line (route_of scene f)) (each_of scene fs) rs e in
    subst (λ (l : List Route). AllJoin (shapes_of scene) l) b.4
    (route_joins scene f b.0 (line_is f.line (route_of scene f) b.0 b.2), each_joins scene fs b.1 b.3)

push_joins : (shapes : List Shape) (rs : List Route) (r : Route) → AllJoin shapes rs → Joins shapes r → AllJoin shapes (rs ++ r ∷ [])
push_joins shapes [] r a j = (j, tt)
push_joins shapes (x ∷ rs) r a j = (a.0, push_joins shapes rs r a.1 j)

added_joins : (shapes : List Shape) (rs : List Route) (r : Route) → AllJoin shapes rs → Joins shapes r → AllJoin shapes (added rs r)
added_joins shapes rs r a j = cond_both (list_any (same_route r) rs) rs (rs ++ r ∷ []) (λ (l : List Route). AllJoin shapes l) (λ _. a) (λ _. push_joins shapes rs r a j)

fold_joins : (shapes : List Shape) (made rs : List Route) → AllJoin shapes made → AllJoin shapes rs → AllJoin shapes (fold added made rs)
fold_joins shapes made [] a j = a
fold_joins shapes made (r ∷ rs) a j = fold_joins shapes (added made r) rs (added_joins shapes made r a j.0) j.1

firsts_join : (shapes : List Shape) (x : Result (List Route) RouteFault) (rs : List Route) → ((all : List Route) → x ≡ Ok all → AllJoin shapes all) → firsts_of x ≡ Ok rs → AllJoin shapes rs
firsts_join shapes (Err f) rs h e = absurd cc
firsts_join shapes (Ok all) rs h e = subst (λ (l : List Route). AllJoin shapes l) (limited_is (firsts all) rs e) (fold_joins shapes [] all tt (h all refl))

pub all_routes_join : (flat : Flat) (scene : SceneView) (routes : List Route) → resolved flat scene ≡ Ok routes → AllJoin (shapes_of scene) routes
all_routes_join flat scene routes e = firsts_join (shapes_of scene) (each_of scene flat.routes) routes (each_joins scene flat.routes) e
