-- The routes of a written scene resolve to the scene's.
use Rattle.std.proofs.Common.{◌≡◌, ℕ, ◌<◌, Bool, true, false, List, [], ◌∷◌, ◌++◌, length, map, nat_lt, Option, Some, None, Result, Ok, Err, if◌then◌else◌, refl, sym, ap, subst, ◌∙◌, ltb-true}
use Rattle.std.specs.List.{AllByRecursion, fold, list_any}
use Rattle.std.specs.Option.{option_and_then}
use denote.Enum.Bare.{sameb}
use Rattle.x3d_values.specs.contracts.field_type.FieldType as types
use Rattle.x3d_values.specs.declared.field_type.Access.{Access}
use Rattle.x3d_values.specs.declared.table.FieldRow.{FieldRow}
use Rattle.x3d_values.specs.Access.{receives, sends, holds_nodes}
use Rattle.x3d_values.specs.Tables.{FieldRowView}
use Rattle.proto_flat.specs.declared.flat.FlatEnd.{FlatEnd}
use Rattle.proto_flat.specs.declared.flat.FlatEnd.TheVariants.{At, NoNode, NoField, WrongWay}
use Rattle.proto_flat.specs.declared.flat.FlatRoute.{FlatRoute}
use Rattle.laws_documents.specs.Routes.{Shown, route_shown}
use Rattle.laws_documents.specs.PlainLaws.{RoutesAreRead}
use Rattle.scene_core.specs.declared.scene.Route.{Route}
use Rattle.scene_core.specs.Scene.{SceneView, field_name, number_of, rows_at}
use Rattle.route_core.specs.Names.{target_field, source_field}
use Rattle.route_core.specs.Ends.{node_of, field_at, usable, output_named, input_named, source_of, target_of, joined, joined_ends, route_of}
use Rattle.route_core.specs.Resolved.{added, at_line, before_others, each_of, firsts, firsts_of, limited, same_route}
use Rattle.route_core.specs.declared.fault.RouteFault.{RouteFault}
use Rattle.route_core.specs.declared.fault.RouteFaultKind.{RouteFaultKind}
use Rattle.route_core.specs.declared.fault.RouteFaultKind.TheVariants.{NodeEvent, NotInput, NotOutput, TypesDiffer}
use Rattle.route_core.proofs.Repeats.{limited_is}
use Rattle.laws_written.specs.Labels.{LabelsAreDistinct}
use Rattle.laws_written.specs.Writable.{IsEnd, IsWritableRoute}
use Rattle.laws_written.proofs.Lists.{all_push, all_weaker}
use Rattle.laws_written.specs.Braces.{WrittenNodesClose}
use Rattle.laws_written.specs.Resolved.{KeepsRows, WrittenRoutesResolve}
use Rattle.laws_written.specs.Routes.{written_end, written_route}
use Rattle.laws_written.proofs.RoutesDistinct.{no_repeats}
use Rattle.laws_written.proofs.RoutesRows.{IsOwn, own_name, source_again, source_own, target_again, target_own}
use Rattle.laws_written.proofs.RoutesWhole.{both_ends, routes_stay}

abbrev ResultOf : {A B C : Type 0} → (A → B → C) → Type 0
ResultOf {A} {B} {C} f = C

-- what an end names: its crate does not export the type
abbrev SceneField : Type 0
SceneField = ResultOf field_at

abbrev right : {A B : Type 0} → A → Result A B
right x = Ok x

right_is : {A B : Type 0} (x y : A) → right {A = A} {B = B} x ≡ right {A = A} {B = B} y → x ≡ y
right_is x y e = cc

module _ (s other : SceneView) (keeps : KeepsRows s other) where
  -- ---- ends

  node_within : (node n : ℕ) → node_of s node ≡ Some n → n < length s.nodes
  node_within node n e = by_number (number_of s node) e where
    by_bound : (m : ℕ) (b : Bool) → nat_lt m (length s.nodes) ≡ b → (if b then Some m else None) ≡ Some n → n < length s.nodes
    by_bound m true h k = let same : m ≡ n = cc in subst (λ j. j < length s.nodes) same (ltb-true m (length s.nodes) h)
    by_bound m false h k = absurd cc

    by_number : (o : Option ℕ) → option_and_then (λ n. if nat_lt n (length s.nodes) then Some n else None) o ≡ Some n → n < length s.nodes
    by_number None k = absurd cc
    by_number (Some m) k = by_bound m (nat_lt m (length s.nodes)) refl k

  -- the same field, by its own name
  record IsUsable (allowed : Access → Bool) (fault : RouteFaultKind) (named : List FieldRowView → List ℕ → Option FieldRow) (f : SceneField) : Type 0 where
    end : IsEnd s f.end
    again : usable allowed fault f.end.node (named (rows_at s f.end.node) (field_name s f.end)) ≡ Ok f

  usable_is : (allowed : Access → Bool) (fault : RouteFaultKind) (named : List FieldRowView → List ℕ → Option FieldRow) (n : ℕ) → n < length s.nodes
      → ((row : FieldRow) → IsOwn (rows_at s n) row → named (rows_at s n) (own_name (rows_at s n) row.number) ≡ Some row)
      → (o : Option FieldRow) (f : SceneField) → ((row : FieldRow) → o ≡ Some row → IsOwn (rows_at s n) row)
      → usable allowed fault n o ≡ Ok f → IsUsable allowed fault named f
  usable_is allowed fault named n l same None f own e = absurd cc
  usable_is allowed fault named n l same (Some row) f own e = by_access (allowed row.access) refl e where
    made : allowed row.access ≡ true → IsUsable allowed fault named (field_at n row)
    made e =
        let h = own row refl in
        record {
          end = (l, (h.entry, h.is));
          again = ap (usable allowed fault n) (same row h) ∙ ap (λ (b : Bool). if b then Ok (field_at n row) else Err fault) e;
        }

    by_access : (b : Bool) → allowed row.access ≡ b → (if b then Ok (field_at n row) else Err fault) ≡ Ok f → IsUsable allowed fault named f
    by_access true k h = subst (IsUsable allowed fault named) (right_is (field_at n row) f h) (made k)
    by_access false k h = absurd cc

  abbrev SourceAgain : SceneField → Type 0
  SourceAgain f = IsEnd s f.end × (source_of other (written_end s f.end) ≡ Ok f)

  abbrev TargetAgain : SceneField → Type 0
  TargetAgain f = IsEnd s f.end × (target_of other (written_end s f.end) ≡ Ok f)

  source_there : (f : SceneField) → IsUsable sends NotOutput source_field f → SourceAgain f
  source_there f u = (
    u.end,
    ap (output_named other (field_name s f.end)) (keeps.numbers f.end.node u.end.0)
        ∙ ap (λ (es : List FieldRowView). usable sends NotOutput f.end.node (source_field es (field_name s f.end))) (keeps.rows f.end.node u.end.0) ∙ u.again,
  )

  target_there : (f : SceneField) → IsUsable receives NotInput target_field f → TargetAgain f
  target_there f u = (
    u.end,
    ap (input_named other (field_name s f.end)) (keeps.numbers f.end.node u.end.0)
        ∙ ap (λ (es : List FieldRowView). usable receives NotInput f.end.node (target_field es (field_name s f.end))) (keeps.rows f.end.node u.end.0) ∙ u.again,
  )

  output_is : (name : List ℕ) (o : Option ℕ) (f : SceneField) → ((n : ℕ) → o ≡ Some n → n < length s.nodes) → output_named s name o ≡ Ok f → SourceAgain f
  output_is name None f k e = absurd cc
  output_is name (Some n) f k e =
      source_there f
      (usable_is sends NotOutput source_field n (k n refl) (λ row h. source_again (rows_at s n) row h) (source_field (rows_at s n) name) f (λ row h. source_own (rows_at s n) name row h) e)

  input_is : (name : List ℕ) (o : Option ℕ) (f : SceneField) → ((n : ℕ) → o ≡ Some n → n < length s.nodes) → input_named s name o ≡ Ok f → TargetAgain f
  input_is name None f k e = absurd cc
  input_is name (Some n) f k e =
      target_there f
      (usable_is receives NotInput target_field n (k n refl) (λ row h. target_again (rows_at s n) row h) (target_field (rows_at s n) name) f (λ row h. target_own (rows_at s n) name row h) e)

  source_is : (end : FlatEnd) (f : SceneField) → source_of s end ≡ Ok f → SourceAgain f
  source_is (At node name) f e = output_is name (node_of s node) f (λ n h. node_within node n h) e
  source_is NoNode f e = absurd cc
  source_is NoField f e = absurd cc
  source_is WrongWay f e = absurd cc

  target_is : (end : FlatEnd) (f : SceneField) → target_of s end ≡ Ok f → TargetAgain f
  target_is (At node name) f e = input_is name (node_of s node) f (λ n h. node_within node n h) e
  target_is NoNode f e = absurd cc
  target_is NoField f e = absurd cc
  target_is WrongWay f e = absurd cc

  -- ---- routes

  pub record IsAgain (r : Route) : Type 0 where
    pub writable : IsWritableRoute s r
    pub again : joined_ends (source_of other (written_end s r.source)) (target_of other (written_end s r.target)) ≡ Ok r

  joined_again : (a b : SceneField) → SourceAgain a → TargetAgain b → (r : Route) → joined a b ≡ Ok r → IsAgain r
  joined_again a b p q r e = by_type (sameb types.the_type a.field_type b.field_type) (holds_nodes a.field_type) refl refl e where
    made : Route
    made = record { source = a.end; target = b.end }

    is_again : joined a b ≡ Ok made → IsAgain made
    is_again h = record {
      writable = (p.0, q.0);
      again = ap (λ (x : Result SceneField RouteFaultKind). joined_ends x (target_of other (written_end s b.end))) p.1
          ∙ ap (λ (x : Result SceneField RouteFaultKind). joined_ends (Ok a) x) q.1 ∙ h;
    }

    by_type : (x y : Bool) → sameb types.the_type a.field_type b.field_type ≡ x → holds_nodes a.field_type ≡ y
        → (if x then (if y then Err NodeEvent else Ok (record { source = a.end; target = b.end })) else Err TypesDiffer) ≡ Ok r → IsAgain r
    by_type true false f g h =
        let same : record { source = a.end; target = b.end } ≡ r = right_is (record { source = a.end; target = b.end }) r h in
        subst IsAgain same (is_again (e ∙ ap (λ (x : Route). Ok x) (sym same)))
    by_type true true f g h = absurd cc
    by_type false y f g h = absurd cc

  route_again : (f : FlatRoute) (r : Route) → route_of s f ≡ Ok r → IsAgain r
  route_again f r e = by_ends (source_of s f.source) (target_of s f.target) (λ x. source_is f.source x) (λ x. target_is f.target x) e where
    by_ends : (a b : Result SceneField RouteFaultKind) → ((x : SceneField) → a ≡ Ok x → SourceAgain x) → ((x : SceneField) → b ≡ Ok x → TargetAgain x)
        → joined_ends a b ≡ Ok r → IsAgain r
    by_ends (Err x) b p q h = absurd cc
    by_ends (Ok x) (Err y) p q h = absurd cc
    by_ends (Ok x) (Ok y) p q h = joined_again x y (p x refl) (q y refl) r h

  all_again : (fs : List FlatRoute) (rs : List Route) → each_of s fs ≡ Ok rs → AllByRecursion IsAgain rs
  all_again [] rs e = subst (AllByRecursion IsAgain) (right_is [] rs e) tt
  all_again (f ∷ fs) rs e = by_first (route_of s f) (each_of s fs) (λ r. route_again f r) (λ more. all_again fs more) e where
    by_first : (a : Result Route RouteFaultKind) (b : Result (List Route) RouteFault) → ((r : Route) → a ≡ Ok r → IsAgain r)
        → ((more : List Route) → b ≡ Ok more → AllByRecursion IsAgain more) → before_others (at_line f.line a) b ≡ Ok rs → AllByRecursion IsAgain rs
    by_first (Err x) b p q h = absurd cc
    by_first (Ok x) (Err y) p q h = absurd cc
    by_first (Ok x) (Ok more) p q h = subst (AllByRecursion IsAgain) (right_is (x ∷ more) rs h) (p x refl, q more refl)

  all_added : (rs made : List Route) → AllByRecursion IsAgain made → AllByRecursion IsAgain rs → AllByRecursion IsAgain (fold added made rs)
  all_added [] made h k = h
  all_added (r ∷ rs) made h k = all_added rs (added made r) (by_seen (list_any (same_route r) made)) k.1 where
    by_seen : (b : Bool) → AllByRecursion IsAgain (if b then made else made ++ r ∷ [])
    by_seen true = h
    by_seen false = all_push IsAgain made r h k.0

  -- ---- the same routes, written again

  same_shown : (a b : FlatEnd) (x : Shown) → both_ends a b ≡ x → joined_ends (source_of other a) (target_of other b) ≡ joined_ends (source_of other x.0) (target_of other x.1)
  same_shown a b x e = ap (λ (y : Shown). joined_ends (source_of other y.0) (target_of other y.1)) e

  each_again : (gs : List FlatRoute) (rs : List Route) → AllByRecursion IsAgain rs → map route_shown gs ≡ map (written_route s) rs → each_of other gs ≡ Ok rs
  each_again [] [] h e = refl
  each_again [] (r ∷ rs) h e = absurd cc
  each_again (g ∷ gs) [] h e = absurd cc
  each_again (g ∷ gs) (r ∷ rs) h e =
      let first : route_of other g ≡ Ok r = same_shown g.source g.target (written_route s r) (first_is (route_shown g) (written_route s r) (map route_shown gs) (map (written_route s) rs) e) ∙ h.0.again in
      ap (λ (x : Result Route RouteFaultKind). before_others (at_line g.line x) (each_of other gs)) first
      ∙ ap (λ (x : Result (List Route) RouteFault). before_others (Ok r) x) (each_again gs rs h.1 (rest_is (route_shown g) (written_route s r) (map route_shown gs) (map (written_route s) rs) e))
    where
      first_is : (x y : Shown) (xs ys : List Shown) → (x ∷ xs) ≡ (y ∷ ys) → x ≡ y
      first_is x y xs ys e = cc

      rest_is : (x y : Shown) (xs ys : List Shown) → (x ∷ xs) ≡ (y ∷ ys) → xs ≡ ys
      rest_is x y xs ys e = cc

  pub record AreAgain (routes : List Route) : Type 0 where
    pub all : AllByRecursion IsAgain routes
    pub once : firsts routes ≡ routes
    pub few : limited routes ≡ Ok routes

  are_again : (fs : List FlatRoute) (routes : List Route) → firsts_of (each_of s fs) ≡ Ok routes → AreAgain routes
  are_again fs routes e = by_all (each_of s fs) (λ rs. all_again fs rs) e where
    by_all : (a : Result (List Route) RouteFault) → ((rs : List Route) → a ≡ Ok rs → AllByRecursion IsAgain rs) → firsts_of a ≡ Ok routes → AreAgain routes
    by_all (Err x) k h = absurd cc
    by_all (Ok rs) k h =
        let is : firsts rs ≡ routes = limited_is (firsts rs) routes h in
        record {
          all = subst (λ (l : List Route). AllByRecursion IsAgain l) is (all_added rs [] tt (k rs refl));
          once = subst (λ (l : List Route). firsts l ≡ l) is (no_repeats rs);
          few = subst (λ (l : List Route). limited l ≡ Ok routes) is h;
        }

  resolved_again : (gs : List FlatRoute) (routes : List Route) → AreAgain routes → map route_shown gs ≡ map (written_route s) routes → firsts_of (each_of other gs) ≡ Ok routes
  resolved_again gs routes h e =
      ap firsts_of (each_again gs routes h.all e) ∙ ap limited h.once ∙ h.few

pub routes_resolve : LabelsAreDistinct → WrittenNodesClose → RoutesAreRead → WrittenRoutesResolve
routes_resolve labels closing reads from scene other routes state again is few kept e made keeps =
    let all = are_again scene other keeps from.routes routes e in
    let writable = all_weaker (IsAgain scene other keeps) (IsWritableRoute scene) (λ r h. h.writable) routes all.all in
    resolved_again scene other keeps again.routes routes all (routes_stay labels closing reads from scene routes state again is few kept writable made)
