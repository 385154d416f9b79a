-- What every step of the walk keeps: whatever it names was put in before.
use Rattle.std.proofs.Common.{◌≡◌, ℕ, zero, suc, ◌<◌, ◌≤◌, Bool, true, false, if◌then◌else◌, List, [], ◌∷◌, ◌++◌, length, map, option_map, Option, Some, None, Result, Ok, Err, bytes_eq, slice_get, slice_set, arith, length-append, length-set, refl}
use Rattle.std.specs.List.{fold}
use Rattle.std.specs.Option.{option_and_then, option_map_or, option_or}
use Rattle.x3d_values.specs.declared.field_type.Access.{Access}
use Rattle.x3d_values.specs.Access.{receives, sends}
use Rattle.classic_tree.specs.declared.tree.RawValue.{RawValue}
use Rattle.classic_tree.specs.declared.tree.RouteText.{RouteText}
use Rattle.proto_flat.specs.declared.fault.ExpandFault.{ExpandFault}
use Rattle.proto_flat.specs.declared.fault.ExpandFaultKind.TheVariants.{UseWithoutDef}
use Rattle.proto_flat.specs.declared.flat.FlatEnd.{FlatEnd}
use Rattle.proto_flat.specs.declared.flat.FlatEnd.TheVariants.{WrongWay}
use Rattle.proto_flat.specs.declared.flat.FlatNode.{FlatNode}
use Rattle.proto_flat.specs.declared.flat.FlatRoute.{FlatRoute}
use Rattle.proto_meaning.specs.Limits.{Met, AnItem}
use Rattle.proto_meaning.specs.Names.{Name, Field, Filled, Stands, Braces, Scope, ends_at, ends_by, has_name, pairs, source_in, sources, stands_at, target_in, targets, used, value_of}
use Rattle.proto_meaning.specs.Sight.{Put, Sight, Look}
use Rattle.proto_meaning.specs.Flat.{Walk, Does, ◌>>=◌, close, close_node, meet, note, note_route, pure, refuse, renamed, see}
use Rattle.laws_documents.specs.Order.{AreFieldsBelow, IsEndBelow, IsRouteBelow, IsValueBelow}
use Rattle.laws_documents.proofs.Lists.{IfSome, all_append, all_flat, all_map, all_set, at_all}
use Rattle.laws_documents.proofs.OrderGood.{Any, AreBracesBelow, AreEndsBelow, AreFilledBelow, AreOrdered, AreRoutesBelow, DoesWell, Ends, IsBelow, IsBracesBelow, IsGoodPut, IsGoodScope, IsGoodSight, IsGoodWalk, IsStandsBelow, Keeps, KeepsSight, Sees, count, done, ends_then, ordered_push, raise_all, raise_scope, same}

-- ---- small steps

pub meet_keeps : (m : Met) → Keeps (meet m)
meet_keeps m w g = done Any tt w g tt

pub pure_does : {A : Type 0} (P : ℕ → A → Type 0) (a : A) (w : Walk) → IsGoodWalk w → P (count w) a → Ends P (count w) (pure a w)
pure_does P a w g p = done P a w g p

pub keeps_then : {A B : Type 0} (m : Does A) (f : A → Does B) → Keeps m → ((a : A) → Keeps (f a)) → Keeps (λ w. (m >>= f) w)
keeps_then m f h k w g = ends_then Any Any f (count w) (m w) (h w g) (λ a v i l p. k a v i)

pub note_does : {A : Type 0} (P : ℕ → A → Type 0) (a : A) (f : Scope → Scope) (w : Walk) → IsGoodWalk w → IsGoodScope (count w) (f w.scope) → P (count w) a → Ends P (count w) (note a f w)
note_does P a f w g s p = record { told = p; good = record { put = g.put; scope = s; sight = g.sight }; grown = same (count w) }

-- ---- what is in sight

seen : (w : Walk) → IsGoodWalk w → (r : Result Sight ExpandFault) → Sees r → Ends (Any {A = Unit {0}}) (count w) (see (λ s. r) w)
seen w g (Ok s) h = record { told = tt; good = record { put = g.put; scope = g.scope; sight = h }; grown = same (count w) }
seen w g (Err e) h = tt

pub see_keeps : (step : Look) → KeepsSight step → Keeps (see step)
see_keeps step h w g = seen w g (step w.sight) (h w.sight g.sight)

-- ---- names

used_below : (bound : ℕ) (name : Name) (all : List Braces) (before : Option ℕ) → AreBracesBelow bound all → IfSome (IsBelow bound) before
    → IfSome (IsBelow bound) (fold (λ before b. if has_name name b then option_or (option_map (λ (s : Stands). s.node) b.stands) before else before) before all)
used_below bound name [] before h k = k
used_below bound name (b ∷ all) before h k = used_below bound name all _ h.1 (by_name (has_name name b) b.stands h.0) where
  by_name : (c : Bool) (s : Option Stands) → IfSome (IsStandsBelow bound) s → IfSome (IsBelow bound) (if c then option_or (option_map (λ (s : Stands). s.node) s) before else before)
  by_name true None i = k
  by_name true (Some s) i = i.node
  by_name false s i = k

use_by : (line : ℕ) (o : Option ℕ) (w : Walk) → IsGoodWalk w → IfSome (IsBelow (count w)) o → Ends IsBelow (count w) (option_map_or pure o (refuse UseWithoutDef line) w)
use_by line None w g h = tt
use_by line (Some n) w g h = done IsBelow n w g h

pub use_does : (line : ℕ) (name : Name) → DoesWell IsBelow (λ w. option_map_or pure (used name w.scope.braces) (refuse UseWithoutDef line) w)
use_does line name w g = use_by line (used name w.scope.braces) w g (used_below (count w) name w.scope.braces None g.scope.braces tt)

stands_in : (bound : ℕ) (b : Option Braces) → IfSome (IsBracesBelow bound) b → IfSome (IsStandsBelow bound) (option_and_then (λ (b : Braces). b.stands) b)
stands_in bound None h = tt
stands_in bound (Some b) h = h

pub stands_below : (bound : ℕ) (all : List Braces) (at : Option ℕ) → AreBracesBelow bound all → IfSome (IsStandsBelow bound) (stands_at all at)
stands_below bound all None h = tt
stands_below bound all (Some k) h = stands_in bound (slice_get all k) (at_all (IsBracesBelow bound) all k h)

-- ---- routes

ends_by_below : (bound : ℕ) (allowed : Access → Bool) (s : Stands) → IsStandsBelow bound s → (f : Option Field) → AreEndsBelow bound (ends_by allowed s f)
ends_by_below bound allowed s h None = (tt, tt)
ends_by_below bound allowed s h (Some f) = by_access (allowed f.access) where
  by_access : (b : Bool) → AreEndsBelow bound (if b then s.ends f.name else WrongWay ∷ [])
  by_access true = h.ends f.name
  by_access false = (tt, tt)

ends_below : (bound : ℕ) (allowed : Access → Bool) (named : List Field → Name → Option Field) (field : Name) (s : Option Stands) → IfSome (IsStandsBelow bound) s → AreEndsBelow bound (ends_at allowed named field s)
ends_below bound allowed named field None h = (tt, tt)
ends_below bound allowed named field (Some s) h = by_interface s.interface where
  by_interface : (o : Option (List Field)) → AreEndsBelow bound (option_map_or (λ fields. ends_by allowed s (named fields field)) o (s.ends field))
  by_interface None = h.ends field
  by_interface (Some fields) = ends_by_below bound allowed s h (named fields field)

pairs_below : (bound line : ℕ) (ss ts : List FlatEnd) → AreEndsBelow bound ss → AreEndsBelow bound ts → AreRoutesBelow bound (pairs line ss ts)
pairs_below bound line ss ts h k =
    all_flat (λ (s : FlatEnd). map (λ (t : FlatEnd). made s t) ts) (IsEndBelow bound) (IsRouteBelow bound)
    (λ s i. all_map (made s) (IsEndBelow bound) (IsRouteBelow bound) (λ t j. (i, j)) ts k) ss h where
      made : FlatEnd → FlatEnd → FlatRoute
      made s t = record { line = line; source = s; target = t }

pub route_keeps : (route : RouteText) → Keeps (note_route route)
route_keeps route =
    keeps_then (meet AnItem) (λ _. note (tt {0}) noted) (meet_keeps AnItem)
    (λ _ w g. note_does Any tt noted w g (record {
      braces = g.scope.braces;
      routes = λ bound l all h.
          all_append (IsRouteBelow bound) (w.scope.routes all) (pairs route.line (sources w.scope.braces all route.source) (targets w.scope.braces all route.target)) (g.scope.routes bound l all h)
          (pairs_below bound route.line (sources w.scope.braces all route.source) (targets w.scope.braces all route.target)
          (ends_below bound sends source_in route.source.field (stands_at all _) (stands_below bound all _ h))
          (ends_below bound receives target_in route.target.field (stands_at all _) (stands_below bound all _ h)));
      ends = g.scope.ends;
      given = g.scope.given;
    }) tt) where
      noted : Scope → Scope
      noted s = record s {
        routes = λ all. s.routes all ++ pairs route.line (sources s.braces all route.source) (targets s.braces all route.target);
      }

-- ---- braces that close

pub close_does : (name : Option Name) (at : ℕ) (what : Stands) (put : Put) (w : Walk) (least : ℕ) → least ≤ length put.nodes → IsGoodPut put → IsGoodScope (length put.nodes) w.scope → IsGoodSight w.sight → IsStandsBelow (length put.nodes) what
    → Ends IsBelow least (close name at what put w)
close_does name at what put w least l p s i h =
    record {
      told = h.node;
      good = record {
        put = p;
        scope = record {
          braces = all_set (IsBracesBelow (length put.nodes)) w.scope.braces at (record { name = name; stands = Some what }) s.braces h;
          routes = s.routes;
          ends = s.ends;
          given = s.given;
        };
        sight = i;
      };
      grown = l;
    }

one_more : (nodes : List FlatNode) (node : FlatNode) → length nodes ≤ length (nodes ++ node ∷ [])
one_more nodes node = omega (arith, length-append nodes (node ∷ []))

pub close_node_does : (name : Option Name) (at : ℕ) (node : FlatNode) (w : Walk) → IsGoodWalk w → AreFieldsBelow (count w) node.fields → Ends IsBelow (count w) (close_node name at node w)
close_node_does name at node w g h =
    let nodes = w.put.nodes ++ node ∷ [] in
    let more = one_more w.put.nodes node in
    let last : length w.put.nodes < length nodes = omega (arith, length-append w.put.nodes (node ∷ [])) in
    close_does name at _ (record w.put { nodes = nodes }) w (count w) more
    (record { nodes = ordered_push 0 (count w) w.put.nodes node g.put.nodes (omega arith) h; helpers = raise_all (count w) (length nodes) more w.put.helpers g.put.helpers })
    (raise_scope (count w) (length nodes) more w.scope g.scope) g.sight
    (record { node = last; ends = λ f. (last, tt) })

-- ---- a node that takes another name

abbrev named_at : Option Name → ℕ → List FlatNode → Option FlatNode → List FlatNode
named_at name n nodes o = option_map_or (λ (node : FlatNode). slice_set nodes n (record node { name = name })) o nodes

next_ordered : (name : Option Name) (first n : ℕ) (x : FlatNode) (xs : List FlatNode) (o : Option FlatNode) → AreFieldsBelow first x.fields → AreOrdered (suc first) (named_at name n xs o) → AreOrdered first (named_at name (suc n) (x ∷ xs) o)
next_ordered name first n x xs None h k = (h, k)
next_ordered name first n x xs (Some node) h k = (h, k)

named_ordered : (name : Option Name) (first n : ℕ) (nodes : List FlatNode) → AreOrdered first nodes → AreOrdered first (named_at name n nodes (slice_get nodes n))
named_ordered name first n [] h = tt
named_ordered name first zero (x ∷ xs) h = h
named_ordered name first (suc n) (x ∷ xs) h = next_ordered name first n x xs (slice_get xs n) h.0 (named_ordered name (suc first) n xs h.1)

pub renamed_ordered : (name : Option Name) (n : ℕ) (nodes : List FlatNode) → AreOrdered 0 nodes → AreOrdered 0 (renamed name n nodes)
renamed_ordered None n nodes h = h
renamed_ordered (Some name) n nodes h = named_ordered (Some name) 0 n nodes h

named_length : (name : Option Name) (n : ℕ) (nodes : List FlatNode) (o : Option FlatNode) → length (named_at name n nodes o) ≡ length nodes
named_length name n nodes None = refl
named_length name n nodes (Some node) = length-set nodes n (record node { name = name })

pub renamed_length : (name : Option Name) (n : ℕ) (nodes : List FlatNode) → length (renamed name n nodes) ≡ length nodes
renamed_length None n nodes = refl
renamed_length (Some name) n nodes = named_length (Some name) n nodes (slice_get nodes n)

-- ---- what was given

pub value_below : (bound : ℕ) (name : Name) (filled : List Filled) → AreFilledBelow bound filled → IfSome (IsValueBelow bound) (value_of name filled)
value_below bound name [] h = tt
value_below bound name (f ∷ fs) h = by_name (bytes_eq f.name name) f.value h.0 (value_below bound name fs h.1) where
  by_name : (b : Bool) (v : Option (RawValue ℕ)) → IfSome (IsValueBelow bound) v → IfSome (IsValueBelow bound) (value_of name fs) → IfSome (IsValueBelow bound) (option_or (if b then v else None) (value_of name fs))
  by_name true None i k = k
  by_name true (Some v) i k = i
  by_name false v i k = k
