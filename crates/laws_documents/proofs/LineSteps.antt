-- The steps of a walk without lines: names, routes, and braces that close.
use Rattle.std.proofs.Common.{◌≡◌, ℕ, ◌+◌, Bool, true, false, if◌then◌else◌, List, [], ◌∷◌, ◌++◌, codes, drop, take, length, nat_eq, Option, Some, None, option_map, map, bytes_eq, slice_get, slice_set, zero, suc, refl, ap, sym, ◌∙◌, subst}
use Rattle.std.specs.Prelude.{◌&&◌, ◌||◌, ◌-◌}
use Rattle.std.specs.List.{find, fold, filter_map, cons_option, list_any, starts_with, ends_with}
use Rattle.std.specs.Option.{option_and_then, option_map_or, option_or}
use Rattle.std.proofs.lemmas.List.{length-map, map-append, map-set}
use Rattle.std.proofs.lemmas.Option.{slice_get-map}
use Rattle.x3d_values.specs.declared.field_type.Access.{Access}
use Rattle.x3d_values.specs.declared.node_type.NodeType.{NodeType}
use Rattle.x3d_values.specs.Access.{is_exposed, receives, sends}
use Rattle.x3d_values.specs.Tables.{rows}
use Rattle.classic_tree.specs.declared.tree.RouteEnd.{RouteEnd}
use Rattle.classic_tree.specs.declared.tree.RawValue.{RawValue}
use Rattle.classic_tree.specs.declared.tree.RouteText.{RouteText}
use Rattle.proto_flat.specs.declared.fault.ExpandFaultKind.TheVariants.{UseWithoutDef}
use Rattle.proto_flat.specs.declared.flat.FlatEnd.{FlatEnd}
use Rattle.proto_flat.specs.declared.flat.FlatEnd.TheVariants.{At}
use Rattle.proto_flat.specs.declared.flat.FlatField.{FlatField}
use Rattle.proto_flat.specs.declared.flat.FlatNode.{FlatNode}
use Rattle.proto_flat.specs.declared.flat.FlatRoute.{FlatRoute}
use Rattle.proto_meaning.specs.Limits.{AnItem}
use Rattle.proto_meaning.specs.Names.{Name, Field, Filled, Stands, Braces, Scope, ends_at, ends_by, exposed_field, has_name, last_from, own_field, pairs, source_in, sources, stands_at, target_in, targets, used, value_of}
use Rattle.proto_meaning.specs.Sight.{Put, Owner}
use Rattle.proto_meaning.specs.Flat.{Walk, Inside, close, close_node, flat_node, is_filled, meet, note, note_route, numbered_from, pure, refuse, renamed}
use Rattle.laws_documents.specs.Lines.{unlined_field, unlined_flat_node, unlined_flat_route, unlined_route}
use Rattle.laws_documents.proofs.LineWalks.{Alike, DoesAlike, Equal, ScopeAlike, WalkAlike, bare_braces, bare_field, bare_fields, bare_filled, bare_inside, bare_put, bare_stands, meet_alike, then_alike}

-- ---- names

node_bare : (s : Option Stands) → option_map (λ (s : Stands). s.node) (option_map bare_stands s) ≡ option_map (λ (s : Stands). s.node) s
node_bare None = refl
node_bare (Some s) = refl

abbrev next_used : Name → Option ℕ → Braces → Option ℕ
next_used name before b = if has_name name b then option_or (option_map (λ (s : Stands). s.node) b.stands) before else before

used_bare : (name : Name) (bs : List Braces) (before : Option ℕ) → fold (next_used name) before (map bare_braces bs) ≡ fold (next_used name) before bs
used_bare name [] before = refl
used_bare name (b ∷ bs) before =
    used_bare name bs (next_used name before (bare_braces b)) ∙ ap (λ o. fold (next_used name) (if has_name name b then option_or o before else before) bs) (node_bare b.stands)

use_by : (line : ℕ) (o : Option ℕ) → DoesAlike (Equal {A = ℕ}) (option_map_or pure o (refuse UseWithoutDef line)) (option_map_or pure o (refuse UseWithoutDef 0))
use_by line None w v k = record { met = refl; comes_to = refl }
use_by line (Some n) w v k = record { met = refl; comes_to = (refl, k) }

pub use_alike : (line : ℕ) (name : Name) → DoesAlike (Equal {A = ℕ}) (λ w. option_map_or pure (used name w.scope.braces) (refuse UseWithoutDef line) w) (λ v. option_map_or pure (used name v.scope.braces) (refuse UseWithoutDef 0) v)
use_alike line name w v k =
    subst (λ (o : Option ℕ). Alike (Equal {A = ℕ}) (option_map_or pure (used name w.scope.braces) (refuse UseWithoutDef line) w) (option_map_or pure o (refuse UseWithoutDef 0) v))
    (sym (ap (used name) k.scope.braces ∙ used_bare name w.scope.braces None)) (use_by line (used name w.scope.braces) w v k)

last_bare : (at : ℕ) (name : Name) (bs : List Braces) → last_from at name (map bare_braces bs) ≡ last_from at name bs
last_bare at name [] = refl
last_bare at name (b ∷ bs) = ap (λ o. option_or o (if has_name name b then Some at else None)) (last_bare (at + 1) name bs)

stands_in : (b : Option Braces) → option_and_then (λ (b : Braces). b.stands) (option_map bare_braces b) ≡ option_map bare_stands (option_and_then (λ (b : Braces). b.stands) b)
stands_in None = refl
stands_in (Some b) = refl

pub stands_bare : (all : List Braces) (at : Option ℕ) → stands_at (map bare_braces all) at ≡ option_map bare_stands (stands_at all at)
stands_bare all None = refl
stands_bare all (Some k) = ap (option_and_then (λ (b : Braces). b.stands)) (slice_get-map bare_braces all k) ∙ stands_in (slice_get all k)

-- ---- fields by name

if_bare : (b : Bool) (f : Field) (o : Option Field) (q : Option Field) → q ≡ option_map bare_field o → (if b then Some (bare_field f) else q) ≡ option_map bare_field (if b then Some f else o)
if_bare true f o q e = refl
if_bare false f o q e = e

pub find_bare : (test : Field → Bool) → ((f : Field) → test (bare_field f) ≡ test f) → (fs : List Field) → find test (bare_fields fs) ≡ option_map bare_field (find test fs)
find_bare test same [] = refl
find_bare test same (f ∷ fs) =
    ap (λ b. if b then Some (bare_field f) else find test (bare_fields fs)) (same f) ∙ if_bare (test f) f (find test fs) (find test (bare_fields fs)) (find_bare test same fs)

or_bare : (a b : Option Field) → option_or (option_map bare_field a) (option_map bare_field b) ≡ option_map bare_field (option_or a b)
or_bare (Some a) b = refl
or_bare None b = refl

own_bare : (fs : List Field) (name : Name) → own_field (bare_fields fs) name ≡ option_map bare_field (own_field fs name)
own_bare fs name = find_bare (λ f. bytes_eq f.name name) (λ f. refl) fs

exposed_bare : (fs : List Field) (name : Name) → exposed_field (bare_fields fs) name ≡ option_map bare_field (exposed_field fs name)
exposed_bare fs name = find_bare (λ f. is_exposed f.access && bytes_eq f.name name) (λ f. refl) fs

-- by another name, where there may be none
alias_bare : (b : Bool) (fs : List Field) (own name : Name)
    → option_or (own_field (bare_fields fs) name) (if b then exposed_field (bare_fields fs) own else None) ≡ option_map bare_field (option_or (own_field fs name) (if b then exposed_field fs own else None))
alias_bare true fs own name =
    ap (λ o. option_or o (exposed_field (bare_fields fs) own)) (own_bare fs name)
    ∙ ap (λ o. option_or (option_map bare_field (own_field fs name)) o) (exposed_bare fs own)
    ∙ or_bare (own_field fs name) (exposed_field fs own)
alias_bare false fs own name = ap (λ o. option_or o None) (own_bare fs name) ∙ or_bare (own_field fs name) None

abbrev KeepsBare : (List Field → Name → Option Field) → Type 0
KeepsBare named = (fs : List Field) (name : Name) → named (bare_fields fs) name ≡ option_map bare_field (named fs name)

source_bare : KeepsBare source_in
source_bare fs name = alias_bare (ends_with nat_eq name (codes "_changed")) fs (take (length name - length (codes "_changed")) name) name

target_bare : KeepsBare target_in
target_bare fs name = alias_bare (starts_with nat_eq name (codes "set_")) fs (drop (length (codes "set_")) name) name

abbrev pub bare_numbered : ℕ × Field → ℕ × Field
bare_numbered f = (f.0, bare_field f.1)

numbered_if : (b : Bool) (f : ℕ × Field) (o q : Option (ℕ × Field)) → q ≡ option_map bare_numbered o → (if b then Some (bare_numbered f) else q) ≡ option_map bare_numbered (if b then Some f else o)
numbered_if true f o q e = refl
numbered_if false f o q e = e

pub numbered_bare : (n : ℕ) (name : Name) (fs : List Field) → numbered_from n name (bare_fields fs) ≡ option_map bare_numbered (numbered_from n name fs)
numbered_bare n name [] = refl
numbered_bare n name (f ∷ fs) = numbered_if (bytes_eq f.name name) (n, f) (numbered_from (n + 1) name fs) (numbered_from (n + 1) name (bare_fields fs)) (numbered_bare (n + 1) name fs)

any_bare : (name : Name) (fs : List Filled) → list_any (λ (f : Filled). bytes_eq f.name name) (map bare_filled fs) ≡ list_any (λ (f : Filled). bytes_eq f.name name) fs
any_bare name [] = refl
any_bare name (f ∷ fs) = ap (λ b. bytes_eq f.name name || b) (any_bare name fs)

pub filled_bare : (name : Name) (owner : Owner) (b : Inside) → is_filled name (bare_inside owner b) ≡ is_filled name b
filled_bare name owner b = any_bare name b.filled

pub value_bare : (name : Name) (fs : List Filled) → value_of name (map bare_filled fs) ≡ value_of name fs
value_bare name [] = refl
value_bare name (f ∷ fs) = ap (λ o. option_or (if bytes_eq f.name name then f.value else None) o) (value_bare name fs)

-- ---- routes

ends_by_bare : (allowed : Access → Bool) (s : Stands) (f : Option Field) → ends_by allowed (bare_stands s) (option_map bare_field f) ≡ ends_by allowed s f
ends_by_bare allowed s None = refl
ends_by_bare allowed s (Some f) = refl

ends_bare : (allowed : Access → Bool) (named : List Field → Name → Option Field) (keeps : KeepsBare named) (field : Name) (s : Option Stands) → ends_at allowed named field (option_map bare_stands s) ≡ ends_at allowed named field s
ends_bare allowed named keeps field None = refl
ends_bare allowed named keeps field (Some s) = by_interface s.interface where
  by_interface : (o : Option (List Field)) → option_map_or (λ fields. ends_by allowed (bare_stands s) (named fields field)) (option_map bare_fields o) (s.ends field) ≡ option_map_or (λ fields. ends_by allowed s (named fields field)) o (s.ends field)
  by_interface None = refl
  by_interface (Some fs) = ap (ends_by allowed (bare_stands s)) (keeps fs field) ∙ ends_by_bare allowed s (named fs field)

one_source : (line : ℕ) (s : FlatEnd) (ts : List FlatEnd) → map unlined_flat_route (map (λ t. record { line = line; source = s; target = t }) ts) ≡ map (λ t. record { line = 0; source = s; target = t }) ts
one_source line s [] = refl
one_source line s (t ∷ ts) = ap (λ (rs : List FlatRoute). record { line = 0; source = s; target = t } ∷ rs) (one_source line s ts)

pairs_bare : (line : ℕ) (ss ts : List FlatEnd) → map unlined_flat_route (pairs line ss ts) ≡ pairs 0 ss ts
pairs_bare line [] ts = refl
pairs_bare line (s ∷ ss) ts =
    map-append unlined_flat_route (map (λ t. record { line = line; source = s; target = t }) ts) (pairs line ss ts)
    ∙ ap (λ rs. rs ++ map unlined_flat_route (pairs line ss ts)) (one_source line s ts)
    ∙ ap (λ rs. map (λ t. record { line = 0; source = s; target = t }) ts ++ rs) (pairs_bare line ss ts)

end_of : (allowed : Access → Bool) (named : List Field → Name → Option Field) (keeps : KeepsBare named) (p : RouteEnd) (bs all : List Braces)
    → ends_at allowed named p.field (stands_at (map bare_braces all) (last_from 0 p.node (map bare_braces bs))) ≡ ends_at allowed named p.field (stands_at all (last_from 0 p.node bs))
end_of allowed named keeps p bs all =
    ap (λ at. ends_at allowed named p.field (stands_at (map bare_braces all) at)) (last_bare 0 p.node bs)
    ∙ ap (ends_at allowed named p.field) (stands_bare all (last_from 0 p.node bs))
    ∙ ends_bare allowed named keeps p.field (stands_at all (last_from 0 p.node bs))

abbrev noted : RouteText → Scope → Scope
noted route s = record s {
  routes = λ all. s.routes all ++ pairs route.line (sources s.braces all route.source) (targets s.braces all route.target);
}

noted_routes : (route : RouteText) (s t : Scope) → ScopeAlike s t → (all : List Braces) → (noted (unlined_route route) t).routes (map bare_braces all) ≡ map unlined_flat_route ((noted route s).routes all)
noted_routes route s t h all =
    let ss = sources s.braces all route.source in
    let ts = targets s.braces all route.target in
    ap (λ bs. t.routes (map bare_braces all) ++ pairs 0 (sources bs (map bare_braces all) route.source) (targets bs (map bare_braces all) route.target)) h.braces
    ∙ ap (λ rs. rs ++ pairs 0 (sources (map bare_braces s.braces) (map bare_braces all) route.source) (targets (map bare_braces s.braces) (map bare_braces all) route.target)) (h.routes all)
    ∙ ap (λ es. map unlined_flat_route (s.routes all) ++ pairs 0 es (targets (map bare_braces s.braces) (map bare_braces all) route.target)) (end_of sends source_in source_bare route.source s.braces all)
    ∙ ap (λ es. map unlined_flat_route (s.routes all) ++ pairs 0 ss es) (end_of receives target_in target_bare route.target s.braces all)
    ∙ ap (λ rs. map unlined_flat_route (s.routes all) ++ rs) (sym (pairs_bare route.line ss ts))
    ∙ sym (map-append unlined_flat_route (s.routes all) (pairs route.line ss ts))

pub route_alike : (route : RouteText) → DoesAlike (Equal {A = Unit {0}}) (note_route route) (note_route (unlined_route route))
route_alike route =
    then_alike Equal Equal (meet AnItem) (meet AnItem) (λ _. note (tt {0}) (noted route)) (λ _. note (tt {0}) (noted (unlined_route route))) (meet_alike AnItem AnItem refl)
    (λ a b e w v k. record {
      met = refl;
      comes_to = (
        refl,
        record {
          put = k.put;
          sight = k.sight;
          scope = record {
            braces = k.scope.braces;
            routes = noted_routes route w.scope v.scope k.scope;
            ends = k.scope.ends;
            interface = k.scope.interface;
            given = k.scope.given;
          };
        },
      );
    })

-- ---- braces that close

-- with what was put in then, and the routes so far
pub close_alike : (name : Option Name) (at : ℕ) (what : Stands) (new : Stands) (p q : Put) (w v : Walk) → new ≡ bare_stands what → q ≡ bare_put p → WalkAlike w v → Alike (Equal {A = ℕ}) (close name at what p w) (close name at new q v)
close_alike name at what new p q w v e f k =
    record {
      met = refl;
      comes_to = (
        ap (λ (s : Stands). s.node) e,
        record {
          put = f;
          sight = k.sight;
          scope = record {
            braces =
                ap (λ bs. slice_set bs at (record { name = name; stands = Some new })) k.scope.braces
                ∙ ap (λ (s : Stands). slice_set (map bare_braces w.scope.braces) at (record { name = name; stands = Some s })) e
                ∙ sym (map-set bare_braces w.scope.braces at (record { name = name; stands = Some what }));
            routes = k.scope.routes;
            ends = k.scope.ends;
            interface = k.scope.interface;
            given = k.scope.given;
          };
        },
      );
    }

at_node : ℕ → Stands
at_node n = record { node = n; interface = None; ends = λ f. At n f ∷ [] }

pub close_node_alike : (name : Option Name) (at : ℕ) (node : FlatNode) → DoesAlike (Equal {A = ℕ}) (close_node name at node) (close_node name at (unlined_flat_node node))
unfolding at_node
close_node_alike name at node w v k =
    let count : length v.put.nodes ≡ length w.put.nodes = ap (λ (p : Put). length p.nodes) k.put ∙ length-map w.put.nodes unlined_flat_node in
    close_alike name at (at_node (length w.put.nodes)) (at_node (length v.put.nodes)) (record w.put { nodes = w.put.nodes ++ node ∷ [] }) (record v.put { nodes = v.put.nodes ++ unlined_flat_node node ∷ [] }) w v
    (ap at_node count)
    (ap (λ (p : Put). record p { nodes = p.nodes ++ unlined_flat_node node ∷ [] }) k.put ∙ ap (λ ns. record (bare_put w.put) { nodes = ns }) (sym (map-append unlined_flat_node w.put.nodes (node ∷ [])))) k

-- ---- a node, and one that takes another name

abbrev field_of : Filled → Option FlatField
field_of f = option_map (λ v. record { line = f.line; number = f.number; value = v }) f.value

one_field : (f : Filled) (v : Option (RawValue ℕ)) (fs : List FlatField)
    → cons_option (option_map (λ (x : RawValue ℕ). record { line = 0; number = f.number; value = x }) v) (map unlined_field fs) ≡ map unlined_field (cons_option (option_map (λ (x : RawValue ℕ). record { line = f.line; number = f.number; value = x }) v) fs)
one_field f None fs = refl
one_field f (Some v) fs = refl

fields_bare : (fs : List Filled) → filter_map field_of (map bare_filled fs) ≡ map unlined_field (filter_map field_of fs)
fields_bare [] = refl
fields_bare (f ∷ fs) = ap (cons_option (field_of (bare_filled f))) (fields_bare fs) ∙ one_field f f.value (filter_map field_of fs)

drop_bare : (n : ℕ) (fs : List Field) → drop n (bare_fields fs) ≡ bare_fields (drop n fs)
drop_bare zero fs = refl
drop_bare (suc n) [] = refl
drop_bare (suc n) (f ∷ fs) = drop_bare n fs

pub node_is_bare : (line : ℕ) (name : Option Name) (t : NodeType) (owner : Owner) (b : Inside) → flat_node 0 name t (bare_inside owner b) ≡ unlined_flat_node (flat_node line name t b)
node_is_bare line name t owner b =
    ap (λ fs. record { line = 0; name = name; node_type = t; fields = fs; interface = drop (length (rows t)) (bare_fields b.fields) }) (fields_bare b.filled)
    ∙ ap (λ ds. record { line = 0; name = name; node_type = t; fields = map unlined_field (filter_map field_of b.filled); interface = ds }) (drop_bare (length (rows t)) b.fields)

named_bare : (name : Option Name) (n : ℕ) (nodes : List FlatNode) (o : Option FlatNode)
    → option_map_or (λ node. slice_set (map unlined_flat_node nodes) n (record node { name = name })) (option_map unlined_flat_node o) (map unlined_flat_node nodes) ≡ map unlined_flat_node (option_map_or (λ node. slice_set nodes n (record node { name = name })) o nodes)
named_bare name n nodes None = refl
named_bare name n nodes (Some node) = sym (map-set unlined_flat_node nodes n (record node { name = name }))

pub renamed_bare : (name : Option Name) (n : ℕ) (nodes : List FlatNode) → renamed name n (map unlined_flat_node nodes) ≡ map unlined_flat_node (renamed name n nodes)
renamed_bare None n nodes = refl
renamed_bare (Some name) n nodes =
    ap (λ o. option_map_or (λ node. slice_set (map unlined_flat_node nodes) n (record node { name = Some name })) o (map unlined_flat_node nodes)) (slice_get-map unlined_flat_node nodes n)
    ∙ named_bare (Some name) n nodes (slice_get nodes n)
