-- The steps of a walk with other DEF names: USE, ROUTE, and braces that close.
use Rattle.std.proofs.Common.{◌≡◌, ℕ, ◌+◌, Bool, if◌then◌else◌, List, [], ◌∷◌, ◌++◌, length, Option, Some, None, option_map, map, slice_get, slice_set, zero, suc, refl, ap, sym, ◌∙◌, subst}
use Rattle.std.specs.List.{fold}
use Rattle.std.specs.Option.{option_and_then, option_map_or, option_or}
use Rattle.std.proofs.lemmas.List.{length-map, map-append, map-set}
use Rattle.std.proofs.lemmas.Option.{slice_get-map}
use Rattle.x3d_values.specs.declared.field_type.Access.{Access}
use Rattle.x3d_values.specs.Access.{receives, sends}
use Rattle.classic_tree.specs.declared.tree.RouteEnd.{RouteEnd}
use Rattle.classic_tree.specs.declared.tree.RouteText.{RouteText}
use Rattle.proto_flat.specs.declared.fault.ExpandFaultKind.TheVariants.{UseWithoutDef}
use Rattle.proto_flat.specs.declared.flat.FlatEnd.TheVariants.{At}
use Rattle.proto_flat.specs.declared.flat.FlatNode.{FlatNode}
use Rattle.proto_meaning.specs.Limits.{AnItem}
use Rattle.proto_meaning.specs.Names.{Name, Field, Stands, Braces, Scope, ends_at, has_name, last_from, pairs, source_in, sources, stands_at, target_in, targets, used}
use Rattle.proto_meaning.specs.Sight.{Put}
use Rattle.proto_meaning.specs.Flat.{Walk, close, close_node, meet, note, note_route, pure, refuse, renamed}
use Rattle.laws_documents.specs.RenamedDefs.{end_in, nameless, route_in}
use Rattle.laws_documents.proofs.LineWalks.{Equal}
use Rattle.laws_documents.proofs.DefWalks.{Alike, Apart, DoesAlike, PutAlike, ScopeAlike, WalkAlike, meet_alike, other_braces, then_alike}

module _ (r : Name → Name) (good : Apart r) where
  abbrev other : Braces → Braces
  other = other_braces r

  -- ---- names

  name_same : (name : Name) (o : Option Name) → has_name (r name) (record { name = option_map r o; stands = None }) ≡ has_name name (record { name = o; stands = None })
  name_same name None = refl
  name_same name (Some n) = good name n

  has_same : (name : Name) (b : Braces) → has_name (r name) (other b) ≡ has_name name b
  has_same name b = name_same name b.name

  abbrev next_used : Name → Option ℕ → Braces → Option ℕ
  next_used name before b = if has_name name b then option_or (option_map (λ (s : Stands). s.node) b.stands) before else before

  used_same : (name : Name) (bs : List Braces) (before : Option ℕ) → fold (next_used (r name)) before (map other bs) ≡ fold (next_used name) before bs
  used_same name [] before = refl
  used_same name (b ∷ bs) before =
      used_same name bs (next_used (r name) before (other b))
      ∙ ap (λ t. fold (next_used name) (if t then option_or (option_map (λ (s : Stands). s.node) b.stands) before else before) bs) (has_same name b)

  use_by : (line : ℕ) (o : Option ℕ) → DoesAlike r (Equal {A = ℕ}) (option_map_or pure o (refuse UseWithoutDef line)) (option_map_or pure o (refuse UseWithoutDef line))
  use_by line None w v k = record { met = refl; comes_to = refl }
  use_by line (Some n) w v k = record { met = refl; comes_to = (refl, k) }

  pub use_alike : (line : ℕ) (name : Name) → DoesAlike r (Equal {A = ℕ}) (λ w. option_map_or pure (used name w.scope.braces) (refuse UseWithoutDef line) w) (λ v. option_map_or pure (used (r name) v.scope.braces) (refuse UseWithoutDef line) v)
  use_alike line name w v k =
      subst (λ (o : Option ℕ). Alike r (Equal {A = ℕ}) (option_map_or pure (used name w.scope.braces) (refuse UseWithoutDef line) w) (option_map_or pure o (refuse UseWithoutDef line) v))
      (sym (ap (used (r name)) k.scope.braces ∙ used_same name w.scope.braces None)) (use_by line (used name w.scope.braces) w v k)

  last_same : (at : ℕ) (name : Name) (bs : List Braces) → last_from at (r name) (map other bs) ≡ last_from at name bs
  last_same at name [] = refl
  last_same at name (b ∷ bs) =
      ap (λ o. option_or o (if has_name (r name) (other b) then Some at else None)) (last_same (at + 1) name bs)
      ∙ ap (λ t. option_or (last_from (at + 1) name bs) (if t then Some at else None)) (has_same name b)

  stands_in : (b : Option Braces) → option_and_then (λ (b : Braces). b.stands) (option_map other b) ≡ option_and_then (λ (b : Braces). b.stands) b
  stands_in None = refl
  stands_in (Some b) = refl

  pub stands_same : (all : List Braces) (at : Option ℕ) → stands_at (map other all) at ≡ stands_at all at
  stands_same all None = refl
  stands_same all (Some k) = ap (option_and_then (λ (b : Braces). b.stands)) (slice_get-map other all k) ∙ stands_in (slice_get all k)

  -- ---- routes

  end_same : (allowed : Access → Bool) (field_in : List Field → Name → Option Field) (p : RouteEnd) (bs all : List Braces)
      → ends_at allowed field_in p.field (stands_at (map other all) (last_from 0 (r p.node) (map other bs))) ≡ ends_at allowed field_in p.field (stands_at all (last_from 0 p.node bs))
  end_same allowed field_in p bs all =
      ap (λ at. ends_at allowed field_in p.field (stands_at (map other all) at)) (last_same 0 p.node bs)
      ∙ ap (ends_at allowed field_in p.field) (stands_same all (last_from 0 p.node bs))

  abbrev noted : RouteText → Scope → Scope
  noted route s = record s {
    routes = λ all. s.routes all ++ pairs route.line (sources s.braces all route.source) (targets s.braces all route.target);
  }

  noted_routes : (route : RouteText) (s t : Scope) → ScopeAlike r s t → (all : List Braces) → (noted (route_in r route) t).routes (map other all) ≡ (noted route s).routes all
  noted_routes route s t h all =
      let ss = sources s.braces all route.source in
      ap (λ bs. t.routes (map other all) ++ pairs route.line (sources bs (map other all) (end_in r route.source)) (targets bs (map other all) (end_in r route.target))) h.braces
      ∙ ap (λ rs. rs ++ pairs route.line (sources (map other s.braces) (map other all) (end_in r route.source)) (targets (map other s.braces) (map other all) (end_in r route.target))) (h.routes all)
      ∙ ap (λ es. s.routes all ++ pairs route.line es (targets (map other s.braces) (map other all) (end_in r route.target))) (end_same sends source_in route.source s.braces all)
      ∙ ap (λ es. s.routes all ++ pairs route.line ss es) (end_same receives target_in route.target s.braces all)

  pub route_alike : (route : RouteText) → DoesAlike r (Equal {A = Unit {0}}) (note_route route) (note_route (route_in r route))
  route_alike route =
      then_alike r Equal Equal (meet AnItem) (meet AnItem) (λ _. note (tt {0}) (noted route)) (λ _. note (tt {0}) (noted (route_in r route))) (meet_alike r AnItem AnItem refl)
      (λ a b e w v k. record {
        met = refl;
        comes_to = (
          refl,
          record {
            put = k.put;
            sight = k.sight;
            scope = record {
              braces = k.scope.braces;
              routes = noted_routes route w.scope v.scope k.scope;
              ends = k.scope.ends;
              interface = k.scope.interface;
              given = k.scope.given;
            };
          },
        );
      })

  -- ---- braces that close

  -- with what was added then, and the routes so far
  pub close_alike : (name : Option Name) (at : ℕ) (what new : Stands) (p q : Put) (w v : Walk) → new ≡ what → PutAlike p q → WalkAlike r w v → Alike r (Equal {A = ℕ}) (close name at what p w) (close (option_map r name) at new q v)
  close_alike name at what new p q w v e f k =
      record {
        met = refl;
        comes_to = (
          ap (λ (s : Stands). s.node) e,
          record {
            put = f;
            sight = k.sight;
            scope = record {
              braces =
                  ap (λ bs. slice_set bs at (record { name = option_map r name; stands = Some new })) k.scope.braces
                  ∙ ap (λ (s : Stands). slice_set (map other w.scope.braces) at (record { name = option_map r name; stands = Some s })) e
                  ∙ sym (map-set other w.scope.braces at (record { name = name; stands = Some what }));
              routes = k.scope.routes;
              ends = k.scope.ends;
              interface = k.scope.interface;
              given = k.scope.given;
            };
          },
        );
      }

  at_node : ℕ → Stands
  at_node n = record { node = n; interface = None; ends = λ f. At n f ∷ [] }

  pub close_node_alike : (name : Option Name) (at : ℕ) (node new : FlatNode) → nameless new ≡ nameless node → DoesAlike r (Equal {A = ℕ}) (close_node name at node) (close_node (option_map r name) at new)
  unfolding at_node
  close_node_alike name at node new e w v k =
      let count : length v.put.nodes ≡ length w.put.nodes = sym (length-map v.put.nodes nameless) ∙ ap length k.put.nodes ∙ length-map w.put.nodes nameless in
      close_alike name at (at_node (length w.put.nodes)) (at_node (length v.put.nodes)) (record w.put { nodes = w.put.nodes ++ node ∷ [] }) (record v.put { nodes = v.put.nodes ++ new ∷ [] }) w v
      (ap at_node count)
      (record {
        nodes =
            map-append nameless v.put.nodes (new ∷ [])
            ∙ ap (λ ns. ns ++ nameless new ∷ []) k.put.nodes
            ∙ ap (λ n. map nameless w.put.nodes ++ n ∷ []) e
            ∙ sym (map-append nameless w.put.nodes (node ∷ []));
        helpers = k.put.helpers;
      }) k

-- ---- a node that takes another name

set_more : (name : Option Name) (n : ℕ) (x : FlatNode) (xs : List FlatNode) (o : Option FlatNode)
    → map nameless (option_map_or (λ node. x ∷ slice_set xs n (record node { name = name })) o (x ∷ xs)) ≡ nameless x ∷ map nameless (option_map_or (λ node. slice_set xs n (record node { name = name })) o xs)
set_more name n x xs None = refl
set_more name n x xs (Some node) = refl

set_nameless : (name : Option Name) (nodes : List FlatNode) (n : ℕ) → map nameless (option_map_or (λ node. slice_set nodes n (record node { name = name })) (slice_get nodes n) nodes) ≡ map nameless nodes
set_nameless name [] n = refl
set_nameless name (x ∷ xs) zero = refl
set_nameless name (x ∷ xs) (suc n) = set_more name n x xs (slice_get xs n) ∙ ap (λ ns. nameless x ∷ ns) (set_nameless name xs n)

pub renamed_nameless : (name : Option Name) (n : ℕ) (nodes : List FlatNode) → map nameless (renamed name n nodes) ≡ map nameless nodes
renamed_nameless None n nodes = refl
renamed_nameless (Some name) n nodes = set_nameless (Some name) nodes n
