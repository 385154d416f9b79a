-- The routes in the flat form of a written scene are the scene's.
use Rattle.std.proofs.Common.{◌≡◌, ℕ, zero, suc, ◌+◌, ◌<◌, true, List, [], ◌∷◌, ◌++◌, length, map, Option, refl, sym, subst, ap, ◌∙◌, arith}
use Rattle.std.specs.Prelude.{is_some}
use Rattle.std.specs.List.{AllByRecursion, flat_map, range_with_len}
use Rattle.std.proofs.lemmas.List.{append-nil, append_assoc}
use Rattle.std.proofs.lemmas.List.Sums.{fold-append}
use Rattle.x3d_values.specs.declared.fields.Fields.{Fields}
use Rattle.x3d_values.specs.declared.node_type.NodeType.{NodeType}
use Rattle.classic_tree.specs.declared.tree.Document.{Document}
use Rattle.classic_tree.specs.declared.tree.Statement.{Statement}
use Rattle.proto_flat.specs.declared.flat.FlatEnd.{FlatEnd}
use Rattle.laws_documents.specs.Closings.{Braces, IsOfNode, closings, expected}
use Rattle.laws_documents.specs.Closings.{Shown as ShownBraces}
use Rattle.laws_documents.specs.Uses.{OpenBraces}
use Rattle.laws_documents.specs.Readings.{each, read_document, read_statement}
use Rattle.laws_documents.specs.Routes.{ReadRoute, Reading, Shown, end_at, end_shown, nothing_read, read_end, read_shown, routes, routes_read, steps}
use Rattle.laws_documents.proofs.Readings.{read-route}
use Rattle.laws_documents.specs.PlainLaws.{RoutesAreRead}
use Rattle.scene_core.specs.declared.scene.End.{End}
use Rattle.scene_core.specs.declared.scene.Route.{Route}
use Rattle.scene_core.specs.Scene.{SceneView, field_name, label_of}
use Rattle.scene_text.specs.Places.{ends_of, is_named}
use Rattle.scene_text.specs.Statements.{helper_root, helpers_of, place_of, roots_of, route_of, routes_of, scene_document, statements_of}
use Rattle.scene_text.specs.Tree.{PlanView}
use Rattle.laws_written.proofs.NumberedScenes.{found}
use Rattle.laws_written.specs.Labels.{LabelsAreDistinct}
use Rattle.laws_written.specs.Writable.{IsWritableRoute}
use Rattle.laws_written.specs.Braces.{WrittenNodesClose, as_switch, written_as, written_braces}
use Rattle.laws_written.proofs.NodesParts.{all_join}
use Rattle.laws_written.proofs.Plans.{plan, type_is}
use Rattle.laws_written.specs.Routes.{WrittenRoutesStay, written_end, written_route}
use Rattle.laws_written.proofs.Named.{AreHit, all_hit, hit_named, label_stands}
use Rattle.laws_written.proofs.Silent.{StatementSilent, each_silent, helpers_silent, roots_silent}

-- ---- all braces are those of nodes

abbrev HasType : ShownBraces → Type 0
HasType s = is_some s.0 ≡ true

of_nodes : (bs : List Braces) → AllByRecursion HasType (map expected bs) → AllByRecursion IsOfNode bs
of_nodes [] h = tt
of_nodes (b ∷ bs) h = (h.0, of_nodes bs h.1)

module _ (s : SceneView) (rs : List Route) where
  typed : (n : ℕ) → n < length s.nodes → HasType (written_as s rs n)
  typed n l = let f = found s.nodes n l in ap (λ (o : Option NodeType). is_some o) (type_is s n f.0 f.1)

  all_typed : (from many : ℕ) → from + many ≡ length s.nodes → AllByRecursion HasType (map (written_as s rs) (range_with_len from many))
  all_typed from zero e = tt
  all_typed from (suc many) e = (typed from (omega (arith, e)), all_typed (from + 1) many (omega (arith, e)))

  switch_typed : (helpers : List ℕ) → AllByRecursion HasType (as_switch helpers)
  switch_typed [] = tt
  switch_typed (n ∷ ns) = (refl, tt)

  written_typed : AllByRecursion HasType (written_braces s rs)
  written_typed =
      all_join HasType (map (written_as s rs) (range_with_len 0 (length s.nodes))) (as_switch s.helpers) (all_typed 0 (length s.nodes) (omega arith)) (switch_typed s.helpers)

-- ---- the ROUTEs behind all nodes

abbrev read_of : SceneView → List OpenBraces → Route → ReadRoute
read_of s opened route = record { source = read_end opened (place_of s route.source); target = read_end opened (place_of s route.target) }

record AreMet (s : SceneView) (rs : List Route) (r u : Reading) : Type 0 where
  opened : u.opened ≡ r.opened
  met : u.routes ≡ r.routes ++ map (read_of s r.opened) rs

all_met : (s : SceneView) (rs : List Route) (r : Reading) → AreMet s rs r (each (read_statement steps) (routes_of s rs) r)
all_met s [] r = record { opened = refl; met = sym (append-nil r.routes) }
all_met s (x ∷ rs) r =
    let one = routes (route_of s x) r in
    let rest = all_met s rs one in
    subst (λ (q : Reading). AreMet s (x ∷ rs) r (each (read_statement steps) (routes_of s rs) q)) (sym (read-route steps (route_of s x) r))
    (record {
      opened = rest.opened;
      met = rest.met ∙ append_assoc r.routes (read_of s r.opened x ∷ []) (map (read_of s r.opened) rs);
    })

-- ---- a document's scene

abbrev pub both_ends : FlatEnd → FlatEnd → Shown
both_ends source target = (source, target)

module _ (scene : SceneView) (rs : List Route) (state : List Fields) where
  abbrev p : PlanView
  p = plan scene rs state

  abbrev d : Document
  d = scene_document scene rs state

  abbrev text : Reading
  text = read_document steps d nothing_read

  abbrev front : List Statement
  front = (roots_of p).made ++ helper_root (helpers_of p (roots_of p).seen).made

  abbrev before : Reading
  before = each (read_statement steps) front nothing_read

  apart : text ≡ each (read_statement steps) (front ++ routes_of scene rs) nothing_read
  unfolding scene_document statements_of
  apart = refl

  in_parts : text ≡ each (read_statement steps) (routes_of scene rs) before
  in_parts = apart ∙ fold-append (λ (r : Reading) (s : Statement). read_statement steps s r) nothing_read front (routes_of scene rs)

  none_before : before.routes ≡ []
  none_before =
      each_silent (read_statement steps) front
      (all_join StatementSilent (roots_of p).made (helper_root (helpers_of p (roots_of p).seen).made) (roots_silent p) (helpers_silent p (roots_of p).seen)) nothing_read

  routes_met : text.routes ≡ map (read_of scene text.opened) rs
  routes_met =
      let m = all_met scene rs before in
      ap (λ (r : Reading). r.routes) in_parts ∙ m.met ∙ ap (λ (l : List ReadRoute). l ++ map (read_of scene before.opened) rs) none_before
      ∙ ap (λ (os : List OpenBraces). map (read_of scene os) rs) (sym (ap (λ (r : Reading). r.opened) in_parts ∙ m.opened))

  module _ (distinct : (m n : ℕ) → m < length scene.nodes → n < length scene.nodes → label_of scene m ≡ label_of scene n → m ≡ n)
      (closes : map expected (closings d) ≡ written_braces scene rs) where
    end_stands : (end : End) → end.node < length scene.nodes → is_named scene rs end.node ≡ true → end_shown text.opened (read_end text.opened (place_of scene end)) ≡ written_end scene end
    end_stands end l named =
        ap (λ (n : Option ℕ). end_at (field_name scene end) n)
        (label_stands scene rs end.node (λ m k e. distinct m end.node k l e) named d closes l)

    same_ends : (a b x y : FlatEnd) → a ≡ x → b ≡ y → both_ends a b ≡ both_ends x y
    same_ends a b x y e f = ap (λ (z : FlatEnd). both_ends z b) e ∙ ap (λ (z : FlatEnd). both_ends x z) f

    route_stands : (r : Route) → IsWritableRoute scene r → AreHit (flat_map ends_of rs) r → read_shown text.opened (read_of scene text.opened r) ≡ written_route scene r
    route_stands r w h =
        same_ends _ _ _ _ (end_stands r.source w.0.0 (hit_named scene rs r.source.node h.0)) (end_stands r.target w.1.0 (hit_named scene rs r.target.node h.1))

    all_stand : (some : List Route) → AllByRecursion (IsWritableRoute scene) some → AllByRecursion (AreHit (flat_map ends_of rs)) some
        → map (read_shown text.opened) (map (read_of scene text.opened) some) ≡ map (written_route scene) some
    all_stand [] w h = refl
    all_stand (r ∷ some) w h =
        ap (λ (x : Shown). x ∷ map (read_shown text.opened) (map (read_of scene text.opened) some)) (route_stands r w.0 h.0)
        ∙ ap (λ (l : List Shown). written_route scene r ∷ l) (all_stand some w.1 h.1)

    all_read : AllByRecursion (IsWritableRoute scene) rs → routes_read d ≡ map (written_route scene) rs
    all_read w = ap (map (read_shown text.opened)) routes_met ∙ all_stand rs w (all_hit rs)

pub routes_stay : LabelsAreDistinct → WrittenNodesClose → RoutesAreRead → WrittenRoutesStay
routes_stay labels closing reads from scene rs state again is few kept ends e =
    let document : Document = scene_document scene rs state in
    let closes = closing from scene rs state is kept in
    let nodes = of_nodes (closings document) (subst (AllByRecursion HasType) (sym closes) (written_typed scene rs)) in
    reads document again nodes e ∙ all_read scene rs state (labels from scene is few) closes ends
