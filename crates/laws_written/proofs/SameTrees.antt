-- The document of a scene that was written and read again is the document that was written.
use Rattle.std.proofs.Common.{◌≡◌, ℕ, zero, suc, ◌+◌, ◌-◌, ◌<◌, ◌||◌, Bool, true, false, if◌then◌else◌, List, [], ◌∷◌, ◌++◌, length, map, nat_le, replicate, Option, Some, None, Ok, codes, get_or, slice_get, slice_set, refl, sym, ap, subst, ◌∙◌, arith, append-nil}
use Rattle.std.specs.Prelude.{is_some}
use Rattle.std.specs.List.{AllByRecursion, flat_map, range_with_len}
use Rattle.std.proofs.lemmas.List.{length-map}
use Rattle.std.proofs.lemmas.List.FromFn.{get_or-map-range_with_len}
use Rattle.std.proofs.lemmas.List.Sums.{fold-append}
use Rattle.x3d_values.specs.declared.fields.Fields.{Fields}
use Rattle.x3d_values.specs.declared.node_type.NodeType.{NodeType}
use Rattle.x3d_values.specs.declared.node_type.NodeType.TheVariants.{Switch}
use Rattle.x3d_values.specs.declared.value.Value.TheVariants.{MFNode}
use Rattle.x3d_values.specs.Names.{node_type_name}
use Rattle.x3d_values.specs.Ranges.{max_depth}
use Rattle.x3d_values.specs.Tables.{FieldRowView, rows}
use Rattle.classic_tree.specs.declared.tree.BodyItem.{BodyItem}
use Rattle.classic_tree.specs.declared.tree.NodeText.{NodeText}
use Rattle.classic_tree.specs.declared.tree.NodeText.TheVariants as text
use Rattle.classic_tree.specs.declared.tree.Statement.{Statement}
use Rattle.classic_tree.specs.declared.tree.Statement.TheVariants as statement
use Rattle.classic_tree.specs.Writing.{document_text}
use Rattle.proto_flat.specs.declared.flat.Flat.{Flat}
use Rattle.proto_flat.specs.declared.flat.Header.{Header}
use Rattle.scene_core.specs.declared.row.DeclaredField.{DeclaredField}
use Rattle.scene_core.specs.declared.scene.End.{End}
use Rattle.scene_core.specs.declared.scene.Route.{Route}
use Rattle.scene_core.specs.declared.scene.SceneNode.{SceneNode}
use Rattle.scene_core.specs.Building.{scene_of}
use Rattle.scene_core.specs.Scene.{SceneView, label_of, rows_at, state_of, type_at, types_of}
use Rattle.scene_core.specs.Shape.{declared_entry}
use Rattle.scene_text.specs.Places.{ends_of, is_named, named, nodes_within, places, times}
use Rattle.scene_text.specs.SceneText.{scene_text}
use Rattle.scene_text.specs.Statements.{helper_root, helpers_of, place_of, root_tree, roots_of, route_of, routes_of, scene_document, statements_of, switch_of}
use Rattle.scene_text.specs.Tree.{Makes, Plain, PlanView, Shown, Grows, declared_from, def_name, each, field_tree, new_type, node_tree, one_more, opened, shown_fields, shown_from}
use Rattle.laws_written.specs.Children.{children}
use Rattle.laws_written.specs.Writable.{AreKeepable, IsEnd, IsShallow, IsWritable, IsWritableRoute}
use Rattle.laws_written.proofs.Lists.{all_weaker}
use Rattle.laws_written.proofs.NumberedLists.{some_is, within}
use Rattle.laws_written.proofs.NumberedScenes.{found}
use Rattle.laws_written.specs.Nodes.{switch_root}
use Rattle.laws_written.proofs.Counts.{hits, hits_append, hits_are, hits_own}
use Rattle.laws_written.proofs.NodesParts.{low_shallow, lower_children, shallow_children, shown_are}
use Rattle.laws_written.proofs.OrderShown.{links}
use Rattle.laws_written.proofs.Plans.{none_shallow, plan, shallow_low, type_is}
use Rattle.laws_written.specs.Again.{IsSwitchOf, IsWrittenOf, switch_type, switch_value}
use Rattle.laws_written.proofs.Made.{behind}
use Rattle.laws_written.proofs.Present.{declared_by_node, rows_by_node}
use Rattle.laws_written.proofs.SameSteps.{Alike, AreAlike, each_alike, fields_alike, last_alike, roots_alike, set_alike}
use Rattle.laws_written.proofs.SameFields.{all_within, def_same, many_next, opened_value, places_are, same_type, shown_is, shown_same}
use Rattle.laws_written.proofs.SameLists.{both_all, none_seen, no_hits, all_joined, all_placed, HasFirst, keeps_first, switch_stands, children_shown, tree_is}

-- ---- a scene that was written and read again

module _ (from again : Flat) (s next : SceneView) (routes : List Route) (state : List Fields) (is : scene_of from ≡ Ok s) (is_next : scene_of again ≡ Ok next)
    (w : IsWrittenOf s routes state next) (kept : AreKeepable state) (writable : IsWritable s routes state) where
  abbrev count : ℕ
  count = length s.nodes

  abbrev p : PlanView
  p = plan s routes state

  abbrev q : PlanView
  q = plan next routes (state_of next)

  -- ---- nodes

  module _ (last : Bool) where
    full_alike : (n : ℕ) (node : SceneNode) → slice_get s.nodes n ≡ Some node → n < count → (T U : Makes ℕ NodeText) (P : ℕ → Type 0)
        → ((seen more : List Bool) → AreAlike count last seen more → (m : ℕ) → P m → Alike count last (T seen m) (U more m))
        → AllByRecursion P (flat_map links (shown_fields p n node.node_type)) → (seen more : List Bool) → AreAlike count last seen more
        → Alike count last (opened p T seen n (Some node.node_type)) (opened q U more n (Some node.node_type))
    full_alike n node at low T U P f h seen more a =
        let t : NodeType = node.node_type in
        let inner = fields_alike count last T U P f (shown_fields p n t) h (slice_set seen n true) (slice_set more n true) (set_alike count last seen more n low a) in
        let same : shown_fields q n t ≡ shown_fields p n t = shown_same from again s next routes state is is_next w n node at in
        let both : Alike count last (each (field_tree T) (slice_set seen n true) (shown_fields p n t)) (each (field_tree U) (slice_set more n true) (shown_fields q n t)) =
        subst (λ (l : List Shown). Alike count last (each (field_tree T) (slice_set seen n true) (shown_fields p n t)) (each (field_tree U) (slice_set more n true) l)) (sym same) inner in
        record {
          made =
              ap (λ (o : Option (List ℕ)). text.Full 0 o (node_type_name t) (each (field_tree U) (slice_set more n true) (shown_fields q n t)).made)
              (def_same from again s next routes state is is_next w n low)
              ∙ ap (λ (l : List BodyItem). text.Full 0 (def_name p n) (node_type_name t) l) both.made;
          seen = both.seen;
        }

    opened_alike : (n : ℕ) (node : SceneNode) → slice_get s.nodes n ≡ Some node → n < count → (T U : Makes ℕ NodeText) (seen more : List Bool) → AreAlike count last seen more
        → Alike count last (opened p T seen n (Some node.node_type)) (opened q U more n (Some node.node_type))
        → Alike count last (opened p T seen n (new_type p seen n)) (opened q U more n (new_type q more n))
    opened_alike n node at low T U seen more a full = by_seen (get_or seen n true) refl where
      by_choice : (b : Bool) → Alike count last (opened p T seen n (if b then None else Some node.node_type)) (opened q U more n (if b then None else Some node.node_type))
      by_choice true = record { made = ap (λ (l : List ℕ). text.Use 0 l) (w.labels n low); seen = a }
      by_choice false = full

      by_seen : (b : Bool) → get_or seen n true ≡ b → Alike count last (opened p T seen n (new_type p seen n)) (opened q U more n (new_type q more n))
      by_seen b e =
          let first : new_type p seen n ≡ (if b then None else Some node.node_type) =
          ap (λ (c : Bool). if c then None else type_at s n) e ∙ ap (λ (o : Option NodeType). if b then None else o) (type_is s n node at) in
          let second : new_type q more n ≡ (if b then None else Some node.node_type) =
          ap (λ (c : Bool). if c then None else type_at next n) (a.nodes n low ∙ e)
          ∙ ap (λ (o : Option NodeType). if b then None else o) (same_type from again s next routes state is is_next w n node at) in
          subst (λ (o : Option NodeType). Alike count last (opened p T seen n o) (opened q U more n (new_type q more n))) (sym first)
          (subst (λ (o : Option NodeType). Alike count last (opened p T seen n (if b then None else Some node.node_type)) (opened q U more n o)) (sym second) (by_choice b))

    tree_alike : (d e n : ℕ) → IsShallow s d n → IsShallow s e n → (seen more : List Bool) → AreAlike count last seen more
        → Alike count last (node_tree d p seen n) (node_tree e q more n)
    unfolding node_tree
    tree_alike zero e n h k seen more a = absurd (none_shallow s n h)
    tree_alike (suc d) zero n h k seen more a = absurd (none_shallow s n k)
    tree_alike (suc d) (suc e) n h k seen more a =
        let low : n < count = shallow_low s d n h in
        let f = found s.nodes n low in
        let P : ℕ → Type 0 = λ m. IsShallow s d m × IsShallow s e m in
        let parts : AllByRecursion P (children f.0) =
        both_all (IsShallow s d) (IsShallow s e) (children f.0) (shallow_children s d n f.0 f.1 h) (shallow_children s e n f.0 f.1 k) in
        let shown : AllByRecursion P (flat_map links (shown_fields p n f.0.node_type)) =
        subst (AllByRecursion P) (sym (shown_are from s is p refl kept n f.0 f.1)) parts in
        opened_alike n f.0 f.1 low (node_tree d p) (node_tree e q) seen more a
        (full_alike n f.0 f.1 low (node_tree d p) (node_tree e q) P (λ x y b m g. tree_alike d e m g.0 g.1 x y b) shown seen more a)

  -- ---- routes

  place_same : (end : End) → IsEnd s end → place_of next end ≡ place_of s end
  place_same end h =
      let label : label_of next end.node ≡ label_of s end.node = w.labels end.node h.0 in
      let fields : rows_at next end.node ≡ rows_at s end.node = w.rows end.node h.0 in
      rw (label, fields) refl

  routes_same : (rs : List Route) → AllByRecursion (IsWritableRoute s) rs → routes_of next rs ≡ routes_of s rs
  routes_same [] h = refl
  routes_same (r ∷ rs) h =
      let source = place_same r.source h.0.0 in
      let target = place_same r.target h.0.1 in
      let first : route_of next r ≡ route_of s r = rw (source, target) refl in
      ap (λ x. statement.Route x ∷ routes_of next rs) first ∙ ap (λ l. statement.Route (route_of s r) ∷ l) (routes_same rs h.1)

  -- ---- roots

  abbrev Roots : List Bool → PlanView → List ℕ → Grows (List Statement)
  Roots seen t ns = each (root_tree (node_tree max_depth t)) seen ns

  abbrev begun : List Bool
  begun = replicate count false

  abbrev begun_next : List Bool
  begun_next = replicate (length next.nodes) false

  roots_made : (last : Bool) → get_or begun_next count true ≡ last → Alike count last (Roots begun p s.roots) (Roots begun_next q s.roots)
  roots_made last e =
      let many = many_next from again s next routes state is is_next w in
      roots_alike count last (node_tree max_depth p) (node_tree max_depth q) (IsShallow s max_depth) (λ seen more a n h. tree_alike last max_depth max_depth n h h seen more a)
      s.roots writable.roots begun begun_next
      (record { nodes = λ n l. none_seen (length next.nodes) n (omega (arith, l, many)) ∙ sym (none_seen count n l); more = e })

  -- ---- the helpers

  module _ (h : ℕ) (hs : List ℕ) (are : s.helpers ≡ h ∷ hs) where
    switch : IsSwitchOf (h ∷ hs) next count
    switch = w.switch h hs are

    one_more_node : length next.nodes ≡ count + 1
    one_more_node = many_next from again s next routes state is is_next w ∙ ap (λ (l : List ℕ). count + length (switch_type l)) are

    switch_node : (m : SceneNode) × (slice_get next.nodes count ≡ Some m)
    switch_node = let many = one_more_node in found next.nodes count (omega (arith, many))

    switch_typed : type_at next count ≡ Some Switch
    switch_typed =
        let long : length (types_of s) ≡ count = length-map s.nodes (λ (n : SceneNode). n.node_type) in
        let start : count ≡ length (types_of s) + 0 = omega (arith, long) in
        ap (λ (l : List NodeType). slice_get l count) (w.types ∙ ap (λ (l : List ℕ). types_of s ++ switch_type l) are)
        ∙ (ap (λ (k : ℕ). slice_get (types_of s ++ (Switch ∷ [])) k) start ∙ behind (types_of s) (Switch ∷ []) 0)

    switch_rows : rows_at next count ≡ rows Switch ++ []
    switch_rows =
        let m = switch_node in
        let t : m.0.node_type ≡ Switch = some_is m.0.node_type Switch (sym (type_is next count m.0 m.1) ∙ switch_typed) in
        rows_by_node next count m.0 m.1
        ∙ (ap (λ (l : List DeclaredField). rows m.0.node_type ++ map declared_entry l) (sym (declared_by_node next count m.0 m.1) ∙ switch.declared)
        ∙ ap (λ (u : NodeType). rows u ++ []) t)

    switch_shown : shown_fields q count Switch ≡ Plain (codes "children") (MFNode (h ∷ hs)) ∷ []
    unfolding shown_fields
    switch_shown =
        let m = switch_node in
        ap (λ (ds : List DeclaredField). shown_from q count 0 (rows Switch) ++ declared_from q count (length (rows Switch)) ds) switch.declared
        ∙ (append-nil (shown_from q count 0 (rows Switch))
        ∙ (shown_is q count (switch_value (h ∷ hs)) 0 (rows Switch) (λ j e there.
        (let start : 0 + j ≡ j = omega arith in
        let at : slice_get (rows Switch) (0 + j) ≡ Some e = ap (λ (i : ℕ). slice_get (rows Switch) i) start ∙ there in
        opened_value next routes count m.0 m.1 (0 + j) e
        (ap (λ (l : List FieldRowView). slice_get l (0 + j)) (switch_rows ∙ append-nil (rows Switch)) ∙ at)
        ∙ switch.values (0 + j) e at))
        ∙ children_shown h hs))

    -- the Switch has no name
    ends_below : (rs : List Route) → AllByRecursion (IsWritableRoute s) rs → AllByRecursion (λ (n : ℕ). n < count) (flat_map ends_of rs)
    ends_below [] g = tt
    ends_below (r ∷ rs) g = (g.0.0.0, (g.0.1.0, ends_below rs g.1))

    low_all : (depth : ℕ) (ns : List ℕ) → AllByRecursion (IsShallow s (suc depth)) ns → AllByRecursion (λ (n : ℕ). n < count) ns
    low_all depth ns g = all_weaker (IsShallow s (suc depth)) (λ (n : ℕ). n < count) (λ n k. shallow_low s depth n k) ns g

    no_place : hits count (places s) ≡ 0
    no_place =
        let inside : AllByRecursion (λ (n : ℕ). n < count) (flat_map (λ (l : List ℕ). l) (map children s.nodes)) =
        all_joined (λ (n : ℕ). n < count) s.nodes (all_placed (λ (m : SceneNode). AllByRecursion (λ (n : ℕ). n < count) (children m)) s.nodes
        (λ n m at. all_weaker (λ (c : ℕ). c < n) (λ (c : ℕ). c < count) (λ c l. (let low = within s.nodes n m at in omega (arith, l, low))) (children m) (lower_children from s is n m at))) in
        let none_inside = ap (hits count) (all_within from s is) ∙ no_hits count (flat_map (λ (l : List ℕ). l) (map children s.nodes)) inside in
        let none_roots = no_hits count s.roots (low_all 63 s.roots writable.roots) in
        let none_helpers = no_hits count s.helpers (low_all 62 s.helpers writable.helpers) in
        let all = hits_append count (s.roots ++ s.helpers) (flat_map (nodes_within s) (range_with_len 0 (length s.nodes))) in
        let front = hits_append count s.roots s.helpers in
        omega (arith, none_inside, none_roots, none_helpers, all, front)

    unnamed : is_named next routes count ≡ false
    unnamed =
        let all = places_are from again s next routes state is is_next w count in
        let root : hits count (switch_root count s.helpers) ≡ 1 = ap (λ (l : List ℕ). hits count (switch_root count l)) are ∙ hits_own count [] in
        let none = no_place in
        let once : hits count (places next) ≡ 1 = omega (arith, all, root, none) in
        let times_once : times count (places next) ≡ 1 = sym (hits_are count (places next)) ∙ once in
        let none_ends : times count (flat_map ends_of routes) ≡ 0 =
        sym (hits_are count (flat_map ends_of routes)) ∙ no_hits count (flat_map ends_of routes) (ends_below routes writable.ends) in
        ap (λ (o : Option (List ℕ)). is_some o || (nat_le 1 (times count (flat_map ends_of routes)) || nat_le 2 (times count (places next)))) switch.label
        ∙ (ap (λ (k : ℕ). nat_le 1 k || nat_le 2 (times count (places next))) none_ends ∙ ap (λ (k : ℕ). nat_le 2 k) times_once)

    no_def : def_name q count ≡ None
    unfolding named
    no_def =
        let start : 0 + count ≡ count = omega arith in
        let many = one_more_node in
        ap (λ (b : Bool). if b then Some (label_of next count) else None)
        (get_or-map-range_with_len (is_named next routes) 0 (length next.nodes) count count false (omega (arith, many)) start ∙ unnamed)

    -- its tree, where it hasn't appeared, by the trees of the helpers
    switch_tree : (T : Makes ℕ NodeText) (more : List Bool)
        → (opened q T more count (Some Switch)).made ≡ switch_of (each T (slice_set more count true) (h ∷ hs)).made
    switch_tree T more =
        ap (λ (o : Option (List ℕ)). text.Full 0 o (codes "Switch") (each (field_tree T) (slice_set more count true) (shown_fields q count Switch)).made) no_def
        ∙ ap (λ (l : List Shown). text.Full 0 None (codes "Switch") (each (field_tree T) (slice_set more count true) l).made) switch_shown

    root_of_helpers : (more : List Bool) → get_or more count true ≡ false
        → (node_tree max_depth q more count).made ≡ switch_of (each (node_tree (max_depth - 1) q) (slice_set more count true) (h ∷ hs)).made
    root_of_helpers more new =
        let type_new : new_type q more count ≡ Some Switch = ap (λ (b : Bool). if b then None else type_at next count) new ∙ switch_typed in
        ap (λ (m : Grows NodeText). m.made) (tree_is (max_depth - 1) q more count)
        ∙ ap (λ (o : Option NodeType). (opened q (node_tree (max_depth - 1) q) more count o).made) type_new ∙ switch_tree (node_tree (max_depth - 1) q) more

    helpers_made : (seen more : List Bool) → AreAlike count false seen more
        → (each (node_tree (max_depth - 1) q) (slice_set more count true) (h ∷ hs)).made ≡ (helpers_of p seen).made
    helpers_made seen more a =
        let both : AllByRecursion (λ (n : ℕ). IsShallow s max_depth n × IsShallow s (max_depth - 1) n) (h ∷ hs) =
        subst (AllByRecursion (λ (n : ℕ). IsShallow s max_depth n × IsShallow s (max_depth - 1) n)) are
        (both_all (IsShallow s max_depth) (IsShallow s (max_depth - 1)) s.helpers (deeper s.helpers writable.helpers) writable.helpers) in
        let made = each_alike count true (node_tree max_depth p) (node_tree (max_depth - 1) q) (λ (n : ℕ). IsShallow s max_depth n × IsShallow s (max_depth - 1) n)
        (λ x y b n g. tree_alike true max_depth (max_depth - 1) n g.0 g.1 x y b) (h ∷ hs) both seen (slice_set more count true) (last_alike count false seen more a) in
        made.made ∙ ap (λ (l : List ℕ). (each (node_tree max_depth p) seen l).made) (sym are) where
          deeper : (ns : List ℕ) → AllByRecursion (IsShallow s (max_depth - 1)) ns → AllByRecursion (IsShallow s max_depth) ns
          deeper ns g = all_weaker (IsShallow s (max_depth - 1)) (IsShallow s max_depth) (λ n k. low_shallow from s is n (shallow_low s 62 n k)) ns g

    roots_same : (roots_of q).made ≡ (roots_of p).made ++ helper_root (helpers_of p (roots_of p).seen).made
    roots_same =
        let many = one_more_node in
        let base = roots_made false (none_seen (length next.nodes) count (omega (arith, many))) in
        let bq : Grows (List Statement) = Roots begun_next q s.roots in
        let bp : Grows (List Statement) = Roots begun p s.roots in
        let ns_are : next.roots ≡ s.roots ++ count ∷ [] = w.roots ∙ ap (λ (l : List ℕ). s.roots ++ switch_root count l) are in
        let split : (roots_of q).made ≡ bq.made ++ statement.Node (node_tree max_depth q bq.seen count).made ∷ [] =
        ap (λ (l : List ℕ). (Roots begun_next q l).made) ns_are
        ∙ ap (λ (x : Grows (List Statement)). x.made) (fold-append (one_more (root_tree (node_tree max_depth q))) (record { seen = begun_next; made = [] }) s.roots (count ∷ [])) in
        let trees : List NodeText = (helpers_of p bp.seen).made in
        let last : (node_tree max_depth q bq.seen count).made ≡ switch_of trees =
        root_of_helpers bq.seen base.seen.more ∙ ap switch_of (helpers_made bp.seen bq.seen base.seen) in
        let first = (node_tree max_depth p bp.seen h).made in
        let stands : HasFirst first trees =
        subst (λ (l : List ℕ). HasFirst first (each (node_tree max_depth p) bp.seen l).made) (sym are)
        (keeps_first (node_tree max_depth p) first hs (one_more (node_tree max_depth p) (record { seen = bp.seen; made = [] }) h) (record { others = []; is = refl })) in
        split
        ∙ (ap (λ l. l ++ statement.Node (node_tree max_depth q bq.seen count).made ∷ []) base.made
        ∙ (ap (λ t. bp.made ++ statement.Node t ∷ []) last ∙ ap (λ l. bp.made ++ l) (sym (switch_stands first trees stands))))

  -- ---- where there are none

  no_switch : s.helpers ≡ [] → (roots_of q).made ≡ (roots_of p).made ++ helper_root (helpers_of p (roots_of p).seen).made
  no_switch are =
      let base = roots_made (get_or begun_next count true) refl in
      let ns_are : next.roots ≡ s.roots = w.roots ∙ (ap (λ (l : List ℕ). s.roots ++ switch_root count l) are ∙ append-nil s.roots) in
      let none : helper_root (helpers_of p (roots_of p).seen).made ≡ [] =
      ap (λ (l : List ℕ). helper_root (each (node_tree max_depth p) (roots_of p).seen l).made) are in
      ap (λ (l : List ℕ). (Roots begun_next q l).made) ns_are
      ∙ (base.made ∙ (sym (append-nil (roots_of p).made) ∙ ap (λ l. (roots_of p).made ++ l) (sym none)))

  roots_all : (hs : List ℕ) → s.helpers ≡ hs → (roots_of q).made ≡ (roots_of p).made ++ helper_root (helpers_of p (roots_of p).seen).made
  roots_all [] are = no_switch are
  roots_all (h ∷ hs) are = roots_same h hs are

  -- ---- the document

  statements_same : statements_of q ≡ statements_of p
  unfolding statements_of
  statements_same =
      let none : helper_root (helpers_of q (roots_of q).seen).made ≡ [] =
      ap (λ (l : List ℕ). helper_root (each (node_tree max_depth q) (roots_of q).seen l).made) w.helpers in
      ap (λ l. (roots_of q).made ++ l ++ routes_of next routes) none
      ∙ (ap (λ l. l ++ routes_of next routes) (append-nil (roots_of q).made ∙ roots_all s.helpers refl)
      ∙ ap (λ l. (roots_of p).made ++ helper_root (helpers_of p (roots_of p).seen).made ++ l) (routes_same routes writable.ends))

  document_same : scene_document next routes (state_of next) ≡ scene_document s routes state
  unfolding scene_document
  document_same =
      ap (λ (x : Header). record {
        version = x.version;
        profile = x.profile;
        components = x.components;
        metas = x.metas;
        statements = statements_of q;
      }) w.header
      ∙ ap (λ (l : List Statement). record {
        version = s.header.version;
        profile = s.header.profile;
        components = s.header.components;
        metas = s.header.metas;
        statements = l;
      }) statements_same

  pub text_same : scene_text next routes (state_of next) ≡ scene_text s routes state
  unfolding scene_text
  text_same = ap document_text document_same
