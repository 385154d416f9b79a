-- What is written of a document's scene is read as its nodes: roots, helpers and routes in turn.
use Rattle.std.proofs.Common.{◌≡◌, ℕ, zero, suc, ◌+◌, ◌<◌, ◌≤◌, ◌^◌, Bool, true, false, not, cond, List, [], ◌∷◌, ◌++◌, codes, length, map, replicate, Option, Some, None, Ok, slice_get, refl, sym, ap, subst, ◌∙◌, arith, append-nil, true≢false}
use Rattle.std.specs.Prelude.{slice_index_or}
use Rattle.std.specs.List.{AllByRecursion, flat_map, fold, range_with_len}
use Rattle.std.proofs.lemmas.List.{length-append, length-map, length-replicate, map-append}
use Rattle.std.proofs.lemmas.List.FromFn.{length-range_with_len}
use Rattle.std.proofs.lemmas.List.Sums.{fold-append}
use Rattle.x3d_values.specs.declared.fields.Fields.{Fields}
use Rattle.x3d_values.specs.Ranges.{max_depth}
use Rattle.classic_tree.specs.declared.tree.BodyItem.{BodyItem}
use Rattle.classic_tree.specs.declared.tree.BodyItem.TheVariants as item
use Rattle.classic_tree.specs.declared.tree.Given.TheVariants as given
use Rattle.classic_tree.specs.declared.tree.NodeText.{NodeText}
use Rattle.classic_tree.specs.declared.tree.RawValue.TheVariants as raw
use Rattle.classic_tree.specs.declared.tree.Statement.{Statement}
use Rattle.proto_flat.specs.declared.flat.Flat.{Flat}
use Rattle.proto_flat.specs.declared.flat.FlatNode.{FlatNode}
use Rattle.laws_documents.specs.Readings.{each as each_read, read_node, read_statement}
use Rattle.laws_documents.specs.Uses.{Reading, closes, nothing_read, opens, read, some, steps}
use Rattle.laws_documents.proofs.Readings.{read-field, read-full, read-node-statement, read-route}
use Rattle.scene_core.specs.declared.numbering.Numbering.{Numbering}
use Rattle.scene_core.specs.declared.scene.Route.{Route}
use Rattle.scene_core.specs.Building.{scene_of}
use Rattle.scene_core.specs.Numbers.{is_new, numbering, unnumbered}
use Rattle.scene_core.specs.Parts.{parts_of}
use Rattle.scene_core.specs.Scene.{SceneView}
use Rattle.scene_text.specs.Places.{nodes_within, places}
use Rattle.scene_text.specs.Statements.{helper_root, helpers_of, root_tree, roots_of, route_of, routes_of, scene_document, statements_of, switch_of}
use Rattle.scene_text.specs.Tree.{Makes, PlanView, Grows, each, one_more}
use Rattle.laws_written.specs.ScenesAgain.{HaveChildren, in_place}
use Rattle.laws_written.specs.Children.{children}
use Rattle.laws_written.proofs.NumberedLists.{some_is}
use Rattle.laws_written.proofs.NumberedScenes.{found}
use Rattle.laws_written.specs.Labels.{LabelsAreDistinct}
use Rattle.laws_written.specs.Writable.{AreKeepable}
use Rattle.laws_written.proofs.Lists.{all_weaker}
use Rattle.laws_written.specs.Nodes.{AreNodesRead, WrittenNodesAreRead, in_switch, switch_root}
use Rattle.laws_written.proofs.Counts.{all_unwritten, hits, hits_append, named_twice, unwritten}
use Rattle.laws_written.proofs.Names.{count, names_begin, names_open}
use Rattle.laws_written.proofs.NodesParts.{holders, holders_have, low_shallow, lower_children, within_are}
use Rattle.laws_written.proofs.Plans.{as_many, helpers_there, numbered, one, order_is, plan, roots_are, roots_made, roots_there, s0, s1, s2, stands, tree}
use Rattle.laws_written.proofs.Together.{After, Does, F, InPlace, Ready, Rules, earlier, inside, nodes_in_turn}
use Rattle.laws_written.proofs.NodesTrees.{IsFit, nodes_do}

-- ---- lists

pub range_place : (from many i x : ℕ) → slice_get (range_with_len from many) i ≡ Some x → x ≡ from + i
range_place from zero i x e = absurd cc
range_place from (suc many) zero x e = let same : from ≡ x = some_is from x e in omega (arith, same)
range_place from (suc many) (suc i) x e = let rest = range_place (from + 1) many i x e in omega (arith, rest)

-- what is had of the places of a list
by_places : {A : Type 0} (f : ℕ → List (Option ℕ)) (g : A → List ℕ) (xs : List A) (from : ℕ)
    → ((i : ℕ) (x : A) → slice_get xs i ≡ Some x → f (from + i) ≡ map some (g x)) → map f (range_with_len from (length xs)) ≡ map (map some) (map g xs)
by_places f g [] from k = refl
by_places f g (x ∷ xs) from k =
    let here : from + 0 ≡ from = omega arith in
    let first : f from ≡ map some (g x) = ap f (sym here) ∙ k 0 x refl in
    let rest = by_places f g xs (from + 1) (λ i y at. (let e : from + 1 + i ≡ from + suc i = omega arith in ap f e ∙ k (suc i) y at)) in
    ap (λ (l : List (Option ℕ)). l ∷ map f (range_with_len (from + 1) (length xs))) first
    ∙ ap (λ (l : List (List (Option ℕ))). map some (g x) ∷ l) rest

none_new : (many n : ℕ) → n < many → not (slice_index_or (replicate many false) n true) ≡ true
none_new zero n l = absurd (omega (arith, l))
none_new (suc many) zero l = refl
none_new (suc many) (suc n) l = none_new many n (omega (arith, l))

all_in : (new : Bool) (coming left all : ℕ) → new ≡ true → coming + left ≡ all → cond new 0 1 + coming + left ≤ all
all_in true coming left all e h = omega (arith, h)
all_in false coming left all e h = absurd cc

pub made_many : {A B : Type 0} (make : Makes A B) (m : Grows (List B)) (xs : List A) → length (fold (one_more make) m xs).made ≡ length m.made + length xs
made_many make m [] = omega arith
made_many make m (x ∷ xs) =
    let rest = made_many make (one_more make m x) xs in
    let more = length-append m.made ((make m.seen x).made ∷ []) in
    omega (arith, rest, more)

-- ---- the node in which the helpers stand

switch_read : (trees : List NodeText) (r : Reading) → read_node steps (switch_of trees) r ≡ closes None r (each_read (read_node steps) trees (opens None r))
switch_read trees r =
    let content : BodyItem = item.Field 0 (codes "children") (given.Value (raw.NodeList trees)) in
    read-full steps 0 None (codes "Switch") (content ∷ []) r
    ∙ ap (λ (t : Reading). closes None r t) (read-field steps 0 (codes "children") (given.Value (raw.NodeList trees)) (opens None r))

root_read : (trees : List NodeText) (r : Reading) → 0 < length trees
    → each_read (read_statement steps) (helper_root trees) r ≡ closes None r (each_read (read_node steps) trees (opens None r))
root_read [] r l = absurd (omega (arith, l))
root_read (tree ∷ trees) r l = read-node-statement steps (switch_of (tree ∷ trees)) r ∙ switch_read (tree ∷ trees) r

routes_read : (s : SceneView) (routes : List Route) (r : Reading) → each_read (read_statement steps) (routes_of s routes) r ≡ r
routes_read s [] r = refl
routes_read s (route ∷ routes) r =
    ap (λ (t : Reading). each_read (read_statement steps) (routes_of s routes) t) (read-route steps (route_of s route) r) ∙ routes_read s routes r

-- ---- a plan

module _ (p : PlanView) (nodes : List FlatNode) (rules : Rules p nodes) where
  abbrev G : Numbering → ℕ → Numbering
  G = F p nodes

  trees_do : Does p nodes [] (IsFit p nodes max_depth []) one (read_node steps) (tree p)
  trees_do = nodes_do p nodes rules max_depth []

  roots_do : Does p nodes [] (IsFit p nodes max_depth []) one (read_statement steps) (root_tree (tree p))
  roots_do coming r s n q h i =
      let a = trees_do coming r s n q h i in
      (a.0, subst (λ (t : Reading). After p nodes [] coming r t (G s n) (n ∷ [])) (sym (read-node-statement steps (tree p s.opened n).made r)) a.1)

  -- helpers and routes behind the roots
  record IsWhole (r t : Reading) (s : Numbering) (helpers : List ℕ) : Type 0 where
    pub closed : t.closed ≡ map (inside p nodes) s.order ++ map (map some) (in_switch helpers)
    pub here : t.here ≡ r.here ++ map some (switch_root (length s.order) helpers)

  helpers_read : (helpers : List ℕ) (r : Reading) (s : Numbering) → Ready p nodes [] (helpers ++ []) r s → AllByRecursion (IsFit p nodes max_depth []) helpers
      → InPlace p nodes (fold G s helpers)
      → IsWhole r (each_read (read_statement steps) (helper_root (each (tree p) s.opened helpers).made) r) (fold G s helpers) helpers
  helpers_read [] r s h q i = record { closed = h.closed ∙ sym (append-nil (map (inside p nodes) s.order)); here = sym (append-nil r.here) }
  helpers_read (n ∷ ns) r s h q i =
      let ready : Ready p nodes [] ((n ∷ ns) ++ []) (opens None r) s = record {
        sized = h.sized;
        closed = h.closed;
        names = names_open p (length s.order) r.opened None h.names;
        listed = h.listed;
        budget = h.budget;
      } in
      let a = (nodes_in_turn p nodes [] (IsFit p nodes max_depth []) (read_node steps) (tree p) trees_do [] (opens None r) s (n ∷ ns) q ready i).1 in
      let trees : List NodeText = (each (tree p) s.opened (n ∷ ns)).made in
      let many = made_many (tree p) (record { seen = s.opened; made = [] }) (n ∷ ns) in
      let within : Reading = each_read (read_node steps) trees (opens None r) in
      let order : List ℕ = (fold G s (n ∷ ns)).order in
      let next : length within.closed ≡ length order = ap (λ (l : List (List (Option ℕ))). length l) a.ready.closed ∙ length-map order (inside p nodes) in
      subst (λ (t : Reading). IsWhole r t (fold G s (n ∷ ns)) (n ∷ ns)) (sym (root_read trees r (omega (arith, many)))) (record {
        closed = ap (λ (l : List (List (Option ℕ))). l ++ within.here ∷ []) a.ready.closed
            ∙ ap (λ (l : List (Option ℕ)). map (inside p nodes) order ++ l ∷ []) a.here;
        here = ap (λ (k : ℕ). r.here ++ some k ∷ []) next;
      })

  module _ (start : Ready p nodes [] (p.scene.roots ++ (p.scene.helpers ++ [])) nothing_read (unnumbered nodes))
      (fit : (ns : List ℕ) → AllByRecursion (λ (n : ℕ). n < count p) ns → AllByRecursion (IsFit p nodes max_depth []) ns)
      (roots_fit : AllByRecursion (λ (n : ℕ). n < count p) p.scene.roots) (helpers_fit : AllByRecursion (λ (n : ℕ). n < count p) p.scene.helpers)
      (numbered : numbering nodes p.scene.roots p.scene.helpers ≡ in_place (length nodes)) where
    placed : InPlace p nodes (s2 p nodes)
    placed i x at =
        let e = range_place 0 (length nodes) i x (subst (λ (l : List ℕ). slice_get l i ≡ Some x) (order_is p nodes numbered) at) in omega (arith, e)

    roots_placed : InPlace p nodes (s1 p nodes)
    roots_placed = earlier p nodes (s1 p nodes) p.scene.helpers placed

    abbrev r1 : Reading
    r1 = each_read (read_statement steps) (roots_made p nodes).made nothing_read

    roots_read : ((roots_made p nodes).seen ≡ (s1 p nodes).opened) × After p nodes [] (p.scene.helpers ++ []) nothing_read r1 (s1 p nodes) p.scene.roots
    roots_read =
        nodes_in_turn p nodes [] (IsFit p nodes max_depth []) (read_statement steps) (root_tree (tree p)) roots_do (p.scene.helpers ++ []) nothing_read (s0 p nodes)
        p.scene.roots (fit p.scene.roots roots_fit) start roots_placed

    abbrev behind : List Bool → Reading
    behind seen = each_read (read_statement steps) (helper_root (helpers_of p seen).made) r1

    whole : IsWhole r1 (behind (s1 p nodes).opened) (s2 p nodes) p.scene.helpers
    whole = helpers_read p.scene.helpers r1 (s1 p nodes) roots_read.1.ready (fit p.scene.helpers helpers_fit) placed

    abbrev all : Reading
    all = each_read (read_statement steps) (statements_of p) nothing_read

    abbrev parted : Grows (List Statement) → Reading
    parted m =
        each_read (read_statement steps) (m.made ++ helper_root (helpers_of p m.seen).made ++ routes_of p.scene p.routes) nothing_read

    apart : all ≡ parted (roots_of p)
    unfolding statements_of
    apart = refl

    in_parts : parted (roots_made p nodes) ≡ behind (roots_made p nodes).seen
    in_parts =
        let first : List Statement = (roots_made p nodes).made in
        let second : List Statement = helper_root (helpers_of p (roots_made p nodes).seen).made in
        let step : Reading → Statement → Reading = λ r part. read_statement steps part r in
        fold-append step nothing_read (first ++ second) (routes_of p.scene p.routes)
        ∙ (routes_read p.scene p.routes (fold step nothing_read (first ++ second))
        ∙ fold-append step nothing_read first second)

    pub all_is : all ≡ behind (s1 p nodes).opened
    all_is = apart ∙ (ap parted (roots_are p nodes rules.stand) ∙ (in_parts ∙ ap behind roots_read.0))

    module _ (have : HaveChildren p.scene nodes) where
      closed_are : map (inside p nodes) (s2 p nodes).order ≡ map (map some) (map children p.scene.nodes)
      closed_are =
          ap (λ (l : List ℕ). map (inside p nodes) l) (order_is p nodes numbered)
          ∙ (ap (λ (k : ℕ). map (inside p nodes) (range_with_len 0 k)) rules.stand.many
          ∙ by_places (inside p nodes) children p.scene.nodes 0 (λ i node at.
          (let e : 0 + i ≡ i = omega arith in ap (λ (k : ℕ). inside p nodes k) e ∙ ap (λ (l : List ℕ). map some l) (have i node at))))

      many_are : length (s2 p nodes).order ≡ length p.scene.nodes
      many_are = ap (λ (l : List ℕ). length l) (order_is p nodes numbered) ∙ (length-range_with_len 0 (length nodes) ∙ rules.stand.many)

      pub is_read : AreNodesRead p.scene all
      is_read =
          subst (λ (t : Reading). AreNodesRead p.scene t) (sym all_is) (
            whole.closed
                ∙ (ap (λ (l : List (List (Option ℕ))). l ++ map (map some) (in_switch p.scene.helpers)) closed_are
                ∙ sym (map-append (map some) (map children p.scene.nodes) (in_switch p.scene.helpers))),
            whole.here
                ∙ (ap (λ (l : List (Option ℕ)). l ++ map some (switch_root (length (s2 p nodes).order) p.scene.helpers)) roots_read.1.here
                ∙ (ap (λ (k : ℕ). map some p.scene.roots ++ map some (switch_root k p.scene.helpers)) many_are
                ∙ sym (map-append some p.scene.roots (switch_root (length p.scene.nodes) p.scene.helpers)))),
          )

-- ---- a document's scene

module _ (distinct : LabelsAreDistinct) (flat : Flat) (scene : SceneView) (routes : List Route) (state : List Fields) (is : scene_of flat ≡ Ok scene)
    (few : length scene.nodes ≤ 2 ^ 64) (kept : AreKeepable state) where
  abbrev p : PlanView
  p = plan scene routes state

  abbrev nodes : List FlatNode
  nodes = holders scene

  rules : Rules p nodes
  rules = record {
    stand = stands flat scene is routes state kept;
    lower = λ n node at. subst (AllByRecursion (λ (m : ℕ). m < n)) (sym (holders_have scene n node at)) (lower_children flat scene is n node at);
    apart = λ m n l k e. distinct flat scene is few m n l k e;
    named = λ n l h. named_twice scene routes n l h;
  }

  same_parts : (x n : ℕ) → n < length scene.nodes → hits x (parts_of nodes n) ≡ hits x (nodes_within scene n)
  same_parts x n l =
      let f = found scene.nodes n l in
      ap (λ (ns : List ℕ). hits x ns) (holders_have scene n f.0 f.1 ∙ sym (within_are flat scene is n f.0 f.1))

  all_coming : (x : ℕ) → hits x (scene.roots ++ (scene.helpers ++ [])) + unwritten nodes x 0 (replicate (length nodes) false) ≡ hits x (places scene)
  all_coming x =
      let all = all_unwritten nodes x (nodes_within scene) 0 (length scene.nodes) (λ n l. same_parts x n (omega (arith, l))) in
      let one_by = ap (λ (k : ℕ). unwritten nodes x 0 (replicate k false)) (as_many scene) in
      let front : hits x (scene.roots ++ (scene.helpers ++ [])) ≡ hits x (scene.roots ++ scene.helpers) =
      ap (λ (l : List ℕ). hits x (scene.roots ++ l)) (append-nil scene.helpers) in
      let joined = hits_append x (scene.roots ++ scene.helpers) (flat_map (nodes_within scene) (range_with_len 0 (length scene.nodes))) in
      omega (arith, all, one_by, front, joined)

  start : Ready p nodes [] (scene.roots ++ (scene.helpers ++ [])) nothing_read (unnumbered nodes)
  start = record {
    sized = length-replicate (length nodes) false;
    closed = refl;
    names = names_begin p;
    listed = λ x seen l. absurd (true≢false (sym (none_new (length nodes) x (omega (arith, l, (as_many scene)))) ∙ seen));
    budget = λ x l.
        all_in (is_new (unnumbered nodes) x) (hits x (scene.roots ++ (scene.helpers ++ []))) (unwritten nodes x 0 (replicate (length nodes) false)) (hits x (places scene))
        (none_new (length nodes) x (omega (arith, l, (as_many scene)))) (all_coming x);
  }

  fit : (ns : List ℕ) → AllByRecursion (λ (n : ℕ). n < length scene.nodes) ns → AllByRecursion (IsFit p nodes max_depth []) ns
  fit ns h =
      all_weaker (λ (n : ℕ). n < length scene.nodes) (IsFit p nodes max_depth [])
      (λ n l. (low_shallow flat scene is n l, λ x k. absurd k)) ns h

  document_is : read (scene_document scene routes state) ≡ each_read (read_statement steps) (statements_of p) nothing_read
  unfolding scene_document
  document_is = refl

  document_read : AreNodesRead scene (read (scene_document scene routes state))
  document_read =
      subst (λ (r : Reading). AreNodesRead scene r) (sym document_is)
      (is_read p nodes rules start fit (roots_there flat scene is) (helpers_there flat scene is)
      (numbered flat scene is) (holders_have scene))

pub all_read : LabelsAreDistinct → WrittenNodesAreRead
all_read distinct flat scene routes state is few kept = document_read distinct flat scene routes state is few kept
