-- An instance is all nodes of its prototype's body written in its place: the body.
use Rattle.std.proofs.Common.{length-set, zero, suc, ◌<◌, length-append, ◌≡◌, ℕ, true, false, length, List, [], ◌∷◌, ◌++◌, Option, Some, None, option_map, Result, Ok, Err, map, refl, ap, sym, ◌∙◌, subst, arith}
use Rattle.std.specs.Prelude.{slice_get, slice_set}
use Rattle.std.specs.List.{list_all}
use Rattle.std.specs.Option.{option_map_or, option_or}
use Rattle.std.proofs.lemmas.List.{append-nil, append_assoc}
use Rattle.x3d_values.specs.Names.{node_type_named}
use Rattle.x3d_values.specs.declared.node_type.NodeType.{NodeType}
use Rattle.classic_tree.specs.declared.tree.BodyItem.{BodyItem}
use Rattle.classic_tree.specs.declared.tree.BodyItem.TheOpen.{NodeText-F}
use Rattle.classic_tree.specs.declared.tree.Declaration.{Declaration}
use Rattle.classic_tree.specs.declared.tree.NodeText.{NodeText}
use Rattle.proto_flat.specs.declared.fault.ExpandFault.{ExpandFault}
use Rattle.proto_flat.specs.declared.flat.FlatNode.{FlatNode}
use Rattle.proto_meaning.specs.Limits.{Met, ANode, Outcome, behind, follow, and_then}
use Rattle.proto_meaning.specs.Names.{Name, Braces as Pair, Filled}
use Rattle.proto_meaning.specs.Sight.{Names, OfType, meant}
use Rattle.proto_meaning.specs.Flat.{Walk, fields_of, close_node, flat_node, ◌>>=◌, comes, pure, through, Node, Item, Inside, inside, in_body, renamed, full_node, node_step, statement_step}
use Rattle.proto_meaning.specs.Flat.{item as item_part, node as node_part}
use Rattle.proto_meaning.proofs.Trees.{node-full}
use Rattle.laws_documents.specs.InPlace.{nothing_in_sight}
use Rattle.laws_documents.specs.WithFields.{is_quiet_node, written_node, found, as_written, named}
use Rattle.laws_documents.proofs.WithFieldsSound.{as_stated, nothing_meant}
use Rattle.laws_documents.proofs.WithFieldsInstance.{its, fields_there, found_there}
use Rattle.laws_documents.proofs.WithHelpersSteps.{each_node, root}
use Rattle.laws_documents.proofs.InPlaceParts.{never, both_true}
use Rattle.laws_documents.proofs.WithFieldsTexts as texts
use Rattle.laws_documents.proofs.WithFieldsTexts.{joined, asked_by}
use Rattle.laws_documents.proofs.WithFieldsWalks.{fewer_append, Fewer, fewer_same, Equal, Beside, ComeAlike}
use Rattle.laws_documents.proofs.WithFieldsParts.{every_node}
use Rattle.laws_documents.proofs.WithFieldsSteps.{rename, split_all}
use Rattle.laws_documents.proofs.WithFieldsGiven.{EndsIn, Leads, leads_then, Knows}

length_renamed : (name : Option Name) (n : ℕ) (nodes : List FlatNode) → length (renamed name n nodes) ≡ length nodes
length_renamed None n nodes = refl
length_renamed (Some name) n nodes = on (slice_get nodes n) where
  on : (o : Option FlatNode) → length (option_map_or (λ (x : FlatNode). slice_set nodes n (record x { name = Some name })) o nodes) ≡ length nodes
  on None = refl
  on (Some x) = length-set nodes n (record x { name = Some name })

-- a node of the first is renamed, whatever stands behind
get_more : (xs ys : List FlatNode) (n : ℕ) → n < length xs → slice_get (xs ++ ys) n ≡ slice_get xs n
get_more [] ys n e = absurd (omega (arith, e))
get_more (x ∷ xs) ys zero e = refl
get_more (x ∷ xs) ys (suc n) e = get_more xs ys n (omega (arith, e))

set_more : (xs ys : List FlatNode) (n : ℕ) (y : FlatNode) → n < length xs → slice_set (xs ++ ys) n y ≡ slice_set xs n y ++ ys
set_more [] ys n y e = absurd (omega (arith, e))
set_more (x ∷ xs) ys zero y e = refl
set_more (x ∷ xs) ys (suc n) y e = ap (λ rest. x ∷ rest) (set_more xs ys n y (omega (arith, e)))

pub renamed_more : (name : Option Name) (n : ℕ) (xs ys : List FlatNode) → n < length xs → renamed name n (xs ++ ys) ≡ renamed name n xs ++ ys
renamed_more None n xs ys e = refl
renamed_more (Some name) n xs ys e =
    ap (λ o. option_map_or (λ (x : FlatNode). slice_set (xs ++ ys) n (record x { name = Some name })) o (xs ++ ys)) (get_more xs ys n e) ∙ on (slice_get xs n) where
      on : (o : Option FlatNode) → option_map_or (λ (x : FlatNode). slice_set (xs ++ ys) n (record x { name = Some name })) o (xs ++ ys) ≡ option_map_or (λ (x : FlatNode). slice_set xs n (record x { name = Some name })) o xs ++ ys
      on None = refl
      on (Some x) = set_more xs ys n (record x { name = Some name }) e

-- ---- a node's number is one of those there

anything : {A : Type 0} (o : Outcome A) → Leads o (λ _. Unit {0})
anything {A} o = on o.comes where
  on : (c : Result A ExpandFault) → EndsIn (λ _. Unit {0}) c
  on (Ok a) = tt
  on (Err e) = tt

full_below : (l : ℕ) (name : Option Name) (items : List Item) (t : Option NodeType) (u : Walk) → Leads (full_node l name items (option_or (option_map OfType t) None) u) (λ q. q.0 < length q.1.put.nodes)
full_below l name items None u = tt
full_below l name items (Some t) u =
    leads_then (λ (q : Unit {0} × Walk). Unit {0}) (λ (q : ℕ × Walk). q.0 < length q.1.put.nodes) (record { met = ANode ∷ []; comes = Ok (tt {0}, u) }) (λ q. (inside name (OfType t) (fields_of t) items >>= λ i. close_node name i.at (flat_node l name t i)) q.1) tt
    (λ q _. leads_then (λ (r : Inside × Walk). Unit {0}) (λ (r : ℕ × Walk). r.0 < length r.1.put.nodes) (inside name (OfType t) (fields_of t) items q.1) (λ r. close_node name r.0.at (flat_node l name t r.0) r.1) (anything (inside name (OfType t) (fields_of t) items q.1))
    (λ r _. omega (arith, length-append r.1.put.nodes (flat_node l name t r.0 ∷ []))))

step_below : (l : ℕ) (name : Option Name) (word : Name) (items : List Item) (u : Walk) → u.sight ≡ nothing_in_sight → Leads ((node_step (NodeText-F.Full l name word items)).does u) (λ q. q.0 < length q.1.put.nodes)
unfolding node_step
step_below l name word items u e = subst (λ s. Leads (full_node l name items (meant word s) u) (λ q. q.0 < length q.1.put.nodes)) (sym e) (full_below l name items (node_type_named word) u)

node_below : (proto : Name) (n : NodeText) → is_quiet_node proto false n ≡ true → (u : Walk) → u.sight ≡ nothing_in_sight → Leads ((node_part n).does u) (λ q. q.0 < length q.1.put.nodes)
node_below proto = each_node (λ n. is_quiet_node proto false n ≡ true → (u : Walk) → u.sight ≡ nothing_in_sight → Leads ((node_part n).does u) (λ q. q.0 < length q.1.put.nodes))
    (λ l name word is e u s. subst (λ (x : Node). Leads (x.does u) (λ q. q.0 < length q.1.put.nodes)) (sym (node-full l name word is refl)) (step_below l name word (map item_part is) u s))
    (λ l name e. never (sym (texts.quiet-use proto false l name) ∙ e))

module _ (line : ℕ) (proto : Name) (ds : List (Declaration NodeText)) (body : List NodeText) where
  abbrev its_all : Names
  its_all = its line proto ds body

  -- ---- the nodes of a body, with helpers and roots

  module _ (name : Option Name) (before others : List ℕ) (all : List Filled) (items : List BodyItem) (known : Knows its_all all (found ds items)) where
    abbrev new : NodeText → NodeText
    new n = written_node (found ds items) as_written n

    -- behind the body's first node n, which has its name in the second already: helpers so far, which are roots of the second
    pub record Behind (n : ℕ) (u : Walk) (rs : List ℕ) (v : Walk) : Type 0 where
      pub firsts : List FlatNode
      pub tail : List FlatNode
      pub one_nodes : u.put.nodes ≡ firsts ++ tail
      pub two_nodes : v.put.nodes ≡ renamed name n firsts ++ tail
      pub below : n < length firsts
      pub more : List ℕ
      pub one_helpers : u.put.helpers ≡ before ++ more
      pub two_helpers : v.put.helpers ≡ []
      pub roots : rs ≡ others ++ n ∷ more
      pub one_sight : u.sight ≡ nothing_in_sight
      pub two_sight : v.sight ≡ nothing_in_sight
      pub found_fields : u.scope.interface ≡ fields_there line proto ds body
      pub found_values : u.scope.given ≡ all
      pub one_routes : (every : List Pair) → u.scope.routes every ≡ []
      pub two_routes : (every : List Pair) → v.scope.routes every ≡ []

    abbrev pub EndBehind : List Met → Result (List ℕ × Walk) ExpandFault → List Met → Result (List ℕ × Walk) ExpandFault → Type 0
    EndBehind met (Err e) more d = Unit {0}
    EndBehind met (Ok p) more (Ok q) = Fewer more met × (n : ℕ) × (p.0 ≡ n ∷ []) × Behind n p.1 q.0 q.1
    EndBehind met (Ok p) more (Err e) = ⊥

    abbrev pub ComeBehind : Outcome (List ℕ × Walk) → Outcome (List ℕ × Walk) → Type 0
    ComeBehind o p = EndBehind o.met o.comes p.met p.comes

    behind_more : (met more : List Met) (o p : Outcome (List ℕ × Walk)) → Fewer more met → ComeBehind o p → ComeBehind (behind met o) (behind more p)
    behind_more met more o p e h = on o.met o.comes p.met p.comes h where
      on : (ms : List Met) (c : Result (List ℕ × Walk) ExpandFault) (ns : List Met) (d : Result (List ℕ × Walk) ExpandFault) → EndBehind ms c ns d → EndBehind (met ++ ms) c (more ++ ns) d
      on ms (Err x) ns d k = tt
      on ms (Ok a) ns (Ok b) k = (fewer_append more met ns ms e k.0, k.1, k.2, k.3)
      on ms (Ok a) ns (Err y) k = absurd k

    abbrev OneNode : List ℕ → List FlatNode → List FlatNode → Outcome (ℕ × Walk) → Outcome (ℕ × Walk) → Type 0
    OneNode helpers firsts seconds o p = ComeAlike nothing_in_sight nothing_in_sight (fields_there line proto ds body) all helpers firsts seconds Equal o p

    abbrev NodeSame : List ℕ → List FlatNode → List FlatNode → NodeText → Type 0
    NodeSame helpers firsts seconds n = (u v : Walk) → Beside nothing_in_sight nothing_in_sight (fields_there line proto ds body) all helpers firsts seconds u v → OneNode helpers firsts seconds ((node_part n).does u) ((node_part (new n)).does v)

    both_same : (helpers : List ℕ) (firsts seconds : List FlatNode) → length seconds ≡ length firsts → (n : NodeText) → is_quiet_node proto false n ≡ true → list_all its_all (asked_by n) ≡ true
        → NodeSame helpers firsts seconds n × (false ≡ false → (to : Name) (u v : Walk) → Beside nothing_in_sight nothing_in_sight (fields_there line proto ds body) all helpers firsts seconds u v
        → OneNode helpers firsts seconds (((node_part n).does >>= rename (Some to)) u) ((node_part (named (Some to) (new n))).does v))
    both_same helpers firsts seconds same n quiet asked =
        every_node nothing_in_sight (fields_there line proto ds body) all helpers firsts seconds same its_all false proto (found ds items) as_written (nothing_meant line proto ds body) (λ l m word is e. refl) (found_there line proto ds body all items known) (λ e. never e) n quiet asked

    unnamed : (helpers : List ℕ) (o p : Outcome (ℕ × Walk)) → OneNode helpers [] [] o p → OneNode helpers [] [] (and_then o (λ q. rename None q.0 q.1)) p
    unnamed helpers o p h = on o.met o.comes p.met p.comes h where
      on : (met : List Met) (c : Result (ℕ × Walk) ExpandFault) (more : List Met) (d : Result (ℕ × Walk) ExpandFault) → OneNode helpers [] [] (record { met = met; comes = c }) (record { met = more; comes = d })
          → OneNode helpers [] [] (follow met c (λ q. rename None q.0 q.1)) (record { met = more; comes = d })
      on met (Err x) more d k = tt
      on met (Ok q) more (Ok r) k = (subst (λ l. Fewer more l) (sym (append-nil met)) k.0, k.1, k.2)
      on met (Ok q) more (Err y) k = absurd k

    named_same : (helpers : List ℕ) (n : NodeText) → is_quiet_node proto false n ≡ true → list_all its_all (asked_by n) ≡ true → (u v : Walk) → Beside nothing_in_sight nothing_in_sight (fields_there line proto ds body) all helpers [] [] u v
        → OneNode helpers [] [] (((node_part n).does >>= rename name) u) ((node_part (named name (new n))).does v)
    named_same helpers n quiet asked u v b =
        let both = both_same helpers [] [] refl n quiet asked in on (both.0 u v b) (λ to. both.1 refl to u v b) name where
          on : OneNode helpers [] [] ((node_part n).does u) ((node_part (new n)).does v) → ((to : Name) → OneNode helpers [] [] (((node_part n).does >>= rename (Some to)) u) ((node_part (named (Some to) (new n))).does v)) → (o : Option Name)
              → OneNode helpers [] [] (((node_part n).does >>= rename o) u) ((node_part (named o (new n))).does v)
          on plain under None = unnamed helpers ((node_part n).does u) ((node_part (new n)).does v) plain
          on plain under (Some to) = under to

    -- what the first does with a helper, and the second with a root
    abbrev helper_of : ℕ → Outcome (ℕ × Walk) → Outcome (List ℕ × Walk)
    helper_of n o = and_then (and_then o (λ q. pure (q.0 ∷ []) q.1)) (λ q. comes (Ok (n ∷ [], record q.1 { put = record q.1.put { helpers = q.1.put.helpers ++ q.0 } })))

    abbrev root_of : List ℕ → Outcome (ℕ × Walk) → Outcome (List ℕ × Walk)
    root_of rs o = and_then (and_then o (λ q. pure (q.0 ∷ []) q.1)) (λ q. pure (rs ++ q.0) q.1)

    helper_is : (b : NodeText) (n : ℕ) (u : Walk) → in_body (as_stated line proto ds body b) (n ∷ []) u ≡ helper_of n ((node_part b).does u)
    unfolding statement_step
    helper_is b n u = refl

    first_is : (b : NodeText) (u : Walk) → in_body (as_stated line proto ds body b) [] u ≡ and_then ((node_part b).does u) (λ q. pure (q.0 ∷ []) q.1)
    unfolding statement_step
    first_is b u = refl

    root_is : (b : NodeText) (rs : List ℕ) (v : Walk) → root (as_stated line proto ds body b) rs v ≡ root_of rs ((node_part b).does v)
    unfolding statement_step
    root_is b rs v = refl

    two_nils : (ms : List Met) → (ms ++ []) ++ [] ≡ ms
    two_nils ms = append-nil (ms ++ []) ∙ append-nil ms

    beside_of : (n : ℕ) (u : Walk) (rs : List ℕ) (v : Walk) → (k : Behind n u rs v) → Beside nothing_in_sight nothing_in_sight (fields_there line proto ds body) all u.put.helpers k.firsts (renamed name n k.firsts) u v
    beside_of n u rs v k = record { tail = k.tail; one_nodes = k.one_nodes; two_nodes = k.two_nodes; one_helpers = refl; two_helpers = k.two_helpers; one_sight = k.one_sight; two_sight = k.two_sight; found = k.found_fields; found_values = k.found_values; one_routes = k.one_routes; two_routes = k.two_routes }

    helper_same : (n : ℕ) (u : Walk) (rs : List ℕ) (v : Walk) → (k : Behind n u rs v) → (o p : Outcome (ℕ × Walk)) → OneNode u.put.helpers k.firsts (renamed name n k.firsts) o p → ComeBehind (helper_of n o) (root_of rs p)
    helper_same n u rs v k o p h = on o.met o.comes p.met p.comes h where
      on : (met : List Met) (c : Result (ℕ × Walk) ExpandFault) (more : List Met) (d : Result (ℕ × Walk) ExpandFault) → OneNode u.put.helpers k.firsts (renamed name n k.firsts) (record { met = met; comes = c }) (record { met = more; comes = d })
          → ComeBehind (helper_of n (record { met = met; comes = c })) (root_of rs (record { met = more; comes = d }))
      on met (Err x) more d l = tt
      on met (Ok q) more (Err y) l = absurd l
      on met (Ok q) more (Ok r) l = (
        subst (λ m. Fewer m ((met ++ []) ++ [])) (sym (two_nils more)) (subst (λ m. Fewer more m) (sym (two_nils met)) l.0),
        n,
        refl,
        record {
          firsts = k.firsts;
          tail = l.2.tail;
          one_nodes = l.2.one_nodes;
          two_nodes = l.2.two_nodes;
          below = k.below;
          more = k.more ++ q.0 ∷ [];
          one_helpers = ap (λ hs. hs ++ q.0 ∷ []) (l.2.one_helpers ∙ k.one_helpers) ∙ append_assoc before k.more (q.0 ∷ []);
          two_helpers = l.2.two_helpers;
          roots = ap (λ m. rs ++ m ∷ []) l.1 ∙ ap (λ xs. xs ++ q.0 ∷ []) k.roots ∙ append_assoc others (n ∷ k.more) (q.0 ∷ []);
          one_sight = l.2.one_sight;
          two_sight = l.2.two_sight;
          found_fields = l.2.found;
          found_values = l.2.found_values;
          one_routes = l.2.one_routes;
          two_routes = l.2.two_routes;
        },
      )

    behind_then_behind : (o p : Outcome (List ℕ × Walk)) (f g : List ℕ × Walk → Outcome (List ℕ × Walk)) → ComeBehind o p
        → ((n : ℕ) (u : Walk) (rs : List ℕ) (v : Walk) → Behind n u rs v → ComeBehind (f (n ∷ [], u)) (g (rs, v))) → ComeBehind (and_then o f) (and_then p g)
    behind_then_behind o p f g h k = on o.met o.comes p.met p.comes h where
      on : (met : List Met) (c : Result (List ℕ × Walk) ExpandFault) (more : List Met) (d : Result (List ℕ × Walk) ExpandFault) → EndBehind met c more d → ComeBehind (follow met c f) (follow more d g)
      on met (Err x) more d l = tt
      on met (Ok q) more (Err y) l = absurd l
      on met (Ok q) more (Ok r) l =
          subst (λ ns. ComeBehind (behind met (f (ns, q.1))) (behind more (g r))) (sym l.2) (behind_more met more (f (l.1 ∷ [], q.1)) (g r) l.0 (k l.1 q.1 r.0 r.1 l.3))

    helpers_same : (bs : List NodeText) → list_all (is_quiet_node proto false) bs ≡ true → list_all its_all (joined (map asked_by bs)) ≡ true → (n : ℕ) (u : Walk) (rs : List ℕ) (v : Walk) → Behind n u rs v
        → ComeBehind (through in_body (map (as_stated line proto ds body) bs) (n ∷ []) u) (through root (map (as_stated line proto ds body) (map new bs)) rs v)
    helpers_same [] quiet asked n u rs v k = (fewer_same [], n, refl, k)
    helpers_same (b ∷ bs) quiet asked n u rs v k =
        let both = both_true (is_quiet_node proto false b) (list_all (is_quiet_node proto false) bs) quiet in
        let each = split_all its_all (asked_by b) (joined (map asked_by bs)) asked in
        behind_then_behind (in_body (as_stated line proto ds body b) (n ∷ []) u) (root (as_stated line proto ds body (new b)) rs v)
        (λ q. through in_body (map (as_stated line proto ds body) bs) q.0 q.1) (λ q. through root (map (as_stated line proto ds body) (map new bs)) q.0 q.1)
        (subst (λ (o : Outcome (List ℕ × Walk)). ComeBehind o (root (as_stated line proto ds body (new b)) rs v)) (sym (helper_is b n u))
        (subst (λ (o : Outcome (List ℕ × Walk)). ComeBehind (helper_of n ((node_part b).does u)) o) (sym (root_is (new b) rs v))
        (helper_same n u rs v k ((node_part b).does u) ((node_part (new b)).does v) ((both_same u.put.helpers k.firsts (renamed name n k.firsts) (length_renamed name n k.firsts) b both.0 each.0).0 u v (beside_of n u rs v k)))))
        (λ m x ss y j. helpers_same bs both.1 each.1 m x ss y j)

    first_same : (o p : Outcome (ℕ × Walk)) → Leads o (λ q. q.0 < length q.1.put.nodes) → OneNode before [] [] (and_then o (λ q. rename name q.0 q.1)) p → ComeBehind (and_then o (λ q. pure (q.0 ∷ []) q.1)) (root_of others p)
    first_same o p under h = on o.met o.comes p.met p.comes under h where
      on : (met : List Met) (c : Result (ℕ × Walk) ExpandFault) (more : List Met) (d : Result (ℕ × Walk) ExpandFault) → EndsIn (λ (q : ℕ × Walk). q.0 < length q.1.put.nodes) c → OneNode before [] [] (follow met c (λ q. rename name q.0 q.1)) (record { met = more; comes = d })
          → ComeBehind (follow met c (λ q. pure (q.0 ∷ []) q.1)) (root_of others (record { met = more; comes = d }))
      on met (Err x) more d u l = tt
      on met (Ok q) more (Err y) u l = absurd l
      on met (Ok q) more (Ok r) u l = (
        subst (λ m. Fewer m (met ++ [])) (sym (two_nils more)) l.0,
        q.0,
        refl,
        record {
          firsts = q.1.put.nodes;
          tail = [];
          one_nodes = sym (append-nil q.1.put.nodes);
          two_nodes = l.2.two_nodes ∙ sym l.2.one_nodes ∙ sym (append-nil (renamed name q.0 q.1.put.nodes));
          below = u;
          more = [];
          one_helpers = l.2.one_helpers ∙ sym (append-nil before);
          two_helpers = l.2.two_helpers;
          roots = ap (λ m. others ++ m ∷ []) l.1;
          one_sight = l.2.one_sight;
          two_sight = l.2.two_sight;
          found_fields = l.2.found;
          found_values = l.2.found_values;
          one_routes = l.2.one_routes;
          two_routes = l.2.two_routes;
        },
      )

    pub body_same : (b : NodeText) (bs : List NodeText) → list_all (is_quiet_node proto false) (b ∷ bs) ≡ true → list_all its_all (joined (map asked_by (b ∷ bs))) ≡ true → (u v : Walk)
        → Beside nothing_in_sight nothing_in_sight (fields_there line proto ds body) all before [] [] u v
        → ComeBehind (through in_body (map (as_stated line proto ds body) (b ∷ bs)) [] u) (through root (map (as_stated line proto ds body) (named name (new b) ∷ map new bs)) others v)
    body_same b bs quiet asked u v k =
        let both = both_true (is_quiet_node proto false b) (list_all (is_quiet_node proto false) bs) quiet in
        let each = split_all its_all (asked_by b) (joined (map asked_by bs)) asked in
        behind_then_behind (in_body (as_stated line proto ds body b) [] u) (root (as_stated line proto ds body (named name (new b))) others v)
        (λ q. through in_body (map (as_stated line proto ds body) bs) q.0 q.1) (λ q. through root (map (as_stated line proto ds body) (map new bs)) q.0 q.1)
        (subst (λ (o : Outcome (List ℕ × Walk)). ComeBehind o (root (as_stated line proto ds body (named name (new b))) others v)) (sym (first_is b u))
        (subst (λ (o : Outcome (List ℕ × Walk)). ComeBehind (and_then ((node_part b).does u) (λ q. pure (q.0 ∷ []) q.1)) o) (sym (root_is (named name (new b)) others v))
        (first_same ((node_part b).does u) ((node_part (named name (new b))).does v) (node_below proto b both.0 u k.one_sight) (named_same before b both.0 each.0 u v k))))
        (λ m x ss y j. helpers_same bs both.1 each.1 m x ss y j)
