-- An instance is all nodes of its prototype's body written in its place: whole documents.
use Rattle.std.proofs.Common.{◌≡◌, inl, ℕ, Bool, true, false, ◌&&◌, if◌then◌else◌, nat_lt, length, List, [], ◌∷◌, ◌++◌, Option, Some, None, Result, Ok, Err, map, refl, ap, sym, ◌∙◌, subst}
use Rattle.std.specs.List.{flat_map, list_all}
use Rattle.std.specs.Option.{option_or}
use Rattle.std.specs.Str.{bytes_eq}
use Rattle.std.proofs.lemmas.List.{append-nil, map-append}
use Rattle.std.proofs.lemmas.Slice.Eq.{bytes_eq-Decides}
use Rattle.x3d_values.specs.Names.{node_type_named}
use Rattle.classic_tree.specs.declared.tree.BodyItem.{BodyItem}
use Rattle.classic_tree.specs.declared.tree.Declaration.{Declaration}
use Rattle.classic_tree.specs.declared.tree.Document.{Document}
use Rattle.classic_tree.specs.declared.tree.NodeText.{NodeText}
use Rattle.classic_tree.specs.declared.tree.NodeText.TheVariants as node_text
use Rattle.classic_tree.specs.declared.tree.Statement.{Statement, out-Statement}
use Rattle.classic_tree.specs.declared.tree.Statement.TheVariants as statement_text
use Rattle.proto_flat.specs.Fault.{fault}
use Rattle.proto_flat.specs.declared.fault.ExpandFault.{ExpandFault}
use Rattle.proto_flat.specs.declared.fault.ExpandFaultKind.TheVariants.{TooLarge}
use Rattle.proto_flat.specs.declared.flat.Flat.{Flat}
use Rattle.proto_flat.specs.declared.flat.FlatRoute.{FlatRoute}
use Rattle.proto_meaning.specs.Limits.{Met, Outcome, behind, follow, and_then, is_within, with_few_routes, limited}
use Rattle.proto_meaning.specs.Names.{Name, Braces as Pair, Field, Filled}
use Rattle.proto_meaning.specs.Sight.{Sight, Names, no_names, OfProto, meant}
use Rattle.proto_meaning.specs.Flat.{Walk, comes, pure, through, Stated, in_body, begin, made, renamed, declare, full_node, node_step, statement_step, proto_step, header_of, flat}
use Rattle.proto_meaning.specs.Flat.{item as item_part, statement as stated}
use Rattle.proto_meaning.proofs.Trees.{node-full, statement-node}
use Rattle.proto_meaning.proofs.SightLaw.{Seen}
use Rattle.laws_documents.specs.InPlace.{nothing_in_sight}
use Rattle.laws_documents.specs.WithFields.{is_plain, Quiet, quiet_item, is_quiet_node, is_quiet_statement, written_node, written_statement, found, default_of, as_written, finds_nothing}
use Rattle.laws_documents.proofs.WithFieldsSound.{all_stated, parts, as_stated, one_body, sight_with, Sound, declares, declaration_is, declare_sound, other_words, its_word, all_of_all}
use Rattle.laws_documents.proofs.WithFieldsInstance.{its, the, inner, closed, body_in, writes, its_instance}
use Rattle.laws_documents.proofs.WithFieldsEnds.{refused, is_fine, fewer_within}
use Rattle.laws_documents.proofs.WithHelpersBody.{EndBehind, ComeBehind, renamed_more, body_same}
use Rattle.laws_documents.proofs.WithHelpersSteps.{shuffled_more, first_alone, second_alone, each_statement, out_full, root, through_more}
use Rattle.laws_documents.specs.WithHelpers.{is_of, is_instance, may_be, as_statements, first_named, nodes_for, node_out, statement_out, written_statements, Shuffled, HelpersAsRoots, InstancesAreAllNodesOfTheirBodies}
use Rattle.laws_documents.proofs.InPlaceParts.{never, both_true}
use Rattle.laws_documents.proofs.WithFieldsTexts as texts
use Rattle.laws_documents.proofs.WithFieldsTexts.{joined, asked_by, asked_by_statement}
use Rattle.laws_documents.proofs.WithFieldsSeen.{all_taken}
use Rattle.laws_documents.proofs.WithFieldsWalks.{fewer_append, fewer_none, Fewer, fewer_same, Equal, Beside, EndAlike, ComeAlike}
use Rattle.laws_documents.proofs.WithFieldsParts.{every_same}
use Rattle.laws_documents.proofs.WithFieldsSteps.{then_then, out_node}
use Rattle.laws_documents.proofs.WithFieldsGiven.{EndsIn, Leads, Knows, knows_by}
use Rattle.laws_documents.proofs.WithFieldsItems.{items_same}

-- what comes after is one with what was before
then_both : {A : Type 0} (o : Outcome A) (f : A → Outcome (ℕ × Walk)) (g : ℕ × Walk → Outcome (List ℕ × Walk)) (k : List ℕ × Walk → Outcome (List ℕ × Walk)) → and_then (and_then (and_then o f) g) k ≡ and_then o (λ a. and_then (and_then (f a) g) k)
then_both o f g k = ap (λ x. and_then x k) (then_then o f g) ∙ then_then o (λ a. and_then (f a) g) k

module _ (line : ℕ) (proto : Name) (ds : List (Declaration NodeText)) (body : List NodeText) where
  abbrev its_all : Names
  its_all = its line proto ds body

  abbrev sight : Sight
  sight = sight_with line proto ds body its_all

  -- between statements: helpers of the first are roots of the second
  pub record Level (roots : List ℕ) (w : Walk) (others : List ℕ) (v : Walk) : Type 0 where
    pub nodes : v.put.nodes ≡ w.put.nodes
    pub two_helpers : v.put.helpers ≡ []
    pub shuffled : Shuffled roots w.put.helpers others
    pub one_sight : w.sight ≡ sight
    pub two_sight : v.sight ≡ nothing_in_sight
    pub found_fields : w.scope.interface ≡ []
    pub found_values : w.scope.given ≡ []
    pub one_routes : (every : List Pair) → w.scope.routes every ≡ []
    pub two_routes : (every : List Pair) → v.scope.routes every ≡ []

  abbrev pub EndLevel : List Met → Result (List ℕ × Walk) ExpandFault → List Met → Result (List ℕ × Walk) ExpandFault → Type 0
  EndLevel met (Err e) more d = Unit {0}
  EndLevel met (Ok p) more (Ok q) = Fewer more met × Level p.0 p.1 q.0 q.1
  EndLevel met (Ok p) more (Err e) = ⊥

  abbrev pub ComeLevel : Outcome (List ℕ × Walk) → Outcome (List ℕ × Walk) → Type 0
  ComeLevel o p = EndLevel o.met o.comes p.met p.comes

  level_more : (met more : List Met) (o p : Outcome (List ℕ × Walk)) → Fewer more met → ComeLevel o p → ComeLevel (behind met o) (behind more p)
  level_more met more o p e h = on o.met o.comes p.met p.comes h where
    on : (ms : List Met) (c : Result (List ℕ × Walk) ExpandFault) (ns : List Met) (d : Result (List ℕ × Walk) ExpandFault) → EndLevel ms c ns d → EndLevel (met ++ ms) c (more ++ ns) d
    on ms (Err x) ns d k = tt
    on ms (Ok a) ns (Ok b) k = (fewer_append more met ns ms e k.0, k.1)
    on ms (Ok a) ns (Err y) k = absurd k

  level_then : (o p : Outcome (List ℕ × Walk)) (f g : List ℕ × Walk → Outcome (List ℕ × Walk)) → ComeLevel o p
      → ((roots : List ℕ) (w : Walk) (others : List ℕ) (v : Walk) → Level roots w others v → ComeLevel (f (roots, w)) (g (others, v))) → ComeLevel (and_then o f) (and_then p g)
  level_then o p f g h k = on o.met o.comes p.met p.comes h where
    on : (met : List Met) (c : Result (List ℕ × Walk) ExpandFault) (more : List Met) (d : Result (List ℕ × Walk) ExpandFault) → EndLevel met c more d → ComeLevel (follow met c f) (follow more d g)
    on met (Err x) more d l = tt
    on met (Ok q) more (Err y) l = absurd l
    on met (Ok q) more (Ok r) l = level_more met more (f q) (g r) l.0 (k q.0 q.1 r.0 r.1 l.1)

  leads_level : {A : Type 0} (P : A → Type 0) (o : Outcome A) (f : A → Outcome (List ℕ × Walk)) (p : Outcome (List ℕ × Walk)) → Leads o P → ((a : A) → P a → ComeLevel (f a) p) → ComeLevel (and_then o f) p
  leads_level {A} P o f p h k = on o.met o.comes h where
    on : (met : List Met) (c : Result A ExpandFault) → EndsIn P c → ComeLevel (follow met c f) p
    on met (Ok a) e = level_more met [] (f a) p (fewer_none met) (k a e)
    on met (Err x) e = tt

  -- ---- a statement that stays

  abbrev stays : Statement → Statement
  stays s = written_statement finds_nothing as_written s

  two_nils : (ms : List Met) → (ms ++ []) ++ [] ≡ ms
  two_nils ms = append-nil (ms ++ []) ∙ append-nil ms

  staying_come : (roots : List ℕ) (w : Walk) (others : List ℕ) (v : Walk) → Level roots w others v → (o p : Outcome (List ℕ × Walk)) → ComeAlike sight nothing_in_sight [] [] w.put.helpers w.put.nodes w.put.nodes Equal o p
      → ComeLevel (and_then o (λ q. pure (roots ++ q.0) q.1)) (and_then (and_then p (λ q. pure (others ++ q.0) q.1)) (λ q. pure q.0 q.1))
  staying_come roots w others v k o p h = on o.met o.comes p.met p.comes h where
    on : (met : List Met) (c : Result (List ℕ × Walk) ExpandFault) (more : List Met) (d : Result (List ℕ × Walk) ExpandFault) → EndAlike sight nothing_in_sight [] [] w.put.helpers w.put.nodes w.put.nodes Equal met c more d
        → ComeLevel (follow met c (λ q. pure (roots ++ q.0) q.1)) (and_then (follow more d (λ q. pure (others ++ q.0) q.1)) (λ q. pure q.0 q.1))
    on met (Err x) more d l = tt
    on met (Ok q) more (Err y) l = absurd l
    on met (Ok q) more (Ok r) l = (
      subst (λ m. Fewer m (met ++ [])) (sym (two_nils more)) (subst (λ m. Fewer more m) (sym (append-nil met)) l.0),
      record {
        nodes = l.2.two_nodes ∙ sym l.2.one_nodes;
        two_helpers = l.2.two_helpers;
        shuffled = subst (λ ns. Shuffled (roots ++ q.0) q.1.put.helpers (others ++ ns)) (sym l.1)
            (subst (λ hs. Shuffled (roots ++ q.0) hs (others ++ q.0)) (append-nil w.put.helpers ∙ sym l.2.one_helpers) (shuffled_more roots w.put.helpers others q.0 [] q.0 k.shuffled (first_alone q.0)));
        one_sight = l.2.one_sight;
        two_sight = l.2.two_sight;
        found_fields = l.2.found;
        found_values = l.2.found_values;
        one_routes = l.2.one_routes;
        two_routes = l.2.two_routes;
      },
    )

  beside_of : (roots : List ℕ) (w : Walk) (others : List ℕ) (v : Walk) → Level roots w others v → Beside sight nothing_in_sight [] [] w.put.helpers w.put.nodes w.put.nodes w v
  beside_of roots w others v k = record { tail = []; one_nodes = sym (append-nil w.put.nodes); two_nodes = k.nodes ∙ sym (append-nil w.put.nodes); one_helpers = refl; two_helpers = k.two_helpers; one_sight = k.one_sight; two_sight = k.two_sight; found = k.found_fields; found_values = k.found_values; one_routes = k.one_routes; two_routes = k.two_routes }

  staying : (s : Statement) → is_quiet_statement proto false s ≡ true → (roots : List ℕ) (w : Walk) (others : List ℕ) (v : Walk) → Level roots w others v
      → ComeLevel (root (stated s) roots w) (through root (map stated (stays s ∷ [])) others v)
  staying s e roots w others v k =
      staying_come roots w others v k ((stated s).1.does w) ((stated (stays s)).1.does v)
      (every_same sight [] [] w.put.helpers w.put.nodes w.put.nodes refl (λ (x : Name). true) false proto finds_nothing as_written (other_words line proto ds body its_all) (λ l name word is miss. refl)
      (λ x t o none. never (ap is_there none)) (λ may. never may) s e (all_of_all (asked_by_statement s)) w v (beside_of roots w others v k)) where
        is_there : Option Field → Bool
        is_there None = false
        is_there (Some f) = true

  -- ---- an instance

  abbrev finishing : List ℕ → Outcome (ℕ × Walk) → Outcome (List ℕ × Walk)
  finishing roots o = and_then (and_then o (λ q. pure (q.0 ∷ []) q.1)) (λ q. pure (roots ++ q.0) q.1)

  abbrev new : List BodyItem → NodeText → NodeText
  new items n = written_node (found ds items) as_written n

  four_nils : (ms : List Met) → ((ms ++ []) ++ []) ++ [] ≡ ms
  four_nils ms = append-nil ((ms ++ []) ++ []) ∙ two_nils ms

  closed_level : (name : Option Name) (roots : List ℕ) (w : Walk) (others : List ℕ) (v : Walk) → Level roots w others v → (all : List Filled) (items : List BodyItem) (known : Knows its_all all (found ds items)) → (o p : Outcome (List ℕ × Walk))
      → ComeBehind line proto ds body name w.put.helpers others all items known o p → ComeLevel (finishing roots (and_then o (λ r. and_then (made line r.0 r.1) (closed line proto ds body name w)))) p
  closed_level name roots w others v k all items known o p h = on o.met o.comes p.met p.comes h where
    on : (met : List Met) (c : Result (List ℕ × Walk) ExpandFault) (more : List Met) (d : Result (List ℕ × Walk) ExpandFault) → EndBehind line proto ds body name w.put.helpers others all items known met c more d
        → ComeLevel (finishing roots (follow met c (λ r. and_then (made line r.0 r.1) (closed line proto ds body name w)))) (record { met = more; comes = d })
    on met (Err x) more d l = tt
    on met (Ok q) more (Err y) l = absurd l
    on met (Ok q) more (Ok r) l =
        subst (λ ns. ComeLevel (finishing roots (behind met (and_then (made line ns q.1) (closed line proto ds body name w)))) (record { met = more; comes = Ok r })) (sym l.2) (
          subst (λ m. Fewer more m) (sym (four_nils met)) l.0,
          record {
            nodes = l.3.two_nodes ∙ sym (ap (renamed name l.1) l.3.one_nodes ∙ renamed_more name l.1 l.3.firsts l.3.tail l.3.below);
            two_helpers = l.3.two_helpers;
            shuffled = subst (λ rs. Shuffled (roots ++ l.1 ∷ []) q.1.put.helpers rs) (sym l.3.roots)
                (subst (λ hs. Shuffled (roots ++ l.1 ∷ []) hs (others ++ l.1 ∷ l.3.more)) (sym l.3.one_helpers)
                (shuffled_more roots w.put.helpers others (l.1 ∷ []) l.3.more (l.1 ∷ l.3.more) k.shuffled (inl ([], refl, second_alone l.3.more))));
            one_sight = k.one_sight;
            two_sight = l.3.two_sight;
            found_fields = k.found_fields;
            found_values = k.found_values;
            one_routes = λ every. ap (λ rs. rs ++ q.1.scope.routes q.1.scope.braces) (k.one_routes every) ∙ l.3.one_routes q.1.scope.braces;
            two_routes = l.3.two_routes;
          },
        )

  body_is : (name : Option Name) (w : Walk) (all : List Filled) → body_in line proto ds body name w all ≡ and_then (through in_body (map (as_stated line proto ds body) body) [] (inner line proto ds body w.put all)) (λ r. and_then (made line r.0 r.1) (closed line proto ds body name w))
  body_is name w all = refl

  module _ (plain : list_all (λ (d : Declaration NodeText). is_plain d.given) ds ≡ true) (quiet : list_all (is_quiet_node proto false) body ≡ true) where
    body_level : (name : Option Name) (roots : List ℕ) (w : Walk) (others : List ℕ) (v : Walk) → Level roots w others v → (all : List Filled) (items : List BodyItem) → Knows its_all all (found ds items)
        → ComeLevel (finishing roots (body_in line proto ds body name w all)) (through root (map stated (as_statements (first_named name (map (new items) body)))) others v)
    body_level name roots w others v k all items known =
        subst (λ (o : Outcome (ℕ × Walk)). ComeLevel (finishing roots o) (through root (map stated (as_statements (first_named name (map (new items) body)))) others v)) (sym (body_is name w all))
        (subst (λ ps. ComeLevel (finishing roots (and_then (through in_body (map (as_stated line proto ds body) body) [] (inner line proto ds body w.put all)) (λ r. and_then (made line r.0 r.1) (closed line proto ds body name w)))) (through root ps others v)) (sym (all_stated line proto ds body (first_named name (map (new items) body))))
        (on body quiet (all_taken (joined (map asked_by body)) no_names))) where
          on : (bs : List NodeText) → list_all (is_quiet_node proto false) bs ≡ true → list_all its_all (joined (map asked_by bs)) ≡ true
              → ComeLevel (finishing roots (and_then (through in_body (map (as_stated line proto ds body) bs) [] (inner line proto ds body w.put all)) (λ r. and_then (made line r.0 r.1) (closed line proto ds body name w)))) (through root (map (as_stated line proto ds body) (first_named name (map (new items) bs))) others v)
          on [] e asked = tt
          on (b ∷ bs) e asked =
              closed_level name roots w others v k all items known (through in_body (map (as_stated line proto ds body) (b ∷ bs)) [] (inner line proto ds body w.put all)) (through root (map (as_stated line proto ds body) (first_named name (map (new items) (b ∷ bs)))) others v)
              (body_same line proto ds body name w.put.helpers others all items known b bs e asked (inner line proto ds body w.put all) v
              (record { tail = w.put.nodes; one_nodes = refl; two_nodes = k.nodes; one_helpers = refl; two_helpers = k.two_helpers; one_sight = refl; two_sight = k.two_sight; found = refl; found_values = refl; one_routes = λ every. refl; two_routes = k.two_routes }))

    instance_level : (l : ℕ) (name : Option Name) (is : List BodyItem) → list_all (λ (q : Quiet). q.in_instance) (map (quiet_item proto true) is) ≡ true → (roots : List ℕ) (w : Walk) (others : List ℕ) (v : Walk) → Level roots w others v
        → ComeLevel (finishing roots (full_node l name (map item_part is) (Some (OfProto (the line proto ds body))) w)) (through root (map stated (as_statements (first_named name (map (new is) body)))) others v)
    instance_level l name is e roots w others v k =
        its_instance line proto ds body as_written plain (λ o. ComeLevel (finishing roots o) (through root (map stated (as_statements (first_named name (map (new is) body)))) others v))
        (λ A P o f lead goal. subst (λ (x : Outcome (List ℕ × Walk)). ComeLevel x (through root (map stated (as_statements (first_named name (map (new is) body)))) others v)) (sym (then_both o f (λ q. pure (q.0 ∷ []) q.1) (λ q. pure (roots ++ q.0) q.1)))
        (leads_level P o (λ a. finishing roots (f a)) (through root (map stated (as_statements (first_named name (map (new is) body)))) others v) lead goal))
        l name is e w k.found_fields
        (λ all known. body_level name roots w others v k all is
        (knows_by its_all all (found ds (writes line proto ds body as_written is)) (found ds is) (λ x. ap (λ o. option_or o (default_of ds x)) (items_same (the line proto ds body) proto true finds_nothing as_written (λ y. refl) is e x)) known))

    -- ---- a statement

    abbrev OfStatement : Statement → Type 0
    OfStatement s = may_be proto s ≡ true → (roots : List ℕ) (w : Walk) (others : List ℕ) (v : Walk) → Level roots w others v → ComeLevel (root (stated s) roots w) (through root (map stated (written_statements proto ds body s)) others v)

    root_full : (l : ℕ) (name : Option Name) (word : Name) (is : List BodyItem) (roots : List ℕ) (w : Walk) → root (stated (statement_text.Node (node_text.Full l name word is))) roots w ≡ finishing roots (full_node l name (map item_part is) (meant word w.sight) w)
    unfolding node_step statement_step
    root_full l name word is roots w = ap (λ (s : Stated). root s roots w) (statement-node (node_text.Full l name word is) (node-full l name word is refl))

    out_is : (l : ℕ) (name : Option Name) (word : Name) (is : List BodyItem) → written_statements proto ds body (statement_text.Node (node_text.Full l name word is))
        ≡ (if bytes_eq proto word then as_statements (nodes_for ds body name is) else stays (statement_text.Node (node_text.Full l name word is)) ∷ [])
    out_is l name word is =
        ap (statement_out proto ds body (stays (statement_text.Node (node_text.Full l name word is)))) (out_node (node_text.Full l name word is))
        ∙ ap (node_out proto ds body (stays (statement_text.Node (node_text.Full l name word is)))) (out_full l name word is)

    is_instance_is : (l : ℕ) (name : Option Name) (word : Name) (is : List BodyItem) → is_instance proto (out-Statement (statement_text.Node (node_text.Full l name word is))) ≡ bytes_eq proto word
    is_instance_is l name word is = ap (is_instance proto) (out_node (node_text.Full l name word is)) ∙ ap (is_of proto) (out_full l name word is)

    holds_plain : (b c : Bool) (x : Bool) → b ≡ true → (if b then true && x else c) ≡ true → x ≡ true
    holds_plain true c x e h = h
    holds_plain false c x e h = never e

    module _ (free : node_type_named proto ≡ None) where
      its_level : (l : ℕ) (name : Option Name) (word : Name) (is : List BodyItem) → bytes_eq proto word ≡ true → is_quiet_statement proto true (statement_text.Node (node_text.Full l name word is)) ≡ true
          → (roots : List ℕ) (w : Walk) (others : List ℕ) (v : Walk) → Level roots w others v
          → ComeLevel (finishing roots (full_node l name (map item_part is) (meant word w.sight) w)) (through root (map stated (as_statements (nodes_for ds body name is))) others v)
      its_level l name word is hit e roots w others v k =
          subst (λ o. ComeLevel (finishing roots (full_node l name (map item_part is) o w)) (through root (map stated (as_statements (nodes_for ds body name is))) others v))
          (sym (ap (λ s. meant word s) k.one_sight ∙ ap (λ x. meant x sight) (sym ((bytes_eq-Decides proto word).0 hit)) ∙ its_word line proto ds body its_all free))
          (instance_level l name is (holds_plain (bytes_eq proto word) (list_all (λ (q : Quiet). q.anywhere) (map (quiet_item proto true) is)) (list_all (λ (q : Quiet). q.in_instance) (map (quiet_item proto true) is)) hit
          (sym (texts.quiet-node proto true (node_text.Full l name word is) ∙ texts.quiet-full proto true l name word is) ∙ e)) roots w others v k)

      full_level : (l : ℕ) (name : Option Name) (word : Name) (is : List BodyItem) → OfStatement (statement_text.Node (node_text.Full l name word is))
      full_level l name word is may roots w others v k =
          subst (λ ss. ComeLevel (root (stated (statement_text.Node (node_text.Full l name word is))) roots w) (through root (map stated ss) others v)) (sym (out_is l name word is))
          (on (bytes_eq proto word) refl) where
            on : (b : Bool) → (bytes_eq proto word) ≡ b
                → ComeLevel (root (stated (statement_text.Node (node_text.Full l name word is))) roots w) (through root (map stated (if b then as_statements (nodes_for ds body name is) else stays (statement_text.Node (node_text.Full l name word is)) ∷ [])) others v)
            on true e =
                subst (λ (o : Outcome (List ℕ × Walk)). ComeLevel o (through root (map stated (as_statements (nodes_for ds body name is))) others v)) (sym (root_full l name word is roots w))
                (its_level l name word is e (sym (ap (λ b. is_quiet_statement proto b (statement_text.Node (node_text.Full l name word is))) (is_instance_is l name word is ∙ e)) ∙ may) roots w others v k)
            on false e = staying (statement_text.Node (node_text.Full l name word is)) (sym (ap (λ b. is_quiet_statement proto b (statement_text.Node (node_text.Full l name word is))) (is_instance_is l name word is ∙ e)) ∙ may) roots w others v k

      statement_level : (s : Statement) → OfStatement s
      statement_level = each_statement OfStatement full_level
          (λ l name may. never (sym (texts.quiet-node proto _ (node_text.Use l name) ∙ texts.quiet-use proto _ l name) ∙ may))
          (λ r may. never (sym (texts.quiet-route proto _ r) ∙ may)) (λ p may. never (sym (texts.quiet-proto proto _ p) ∙ may))

      all_level : (ss : List Statement) → list_all (may_be proto) ss ≡ true → (roots : List ℕ) (w : Walk) (others : List ℕ) (v : Walk) → Level roots w others v
          → ComeLevel (through root (map stated ss) roots w) (through root (map stated (flat_map (written_statements proto ds body) ss)) others v)
      all_level [] e roots w others v k = (fewer_same [], k)
      all_level (s ∷ ss) e roots w others v k =
          let both = both_true (may_be proto s) (list_all (may_be proto) ss) e in
          subst (λ (p : Outcome (List ℕ × Walk)). ComeLevel (through root (map stated (s ∷ ss)) roots w) p)
          (sym (ap (λ ps. through root ps others v) (map-append stated (written_statements proto ds body s) (flat_map (written_statements proto ds body) ss))
          ∙ through_more (map stated (written_statements proto ds body s)) (map stated (flat_map (written_statements proto ds body) ss)) others v))
          (level_then (root (stated s) roots w) (through root (map stated (written_statements proto ds body s)) others v)
          (λ q. through root (map stated ss) q.0 q.1) (λ q. through root (map stated (flat_map (written_statements proto ds body) ss)) q.0 q.1)
          (statement_level s both.0 roots w others v k) (λ r x o y j. all_level ss both.1 r x o y j))

    -- ---- a document

    abbrev start : Walk
    start = begin [] (record { nodes = []; helpers = [] })

    abbrev Begun : List ℕ × Walk → Type 0
    Begun q = (q.0 ≡ []) × (q.1 ≡ record start { sight = sight }) × (node_type_named proto ≡ None)

    abbrev seen_as : Seen → Outcome (Unit {0} × Walk)
    seen_as r = follow [] r (λ s. comes (Ok (tt {0}, record start { sight = s })))

    first_leads : Leads (root (declares line proto ds body) [] start) Begun
    unfolding statement_step proto_step
    first_leads = on (declare line proto (parts line proto ds body) (one_body line proto ds body) nothing_in_sight) (declare_sound line proto ds body plain quiet) where
      on : (r : Seen) → EndsIn (Sound line proto ds body) r → Leads (and_then (and_then (seen_as r) (λ (p : Unit {0} × Walk). pure {A = List ℕ} [] p.1)) (λ (p : List ℕ × Walk). pure ([] ++ p.0) p.1)) Begun
      on (Ok s) h = (refl, ap (λ t. record start { sight = t }) h.0, h.1)
      on (Err x) h = tt

    document_level : (ss : List Statement) → list_all (may_be proto) ss ≡ true
        → ComeLevel (through root (declares line proto ds body ∷ map stated ss) [] start) (through root (map stated (flat_map (written_statements proto ds body) ss)) [] start)
    document_level ss e =
        leads_level Begun (root (declares line proto ds body) [] start) (λ q. through root (map stated ss) q.0 q.1) (through root (map stated (flat_map (written_statements proto ds body) ss)) [] start) first_leads
        (λ q k. subst (λ roots. ComeLevel (through root (map stated ss) roots q.1) (through root (map stated (flat_map (written_statements proto ds body) ss)) [] start)) (sym k.0)
        (subst (λ u. ComeLevel (through root (map stated ss) [] u) (through root (map stated (flat_map (written_statements proto ds body) ss)) [] start)) (sym k.1)
        (all_level k.2 ss e [] (record start { sight = sight }) [] start
        (record { nodes = refl; two_helpers = refl; shuffled = (refl, refl); one_sight = refl; two_sight = refl; found_fields = refl; found_values = refl; one_routes = λ every. refl; two_routes = λ every. refl }))))

-- ---- whole documents

abbrev flat_of : Document → List ℕ × Walk → Flat
flat_of d p =
    record {
      header = header_of d;
      nodes = p.1.put.nodes;
      roots = p.0;
      helpers = p.1.put.helpers;
      routes = p.1.scope.routes p.1.scope.braces;
    }

abbrev finish : Document → List ℕ × Walk → Outcome Flat
finish d p = comes (Ok (flat_of d p))

abbrev the_flat : Flat → Result Flat ExpandFault → Flat
the_flat g (Ok f) = f
the_flat g (Err e) = g

abbrev Stands : Document → Flat → Outcome Flat → Type 0
Stands d f p = (g : Flat) × (limited p ≡ Ok g) × HelpersAsRoots f g

ending : (line : ℕ) (proto : Name) (ds : List (Declaration NodeText)) (body : List NodeText) (d : Document) (f : Flat) (o p : Outcome (List ℕ × Walk)) → ComeLevel line proto ds body o p → limited (and_then o (finish d)) ≡ Ok f → Stands d f (and_then p (finish d))
ending line proto ds body d f o p h e = on o.met o.comes p.met p.comes h e where
  few : (q r : List ℕ × Walk) → Level line proto ds body q.0 q.1 r.0 r.1 → with_few_routes (Ok (flat_of d q)) ≡ Ok f → (with_few_routes (Ok (flat_of d r)) ≡ Ok (flat_of d r)) × HelpersAsRoots f (flat_of d r)
  few q r l k = within (q.1.scope.routes q.1.scope.braces) (r.1.scope.routes r.1.scope.braces) (l.one_routes q.1.scope.braces) (l.two_routes r.1.scope.braces) k where
    within : (a b : List FlatRoute) → a ≡ [] → b ≡ [] → (if nat_lt 65536 (length a) then Err (fault TooLarge 0) else Ok (record (flat_of d q) { routes = a })) ≡ Ok f
        → ((if nat_lt 65536 (length b) then Err (fault TooLarge 0) else Ok (record (flat_of d r) { routes = b })) ≡ Ok (record (flat_of d r) { routes = b })) × HelpersAsRoots f (record (flat_of d r) { routes = b })
    within a b e g k =
        let same = ap (λ x. the_flat f x) (sym (ap (λ (rs : List FlatRoute). if nat_lt 65536 (length rs) then Err (fault TooLarge 0) else Ok (record (flat_of d q) { routes = rs })) e) ∙ k) in (
          ap (λ (rs : List FlatRoute). if nat_lt 65536 (length rs) then Err (fault TooLarge 0) else Ok (record (flat_of d r) { routes = rs })) g ∙ ap (λ (rs : List FlatRoute). Ok (record (flat_of d r) { routes = rs })) (sym g),
          subst (λ (x : Flat). HelpersAsRoots x (record (flat_of d r) { routes = b })) same
              (record { header = refl; nodes = l.nodes; routes = g; roots = l.shuffled; helpers = l.two_helpers }),
        )

  on : (met : List Met) (c : Result (List ℕ × Walk) ExpandFault) (more : List Met) (g : Result (List ℕ × Walk) ExpandFault) → EndLevel line proto ds body met c more g
      → limited (follow met c (finish d)) ≡ Ok f → Stands d f (follow more g (finish d))
  on met (Err x) more g k e = absurd (refused met x f e)
  on met (Ok q) more (Err y) k e = absurd k
  on met (Ok q) more (Ok r) k e = inner (is_within (met ++ [])) refl e where
    inner : (b : Bool) → is_within (met ++ []) ≡ b → (if b then with_few_routes (Ok (flat_of d q)) else Err (fault TooLarge 0)) ≡ Ok f → Stands d f (follow more (Ok r) (finish d))
    inner true is l =
        let both = few q r k.1 l in
        (flat_of d r, ap (λ b. if b then with_few_routes (Ok (flat_of d r)) else Err (fault TooLarge 0)) (fewer_within (met ++ []) (more ++ []) (subst (λ m. Fewer m (met ++ [])) (sym (append-nil more)) (subst (λ m. Fewer more m) (sym (append-nil met)) k.0)) is) ∙ both.0, both.1)
    inner false is l = never (ap is_fine l)

pub instances_are_all_nodes_of_their_bodies : InstancesAreAllNodesOfTheirBodies
unfolding flat
instances_are_all_nodes_of_their_bodies d line proto ds body rest f plain quiet all_quiet e =
    ending line proto ds body d f
    (through root (declares line proto ds body ∷ map stated rest) [] (start line proto ds body plain quiet))
    (through root (map stated (flat_map (written_statements proto ds body) rest)) [] (start line proto ds body plain quiet))
    (document_level line proto ds body plain quiet rest all_quiet)
    (sym (ap (λ (x : Stated). limited (and_then (through root (x ∷ map stated rest) [] (start line proto ds body plain quiet)) (finish d))) (declaration_is line proto ds body)) ∙ e)
