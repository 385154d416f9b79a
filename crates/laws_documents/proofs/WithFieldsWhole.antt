-- An instance with fields is its prototype's body written in its place: instances, and whole documents.
use Rattle.std.proofs.Common.{◌≡◌, ℕ, Bool, true, false, ◌&&◌, if◌then◌else◌, List, [], ◌∷◌, ◌++◌, Option, Some, None, Result, Ok, Err, map, refl, ap, sym, ◌∙◌, subst}
use Rattle.std.specs.List.{list_all}
use Rattle.std.specs.Str.{bytes_eq}
use Rattle.std.proofs.lemmas.List.{append-nil}
use Rattle.std.proofs.lemmas.Slice.Eq.{bytes_eq-Decides}
use Rattle.x3d_values.specs.Names.{node_type_named}
use Rattle.classic_tree.specs.declared.tree.BodyItem.{BodyItem}
use Rattle.classic_tree.specs.declared.tree.Declaration.{Declaration}
use Rattle.classic_tree.specs.declared.tree.Document.{Document}
use Rattle.classic_tree.specs.declared.tree.NodeText.{NodeText}
use Rattle.classic_tree.specs.declared.tree.NodeText.TheVariants as node_text
use Rattle.classic_tree.specs.declared.tree.Statement.{Statement}
use Rattle.proto_flat.specs.declared.fault.ExpandFault.{ExpandFault}
use Rattle.proto_flat.specs.declared.flat.Flat.{Flat}
use Rattle.proto_flat.specs.declared.flat.FlatRoute.{FlatRoute}
use Rattle.proto_meaning.specs.Limits.{Met, Outcome, follow, and_then, limited}
use Rattle.proto_meaning.specs.Names.{Name, Field, Filled}
use Rattle.proto_meaning.specs.Sight.{Put, Sight, no_names, OfProto, meant}
use Rattle.proto_meaning.specs.Flat.{Walk, Does, ◌>>=◌, comes, pure, through, Stated, begin, made, declare, full_node, statement_step, proto_step, header_of, flat}
use Rattle.proto_meaning.specs.Flat.{item as item_part, node as node_part, statement as stated}
use Rattle.proto_meaning.proofs.SightLaw.{Seen}
use Rattle.laws_documents.specs.InPlace.{nothing_in_sight}
use Rattle.laws_documents.specs.WithFields.{Braces, is_plain, Quiet, quiet_item, is_quiet_node, is_quiet_statement, written_node, written_statement, found, as_written, named, body_for, in_place, finds_nothing, InstancesWithFieldsAreTheirBodies}
use Rattle.laws_documents.proofs.WithFieldsSound.{parts, one_body, sight_with, Sound, declares, declaration_is, declare_sound, other_words, its_word, nothing_meant, all_of_all}
use Rattle.laws_documents.proofs.WithFieldsInstance.{its, the, fields_there, inner, found_there, closed, body_in, writes, its_instance}
use Rattle.laws_documents.proofs.WithFieldsEnds.{leads_alike, limits_alike, refused}
use Rattle.laws_documents.proofs.InPlaceParts.{never, both_true}
use Rattle.laws_documents.proofs.WithFieldsTexts.{joined, asked_by, asked_by_statement}
use Rattle.laws_documents.proofs.WithFieldsSeen.{all_taken}
use Rattle.laws_documents.proofs.WithFieldsWalks.{Fewer, Equal, Beside, EndAlike, ComeAlike, Alike, then_alike, pure_alike}
use Rattle.laws_documents.proofs.WithFieldsParts.{every_same, every_node}
use Rattle.laws_documents.proofs.WithFieldsSteps.{split_all, rename}
use Rattle.laws_documents.proofs.WithFieldsGiven.{EndsIn, Leads, Knows}

module _ (line : ℕ) (proto : Name) (ds : List (Declaration NodeText)) (body : NodeText) where
  abbrev one : List NodeText
  one = body ∷ []

  abbrev sight : Sight
  sight = sight_with line proto ds one (its line proto ds one)

  abbrev bodies : Braces
  bodies = in_place proto ds body

  -- ---- the body of an instance

  module _ (quiet : is_quiet_node proto false body ≡ true) (helpers : List ℕ) (all : List Filled) (items : List BodyItem) (known : Knows (its line proto ds one) all (found ds items)) where
    abbrev InBody : Outcome (ℕ × Walk) → Outcome (ℕ × Walk) → Type 0
    InBody o p = ComeAlike nothing_in_sight nothing_in_sight (fields_there line proto ds one) all helpers [] [] Equal o p

    abbrev its_node : NodeText
    its_node = written_node (found ds items) as_written body

    unnamed : (o p : Outcome (ℕ × Walk)) → InBody o p → InBody (and_then o (λ q. rename None q.0 q.1)) p
    unnamed o p h = on o.met o.comes p.met p.comes h where
      on : (met : List Met) (c : Result (ℕ × Walk) ExpandFault) (more : List Met) (d : Result (ℕ × Walk) ExpandFault) → InBody (record { met = met; comes = c }) (record { met = more; comes = d })
          → InBody (follow met c (λ q. rename None q.0 q.1)) (record { met = more; comes = d })
      on met (Err x) more d k = tt
      on met (Ok q) more (Ok r) k = (subst (λ l. Fewer more l) (sym (append-nil met)) k.0, k.1, k.2)
      on met (Ok q) more (Err y) k = absurd k

    asked : list_all (its line proto ds one) (asked_by body) ≡ true
    asked = (split_all (its line proto ds one) (asked_by body) [] (all_taken (joined (map asked_by one)) no_names)).0

    named_body : (name : Option Name) (w v : Walk) → Beside nothing_in_sight nothing_in_sight (fields_there line proto ds one) all helpers [] [] w v → InBody (((node_part body).does >>= rename name) w) ((node_part (named name its_node)).does v)
    named_body name w v b =
        let both = every_node nothing_in_sight (fields_there line proto ds one) all helpers [] [] refl (its line proto ds one) false proto (found ds items) as_written (nothing_meant line proto ds one) (λ l n word is e. refl) (found_there line proto ds one all items known) (λ e. never e) body quiet asked in
        on (both.0 w v b) (λ new. both.1 refl new w v b) name where
          on : InBody ((node_part body).does w) ((node_part its_node).does v) → ((new : Name) → InBody (((node_part body).does >>= rename (Some new)) w) ((node_part (named (Some new) its_node)).does v)) → (name : Option Name)
              → InBody (((node_part body).does >>= rename name) w) ((node_part (named name its_node)).does v)
          on plain under None = unnamed ((node_part body).does w) ((node_part its_node).does v) plain
          on plain under (Some new) = under new

  -- what becomes of the body's node
  abbrev closing : Option Name → Walk → Outcome (ℕ × Walk) → Outcome (ℕ × Walk)
  closing name w o =
      and_then (and_then (and_then o (λ q. pure (q.0 ∷ []) q.1)) (λ q. pure q.0 q.1)) (λ q. and_then (made line q.0 q.1) (closed line proto ds one name w))

  body_is : (name : Option Name) (all : List Filled) (w : Walk) → body_in line proto ds one name w all ≡ closing name w ((node_part body).does (inner line proto ds one w.put all))
  unfolding statement_step
  body_is name all w = refl

  three_nils : (ms : List Met) → (((ms ++ []) ++ []) ++ []) ≡ ms
  three_nils ms = append-nil ((ms ++ []) ++ []) ∙ append-nil (ms ++ []) ∙ append-nil ms

  module _ (plain : list_all (λ (d : Declaration NodeText). is_plain d.given) ds ≡ true) (quiet : is_quiet_node proto false body ≡ true) where
    module _ (helpers : List ℕ) where
      abbrev Outer : Outcome (ℕ × Walk) → Outcome (ℕ × Walk) → Type 0
      Outer o p = ComeAlike sight nothing_in_sight [] [] helpers [] [] Equal o p

      abbrev OuterBeside : Walk → Walk → Type 0
      OuterBeside w v = Beside sight nothing_in_sight [] [] helpers [] [] w v

      closed_alike : (name : Option Name) (all : List Filled) (w v : Walk) → OuterBeside w v → (o p : Outcome (ℕ × Walk))
          → ComeAlike nothing_in_sight nothing_in_sight (fields_there line proto ds one) all helpers [] [] Equal (and_then o (λ q. rename name q.0 q.1)) p → Outer (closing name w o) p
      closed_alike name all w v b o p h = on o.met o.comes p.met p.comes h where
        on : (met : List Met) (c : Result (ℕ × Walk) ExpandFault) (more : List Met) (d : Result (ℕ × Walk) ExpandFault)
            → ComeAlike nothing_in_sight nothing_in_sight (fields_there line proto ds one) all helpers [] [] Equal (follow met c (λ q. rename name q.0 q.1)) (record { met = more; comes = d })
            → Outer (closing name w (record { met = met; comes = c })) (record { met = more; comes = d })
        on met (Err x) more d k = tt
        on met (Ok q) more (Ok r) k = (
          subst (λ l. Fewer more l) (append-nil met ∙ sym (three_nils met)) k.0,
          k.1,
          record {
            tail = k.2.tail;
            one_nodes = k.2.one_nodes;
            two_nodes = k.2.two_nodes;
            one_helpers = k.2.one_helpers;
            two_helpers = k.2.two_helpers;
            one_sight = b.one_sight;
            two_sight = k.2.two_sight;
            found = b.found;
            found_values = b.found_values;
            one_routes = λ every. ap (λ rs. rs ++ q.1.scope.routes q.1.scope.braces) (b.one_routes every) ∙ k.2.one_routes q.1.scope.braces;
            two_routes = k.2.two_routes;
          },
        )
        on met (Ok q) more (Err y) k = absurd k

      its_alike : (l : ℕ) (name : Option Name) (is : List BodyItem) → list_all (λ (q : Quiet). q.in_instance) (map (quiet_item proto true) is) ≡ true → (w v : Walk) → OuterBeside w v
          → Outer (full_node l name (map item_part is) (Some (OfProto (the line proto ds one))) w) ((node_part (body_for ds body name (writes line proto ds one bodies is))).does v)
      its_alike l name is e w v b =
          its_instance line proto ds one bodies plain (λ o. Outer o ((node_part (body_for ds body name (writes line proto ds one bodies is))).does v))
          (λ A P o f lead goal. leads_alike sight nothing_in_sight [] [] helpers [] [] P Equal o f ((node_part (body_for ds body name (writes line proto ds one bodies is))).does v) lead goal)
          l name is e w b.found
          (λ all known. subst (λ (o : Outcome (ℕ × Walk)). Outer o ((node_part (body_for ds body name (writes line proto ds one bodies is))).does v)) (sym (body_is name all w))
          (closed_alike name all w v b ((node_part body).does (inner line proto ds one w.put all)) ((node_part (body_for ds body name (writes line proto ds one bodies is))).does v)
          (named_body quiet helpers all (writes line proto ds one bodies is) known name (inner line proto ds one w.put all) v
          (record { tail = b.tail; one_nodes = b.one_nodes; two_nodes = b.two_nodes; one_helpers = b.one_helpers; two_helpers = b.two_helpers; one_sight = refl; two_sight = b.two_sight; found = refl; found_values = refl; one_routes = λ every. refl; two_routes = b.two_routes }))))

      written_is : (l : ℕ) (name : Option Name) (is : List BodyItem) → in_place proto ds body l name proto is ≡ body_for ds body name is
      written_is l name is = ap (λ (b : Bool). if b then body_for ds body name is else node_text.Full l name proto is) ((bytes_eq-Decides proto proto).1 refl)

      other_braces : (l : ℕ) (name : Option Name) (word : Name) (is : List BodyItem) → bytes_eq proto word ≡ false → in_place proto ds body l name word is ≡ node_text.Full l name word is
      other_braces l name word is e = ap (λ (b : Bool). if b then body_for ds body name is else node_text.Full l name word is) e

      an_instance : node_type_named proto ≡ None → (l : ℕ) (name : Option Name) (is : List BodyItem) → list_all (λ (q : Quiet). q.in_instance) (map (quiet_item proto true) is) ≡ true
          → Alike sight nothing_in_sight [] [] helpers [] [] Equal (full_node l name (map item_part is) (meant proto sight)) (node_part (in_place proto ds body l name proto (writes line proto ds one bodies is))).does
      an_instance word l name is e w v b =
          subst (λ o. Outer (full_node l name (map item_part is) o w) ((node_part (in_place proto ds body l name proto (writes line proto ds one bodies is))).does v)) (sym (its_word line proto ds one (its line proto ds one) word))
          (subst (λ n. Outer (full_node l name (map item_part is) (Some (OfProto (the line proto ds one))) w) ((node_part n).does v)) (sym (written_is l name (writes line proto ds one bodies is)))
          (its_alike l name is e w v b))

    -- ---- a document

    abbrev new_statement : Statement → Statement
    new_statement s = written_statement finds_nothing (in_place proto ds body) s

    statement_same : node_type_named proto ≡ None → (s : Statement) → is_quiet_statement proto true s ≡ true → Alike sight nothing_in_sight [] [] [] [] [] Equal (stated s).1.does (stated (new_statement s)).1.does
    statement_same word s e =
        every_same sight [] [] [] [] [] refl (λ (x : Name). true) true proto finds_nothing (in_place proto ds body) (other_words line proto ds one (its line proto ds one)) (other_braces [])
        (λ x t o none. never (ap is_there none)) (λ may. an_instance [] word) s e (all_of_all (asked_by_statement s)) where
          is_there : Option Field → Bool
          is_there None = false
          is_there (Some f) = true

    abbrev root : Stated → List ℕ → Does (List ℕ)
    root s roots = s.1.does >>= λ ns. pure (roots ++ ns)

    roots_alike : node_type_named proto ≡ None → (ss : List Statement) → list_all (is_quiet_statement proto true) ss ≡ true → (roots : List ℕ)
        → Alike sight nothing_in_sight [] [] [] [] [] Equal (through root (map stated ss) roots) (through root (map stated (map new_statement ss)) roots)
    roots_alike word [] e roots = pure_alike sight nothing_in_sight [] [] [] [] [] Equal roots roots refl
    roots_alike word (s ∷ ss) e roots =
        let both = both_true (is_quiet_statement proto true s) (list_all (is_quiet_statement proto true) ss) e in
        then_alike sight nothing_in_sight [] [] [] [] [] Equal Equal (root (stated s) roots) (root (stated (new_statement s)) roots) (through root (map stated ss)) (through root (map stated (map new_statement ss)))
        (then_alike sight nothing_in_sight [] [] [] [] [] Equal Equal (stated s).1.does (stated (new_statement s)).1.does (λ ns. pure (roots ++ ns)) (λ ns. pure (roots ++ ns)) (statement_same word s both.0)
        (λ a c r. pure_alike sight nothing_in_sight [] [] [] [] [] Equal (roots ++ a) (roots ++ c) (ap (λ ns. roots ++ ns) r)))
        (λ a c r. subst (λ ns. Alike sight nothing_in_sight [] [] [] [] [] Equal (through root (map stated ss) a) (through root (map stated (map new_statement ss)) ns)) (sym r) (roots_alike word ss both.1 a))

    abbrev start : Walk
    start = begin [] (record { nodes = []; helpers = [] })

    abbrev Begun : List ℕ × Walk → Type 0
    Begun q = (q.0 ≡ []) × (q.1 ≡ record start { sight = sight }) × (node_type_named proto ≡ None)

    abbrev seen_as : Seen → Outcome (Unit {0} × Walk)
    seen_as r = follow [] r (λ s. comes (Ok (tt {0}, record start { sight = s })))

    first_leads : Leads (root (declares line proto ds one) [] start) Begun
    unfolding statement_step proto_step
    first_leads = on (declare line proto (parts line proto ds one) (one_body line proto ds one) nothing_in_sight) (declare_sound line proto ds one plain (ap (λ b. b && true) quiet)) where
      on : (r : Seen) → EndsIn (Sound line proto ds one) r → Leads (and_then (and_then (seen_as r) (λ (p : Unit {0} × Walk). pure {A = List ℕ} [] p.1)) (λ (p : List ℕ × Walk). pure ([] ++ p.0) p.1)) Begun
      on (Ok s) h = (refl, ap (λ t. record start { sight = t }) h.0, h.1)
      on (Err x) h = tt

    all_alike : (ss : List Statement) → list_all (is_quiet_statement proto true) ss ≡ true
        → ComeAlike sight nothing_in_sight [] [] [] [] [] Equal (through root ((declares line proto ds one) ∷ map stated ss) [] start) (through root (map stated (map new_statement ss)) [] start)
    all_alike ss e =
        leads_alike sight nothing_in_sight [] [] [] [] [] Begun Equal (root (declares line proto ds one) [] start) (λ q. through root (map stated ss) q.0 q.1) (through root (map stated (map new_statement ss)) [] start) first_leads
        (λ q k. subst (λ roots. ComeAlike sight nothing_in_sight [] [] [] [] [] Equal (through root (map stated ss) roots q.1) (through root (map stated (map new_statement ss)) [] start)) (sym k.0)
        (subst (λ u. ComeAlike sight nothing_in_sight [] [] [] [] [] Equal (through root (map stated ss) [] u) (through root (map stated (map new_statement ss)) [] start)) (sym k.1)
        (roots_alike k.2 ss e [] (record start { sight = sight }) start
        (record { tail = []; one_nodes = refl; two_nodes = refl; one_helpers = refl; two_helpers = refl; one_sight = refl; two_sight = refl; found = refl; found_values = refl; one_routes = λ every. refl; two_routes = λ every. refl }))))

abbrev finish : Document → List ℕ × Walk → Outcome Flat
finish d p = comes (Ok (record {
  header = header_of d;
  nodes = p.1.put.nodes;
  roots = p.0;
  helpers = p.1.put.helpers;
  routes = p.1.scope.routes p.1.scope.braces;
}))

abbrev with_flat : Document → Put → List ℕ → List FlatRoute → Result Flat ExpandFault
with_flat d put roots routes = Ok (record { header = header_of d; nodes = put.nodes; roots = roots; helpers = put.helpers; routes = routes })

ending : (one two : Sight) (names : List Field) (values : List Filled) (d : Document) (f : Flat) (o p : Outcome (List ℕ × Walk)) → ComeAlike one two names values [] [] [] Equal o p
    → limited (and_then o (finish d)) ≡ Ok f → limited (and_then p (finish d)) ≡ Ok f
ending one two names values d f o p h e = on o.met o.comes p.met p.comes h e where
  on : (met : List Met) (c : Result (List ℕ × Walk) ExpandFault) (more : List Met) (g : Result (List ℕ × Walk) ExpandFault) → EndAlike one two names values [] [] [] Equal met c more g
      → limited (follow met c (finish d)) ≡ Ok f → limited (follow more g (finish d)) ≡ Ok f
  on met (Err x) more g k e = absurd (refused met x f e)
  on met (Ok q) more (Err y) k e = absurd k
  on met (Ok q) more (Ok r) k e =
      limits_alike (met ++ []) (more ++ []) (with_flat d q.1.put q.0 (q.1.scope.routes q.1.scope.braces)) (with_flat d r.1.put r.0 (r.1.scope.routes r.1.scope.braces)) f
      (subst (λ l. Fewer l (met ++ [])) (sym (append-nil more)) (subst (λ l. Fewer more l) (sym (append-nil met)) k.0))
      (ap (λ (p : Put). with_flat d p r.0 (r.1.scope.routes r.1.scope.braces)) (ap (λ ns. record { nodes = ns; helpers = r.1.put.helpers }) (k.2.two_nodes ∙ sym k.2.one_nodes) ∙ ap (λ hs. record { nodes = q.1.put.nodes; helpers = hs }) (k.2.two_helpers ∙ sym k.2.one_helpers)) ∙ ap (λ roots. with_flat d q.1.put roots (r.1.scope.routes r.1.scope.braces)) k.1
      ∙ ap (λ routes. with_flat d q.1.put q.0 routes) (k.2.two_routes r.1.scope.braces ∙ sym (k.2.one_routes q.1.scope.braces)))
      e

pub instances_with_fields_are_their_bodies : InstancesWithFieldsAreTheirBodies
unfolding flat
instances_with_fields_are_their_bodies d line proto ds body rest f plain quiet all_quiet e =
    ending (sight line proto ds body) nothing_in_sight [] [] d f
    (through (root line proto ds body plain quiet) (declares line proto ds (body ∷ []) ∷ map stated rest) [] (start line proto ds body plain quiet))
    (through (root line proto ds body plain quiet) (map stated (map (written_statement finds_nothing (in_place proto ds body)) rest)) [] (start line proto ds body plain quiet))
    (all_alike line proto ds body plain quiet rest all_quiet)
    (sym (ap (λ (x : Stated). limited (and_then (through (root line proto ds body plain quiet) (x ∷ map stated rest) [] (start line proto ds body plain quiet)) (finish d))) (declaration_is line proto ds (body ∷ []))) ∙ e)
