-- An instance is its prototype's body written in its place: whole documents.
use Rattle.std.proofs.Common.{◌≡◌, ◌⊎◌, inl, inr, ℕ, Bool, true, false, ◌||◌, if◌then◌else◌, length, List, [], ◌∷◌, ◌++◌, Option, Some, None, option_map, Result, Ok, Err, map, refl, ap, sym, ◌∙◌, subst}
use Rattle.std.specs.Prelude.{is_some}
use Rattle.std.specs.List.{AllByRecursion, list_all, list_any}
use Rattle.std.specs.Option.{option_or}
use Rattle.std.specs.Str.{bytes_eq}
use Rattle.std.proofs.lemmas.List.{append-nil}
use Rattle.std.proofs.lemmas.Slice.Eq.{bytes_eq-Decides}
use Rattle.x3d_values.specs.Names.{node_type_named}
use Rattle.x3d_values.specs.declared.node_type.NodeType.{NodeType}
use Rattle.classic_tree.specs.declared.tree.BodyItem.TheOpen.{Statement-F}
use Rattle.classic_tree.specs.declared.tree.Document.{Document}
use Rattle.classic_tree.specs.declared.tree.NodeText.{NodeText}
use Rattle.classic_tree.specs.declared.tree.Statement.{Statement}
use Rattle.classic_tree.specs.declared.tree.Statement.TheVariants as statement_text
use Rattle.proto_flat.specs.Fault.{fault}
use Rattle.proto_flat.specs.declared.fault.ExpandFault.{ExpandFault}
use Rattle.proto_flat.specs.declared.fault.ExpandFaultKind.TheVariants.{TooLarge}
use Rattle.proto_flat.specs.declared.flat.Flat.{Flat}
use Rattle.proto_flat.specs.declared.flat.FlatRoute.{FlatRoute}
use Rattle.proto_meaning.specs.Limits.{Met, AnInstance, Outcome, behind, follow, and_then, is_within, with_few_routes, limited}
use Rattle.proto_meaning.specs.Names.{Name}
use Rattle.proto_meaning.specs.Sight.{Put, Instance, Prototype, Sight, Names, no_names, and_see, Owner, OfType, OfProto, declared, meant}
use Rattle.proto_meaning.specs.Flat.{Walk, Does, ◌>>=◌, comes, pure, through, close, Stated, begin, made, prototype, body_finds, body_sees, declare_body, declare, full_node, statement_step, proto_step, header_of, flat}
use Rattle.proto_meaning.specs.Flat.{node as node_part, statement as stated}
use Rattle.proto_meaning.proofs.Trees.{statement-node, statement-proto, proto-is, proto_of}
use Rattle.proto_meaning.proofs.SightLaw.{Seen}
use Rattle.laws_documents.specs.InPlace.{is_quiet_node, is_quiet_statement, written_statement, declaration_of, nothing_in_sight, InstancesAreTheirBodies}
use Rattle.laws_documents.proofs.InPlaceTexts as texts
use Rattle.laws_documents.proofs.InPlaceWalks.{less, Beside, Alike, ComeAlike, EndAlike, Equal, then_alike, pure_alike}
use Rattle.laws_documents.proofs.InPlaceParts.{never, both_true, every_same}
use Rattle.laws_documents.proofs.InPlaceLimits.{less_within}
use Rattle.laws_documents.proofs.InPlaceStays.{statement_stays}

-- ---- a sound declaration

from_if : (c : Bool) (x : ExpandFault) (y : Seen) (s : Sight) → (if c then Err x else y) ≡ Ok s → (c ≡ false) × (y ≡ Ok s)
from_if true x y s e = never (ap is_ok e) where
  is_ok : Seen → Bool
  is_ok (Ok t) = true
  is_ok (Err f) = false
from_if false x y s e = (refl, e)

abbrev is_ok : Seen → Bool
is_ok (Ok t) = true
is_ok (Err f) = false

from_else : (c : Bool) (x : ExpandFault) (y : Seen) (s : Sight) → (if c then y else Err x) ≡ Ok s → y ≡ Ok s
from_else true x y s e = e
from_else false x y s e = never (ap is_ok e)

none_is : (t : Option NodeType) → (is_some t || false) ≡ false → t ≡ None
none_is None e = refl
none_is (Some t) e = never (sym e)

or_none : (o : Option Owner) → option_or o None ≡ o
or_none (Some o) = refl
or_none None = refl

same_test : (a b : Bool) → (b ≡ true → a ≡ true) → a ≡ false → b ≡ false
same_test a true h e = sym (h refl) ∙ e
same_test a false h e = refl

module _ (line : ℕ) (proto : Name) (body : NodeText) where
  abbrev one_body : List Stated
  one_body = statement_step (Statement-F.Node (node_part body)) ∷ []

  abbrev the_prototype : Names → Prototype
  the_prototype taken = prototype line proto [] one_body [] taken

  abbrev sight_with : Names → Sight
  sight_with taken = record { here = the_prototype taken ∷ []; outside = []; taken = no_names }

  pub record Sound (sight : Sight) : Type 0 where
    pub taken : Names
    pub is : sight ≡ sight_with taken
    pub word : node_type_named proto ≡ None

  body_sound : (sight : Sight) → node_type_named proto ≡ None → (r : Seen) → and_see r (λ u. Ok (record nothing_in_sight { here = the_prototype u.taken ∷ [] })) ≡ Ok sight → Sound sight
  body_sound sight word (Ok u) e = record { taken = u.taken; is = sym (ap in_it e); word = word } where
    in_it : Seen → Sight
    in_it (Ok t) = t
    in_it (Err f) = nothing_in_sight
  body_sound sight word (Err f) e = never (ap is_ok e)

  found_sound : (sight : Sight) → node_type_named proto ≡ None → (r : Result Bool ℕ) → declare_body line proto [] one_body r nothing_in_sight ≡ Ok sight → Sound sight
  found_sound sight word (Err itself) e = never (ap is_ok e)
  found_sound sight word (Ok hidden) e =
      body_sound sight word (body_sees line proto [] one_body nothing_in_sight) (from_else (list_any (λ (x : Stated). x.0) one_body) _ _ sight e)

  declare_sound : (sight : Sight) → declare line proto [] one_body nothing_in_sight ≡ Ok sight → Sound sight
  declare_sound sight e =
      let both = from_if (is_some (node_type_named proto) || false) _ (declare_body line proto [] one_body (body_finds line proto [] one_body proto false) nothing_in_sight) sight e in
      found_sound sight (none_is (node_type_named proto) both.0) (body_finds line proto [] one_body proto false) both.1

  abbrev declares : Stated
  declares = statement_step (Statement-F.Statement::Proto (proto_of line proto [] one_body))

  pub declaration_is : stated (declaration_of line proto body) ≡ declares
  declaration_is =
      statement-proto _ refl ∙ ap (λ q. statement_step (Statement-F.Statement::Proto q)) (proto-is line proto [] (statement_text.Node body ∷ []) refl refl
      ∙ ap (λ x. proto_of line proto [] (x ∷ [])) (statement-node body refl))

  sees_is : (sight : Sight) → declares.1.sees nothing_in_sight ≡ Ok sight → declare line proto [] one_body nothing_in_sight ≡ Ok sight
  unfolding statement_step proto_step
  sees_is sight e = e

  -- ---- what words mean

  one_declared : (word : Name) (taken : Names) (b : Bool) → bytes_eq word proto ≡ b → declared word (the_prototype taken ∷ []) ≡ (if b then Some (the_prototype taken) else None)
  one_declared word taken b e = ap (λ c. if c then Some (the_prototype taken) else None) e

  other_words : (taken : Names) (word : Name) → bytes_eq proto word ≡ false → meant word (sight_with taken) ≡ option_map OfType (node_type_named word)
  other_words taken word e =
      ap (λ p. option_or (option_map OfType (node_type_named word)) (option_map OfProto p))
      (one_declared word taken false (same_test (bytes_eq proto word) (bytes_eq word proto) (λ h. (bytes_eq-Decides proto word).1 (sym ((bytes_eq-Decides word proto).0 h))) e))
      ∙ or_none (option_map OfType (node_type_named word))

  its_word : (taken : Names) → node_type_named proto ≡ None → meant proto (sight_with taken) ≡ Some (OfProto (the_prototype taken))
  its_word taken word =
      ap (λ t. option_or (option_map OfType t) (option_map OfProto (declared proto (the_prototype taken ∷ [])))) word
      ∙ ap (λ p. option_map OfProto p) (one_declared proto taken true ((bytes_eq-Decides proto proto).1 refl))

  nothing_meant : (word : Name) → bytes_eq proto word ≡ false → meant word nothing_in_sight ≡ option_map OfType (node_type_named word)
  nothing_meant word e = or_none (option_map OfType (node_type_named word))

  -- ---- an instance

  unwrap : (o p : Outcome (ℕ × Walk)) → ComeAlike nothing_in_sight nothing_in_sight Equal (and_then o (λ q. pure (q.0 ∷ []) q.1)) (and_then p (λ q. pure (q.0 ∷ []) q.1)) → ComeAlike nothing_in_sight nothing_in_sight Equal o p
  unwrap o p h = on o.met p.met o.comes p.comes h where
    first_of : List ℕ → ℕ
    first_of [] = 0
    first_of (n ∷ ns) = n

    on : (met more : List Met) (c d : Result (ℕ × Walk) ExpandFault)
        → ComeAlike nothing_in_sight nothing_in_sight Equal (follow met c (λ q. pure (q.0 ∷ []) q.1)) (follow more d (λ q. pure (q.0 ∷ []) q.1))
        → (more ≡ less met) × EndAlike nothing_in_sight nothing_in_sight Equal c d
    on met more (Ok q) (Ok r) k = (sym (append-nil more) ∙ k.0 ∙ ap less (append-nil met), (ap first_of k.1.0, k.1.1))
    on met more (Err x) (Err y) k = k
    on met more (Ok q) (Err y) k = absurd k.1
    on met more (Err x) (Ok r) k = absurd k.1

  node_twice : is_quiet_node proto false body ≡ true → Alike nothing_in_sight nothing_in_sight Equal (statement_step (Statement-F.Node (node_part body))).1.does (statement_step (Statement-F.Node (node_part body))).1.does
  node_twice quiet =
      let still = sym (texts.quiet-node proto false body) in
      subst (λ (x : Stated). Alike nothing_in_sight nothing_in_sight Equal x.1.does x.1.does) (statement-node body refl)
      (subst (λ (s : Statement). Alike nothing_in_sight nothing_in_sight Equal (stated (statement_text.Node body)).1.does (stated s).1.does) (statement_stays proto body (statement_text.Node body) (texts.quiet-node proto false body ∙ quiet))
      ((every_same nothing_in_sight false proto body nothing_meant (λ e. never e) (statement_text.Node body ∷ [])).0 (texts.quiet-node proto false body ∙ quiet)))

  body_twice : is_quiet_node proto false body ≡ true → Alike nothing_in_sight nothing_in_sight Equal (node_part body).does (node_part body).does
  unfolding statement_step
  body_twice quiet w v b = unwrap ((node_part body).does w) ((node_part body).does v) (node_twice quiet w v b)

  abbrev begun : Walk → Walk
  begun w = record w { scope = record w.scope { braces = w.scope.braces ++ record { name = None; stands = None } ∷ [] } }

  -- what becomes of the body's node
  abbrev closing : Walk → Outcome (ℕ × Walk) → Outcome (ℕ × Walk)
  closing w o =
      behind (AnInstance ∷ [])
      (and_then (and_then (and_then (and_then o (λ q. pure (q.0 ∷ []) q.1)) (λ q. pure q.0 q.1)) (λ q. made line q.0 q.1))
      (λ (m : Instance). close None (length w.scope.braces) (record { node = m.node; interface = Some []; ends = m.ends }) m.put
      (record (begun w) { scope = record (begun w).scope { routes = λ all. w.scope.routes all ++ m.routes } })))

  instance_is : (taken : Names) (l : ℕ) (w : Walk) → full_node l None [] (Some (OfProto (the_prototype taken))) w ≡ closing w ((node_part body).does (begin [] w.put))
  unfolding statement_step
  instance_is taken l w = refl

  four_nils : (ms : List Met) → (((ms ++ []) ++ []) ++ []) ++ [] ≡ ms
  four_nils ms = append-nil (((ms ++ []) ++ []) ++ []) ∙ append-nil ((ms ++ []) ++ []) ∙ append-nil (ms ++ []) ∙ append-nil ms

  closed_alike : (one : Sight) (w v : Walk) → Beside one nothing_in_sight w v → (o p : Outcome (ℕ × Walk)) → ComeAlike nothing_in_sight nothing_in_sight Equal o p → ComeAlike one nothing_in_sight Equal (closing w o) p
  closed_alike one w v b o p h = on o.met p.met o.comes p.comes h where
    on : (met more : List Met) (c d : Result (ℕ × Walk) ExpandFault) → (more ≡ less met) × EndAlike nothing_in_sight nothing_in_sight Equal c d
        → ComeAlike one nothing_in_sight Equal (closing w (record { met = met; comes = c })) (record { met = more; comes = d })
    on met more (Ok q) (Ok r) k = (
      k.0 ∙ ap less (sym (four_nils met)),
      (
        k.1.0,
        record {
          put = k.1.1.put;
          one_sight = b.one_sight;
          two_sight = k.1.1.two_sight;
          one_interface = b.one_interface;
          two_interface = k.1.1.two_interface;
          one_routes = λ all. ap (λ rs. rs ++ q.1.scope.routes q.1.scope.braces) (b.one_routes all) ∙ k.1.1.one_routes q.1.scope.braces;
          two_routes = k.1.1.two_routes;
        },
      ),
    )
    on met more (Err x) (Err y) k = k
    on met more (Ok q) (Err y) k = absurd k.1
    on met more (Err x) (Ok r) k = absurd k.1

  an_instance : (taken : Names) → node_type_named proto ≡ None → is_quiet_node proto false body ≡ true → (l : ℕ)
      → Alike (sight_with taken) nothing_in_sight Equal (full_node l None [] (meant proto (sight_with taken))) (node_part body).does
  an_instance taken word quiet l w v b =
      subst (λ (o : Outcome (ℕ × Walk)). ComeAlike (sight_with taken) nothing_in_sight Equal o ((node_part body).does v))
      (sym (ap (λ o. full_node l None [] o w) (its_word taken word) ∙ instance_is taken l w))
      (closed_alike (sight_with taken) w v b ((node_part body).does (begin [] w.put)) ((node_part body).does v)
      (body_twice quiet (begin [] w.put) v (record {
        put = b.put;
        one_sight = refl;
        two_sight = b.two_sight;
        one_interface = refl;
        two_interface = b.two_interface;
        one_routes = λ all. refl;
        two_routes = b.two_routes;
      })))

  -- ---- a document

  abbrev root : Stated → List ℕ → Does (List ℕ)
  root s roots = s.1.does >>= λ ns. pure (roots ++ ns)

  abbrev start : Walk
  start = begin [] (record { nodes = []; helpers = [] })

  abbrev start_with : Sight → Walk
  start_with sight = record start { sight = sight }

  abbrev seen_as : Seen → Outcome (Unit {0} × Walk)
  seen_as r = follow [] r (λ s. comes (Ok (tt {0}, start_with s)))

  first_step : (sight : Sight) → declare line proto [] one_body nothing_in_sight ≡ Ok sight → (ss : List Stated) → through root (declares ∷ ss) [] start ≡ through root ss [] (start_with sight)
  unfolding statement_step proto_step
  first_step sight e ss =
      ap (λ r. and_then (and_then (and_then (seen_as r) (λ p. pure {A = List ℕ} [] p.1)) (λ p. pure ([] ++ p.0) p.1)) (λ p. through root ss p.0 p.1)) e

  abbrev new_statement : Statement → Statement
  new_statement s = written_statement proto body s

  roots_alike : (one : Sight) (ss : List Statement)
      → AllByRecursion (λ s. is_quiet_statement proto true s ≡ true → Alike one nothing_in_sight Equal (stated s).1.does (stated (new_statement s)).1.does) ss
      → list_all (is_quiet_statement proto true) ss ≡ true → (roots : List ℕ)
      → Alike one nothing_in_sight Equal (through root (map stated ss) roots) (through root (map stated (map new_statement ss)) roots)
  roots_alike one [] h e roots = pure_alike one nothing_in_sight Equal roots roots refl
  roots_alike one (s ∷ ss) h e roots =
      let both = both_true (is_quiet_statement proto true s) (list_all (is_quiet_statement proto true) ss) e in
      then_alike one nothing_in_sight Equal Equal (root (stated s) roots) (root (stated (new_statement s)) roots) (through root (map stated ss)) (through root (map stated (map new_statement ss)))
      (then_alike one nothing_in_sight Equal Equal (stated s).1.does (stated (new_statement s)).1.does (λ ns. pure (roots ++ ns)) (λ ns. pure (roots ++ ns)) (h.0 both.0)
      (λ a c r. pure_alike one nothing_in_sight Equal (roots ++ a) (roots ++ c) (ap (λ ns. roots ++ ns) r)))
      (λ a c r. subst (λ ns. Alike one nothing_in_sight Equal (through root (map stated ss) a) (through root (map stated (map new_statement ss)) ns)) (sym r) (roots_alike one ss h.1 both.1 a))

abbrev finish : Document → List ℕ × Walk → Outcome Flat
finish d p = comes (Ok (record {
  header = header_of d;
  nodes = p.1.put.nodes;
  roots = p.0;
  helpers = p.1.put.helpers;
  routes = p.1.scope.routes p.1.scope.braces;
}))

abbrev with_flat : Document → Put → List ℕ → List FlatRoute → Result Flat ExpandFault
with_flat d put roots routes = Ok (record { header = header_of d; nodes = put.nodes; roots = roots; helpers = put.helpers; routes = routes })

limits_alike : (met more : List Met) (c e : Result Flat ExpandFault) → more ≡ less met → e ≡ c
    → (limited (record { met = met; comes = c }) ≡ limited (record { met = more; comes = e })) ⊎ (limited (record { met = met; comes = c }) ≡ Err (fault TooLarge 0))
limits_alike met more c e less_is same = on (is_within met) refl where
  on : (b : Bool) → is_within met ≡ b → (limited (record { met = met; comes = c }) ≡ limited (record { met = more; comes = e })) ⊎ (limited (record { met = met; comes = c }) ≡ Err (fault TooLarge 0))
  on true is =
      inl (ap (λ b. if b then with_few_routes c else Err (fault TooLarge 0)) is
      ∙ sym (ap (λ b. if b then with_few_routes e else Err (fault TooLarge 0)) (ap is_within less_is ∙ less_within met is) ∙ ap with_few_routes same))
  on false is = inr (ap (λ b. if b then with_few_routes c else Err (fault TooLarge 0)) is)

ending : (one : Sight) (d : Document) (o p : Outcome (List ℕ × Walk)) → ComeAlike one nothing_in_sight Equal o p
    → (limited (and_then o (finish d)) ≡ limited (and_then p (finish d))) ⊎ (limited (and_then o (finish d)) ≡ Err (fault TooLarge 0))
ending one d o p h = on o.met p.met o.comes p.comes h where
  on : (met more : List Met) (c e : Result (List ℕ × Walk) ExpandFault) → (more ≡ less met) × EndAlike one nothing_in_sight Equal c e
      → (limited (follow met c (finish d)) ≡ limited (follow more e (finish d))) ⊎ (limited (follow met c (finish d)) ≡ Err (fault TooLarge 0))
  on met more (Ok q) (Ok r) k =
      limits_alike (met ++ []) (more ++ []) (with_flat d q.1.put q.0 (q.1.scope.routes q.1.scope.braces)) (with_flat d r.1.put r.0 (r.1.scope.routes r.1.scope.braces))
      (append-nil more ∙ k.0 ∙ ap less (sym (append-nil met)))
      (ap (λ put. with_flat d put r.0 (r.1.scope.routes r.1.scope.braces)) k.1.1.put ∙ ap (λ roots. with_flat d q.1.put roots (r.1.scope.routes r.1.scope.braces)) k.1.0
      ∙ ap (λ routes. with_flat d q.1.put q.0 routes) (k.1.1.two_routes r.1.scope.braces ∙ sym (k.1.1.one_routes q.1.scope.braces)))
  on met more (Err x) (Err y) k = limits_alike met more (Err x) (Err y) k.0 (ap (λ z. Err z) k.1)
  on met more (Ok q) (Err y) k = absurd k.1
  on met more (Err x) (Ok r) k = absurd k.1

pub instances_are_their_bodies : InstancesAreTheirBodies
unfolding flat
instances_are_their_bodies d line proto body rest sight sound quiet all_quiet =
    let found = sees_is line proto body sight (subst (λ (x : Stated). x.1.sees nothing_in_sight ≡ Ok sight) (declaration_is line proto body) sound) in
    let s = declare_sound line proto body sight found in
    let first = ap (λ (x : Stated). through (root line proto body) (x ∷ map stated rest) [] (start line proto body)) (declaration_is line proto body)
    ∙ first_step line proto body sight found (map stated rest)
    ∙ ap (λ x. through (root line proto body) (map stated rest) [] (start_with line proto body x)) s.is in
    subst (λ (x : Outcome (List ℕ × Walk)). (limited (and_then x (finish d)) ≡ limited (and_then (through (root line proto body) (map stated (map (written_statement proto body) rest)) [] (start line proto body)) (finish d))) ⊎ (limited (and_then x (finish d)) ≡ Err (fault TooLarge 0))) (sym first)
    (ending (sight_with line proto body s.taken) d (through (root line proto body) (map stated rest) [] (start_with line proto body (sight_with line proto body s.taken))) (through (root line proto body) (map stated (map (written_statement proto body) rest)) [] (start line proto body))
    (roots_alike line proto body (sight_with line proto body s.taken) rest
    (every_same (sight_with line proto body s.taken) true proto body (other_words line proto body s.taken) (λ _. an_instance line proto body s.taken s.word quiet) rest) all_quiet []
    (start_with line proto body (sight_with line proto body s.taken)) (start line proto body)
    (record { put = refl; one_sight = refl; two_sight = refl; one_interface = refl; two_interface = refl; one_routes = λ all. refl; two_routes = λ all. refl })))
