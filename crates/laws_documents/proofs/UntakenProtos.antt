-- Prototypes and statements come to the same with other values where no IS takes them.
use Rattle.std.proofs.Common.{◌≡◌, ℕ, Bool, true, false, if◌then◌else◌, List, [], ◌∷◌, ◌++◌, Some, None, Option, Result, Ok, Err, map, refl, ap, sym, ◌∙◌, subst}
use Rattle.std.specs.Prelude.{◌&&◌, ◌||◌, is_none, is_some}
use Rattle.std.specs.List.{AllByRecursion, list_any}
use Rattle.std.specs.Str.{bytes_eq}
use Rattle.std.proofs.Math.Path.{fun_ext}
use Rattle.x3d_values.specs.Names.{node_type_named}
use Rattle.x3d_values.specs.declared.node_type.NodeType.{NodeType}
use Rattle.classic_tree.specs.declared.tree.Declaration.{Declaration}
use Rattle.classic_tree.specs.declared.tree.Given.{Given}
use Rattle.classic_tree.specs.declared.tree.Given.TheVariants as given
use Rattle.classic_tree.specs.declared.tree.NodeText.{NodeText}
use Rattle.classic_tree.specs.declared.tree.ProtoText.{ProtoText, out-ProtoText, fold_out-ProtoText}
use Rattle.classic_tree.specs.declared.tree.Statement.{Statement}
use Rattle.classic_tree.proofs.Mapped.{given_mapped, interface_mapped}
use Rattle.proto_flat.specs.Fault.{fault}
use Rattle.proto_flat.specs.declared.fault.ExpandFaultKind.TheVariants.{ProtoTwice, EmptyBody}
use Rattle.proto_meaning.specs.Limits.{behind, follow, and_then}
use Rattle.proto_meaning.specs.Names.{Name, Filled, value_of}
use Rattle.proto_meaning.specs.Sight.{Put, Sight, Look, Names, Prototype, and_see, each, aside, no_names, declared, opened}
use Rattle.proto_meaning.specs.Flat.{Walk, Does, ◌>>=◌, comes, pure, note, through, Node, Stated, Proto, Item, field, given_finds, leave_out, in_body, default, begin, made, instance_of, prototype, body_finds, body_sees, declare_body, declare, item_step, node_step, statement_step, proto_step}
use Rattle.proto_meaning.specs.Flat.{node as node_part, proto as proto_part, statement as stated}
use Rattle.proto_meaning.proofs.Trees.{proto-is, proto_of}
use Rattle.proto_meaning.proofs.Induction.{OfDeclaration}
use Rattle.proto_meaning.proofs.SightLaw.{Seen, bare, bared, Free, Any, GoodProto, GoodStated, each_free}
use Rattle.proto_meaning.proofs.SightNodes.{prototype_good}
use Rattle.laws_documents.specs.Untaken.{Change, KeepsDeclarations, StatementAt, given_declares, seen_or, past, in_turn, declaration_at, unless_kept, with_default, defaults_declare, statements_declare, interface_at, statements_at, node_at, statement_at, prototype_at}
use Rattle.laws_documents.proofs.Same.{Alike, AllSteady, through_same, each_same, through_follows, steady_in_turn, finds_in_turn, past_alike, then_same, same_then}
use Rattle.laws_documents.proofs.UntakenGiven.{leave_same, aside_declares, DeclaresSame, never}
use Rattle.laws_documents.proofs.UntakenTexts.{at-prototype}
use Rattle.laws_documents.proofs.UntakenValues.{SameProto, OfNode, given_then, given_steady, given_found, declares_is, changed, changed_declares, changed_found, each_map}
use Rattle.laws_documents.proofs.UntakenBodies.{everywhere, free_text, aside_bared, SameStatement, stated_sees, steady_stated, parts, default_sees, steady_default, is_ok}

-- ---- a prototype

module _ (change : Change) (keeps : KeepsDeclarations change) where
  abbrev pub OfStatement : Statement → Type 0
  OfStatement x = GoodStated (stated x) × ((s : Sight) → SameStatement s (stated x) (stated (statement_at change x s)))

  abbrev OfDefault : Declaration NodeText → Type 0
  OfDefault d = OfDeclaration (OfNode change keeps) d

  abbrev at_once : Declaration NodeText → Sight → Declaration NodeText
  at_once d s = declaration_at (interface_mapped (node_at change) d) s

  abbrev text_sees : Declaration NodeText → Look
  text_sees d = given_declares d.given

  sees_text : (λ (d : Declaration NodeText). default_sees (parts d)) ≡ text_sees
  sees_text = fun_ext (λ d. fun_ext (λ s. declares_is change keeps d.given s))

  abbrev defaults_at : List (Declaration NodeText) → Sight → List (Declaration NodeText)
  defaults_at ds s = interface_at (map (interface_mapped (node_at change)) ds) s

  steady_defaults : (takes : Names) (ds : List (Declaration NodeText)) → AllByRecursion OfDefault ds → (s : Sight) → AllSteady default_sees (default takes) Any s (map parts ds) (map parts (defaults_at ds s))
  steady_defaults takes ds h s =
      subst (λ q. AllSteady default_sees (default takes) Any s (map parts ds) (map parts (in_turn declaration_at q (map (interface_mapped (node_at change)) ds) s))) sees_text
      (steady_in_turn default_sees (default takes) Any parts (interface_mapped (node_at change)) declaration_at OfDefault
      (λ d k t. steady_default takes (parts d) t (given_mapped node_part (given_then change keeps d.given t)) (given_steady change keeps d.given k t)) ds h s)

  defaults_found : (own : Name) → node_type_named own ≡ None → (ds : List (Declaration NodeText)) → AllByRecursion OfDefault ds → (s : Sight) (hidden : Bool)
      → each (λ (d : Declaration Node). given_finds d.given own) (map parts (defaults_at ds s)) hidden ≡ each (λ (d : Declaration Node). given_finds d.given own) (map parts ds) hidden
  defaults_found own free ds h s hidden =
      finds_in_turn (λ (d : Declaration Node). given_finds d.given own) text_sees parts (interface_mapped (node_at change)) declaration_at OfDefault (λ d k t b. given_found change keeps d.given k t own free b) ds h s hidden

  -- ---- defaults that no IS takes

  abbrev finally : Names → List (Declaration NodeText) → List (Declaration NodeText)
  finally takes ds = map (with_default change takes) ds

  unless_sees : (b : Bool) (line : ℕ) (name : Name) (g : Given NodeText) → DeclaresSame (given_mapped node_part g) (given_mapped node_part (unless_kept change b line name g))
  unless_sees true line name g s = refl
  unless_sees false line name given.Nothing s = refl
  unless_sees false line name (given.Is a) s = refl
  unless_sees false line name (given.Value v) s = changed_declares change keeps line name v s

  unless_found : (b : Bool) (line : ℕ) (name : Name) (g : Given NodeText) (own : Name) → node_type_named own ≡ None → (hidden : Bool)
      → given_finds (given_mapped node_part (unless_kept change b line name g)) own hidden ≡ given_finds (given_mapped node_part g) own hidden
  unless_found true line name g own free hidden = refl
  unless_found false line name given.Nothing own free hidden = refl
  unless_found false line name (given.Is a) own free hidden = refl
  unless_found false line name (given.Value v) own free hidden = changed_found change keeps line name v own free hidden

  -- a default does the same
  unless_does : (takes : Names) (b : Bool) (d : Declaration NodeText) → takes d.name ≡ b → (filled : List Filled) (w : Walk)
      → default takes (parts (record d { given = unless_kept change b d.line d.name d.given })) filled w ≡ default takes (parts d) filled w
  unless_does takes true d is filled w = refl
  unless_does takes false d is filled w = left d.given where
    off : (c : Bool) (m n p q : Does (List Filled)) → c ≡ false → n w ≡ q w → (if c && is_none (value_of d.name filled) then m else n) w ≡ (if c && is_none (value_of d.name filled) then p else q) w
    off true m n p q f e = never f
    off false m n p q f e = e

    left : (g : Given NodeText) → default takes (parts (record d { given = unless_kept change false d.line d.name g })) filled w ≡ default takes (parts (record d { given = g })) filled w
    left given.Nothing = refl
    left (given.Is a) = refl
    left (given.Value v) =
        off (takes d.name) _ (leave_out (given_mapped node_part (changed change keeps d.line d.name v)) >>= λ _. pure filled) _ (leave_out (given_mapped node_part (given.Value v)) >>= λ _. pure filled) is
        (same_then (leave_out (given_mapped node_part (given.Value v))) (leave_out (given_mapped node_part (changed change keeps d.line d.name v))) (λ _. pure filled) w
        (leave_same (given_mapped node_part (given.Value v)) (given_mapped node_part (changed change keeps d.line d.name v)) w (changed_declares change keeps d.line d.name v w.sight)))

  finally_does : (takes : Names) (ds : List (Declaration NodeText)) (filled : List Filled) (w : Walk) → through (default takes) (map parts (finally takes ds)) filled w ≡ through (default takes) (map parts ds) filled w
  finally_does takes [] filled w = refl
  finally_does takes (d ∷ ds) filled w =
      everywhere (default takes (parts d) filled) (default takes (parts (with_default change takes d)) filled) (through (default takes) (map parts ds)) (through (default takes) (map parts (finally takes ds)))
      (unless_does takes (takes d.name) d refl filled) (finally_does takes ds) w

  found_next : {f g : Bool → Result Bool ℕ} (r : Result Bool ℕ) → ((b : Bool) → g b ≡ f b) → and_see r g ≡ and_see r f
  found_next (Ok b) k = k b
  found_next (Err line) k = refl

  finally_found : (own : Name) → node_type_named own ≡ None → (takes : Names) (ds : List (Declaration NodeText)) (hidden : Bool)
      → each (λ (d : Declaration Node). given_finds d.given own) (map parts (finally takes ds)) hidden ≡ each (λ (d : Declaration Node). given_finds d.given own) (map parts ds) hidden
  finally_found own free takes [] hidden = refl
  finally_found own free takes (d ∷ ds) hidden =
      ap (λ r. and_see r (each (λ (d : Declaration Node). given_finds d.given own) (map parts (finally takes ds)))) (unless_found (takes d.name) d.line d.name d.given own free hidden)
      ∙ found_next (given_finds (given_mapped node_part d.given) own hidden) (finally_found own free takes ds)

  defaults_free : (ds : List (Declaration NodeText)) → AllByRecursion (λ (d : Declaration Node). Free (default_sees d)) (map parts ds)
  defaults_free [] = tt
  defaults_free (d ∷ ds) = (free_text d.given, defaults_free ds)

  all_defaults_free : (ds : List (Declaration NodeText)) → Free (each default_sees (map parts ds))
  all_defaults_free ds = each_free default_sees (map parts ds) (defaults_free ds)

  bared_then : (r q : Seen) (f g : Look) → Free f → bared q ≡ bared r → ((s : Sight) → bared (g s) ≡ bared (f s)) → bared (and_see q g) ≡ bared (and_see r f)
  bared_then (Ok s) (Ok t) f g free e h = h t ∙ free t ∙ ap (λ (x : Seen). bared (and_see x f)) e ∙ sym (free s)
  bared_then (Err x) (Err y) f g free e h = e
  bared_then (Ok s) (Err y) f g free e h = never (sym (ap is_ok e))
  bared_then (Err x) (Ok t) f g free e h = never (ap is_ok e)

  finally_declares : (takes : Names) (ds : List (Declaration NodeText)) (s : Sight) → bared (each default_sees (map parts (finally takes ds)) s) ≡ bared (each default_sees (map parts ds) s)
  finally_declares takes [] s = refl
  finally_declares takes (d ∷ ds) s =
      bared_then (default_sees (parts d) s) (default_sees (parts (with_default change takes d)) s) (each default_sees (map parts ds)) (each default_sees (map parts (finally takes ds))) (all_defaults_free ds)
      (sym (aside_declares (default_sees (parts (with_default change takes d))) (free_text (with_default change takes d).given) s)
      ∙ ap bared (unless_sees (takes d.name) d.line d.name d.given s)
      ∙ aside_declares (default_sees (parts d)) (free_text d.given) s)
      (finally_declares takes ds)

  -- ---- the body

  steady_body : (ss : List Statement) → AllByRecursion OfStatement ss → (s : Sight) → AllSteady stated_sees in_body Any s (map stated ss) (map stated (statements_at (map (statement_at change) ss) s))
  steady_body ss h s =
      steady_in_turn stated_sees in_body Any stated (statement_at change) (λ (x : StatementAt). x) OfStatement (λ x k t. steady_stated t (stated x) (stated (statement_at change x t)) k.0 (k.1 t)) ss h s

  body_found : (own : Name) → node_type_named own ≡ None → (ss : List Statement) → AllByRecursion OfStatement ss → (s : Sight) (hidden : Bool)
      → each (λ (x : Stated). x.1.finds own) (map stated (statements_at (map (statement_at change) ss) s)) hidden ≡ each (λ (x : Stated). x.1.finds own) (map stated ss) hidden
  body_found own free ss h s hidden =
      finds_in_turn (λ (x : Stated). x.1.finds own) (λ (x : Statement). (stated x).1.sees) stated (statement_at change) (λ (x : StatementAt). x) OfStatement (λ x k t b. (k.1 t).finds own free b) ss h s hidden

  nodes_same : (ss : List Statement) → AllByRecursion OfStatement ss → (s : Sight) → list_any (λ (x : Stated). x.0) (map stated (statements_at (map (statement_at change) ss) s)) ≡ list_any (λ (x : Stated). x.0) (map stated ss)
  nodes_same [] h s = refl
  nodes_same (x ∷ ss) h s =
      ap (λ b. b || list_any (λ (y : Stated). y.0) (map stated (statements_at (map (statement_at change) ss) (past (stated (statement_at change x s)).1.sees s)))) (h.0.1 s).kind
      ∙ ap (λ b. (stated x).0 || b) (nodes_same ss h.1 (past (stated (statement_at change x s)).1.sees s))

  module _ (line : ℕ) (name : Name) (interface : List (Declaration NodeText)) (body : List Statement) (good_interface : AllByRecursion OfDefault interface) (good_body : AllByRecursion OfStatement body) (s : Sight) where
    abbrev outside : List Prototype
    outside = s.here ++ s.outside

    abbrev start : Sight
    start = opened s

    -- the interface first with what is inside changed, and then with other defaults
    abbrev defaults : List (Declaration NodeText)
    defaults = defaults_at interface start

    abbrev before : Sight
    before = past (defaults_declare defaults) start

    abbrev statements : List Statement
    statements = statements_at (map (statement_at change) body) before

    abbrev takes : Names
    takes = (past (statements_declare statements) before).taken

    abbrev old_interface : List (Declaration Node)
    old_interface = map parts interface

    abbrev new_interface : List (Declaration Node)
    new_interface = map parts (finally takes defaults)

    abbrev old_body : List Stated
    old_body = map stated body

    abbrev new_body : List Stated
    new_body = map stated statements

    -- what the defaults declare
    text_declares : defaults_declare defaults start ≡ aside (each default_sees (map parts defaults)) start
    text_declares = ap (λ (q : Look). aside q start) (sym (each_map change keeps default_sees parts defaults ∙ ap (λ q. each q defaults) sees_text))

    old_declares : aside (each default_sees (map parts defaults)) start ≡ aside (each default_sees old_interface) start
    old_declares =
        ap (λ r. and_see {Y = Sight} r (λ u. Ok (record u { taken = no_names })))
        (each_same default_sees (default takes) Any start old_interface (map parts defaults) (steady_defaults takes interface good_interface start) start refl)

    new_declares : aside (each default_sees new_interface) start ≡ aside (each default_sees old_interface) start
    new_declares = aside_bared (each default_sees new_interface start) (each default_sees (map parts defaults) start) no_names (finally_declares takes defaults start) ∙ old_declares

    before_is : (b : Sight) → aside (each default_sees old_interface) start ≡ Ok b → before ≡ b
    before_is b e = ap (seen_or start) (text_declares ∙ old_declares ∙ e)

    steady_statements : AllSteady stated_sees in_body Any before old_body new_body
    steady_statements = steady_body body good_body before

    new_sees : body_sees line name new_interface new_body start ≡ body_sees line name old_interface old_body start
    new_sees = ap (λ r. and_see r (each stated_sees new_body)) new_declares ∙ on (aside (each default_sees old_interface) start) refl where
      on : (r : Seen) → aside (each default_sees old_interface) start ≡ r → and_see r (each stated_sees new_body) ≡ and_see r (each stated_sees old_body)
      on (Ok b) e = each_same stated_sees in_body Any before old_body new_body steady_statements b (ap bare (sym (before_is b e)))
      on (Err x) e = refl

    -- what the ISs of the body take
    takes_is : (u : Sight) → body_sees line name old_interface old_body start ≡ Ok u → takes ≡ u.taken
    takes_is u e = on (aside (each default_sees old_interface) start) refl e where
      on : (r : Seen) → aside (each default_sees old_interface) start ≡ r → and_see r (each stated_sees old_body) ≡ Ok u → takes ≡ u.taken
      on (Ok b) is k =
          ap (λ q. (seen_or before q).taken)
          (ap (λ (q : Look). q before) (sym (each_map change keeps stated_sees stated statements))
          ∙ each_same stated_sees in_body Any before old_body new_body steady_statements before refl
          ∙ ap (each stated_sees old_body) (before_is b is) ∙ k)
      on (Err x) is k = never (sym (ap is_ok k))

    -- the names, accesses and types of the interface
    fields_same : (ds : List (Declaration NodeText)) (t : Sight) → map field (map parts (finally takes (defaults_at ds t))) ≡ map field (map parts ds)
    fields_same [] t = refl
    fields_same (d ∷ ds) t = ap (λ fs. field (parts d) ∷ fs) (fields_same ds (past (text_sees (at_once d t)) t))

    -- an instance
    new_finish : (all : List Filled) (v : Walk) → Alike before v.sight
        → (note (tt {0}) (λ x. record x { interface = map field new_interface; given = all }) >>= λ _. through in_body new_body []) v
        ≡ (note (tt {0}) (λ x. record x { interface = map field old_interface; given = all }) >>= λ _. through in_body old_body []) v
    new_finish all v k =
        ap (λ fields. behind [] (through in_body new_body [] (record v { scope = record v.scope { interface = fields; given = all } }))) (fields_same interface start)
        ∙ ap (behind []) (through_same stated_sees in_body Any before old_body new_body steady_statements [] tt (record v { scope = record v.scope { interface = map field old_interface; given = all } }) k)

    before_alike : Alike (past (each default_sees old_interface) start) before
    before_alike =
        past_alike (each default_sees old_interface) (defaults_declare defaults) start start refl
        (sym (ap bared (text_declares ∙ old_declares) ∙ aside_declares (each default_sees old_interface) (all_defaults_free interface) start))

    new_instance : (filled : List Filled) (put : Put) → instance_of line name new_interface new_body outside takes filled put ≡ instance_of line name old_interface old_body outside takes filled put
    new_instance filled put =
        ap (λ o. and_then o (λ p. made line p.0 p.1))
        (then_same Any (through (default takes) old_interface filled) (through (default takes) new_interface filled)
        (λ all. note (tt {0}) (λ x. record x { interface = map field old_interface; given = all }) >>= λ _. through in_body old_body [])
        (λ all. note (tt {0}) (λ x. record x { interface = map field new_interface; given = all }) >>= λ _. through in_body new_body [])
        (each default_sees old_interface) start (begin outside put) refl
        (all_defaults_free interface)
        (through_follows default_sees (default takes) Any start old_interface (map parts defaults) (steady_defaults takes interface good_interface start) filled tt)
        (finally_does takes defaults filled (begin outside put) ∙ through_same default_sees (default takes) Any start old_interface (map parts defaults) (steady_defaults takes interface good_interface start) filled tt (begin outside put) refl)
        (λ all _ v k. new_finish all v (k ∙ sym before_alike)))

    new_prototype : prototype line name new_interface new_body outside takes ≡ prototype line name old_interface old_body outside takes
    new_prototype =
        ap (λ fields. record { name = name; interface = fields; takes = takes; instance = instance_of line name new_interface new_body outside takes }) (fields_same interface start)
        ∙ ap (λ i. record { name = name; interface = map field old_interface; takes = takes; instance = i }) (fun_ext (λ filled. fun_ext (λ put. new_instance filled put)))

    prototype_with : (u : Sight) → body_sees line name old_interface old_body start ≡ Ok u → prototype line name new_interface new_body outside u.taken ≡ prototype line name old_interface old_body outside u.taken
    prototype_with u e = subst (λ names. prototype line name new_interface new_body outside names ≡ prototype line name old_interface old_body outside names) (takes_is u e) new_prototype

    abbrev sighted : List Prototype → Sight
    sighted around = record { here = []; outside = around; taken = no_names }

    abbrev declares_by : List (Declaration Node) → List Stated → List Prototype → Sight → Seen
    declares_by ds ss around t = and_see (body_sees line name ds ss (sighted around)) (λ u. Ok (record t { here = t.here ++ prototype line name ds ss around u.taken ∷ [] }))

    declares_same : (t : Sight) → declares_by new_interface new_body outside t ≡ declares_by old_interface old_body outside t
    declares_same t = ap (λ r. and_see {Y = Sight} r (λ u. Ok (record t { here = t.here ++ prototype line name new_interface new_body outside u.taken ∷ [] }))) new_sees ∙ on (body_sees line name old_interface old_body start) refl where
      on : (r : Seen) → body_sees line name old_interface old_body start ≡ r
          → and_see r (λ u. Ok (record t { here = t.here ++ prototype line name new_interface new_body outside u.taken ∷ [] })) ≡ and_see r (λ u. Ok (record t { here = t.here ++ prototype line name old_interface old_body outside u.taken ∷ [] }))
      on (Ok u) e = ap (λ p. Ok (record t { here = t.here ++ p ∷ [] })) (prototype_with u e)
      on (Err x) e = refl

    new_found : (own : Name) → node_type_named own ≡ None → (hidden : Bool) → body_finds line name new_interface new_body own hidden ≡ body_finds line name old_interface old_body own hidden
    new_found own free hidden =
        ap (λ r. and_see r (each (λ (x : Stated). x.1.finds own) new_body)) (finally_found own free takes defaults hidden ∙ defaults_found own free interface good_interface start hidden)
        ∙ on (each (λ (d : Declaration Node). given_finds d.given own) old_interface hidden) where
          on : (r : Result Bool ℕ) → and_see r (each (λ (x : Stated). x.1.finds own) new_body) ≡ and_see r (each (λ (x : Stated). x.1.finds own) old_body)
          on (Ok b) = body_found own free body good_body before b
          on (Err x) = refl

    body_declares : (t : Sight) → Alike s t → (r : Result Bool ℕ) → declare_body line name new_interface new_body r t ≡ declare_body line name old_interface old_body r t
    body_declares t e (Err itself) = refl
    body_declares t e (Ok hidden) =
        ap (λ b. if b then declares_by new_interface new_body (t.here ++ t.outside) t else Err (fault EmptyBody line)) (nodes_same body good_body before)
        ∙ ap (λ r. if list_any (λ (x : Stated). x.0) old_body then r else Err (fault EmptyBody line))
        (subst (λ around. declares_by new_interface new_body around t ≡ declares_by old_interface old_body around t) (sym (ap (λ (x : Sight). x.here ++ x.outside) e)) (declares_same t))

    pub new_declare : (t : Sight) → Alike s t → declare line name new_interface new_body t ≡ declare line name old_interface old_body t
    new_declare t e = on (node_type_named name) refl where
      on : (o : Option NodeType) → node_type_named name ≡ o
          → (if is_some o || is_some (declared name t.here) then Err (fault ProtoTwice line) else declare_body line name new_interface new_body (body_finds line name new_interface new_body name false) t)
          ≡ (if is_some o || is_some (declared name t.here) then Err (fault ProtoTwice line) else declare_body line name old_interface old_body (body_finds line name old_interface old_body name false) t)
      on (Some x) is = refl
      on None is =
          ap (λ r. if is_some (declared name t.here) then Err (fault ProtoTwice line) else r)
          (ap (λ r. declare_body line name new_interface new_body r t) (new_found name is false) ∙ body_declares t e (body_finds line name old_interface old_body name false))

    pub proto_same : SameProto s (proto_of line name old_interface old_body) (proto_of line name new_interface new_body)
    unfolding proto_step
    proto_same =
        record {
          finds = λ own free hidden. ap (λ r. and_see {Y = Bool} r (λ _. Ok (bytes_eq name own || hidden))) (new_found own free hidden);
          seen = new_declare;
          done = λ w e. ap (λ r. follow [] r (λ t. comes (Ok (tt {0}, record w { sight = t })))) (new_declare w.sight e);
        }

  -- ---- the layers of prototypes and statements

  abbrev pub OfProto : ProtoText → Type 0
  OfProto p = GoodProto (proto_part p) × ((s : Sight) → SameProto s (proto_part p) (proto_part (prototype_at change p s)))

  proto_by : (s : Sight) (l m n o : Proto) → l ≡ m → o ≡ n → SameProto s m n → SameProto s l o
  proto_by s l m n o e f h = subst (λ x. SameProto s x o) (sym e) (subst (λ x. SameProto s m x) (sym f) h)

  abbrev new_default : ProtoText → Sight → List (Declaration NodeText)
  new_default p s = defaults_at (out-ProtoText p).interface (opened s)

  pub prototype_layer : (p : ProtoText) → AllByRecursion OfDefault (out-ProtoText p).interface → AllByRecursion OfStatement (out-ProtoText p).body → OfProto p
  prototype_layer p ds ss =
      let is = fold_out-ProtoText Item Node Stated Proto item_step node_step statement_step proto_step p in (
        subst GoodProto (sym is) (prototype_good _),
        λ s. proto_by s _ (proto_of (out-ProtoText p).line (out-ProtoText p).name (old_interface (out-ProtoText p).line (out-ProtoText p).name (out-ProtoText p).interface (out-ProtoText p).body ds ss s) (old_body (out-ProtoText p).line (out-ProtoText p).name (out-ProtoText p).interface (out-ProtoText p).body ds ss s))
            (proto_of (out-ProtoText p).line (out-ProtoText p).name (new_interface (out-ProtoText p).line (out-ProtoText p).name (out-ProtoText p).interface (out-ProtoText p).body ds ss s) (new_body (out-ProtoText p).line (out-ProtoText p).name (out-ProtoText p).interface (out-ProtoText p).body ds ss s)) _
            is
            (ap proto_part (at-prototype change p s)
            ∙ proto-is (out-ProtoText p).line (out-ProtoText p).name (finally (takes (out-ProtoText p).line (out-ProtoText p).name (out-ProtoText p).interface (out-ProtoText p).body ds ss s) (defaults (out-ProtoText p).line (out-ProtoText p).name (out-ProtoText p).interface (out-ProtoText p).body ds ss s))
            (statements (out-ProtoText p).line (out-ProtoText p).name (out-ProtoText p).interface (out-ProtoText p).body ds ss s) refl refl)
            (proto_same (out-ProtoText p).line (out-ProtoText p).name (out-ProtoText p).interface (out-ProtoText p).body ds ss s),
      )
