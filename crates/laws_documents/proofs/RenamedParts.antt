-- Prototypes, statements and documents with other names of prototypes.
use Rattle.std.proofs.Common.{◌≡◌, ℕ, Bool, true, false, if◌then◌else◌, List, [], ◌∷◌, ◌++◌, Option, Some, None, option_map, Result, Ok, Err, map, refl, ap, sym, ◌∙◌, subst}
use Rattle.std.specs.Prelude.{◌&&◌, ◌||◌, is_some, is_none}
use Rattle.std.specs.List.{AllByRecursion, list_any}
use Rattle.std.specs.Str.{bytes_eq}
use Rattle.std.proofs.Math.Path.{fun_ext}
use Rattle.std.proofs.lemmas.List.{map-append}
use Rattle.x3d_values.specs.Names.{node_type_named}
use Rattle.classic_tree.specs.declared.tree.BodyItem.TheOpen.{Statement-F}
use Rattle.classic_tree.specs.declared.tree.Declaration.{Declaration}
use Rattle.classic_tree.specs.declared.tree.Document.{Document}
use Rattle.classic_tree.specs.declared.tree.Given.{Given}
use Rattle.classic_tree.specs.declared.tree.Given.TheVariants as given
use Rattle.classic_tree.specs.declared.tree.NodeText.{NodeText}
use Rattle.classic_tree.specs.declared.tree.ProtoText.{ProtoText, out-ProtoText, fold_out-ProtoText}
use Rattle.classic_tree.specs.declared.tree.RouteText.{RouteText}
use Rattle.classic_tree.proofs.Mapped.{given_mapped, declaration_mapped, interface_mapped}
use Rattle.proto_flat.specs.Fault.{fault}
use Rattle.proto_flat.specs.declared.fault.ExpandFault.{ExpandFault}
use Rattle.proto_flat.specs.declared.fault.ExpandFaultKind.TheVariants.{ProtoTwice, EmptyBody}
use Rattle.proto_flat.specs.declared.flat.Flat.{Flat}
use Rattle.proto_meaning.specs.Limits.{Met, Outcome, behind, follow, and_then, limited}
use Rattle.proto_meaning.specs.Names.{Name, Filled, value_of}
use Rattle.proto_meaning.specs.Sight.{Put, Prototype, Sight, Names, and_see, each, aside, no_names, declared}
use Rattle.proto_meaning.specs.Flat.{Walk, Does, ◌>>=◌, comes, pure, note, through, Node, Item, Stated, Proto, given_finds, given_sees, leave_out, put_in, field, in_body, put_default, default, begin, made, instance_of, prototype, body_finds, body_sees, declare_body, declare, item_step, node_step, statement_step, proto_step, header_of, flat}
use Rattle.proto_meaning.specs.Flat.{item as item_part, node as node_part, proto as proto_part, statement as stated}
use Rattle.proto_meaning.proofs.Trees.{item-field, item-declaration, item-route, item-proto, node-use, node-full, statement-node, statement-route, statement-proto, proto-is, proto_of}
use Rattle.proto_meaning.proofs.Induction.{OfDeclaration, Layers, every}
use Rattle.proto_meaning.proofs.SightLaw.{Seen}
use Rattle.laws_documents.specs.Renamed.{IsRenaming, renamed, renamed_item, renamed_node, renamed_statement, renamed_proto, NamesOfPrototypesDontMatter}
use Rattle.laws_documents.proofs.Maps.{mapped, came, maps_then, maps_if}
use Rattle.laws_documents.proofs.RenamedTexts.{renamed-field, renamed-declaration, renamed-item-route, renamed-item-proto, renamed-use, renamed-full, renamed-node, renamed-route, renamed-proto, renamed-prototype}
use Rattle.laws_documents.proofs.RenamedGiven.{same, other, others, seen, apart, declared_other, sees_then, sees_aside, keeps_see, Both, both_map, each_sees, each_found, through_keeps, given_sees_keeps, given_found, leave_keeps}
use Rattle.laws_documents.proofs.RenamedNodes.{Saw, Does', walk_other, ItemKeeps, ProtoKeeps, StatementKeeps, AlikeNodes, AlikeGiven, OfNode, OfItem, OfPrototype, OfStatement, given_other, given_alike, item_by, field_keeps, declaration_keeps, route_keeps, proto_item_keeps, full_node_keeps, use_keeps}

module _ (rename : Name → Name) (good : IsRenaming rename) where
  -- ---- the interface of a prototype

  abbrev as_default : Declaration Node → Given Node → Declaration Node
  as_default d g = record d { given = g }

  abbrev DefaultKeeps : Declaration Node → Declaration Node → Type 0
  DefaultKeeps c d = (d ≡ as_default c d.given) × AlikeGiven rename good c.given d.given

  abbrev parts : Declaration NodeText → Declaration Node
  parts d = interface_mapped node_part d

  abbrev renamed_default : Declaration NodeText → Declaration NodeText
  renamed_default d = interface_mapped (renamed_node rename) d

  defaults_both : (ds : List (Declaration NodeText)) → AllByRecursion (OfDeclaration (OfNode rename good)) ds → Both rename good DefaultKeeps (map parts ds) (map parts (map renamed_default ds))
  defaults_both [] h = tt
  defaults_both (d ∷ ds) h = ((refl, given_alike rename good d.given h.0), defaults_both ds h.1)

  put_keeps : (d : Declaration Node) (filled : List Filled) (g h : Given Node) → AlikeGiven rename good g h → Does' rename good same (put_default (as_default d g) filled g) (put_default (as_default d h) filled h)
  put_keeps d filled given.Nothing given.Nothing k w = refl
  put_keeps d filled given.Nothing (given.Is b) k w = absurd k
  put_keeps d filled given.Nothing (given.Value u) k w = absurd k
  put_keeps d filled (given.Is a) given.Nothing k w = absurd k
  put_keeps d filled (given.Is a) (given.Is b) k w = refl
  put_keeps d filled (given.Is a) (given.Value u) k w = absurd k
  put_keeps d filled (given.Value v) given.Nothing k w = absurd k
  put_keeps d filled (given.Value v) (given.Is b) k w = absurd k
  put_keeps d filled (given.Value v) (given.Value u) k w =
      maps_then (walk_other rename good) same same (put_in v) (put_in u) (λ r. pure (filled ++ record { line = d.line; name = d.name; number = 0; value = Some r } ∷ [])) (λ r. pure (filled ++ record { line = d.line; name = d.name; number = 0; value = Some r } ∷ [])) k.2 (λ r x. refl) w

  default_keeps : (takes : Names) (c : Declaration Node) (h : Given Node) → AlikeGiven rename good c.given h → (filled : List Filled) → Does' rename good same (default takes c filled) (default takes (as_default c h) filled)
  default_keeps takes c h k filled =
      maps_if (walk_other rename good) same (takes c.name && is_none (value_of c.name filled))
      (put_default c filled c.given) (leave_out c.given >>= λ _. pure filled)
      (put_default (as_default c h) filled h) (leave_out h >>= λ _. pure filled)
      (put_keeps c filled c.given h k)
      (maps_then (walk_other rename good) same same (leave_out c.given) (leave_out h) (λ _. pure filled) (λ _. pure filled) (leave_keeps rename good c.given h k) (λ _ x. refl))

  defaults_do : (takes : Names) (cs ds : List (Declaration Node)) → Both rename good DefaultKeeps cs ds → (filled : List Filled) → Does' rename good same (through (default takes) cs filled) (through (default takes) ds filled)
  defaults_do takes cs ds h filled =
      through_keeps rename good DefaultKeeps same (default takes) (default takes)
      (λ c d k v. subst (λ z. Does' rename good same (default takes c v) (default takes z v)) (sym k.0) (default_keeps takes c d.given k.1 v)) cs ds h filled

  fields_same : (cs ds : List (Declaration Node)) → Both rename good DefaultKeeps cs ds → map field ds ≡ map field cs
  fields_same [] [] h = refl
  fields_same [] (d ∷ ds) h = absurd h
  fields_same (c ∷ cs) [] h = absurd h
  fields_same (c ∷ cs) (d ∷ ds) h = ap (λ f. f ∷ map field ds) (ap (λ (x : Declaration Node). field x) h.0.0) ∙ ap (λ fs. field c ∷ fs) (fields_same cs ds h.1)

  -- ---- the body

  abbrev AlikeBodies : List Stated → List Stated → Type 0
  AlikeBodies = Both rename good (StatementKeeps rename good)

  in_body_keeps : (m n : Stated) → StatementKeeps rename good m n → (ks : List ℕ) → Does' rename good same (in_body m ks) (in_body n ks)
  in_body_keeps m n h [] = h.does
  in_body_keeps m n h (k ∷ ks) =
      maps_then (walk_other rename good) same same m.1.does n.1.does (λ ns. (λ w. comes (Ok (k ∷ ks, record w { put = record w.put { helpers = w.put.helpers ++ ns } })))) (λ ns. (λ w. comes (Ok (k ∷ ks, record w { put = record w.put { helpers = w.put.helpers ++ ns } })))) h.does (λ ns w. refl)

  kinds_same : (ms ns : List Stated) → AlikeBodies ms ns → list_any (λ (x : Stated). x.0) ns ≡ list_any (λ (x : Stated). x.0) ms
  kinds_same [] [] h = refl
  kinds_same [] (n ∷ ns) h = absurd h
  kinds_same (m ∷ ms) [] h = absurd h
  kinds_same (m ∷ ms) (n ∷ ns) h = ap (λ b. b || list_any (λ (x : Stated). x.0) ns) h.0.kind ∙ ap (λ b. m.0 || b) (kinds_same ms ns h.1)

  some_same : (o : Option Prototype) → is_some (option_map (other rename good) o) ≡ is_some o
  some_same (Some p) = refl
  some_same None = refl

  made_same : (line : ℕ) (met : List Met) (c : Result (List ℕ × Walk) ExpandFault) → follow met (came (walk_other rename good) same c) (λ p. made line p.0 p.1) ≡ follow met c (λ p. made line p.0 p.1)
  made_same line met (Ok p) = ap (behind met) (on p.0) where
    on : (ns : List ℕ) → made line ns (walk_other rename good p.1) ≡ made line ns p.1
    on [] = refl
    on (n ∷ ns) = refl
  made_same line met (Err e) = refl

  made_of : (line : ℕ) (o : Outcome (List ℕ × Walk)) → and_then (mapped (walk_other rename good) same o) (λ p. made line p.0 p.1) ≡ and_then o (λ p. made line p.0 p.1)
  made_of line o = made_same line o.met o.comes

  -- ---- a prototype

  module _ (line : ℕ) (name : Name) (cs ds : List (Declaration Node)) (ms ns : List Stated) (interface : Both rename good DefaultKeeps cs ds) (body : AlikeBodies ms ns) where
    abbrev new : Name
    new = rename name

    body_does : (takes : Names) (all : List Filled)
        → Does' rename good same (note (tt {0}) (λ x. record x { interface = map field cs; given = all }) >>= λ _. through in_body ms [])
        (note (tt {0}) (λ x. record x { interface = map field ds; given = all }) >>= λ _. through in_body ns [])
    body_does takes all w =
        ap (λ fields. behind [] (through in_body ns [] (record (walk_other rename good w) { scope = record w.scope { interface = fields; given = all } }))) (fields_same cs ds interface)
        ∙ ap (behind []) (through_keeps rename good (StatementKeeps rename good) same in_body in_body in_body_keeps ms ns body [] (record w { scope = record w.scope { interface = map field cs; given = all } }))

    instance_same : (outside : List Prototype) (takes : Names) (filled : List Filled) (put : Put)
        → instance_of line new ds ns (map (other rename good) outside) takes filled put ≡ instance_of line name cs ms outside takes filled put
    instance_same outside takes filled put =
        ap (λ o. and_then o (λ p. made line p.0 p.1))
        (maps_then (walk_other rename good) same same (through (default takes) cs filled) (through (default takes) ds filled)
        (λ all. note (tt {0}) (λ x. record x { interface = map field cs; given = all }) >>= λ _. through in_body ms [])
        (λ all. note (tt {0}) (λ x. record x { interface = map field ds; given = all }) >>= λ _. through in_body ns [])
        (defaults_do takes cs ds interface filled) (λ all. body_does takes all) (begin outside put))
        ∙ made_of line
        ((through (default takes) cs filled >>= λ all. note (tt {0}) (λ x. record x { interface = map field cs; given = all }) >>= λ _. through in_body ms []) (begin outside put))

    prototype_same : (outside : List Prototype) (takes : Names) → prototype line new ds ns (map (other rename good) outside) takes ≡ other rename good (prototype line name cs ms outside takes)
    prototype_same outside takes =
        ap (λ fields. record { name = new; interface = fields; takes = takes; instance = instance_of line new ds ns (map (other rename good) outside) takes }) (fields_same cs ds interface)
        ∙ ap (λ i. record { name = new; interface = map field cs; takes = takes; instance = i }) (fun_ext (λ filled. fun_ext (λ put. instance_same outside takes filled put)))

    body_found : (own : Name) (hidden : Bool) → body_finds line new ds ns (rename own) hidden ≡ body_finds line name cs ms own hidden
    body_found own hidden =
        ap (λ r. and_see r (each (λ (x : Stated). x.1.finds (rename own)) ns))
        (each_found rename good DefaultKeeps (λ (d : Declaration Node). given_finds d.given own) (λ (d : Declaration Node). given_finds d.given (rename own)) (λ c d k. given_found rename good c.given d.given k.1 own) cs ds interface hidden)
        ∙ on (each (λ (d : Declaration Node). given_finds d.given own) cs hidden) where
          on : (r : Result Bool ℕ) → and_see r (each (λ (x : Stated). x.1.finds (rename own)) ns) ≡ and_see r (each (λ (x : Stated). x.1.finds own) ms)
          on (Ok b) = each_found rename good (StatementKeeps rename good) (λ (x : Stated). x.1.finds own) (λ (x : Stated). x.1.finds (rename own)) (λ m n k. k.finds own) ms ns body b
          on (Err x) = refl

    body_saw : Saw rename good (body_sees line name cs ms) (body_sees line new ds ns)
    body_saw =
        sees_then rename good (aside (each (λ (d : Declaration Node). given_sees d.given) cs)) (aside (each (λ (d : Declaration Node). given_sees d.given) ds)) (each (λ (x : Stated). x.1.sees) ms) (each (λ (x : Stated). x.1.sees) ns)
        (sees_aside rename good (each (λ (d : Declaration Node). given_sees d.given) cs) (each (λ (d : Declaration Node). given_sees d.given) ds)
        (each_sees rename good DefaultKeeps (λ (d : Declaration Node). given_sees d.given) (λ (d : Declaration Node). given_sees d.given) (λ c d k. given_sees_keeps rename good c.given d.given k.1) cs ds interface))
        (each_sees rename good (StatementKeeps rename good) (λ (x : Stated). x.1.sees) (λ (x : Stated). x.1.sees) (λ m n k. k.sees) ms ns body)

    abbrev scoped : List Prototype → Sight
    scoped outside = record { here = []; outside = outside; taken = no_names }

    abbrev with_new : Name → List (Declaration Node) → List Stated → List Prototype → Sight → Seen
    with_new own xs ys around s = and_see (body_sees line own xs ys (scoped around)) (λ t. Ok (record s { here = s.here ++ prototype line own xs ys around t.taken ∷ [] }))

    declared_with : (s : Sight) → with_new new ds ns (map (other rename good) (s.here ++ s.outside)) (others rename good s) ≡ seen rename good (with_new name cs ms (s.here ++ s.outside) s)
    declared_with s =
        ap (λ r. and_see {Y = Sight} r (λ t. Ok (record (others rename good s) { here = map (other rename good) s.here ++ prototype line new ds ns (map (other rename good) (s.here ++ s.outside)) t.taken ∷ [] }))) (body_saw (scoped (s.here ++ s.outside)))
        ∙ on (body_sees line name cs ms (scoped (s.here ++ s.outside))) where
          on : (r : Seen) → and_see {Y = Sight} (seen rename good r) (λ t. Ok (record (others rename good s) { here = map (other rename good) s.here ++ prototype line new ds ns (map (other rename good) (s.here ++ s.outside)) t.taken ∷ [] }))
              ≡ seen rename good (and_see r (λ t. Ok (record s { here = s.here ++ prototype line name cs ms (s.here ++ s.outside) t.taken ∷ [] })))
          on (Ok t) =
              ap (λ p. Ok (record (others rename good s) { here = map (other rename good) s.here ++ p ∷ [] })) (prototype_same (s.here ++ s.outside) t.taken)
              ∙ ap (λ ps. Ok (record (others rename good s) { here = ps })) (sym (map-append (other rename good) s.here (prototype line name cs ms (s.here ++ s.outside) t.taken ∷ [])))
          on (Err e) = refl

    seen_if : (b : Bool) (x y u v : Seen) → x ≡ seen rename good u → y ≡ seen rename good v → (if b then x else y) ≡ seen rename good (if b then u else v)
    seen_if true x y u v e f = e
    seen_if false x y u v e f = f

    body_declared : (s : Sight) (r : Result Bool ℕ) → declare_body line new ds ns r (others rename good s) ≡ seen rename good (declare_body line name cs ms r s)
    body_declared s (Err itself) = refl
    body_declared s (Ok hidden) =
        ap (λ b. if b then with_new new ds ns (map (other rename good) s.here ++ map (other rename good) s.outside) (others rename good s) else Err (fault EmptyBody line)) (kinds_same ms ns body)
        ∙ seen_if (list_any (λ (x : Stated). x.0) ms) _ (Err (fault EmptyBody line)) _ (Err (fault EmptyBody line))
        (ap (λ around. with_new new ds ns around (others rename good s)) (sym (map-append (other rename good) s.here s.outside)) ∙ declared_with s) refl

    pub declare_keeps : Saw rename good (declare line name cs ms) (declare line new ds ns)
    declare_keeps s =
        ap (λ t. if is_some t || is_some (declared new (map (other rename good) s.here)) then Err (fault ProtoTwice line) else declare_body line new ds ns (body_finds line new ds ns new false) (others rename good s)) (good.types name)
        ∙ ap (λ b. if is_some (node_type_named name) || b then Err (fault ProtoTwice line) else declare_body line new ds ns (body_finds line new ds ns new false) (others rename good s))
        (ap is_some (declared_other rename good name s.here) ∙ some_same (declared name s.here))
        ∙ seen_if (is_some (node_type_named name) || is_some (declared name s.here)) (Err (fault ProtoTwice line)) _ (Err (fault ProtoTwice line)) _ refl
        (ap (λ r. declare_body line new ds ns r (others rename good s)) (body_found name false) ∙ body_declared s (body_finds line name cs ms name false))

    pub proto_keeps : ProtoKeeps rename good (proto_of line name cs ms) (proto_of line new ds ns)
    unfolding proto_step
    proto_keeps =
        record {
          finds = λ own hidden. ap (λ r. and_see {Y = Bool} r (λ _. Ok (bytes_eq new (rename own) || hidden))) (body_found own hidden) ∙ ap (λ b. and_see {Y = Bool} (body_finds line name cs ms own hidden) (λ _. Ok (b || hidden))) (apart rename good name own);
          sees = declare_keeps;
          does = keeps_see rename good (declare line name cs ms) (declare line new ds ns) declare_keeps;
        }

  -- ---- each part of a tree

  proto_by : (l m n o : Proto) → l ≡ m → o ≡ n → ProtoKeeps rename good m n → ProtoKeeps rename good l o
  proto_by l m n o e f h = subst (λ x. ProtoKeeps rename good x o) (sym e) (subst (λ x. ProtoKeeps rename good m x) (sym f) h)

  node_by : (l m n o : Node) → l ≡ m → o ≡ n → AlikeNodes rename good m n → AlikeNodes rename good l o
  node_by l m n o e f h = subst (λ x. AlikeNodes rename good x o) (sym e) (subst (λ x. AlikeNodes rename good m x) (sym f) h)

  statement_by : (l m n o : Stated) → l ≡ m → o ≡ n → StatementKeeps rename good m n → StatementKeeps rename good l o
  statement_by l m n o e f h = subst (λ x. StatementKeeps rename good x o) (sym e) (subst (λ x. StatementKeeps rename good m x) (sym f) h)

  prototype_layer : (p : ProtoText) → AllByRecursion (OfDeclaration (OfNode rename good)) (out-ProtoText p).interface → AllByRecursion (OfStatement rename good) (out-ProtoText p).body → OfPrototype rename good p
  prototype_layer p hd hs =
      let q = out-ProtoText p in
      proto_by _ (proto_of q.line q.name (map parts q.interface) (map stated q.body)) (proto_of q.line (rename q.name) (map parts (map renamed_default q.interface)) (map stated (map (renamed_statement rename) q.body))) _
      (fold_out-ProtoText Item Node Stated Proto item_step node_step statement_step proto_step p)
      (ap proto_part (renamed-prototype rename p) ∙ proto-is q.line (rename q.name) (map renamed_default q.interface) (map (renamed_statement rename) q.body) refl refl)
      (proto_keeps q.line q.name (map parts q.interface) (map parts (map renamed_default q.interface)) (map stated q.body) (map stated (map (renamed_statement rename) q.body)) (defaults_both q.interface hd) (both_map rename good (StatementKeeps rename good) stated (renamed_statement rename) q.body hs))

  node_statement : (m n : Node) → AlikeNodes rename good m n → StatementKeeps rename good (statement_step (Statement-F.Node m)) (statement_step (Statement-F.Node n))
  unfolding statement_step
  node_statement m n h = record { kind = refl; finds = h.finds; sees = h.sees; does = maps_then (walk_other rename good) same same m.does n.does (λ k. pure (k ∷ [])) (λ k. pure (k ∷ [])) h.does (λ k w. refl) }

  route_statement : (r : RouteText) → StatementKeeps rename good (statement_step (Statement-F.Statement::Route r)) (statement_step (Statement-F.Statement::Route r))
  unfolding statement_step
  route_statement r = record { kind = refl; finds = λ own hidden. refl; sees = λ s. refl; does = λ w. refl }

  proto_statement : (m n : Proto) → ProtoKeeps rename good m n → StatementKeeps rename good (statement_step (Statement-F.Statement::Proto m)) (statement_step (Statement-F.Statement::Proto n))
  unfolding statement_step
  proto_statement m n h = record { kind = refl; finds = h.finds; sees = h.sees; does = maps_then (walk_other rename good) same same m.does n.does (λ _. pure []) (λ _. pure []) h.does (λ _ w. refl) }

  layers : Layers (OfItem rename good) (OfNode rename good) (OfStatement rename good) (OfPrototype rename good)
  layers = record {
    field = λ line name g h. item_by rename good _ _ _ _ (item-field line name g refl) (ap item_part (renamed-field rename line name g) ∙ item-field line name (given_other rename good g) refl) (field_keeps rename good line name (given_mapped node_part g) (given_mapped node_part (given_other rename good g)) (given_alike rename good g h));
    declaration = λ d h. item_by rename good _ _ _ _ (item-declaration d refl) (ap item_part (renamed-declaration rename d) ∙ item-declaration (declaration_mapped (renamed_node rename) d) refl) (declaration_keeps rename good (declaration_mapped node_part d) (given_mapped node_part (given_other rename good d.given)) (given_alike rename good d.given h));
    item_route = λ r. item_by rename good _ _ _ _ (item-route r) (ap item_part (renamed-item-route rename r) ∙ item-route r) (route_keeps rename good r);
    item_proto = λ p h. item_by rename good _ _ _ _ (item-proto p refl) (ap item_part (renamed-item-proto rename p) ∙ item-proto (renamed_proto rename p) refl) (proto_item_keeps rename good (proto_part p) (proto_part (renamed_proto rename p)) h);
    used = λ line name. node_by _ _ _ _ (node-use line name) (ap node_part (renamed-use rename line name) ∙ node-use line name) (use_keeps rename good line name);
    full = λ line name word is h. node_by _ _ _ _ (node-full line name word is refl) (ap node_part (renamed-full rename line name word is) ∙ node-full line name (rename word) (map (renamed_item rename) is) refl)
        (full_node_keeps rename good line name word (map item_part is) (map item_part (map (renamed_item rename) is)) (both_map rename good (ItemKeeps rename good) item_part (renamed_item rename) is h));
    node = λ n h. statement_by _ _ _ _ (statement-node n refl) (ap stated (renamed-node rename n) ∙ statement-node (renamed_node rename n) refl) (node_statement (node_part n) (node_part (renamed_node rename n)) h);
    route = λ r. statement_by _ _ _ _ (statement-route r) (ap stated (renamed-route rename r) ∙ statement-route r) (route_statement r);
    proto = λ p h. statement_by _ _ _ _ (statement-proto p refl) (ap stated (renamed-proto rename p) ∙ statement-proto (renamed_proto rename p) refl) (proto_statement (proto_part p) (proto_part (renamed_proto rename p)) h);
    prototype = prototype_layer;
  }

  -- ---- a document

  abbrev root : Stated → List ℕ → Does (List ℕ)
  root s roots = s.1.does >>= λ ns. pure (roots ++ ns)

  abbrev finish : Document → List ℕ × Walk → Outcome Flat
  finish d p = comes (Ok (record {
    header = header_of d;
    nodes = p.1.put.nodes;
    roots = p.0;
    helpers = p.1.put.helpers;
    routes = p.1.scope.routes p.1.scope.braces;
  }))

  finish_same : (d : Document) (met : List Met) (c : Result (List ℕ × Walk) ExpandFault) → follow met (came (walk_other rename good) same c) (finish d) ≡ follow met c (finish d)
  finish_same d met (Ok p) = refl
  finish_same d met (Err e) = refl

  finish_of : (d : Document) (o : Outcome (List ℕ × Walk)) → and_then (mapped (walk_other rename good) same o) (finish d) ≡ and_then o (finish d)
  finish_of d o = finish_same d o.met o.comes

  pub renamed_flat : (d : Document) → flat (renamed rename d) ≡ flat d
  unfolding flat
  renamed_flat d =
      ap (λ o. limited (and_then o (finish d)))
      (through_keeps rename good (StatementKeeps rename good) same root root (λ m n h roots. maps_then (walk_other rename good) same same m.1.does n.1.does (λ ns. pure (roots ++ ns)) (λ ns. pure (roots ++ ns)) h.does (λ ns w. refl))
      (map stated d.statements) (map stated (map (renamed_statement rename) d.statements))
      (both_map rename good (StatementKeeps rename good) stated (renamed_statement rename) d.statements (every (OfItem rename good) (OfNode rename good) (OfStatement rename good) (OfPrototype rename good) layers d.statements)) [] (begin [] (record { nodes = []; helpers = [] })))
      ∙ ap limited (finish_of d (through root (map stated d.statements) [] (begin [] (record { nodes = []; helpers = [] }))))

pub names_of_prototypes_dont_matter : NamesOfPrototypesDontMatter
names_of_prototypes_dont_matter = renamed_flat
