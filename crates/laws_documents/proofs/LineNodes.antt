-- The parts of a text without lines: nodes, instances and statements.
use Rattle.std.proofs.Common.{◌≡◌, ℕ, Bool, true, false, if◌then◌else◌, List, [], ◌∷◌, ◌++◌, length, Option, Some, None, option_map, Result, Ok, Err, map, bytes_eq, refl, ap, sym, ◌∙◌, subst}
use Rattle.std.specs.Prelude.{◌&&◌, not}
use Rattle.std.specs.Option.{option_map_or, option_or}
use Rattle.std.proofs.lemmas.List.{length-map, map-append}
use Rattle.x3d_values.specs.Names.{node_type_named}
use Rattle.x3d_values.specs.Tables.{FieldRowView, rows}
use Rattle.x3d_values.specs.declared.node_type.NodeType.{NodeType}
use Rattle.classic_tree.specs.declared.tree.BodyItem.TheOpen.{NodeText-F, Statement-F}
use Rattle.classic_tree.specs.declared.tree.RouteText.{RouteText}
use Rattle.proto_flat.specs.declared.fault.ExpandFault.{ExpandFault}
use Rattle.proto_flat.specs.declared.fault.ExpandFaultKind.TheVariants.{UnknownNode, UseWithoutDef, FieldTwice}
use Rattle.proto_meaning.specs.Limits.{Met, ANode, AnInstance, AnItem, Outcome, follow, and_then}
use Rattle.proto_meaning.specs.Names.{Name, Field, Scope, Stands, Braces, used}
use Rattle.proto_meaning.specs.Sight.{Instance, Prototype, Sight, Names, Owner, OfType, OfProto, declared, each, meant, taken_by}
use Rattle.proto_meaning.specs.Flat.{Walk, Does, ◌>>=◌, Node, Item, Proto, Inside, close, close_instance, close_node, field_with, fields_of, flat_node, full_node, inside, is_one, meet, node_step, note, note_route, pure, refuse, renamed, statement_step, through, unless_twice}
use Rattle.laws_documents.specs.Lines.{unlined_flat_node, unlined_flat_route, unlined_route}
use Rattle.laws_documents.proofs.LineWalks.{Alike, Both, DoesAlike, Equal, InsideAlike, OwnerAlike, PrototypeAlike, PrototypesAlike, ScopeAlike, SeenAlike, SightAlike, WalkAlike, bare_braces, bare_fields, bare_filled, bare_instance, bare_put, bare_result, both_append, each_alike, if_alike, meet_alike, pure_alike, refuse_alike, then_alike, through_alike}
use Rattle.laws_documents.proofs.LineSteps.{close_alike, close_node_alike, node_is_bare, renamed_bare, route_alike, use_alike}
use Rattle.laws_documents.proofs.LineParts.{bare_found, ItemAlike, NodeAlike, ProtoAlike, StatedAlike, each_found}

-- ---- between braces

abbrev opened : Option Name → Scope → Scope
opened name s = record s { braces = s.braces ++ record { name = name; stands = None } ∷ [] }

opened_alike : (name : Option Name) (w v : Walk) → WalkAlike w v → ScopeAlike (opened name w.scope) (opened name v.scope)
opened_alike name w v k = record {
  braces = ap (λ bs. bs ++ record { name = name; stands = None } ∷ []) k.scope.braces ∙ sym (map-append bare_braces w.scope.braces (record { name = name; stands = None } ∷ []));
  routes = k.scope.routes;
  ends = k.scope.ends;
  interface = k.scope.interface;
  given = k.scope.given;
}

does_item : (m n : Item) → ItemAlike m n → (b c : Inside) → InsideAlike b c → DoesAlike InsideAlike (m.does b) (n.does c)
does_item m n h b c i = subst (λ (x : Inside). DoesAlike InsideAlike (m.does b) (n.does x)) (sym i.is) (h.does b i.owner i.owned)

abbrev first : ℕ → Owner → List Field → Inside
first at owner fields = record { at = at; owner = owner; fields = fields; filled = [] }

inside_alike : (name : Option Name) (p q : Owner) (fs gs : List Field) (ms ns : List Item) → OwnerAlike p q → gs ≡ bare_fields fs → Both ItemAlike ms ns → DoesAlike InsideAlike (inside name p fs ms) (inside name q gs ns)
inside_alike name p q fs gs ms ns own e h =
    then_alike (Equal {A = ℕ}) InsideAlike (λ w. note (length w.scope.braces) (opened name) w) (λ w. note (length w.scope.braces) (opened name) w)
    (λ at. through (λ (i : Item). i.does) ms (first at p fs)) (λ at. through (λ (i : Item). i.does) ns (first at q gs))
    (λ w v k. record {
      met = refl;
      comes_to = (
        ap (λ (bs : List Braces). length bs) k.scope.braces ∙ length-map w.scope.braces bare_braces,
        record { put = k.put; sight = k.sight; scope = opened_alike name w v k },
      );
    })
    (λ a b i. through_alike ItemAlike InsideAlike (λ (i : Item). i.does) (λ (i : Item). i.does) does_item ms ns h (first a p fs) (first b q gs)
    (record { owner = q; owned = own; is = ap (λ at. first at q gs) i ∙ ap (first a q) e }))

-- ---- instances

abbrev instance_scope : Instance → Scope → Scope
instance_scope made s = record s { routes = λ all. s.routes all ++ made.routes }

abbrev stands_as : List Field → Instance → Stands
stands_as interface made = record { node = made.node; interface = Some interface; ends = made.ends }

abbrev finish : Option Name → ℕ → List Field → Walk → Instance → Outcome (ℕ × Walk)
finish name at interface w made =
    close name at (stands_as interface made) (record made.put { nodes = renamed name made.node made.put.nodes }) (record w { scope = instance_scope made w.scope })

routes_joined : (made : Instance) (w v : Walk) → WalkAlike w v → (all : List Braces) → v.scope.routes (map bare_braces all) ++ map unlined_flat_route made.routes ≡ map unlined_flat_route (w.scope.routes all ++ made.routes)
routes_joined made w v k all = ap (λ rs. rs ++ map unlined_flat_route made.routes) (k.scope.routes all) ∙ sym (map-append unlined_flat_route (w.scope.routes all) made.routes)

finish_alike : (name : Option Name) (at : ℕ) (fs gs : List Field) (made : Instance) (w v : Walk) → gs ≡ bare_fields fs → WalkAlike w v → Alike (Equal {A = ℕ}) (finish name at fs w made) (finish name at gs v (bare_instance made))
finish_alike name at fs gs made w v e k =
    close_alike name at (stands_as fs made) (stands_as gs (bare_instance made)) (record made.put { nodes = renamed name made.node made.put.nodes })
    (record (bare_put made.put) { nodes = renamed name made.node (map unlined_flat_node made.put.nodes) }) (record w { scope = instance_scope made w.scope }) (record v { scope = instance_scope (bare_instance made) v.scope })
    (ap (λ interface. stands_as interface made) e)
    (ap (λ ns. record made.put { nodes = ns }) (renamed_bare name made.node made.put.nodes))
    (record {
      put = k.put;
      sight = k.sight;
      scope = record {
        braces = k.scope.braces;
        routes = routes_joined made w v k;
        ends = k.scope.ends;
        interface = k.scope.interface;
        given = k.scope.given;
      };
    })

made_alike : (name : Option Name) (at : ℕ) (fs gs : List Field) (w v : Walk) → gs ≡ bare_fields fs → WalkAlike w v → (met : List Met) (r : Result Instance ExpandFault)
    → Alike (Equal {A = ℕ}) (follow met r (finish name at fs w)) (follow met (bare_result r) (finish name at gs v))
made_alike name at fs gs w v e k met (Ok made) =
    let h = finish_alike name at fs gs made w v e k in
    record { met = ap (λ x. met ++ x) h.met; comes_to = h.comes_to }
made_alike name at fs gs w v e k met (Err x) = record { met = refl; comes_to = refl }

close_instance_alike : (name : Option Name) (p q : Prototype) → PrototypeAlike p q → (b c : Inside) → InsideAlike b c → DoesAlike (Equal {A = ℕ}) (close_instance name p b) (close_instance name q c)
close_instance_alike name p q h b c i w v k =
    let o = p.instance b.filled w.put in
    subst (λ (x : Outcome (ℕ × Walk)). Alike (Equal {A = ℕ}) (close_instance name p b w) x)
    (sym (ap (λ (x : Inside). close_instance name q x v) i.is ∙ ap (λ put. and_then (q.instance (map bare_filled b.filled) put) (finish name b.at q.interface v)) k.put
    ∙ ap (λ r. and_then r (finish name b.at q.interface v)) (h.instance b.filled w.put)))
    (made_alike name b.at p.interface q.interface w v h.interface k o.met o.comes)

twice_alike : (seen : List Name) (fs : List Field) → DoesAlike (Equal {A = Unit {0}}) (unless_twice seen fs) (unless_twice seen (bare_fields fs))
twice_alike seen [] = pure_alike Equal tt tt refl
twice_alike seen (f ∷ fs) = if_alike Equal (is_one f.name seen) (refuse FieldTwice f.line) (unless_twice (f.name ∷ seen) fs) (refuse FieldTwice 0) (unless_twice (f.name ∷ seen) (bare_fields fs)) (refuse_alike Equal FieldTwice f.line) (twice_alike (f.name ∷ seen) fs)

-- ---- a pair of braces

abbrev MeantAlike : Option Owner → Option Owner → Type 0
MeantAlike None None = Unit {0}
MeantAlike (Some p) (Some q) = OwnerAlike p q
MeantAlike None (Some q) = ⊥
MeantAlike (Some p) None = ⊥

abbrev pub FoundAlike : Option Prototype → Option Prototype → Type 0
FoundAlike None None = Unit {0}
FoundAlike (Some p) (Some q) = PrototypeAlike p q
FoundAlike None (Some q) = ⊥
FoundAlike (Some p) None = ⊥

found_if : (b : Bool) (p q : Prototype) (o r : Option Prototype) → PrototypeAlike p q → FoundAlike o r → FoundAlike (if b then Some p else o) (if b then Some q else r)
found_if true p q o r h k = h
found_if false p q o r h k = k

pub declared_alike : (word : Name) (ps qs : List Prototype) → PrototypesAlike ps qs → FoundAlike (declared word ps) (declared word qs)
declared_alike word [] [] h = tt
declared_alike word [] (q ∷ qs) h = absurd h
declared_alike word (p ∷ ps) [] h = absurd h
declared_alike word (p ∷ ps) (q ∷ qs) h =
    subst (λ name. FoundAlike (if bytes_eq word p.name then Some p else declared word ps) (if bytes_eq word name then Some q else declared word qs)) (sym h.0.name)
    (found_if (bytes_eq word p.name) p q (declared word ps) (declared word qs) h.0 (declared_alike word ps qs h.1))

owner_alike : (t : Option NodeType) (o r : Option Prototype) → FoundAlike o r → MeantAlike (option_or (option_map OfType t) (option_map OfProto o)) (option_or (option_map OfType t) (option_map OfProto r))
owner_alike (Some t) o r h = refl
owner_alike None None None h = tt
owner_alike None (Some p) (Some q) h = h
owner_alike None None (Some q) h = absurd h
owner_alike None (Some p) None h = absurd h

meant_alike : (word : Name) (s t : Sight) → SightAlike s t → MeantAlike (meant word s) (meant word t)
meant_alike word s t h =
    owner_alike (node_type_named word) (declared word (s.here ++ s.outside)) (declared word (t.here ++ t.outside))
    (declared_alike word (s.here ++ s.outside) (t.here ++ t.outside) (both_append PrototypeAlike s.here s.outside t.here t.outside h.here h.outside))

taken_same : (o r : Option Owner) → MeantAlike o r → taken_by r ≡ taken_by o
taken_same None None h = refl
taken_same (Some (OfType t)) (Some (OfType u)) h = refl
taken_same (Some (OfProto p)) (Some (OfProto q)) h = ap (λ (names : Names). Some names) h.takes
taken_same (Some (OfType t)) (Some (OfProto q)) h = absurd h
taken_same (Some (OfProto p)) (Some (OfType u)) h = absurd h
taken_same None (Some q) h = absurd h
taken_same (Some p) None h = absurd h

abbrev row_field : FieldRowView → Field
row_field row = field_with 0 row.access row.field_type row.name

rows_bare : (es : List FieldRowView) → map row_field es ≡ bare_fields (map row_field es)
rows_bare [] = refl
rows_bare (e ∷ es) = ap (λ fs. row_field e ∷ fs) (rows_bare es)

closed_alike : (line : ℕ) (name : Option Name) (t : NodeType) (b c : Inside) → InsideAlike b c → DoesAlike (Equal {A = ℕ}) (close_node name b.at (flat_node line name t b)) (close_node name c.at (flat_node 0 name t c))
closed_alike line name t b c i =
    subst (λ (n : Does ℕ). DoesAlike Equal (close_node name b.at (flat_node line name t b)) n)
    (sym (ap (λ (x : Inside). close_node name x.at (flat_node 0 name t x)) i.is ∙ ap (close_node name b.at) (node_is_bare line name t i.owner b))) (close_node_alike name b.at (flat_node line name t b))

full_alike : (line : ℕ) (name : Option Name) (ms ns : List Item) → Both ItemAlike ms ns → (o r : Option Owner) → MeantAlike o r → DoesAlike (Equal {A = ℕ}) (full_node line name ms o) (full_node 0 name ns r)
full_alike line name ms ns h None None k = refuse_alike Equal UnknownNode line
full_alike line name ms ns h (Some (OfType t)) (Some (OfType u)) k =
    subst (λ (x : NodeType). DoesAlike Equal (full_node line name ms (Some (OfType t))) (full_node 0 name ns (Some (OfType x)))) (sym k)
    (then_alike Equal Equal (meet ANode) (meet ANode) (λ _. inside name (OfType t) (fields_of t) ms >>= λ i. close_node name i.at (flat_node line name t i)) (λ _. inside name (OfType t) (fields_of t) ns >>= λ i. close_node name i.at (flat_node 0 name t i)) (meet_alike ANode ANode refl)
    (λ _ _ _. then_alike InsideAlike Equal (inside name (OfType t) (fields_of t) ms) (inside name (OfType t) (fields_of t) ns) (λ i. close_node name i.at (flat_node line name t i)) (λ i. close_node name i.at (flat_node 0 name t i))
    (inside_alike name (OfType t) (OfType t) (fields_of t) (fields_of t) ms ns refl (rows_bare (rows t)) h) (closed_alike line name t)))
full_alike line name ms ns h (Some (OfProto p)) (Some (OfProto q)) k =
    then_alike Equal Equal (meet AnInstance) (meet AnInstance) (λ _. unless_twice [] p.interface >>= λ _. inside name (OfProto p) p.interface ms >>= close_instance name p) (λ _. unless_twice [] q.interface >>= λ _. inside name (OfProto q) q.interface ns >>= close_instance name q) (meet_alike AnInstance AnInstance refl)
    (λ _ _ _. then_alike Equal Equal (unless_twice [] p.interface) (unless_twice [] q.interface) (λ _. inside name (OfProto p) p.interface ms >>= close_instance name p) (λ _. inside name (OfProto q) q.interface ns >>= close_instance name q)
    (subst (λ fs. DoesAlike Equal (unless_twice [] p.interface) (unless_twice [] fs)) (sym k.interface) (twice_alike [] p.interface))
    (λ _ _ _. then_alike InsideAlike Equal (inside name (OfProto p) p.interface ms) (inside name (OfProto q) q.interface ns) (close_instance name p) (close_instance name q)
    (inside_alike name (OfProto p) (OfProto q) p.interface q.interface ms ns k k.interface h) (close_instance_alike name p q k)))
full_alike line name ms ns h (Some (OfType t)) (Some (OfProto q)) k = absurd k
full_alike line name ms ns h (Some (OfProto p)) (Some (OfType u)) k = absurd k
full_alike line name ms ns h None (Some q) k = absurd k
full_alike line name ms ns h (Some p) None k = absurd k

hidden_if : (b : Bool) (line : ℕ) (r q : Result Bool ℕ) → q ≡ bare_found r → (if b then Err 0 else q) ≡ bare_found (if b then Err line else r)
hidden_if true line r q e = refl
hidden_if false line r q e = e

pub full_node_alike : (line : ℕ) (name : Option Name) (word : Name) (ms ns : List Item) → Both ItemAlike ms ns → NodeAlike (node_step (NodeText-F.Full line name word ms)) (node_step (NodeText-F.Full 0 name word ns))
unfolding node_step
full_node_alike line name word ms ns h = record {
  finds = λ own hidden. hidden_if (not hidden && bytes_eq word own) line (each (λ (i : Item). i.finds own) ms hidden) (each (λ (i : Item). i.finds own) ns hidden)
      (each_found ItemAlike (λ (i : Item). i.finds own) (λ (i : Item). i.finds own) (λ m n i b. i.finds own b) ms ns h hidden);
  sees = λ s t k. subst (λ o. SeenAlike (each (λ (i : Item). i.sees (taken_by (meant word s))) ms s) (each (λ (i : Item). i.sees o) ns t)) (sym (taken_same (meant word s) (meant word t) (meant_alike word s t k)))
      (each_alike ItemAlike (λ (i : Item). i.sees (taken_by (meant word s))) (λ (i : Item). i.sees (taken_by (meant word s))) (λ m n i. i.sees (taken_by (meant word s))) ms ns h s t k);
  does = λ w v k. full_alike line name ms ns h (meant word w.sight) (meant word v.sight) (meant_alike word w.sight v.sight k.sight) w v k;
}

pub use_node_alike : (line : ℕ) (name : Name) → NodeAlike (node_step (NodeText-F.Use line name)) (node_step (NodeText-F.Use 0 name))
unfolding node_step
use_node_alike line name = record {
  finds = λ own hidden. refl;
  sees = λ s t k. k;
  does = then_alike Equal Equal (meet AnItem) (meet AnItem) (λ _ w. option_map_or pure (used name w.scope.braces) (refuse UseWithoutDef line) w) (λ _ w. option_map_or pure (used name w.scope.braces) (refuse UseWithoutDef 0) w) (meet_alike AnItem AnItem refl)
      (λ _ _ _. use_alike line name);
}

-- ---- statements

pub node_stated : (m n : Node) → NodeAlike m n → StatedAlike (statement_step (Statement-F.Node m)) (statement_step (Statement-F.Node n))
unfolding statement_step
node_stated m n h = record {
  kind = refl;
  finds = h.finds;
  sees = h.sees;
  does = then_alike Equal Equal m.does n.does (λ k. pure (k ∷ [])) (λ k. pure (k ∷ [])) h.does (λ a b e. pure_alike Equal (a ∷ []) (b ∷ []) (ap (λ k. k ∷ []) e));
}

pub route_stated : (route : RouteText) → StatedAlike (statement_step (Statement-F.Statement::Route route)) (statement_step (Statement-F.Statement::Route (unlined_route route)))
unfolding statement_step
route_stated route = record {
  kind = refl;
  finds = λ own hidden. refl;
  sees = λ s t k. k;
  does = then_alike Equal Equal (note_route route) (note_route (unlined_route route)) (λ _. pure []) (λ _. pure []) (route_alike route) (λ _ _ _. pure_alike Equal [] [] refl);
}

pub proto_stated : (p q : Proto) → ProtoAlike p q → StatedAlike (statement_step (Statement-F.Statement::Proto p)) (statement_step (Statement-F.Statement::Proto q))
unfolding statement_step
proto_stated p q h = record {
  kind = refl;
  finds = h.finds;
  sees = h.sees;
  does = then_alike Equal Equal p.does q.does (λ _. pure []) (λ _. pure []) h.does (λ _ _ _. pure_alike Equal [] [] refl);
}
