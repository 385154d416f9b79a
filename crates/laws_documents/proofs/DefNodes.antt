-- The parts of a text with other DEF names: nodes, instances and statements.
use Rattle.std.proofs.Common.{◌≡◌, ℕ, Bool, true, false, if◌then◌else◌, List, [], ◌∷◌, ◌++◌, length, Option, Some, None, option_map, Result, Ok, Err, bytes_eq, refl, ap, sym, ◌∙◌, subst}
use Rattle.std.specs.Prelude.{◌&&◌, not}
use Rattle.std.specs.Option.{option_map_or, option_or}
use Rattle.std.proofs.lemmas.List.{length-map, map-append}
use Rattle.x3d_values.specs.Names.{node_type_named}
use Rattle.x3d_values.specs.declared.node_type.NodeType.{NodeType}
use Rattle.classic_tree.specs.declared.tree.BodyItem.TheOpen.{NodeText-F, Statement-F}
use Rattle.classic_tree.specs.declared.tree.RouteText.{RouteText}
use Rattle.proto_flat.specs.declared.fault.ExpandFault.{ExpandFault}
use Rattle.proto_flat.specs.declared.fault.ExpandFaultKind.TheVariants.{UnknownNode, UseWithoutDef, FieldTwice}
use Rattle.proto_meaning.specs.Limits.{Met, ANode, AnInstance, AnItem, Outcome, follow}
use Rattle.proto_meaning.specs.Names.{Name, Field, Scope, Stands, Braces, used}
use Rattle.proto_meaning.specs.Sight.{Instance, Prototype, Sight, Names, Owner, OfType, OfProto, declared, each, meant, taken_by}
use Rattle.proto_meaning.specs.Flat.{Walk, ◌>>=◌, Node, Item, Proto, Inside, close, close_instance, close_node, fields_of, flat_node, full_node, inside, is_one, meet, node_step, note, note_route, pure, refuse, renamed, statement_step, through, unless_twice}
use Rattle.laws_documents.specs.RenamedDefs.{route_in}
use Rattle.laws_documents.proofs.LineWalks.{Both, Equal, both_append}
use Rattle.laws_documents.proofs.DefWalks.{Alike, Apart, DoesAlike, InsideAlike, InstanceAlike, MadeAlike, OwnerAlike, PrototypeAlike, PrototypesAlike, ScopeAlike, SeenAlike, SightAlike, WalkAlike, each_alike, if_alike, meet_alike, other_braces, owned_by, pure_alike, refuse_alike, then_alike, through_alike}
use Rattle.laws_documents.proofs.DefSteps.{close_alike, close_node_alike, renamed_nameless, route_alike, use_alike}
use Rattle.laws_documents.proofs.DefParts.{ItemAlike, NodeAlike, ProtoAlike, StatedAlike, each_found}

-- ---- the word before braces

abbrev MeantAlike : Option Owner → Option Owner → Type 0
MeantAlike None None = Unit {0}
MeantAlike (Some p) (Some q) = OwnerAlike p q
MeantAlike None (Some q) = ⊥
MeantAlike (Some p) None = ⊥

abbrev pub FoundAlike : Option Prototype → Option Prototype → Type 0
FoundAlike None None = Unit {0}
FoundAlike (Some p) (Some q) = PrototypeAlike p q
FoundAlike None (Some q) = ⊥
FoundAlike (Some p) None = ⊥

found_if : (b : Bool) (p q : Prototype) (o x : Option Prototype) → PrototypeAlike p q → FoundAlike o x → FoundAlike (if b then Some p else o) (if b then Some q else x)
found_if true p q o x h k = h
found_if false p q o x h k = k

pub declared_alike : (word : Name) (ps qs : List Prototype) → PrototypesAlike ps qs → FoundAlike (declared word ps) (declared word qs)
declared_alike word [] [] h = tt
declared_alike word [] (q ∷ qs) h = absurd h
declared_alike word (p ∷ ps) [] h = absurd h
declared_alike word (p ∷ ps) (q ∷ qs) h =
    subst (λ name. FoundAlike (if bytes_eq word p.name then Some p else declared word ps) (if bytes_eq word name then Some q else declared word qs)) (sym h.0.name)
    (found_if (bytes_eq word p.name) p q (declared word ps) (declared word qs) h.0 (declared_alike word ps qs h.1))

owner_alike : (t : Option NodeType) (o x : Option Prototype) → FoundAlike o x → MeantAlike (option_or (option_map OfType t) (option_map OfProto o)) (option_or (option_map OfType t) (option_map OfProto x))
owner_alike (Some t) o x h = refl
owner_alike None None None h = tt
owner_alike None (Some p) (Some q) h = h
owner_alike None None (Some q) h = absurd h
owner_alike None (Some p) None h = absurd h

meant_alike : (word : Name) (s t : Sight) → SightAlike s t → MeantAlike (meant word s) (meant word t)
meant_alike word s t h =
    owner_alike (node_type_named word) (declared word (s.here ++ s.outside)) (declared word (t.here ++ t.outside))
    (declared_alike word (s.here ++ s.outside) (t.here ++ t.outside) (both_append PrototypeAlike s.here s.outside t.here t.outside h.here h.outside))

taken_same : (o x : Option Owner) → MeantAlike o x → taken_by x ≡ taken_by o
taken_same None None h = refl
taken_same (Some (OfType t)) (Some (OfType u)) h = refl
taken_same (Some (OfProto p)) (Some (OfProto q)) h = ap (λ (names : Names). Some names) h.takes
taken_same (Some (OfType t)) (Some (OfProto q)) h = absurd h
taken_same (Some (OfProto p)) (Some (OfType u)) h = absurd h
taken_same None (Some q) h = absurd h
taken_same (Some p) None h = absurd h

-- ---- between braces

abbrev first : ℕ → Owner → List Field → Inside
first at owner fields = record { at = at; owner = owner; fields = fields; filled = [] }

module _ (r : Name → Name) (good : Apart r) where
  abbrev opened : Option Name → Scope → Scope
  opened name s = record s { braces = s.braces ++ record { name = name; stands = None } ∷ [] }

  opened_alike : (name : Option Name) (w v : Walk) → WalkAlike r w v → ScopeAlike r (opened name w.scope) (opened (option_map r name) v.scope)
  opened_alike name w v k = record {
    braces =
        ap (λ bs. bs ++ record { name = option_map r name; stands = None } ∷ []) k.scope.braces
        ∙ sym (map-append (other_braces r) w.scope.braces (record { name = name; stands = None } ∷ []));
    routes = k.scope.routes;
    ends = k.scope.ends;
    interface = k.scope.interface;
    given = k.scope.given;
  }

  does_item : (m n : Item) → ItemAlike r m n → (b c : Inside) → InsideAlike b c → DoesAlike r InsideAlike (m.does b) (n.does c)
  does_item m n h b c i = subst (λ (x : Inside). DoesAlike r InsideAlike (m.does b) (n.does x)) (sym i.is) (h.does b i.owner i.owned)

  inside_alike : (name : Option Name) (p q : Owner) (fs gs : List Field) (ms ns : List Item) → OwnerAlike p q → gs ≡ fs → Both (ItemAlike r) ms ns → DoesAlike r InsideAlike (inside name p fs ms) (inside (option_map r name) q gs ns)
  inside_alike name p q fs gs ms ns own e h =
      then_alike r (Equal {A = ℕ}) InsideAlike (λ w. note (length w.scope.braces) (opened name) w) (λ w. note (length w.scope.braces) (opened (option_map r name)) w)
      (λ at. through (λ (i : Item). i.does) ms (first at p fs)) (λ at. through (λ (i : Item). i.does) ns (first at q gs))
      (λ w v k. record {
        met = refl;
        comes_to = (
          ap (λ (bs : List Braces). length bs) k.scope.braces ∙ length-map w.scope.braces (other_braces r),
          record { put = k.put; sight = k.sight; scope = opened_alike name w v k },
        );
      })
      (λ a b i. through_alike r (ItemAlike r) InsideAlike (λ (i : Item). i.does) (λ (i : Item). i.does) does_item ms ns h (first a p fs) (first b q gs)
      (record { owner = q; owned = own; is = ap (λ at. first at q gs) i ∙ ap (first a q) e }))

  -- ---- instances

  abbrev instance_scope : Instance → Scope → Scope
  instance_scope made s = record s { routes = λ all. s.routes all ++ made.routes }

  abbrev stands_as : List Field → Instance → Stands
  stands_as interface made = record { node = made.node; interface = Some interface; ends = made.ends }

  abbrev finish : Option Name → ℕ → List Field → Walk → Instance → Outcome (ℕ × Walk)
  finish name at interface w made =
      close name at (stands_as interface made) (record made.put { nodes = renamed name made.node made.put.nodes }) (record w { scope = instance_scope made w.scope })

  finish_alike : (name : Option Name) (at : ℕ) (fs gs : List Field) (made new : Instance) (w v : Walk) → gs ≡ fs → InstanceAlike made new → WalkAlike r w v → Alike r (Equal {A = ℕ}) (finish name at fs w made) (finish (option_map r name) at gs v new)
  finish_alike name at fs gs made new w v e i k =
      close_alike r good name at (stands_as fs made) (stands_as gs new) (record made.put { nodes = renamed name made.node made.put.nodes })
      (record new.put { nodes = renamed (option_map r name) new.node new.put.nodes }) (record w { scope = instance_scope made w.scope }) (record v { scope = instance_scope new v.scope })
      (ap (λ interface. stands_as interface new) e
      ∙ ap (λ n. let s : Stands = record { node = n; interface = Some fs; ends = new.ends } in s) i.node
      ∙ ap (λ es. let s : Stands = record { node = made.node; interface = Some fs; ends = es } in s) i.ends)
      (record {
        nodes = renamed_nameless (option_map r name) new.node new.put.nodes ∙ i.put.nodes ∙ sym (renamed_nameless name made.node made.put.nodes);
        helpers = i.put.helpers;
      })
      (record {
        put = k.put;
        sight = k.sight;
        scope = record {
          braces = k.scope.braces;
          routes = λ all. ap (λ rs. rs ++ new.routes) (k.scope.routes all) ∙ ap (λ rs. w.scope.routes all ++ rs) i.routes;
          ends = k.scope.ends;
          interface = k.scope.interface;
          given = k.scope.given;
        };
      })

  made_alike : (name : Option Name) (at : ℕ) (fs gs : List Field) (w v : Walk) → gs ≡ fs → WalkAlike r w v → (met other : List Met) → other ≡ met → (x y : Result Instance ExpandFault) → MadeAlike x y
      → Alike r (Equal {A = ℕ}) (follow met x (finish name at fs w)) (follow other y (finish (option_map r name) at gs v))
  made_alike name at fs gs w v e k met other m (Ok made) (Ok new) i =
      let h = finish_alike name at fs gs made new w v e i k in
      record { met = ap (λ x. x ++ (finish (option_map r name) at gs v new).met) m ∙ ap (λ x. met ++ x) h.met; comes_to = h.comes_to }
  made_alike name at fs gs w v e k met other m (Err x) (Err y) i = record { met = m; comes_to = i }
  made_alike name at fs gs w v e k met other m (Ok made) (Err y) i = absurd i
  made_alike name at fs gs w v e k met other m (Err x) (Ok new) i = absurd i

  close_instance_alike : (name : Option Name) (p q : Prototype) → PrototypeAlike p q → (b c : Inside) → InsideAlike b c → DoesAlike r (Equal {A = ℕ}) (close_instance name p b) (close_instance (option_map r name) q c)
  close_instance_alike name p q h b c i w v k =
      let o = p.instance b.filled w.put in
      let x = q.instance b.filled v.put in
      let both = h.instance b.filled w.put v.put k.put in
      subst (λ (y : Inside). Alike r (Equal {A = ℕ}) (close_instance name p b w) (close_instance (option_map r name) q y v)) (sym i.is)
      (made_alike name b.at p.interface q.interface w v h.interface k o.met x.met both.met o.comes x.comes both.comes_to)

  twice_alike : (seen : List Name) (fs : List Field) → DoesAlike r (Equal {A = Unit {0}}) (unless_twice seen fs) (unless_twice seen fs)
  twice_alike seen [] = pure_alike r Equal tt tt refl
  twice_alike seen (f ∷ fs) = if_alike r Equal (is_one f.name seen) (refuse FieldTwice f.line) (unless_twice (f.name ∷ seen) fs) (refuse FieldTwice f.line) (unless_twice (f.name ∷ seen) fs) (refuse_alike r Equal FieldTwice f.line) (twice_alike (f.name ∷ seen) fs)

  -- ---- a pair of braces

  closed_alike : (line : ℕ) (name : Option Name) (t : NodeType) (b c : Inside) → InsideAlike b c → DoesAlike r (Equal {A = ℕ}) (close_node name b.at (flat_node line name t b)) (close_node (option_map r name) c.at (flat_node line (option_map r name) t c))
  closed_alike line name t b c i =
      subst (λ (x : Inside). DoesAlike r Equal (close_node name b.at (flat_node line name t b)) (close_node (option_map r name) x.at (flat_node line (option_map r name) t x)))
      (sym i.is) (close_node_alike r good name b.at (flat_node line name t b) (flat_node line (option_map r name) t (owned_by i.owner b)) refl)

  full_alike : (line : ℕ) (name : Option Name) (ms ns : List Item) → Both (ItemAlike r) ms ns → (o x : Option Owner) → MeantAlike o x → DoesAlike r (Equal {A = ℕ}) (full_node line name ms o) (full_node line (option_map r name) ns x)
  full_alike line name ms ns h None None k = refuse_alike r Equal UnknownNode line
  full_alike line name ms ns h (Some (OfType t)) (Some (OfType u)) k =
      let new = option_map r name in
      subst (λ (x : NodeType). DoesAlike r Equal (full_node line name ms (Some (OfType t))) (full_node line new ns (Some (OfType x)))) (sym k)
      (then_alike r Equal Equal (meet ANode) (meet ANode) (λ _. inside name (OfType t) (fields_of t) ms >>= λ i. close_node name i.at (flat_node line name t i)) (λ _. inside new (OfType t) (fields_of t) ns >>= λ i. close_node new i.at (flat_node line new t i)) (meet_alike r ANode ANode refl)
      (λ _ _ _. then_alike r InsideAlike Equal (inside name (OfType t) (fields_of t) ms) (inside new (OfType t) (fields_of t) ns) (λ i. close_node name i.at (flat_node line name t i)) (λ i. close_node new i.at (flat_node line new t i))
      (inside_alike name (OfType t) (OfType t) (fields_of t) (fields_of t) ms ns refl refl h) (closed_alike line name t)))
  full_alike line name ms ns h (Some (OfProto p)) (Some (OfProto q)) k =
      let new = option_map r name in
      then_alike r Equal Equal (meet AnInstance) (meet AnInstance) (λ _. unless_twice [] p.interface >>= λ _. inside name (OfProto p) p.interface ms >>= close_instance name p) (λ _. unless_twice [] q.interface >>= λ _. inside new (OfProto q) q.interface ns >>= close_instance new q) (meet_alike r AnInstance AnInstance refl)
      (λ _ _ _. then_alike r Equal Equal (unless_twice [] p.interface) (unless_twice [] q.interface) (λ _. inside name (OfProto p) p.interface ms >>= close_instance name p) (λ _. inside new (OfProto q) q.interface ns >>= close_instance new q)
      (subst (λ fs. DoesAlike r Equal (unless_twice [] p.interface) (unless_twice [] fs)) (sym k.interface) (twice_alike [] p.interface))
      (λ _ _ _. then_alike r InsideAlike Equal (inside name (OfProto p) p.interface ms) (inside new (OfProto q) q.interface ns) (close_instance name p) (close_instance new q)
      (inside_alike name (OfProto p) (OfProto q) p.interface q.interface ms ns k k.interface h) (close_instance_alike name p q k)))
  full_alike line name ms ns h (Some (OfType t)) (Some (OfProto q)) k = absurd k
  full_alike line name ms ns h (Some (OfProto p)) (Some (OfType u)) k = absurd k
  full_alike line name ms ns h None (Some q) k = absurd k
  full_alike line name ms ns h (Some p) None k = absurd k

  pub full_node_alike : (line : ℕ) (name : Option Name) (word : Name) (ms ns : List Item) → Both (ItemAlike r) ms ns → NodeAlike r (node_step (NodeText-F.Full line name word ms)) (node_step (NodeText-F.Full line (option_map r name) word ns))
  unfolding node_step
  full_node_alike line name word ms ns h = record {
    finds = λ own hidden. ap (λ (x : Result Bool ℕ). if not hidden && bytes_eq word own then Err line else x)
        (each_found (ItemAlike r) (λ (i : Item). i.finds own) (λ (i : Item). i.finds own) (λ m n i b. i.finds own b) ms ns h hidden);
    sees = λ s t k. subst (λ o. SeenAlike (each (λ (i : Item). i.sees (taken_by (meant word s))) ms s) (each (λ (i : Item). i.sees o) ns t)) (sym (taken_same (meant word s) (meant word t) (meant_alike word s t k)))
        (each_alike (ItemAlike r) (λ (i : Item). i.sees (taken_by (meant word s))) (λ (i : Item). i.sees (taken_by (meant word s))) (λ m n i. i.sees (taken_by (meant word s))) ms ns h s t k);
    does = λ w v k. full_alike line name ms ns h (meant word w.sight) (meant word v.sight) (meant_alike word w.sight v.sight k.sight) w v k;
  }

  pub use_node_alike : (line : ℕ) (name : Name) → NodeAlike r (node_step (NodeText-F.Use line name)) (node_step (NodeText-F.Use line (r name)))
  unfolding node_step
  use_node_alike line name = record {
    finds = λ own hidden. refl;
    sees = λ s t k. k;
    does = then_alike r Equal Equal (meet AnItem) (meet AnItem) (λ _ w. option_map_or pure (used name w.scope.braces) (refuse UseWithoutDef line) w) (λ _ w. option_map_or pure (used (r name) w.scope.braces) (refuse UseWithoutDef line) w) (meet_alike r AnItem AnItem refl)
        (λ _ _ _. use_alike r good line name);
  }

  -- ---- statements

  pub node_stated : (m n : Node) → NodeAlike r m n → StatedAlike r (statement_step (Statement-F.Node m)) (statement_step (Statement-F.Node n))
  unfolding statement_step
  node_stated m n h = record {
    kind = refl;
    finds = h.finds;
    sees = h.sees;
    does = then_alike r Equal Equal m.does n.does (λ k. pure (k ∷ [])) (λ k. pure (k ∷ [])) h.does (λ a b e. pure_alike r Equal (a ∷ []) (b ∷ []) (ap (λ k. k ∷ []) e));
  }

  pub route_stated : (route : RouteText) → StatedAlike r (statement_step (Statement-F.Statement::Route route)) (statement_step (Statement-F.Statement::Route (route_in r route)))
  unfolding statement_step
  route_stated route = record {
    kind = refl;
    finds = λ own hidden. refl;
    sees = λ s t k. k;
    does = then_alike r Equal Equal (note_route route) (note_route (route_in r route)) (λ _. pure []) (λ _. pure []) (route_alike r good route) (λ _ _ _. pure_alike r Equal [] [] refl);
  }

  pub proto_stated : (p q : Proto) → ProtoAlike r p q → StatedAlike r (statement_step (Statement-F.Statement::Proto p)) (statement_step (Statement-F.Statement::Proto q))
  unfolding statement_step
  proto_stated p q h = record {
    kind = refl;
    finds = h.finds;
    sees = h.sees;
    does = then_alike r Equal Equal p.does q.does (λ _. pure []) (λ _. pure []) h.does (λ _ _ _. pure_alike r Equal [] [] refl);
  }
