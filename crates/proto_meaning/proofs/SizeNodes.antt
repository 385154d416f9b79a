-- Nodes, instances and statements do alike from walks that differ in numbers alone.
use Rattle.std.proofs.Common.{◌≡◌, ℕ, Bool, true, false, if◌then◌else◌, List, [], ◌∷◌, ◌++◌, length, Option, Some, None, option_map, Result, Ok, Err, bytes_eq, slice_set, refl, ap, sym, ◌∙◌, subst}
use Rattle.std.specs.Prelude.{is_some}
use Rattle.std.specs.List.{AllByRecursion, fold}
use Rattle.std.specs.Option.{option_map_or, option_or}
use Rattle.std.proofs.lemmas.List.{length-map, map-append, map-set}
use Rattle.x3d_values.specs.Names.{node_type_named}
use Rattle.x3d_values.specs.declared.node_type.NodeType.{NodeType}
use Rattle.classic_tree.specs.declared.tree.BodyItem.TheOpen.{NodeText-F, Statement-F}
use Rattle.classic_tree.specs.declared.tree.RouteText.{RouteText}
use Rattle.proto_flat.specs.declared.fault.ExpandFault.{ExpandFault}
use Rattle.proto_flat.specs.declared.fault.ExpandFaultKind.TheVariants.{UnknownNode, FieldTwice, UseWithoutDef}
use Rattle.proto_meaning.specs.Limits.{Met, Outcome, ANode, AnInstance, AnItem, follow}
use Rattle.proto_meaning.specs.Names.{Name, Field, Stands, Braces, Scope, has_name, used}
use Rattle.proto_meaning.specs.Sight.{Put, Instance, Prototype, Sight, Owner, OfType, OfProto, declared, meant, taken_by}
use Rattle.proto_meaning.specs.Flat.{Walk, Does, ◌>>=◌, Node, Item, Proto, Inside, close, close_instance, close_node, fields_of, flat_node, full_node, inside, is_one, meet, node_step, note, note_route, pure, refuse, renamed, statement_step, through, unless_twice}
use Rattle.proto_meaning.specs.Sizes.{Alike, AreSized, EndAlike, IsSized, mark, marks}
use Rattle.proto_meaning.proofs.SizeWalks.{Any, AsMany, DoAlike, GoAlike, FoundSized, InsideAlike, SeesSized, each_of_both, each_sized, if_alike, meet_alike, pure_alike, refuse_alike, then_alike, through_alike}
use Rattle.proto_meaning.proofs.SizeParts.{ItemSized, NodeSized, ProtoSized, StatedSized, route_alike}

-- ---- names

abbrev next_used : Name → Option ℕ → Braces → Option ℕ
next_used name before b = if has_name name b then option_or (option_map (λ (s : Stands). s.node) b.stands) before else before

abbrev is_of_name : Name → Option Name → Bool
is_of_name name o = option_map_or (bytes_eq name) o false

-- whether there is one
abbrev next_found : Name → Bool → Option Name × Bool → Bool
next_found name before m = if is_of_name name m.0 then (if m.1 then true else before) else before

found_or : (s : Option Stands) (before : Option ℕ) → is_some (option_or (option_map (λ (s : Stands). s.node) s) before) ≡ (if is_some s then true else is_some before)
found_or None before = refl
found_or (Some s) before = refl

found_if : (b : Bool) (s : Option Stands) (before : Option ℕ) → is_some (if b then option_or (option_map (λ (s : Stands). s.node) s) before else before) ≡ (if b then (if is_some s then true else is_some before) else is_some before)
found_if true s before = found_or s before
found_if false s before = refl

used_found : (name : Name) (bs : List Braces) (before : Option ℕ) → is_some (fold (next_used name) before bs) ≡ fold (next_found name) (is_some before) (marks bs)
used_found name [] before = refl
used_found name (b ∷ bs) before =
    used_found name bs (next_used name before b)
    ∙ ap (λ x. fold (next_found name) x (marks bs)) (found_if (has_name name b) b.stands before)

abbrev Unless : Bool → Type 0
Unless true = ⊥
Unless false = Unit {0}

use_by : (line : ℕ) (o p : Option ℕ) → is_some p ≡ is_some o → DoAlike (Any {A = ℕ}) (option_map_or pure o (refuse UseWithoutDef line)) (option_map_or pure p (refuse UseWithoutDef line))
use_by line None None e w v k = record { met = refl; goes = refl }
use_by line (Some n) (Some m) e w v k = record { met = refl; goes = (tt, k) }
use_by line None (Some m) e w v k = absurd (subst Unless (sym e) tt)
use_by line (Some n) None e w v k = absurd (subst Unless e tt)

pub use_sized : (line : ℕ) (name : Name) → NodeSized (node_step (NodeText-F.Use line name))
unfolding node_step
use_sized line name = record {
  sees = λ s k. k;
  does = then_alike Any Any (meet AnItem) (meet AnItem) (λ _ w. option_map_or pure (used name w.scope.braces) (refuse UseWithoutDef line) w) (λ _ w. option_map_or pure (used name w.scope.braces) (refuse UseWithoutDef line) w) (meet_alike AnItem AnItem refl)
      (λ _ _ _ w v k. use_by line (used name w.scope.braces) (used name v.scope.braces)
      (used_found name v.scope.braces None ∙ ap (fold (next_found name) false) k.braces ∙ sym (used_found name w.scope.braces None)) w v k);
}

-- ---- between braces

abbrev pub opened : Option Name → Scope → Scope
opened name s = record s { braces = s.braces ++ record { name = name; stands = None } ∷ [] }

marks_more : (bs cs : List Braces) (b c : Braces) → marks cs ≡ marks bs → mark c ≡ mark b → marks (cs ++ c ∷ []) ≡ marks (bs ++ b ∷ [])
marks_more bs cs b c e f = map-append mark cs (c ∷ []) ∙ ap (λ ms. ms ++ mark c ∷ []) e ∙ ap (λ m. marks bs ++ m ∷ []) f ∙ sym (map-append mark bs (b ∷ []))

as_many : (bs cs : List Braces) → marks cs ≡ marks bs → length cs ≡ length bs
as_many bs cs e = sym (length-map cs mark) ∙ ap (λ (ms : List (Option Name × Bool)). length ms) e ∙ length-map bs mark

abbrev Same : {A : Type 0} → A → A → Type 0
Same a b = b ≡ a

opened_alike : (name : Option Name) → DoAlike (Same {A = ℕ}) (λ w. note (length w.scope.braces) (opened name) w) (λ w. note (length w.scope.braces) (opened name) w)
opened_alike name w v k = record {
  met = refl;
  goes = (
    as_many w.scope.braces v.scope.braces k.braces,
    record {
      sight = k.sight;
      sized = k.sized;
      braces = marks_more w.scope.braces v.scope.braces (record { name = name; stands = None }) (record { name = name; stands = None }) k.braces refl;
      interface = k.interface;
      given = k.given;
    },
  );
}

pub item_alike : (m : Item) → ItemSized m → (i j : Inside) → InsideAlike i j → DoAlike InsideAlike (m.does i) (m.does j)
item_alike m h i j k = subst (λ (x : Inside). DoAlike InsideAlike (m.does i) (m.does x)) (sym k.is) (h.does i k.filled k.same)

pub items_alike : (ms : List Item) → AllByRecursion ItemSized ms → AllByRecursion (λ (m : Item). (i j : Inside) → InsideAlike i j → DoAlike InsideAlike (m.does i) (m.does j)) ms
items_alike [] h = tt
items_alike (m ∷ ms) h = (item_alike m h.0, items_alike ms h.1)

abbrev first : ℕ → Owner → List Field → Inside
first at owner fields = record { at = at; owner = owner; fields = fields; filled = [] }

first_alike : (owner : Owner) (fields : List Field) (a b : ℕ) → b ≡ a → InsideAlike (first a owner fields) (first b owner fields)
first_alike owner fields a b e = record { filled = []; same = refl; is = ap (λ at. first at owner fields) e }

inside_alike : (name : Option Name) (owner : Owner) (fields : List Field) (ms : List Item) → AllByRecursion ItemSized ms → DoAlike InsideAlike (inside name owner fields ms) (inside name owner fields ms)
inside_alike name owner fields ms h =
    then_alike Same InsideAlike (λ w. note (length w.scope.braces) (opened name) w) (λ w. note (length w.scope.braces) (opened name) w)
    (λ at. through (λ (i : Item). i.does) ms (first at owner fields)) (λ at. through (λ (i : Item). i.does) ms (first at owner fields)) (opened_alike name)
    (λ a b e. through_alike InsideAlike (λ (i : Item). i.does) ms (items_alike ms h) (first a owner fields) (first b owner fields) (first_alike owner fields a b e))

-- ---- braces that close

pub close_alike : (name : Option Name) (at : ℕ) (what new : Stands) (p q : Put) (w v : Walk) → Alike w v → GoAlike (Any {A = ℕ}) (close name at what p w) (close name at new q v)
close_alike name at what new p q w v k = record {
  met = refl;
  goes = (
    tt,
    record {
      sight = k.sight;
      sized = k.sized;
      braces =
          map-set mark v.scope.braces at (record { name = name; stands = Some new })
          ∙ ap (λ ms. slice_set ms at (name, true)) k.braces
          ∙ sym (map-set mark w.scope.braces at (record { name = name; stands = Some what }));
      interface = k.interface;
      given = k.given;
    },
  );
}

abbrev pub node_of : ℕ → Option Name → NodeType → Inside → Does ℕ
node_of line name t i = close_node name i.at (flat_node line name t i)

pub closed_alike : (line : ℕ) (name : Option Name) (t : NodeType) (i j : Inside) → InsideAlike i j → DoAlike (Any {A = ℕ}) (node_of line name t i) (node_of line name t j)
closed_alike line name t i j h w v k =
    subst (λ (x : Inside). GoAlike Any (node_of line name t i w) (node_of line name t x v)) (sym h.is)
    (close_alike name i.at _ _ _ _ w v k)

-- ---- instances

abbrev pub finish : Option Name → ℕ → List Field → Walk → Instance → Outcome (ℕ × Walk)
finish name at interface w made =
    close name at (record { node = made.node; interface = Some interface; ends = made.ends }) (record made.put { nodes = renamed name made.node made.put.nodes })
    (record w { scope = record w.scope { routes = λ all. w.scope.routes all ++ made.routes } })

routes_added : (a b : Instance) (w v : Walk) → Alike w v → Alike (record w { scope = record w.scope { routes = λ all. w.scope.routes all ++ a.routes } }) (record v { scope = record v.scope { routes = λ all. v.scope.routes all ++ b.routes } })
routes_added a b w v k = record { sight = k.sight; sized = k.sized; braces = k.braces; interface = k.interface; given = k.given }

made_alike : (name : Option Name) (at : ℕ) (interface : List Field) (w v : Walk) → Alike w v → (m n : List Met) (r q : Result Instance ExpandFault) → n ≡ m → EndAlike r q
    → GoAlike (Any {A = ℕ}) (follow m r (finish name at interface w)) (follow n q (finish name at interface v))
made_alike name at interface w v k m n (Ok a) (Ok b) e h =
    let g = close_alike name at (record { node = a.node; interface = Some interface; ends = a.ends }) (record { node = b.node; interface = Some interface; ends = b.ends })
    (record a.put { nodes = renamed name a.node a.put.nodes }) (record b.put { nodes = renamed name b.node b.put.nodes })
    (record w { scope = record w.scope { routes = λ all. w.scope.routes all ++ a.routes } }) (record v { scope = record v.scope { routes = λ all. v.scope.routes all ++ b.routes } }) (routes_added a b w v k) in
    record { met = ap (λ x. x ++ []) e; goes = g.goes }
made_alike name at interface w v k m n (Err x) (Err y) e h = record { met = e; goes = h }
made_alike name at interface w v k m n (Ok a) (Err y) e h = absurd h
made_alike name at interface w v k m n (Err x) (Ok b) e h = absurd h

pub instance_alike : (name : Option Name) (p : Prototype) → IsSized p → (i j : Inside) → InsideAlike i j → DoAlike (Any {A = ℕ}) (close_instance name p i) (close_instance name p j)
instance_alike name p h i j g w v k =
    let c = h i.filled g.filled w.put v.put g.same in
    subst (λ (x : Inside). GoAlike Any (close_instance name p i w) (close_instance name p x v)) (sym g.is)
    (made_alike name i.at p.interface w v k (p.instance i.filled w.put).met (p.instance g.filled v.put).met (p.instance i.filled w.put).comes (p.instance g.filled v.put).comes c.met c.ends)

pub twice_alike : (seen : List Name) (fs : List Field) → DoAlike (Any {A = Unit {0}}) (unless_twice seen fs) (unless_twice seen fs)
twice_alike seen [] = pure_alike Any tt tt tt
twice_alike seen (f ∷ fs) = if_alike Any (is_one f.name seen) (refuse FieldTwice f.line) (unless_twice (f.name ∷ seen) fs) (refuse FieldTwice f.line) (unless_twice (f.name ∷ seen) fs) (refuse_alike Any FieldTwice f.line) (twice_alike (f.name ∷ seen) fs)

-- ---- a pair of braces

abbrev pub OwnerSized : Option Owner → Type 0
OwnerSized (Some (OfProto p)) = IsSized p
OwnerSized _ = Unit {0}

owner_sized : (t : Option NodeType) (o : Option Prototype) → FoundSized o → OwnerSized (option_or (option_map OfType t) (option_map OfProto o))
owner_sized (Some t) o h = tt
owner_sized None None h = tt
owner_sized None (Some p) h = h

pub meant_sized : (word : Name) (s : Sight) → AreSized s → OwnerSized (meant word s)
meant_sized word s h = owner_sized (node_type_named word) (declared word (s.here ++ s.outside)) (each_of_both s.here s.outside h.here h.outside word)

pub full_alike : (line : ℕ) (name : Option Name) (ms : List Item) → AllByRecursion ItemSized ms → (o : Option Owner) → OwnerSized o → DoAlike (Any {A = ℕ}) (full_node line name ms o) (full_node line name ms o)
full_alike line name ms h None k = refuse_alike Any UnknownNode line
full_alike line name ms h (Some (OfType t)) k =
    then_alike Any Any (meet ANode) (meet ANode) (λ _. inside name (OfType t) (fields_of t) ms >>= node_of line name t) (λ _. inside name (OfType t) (fields_of t) ms >>= node_of line name t) (meet_alike ANode ANode refl)
    (λ _ _ _. then_alike InsideAlike Any (inside name (OfType t) (fields_of t) ms) (inside name (OfType t) (fields_of t) ms) (node_of line name t) (node_of line name t)
    (inside_alike name (OfType t) (fields_of t) ms h) (closed_alike line name t))
full_alike line name ms h (Some (OfProto p)) k =
    then_alike Any Any (meet AnInstance) (meet AnInstance) (λ _. unless_twice [] p.interface >>= λ _. inside name (OfProto p) p.interface ms >>= close_instance name p) (λ _. unless_twice [] p.interface >>= λ _. inside name (OfProto p) p.interface ms >>= close_instance name p) (meet_alike AnInstance AnInstance refl)
    (λ _ _ _. then_alike Any Any (unless_twice [] p.interface) (unless_twice [] p.interface) (λ _. inside name (OfProto p) p.interface ms >>= close_instance name p) (λ _. inside name (OfProto p) p.interface ms >>= close_instance name p) (twice_alike [] p.interface)
    (λ _ _ _. then_alike InsideAlike Any (inside name (OfProto p) p.interface ms) (inside name (OfProto p) p.interface ms) (close_instance name p) (close_instance name p)
    (inside_alike name (OfProto p) p.interface ms h) (instance_alike name p k)))

all_see : (o : Option (Name → Bool)) (ms : List Item) → AllByRecursion ItemSized ms → AllByRecursion (λ (m : Item). SeesSized (m.sees o)) ms
all_see o [] h = tt
all_see o (m ∷ ms) h = (h.0.sees o, all_see o ms h.1)

pub full_sized : (line : ℕ) (name : Option Name) (word : Name) (ms : List Item) → AllByRecursion ItemSized ms → NodeSized (node_step (NodeText-F.Full line name word ms))
unfolding node_step
full_sized line name word ms h = record {
  sees = λ s k. each_sized (λ (m : Item). m.sees (taken_by (meant word s))) ms (all_see (taken_by (meant word s)) ms h) s k;
  does = λ w v k. subst (λ s. GoAlike Any (full_node line name ms (meant word w.sight) w) (full_node line name ms (meant word s) v)) (sym k.sight)
      (full_alike line name ms h (meant word w.sight) (meant_sized word w.sight k.sized) w v k);
}

-- ---- statements

pub node_stated : (n : Node) → NodeSized n → StatedSized (statement_step (Statement-F.Node n))
unfolding statement_step
node_stated n h = record {
  sees = h.sees;
  does = then_alike Any AsMany n.does n.does (λ k. pure (k ∷ [])) (λ k. pure (k ∷ [])) h.does (λ a b _. pure_alike AsMany (a ∷ []) (b ∷ []) refl);
}

pub route_stated : (route : RouteText) → StatedSized (statement_step (Statement-F.Statement::Route route))
unfolding statement_step
route_stated route = record {
  sees = λ s k. k;
  does = then_alike Any AsMany (note_route route) (note_route route) (λ _. pure []) (λ _. pure []) (route_alike route) (λ _ _ _. pure_alike AsMany [] [] refl);
}

pub proto_stated : (p : Proto) → ProtoSized p → StatedSized (statement_step (Statement-F.Statement::Proto p))
unfolding statement_step
proto_stated p h = record {
  sees = h.sees;
  does = then_alike Any AsMany p.does p.does (λ _. pure []) (λ _. pure []) h.does (λ _ _ _. pure_alike AsMany [] [] refl);
}
