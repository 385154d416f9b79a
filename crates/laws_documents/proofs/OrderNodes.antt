-- The parts of a text keep the order, where what stands in them does: nodes, statements and prototypes.
use Rattle.std.proofs.Common.{◌≡◌, ℕ, ◌≤◌, List, [], ◌∷◌, ◌++◌, length, option_map, Option, Some, None, Result, Ok, Err, sym, subst, arith}
use Rattle.std.specs.List.{AllByRecursion, cons_option, filter_map}
use Rattle.classic_tree.specs.declared.tree.BodyItem.TheOpen.{NodeText-F, Statement-F}
use Rattle.classic_tree.specs.declared.tree.RawValue.{RawValue}
use Rattle.classic_tree.specs.declared.tree.RouteText.{RouteText}
use Rattle.proto_flat.specs.declared.fault.ExpandFault.{ExpandFault}
use Rattle.proto_flat.specs.declared.fault.ExpandFaultKind.TheVariants.{FieldTwice}
use Rattle.proto_flat.specs.declared.flat.FlatField.{FlatField}
use Rattle.proto_meaning.specs.Limits.{Met, ANode, AnInstance, follow}
use Rattle.proto_meaning.specs.Names.{Name, Field, Filled, Scope, Stands}
use Rattle.proto_meaning.specs.Sight.{Instance, Prototype, Names, Owner, OfType, OfProto, meant, taken_by}
use Rattle.proto_meaning.specs.Flat.{Walk, ◌>>=◌, Node, Item, Proto, Inside, close, close_instance, close_node, fields_of, flat_node, full_node, inside, is_one, meet, node_step, note, note_route, pure, refuse, renamed, statement_step, through, unless_twice}
use Rattle.laws_documents.specs.Order.{AreBelow, AreFieldsBelow, IsRouteBelow, IsValueBelow}
use Rattle.laws_documents.proofs.Lists.{IfSome, all_append, all_push}
use Rattle.laws_documents.proofs.OrderGood.{Any, AreFilledBelow, DoesWell, Ends, IsBelow, IsBracesBelow, IsGoodPrototype, IsGoodWalk, IsStandsBelow, Keeps, KeepsSight, Makes, count, done, ends_if, ends_then, ends_through, raise_routes, raise_scope}
use Rattle.laws_documents.proofs.OrderSteps.{close_does, close_node_does, meet_keeps, note_does, renamed_length, renamed_ordered, route_keeps, use_does}
use Rattle.laws_documents.proofs.OrderParts.{GoodItem, GoodNode, GoodProto, GoodStated, IsInsideBelow}
use Rattle.laws_documents.proofs.Sights.{IsGoodOwner, each_keeps, meant_good}

-- ---- nodes

item_kept : (i : Item) (b : Inside) (w : Walk) → GoodItem i → IsGoodWalk w → IsInsideBelow (count w) b → Ends IsInsideBelow (count w) (i.does b w)
item_kept i b w h g k = h.does b w g k

pub inside_does : (name : Option Name) (owner : Owner) (fields : List Field) (items : List Item) → AllByRecursion GoodItem items → DoesWell IsInsideBelow (inside name owner fields items)
inside_does name owner fields items h w g =
    ends_then Any IsInsideBelow (λ at. through (λ (item : Item). item.does) items (record { at = at; owner = owner; fields = fields; filled = [] })) (count w) (note (length w.scope.braces) opened w)
    (note_does Any (length w.scope.braces) opened w g (record {
      braces = all_push (IsBracesBelow (count w)) w.scope.braces (record { name = name; stands = None }) g.scope.braces tt;
      routes = g.scope.routes;
      ends = g.scope.ends;
      given = g.scope.given;
    }) tt)
    (λ at u j l p. ends_through GoodItem IsInsideBelow (λ (item : Item). item.does) item_kept items (record { at = at; owner = owner; fields = fields; filled = [] }) u h j tt) where
      opened : Scope → Scope
      opened s = record s { braces = s.braces ++ record { name = name; stands = None } ∷ [] }

abbrev field_of : Filled → Option FlatField
field_of f = option_map (λ v. record { line = f.line; number = f.number; value = v }) f.value

one_below : (bound : ℕ) (f : Filled) (v : Option (RawValue ℕ)) (rest : List FlatField) → IfSome (IsValueBelow bound) v → AreFieldsBelow bound rest
    → AreFieldsBelow bound (cons_option (option_map (λ (x : RawValue ℕ). record { line = f.line; number = f.number; value = x }) v) rest)
one_below bound f None rest h k = k
one_below bound f (Some v) rest h k = (h, k)

fields_below : (bound : ℕ) (filled : List Filled) → AreFilledBelow bound filled → AreFieldsBelow bound (filter_map field_of filled)
fields_below bound [] h = tt
fields_below bound (f ∷ fs) h = one_below bound f f.value (filter_map field_of fs) h.0 (fields_below bound fs h.1)

-- ---- instances

made_ends : (name : Option Name) (p : Prototype) (i : Inside) (w : Walk) → IsGoodWalk w → (met : List Met) (r : Result Instance ExpandFault) → Makes (count w) r → Ends IsBelow (count w) (follow met r (λ made.
    close name i.at
    (record { node = made.node; interface = Some p.interface; ends = made.ends })
    (record made.put { nodes = renamed name made.node made.put.nodes })
    (record w { scope = record w.scope { routes = λ all. w.scope.routes all ++ made.routes } })))
made_ends name p i w g met (Ok m) h =
    let nodes = renamed name m.node m.put.nodes in
    let long : length nodes ≡ length m.put.nodes = renamed_length name m.node m.put.nodes in
    let bigger : count w ≤ length nodes = omega (arith, h.grown, long) in
    let scope = raise_scope (count w) (length nodes) bigger w.scope g.scope in
    let what : Stands = record { node = m.node; interface = Some p.interface; ends = m.ends } in
    close_does name i.at what (record m.put { nodes = nodes }) (record w { scope = record w.scope { routes = λ all. w.scope.routes all ++ m.routes } }) (count w) bigger
    (record { nodes = renamed_ordered name m.node m.put.nodes h.put.nodes; helpers = subst (λ n. AreBelow n m.put.helpers) (sym long) h.put.helpers })
    (record {
      braces = scope.braces;
      routes = λ bound l all k.
          let high : length m.put.nodes ≤ bound = omega (arith, l, long) in
          all_append (IsRouteBelow bound) (w.scope.routes all) m.routes (scope.routes bound l all k) (raise_routes (length m.put.nodes) bound high m.routes h.routes);
      ends = scope.ends;
      given = scope.given;
    })
    g.sight (subst (λ n. IsStandsBelow n what) (sym long) (record { node = h.node; ends = h.ends }))
made_ends name p i w g met (Err e) h = tt

close_instance_does : (name : Option Name) (p : Prototype) → IsGoodPrototype p → (i : Inside) (w : Walk) → IsGoodWalk w → IsInsideBelow (count w) i → Ends IsBelow (count w) (close_instance name p i w)
close_instance_does name p h i w g k = made_ends name p i w g (p.instance i.filled w.put).met (p.instance i.filled w.put).comes (h i.filled w.put g.put k)

unless_twice_keeps : (seen : List Name) (fs : List Field) → Keeps (unless_twice seen fs)
unless_twice_keeps seen [] w g = done Any tt w g tt
unless_twice_keeps seen (f ∷ fs) w g = ends_if Any (count w) (is_one f.name seen) (refuse FieldTwice f.line) (unless_twice (f.name ∷ seen) fs) w tt (unless_twice_keeps (f.name ∷ seen) fs w g)

full_does : (line : ℕ) (name : Option Name) (items : List Item) → AllByRecursion GoodItem items → (o : Option Owner) → IfSome (IsGoodOwner IsGoodPrototype) o → DoesWell IsBelow (full_node line name items o)
full_does line name items h None k w g = tt
full_does line name items h (Some (OfType t)) k w g =
    ends_then Any IsBelow (λ _. inside name (OfType t) (fields_of t) items >>= λ i. close_node name i.at (flat_node line name t i)) (count w) (meet ANode w) (meet_keeps ANode w g)
    (λ _ u j l p. ends_then IsInsideBelow IsBelow (λ i. close_node name i.at (flat_node line name t i)) (count u) (inside name (OfType t) (fields_of t) items u) (inside_does name (OfType t) (fields_of t) items h u j)
    (λ i v m n q. close_node_does name i.at (flat_node line name t i) v m (fields_below (count v) i.filled q)))
full_does line name items h (Some (OfProto p)) k w g =
    ends_then Any IsBelow (λ _. unless_twice [] p.interface >>= λ _. inside name (OfProto p) p.interface items >>= close_instance name p) (count w) (meet AnInstance w) (meet_keeps AnInstance w g)
    (λ _ u j l q. ends_then Any IsBelow (λ _. inside name (OfProto p) p.interface items >>= close_instance name p) (count u) (unless_twice [] p.interface u) (unless_twice_keeps [] p.interface u j)
    (λ _ v m n r. ends_then IsInsideBelow IsBelow (close_instance name p) (count v) (inside name (OfProto p) p.interface items v) (inside_does name (OfProto p) p.interface items h v m)
    (λ i x a b c. close_instance_does name p k i x a c)))

items_see : (o : Option Names) (items : List Item) → AllByRecursion GoodItem items → AllByRecursion (λ (i : Item). KeepsSight (i.sees o)) items
items_see o [] h = tt
items_see o (i ∷ is) h = (h.0.sees o, items_see o is h.1)

pub full_good : (line : ℕ) (name : Option Name) (word : Name) (items : List Item) → AllByRecursion GoodItem items → GoodNode (node_step (NodeText-F.Full line name word items))
unfolding node_step
full_good line name word items h = record {
  sees = λ s g. each_keeps IsGoodPrototype (λ (i : Item). i.sees (taken_by (meant word s))) items (items_see (taken_by (meant word s)) items h) s g;
  does = λ w g. full_does line name items h (meant word w.sight) (meant_good IsGoodPrototype word w.sight g.sight) w g;
}

pub use_good : (line : ℕ) (name : Name) → GoodNode (node_step (NodeText-F.Use line name))
unfolding node_step
use_good line name = record { sees = λ s g. g; does = λ w g. use_does line name w g }

-- ---- statements

pub node_stated : (n : Node) → GoodNode n → GoodStated (statement_step (Statement-F.Node n))
unfolding statement_step
node_stated n h = record {
  sees = h.sees;
  does = λ w g. ends_then IsBelow AreBelow (λ k. pure (k ∷ [])) (count w) (n.does w) (h.does w g) (λ k v i l p. done AreBelow (k ∷ []) v i (p, tt));
}

pub route_stated : (route : RouteText) → GoodStated (statement_step (Statement-F.Statement::Route route))
unfolding statement_step
route_stated route = record {
  sees = λ s g. g;
  does = λ w g. ends_then Any AreBelow (λ _. pure []) (count w) (note_route route w) (route_keeps route w g) (λ _ v i l p. done AreBelow [] v i tt);
}

pub proto_stated : (p : Proto) → GoodProto p → GoodStated (statement_step (Statement-F.Statement::Proto p))
unfolding statement_step
proto_stated p h = record {
  sees = h.sees;
  does = λ w g. ends_then Any AreBelow (λ _. pure []) (count w) (p.does w) (h.does w g) (λ _ v i l q. done AreBelow [] v i tt);
}
