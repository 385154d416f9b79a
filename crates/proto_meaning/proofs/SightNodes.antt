-- The law of sight of nodes, statements and prototypes: what is in sight behind one is what its text
-- declares.
use Rattle.std.proofs.Common.{◌≡◌, ℕ, Bool, true, false, List, [], ◌∷◌, ◌++◌, Option, Some, None, Result, Ok, Err, refl, subst}
use Rattle.std.specs.Prelude.{if◌then◌else◌}
use Rattle.std.specs.List.{AllByRecursion}
use Rattle.std.specs.Option.{option_map_or}
use Rattle.classic_tree.specs.declared.tree.Declaration.{Declaration}
use Rattle.proto_flat.specs.declared.fault.ExpandFault.{ExpandFault}
use Rattle.std.specs.Prelude.{length, is_some}
use Rattle.std.specs.List.{list_any}
use Rattle.x3d_values.specs.Names.{node_type_named}
use Rattle.classic_tree.specs.declared.tree.BodyItem.TheOpen.{NodeText-F, Statement-F, ProtoText-F}
use Rattle.classic_tree.specs.declared.tree.RouteText.{RouteText}
use Rattle.proto_flat.specs.Fault.{fault}
use Rattle.proto_meaning.specs.Limits.{Met, ANode, AnInstance, follow}
use Rattle.proto_meaning.specs.Sight.{Sight, Look, and_see, each, no_names, Owner, OfType, OfProto, taken_by, Names, meant, declared, Instance, Prototype}
use Rattle.std.specs.Prelude.{◌||◌}
use Rattle.proto_meaning.specs.Names.{Name, Field, used}
use Rattle.proto_flat.specs.declared.fault.ExpandFaultKind.TheVariants.{FieldTwice, UseWithoutDef, EmptyBody, ProtoTwice}
use Rattle.proto_meaning.specs.Flat.{is_one, Walk, ◌>>=◌, pure, refuse, note, through, Node, Item, Inside, meet, Stated, Proto, fields_of, inside, unless_twice, close, close_node, flat_node, close_instance, renamed, full_node, declare_body, body_sees, body_finds, declare, node_step, statement_step, proto_step}
use Rattle.proto_meaning.proofs.SightLaw.{Seen, bare, bared, Free, After, Follows, then_follows, still, then_still, still_then, each_free, Any, GoodNode, see_follows, if_follows, Owned, GoodItem, GoodProto, GoodStated}

-- ---- nodes

abbrev items_see : Option Names → List Item → Look
items_see o items = each (λ (i : Item). i.sees o) items

all_items_free : (o : Option Names) (items : List Item) → AllByRecursion GoodItem items → AllByRecursion (λ (i : Item). Free (i.sees o)) items
all_items_free o [] h = tt
all_items_free o (i ∷ is) h = (h.0.free o, all_items_free o is h.1)

items_free : (o : Option Names) (items : List Item) → AllByRecursion GoodItem items → Free (items_see o items)
items_free o items h = each_free (λ (i : Item). i.sees o) items (all_items_free o items h)

items_follow : (items : List Item) (owner : Owner) (i : Inside) → i.owner ≡ owner → AllByRecursion GoodItem items → Follows (Owned owner) (through (λ (item : Item). item.does) items i) (items_see (taken_by (Some owner)) items)
items_follow [] owner i e h w = (e, refl)
items_follow (x ∷ xs) owner i e h w = then_follows (Owned owner) (Owned owner) (x.does i) (through (λ (item : Item). item.does) xs) (x.sees (taken_by (Some owner))) (items_see (taken_by (Some owner)) xs) (items_free (taken_by (Some owner)) xs h.1)
    (subst (λ o. Follows (Owned o) (x.does i) (x.sees (taken_by (Some o)))) e (h.0.follows i)) (λ j k. items_follow xs owner j k h.1) w

inside_follows : (name : Option Name) (owner : Owner) (fields : List Field) (items : List Item) → AllByRecursion GoodItem items → Follows (Owned owner) (inside name owner fields items) (items_see (taken_by (Some owner)) items)
inside_follows name owner fields items h = still_then Any (Owned owner) (λ w. note (length w.scope.braces) (λ s. record s { braces = s.braces ++ record { name = name; stands = None } ∷ [] }) w)
    (λ at. through (λ (item : Item). item.does) items (record { at = at; owner = owner; fields = fields; filled = [] })) (items_see (taken_by (Some owner)) items) (items_free (taken_by (Some owner)) items h) (λ w. (tt, refl))
    (λ at _. items_follow items owner (record { at = at; owner = owner; fields = fields; filled = [] }) refl h)

twice_follows : (seen : List Name) (fs : List Field) → Follows Any (unless_twice seen fs) still
twice_follows seen [] w = (tt, refl)
twice_follows seen (f ∷ fs) w = if_follows Any (is_one f.name seen) (refuse FieldTwice f.line) (unless_twice (f.name ∷ seen) fs) still (λ v. tt) (twice_follows (f.name ∷ seen) fs) w

made_after : (w : Walk) (met : List Met) (c : Result Instance ExpandFault) (name : Option Name) (p : Prototype) (i : Inside) → After Any (follow met c (λ made. close name i.at
    (record { node = made.node; interface = Some p.interface; ends = made.ends })
    (record made.put { nodes = renamed name made.node made.put.nodes })
    (record w { scope = record w.scope { routes = λ all. w.scope.routes all ++ made.routes } }))).comes (Ok w.sight)
made_after w met (Ok made) name p i = (tt, refl)
made_after w met (Err e) name p i = tt

full_follows : (line : ℕ) (name : Option Name) (items : List Item) (o : Option Owner) → AllByRecursion GoodItem items → Follows Any (full_node line name items o) (items_see (taken_by o) items)
full_follows line name items None h w = tt
full_follows line name items (Some (OfType t)) h w = still_then Any Any (meet ANode) (λ _. inside name (OfType t) (fields_of t) items >>= λ i. close_node name i.at (flat_node line name t i)) (items_see (taken_by (Some (OfType t))) items) (items_free (taken_by (Some (OfType t))) items h) (λ v. (tt, refl))
    (λ _ _. then_still (Owned (OfType t)) Any (inside name (OfType t) (fields_of t) items) (λ i. close_node name i.at (flat_node line name t i)) (items_see (taken_by (Some (OfType t))) items) (inside_follows name (OfType t) (fields_of t) items h) (λ i _ v. (tt, refl))) w
full_follows line name items (Some (OfProto p)) h w = still_then Any Any (meet AnInstance) (λ _. unless_twice [] p.interface >>= λ _. inside name (OfProto p) p.interface items >>= close_instance name p) (items_see (taken_by (Some (OfProto p))) items) (items_free (taken_by (Some (OfProto p))) items h) (λ v. (tt, refl))
    (λ _ _. still_then Any Any (unless_twice [] p.interface) (λ _. inside name (OfProto p) p.interface items >>= close_instance name p) (items_see (taken_by (Some (OfProto p))) items) (items_free (taken_by (Some (OfProto p))) items h) (twice_follows [] p.interface)
    (λ _ _. then_still (Owned (OfProto p)) Any (inside name (OfProto p) p.interface items) (close_instance name p) (items_see (taken_by (Some (OfProto p))) items) (inside_follows name (OfProto p) p.interface items h)
    (λ i _ v. made_after v (p.instance i.filled v.put).met (p.instance i.filled v.put).comes name p i))) w

used_after : (line : ℕ) (o : Option ℕ) (w : Walk) → After Any (option_map_or pure o (refuse UseWithoutDef line) w).comes (Ok w.sight)
used_after line None w = tt
used_after line (Some n) w = (tt, refl)

pub use_good : (line : ℕ) (name : Name) → GoodNode (node_step (NodeText-F.Use line name))
unfolding node_step
use_good line name = record { free = λ s. refl; follows = λ w. used_after line (used name w.scope.braces) w }

pub full_good : (line : ℕ) (name : Option Name) (word : Name) (items : List Item) → AllByRecursion GoodItem items → GoodNode (node_step (NodeText-F.Full line name word items))
unfolding node_step
full_good line name word items h =
    record { free = λ s. items_free (taken_by (meant word s)) items h s; follows = λ w. full_follows line name items (meant word w.sight) h w }

-- ---- statements and prototypes

pub node_stated : (n : Node) → GoodNode n → GoodStated (statement_step (Statement-F.Node n))
unfolding statement_step
node_stated n h = record { free = h.free; follows = then_still Any Any n.does (λ k. pure (k ∷ [])) n.sees h.follows (λ k _ w. (tt, refl)) }

pub route_stated : (r : RouteText) → GoodStated (statement_step (Statement-F.Statement::Route r))
unfolding statement_step
route_stated r = record { free = λ s. refl; follows = λ w. (tt, refl) }

pub proto_stated : (p : Proto) → GoodProto p → GoodStated (statement_step (Statement-F.Statement::Proto p))
unfolding statement_step
proto_stated p h = record { free = h.free; follows = then_still Any Any p.does (λ _. pure []) p.sees h.follows (λ _ _ w. (tt, refl)) }

if_bared : (c : Bool) (x y u v : Seen) → bared x ≡ bared u → bared y ≡ bared v → bared (if c then x else y) ≡ bared (if c then u else v)
if_bared true x y u v h k = h
if_bared false x y u v h k = k

declared_is : (r : Seen) (f : Sight → List Prototype) (s : Sight) → bared (and_see r (λ t. Ok (record s { here = f t }))) ≡ bared (and_see r (λ t. Ok (record (bare s) { here = f t })))
declared_is (Ok t) f s = refl
declared_is (Err e) f s = refl

body_is : (line : ℕ) (name : Name) (interface : List (Declaration Node)) (body : List Stated) (r : Result Bool ℕ) (s : Sight) → bared (declare_body line name interface body r s) ≡ bared (declare_body line name interface body r (bare s))
body_is line name interface body (Err itself) s = refl
body_is line name interface body (Ok hidden) s = if_bared (list_any (λ (x : Stated). x.0) body) _ (Err (fault EmptyBody line)) _ (Err (fault EmptyBody line))
    (declared_is (body_sees line name interface body (record { here = []; outside = s.here ++ s.outside; taken = no_names })) _ s) refl

pub prototype_good : (p : ProtoText-F Item Node Stated Proto) → GoodProto (proto_step p)
unfolding proto_step
prototype_good p = record {
  free = λ s. if_bared (is_some (node_type_named p.name) || is_some (declared p.name s.here)) (Err (fault ProtoTwice p.line)) _ (Err (fault ProtoTwice p.line)) _ refl
      (body_is p.line p.name p.interface p.body (body_finds p.line p.name p.interface p.body p.name false) s);
  follows = see_follows (declare p.line p.name p.interface p.body);
}
