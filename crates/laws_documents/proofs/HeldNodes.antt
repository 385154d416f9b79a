-- The parts of a text give nodes what they may hold: nodes, instances and statements.
use Rattle.std.proofs.Common.{◌≡◌, ℕ, ◌+◌, Bool, true, false, List, [], ◌∷◌, ◌++◌, drop, length, length-append, option_map, Option, Some, None, Result, Ok, Err, slice_get, slice_set, zero, suc, ap, sym, ◌∙◌, refl, subst, arith}
use Rattle.std.specs.List.{AllByRecursion, cons_option, filter_map, sum_by}
use Rattle.std.specs.Option.{option_map_or}
use Rattle.std.proofs.Math.Seq.{drop-append_seam}
use Rattle.std.proofs.lemmas.List.{append-nil, length-map}
use Rattle.x3d_values.specs.Tables.{rows}
use Rattle.x3d_values.specs.declared.node_type.NodeType.{NodeType}
use Rattle.classic_tree.specs.declared.tree.BodyItem.TheOpen.{NodeText-F, Statement-F}
use Rattle.classic_tree.specs.declared.tree.RawValue.{RawValue}
use Rattle.classic_tree.specs.declared.tree.RouteText.{RouteText}
use Rattle.proto_flat.specs.declared.fault.ExpandFault.{ExpandFault}
use Rattle.proto_flat.specs.declared.fault.ExpandFaultKind.TheVariants.{FieldTwice, UseWithoutDef}
use Rattle.proto_flat.specs.declared.flat.FlatField.{FlatField}
use Rattle.proto_flat.specs.declared.flat.FlatNode.{FlatNode}
use Rattle.proto_meaning.specs.Limits.{Met, ANode, AnInstance, AnItem, follow, nodes_met}
use Rattle.proto_meaning.specs.Names.{Name, Field, Filled, Scope, used}
use Rattle.proto_meaning.specs.Sight.{Instance, Prototype, Names, Owner, OfType, OfProto, meant, taken_by}
use Rattle.proto_meaning.specs.Flat.{Walk, Does, ◌>>=◌, Node, Item, Proto, Inside, close, close_instance, close_node, fields_of, flat_node, full_node, inside, is_one, meet, node_step, note, note_route, pure, refuse, renamed, statement_step, through, unless_twice}
use Rattle.laws_documents.proofs.Lists.{IfSome, all_push}
use Rattle.laws_documents.specs.PlainLaws.{AreApart}
use Rattle.laws_documents.proofs.HeldGood.{Any, AreFilled, Asked, DoesWell, Ends, FieldsOf, HasFields, IsAmid, IsGoodPrototype, IsGoodWalk, IsHeld, MakesBy, count, done, ends_behind, ends_if, ends_then, ends_then_more, ends_through}
use Rattle.laws_documents.proofs.HeldParts.{GoodItem, GoodNode, GoodProto, GoodStated, Keeps, route_keeps}
use Rattle.laws_documents.proofs.Numbers.{Owns, OwnsBy, is_script}
use Rattle.laws_documents.proofs.OrderSteps.{renamed_length}
use Rattle.laws_documents.proofs.Sights.{IsGoodOwner, each_keeps, meant_good}

abbrev field_of : Filled → Option FlatField
field_of f = option_map (λ v. record { line = f.line; number = f.number; value = v }) f.value

none_owned : (t : NodeType) → Owns t []
none_owned t = by_script (is_script t) where
  by_script : (s : Bool) → OwnsBy s []
  by_script true = tt
  by_script false = refl

module _ (asked : Asked) where
  -- ---- what stands between braces

  item_kept : (owner : Owner) (i : Item) (b : Inside) (w : Walk) → GoodItem asked i → IsGoodWalk asked w → IsAmid asked owner b → Ends asked (IsAmid asked owner) (count asked w) (i.does b w)
  item_kept owner i b w h g k = h.does owner b w g k

  inside_does : (name : Option Name) (owner : Owner) (fields : List Field) (items : List Item) → FieldsOf asked owner fields → AllByRecursion (GoodItem asked) items → DoesWell asked (IsAmid asked owner) (inside name owner fields items)
  inside_does name owner fields items k h w g =
      ends_then asked (Any asked) (IsAmid asked owner) (λ at. through (λ (item : Item). item.does) items (first at)) (count asked w) (note (length w.scope.braces) opened w)
      (done asked (Any asked) (length w.scope.braces) [] (record w { scope = opened w.scope }) (record { put = g.put; given = g.given; sight = g.sight }) tt)
      (λ at u j p. ends_through asked (GoodItem asked) (IsAmid asked owner) (λ (item : Item). item.does) (item_kept owner) items (first at) u h j (record { owned = refl; filled = tt; fields = k })) where
        opened : Scope → Scope
        opened s = record s { braces = s.braces ++ record { name = name; stands = None } ∷ [] }

        first : ℕ → Inside
        first at = record { at = at; owner = owner; fields = fields; filled = [] }

  -- ---- a node that closes

  one_value : (f : Filled) (v : Option (RawValue ℕ)) (rest : List FlatField) → IfSome asked.value v → AllByRecursion (λ (g : FlatField). asked.value g.value) rest
      → AllByRecursion (λ (g : FlatField). asked.value g.value) (cons_option (option_map (λ (x : RawValue ℕ). record { line = f.line; number = f.number; value = x }) v) rest)
  one_value f None rest h k = k
  one_value f (Some v) rest h k = (h, k)

  values_held : (filled : List Filled) → AreFilled asked filled → AllByRecursion (λ (g : FlatField). asked.value g.value) (filter_map field_of filled)
  values_held [] h = tt
  values_held (f ∷ fs) h = one_value f f.value (filter_map field_of fs) h.0 (values_held fs h.1)

  behind_rows : (t : NodeType) (fields : List Field) (k : HasFields asked t fields) → drop (length (rows t)) fields ≡ k.more
  behind_rows t fields k =
      ap (drop (length (rows t))) k.known ∙ ap (λ n. drop n (fields_of t ++ k.more)) (sym (length-map (rows t) _)) ∙ drop-append_seam (fields_of t) k.more

  node_held : (line : ℕ) (name : Option Name) (t : NodeType) (i : Inside) → asked.name name → IsAmid asked (OfType t) i → IsHeld asked (flat_node line name t i)
  node_held line name t i h k =
      let rest = behind_rows t i.fields k.fields in
      record {
        named = h;
        own = subst (Owns t) (sym rest) k.fields.own;
        declared = subst (AllByRecursion asked.field) (sym rest) k.fields.declared;
        apart = subst (AreApart (fields_of t)) (sym rest) k.fields.apart;
        values = values_held i.filled k.filled;
      }

  close_node_does : (name : Option Name) (at : ℕ) (node : FlatNode) (w : Walk) → IsGoodWalk asked w → IsHeld asked node → Ends asked (Any asked {A = ℕ}) (count asked w + 1) (close_node name at node w)
  close_node_does name at node w g h =
      record {
        told = tt;
        good = record { put = all_push (IsHeld asked) w.put.nodes node g.put h; given = g.given; sight = g.sight };
        grown = omega (arith, length-append w.put.nodes (node ∷ []));
      }

  -- ---- instances

  abbrev named_at : Option Name → ℕ → List FlatNode → Option FlatNode → List FlatNode
  named_at name n nodes o = option_map_or (λ (node : FlatNode). slice_set nodes n (record node { name = name })) o nodes

  next_held : (name : Option Name) (n : ℕ) (x : FlatNode) (xs : List FlatNode) (o : Option FlatNode) → IsHeld asked x → AllByRecursion (IsHeld asked) (named_at name n xs o) → AllByRecursion (IsHeld asked) (named_at name (suc n) (x ∷ xs) o)
  next_held name n x xs None h k = (h, k)
  next_held name n x xs (Some node) h k = (h, k)

  named_held : (name : Option Name) (n : ℕ) (nodes : List FlatNode) → asked.name name → AllByRecursion (IsHeld asked) nodes → AllByRecursion (IsHeld asked) (named_at name n nodes (slice_get nodes n))
  named_held name n [] k h = tt
  named_held name zero (x ∷ xs) k h = (record { named = k; own = h.0.own; declared = h.0.declared; apart = h.0.apart; values = h.0.values }, h.1)
  named_held name (suc n) (x ∷ xs) k h = next_held name n x xs (slice_get xs n) h.0 (named_held name n xs k h.1)

  renamed_held : (name : Option Name) (n : ℕ) (nodes : List FlatNode) → asked.name name → AllByRecursion (IsHeld asked) nodes → AllByRecursion (IsHeld asked) (renamed name n nodes)
  renamed_held None n nodes k h = h
  renamed_held (Some name) n nodes k h = named_held (Some name) n nodes k h

  made_ends : (name : Option Name) (p : Prototype) (i : Inside) (w : Walk) → asked.name name → IsGoodWalk asked w → (met : List Met) (r : Result Instance ExpandFault) → MakesBy asked (count asked w) met r → Ends asked (Any asked {A = ℕ}) (count asked w) (follow met r (λ made.
      close name i.at
      (record { node = made.node; interface = Some p.interface; ends = made.ends })
      (record made.put { nodes = renamed name made.node made.put.nodes })
      (record w { scope = record w.scope { routes = λ all. w.scope.routes all ++ made.routes } })))
  made_ends name p i w k g met (Ok made) h =
      let same = ap (sum_by nodes_met) (append-nil met) in
      record {
        told = tt;
        good = record { put = renamed_held name made.node made.put.nodes k h.0; given = g.given; sight = g.sight };
        grown = omega (arith, h.1, same, renamed_length name made.node made.put.nodes);
      }
  made_ends name p i w k g met (Err e) h = tt

  close_instance_does : (name : Option Name) (p : Prototype) → asked.name name → IsGoodPrototype asked p → (i : Inside) → AreFilled asked i.filled → DoesWell asked (Any asked {A = ℕ}) (close_instance name p i)
  close_instance_does name p k h i f w g = made_ends name p i w k g (p.instance i.filled w.put).met (p.instance i.filled w.put).comes (h i.filled w.put g.put f)

  unless_twice_does : (seen : List Name) (fs : List Field) → DoesWell asked (Any asked {A = Unit {0}}) (unless_twice seen fs)
  unless_twice_does seen [] w g = done asked (Any asked) tt [] w g tt
  unless_twice_does seen (f ∷ fs) w g = ends_if asked (Any asked) (count asked w) (is_one f.name seen) (refuse FieldTwice f.line) (unless_twice (f.name ∷ seen) fs) w tt (unless_twice_does (f.name ∷ seen) fs w g)

  -- ---- a pair of braces

  meet_first : {A : Type 0} (P : A → Type 0) (m : Met) (n : ℕ) (w : Walk) (f : Does A) → nodes_met m ≡ n → Ends asked P (count asked w + n) (f w) → Ends asked P (count asked w) ((meet m >>= λ _. f) w)
  meet_first P m n w f e h =
      subst (λ k. Ends asked P k ((meet m >>= λ _. f) w)) (none (count asked w))
      (ends_behind asked P (count asked w) 0 (count asked w + n) (m ∷ []) (f w) (omega (arith, e)) (subst (λ k. Ends asked P k (f w)) (sym (none (count asked w + n))) h)) where
        none : (k : ℕ) → k + 0 ≡ k
        none k = omega arith

  type_fields : (t : NodeType) → HasFields asked t (fields_of t)
  type_fields t = record { more = []; known = sym (append-nil (fields_of t)); own = none_owned t; declared = tt; apart = tt }

  full_does : (line : ℕ) (name : Option Name) (items : List Item) → asked.name name → AllByRecursion (GoodItem asked) items → (o : Option Owner) → IfSome (IsGoodOwner (IsGoodPrototype asked)) o → DoesWell asked (Any asked {A = ℕ}) (full_node line name items o)
  full_does line name items q h None k w g = tt
  full_does line name items q h (Some (OfType t)) k w g =
      meet_first (Any asked) ANode 1 w (inside name (OfType t) (fields_of t) items >>= λ i. close_node name i.at (flat_node line name t i)) refl
      (ends_then_more asked (IsAmid asked (OfType t)) (Any asked) (λ i. close_node name i.at (flat_node line name t i)) (count asked w) 1 (inside name (OfType t) (fields_of t) items w)
      (inside_does name (OfType t) (fields_of t) items (type_fields t) h w g)
      (λ i v m p. close_node_does name i.at (flat_node line name t i) v m (node_held line name t i q p)))
  full_does line name items q h (Some (OfProto p)) k w g =
      ends_then asked (Any asked) (Any asked) (λ _. unless_twice [] p.interface >>= λ _. inside name (OfProto p) p.interface items >>= close_instance name p) (count asked w) (meet AnInstance w) (done asked (Any asked) tt (AnInstance ∷ []) w g tt)
      (λ _ u j l. ends_then asked (Any asked) (Any asked) (λ _. inside name (OfProto p) p.interface items >>= close_instance name p) (count asked u) (unless_twice [] p.interface u) (unless_twice_does [] p.interface u j)
      (λ _ v m n. ends_then asked (IsAmid asked (OfProto p)) (Any asked) (close_instance name p) (count asked v) (inside name (OfProto p) p.interface items v) (inside_does name (OfProto p) p.interface items tt h v m)
      (λ i x a b. close_instance_does name p q k i b.filled x a)))

  items_see : (o : Option Names) (items : List Item) → AllByRecursion (GoodItem asked) items → AllByRecursion (λ (i : Item). Keeps asked (i.sees o)) items
  items_see o [] h = tt
  items_see o (i ∷ is) h = (h.0.sees o, items_see o is h.1)

  pub full_good : (line : ℕ) (name : Option Name) (word : Name) (items : List Item) → asked.name name → AllByRecursion (GoodItem asked) items → GoodNode asked (node_step (NodeText-F.Full line name word items))
  unfolding node_step
  full_good line name word items q h = record {
    sees = λ s g. each_keeps (IsGoodPrototype asked) (λ (i : Item). i.sees (taken_by (meant word s))) items (items_see (taken_by (meant word s)) items h) s g;
    does = λ w g. full_does line name items q h (meant word w.sight) (meant_good (IsGoodPrototype asked) word w.sight g.sight) w g;
  }

  use_by : (line : ℕ) (o : Option ℕ) → DoesWell asked (Any asked {A = ℕ}) (option_map_or pure o (refuse UseWithoutDef line))
  use_by line None w g = tt
  use_by line (Some n) w g = done asked (Any asked) n [] w g tt

  pub use_good : (line : ℕ) (name : Name) → GoodNode asked (node_step (NodeText-F.Use line name))
  unfolding node_step
  use_good line name = record {
    sees = λ s g. g;
    does = λ w g. ends_then asked (Any asked) (Any asked) (λ _ u. option_map_or pure (used name u.scope.braces) (refuse UseWithoutDef line) u) (count asked w) (meet AnItem w) (done asked (Any asked) tt (AnItem ∷ []) w g tt) (λ _ u j p. use_by line (used name u.scope.braces) u j);
  }

  -- ---- statements

  pub node_stated : (n : Node) → GoodNode asked n → GoodStated asked (statement_step (Statement-F.Node n))
  unfolding statement_step
  node_stated n h = record {
    sees = h.sees;
    does = λ w g. ends_then asked (Any asked) (Any asked) (λ k. pure (k ∷ [])) (count asked w) (n.does w) (h.does w g) (λ k v i p. done asked (Any asked) (k ∷ []) [] v i tt);
  }

  pub route_stated : (route : RouteText) → GoodStated asked (statement_step (Statement-F.Statement::Route route))
  unfolding statement_step
  route_stated route = record {
    sees = λ s g. g;
    does = λ w g. ends_then asked (Any asked) (Any asked) (λ _. pure []) (count asked w) (note_route route w) (route_keeps asked route w g) (λ _ v i p. done asked (Any asked) [] [] v i tt);
  }

  pub proto_stated : (p : Proto) → GoodProto asked p → GoodStated asked (statement_step (Statement-F.Statement::Proto p))
  unfolding statement_step
  proto_stated p h = record {
    sees = h.sees;
    does = λ w g. ends_then asked (Any asked) (Any asked) (λ _. pure []) (count asked w) (p.does w) (h.does w g) (λ _ v i q. done asked (Any asked) [] [] v i tt);
  }
