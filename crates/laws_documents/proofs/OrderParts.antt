-- The parts of a text keep the order, where what stands in them does: fields and items.
use Rattle.std.proofs.Common.{ℕ, Bool, true, false, if◌then◌else◌, List, [], ◌∷◌, ◌++◌, length, Option, Some, None, bytes_eq}
use Rattle.std.specs.Prelude.{◌||◌, is_some}
use Rattle.std.specs.List.{AllByRecursion, find}
use Rattle.std.specs.Option.{option_map_or}
use Rattle.classic_tree.specs.declared.tree.BodyItem.TheOpen.{BodyItem-F}
use Rattle.classic_tree.specs.declared.tree.Declaration.{Declaration}
use Rattle.classic_tree.specs.declared.tree.Given.{Given}
use Rattle.classic_tree.specs.declared.tree.Given.TheVariants as given
use Rattle.classic_tree.specs.declared.tree.RawValue.{RawValue}
use Rattle.classic_tree.specs.declared.tree.RawValue.TheVariants as value
use Rattle.classic_tree.specs.declared.tree.RouteText.{RouteText}
use Rattle.proto_flat.specs.declared.fault.ExpandFaultKind.TheVariants.{UnknownField, BadIs, FieldTwice}
use Rattle.proto_flat.specs.declared.flat.FlatEnd.{FlatEnd}
use Rattle.proto_meaning.specs.Limits.{AField, AnItem, item_count}
use Rattle.proto_meaning.specs.Names.{Name, Field, Stands, Braces, Scope, stands_at, value_of}
use Rattle.proto_meaning.specs.Sight.{Names, Owner, aside, is_kept, nodes_in, taken_by}
use Rattle.proto_meaning.specs.Flat.{Walk, Does, ◌>>=◌, Node, Item, Stated, Proto, Inside, declare_field, field, fill, fits, give, give_is, give_value, given_sees, is_filled, is_node, is_script, item_step, join, leave_out, met_field, note_route, numbered_from, pure, put_in, refuse, through}
use Rattle.x3d_values.specs.Access.{is_initial}
use Rattle.laws_documents.specs.Order.{AreBelow, IsEndBelow, IsValueBelow}
use Rattle.laws_documents.proofs.Lists.{IfSome, all_append, all_push}
use Rattle.laws_documents.proofs.OrderGood.{Any, IsGoodPrototype, AreBracesBelow, AreEndsBelow, AreFilledBelow, DoesWell, Ends, IsBelow, IsFilledBelow, IsGoodWalk, IsStandsBelow, Keeps, KeepsSight, count, done, ends_if, ends_then, ends_through, raise_all, raise_filled, same}
use Rattle.laws_documents.proofs.OrderSteps.{meet_keeps, route_keeps, see_keeps, stands_below, value_below}
use Rattle.laws_documents.proofs.Sights.{aside_keeps, each_keeps, if_keeps}

-- ---- parts that keep it

pub record GoodNode (n : Node) : Type 0 where
  pub sees : KeepsSight n.sees
  pub does : DoesWell IsBelow n.does

abbrev pub GoodGiven : Given Node → Type 0
GoodGiven g = AllByRecursion GoodNode (nodes_in g)

-- what stands between the braces so far
abbrev pub IsInsideBelow : ℕ → Inside → Type 0
IsInsideBelow bound i = AreFilledBelow bound i.filled

pub record GoodItem (i : Item) : Type 0 where
  pub sees : (o : Option Names) → KeepsSight (i.sees o)
  pub does : (b : Inside) (w : Walk) → IsGoodWalk w → IsInsideBelow (count w) b → Ends IsInsideBelow (count w) (i.does b w)

pub record GoodStated (s : Stated) : Type 0 where
  pub sees : KeepsSight s.1.sees
  pub does : DoesWell AreBelow s.1.does

pub record GoodProto (p : Proto) : Type 0 where
  pub sees : KeepsSight p.sees
  pub does : Keeps p.does

-- ---- values

nodes_see : (ns : List Node) → AllByRecursion GoodNode ns → AllByRecursion (λ (n : Node). KeepsSight n.sees) ns
nodes_see [] h = tt
nodes_see (n ∷ ns) h = (h.0.sees, nodes_see ns h.1)

pub given_keeps : (g : Given Node) → GoodGiven g → KeepsSight (given_sees g)
given_keeps g h s i = each_keeps IsGoodPrototype (λ (n : Node). n.sees) (nodes_in g) (nodes_see (nodes_in g) h) _ (record { here = i.here; outside = i.outside })

pub leave_out_keeps : (g : Given Node) → GoodGiven g → Keeps (leave_out g)
leave_out_keeps g h = see_keeps (aside (given_sees g)) (aside_keeps IsGoodPrototype (given_sees g) (given_keeps g h))

put_next : (node : Node) (ns : List ℕ) (w : Walk) → GoodNode node → IsGoodWalk w → AreBelow (count w) ns → Ends AreBelow (count w) ((node.does >>= λ n. pure (ns ++ n ∷ [])) w)
put_next node ns w h g k =
    ends_then IsBelow AreBelow (λ n. pure (ns ++ n ∷ [])) (count w) (node.does w) (h.does w g)
    (λ n v i l p. done AreBelow (ns ++ n ∷ []) v i (all_push (IsBelow (count v)) ns n (raise_all (count w) (count v) l ns k) p))

pub put_in_does : (v : RawValue Node) → GoodGiven (given.Value v) → DoesWell IsValueBelow (put_in v)
put_in_does value.Null h w g = done IsValueBelow value.Null w g tt
put_in_does (value.Truth truth) h w g = done IsValueBelow (value.Truth truth) w g tt
put_in_does (value.String text) h w g = done IsValueBelow (value.String text) w g tt
put_in_does (value.Numbers numbers) h w g = done IsValueBelow (value.Numbers numbers) w g tt
put_in_does (value.Node node) h w g = ends_then IsBelow IsValueBelow (λ n. pure (value.Node n)) (count w) (node.does w) (h.0.does w g) (λ n v i l p. done IsValueBelow (value.Node n) v i (p, tt))
put_in_does value.EmptyList h w g = done IsValueBelow value.EmptyList w g tt
put_in_does (value.TruthList truths) h w g = done IsValueBelow (value.TruthList truths) w g tt
put_in_does (value.StringList texts) h w g = done IsValueBelow (value.StringList texts) w g tt
put_in_does (value.NumberList numbers) h w g = done IsValueBelow (value.NumberList numbers) w g tt
put_in_does (value.NodeList nodes) h w g =
    ends_then AreBelow IsValueBelow (λ ns. pure (value.NodeList ns)) (count w) (through next nodes [] w) (ends_through GoodNode AreBelow next put_next nodes [] w h g tt) (λ ns v i l p. done IsValueBelow (value.NodeList ns) v i p) where
      next : Node → List ℕ → Does (List ℕ)
      next node ns = node.does >>= λ n. pure (ns ++ n ∷ [])

-- ---- fields

pub fill_below : (bound line : ℕ) (f : ℕ × Field) (i : Inside) (v : Option (RawValue ℕ)) → IsInsideBelow bound i → IfSome (IsValueBelow bound) v → IsInsideBelow bound (fill line f i v)
fill_below bound line f i v h k = all_push (IsFilledBelow bound) i.filled (record { line = line; name = f.1.name; number = f.0; value = v }) h k

met_keeps : (owner : Owner) (number items : ℕ) → Keeps (met_field owner number items)
met_keeps owner number items = meet_keeps (if is_node owner then AField number items else AnItem)

module _ (line : ℕ) (f : ℕ × Field) (i : Inside) where
  put_value : (v : RawValue Node) → GoodGiven (given.Value v) → (w : Walk) → IsGoodWalk w → IsInsideBelow (count w) i → Ends IsInsideBelow (count w) ((put_in v >>= λ r. pure (fill line f i (Some r))) w)
  put_value v h w g k =
      ends_then IsValueBelow IsInsideBelow (λ r. pure (fill line f i (Some r))) (count w) (put_in v w) (put_in_does v h w g)
      (λ r u j l p. done IsInsideBelow (fill line f i (Some r)) u j (fill_below (count u) line f i (Some r) (raise_filled (count w) (count u) l i.filled k) p))

  leave_value : (v : RawValue Node) → GoodGiven (given.Value v) → (w : Walk) → IsGoodWalk w → IsInsideBelow (count w) i → Ends IsInsideBelow (count w) ((leave_out (given.Value v) >>= λ _. pure (fill line f i None)) w)
  leave_value v h w g k =
      ends_then Any IsInsideBelow (λ _. pure (fill line f i None)) (count w) (leave_out (given.Value v) w) (leave_out_keeps (given.Value v) h w g)
      (λ _ u j l p. done IsInsideBelow (fill line f i None) u j (fill_below (count u) line f i None (raise_filled (count w) (count u) l i.filled k) tt))

  give_value_does : (v : RawValue Node) → GoodGiven (given.Value v) → (w : Walk) → IsGoodWalk w → IsInsideBelow (count w) i → Ends IsInsideBelow (count w) (give_value line f i v w)
  give_value_does v h w g k =
      ends_then Any IsInsideBelow (λ _. if is_kept (taken_by (Some i.owner)) f.1.name then (put_in v >>= λ r. pure (fill line f i (Some r))) else leave_out (given.Value v) >>= λ _. pure (fill line f i None))
      (count w) (met_field i.owner f.0 (item_count v) w) (met_keeps i.owner f.0 (item_count v) w g)
      (λ _ u j l p.
      let kept = raise_filled (count w) (count u) l i.filled k in
      ends_if IsInsideBelow (count u) (is_kept (taken_by (Some i.owner)) f.1.name) (put_in v >>= λ r. pure (fill line f i (Some r))) (leave_out (given.Value v) >>= λ _. pure (fill line f i None)) u
      (put_value v h u j kept) (leave_value v h u j kept))

  give_nothing : (w : Walk) → IsGoodWalk w → IsInsideBelow (count w) i → Ends IsInsideBelow (count w) ((met_field i.owner f.0 0 >>= λ _. pure (fill line f i None)) w)
  give_nothing w g k =
      ends_then Any IsInsideBelow (λ _. pure (fill line f i None)) (count w) (met_field i.owner f.0 0 w) (met_keeps i.owner f.0 0 w g)
      (λ _ u j l p. done IsInsideBelow (fill line f i None) u j (fill_below (count u) line f i None (raise_filled (count w) (count u) l i.filled k) tt))

  -- the field is an end of the interface field
  abbrev end_of : Name → List Braces → Name → List FlatEnd
  end_of outer all name = if bytes_eq outer name then option_map_or (λ what. what.ends f.1.name) (stands_at all (Some i.at)) [] else []

  end_below : (bound : ℕ) (outer : Name) (all : List Braces) (name : Name) → AreBracesBelow bound all → AreEndsBelow bound (end_of outer all name)
  end_below bound outer all name h = by_name (bytes_eq outer name) (stands_at all (Some i.at)) (stands_below bound all (Some i.at) h) where
    by_name : (b : Bool) (s : Option Stands) → IfSome (IsStandsBelow bound) s → AreEndsBelow bound (if b then option_map_or (λ what. what.ends f.1.name) s [] else [])
    by_name true None k = tt
    by_name true (Some s) k = k.ends f.1.name
    by_name false s k = tt

  abbrev joined : Name → Scope → Scope
  joined outer s = record s { ends = λ all name. s.ends all name ++ end_of outer all name }

  join_does : (outer : Name) (v : Option (RawValue ℕ)) (w : Walk) → IsGoodWalk w → IsInsideBelow (count w) i → IfSome (IsValueBelow (count w)) v → Ends IsInsideBelow (count w) (join line f i outer v w)
  join_does outer v w g k p =
      record {
        told = fill_below (count w) line f i v k p;
        good = record {
          put = g.put;
          scope = record {
            braces = g.scope.braces;
            routes = g.scope.routes;
            ends = λ bound l all h name. all_append (IsEndBelow bound) (w.scope.ends all name) (end_of outer all name) (g.scope.ends bound l all h name) (end_below bound outer all name h);
            given = g.scope.given;
          };
          sight = g.sight;
        };
        grown = same (count w);
      }

  join_now : Name → Does Inside
  join_now outer w = join line f i outer (value_of outer w.scope.given) w

  is_does : (twice : Bool) (outer : Option Field) (w : Walk) → IsGoodWalk w → IsInsideBelow (count w) i → Ends IsInsideBelow (count w) (give_is line f twice i outer w)
  is_does twice None w g k = tt
  is_does twice (Some outer) w g k =
      ends_if IsInsideBelow (count w) (fits outer f.1) (if twice then refuse FieldTwice line else (λ w. join line f i outer.name (value_of outer.name w.scope.given) w)) (refuse BadIs line) w
      (ends_if IsInsideBelow (count w) twice (refuse FieldTwice line) (λ w. join line f i outer.name (value_of outer.name w.scope.given) w) w tt
      (join_does outer.name (value_of outer.name w.scope.given) w g k (value_below (count w) outer.name w.scope.given g.scope.given))) tt

  pub give_does : (twice : Bool) (x : Given Node) → GoodGiven x → (w : Walk) → IsGoodWalk w → IsInsideBelow (count w) i → Ends IsInsideBelow (count w) (give line f twice x i w)
  give_does twice given.Nothing h w g k =
      ends_if IsInsideBelow (count w) twice (refuse FieldTwice line) (met_field i.owner f.0 0 >>= λ _. pure (fill line f i None)) w tt (give_nothing w g k)
  give_does twice (given.Is outer) h w g k = is_does twice (find (λ (o : Field). bytes_eq o.name outer) w.scope.interface) w g k
  give_does twice (given.Value v) h w g k =
      ends_if IsInsideBelow (count w) (is_node i.owner || is_initial f.1.access) (if twice then refuse FieldTwice line else give_value line f i v) (refuse UnknownField line) w
      (ends_if IsInsideBelow (count w) twice (refuse FieldTwice line) (give_value line f i v) w tt (give_value_does v h w g k)) tt

-- ---- items between braces

found_does : (line : ℕ) (name : Name) (x : Given Node) → GoodGiven x → (b : Inside) (w : Walk) → IsGoodWalk w → IsInsideBelow (count w) b → (o : Option (ℕ × Field))
    → Ends IsInsideBelow (count w) (option_map_or (λ f. give line f (is_filled name b) x b) o (refuse UnknownField line) w)
found_does line name x h b w g k None = tt
found_does line name x h b w g k (Some f) = give_does line f b (is_filled name b) x h w g k

pub field_good : (line : ℕ) (name : Name) (x : Given Node) → GoodGiven x → GoodItem (item_step (BodyItem-F.Field line name x))
unfolding item_step
field_good line name x h = record {
  sees = λ o. if_keeps IsGoodPrototype (is_kept o name) (given_sees x) (aside (given_sees x)) (given_keeps x h) (aside_keeps IsGoodPrototype (given_sees x) (given_keeps x h));
  does = λ b w g k. found_does line name x h b w g k (numbered_from 0 name b.fields);
}

declared_does : (d : Declaration Node) → GoodGiven d.given → (b : Inside) (w : Walk) → IsGoodWalk w → IsInsideBelow (count w) b → Ends IsInsideBelow (count w) (declare_field d b w)
declared_does d h b w g k =
    let wider : Inside = record b { fields = b.fields ++ field d ∷ [] } in
    let twice = is_some (numbered_from 0 d.name b.fields) in
    ends_if IsInsideBelow (count w) (is_script b.owner) (give d.line (length b.fields, field d) twice d.given wider) (refuse UnknownField d.line) w
    (give_does d.line (length b.fields, field d) wider twice d.given h w g k) tt

pub declaration_good : (d : Declaration Node) → GoodGiven d.given → GoodItem (item_step (BodyItem-F.Declaration d))
unfolding item_step
declaration_good d h = record { sees = λ o. given_keeps d.given h; does = declared_does d h }

pub route_good : (route : RouteText) → GoodItem (item_step (BodyItem-F.BodyItem::Route route))
unfolding item_step
route_good route = record {
  sees = λ o s i. i;
  does = λ b w g k. ends_then Any IsInsideBelow (λ _. pure b) (count w) (note_route route w) (route_keeps route w g) (λ _ u j l p. done IsInsideBelow b u j (raise_filled (count w) (count u) l b.filled k));
}

pub proto_item_good : (p : Proto) → GoodProto p → GoodItem (item_step (BodyItem-F.BodyItem::Proto p))
unfolding item_step
proto_item_good p h = record {
  sees = λ o. h.sees;
  does = λ b w g k. ends_then Any IsInsideBelow (λ _. pure b) (count w) (p.does w) (h.does w g) (λ _ u j l q. done IsInsideBelow b u j (raise_filled (count w) (count u) l b.filled k));
}
