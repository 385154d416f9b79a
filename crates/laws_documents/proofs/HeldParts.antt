-- The parts of a text give nodes what they may hold: values, fields and items.
use Rattle.std.proofs.Common.{◌≡◌, ℕ, ◌+◌, length-append, arith, Bool, true, false, if◌then◌else◌, List, [], ◌∷◌, ◌++◌, length, Option, Some, None, Ok, Err, bytes_eq, refl, ap, sym, ◌∙◌, subst}
use Rattle.std.specs.Prelude.{◌||◌, is_some}
use Rattle.std.specs.List.{AllByRecursion, find}
use Rattle.std.specs.Option.{option_map_or, option_or}
use Rattle.std.proofs.lemmas.List.{append-nil, append_assoc}
use Rattle.x3d_values.specs.Access.{is_initial}
use Rattle.classic_tree.specs.declared.tree.BodyItem.TheOpen.{BodyItem-F}
use Rattle.classic_tree.specs.declared.tree.Declaration.{Declaration}
use Rattle.classic_tree.specs.declared.tree.Given.{Given}
use Rattle.classic_tree.specs.declared.tree.Given.TheVariants as given
use Rattle.classic_tree.specs.declared.tree.RawValue.{RawValue}
use Rattle.classic_tree.specs.declared.tree.RawValue.TheVariants as value
use Rattle.classic_tree.specs.declared.tree.RouteText.{RouteText}
use Rattle.proto_flat.specs.declared.fault.ExpandFaultKind.TheVariants.{UnknownField, BadIs, FieldTwice}
use Rattle.proto_meaning.specs.Limits.{item_count}
use Rattle.proto_meaning.specs.Names.{Name, Field, Filled, value_of}
use Rattle.proto_meaning.specs.Sight.{Look, Names, Owner, OfType, OfProto, aside, is_kept, nodes_in, taken_by}
use Rattle.proto_meaning.specs.Flat.{Walk, Does, ◌>>=◌, Node, Item, Stated, Proto, Inside, declare_field, field, fields_of, fill, fits, give, give_is, give_value, given_sees, is_filled, is_node, is_script, item_step, join, leave_out, met_field, note_route, numbered_from, pure, put_in, refuse, see, through}
use Rattle.laws_documents.proofs.Lists.{IfSome, all_push}
use Rattle.laws_documents.specs.PlainLaws.{AreApart}
use Rattle.laws_documents.proofs.HeldGood.{Any, AreFilled, Asked, DoesWell, Ends, FieldsOf, IsAmid, IsFilled, IsGoodPrototype, IsGoodWalk, count, done, ends_if, ends_then}
use Rattle.laws_documents.proofs.Numbers.{OwnsBy}
use Rattle.laws_documents.proofs.Sights.{KeepsSight, Sees, aside_keeps, each_keeps, if_keeps}

none_is : (o : Option (ℕ × Field)) → is_some o ≡ false → o ≡ None
none_is None e = refl
none_is (Some f) e = absurd cc

-- a new name behind those
apart_push : (fields ds : List Field) (d : Field) → numbered_from 0 d.name (fields ++ ds) ≡ None → AreApart fields ds → AreApart fields (ds ++ d ∷ [])
apart_push fields [] d e h = (ap (numbered_from 0 d.name) (sym (append-nil fields)) ∙ e, tt)
apart_push fields (x ∷ ds) d e h = (h.0, apart_push (fields ++ x ∷ []) ds d (ap (numbered_from 0 d.name) (append_assoc fields (x ∷ []) ds) ∙ e) h.1)

module _ (asked : Asked) where
  abbrev pub Keeps : Look → Type 0
  Keeps step = KeepsSight (IsGoodPrototype asked) step

  -- ---- parts that keep it

  pub record GoodNode (n : Node) : Type 0 where
    pub sees : Keeps n.sees
    pub does : DoesWell asked (Any asked {A = ℕ}) n.does

  -- whatever nodes stand in it
  abbrev pub IsAsked : RawValue Node → Type 0
  IsAsked value.Null = asked.value value.Null
  IsAsked (value.Truth truth) = asked.value (value.Truth truth)
  IsAsked (value.String text) = asked.value (value.String text)
  IsAsked (value.Numbers numbers) = asked.value (value.Numbers numbers)
  IsAsked (value.Node node) = (n : ℕ) → asked.value (value.Node n)
  IsAsked value.EmptyList = asked.value value.EmptyList
  IsAsked (value.TruthList truths) = asked.value (value.TruthList truths)
  IsAsked (value.StringList texts) = asked.value (value.StringList texts)
  IsAsked (value.NumberList numbers) = asked.value (value.NumberList numbers)
  IsAsked (value.NodeList nodes) = (ns : List ℕ) → length ns ≡ length nodes → asked.value (value.NodeList ns)

  abbrev pub IfValue : Given Node → Type 0
  IfValue (given.Value v) = IsAsked v
  IfValue _ = Unit {0}

  pub record GoodGiven (g : Given Node) : Type 0 where
    pub nodes : AllByRecursion GoodNode (nodes_in g)
    pub value : IfValue g

  pub record GoodItem (i : Item) : Type 0 where
    pub sees : (o : Option Names) → Keeps (i.sees o)
    pub does : (owner : Owner) (b : Inside) (w : Walk) → IsGoodWalk asked w → IsAmid asked owner b → Ends asked (IsAmid asked owner) (count asked w) (i.does b w)

  pub record GoodStated (s : Stated) : Type 0 where
    pub sees : Keeps s.1.sees
    pub does : DoesWell asked (Any asked {A = List ℕ}) s.1.does

  pub record GoodProto (p : Proto) : Type 0 where
    pub sees : Keeps p.sees
    pub does : DoesWell asked (Any asked {A = Unit {0}}) p.does

  -- ---- values

  nodes_see : (ns : List Node) → AllByRecursion GoodNode ns → AllByRecursion (λ (n : Node). Keeps n.sees) ns
  nodes_see [] h = tt
  nodes_see (n ∷ ns) h = (h.0.sees, nodes_see ns h.1)

  pub given_keeps : (g : Given Node) → GoodGiven g → Keeps (given_sees g)
  given_keeps g h s i = each_keeps (IsGoodPrototype asked) (λ (n : Node). n.sees) (nodes_in g) (nodes_see (nodes_in g) h.nodes) _ (record { here = i.here; outside = i.outside })

  seen : (w : Walk) → IsGoodWalk asked w → (r : _) → Sees (IsGoodPrototype asked) r → Ends asked (Any asked {A = Unit {0}}) (count asked w) (see (λ s. r) w)
  seen w g (Ok s) h = done asked (Any asked) tt [] (record w { sight = s }) (record { put = g.put; given = g.given; sight = h }) tt
  seen w g (Err e) h = tt

  pub see_keeps : (step : Look) → Keeps step → DoesWell asked (Any asked {A = Unit {0}}) (see step)
  see_keeps step h w g = seen w g (step w.sight) (h w.sight g.sight)

  pub left_out : (g : Given Node) → GoodGiven g → DoesWell asked (Any asked {A = Unit {0}}) (leave_out g)
  left_out g h = see_keeps (aside (given_sees g)) (aside_keeps (IsGoodPrototype asked) (given_sees g) (given_keeps g h))

  abbrev next : Node → List ℕ → Does (List ℕ)
  next node ns = node.does >>= λ n. pure (ns ++ n ∷ [])

  -- as many numbers as nodes
  HasLength : ℕ → List ℕ → Type 0
  HasLength total ns = length ns ≡ total

  nodes_put : (nodes : List Node) → AllByRecursion GoodNode nodes → (ns : List ℕ) (total : ℕ) → length ns + length nodes ≡ total → DoesWell asked (HasLength total) (through next nodes ns)
  unfolding HasLength
  nodes_put [] h ns total e w g =
      let all : length ns ≡ total = omega (arith, e) in
      done asked (HasLength total) ns [] w g all
  nodes_put (node ∷ nodes) h ns total e w g =
      ends_then asked (HasLength (length ns + 1)) (HasLength total) (through next nodes) (count asked w) (next node ns w)
      (ends_then asked (Any asked) (HasLength (length ns + 1)) (λ n. pure (ns ++ n ∷ [])) (count asked w) (node.does w) (h.0.does w g)
      (λ n v i p.
      let longer : length (ns ++ n ∷ []) ≡ length ns + 1 = omega (arith, length-append ns (n ∷ [])) in
      done asked (HasLength (length ns + 1)) (ns ++ n ∷ []) [] v i longer))
      (λ ms v i p.
      let all : length ms + length nodes ≡ total = omega (arith, e, p) in
      nodes_put nodes h.1 ms total all v i)

  pub put_in_does : (v : RawValue Node) → GoodGiven (given.Value v) → DoesWell asked asked.value (put_in v)
  unfolding HasLength
  put_in_does value.Null h w g = done asked asked.value value.Null [] w g h.value
  put_in_does (value.Truth truth) h w g = done asked asked.value (value.Truth truth) [] w g h.value
  put_in_does (value.String text) h w g = done asked asked.value (value.String text) [] w g h.value
  put_in_does (value.Numbers numbers) h w g = done asked asked.value (value.Numbers numbers) [] w g h.value
  put_in_does (value.Node node) h w g =
      ends_then asked (Any asked) asked.value (λ n. pure (value.Node n)) (count asked w) (node.does w) (h.nodes.0.does w g) (λ n v i p. done asked asked.value (value.Node n) [] v i (h.value n))
  put_in_does value.EmptyList h w g = done asked asked.value value.EmptyList [] w g h.value
  put_in_does (value.TruthList truths) h w g = done asked asked.value (value.TruthList truths) [] w g h.value
  put_in_does (value.StringList texts) h w g = done asked asked.value (value.StringList texts) [] w g h.value
  put_in_does (value.NumberList numbers) h w g = done asked asked.value (value.NumberList numbers) [] w g h.value
  put_in_does (value.NodeList nodes) h w g =
      ends_then asked (HasLength (length nodes)) asked.value (λ ns. pure (value.NodeList ns)) (count asked w) (through next nodes [] w) (nodes_put nodes h.nodes [] (length nodes) (omega arith) w g)
      (λ ns v i p. done asked asked.value (value.NodeList ns) [] v i (h.value ns p))

  pub value_held : (name : Name) (filled : List Filled) → AreFilled asked filled → IfSome asked.value (value_of name filled)
  value_held name [] h = tt
  value_held name (f ∷ fs) h = by_name (bytes_eq f.name name) f.value h.0 (value_held name fs h.1) where
    by_name : (b : Bool) (v : Option (RawValue ℕ)) → IfSome asked.value v → IfSome asked.value (value_of name fs) → IfSome asked.value (option_or (if b then v else None) (value_of name fs))
    by_name true None i k = k
    by_name true (Some v) i k = i
    by_name false v i k = k

  -- ---- fields

  module _ (line : ℕ) (f : ℕ × Field) (owner : Owner) (i : Inside) (amid : IsAmid asked owner i) where
    filled : (v : Option (RawValue ℕ)) → IfSome asked.value v → IsAmid asked owner (fill line f i v)
    filled v h = record {
      owned = amid.owned;
      filled = all_push (IsFilled asked) i.filled (record { line = line; name = f.1.name; number = f.0; value = v }) amid.filled h;
      fields = amid.fields;
    }

    fill_does : (v : Option (RawValue ℕ)) → IfSome asked.value v → DoesWell asked (IsAmid asked owner) (pure (fill line f i v))
    fill_does v h w g = done asked (IsAmid asked owner) (fill line f i v) [] w g (filled v h)

    met_does : (items : ℕ) → DoesWell asked (Any asked {A = Unit {0}}) (met_field i.owner f.0 items)
    met_does items w g = done asked (Any asked) tt _ w g tt

    nothing_does : DoesWell asked (IsAmid asked owner) (λ w. (met_field i.owner f.0 0 >>= λ _. pure (fill line f i None)) w)
    nothing_does w g = ends_then asked (Any asked) (IsAmid asked owner) (λ _. pure (fill line f i None)) (count asked w) (met_field i.owner f.0 0 w) (met_does 0 w g) (λ _ u j p. fill_does None tt u j)

    value_does : (v : RawValue Node) → GoodGiven (given.Value v) → DoesWell asked (IsAmid asked owner) (give_value line f i v)
    value_does v h w g =
        ends_then asked (Any asked) (IsAmid asked owner) (λ _. if is_kept (taken_by (Some i.owner)) f.1.name then (put_in v >>= λ r. pure (fill line f i (Some r))) else leave_out (given.Value v) >>= λ _. pure (fill line f i None))
        (count asked w) (met_field i.owner f.0 (item_count v) w) (met_does (item_count v) w g)
        (λ _ u j p. ends_if asked (IsAmid asked owner) (count asked u) (is_kept (taken_by (Some i.owner)) f.1.name) (put_in v >>= λ r. pure (fill line f i (Some r))) (leave_out (given.Value v) >>= λ _. pure (fill line f i None)) u
        (ends_then asked asked.value (IsAmid asked owner) (λ r. pure (fill line f i (Some r))) (count asked u) (put_in v u) (put_in_does v h u j) (λ r x k q. fill_does (Some r) q x k))
        (ends_then asked (Any asked) (IsAmid asked owner) (λ _. pure (fill line f i None)) (count asked u) (leave_out (given.Value v) u) (left_out (given.Value v) h u j) (λ _ x k q. fill_does None tt x k)))

    join_does : (outer : Name) (v : Option (RawValue ℕ)) → IfSome asked.value v → DoesWell asked (IsAmid asked owner) (join line f i outer v)
    join_does outer v h w g = done asked (IsAmid asked owner) (fill line f i v) _ _ (record { put = g.put; given = g.given; sight = g.sight }) (filled v h)

    is_does : (twice : Bool) (outer : Option Field) → DoesWell asked (IsAmid asked owner) (give_is line f twice i outer)
    is_does twice None w g = tt
    is_does twice (Some outer) w g =
        ends_if asked (IsAmid asked owner) (count asked w) (fits outer f.1) (if twice then refuse FieldTwice line else (λ w. join line f i outer.name (value_of outer.name w.scope.given) w)) (refuse BadIs line) w
        (ends_if asked (IsAmid asked owner) (count asked w) twice (refuse FieldTwice line) (λ w. join line f i outer.name (value_of outer.name w.scope.given) w) w tt
        (join_does outer.name (value_of outer.name w.scope.given) (value_held outer.name w.scope.given g.given) w g)) tt

    pub give_does : (twice : Bool) (x : Given Node) → GoodGiven x → DoesWell asked (IsAmid asked owner) (give line f twice x i)
    give_does twice given.Nothing h w g = ends_if asked (IsAmid asked owner) (count asked w) twice (refuse FieldTwice line) (met_field i.owner f.0 0 >>= λ _. pure (fill line f i None)) w tt (nothing_does w g)
    give_does twice (given.Is outer) h w g = is_does twice (find (λ (o : Field). bytes_eq o.name outer) w.scope.interface) w g
    give_does twice (given.Value v) h w g =
        ends_if asked (IsAmid asked owner) (count asked w) (is_node i.owner || is_initial f.1.access) (if twice then refuse FieldTwice line else give_value line f i v) (refuse UnknownField line) w
        (ends_if asked (IsAmid asked owner) (count asked w) twice (refuse FieldTwice line) (give_value line f i v) w tt (value_does v h w g)) tt

  -- ---- items

  found_does : (line : ℕ) (name : Name) (x : Given Node) → GoodGiven x → (owner : Owner) (b : Inside) → IsAmid asked owner b → (o : Option (ℕ × Field)) → DoesWell asked (IsAmid asked owner) (option_map_or (λ f. give line f (is_filled name b) x b) o (refuse UnknownField line))
  found_does line name x h owner b k None w g = tt
  found_does line name x h owner b k (Some f) w g = give_does line f owner b k (is_filled name b) x h w g

  pub field_good : (line : ℕ) (name : Name) (x : Given Node) → GoodGiven x → GoodItem (item_step (BodyItem-F.Field line name x))
  unfolding item_step
  field_good line name x h = record {
    sees = λ o. if_keeps (IsGoodPrototype asked) (is_kept o name) (given_sees x) (aside (given_sees x)) (given_keeps x h) (aside_keeps (IsGoodPrototype asked) (given_sees x) (given_keeps x h));
    does = λ owner b w g k. found_does line name x h owner b k (numbered_from 0 name b.fields) w g;
  }

  wider_fields : (owner : Owner) (fields : List Field) (d : Field) → is_script owner ≡ true → is_some (numbered_from 0 d.name fields) ≡ false → asked.field d → FieldsOf asked owner fields → FieldsOf asked owner (fields ++ d ∷ [])
  wider_fields (OfType t) fields d e new h k = record {
    more = k.more ++ d ∷ [];
    known = ap (λ fs. fs ++ d ∷ []) k.known ∙ append_assoc (fields_of t) k.more (d ∷ []);
    own = subst (λ s. OwnsBy s (k.more ++ d ∷ [])) (sym e) tt;
    declared = all_push asked.field k.more d k.declared h;
    apart = apart_push (fields_of t) k.more d (none_is (numbered_from 0 d.name (fields_of t ++ k.more)) (ap (λ fs. is_some (numbered_from 0 d.name fs)) (sym k.known) ∙ new)) k.apart;
  }
  wider_fields (OfProto p) fields d e new h k = tt

  -- a name that stands there already is refused
  is_twice : (P : Inside → Type 0) (line : ℕ) (f : ℕ × Field) (i : Inside) (w : Walk) (outer : Option Field) → Ends asked P (count asked w) (give_is line f true i outer w)
  is_twice P line f i w None = tt
  is_twice P line f i w (Some outer) =
      ends_if asked P (count asked w) (fits outer f.1) (if true then refuse FieldTwice line else (λ w. join line f i outer.name (value_of outer.name w.scope.given) w)) (refuse BadIs line) w tt tt

  given_twice : (P : Inside → Type 0) (line : ℕ) (f : ℕ × Field) (x : Given Node) (i : Inside) (w : Walk) → Ends asked P (count asked w) (give line f true x i w)
  given_twice P line f given.Nothing i w = tt
  given_twice P line f (given.Is outer) i w = is_twice P line f i w (find (λ (o : Field). bytes_eq o.name outer) w.scope.interface)
  given_twice P line f (given.Value v) i w =
      ends_if asked P (count asked w) (is_node i.owner || is_initial f.1.access) (if true then refuse FieldTwice line else give_value line f i v) (refuse UnknownField line) w tt tt

  declared_does : (d : Declaration Node) → asked.field (field d) → GoodGiven d.given → (owner : Owner) (b : Inside) (w : Walk) → IsGoodWalk asked w → IsAmid asked owner b → Ends asked (IsAmid asked owner) (count asked w) (declare_field d b w)
  declared_does d h x owner b w g k = by_script (is_script b.owner) refl where
    wider : Inside
    wider = record b { fields = b.fields ++ field d ∷ [] }

    by_name : is_script b.owner ≡ true → (twice : Bool) → is_some (numbered_from 0 d.name b.fields) ≡ twice → Ends asked (IsAmid asked owner) (count asked w) (give d.line (length b.fields, field d) twice d.given wider w)
    by_name e true new = given_twice (IsAmid asked owner) d.line (length b.fields, field d) d.given wider w
    by_name e false new =
        give_does d.line (length b.fields, field d) owner wider
        (record { owned = k.owned; filled = k.filled; fields = wider_fields owner b.fields (field d) (ap is_script (sym k.owned) ∙ e) new h k.fields }) false d.given x w g

    by_script : (s : Bool) → is_script b.owner ≡ s → Ends asked (IsAmid asked owner) (count asked w) ((if s then give d.line (length b.fields, field d) (is_some (numbered_from 0 d.name b.fields)) d.given wider else refuse UnknownField d.line) w)
    by_script true e = by_name e (is_some (numbered_from 0 d.name b.fields)) refl
    by_script false e = tt

  pub declaration_good : (d : Declaration Node) → asked.field (field d) → GoodGiven d.given → GoodItem (item_step (BodyItem-F.Declaration d))
  unfolding item_step
  declaration_good d h x = record { sees = λ o. given_keeps d.given x; does = declared_does d h x }

  pub route_keeps : (route : RouteText) → DoesWell asked (Any asked {A = Unit {0}}) (note_route route)
  route_keeps route w g = done asked (Any asked) tt _ _ (record { put = g.put; given = g.given; sight = g.sight }) tt

  pub route_good : (route : RouteText) → GoodItem (item_step (BodyItem-F.BodyItem::Route route))
  unfolding item_step
  route_good route = record {
    sees = λ o s i. i;
    does = λ owner b w g k. ends_then asked (Any asked) (IsAmid asked owner) (λ _. pure b) (count asked w) (note_route route w) (route_keeps route w g) (λ _ u j p. done asked (IsAmid asked owner) b [] u j k);
  }

  pub proto_item_good : (p : Proto) → GoodProto p → GoodItem (item_step (BodyItem-F.BodyItem::Proto p))
  unfolding item_step
  proto_item_good p h = record {
    sees = λ o. h.sees;
    does = λ owner b w g k. ends_then asked (Any asked) (IsAmid asked owner) (λ _. pure b) (count asked w) (p.does w) (h.does w g) (λ _ u j q. done asked (IsAmid asked owner) b [] u j k);
  }
