-- The parts of a text do alike from walks that differ in numbers alone: values, fields and items.
use Rattle.std.proofs.Common.{◌≡◌, ℕ, Bool, true, false, if◌then◌else◌, List, [], ◌∷◌, ◌++◌, length, Option, Some, None, option_map, bytes_eq, refl, ap, sym, ◌∙◌, subst, arith}
use Rattle.std.specs.Prelude.{◌||◌, is_none, is_some}
use Rattle.std.specs.List.{AllByRecursion, find, list_any}
use Rattle.std.specs.Option.{option_map_or, option_or}
use Rattle.std.proofs.lemmas.List.{length-append, map-append}
use Rattle.x3d_values.specs.Access.{is_initial}
use Rattle.classic_tree.specs.declared.tree.BodyItem.TheOpen.{BodyItem-F}
use Rattle.classic_tree.specs.declared.tree.Declaration.{Declaration}
use Rattle.classic_tree.specs.declared.tree.Given.{Given}
use Rattle.classic_tree.specs.declared.tree.Given.TheVariants as given
use Rattle.classic_tree.specs.declared.tree.RawValue.{RawValue}
use Rattle.classic_tree.specs.declared.tree.RawValue.TheVariants as value
use Rattle.classic_tree.specs.declared.tree.RouteText.{RouteText}
use Rattle.proto_flat.specs.declared.fault.ExpandFaultKind.TheVariants.{UnknownField, BadIs, FieldTwice}
use Rattle.proto_meaning.specs.Limits.{AField, AnItem, item_count}
use Rattle.proto_meaning.specs.Names.{Name, Field, Filled, Scope, pairs, sources, stands_at, targets, value_of}
use Rattle.proto_meaning.specs.Sight.{Names, Sight, aside, is_kept, nodes_in, taken_by, taking}
use Rattle.proto_meaning.specs.Flat.{Does, ◌>>=◌, Node, Item, Stated, Proto, Inside, declare_field, field, fill, fits, give, give_is, give_value, given_sees, is_filled, is_node, is_script, item_step, join, leave_out, meet, met_field, note, note_route, numbered_from, pure, put_in, refuse, through}
use Rattle.proto_meaning.specs.Sizes.{AreSized, size, sizes}
use Rattle.proto_meaning.proofs.SizeWalks.{Any, AsLarge, AsMany, DoAlike, GoAlike, InsideAlike, LastSized, SeesSized, aside_sized, each_sized, if_alike, meet_alike, pure_alike, refuse_alike, see_alike, sees_if, then_alike, through_alike, with_filled, with_taken}

-- ---- parts that do alike, and declare what is sized

pub record NodeSized (n : Node) : Type 0 where
  pub sees : SeesSized n.sees
  pub does : DoAlike Any n.does n.does

pub record ItemSized (m : Item) : Type 0 where
  pub sees : (o : Option Names) → SeesSized (m.sees o)
  pub does : (i : Inside) (filled : List Filled) → sizes filled ≡ sizes i.filled → DoAlike InsideAlike (m.does i) (m.does (with_filled i filled))

pub record StatedSized (s : Stated) : Type 0 where
  pub sees : SeesSized s.1.sees
  pub does : DoAlike AsMany s.1.does s.1.does

pub record ProtoSized (p : Proto) : Type 0 where
  pub sees : SeesSized p.sees
  pub declares : (s : Sight) → AreSized s → LastSized s (p.sees s)
  pub does : DoAlike Any p.does p.does

abbrev pub GivenSized : Given Node → Type 0
GivenSized g = AllByRecursion NodeSized (nodes_in g)

-- ---- values

all_see : (ns : List Node) → AllByRecursion NodeSized ns → AllByRecursion (λ (n : Node). SeesSized n.sees) ns
all_see [] h = tt
all_see (n ∷ ns) h = (h.0.sees, all_see ns h.1)

pub given_sized : (g : Given Node) → GivenSized g → SeesSized (given_sees g)
given_sized g h s k =
    each_sized (λ (n : Node). n.sees) (nodes_in g) (all_see (nodes_in g) h) (record s { taken = taking g s.taken })
    (with_taken s (record s { taken = taking g s.taken }) refl refl k)

pub left_out : (g : Given Node) → GivenSized g → DoAlike (Any {A = Unit {0}}) (leave_out g) (leave_out g)
left_out g h = see_alike (aside (given_sees g)) (aside_sized (given_sees g) (given_sized g h))

abbrev next : Node → List ℕ → Does (List ℕ)
next node ns = node.does >>= λ n. pure (ns ++ n ∷ [])

as_many_more : (ks ls : List ℕ) (a b : ℕ) → AsMany ks ls → AsMany (ks ++ a ∷ []) (ls ++ b ∷ [])
as_many_more ks ls a b e = omega (arith, e, length-append ks (a ∷ []), length-append ls (b ∷ []))

next_alike : (n : Node) → NodeSized n → (ks ls : List ℕ) → AsMany ks ls → DoAlike AsMany (next n ks) (next n ls)
next_alike n h ks ls e =
    then_alike Any AsMany n.does n.does (λ k. pure (ks ++ k ∷ [])) (λ k. pure (ls ++ k ∷ [])) h.does
    (λ a b i. pure_alike AsMany (ks ++ a ∷ []) (ls ++ b ∷ []) (as_many_more ks ls a b e))

all_next : (ns : List Node) → AllByRecursion NodeSized ns → AllByRecursion (λ (n : Node). (ks ls : List ℕ) → AsMany ks ls → DoAlike AsMany (next n ks) (next n ls)) ns
all_next [] h = tt
all_next (n ∷ ns) h = (next_alike n h.0, all_next ns h.1)

same_value : (v : RawValue ℕ) → DoAlike AsLarge (pure v) (pure v)
same_value v = pure_alike AsLarge v v refl

pub value_alike : (v : RawValue Node) → GivenSized (given.Value v) → DoAlike AsLarge (put_in v) (put_in v)
value_alike value.Null h = same_value value.Null
value_alike (value.Truth truth) h = same_value (value.Truth truth)
value_alike (value.String text) h = same_value (value.String text)
value_alike (value.Numbers numbers) h = same_value (value.Numbers numbers)
value_alike (value.Node n) h =
    then_alike Any AsLarge n.does n.does (λ k. pure (value.Node k)) (λ k. pure (value.Node k)) h.0.does
    (λ a b e. pure_alike AsLarge (value.Node a) (value.Node b) refl)
value_alike value.EmptyList h = same_value value.EmptyList
value_alike (value.TruthList truths) h = same_value (value.TruthList truths)
value_alike (value.StringList texts) h = same_value (value.StringList texts)
value_alike (value.NumberList numbers) h = same_value (value.NumberList numbers)
value_alike (value.NodeList ns) h =
    then_alike AsMany AsLarge (through next ns []) (through next ns []) (λ ks. pure (value.NodeList ks)) (λ ks. pure (value.NodeList ks))
    (through_alike AsMany next ns (all_next ns h) [] [] refl)
    (λ a b e. pure_alike AsLarge (value.NodeList a) (value.NodeList b) e)

-- ---- what is given, by its sizes

abbrev size_named : Name → List (Name × Option ℕ) → Option ℕ
size_named name [] = None
size_named name (s ∷ rest) = option_or (if bytes_eq s.0 name then s.1 else None) (size_named name rest)

size_or : (b : Bool) (v o : Option (RawValue ℕ)) → option_map item_count (option_or (if b then v else None) o) ≡ option_or (if b then option_map item_count v else None) (option_map item_count o)
size_or true (Some v) o = refl
size_or true None o = refl
size_or false v o = refl

size_of : (name : Name) (fs : List Filled) → option_map item_count (value_of name fs) ≡ size_named name (sizes fs)
size_of name [] = refl
size_of name (f ∷ fs) =
    size_or (bytes_eq f.name name) f.value (value_of name fs)
    ∙ ap (option_or (if bytes_eq f.name name then option_map item_count f.value else None)) (size_of name fs)

pub size_same : (name : Name) (fs gs : List Filled) → sizes gs ≡ sizes fs → option_map item_count (value_of name gs) ≡ option_map item_count (value_of name fs)
size_same name fs gs e = size_of name gs ∙ ap (size_named name) e ∙ sym (size_of name fs)

none_of : (o : Option (RawValue ℕ)) → is_none (option_map item_count o) ≡ is_none o
none_of None = refl
none_of (Some v) = refl

pub none_same : (u v : Option (RawValue ℕ)) → option_map item_count v ≡ option_map item_count u → is_none v ≡ is_none u
none_same u v e = sym (none_of v) ∙ ap (λ (o : Option ℕ). is_none o) e ∙ none_of u

abbrev or_zero : Option ℕ → ℕ
or_zero o = option_map_or (λ n. n) o 0

count_of : (o : Option (RawValue ℕ)) → option_map_or item_count o 0 ≡ or_zero (option_map item_count o)
count_of None = refl
count_of (Some v) = refl

count_same : (u v : Option (RawValue ℕ)) → option_map item_count v ≡ option_map item_count u → option_map_or item_count v 0 ≡ option_map_or item_count u 0
count_same u v e = count_of v ∙ ap or_zero e ∙ sym (count_of u)

abbrev is_named : Name → List (Name × Option ℕ) → Bool
is_named name ss = list_any (λ (s : Name × Option ℕ). bytes_eq s.0 name) ss

any_size : (name : Name) (fs : List Filled) → list_any (λ (f : Filled). bytes_eq f.name name) fs ≡ is_named name (sizes fs)
any_size name [] = refl
any_size name (f ∷ fs) = ap (λ b. bytes_eq f.name name || b) (any_size name fs)

pub filled_same : (name : Name) (fs gs : List Filled) → sizes gs ≡ sizes fs → list_any (λ (f : Filled). bytes_eq f.name name) gs ≡ list_any (λ (f : Filled). bytes_eq f.name name) fs
filled_same name fs gs e = any_size name gs ∙ ap (is_named name) e ∙ sym (any_size name fs)

pub sizes_more : (fs gs : List Filled) (f g : Filled) → sizes gs ≡ sizes fs → size g ≡ size f → sizes (gs ++ g ∷ []) ≡ sizes (fs ++ f ∷ [])
sizes_more fs gs f g e h = map-append size gs (g ∷ []) ∙ ap (λ ss. ss ++ size g ∷ []) e ∙ ap (λ s. sizes fs ++ s ∷ []) h ∙ sym (map-append size fs (f ∷ []))

-- ---- fields

module _ (line : ℕ) (f : ℕ × Field) (i : Inside) (gs : List Filled) (e : sizes gs ≡ sizes i.filled) where
  abbrev pub j : Inside
  j = with_filled i gs

  abbrev pub one : Option (RawValue ℕ) → Filled
  one v = record { line = line; name = f.1.name; number = f.0; value = v }

  pub fill_alike : (v u : Option (RawValue ℕ)) → option_map item_count u ≡ option_map item_count v → DoAlike InsideAlike (pure (fill line f i v)) (pure (fill line f j u))
  fill_alike v u h = pure_alike InsideAlike (fill line f i v) (fill line f j u) (record {
    filled = gs ++ one u ∷ [];
    same = sizes_more i.filled gs (one v) (one u) e (ap (λ (o : Option ℕ). (f.1.name, o)) h);
    is = refl;
  })

  pub twice_alike : (twice : Bool) (m n : Does Inside) → DoAlike InsideAlike m n → DoAlike InsideAlike (if twice then refuse FieldTwice line else m) (if twice then refuse FieldTwice line else n)
  twice_alike twice m n h = if_alike InsideAlike twice (refuse FieldTwice line) m (refuse FieldTwice line) n (refuse_alike InsideAlike FieldTwice line) h

  pub met_alike : (m n : ℕ) → n ≡ m → DoAlike (Any {A = Unit {0}}) (met_field i.owner f.0 m) (met_field i.owner f.0 n)
  met_alike m n h = meet_alike (if is_node i.owner then AField f.0 m else AnItem) (if is_node i.owner then AField f.0 n else AnItem) (ap (λ k. if is_node i.owner then AField f.0 k else AnItem) h)

  nothing_alike : DoAlike InsideAlike (met_field i.owner f.0 0 >>= λ _. pure (fill line f i None)) (met_field i.owner f.0 0 >>= λ _. pure (fill line f j None))
  nothing_alike = then_alike Any InsideAlike (met_field i.owner f.0 0) (met_field i.owner f.0 0) (λ _. pure (fill line f i None)) (λ _. pure (fill line f j None)) (met_alike 0 0 refl) (λ _ _ _. fill_alike None None refl)

  -- ---- a value

  abbrev rest : RawValue Node → Inside → Bool → Does Inside
  rest v k kept = if kept then (put_in v >>= λ r. pure (fill line f k (Some r))) else leave_out (given.Value v) >>= λ _. pure (fill line f k None)

  rest_alike : (v : RawValue Node) → GivenSized (given.Value v) → (kept : Bool) → DoAlike InsideAlike (rest v i kept) (rest v j kept)
  rest_alike v h kept =
      if_alike InsideAlike kept (put_in v >>= λ r. pure (fill line f i (Some r))) (leave_out (given.Value v) >>= λ _. pure (fill line f i None)) (put_in v >>= λ r. pure (fill line f j (Some r)))
      (leave_out (given.Value v) >>= λ _. pure (fill line f j None))
      (then_alike AsLarge InsideAlike (put_in v) (put_in v) (λ r. pure (fill line f i (Some r))) (λ r. pure (fill line f j (Some r))) (value_alike v h) (λ x y k. fill_alike (Some x) (Some y) (ap (λ (n : ℕ). Some n) k)))
      (then_alike Any InsideAlike (leave_out (given.Value v)) (leave_out (given.Value v)) (λ _. pure (fill line f i None)) (λ _. pure (fill line f j None)) (left_out (given.Value v) h) (λ _ _ _. fill_alike None None refl))

  given_value_alike : (v : RawValue Node) → GivenSized (given.Value v) → DoAlike InsideAlike (give_value line f i v) (give_value line f j v)
  given_value_alike v h =
      then_alike Any InsideAlike (met_field i.owner f.0 (item_count v)) (met_field i.owner f.0 (item_count v)) (λ _. rest v i (is_kept (taken_by (Some i.owner)) f.1.name)) (λ _. rest v j (is_kept (taken_by (Some i.owner)) f.1.name))
      (met_alike (item_count v) (item_count v) refl) (λ _ _ _. rest_alike v h (is_kept (taken_by (Some i.owner)) f.1.name))

  -- ---- IS

  abbrev joined : Name → Scope → Scope
  joined outer s = record s {
    ends = λ all name. s.ends all name ++ (if bytes_eq outer name then option_map_or (λ what. what.ends f.1.name) (stands_at all (Some i.at)) [] else []);
  }

  joined_alike : (outer : Name) → DoAlike (Any {A = Unit {0}}) (note (tt {0}) (joined outer)) (note (tt {0}) (joined outer))
  joined_alike outer w v k = record { met = refl; goes = (tt, record { sight = k.sight; sized = k.sized; braces = k.braces; interface = k.interface; given = k.given }) }

  join_alike : (outer : Name) (v u : Option (RawValue ℕ)) → option_map item_count u ≡ option_map item_count v → DoAlike InsideAlike (join line f i outer v) (join line f j outer u)
  join_alike outer v u h =
      then_alike Any InsideAlike (met_field i.owner f.0 (option_map_or item_count v 0)) (met_field i.owner f.0 (option_map_or item_count u 0))
      (λ _. note (tt {0}) (joined outer) >>= λ _. pure (fill line f i v)) (λ _. note (tt {0}) (joined outer) >>= λ _. pure (fill line f j u))
      (met_alike (option_map_or item_count v 0) (option_map_or item_count u 0) (count_same v u h))
      (λ _ _ _. then_alike Any InsideAlike (note (tt {0}) (joined outer)) (note (tt {0}) (joined outer)) (λ _. pure (fill line f i v)) (λ _. pure (fill line f j u)) (joined_alike outer) (λ _ _ _. fill_alike v u h))

  outer_alike : (twice : Bool) (outer : Option Field) → DoAlike InsideAlike (give_is line f twice i outer) (give_is line f twice j outer)
  outer_alike twice None = refuse_alike InsideAlike BadIs line
  outer_alike twice (Some outer) =
      if_alike InsideAlike (fits outer f.1) (if twice then refuse FieldTwice line else (λ w. join line f i outer.name (value_of outer.name w.scope.given) w)) (refuse BadIs line)
      (if twice then refuse FieldTwice line else (λ w. join line f j outer.name (value_of outer.name w.scope.given) w)) (refuse BadIs line)
      (twice_alike twice (λ w. join line f i outer.name (value_of outer.name w.scope.given) w) (λ w. join line f j outer.name (value_of outer.name w.scope.given) w)
      (λ w v k. join_alike outer.name (value_of outer.name w.scope.given) (value_of outer.name v.scope.given) (size_same outer.name w.scope.given v.scope.given k.given) w v k))
      (refuse_alike InsideAlike BadIs line)

  abbrev named : Name → List Field → Option Field
  named outer fs = find (λ (o : Field). bytes_eq o.name outer) fs

  is_alike : (twice : Bool) (x : Name) → DoAlike InsideAlike (λ w. give_is line f twice i (named x w.scope.interface) w) (λ v. give_is line f twice j (named x v.scope.interface) v)
  is_alike twice x w v k =
      subst (λ fs. GoAlike InsideAlike (give_is line f twice i (named x w.scope.interface) w) (give_is line f twice j (named x fs) v))
      (sym k.interface) (outer_alike twice (named x w.scope.interface) w v k)

  pub give_alike : (twice : Bool) (g : Given Node) → GivenSized g → DoAlike InsideAlike (give line f twice g i) (give line f twice g j)
  give_alike twice given.Nothing k = twice_alike twice (met_field i.owner f.0 0 >>= λ _. pure (fill line f i None)) (met_field i.owner f.0 0 >>= λ _. pure (fill line f j None)) nothing_alike
  give_alike twice (given.Is x) k = is_alike twice x
  give_alike twice (given.Value v) k =
      if_alike InsideAlike (is_node i.owner || is_initial f.1.access) (if twice then refuse FieldTwice line else give_value line f i v) (refuse UnknownField line) (if twice then refuse FieldTwice line else give_value line f j v) (refuse UnknownField line)
      (twice_alike twice (give_value line f i v) (give_value line f j v) (given_value_alike v k)) (refuse_alike InsideAlike UnknownField line)

-- ---- items

found_alike : (line : ℕ) (g : Given Node) → GivenSized g → (i : Inside) (gs : List Filled) → sizes gs ≡ sizes i.filled → (twice : Bool) (o : Option (ℕ × Field))
    → DoAlike InsideAlike (option_map_or (λ f. give line f twice g i) o (refuse UnknownField line)) (option_map_or (λ f. give line f twice g (with_filled i gs)) o (refuse UnknownField line))
found_alike line g k i gs e twice None = refuse_alike InsideAlike UnknownField line
found_alike line g k i gs e twice (Some f) = give_alike line f i gs e twice g k

pub field_sized : (line : ℕ) (name : Name) (g : Given Node) → GivenSized g → ItemSized (item_step (BodyItem-F.Field line name g))
unfolding item_step
field_sized line name g k = record {
  sees = λ o. sees_if (is_kept o name) (given_sees g) (aside (given_sees g)) (given_sized g k) (aside_sized (given_sees g) (given_sized g k));
  does = λ i gs e. subst (λ twice. DoAlike InsideAlike (option_map_or (λ f. give line f (is_filled name i) g i) (numbered_from 0 name i.fields) (refuse UnknownField line)) (option_map_or (λ f. give line f twice g (with_filled i gs)) (numbered_from 0 name i.fields) (refuse UnknownField line)))
      (sym (filled_same name i.filled gs e)) (found_alike line g k i gs e (is_filled name i) (numbered_from 0 name i.fields));
}

abbrev wider : Declaration Node → Inside → Inside
wider d i = record i { fields = i.fields ++ field d ∷ [] }

declare_alike : (d : Declaration Node) → GivenSized d.given → (i : Inside) (gs : List Filled) → sizes gs ≡ sizes i.filled → DoAlike InsideAlike (declare_field d i) (declare_field d (with_filled i gs))
declare_alike d k i gs e =
    if_alike InsideAlike (is_script i.owner) (give d.line (length i.fields, field d) (is_some (numbered_from 0 d.name i.fields)) d.given (wider d i)) (refuse UnknownField d.line)
    (give d.line (length i.fields, field d) (is_some (numbered_from 0 d.name i.fields)) d.given (wider d (with_filled i gs))) (refuse UnknownField d.line)
    (give_alike d.line (length i.fields, field d) (wider d i) gs e (is_some (numbered_from 0 d.name i.fields)) d.given k) (refuse_alike InsideAlike UnknownField d.line)

pub declaration_sized : (d : Declaration Node) → GivenSized d.given → ItemSized (item_step (BodyItem-F.Declaration d))
unfolding item_step
declaration_sized d k = record { sees = λ o. given_sized d.given k; does = declare_alike d k }

inside_again : (i : Inside) (gs : List Filled) → sizes gs ≡ sizes i.filled → DoAlike InsideAlike (pure i) (pure (with_filled i gs))
inside_again i gs e = pure_alike InsideAlike i (with_filled i gs) (record { filled = gs; same = e; is = refl })

abbrev noted : RouteText → Scope → Scope
noted route s = record s {
  routes = λ all. s.routes all ++ pairs route.line (sources s.braces all route.source) (targets s.braces all route.target);
}

pub route_alike : (route : RouteText) → DoAlike (Any {A = Unit {0}}) (note_route route) (note_route route)
route_alike route =
    then_alike Any Any (meet AnItem) (meet AnItem) (λ _. note (tt {0}) (noted route)) (λ _. note (tt {0}) (noted route)) (meet_alike AnItem AnItem refl)
    (λ _ _ _ w v k. record { met = refl; goes = (tt, record { sight = k.sight; sized = k.sized; braces = k.braces; interface = k.interface; given = k.given }) })

pub route_sized : (route : RouteText) → ItemSized (item_step (BodyItem-F.BodyItem::Route route))
unfolding item_step
route_sized route = record {
  sees = λ o s k. k;
  does = λ i gs e. then_alike Any InsideAlike (note_route route) (note_route route) (λ _. pure i) (λ _. pure (with_filled i gs)) (route_alike route) (λ _ _ _. inside_again i gs e);
}

pub proto_item_sized : (p : Proto) → ProtoSized p → ItemSized (item_step (BodyItem-F.BodyItem::Proto p))
unfolding item_step
proto_item_sized p h = record {
  sees = λ o. h.sees;
  does = λ i gs e. then_alike Any InsideAlike p.does p.does (λ _. pure i) (λ _. pure (with_filled i gs)) h.does (λ _ _ _. inside_again i gs e);
}
