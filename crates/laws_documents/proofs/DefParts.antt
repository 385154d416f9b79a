-- The parts of a text with other DEF names: values, fields and items.
use Rattle.std.proofs.Common.{◌≡◌, ℕ, Bool, if◌then◌else◌, List, [], ◌∷◌, ◌++◌, length, Option, Some, None, Result, Ok, Err, map, bytes_eq, refl, ap, sym, ◌∙◌, subst}
use Rattle.std.specs.Prelude.{◌||◌, is_some}
use Rattle.std.specs.List.{find}
use Rattle.std.specs.Option.{option_map_or}
use Rattle.x3d_values.specs.Access.{is_initial}
use Rattle.classic_tree.specs.declared.tree.BodyItem.TheOpen.{BodyItem-F}
use Rattle.classic_tree.specs.declared.tree.Declaration.{Declaration}
use Rattle.classic_tree.specs.declared.tree.Given.{Given}
use Rattle.classic_tree.specs.declared.tree.Given.TheVariants as given
use Rattle.classic_tree.specs.declared.tree.RawValue.{RawValue}
use Rattle.classic_tree.specs.declared.tree.RawValue.TheVariants as value
use Rattle.classic_tree.specs.declared.tree.RouteText.{RouteText}
use Rattle.proto_flat.specs.declared.fault.ExpandFaultKind.TheVariants.{UnknownField, BadIs, FieldTwice}
use Rattle.proto_flat.specs.declared.flat.FlatEnd.{FlatEnd}
use Rattle.proto_meaning.specs.Limits.{AField, AnItem, item_count}
use Rattle.proto_meaning.specs.Names.{Name, Field, Stands, Braces, Scope, stands_at, value_of}
use Rattle.proto_meaning.specs.Sight.{Names, Owner, OfType, OfProto, and_see, aside, each, is_kept, nodes_in, taken_by, taking}
use Rattle.proto_meaning.specs.Flat.{Does, ◌>>=◌, Node, Item, Stated, Proto, Inside, declare_field, field, fill, fits, give, give_is, give_value, given_finds, given_sees, is_filled, is_node, is_script, item_step, join, leave_out, met_field, note, note_route, numbered_from, pure, put_in, refuse, through}
use Rattle.laws_documents.specs.RenamedDefs.{route_in}
use Rattle.laws_documents.proofs.LineWalks.{Both, Equal}
use Rattle.laws_documents.proofs.DefWalks.{Alike, Apart, DoesAlike, InsideAlike, OwnerAlike, SeesAlike, aside_alike, each_alike, if_alike, meet_alike, other_braces, owned_by, pure_alike, refuse_alike, see_alike, sees_if, then_alike, through_alike}
use Rattle.laws_documents.proofs.DefSteps.{route_alike, stands_same}

-- ---- parts that are alike

abbrev pub FindsAlike : (Name → Bool → Result Bool ℕ) → (Name → Bool → Result Bool ℕ) → Type 0
FindsAlike m n = (own : Name) (hidden : Bool) → n own hidden ≡ m own hidden

pub record NodeAlike (r : Name → Name) (m n : Node) : Type 0 where
  pub finds : FindsAlike m.finds n.finds
  pub sees : SeesAlike m.sees n.sees
  pub does : DoesAlike r (Equal {A = ℕ}) m.does n.does

pub record ItemAlike (r : Name → Name) (m n : Item) : Type 0 where
  pub finds : FindsAlike m.finds n.finds
  pub sees : (o : Option Names) → SeesAlike (m.sees o) (n.sees o)
  pub does : (b : Inside) (owner : Owner) → OwnerAlike b.owner owner → DoesAlike r InsideAlike (m.does b) (n.does (owned_by owner b))

pub record StatedAlike (r : Name → Name) (m n : Stated) : Type 0 where
  pub kind : n.0 ≡ m.0
  pub finds : FindsAlike m.1.finds n.1.finds
  pub sees : SeesAlike m.1.sees n.1.sees
  pub does : DoesAlike r (Equal {A = List ℕ}) m.1.does n.1.does

pub record ProtoAlike (r : Name → Name) (m n : Proto) : Type 0 where
  pub finds : FindsAlike m.finds n.finds
  pub sees : SeesAlike m.sees n.sees
  pub does : DoesAlike r (Equal {A = Unit {0}}) m.does n.does

-- ---- values

abbrev KindAlike : (Name → Name) → Given Node → Given Node → Type 0
KindAlike r given.Nothing given.Nothing = Unit {0}
KindAlike r (given.Is a) (given.Is b) = b ≡ a
KindAlike r (given.Value u) (given.Value v) = (item_count v ≡ item_count u) × DoesAlike r (Equal {A = RawValue ℕ}) (put_in u) (put_in v)
KindAlike r _ _ = ⊥

pub record GivenAlike (r : Name → Name) (g h : Given Node) : Type 0 where
  pub kind : KindAlike r g h
  pub nodes : Both (NodeAlike r) (nodes_in g) (nodes_in h)

pub found_then : (r q : Result Bool ℕ) (f g : Bool → Result Bool ℕ) → q ≡ r → ((b : Bool) → g b ≡ f b) → and_see q g ≡ and_see r f
found_then (Ok b) q f g e k = ap (λ x. and_see x g) e ∙ k b
found_then (Err line) q f g e k = ap (λ x. and_see x g) e

pub each_found : {A B : Type 0} (I : A → B → Type 0) (f : A → Bool → Result Bool ℕ) (g : B → Bool → Result Bool ℕ) → ((a : A) (b : B) → I a b → (hidden : Bool) → g b hidden ≡ f a hidden) → (xs : List A) (ys : List B) → Both I xs ys
    → (hidden : Bool) → each g ys hidden ≡ each f xs hidden
each_found I f g k [] [] h hidden = refl
each_found I f g k [] (y ∷ ys) h hidden = absurd h
each_found I f g k (x ∷ xs) [] h hidden = absurd h
each_found I f g k (x ∷ xs) (y ∷ ys) h hidden = found_then (f x hidden) (g y hidden) (each f xs) (each g ys) (k x y h.0 hidden) (λ b. each_found I f g k xs ys h.1 b)

module _ (r : Name → Name) where
  pub given_found : (g h : Given Node) → GivenAlike r g h → FindsAlike (given_finds g) (given_finds h)
  given_found g h k own hidden = each_found (NodeAlike r) (λ (n : Node). n.finds own) (λ (n : Node). n.finds own) (λ m n i b. i.finds own b) (nodes_in g) (nodes_in h) k.nodes hidden

  taking_same : (g h : Given Node) → KindAlike r g h → (names : Names) → taking h names ≡ taking g names
  taking_same given.Nothing given.Nothing k names = refl
  taking_same given.Nothing (given.Is b) k names = absurd k
  taking_same given.Nothing (given.Value v) k names = absurd k
  taking_same (given.Is a) given.Nothing k names = absurd k
  taking_same (given.Is a) (given.Is b) k names = ap (λ (name : Name). taking {N = Node} (given.Is name) names) k
  taking_same (given.Is a) (given.Value v) k names = absurd k
  taking_same (given.Value u) given.Nothing k names = absurd k
  taking_same (given.Value u) (given.Is b) k names = absurd k
  taking_same (given.Value u) (given.Value v) k names = refl

  pub given_saw : (g h : Given Node) → GivenAlike r g h → SeesAlike (given_sees g) (given_sees h)
  given_saw g h k s t i =
      each_alike (NodeAlike r) (λ (n : Node). n.sees) (λ (n : Node). n.sees) (λ m n j. j.sees) (nodes_in g) (nodes_in h) k.nodes (record s { taken = taking g s.taken }) (record t { taken = taking h t.taken })
      (record { here = i.here; outside = i.outside; taken = ap (taking h) i.taken ∙ taking_same g h k.kind s.taken })

  pub left_out : (g h : Given Node) → GivenAlike r g h → DoesAlike r (Equal {A = Unit {0}}) (leave_out g) (leave_out h)
  left_out g h k = see_alike r (aside (given_sees g)) (aside (given_sees h)) (aside_alike (given_sees g) (given_sees h) (given_saw g h k))

  abbrev next : Node → List ℕ → Does (List ℕ)
  next node ns = node.does >>= λ n. pure (ns ++ n ∷ [])

  next_alike : (m n : Node) → NodeAlike r m n → (ks ls : List ℕ) → ls ≡ ks → DoesAlike r (Equal {A = List ℕ}) (next m ks) (next n ls)
  next_alike m n h ks ls e =
      then_alike r Equal Equal m.does n.does (λ k. pure (ks ++ k ∷ [])) (λ k. pure (ls ++ k ∷ [])) h.does
      (λ a b i. pure_alike r Equal (ks ++ a ∷ []) (ls ++ b ∷ []) (ap (λ ns. ns ++ b ∷ []) e ∙ ap (λ k. ks ++ k ∷ []) i))

  pub list_alike : (ms ns : List Node) → Both (NodeAlike r) ms ns → DoesAlike r (Equal {A = RawValue ℕ}) (put_in (value.NodeList ms)) (put_in (value.NodeList ns))
  list_alike ms ns h =
      then_alike r Equal Equal (through next ms []) (through next ns []) (λ ks. pure (value.NodeList ks)) (λ ks. pure (value.NodeList ks)) (through_alike r (NodeAlike r) Equal next next next_alike ms ns h [] [] refl)
      (λ a b e. pure_alike r Equal (value.NodeList a) (value.NodeList b) (ap (λ ks. value.NodeList ks) e))

  pub node_value : (m n : Node) → NodeAlike r m n → DoesAlike r (Equal {A = RawValue ℕ}) (put_in (value.Node m)) (put_in (value.Node n))
  node_value m n h = then_alike r Equal Equal m.does n.does (λ k. pure (value.Node k)) (λ k. pure (value.Node k)) h.does (λ a b e. pure_alike r Equal (value.Node a) (value.Node b) (ap (λ k. value.Node k) e))

-- ---- fields

node_same : (p q : Owner) → OwnerAlike p q → is_node q ≡ is_node p
node_same (OfType t) (OfType u) h = refl
node_same (OfProto p) (OfProto q) h = refl
node_same (OfType t) (OfProto q) h = absurd h
node_same (OfProto p) (OfType u) h = absurd h

kept_same : (p q : Owner) → OwnerAlike p q → (name : Name) → is_kept (taken_by (Some q)) name ≡ is_kept (taken_by (Some p)) name
kept_same (OfType t) (OfType u) h name = refl
kept_same (OfProto p) (OfProto q) h name = ap (λ (taken : Names). taken name) h.takes
kept_same (OfType t) (OfProto q) h name = absurd h
kept_same (OfProto p) (OfType u) h name = absurd h

script_same : (p q : Owner) → OwnerAlike p q → is_script q ≡ is_script p
script_same (OfType t) (OfType u) h = ap (λ t. is_script (OfType t)) h
script_same (OfProto p) (OfProto q) h = refl
script_same (OfType t) (OfProto q) h = absurd h
script_same (OfProto p) (OfType u) h = absurd h

met_alike : (r : Name → Name) (p q : Owner) → OwnerAlike p q → (number m n : ℕ) → n ≡ m → DoesAlike r (Equal {A = Unit {0}}) (met_field p number m) (met_field q number n)
met_alike r p q h number m n e =
    meet_alike r (if is_node p then AField number m else AnItem) (if is_node q then AField number n else AnItem) (ap (λ b. if b then AField number n else AnItem) (node_same p q h) ∙ ap (λ k. if is_node p then AField number k else AnItem) e)

module _ (r : Name → Name) (good : Apart r) (line : ℕ) (f : ℕ × Field) (b : Inside) (owner : Owner) (own : OwnerAlike b.owner owner) where
  abbrev c : Inside
  c = owned_by owner b

  filled : (v : Option (RawValue ℕ)) → InsideAlike (fill line f b v) (fill line f c v)
  filled v = record { owner = owner; owned = own; is = refl }

  fill_alike : (v u : Option (RawValue ℕ)) → u ≡ v → DoesAlike r InsideAlike (pure (fill line f b v)) (pure (fill line f c u))
  fill_alike v u e = pure_alike r InsideAlike (fill line f b v) (fill line f c u) (subst (λ (x : Option (RawValue ℕ)). InsideAlike (fill line f b v) (fill line f c x)) (sym e) (filled v))

  twice_alike : (twice : Bool) (m n : Does Inside) → DoesAlike r InsideAlike m n → DoesAlike r InsideAlike (if twice then refuse FieldTwice line else m) (if twice then refuse FieldTwice line else n)
  twice_alike twice m n h = if_alike r InsideAlike twice (refuse FieldTwice line) m (refuse FieldTwice line) n (refuse_alike r InsideAlike FieldTwice line) h

  nothing_alike : DoesAlike r InsideAlike (met_field b.owner f.0 0 >>= λ _. pure (fill line f b None)) (met_field owner f.0 0 >>= λ _. pure (fill line f c None))
  nothing_alike = then_alike r Equal InsideAlike (met_field b.owner f.0 0) (met_field owner f.0 0) (λ _. pure (fill line f b None)) (λ _. pure (fill line f c None)) (met_alike r b.owner owner own f.0 0 0 refl) (λ _ _ e. fill_alike None None refl)

  -- ---- a value

  abbrev rest : Inside → RawValue Node → Bool → Does Inside
  rest i v kept = if kept then (put_in v >>= λ x. pure (fill line f i (Some x))) else leave_out (given.Value v) >>= λ _. pure (fill line f i None)

  rest_alike : (u v : RawValue Node) → GivenAlike r (given.Value u) (given.Value v) → (kept : Bool) → DoesAlike r InsideAlike (rest b u kept) (rest c v kept)
  rest_alike u v h kept =
      if_alike r InsideAlike kept (put_in u >>= λ x. pure (fill line f b (Some x))) (leave_out (given.Value u) >>= λ _. pure (fill line f b None)) (put_in v >>= λ x. pure (fill line f c (Some x)))
      (leave_out (given.Value v) >>= λ _. pure (fill line f c None))
      (then_alike r Equal InsideAlike (put_in u) (put_in v) (λ x. pure (fill line f b (Some x))) (λ x. pure (fill line f c (Some x))) h.kind.1 (λ x y e. fill_alike (Some x) (Some y) (ap (λ z. Some z) e)))
      (then_alike r Equal InsideAlike (leave_out (given.Value u)) (leave_out (given.Value v)) (λ _. pure (fill line f b None)) (λ _. pure (fill line f c None)) (left_out r (given.Value u) (given.Value v) h) (λ _ _ e. fill_alike None None refl))

  value_alike : (u v : RawValue Node) → GivenAlike r (given.Value u) (given.Value v) → DoesAlike r InsideAlike (give_value line f b u) (give_value line f c v)
  value_alike u v h =
      subst (λ kept. DoesAlike r InsideAlike (give_value line f b u) (met_field owner f.0 (item_count v) >>= λ _. rest c v kept)) (sym (kept_same b.owner owner own f.1.name))
      (then_alike r Equal InsideAlike (met_field b.owner f.0 (item_count u)) (met_field owner f.0 (item_count v)) (λ _. rest b u (is_kept (taken_by (Some b.owner)) f.1.name)) (λ _. rest c v (is_kept (taken_by (Some b.owner)) f.1.name))
      (met_alike r b.owner owner own f.0 (item_count u) (item_count v) h.kind.0) (λ _ _ e. rest_alike u v h (is_kept (taken_by (Some b.owner)) f.1.name)))

  -- ---- IS

  abbrev end_of : Name → List Braces → Name → List FlatEnd
  end_of outer all name = if bytes_eq outer name then option_map_or (λ what. what.ends f.1.name) (stands_at all (Some b.at)) [] else []

  end_same : (outer : Name) (all : List Braces) (name : Name) → end_of outer (map (other_braces r) all) name ≡ end_of outer all name
  end_same outer all name = ap (λ s. if bytes_eq outer name then option_map_or (λ (what : Stands). what.ends f.1.name) s [] else []) (stands_same r good all (Some b.at))

  abbrev joined : Name → Scope → Scope
  joined outer s = record s { ends = λ all name. s.ends all name ++ end_of outer all name }

  joined_alike : (outer : Name) → DoesAlike r (Equal {A = Unit {0}}) (note (tt {0}) (joined outer)) (note (tt {0}) (joined outer))
  joined_alike outer w v k = record {
    met = refl;
    comes_to = (
      refl,
      record {
        put = k.put;
        sight = k.sight;
        scope = record {
          braces = k.scope.braces;
          routes = k.scope.routes;
          ends = λ all name. ap (λ es. es ++ end_of outer (map (other_braces r) all) name) (k.scope.ends all name) ∙ ap (λ es. w.scope.ends all name ++ es) (end_same outer all name);
          interface = k.scope.interface;
          given = k.scope.given;
        };
      },
    );
  }

  join_alike : (outer : Name) (v u : Option (RawValue ℕ)) → u ≡ v → DoesAlike r InsideAlike (join line f b outer v) (join line f c outer u)
  join_alike outer v u e =
      then_alike r Equal InsideAlike (met_field b.owner f.0 (option_map_or item_count v 0)) (met_field owner f.0 (option_map_or item_count u 0))
      (λ _. note (tt {0}) (joined outer) >>= λ _. pure (fill line f b v)) (λ _. note (tt {0}) (joined outer) >>= λ _. pure (fill line f c u))
      (met_alike r b.owner owner own f.0 (option_map_or item_count v 0) (option_map_or item_count u 0) (ap (λ x. option_map_or item_count x 0) e))
      (λ _ _ _. then_alike r Equal InsideAlike (note (tt {0}) (joined outer)) (note (tt {0}) (joined outer)) (λ _. pure (fill line f b v)) (λ _. pure (fill line f c u)) (joined_alike outer) (λ _ _ _. fill_alike v u e))

  outer_alike : (twice : Bool) (outer : Option Field) → DoesAlike r InsideAlike (give_is line f twice b outer) (give_is line f twice c outer)
  outer_alike twice None = refuse_alike r InsideAlike BadIs line
  outer_alike twice (Some outer) =
      if_alike r InsideAlike (fits outer f.1) (if twice then refuse FieldTwice line else (λ w. join line f b outer.name (value_of outer.name w.scope.given) w)) (refuse BadIs line)
      (if twice then refuse FieldTwice line else (λ w. join line f c outer.name (value_of outer.name w.scope.given) w)) (refuse BadIs line)
      (twice_alike twice (λ w. join line f b outer.name (value_of outer.name w.scope.given) w) (λ w. join line f c outer.name (value_of outer.name w.scope.given) w)
      (λ w v k. join_alike outer.name (value_of outer.name w.scope.given) (value_of outer.name v.scope.given) (ap (value_of outer.name) k.scope.given) w v k))
      (refuse_alike r InsideAlike BadIs line)

  abbrev named : Name → List Field → Option Field
  named outer fs = find (λ (o : Field). bytes_eq o.name outer) fs

  is_alike : (twice : Bool) (x y : Name) → y ≡ x → DoesAlike r InsideAlike (λ w. give_is line f twice b (named x w.scope.interface) w) (λ v. give_is line f twice c (named y v.scope.interface) v)
  is_alike twice x y e w v k =
      subst (λ o. Alike r InsideAlike (give_is line f twice b (named x w.scope.interface) w) (give_is line f twice c o v))
      (sym (ap (λ z. named z v.scope.interface) e ∙ ap (named x) k.scope.interface)) (outer_alike twice (named x w.scope.interface) w v k)

  pub give_alike : (twice : Bool) (g h : Given Node) → GivenAlike r g h → DoesAlike r InsideAlike (give line f twice g b) (give line f twice h c)
  give_alike twice given.Nothing given.Nothing k = twice_alike twice (met_field b.owner f.0 0 >>= λ _. pure (fill line f b None)) (met_field owner f.0 0 >>= λ _. pure (fill line f c None)) nothing_alike
  give_alike twice given.Nothing (given.Is y) k = absurd k.kind
  give_alike twice given.Nothing (given.Value v) k = absurd k.kind
  give_alike twice (given.Is x) given.Nothing k = absurd k.kind
  give_alike twice (given.Is x) (given.Is y) k = is_alike twice x y k.kind
  give_alike twice (given.Is x) (given.Value v) k = absurd k.kind
  give_alike twice (given.Value u) given.Nothing k = absurd k.kind
  give_alike twice (given.Value u) (given.Is y) k = absurd k.kind
  give_alike twice (given.Value u) (given.Value v) k =
      subst (λ n. DoesAlike r InsideAlike (give line f twice (given.Value u) b) (if n || is_initial f.1.access then (if twice then refuse FieldTwice line else give_value line f c v) else refuse UnknownField line)) (sym (node_same b.owner owner own))
      (if_alike r InsideAlike (is_node b.owner || is_initial f.1.access) (if twice then refuse FieldTwice line else give_value line f b u) (refuse UnknownField line) (if twice then refuse FieldTwice line else give_value line f c v) (refuse UnknownField line)
      (twice_alike twice (give_value line f b u) (give_value line f c v) (value_alike u v k)) (refuse_alike r InsideAlike UnknownField line))

-- ---- items

module _ (r : Name → Name) (good : Apart r) where
  found_alike : (line : ℕ) (name : Name) (g h : Given Node) → GivenAlike r g h → (b : Inside) (owner : Owner) → OwnerAlike b.owner owner → (twice : Bool) (o : Option (ℕ × Field))
      → DoesAlike r InsideAlike (option_map_or (λ f. give line f twice g b) o (refuse UnknownField line)) (option_map_or (λ f. give line f twice h (owned_by owner b)) o (refuse UnknownField line))
  found_alike line name g h k b owner own twice None = refuse_alike r InsideAlike UnknownField line
  found_alike line name g h k b owner own twice (Some f) = give_alike r good line f b owner own twice g h k

  pub field_alike : (line : ℕ) (name : Name) (g h : Given Node) → GivenAlike r g h → ItemAlike r (item_step (BodyItem-F.Field line name g)) (item_step (BodyItem-F.Field line name h))
  unfolding item_step
  field_alike line name g h k = record {
    finds = given_found r g h k;
    sees = λ o. sees_if (is_kept o name) (given_sees g) (aside (given_sees g)) (given_sees h) (aside (given_sees h)) (given_saw r g h k) (aside_alike (given_sees g) (given_sees h) (given_saw r g h k));
    does = λ b owner own. found_alike line name g h k b owner own (is_filled name b) (numbered_from 0 name b.fields);
  }

  abbrev wider : Declaration Node → Inside → Inside
  wider d b = record b { fields = b.fields ++ field d ∷ [] }

  module _ (d e : Declaration Node) (same : e ≡ record d { given = e.given }) (k : GivenAlike r d.given e.given) (b : Inside) (owner : Owner) (own : OwnerAlike b.owner owner) where
    abbrev new : Declaration Node
    new = record d { given = e.given }

    abbrev of_new : Declaration Node → Inside → Does Inside
    of_new x i = give x.line (length b.fields, field x) (is_some (numbered_from 0 x.name b.fields)) x.given i

    declare_alike : DoesAlike r InsideAlike (declare_field d b) (declare_field e (owned_by owner b))
    declare_alike =
        subst (λ (y : Declaration Node). DoesAlike r InsideAlike (declare_field d b) (declare_field y (owned_by owner b))) (sym same)
        (subst (λ s. DoesAlike r InsideAlike (declare_field d b) (if s then of_new new (wider new (owned_by owner b)) else refuse UnknownField d.line)) (sym (script_same b.owner owner own))
        (if_alike r InsideAlike (is_script b.owner) (of_new d (wider d b)) (refuse UnknownField d.line) (of_new new (wider new (owned_by owner b))) (refuse UnknownField d.line)
        (give_alike r good d.line (length b.fields, field d) (wider d b) owner own (is_some (numbered_from 0 d.name b.fields)) d.given e.given k)
        (refuse_alike r InsideAlike UnknownField d.line)))

  pub declaration_alike : (d e : Declaration Node) → e ≡ record d { given = e.given } → GivenAlike r d.given e.given → ItemAlike r (item_step (BodyItem-F.Declaration d)) (item_step (BodyItem-F.Declaration e))
  unfolding item_step
  declaration_alike d e same k = record {
    finds = given_found r d.given e.given k;
    sees = λ o. given_saw r d.given e.given k;
    does = λ b owner own. declare_alike d e same k b owner own;
  }

  inside_again : (b : Inside) (owner : Owner) → OwnerAlike b.owner owner → DoesAlike r InsideAlike (pure b) (pure (owned_by owner b))
  inside_again b owner own = pure_alike r InsideAlike b (owned_by owner b) (record { owner = owner; owned = own; is = refl })

  pub route_item_alike : (route : RouteText) → ItemAlike r (item_step (BodyItem-F.BodyItem::Route route)) (item_step (BodyItem-F.BodyItem::Route (route_in r route)))
  unfolding item_step
  route_item_alike route = record {
    finds = λ own hidden. refl;
    sees = λ o s t i. i;
    does = λ b owner own. then_alike r Equal InsideAlike (note_route route) (note_route (route_in r route)) (λ _. pure b) (λ _. pure (owned_by owner b)) (route_alike r good route) (λ _ _ _. inside_again b owner own);
  }

  pub proto_item_alike : (p q : Proto) → ProtoAlike r p q → ItemAlike r (item_step (BodyItem-F.BodyItem::Proto p)) (item_step (BodyItem-F.BodyItem::Proto q))
  unfolding item_step
  proto_item_alike p q h = record {
    finds = h.finds;
    sees = λ o. h.sees;
    does = λ b owner own. then_alike r Equal InsideAlike p.does q.does (λ _. pure b) (λ _. pure (owned_by owner b)) h.does (λ _ _ _. inside_again b owner own);
  }
