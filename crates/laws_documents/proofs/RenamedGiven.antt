-- Values and fields with other names of prototypes in sight.
use Rattle.std.proofs.Common.{◌≡◌, ℕ, Bool, true, false, if◌then◌else◌, List, [], ◌∷◌, ◌++◌, Option, Some, None, option_map, Result, Ok, Err, map, refl, ap, sym, ◌∙◌}
use Rattle.std.specs.Prelude.{◌||◌}
use Rattle.std.specs.List.{AllByRecursion, find}
use Rattle.std.specs.Option.{option_or, option_map_or}
use Rattle.std.specs.Str.{bytes_eq}
use Rattle.std.proofs.lemmas.Slice.Eq.{bytes_eq-Decides}
use Rattle.std.proofs.lemmas.List.{map-append}
use Rattle.x3d_values.specs.Names.{node_type_named}
use Rattle.x3d_values.specs.Access.{is_initial}
use Rattle.classic_tree.specs.declared.tree.Given.{Given}
use Rattle.classic_tree.specs.declared.tree.Given.TheVariants as given
use Rattle.classic_tree.specs.declared.tree.RawValue.{RawValue}
use Rattle.proto_flat.specs.declared.fault.ExpandFaultKind.TheVariants.{UnknownField, FieldTwice, BadIs}
use Rattle.proto_meaning.specs.Limits.{Met, AField, AnItem, Outcome, item_count, behind, follow}
use Rattle.proto_meaning.specs.Names.{Name, Field, value_of, stands_at}
use Rattle.proto_meaning.specs.Sight.{Prototype, Sight, Look, Names, Search, and_see, each, aside, no_names, nodes_in, Owner, OfType, OfProto, declared, meant, taken_by, is_kept}
use Rattle.proto_meaning.specs.Flat.{Walk, Does, ◌>>=◌, comes, pure, refuse, through, see, Node, Inside, given_finds, given_sees, leave_out, put_in, met_field, meet, note, is_node, is_script, fits, fill, join, give_is, give_value, give}
use Rattle.proto_meaning.proofs.SightLaw.{Seen}
use Rattle.laws_documents.specs.Renamed.{IsRenaming}
use Rattle.laws_documents.proofs.Maps.{Maps, mapped, maps_then, maps_if}

abbrev pub same : {A : Type 0} → A → A
same a = a

module _ (rename : Name → Name) (good : IsRenaming rename) where
  -- ---- what is in sight, with other names

  abbrev pub other : Prototype → Prototype
  other p = record p { name = rename p.name }

  abbrev pub others : Sight → Sight
  others s = record s { here = map other s.here; outside = map other s.outside }

  abbrev pub walked : Walk → Walk
  walked w = record w { sight = others w.sight }

  abbrev pub other_owner : Owner → Owner
  other_owner (OfType t) = OfType t
  other_owner (OfProto p) = OfProto (other p)

  abbrev pub within : Inside → Inside
  within i = record i { owner = other_owner i.owner }

  abbrev pub seen : Seen → Seen
  seen (Ok s) = Ok (others s)
  seen (Err e) = Err e

  -- a step does the same with other names
  abbrev pub Sees : Look → Look → Type 0
  Sees p q = (s : Sight) → q (others s) ≡ seen (p s)

  abbrev pub Keeps : {A B : Type 0} → (A → B) → Does A → Does B → Type 0
  Keeps a m n = Maps walked a m n

  pub is_node_other : (o : Owner) → is_node (other_owner o) ≡ is_node o
  is_node_other (OfType t) = refl
  is_node_other (OfProto p) = refl

  pub is_script_other : (o : Owner) → is_script (other_owner o) ≡ is_script o
  is_script_other (OfType t) = refl
  is_script_other (OfProto p) = refl

  pub taken_other : (o : Owner) → taken_by (Some (other_owner o)) ≡ taken_by (Some o)
  taken_other (OfType t) = refl
  taken_other (OfProto p) = refl

  -- ---- names

  same_test : (a b : Bool) → (a ≡ true → b ≡ true) → (b ≡ true → a ≡ true) → a ≡ b
  same_test true b h k = sym (h refl)
  same_test false true h k = k refl
  same_test false false h k = refl

  pub apart : (a b : Name) → bytes_eq (rename a) (rename b) ≡ bytes_eq a b
  apart a b =
      same_test (bytes_eq (rename a) (rename b)) (bytes_eq a b)
      (λ e. (bytes_eq-Decides a b).1 (good.apart a b ((bytes_eq-Decides (rename a) (rename b)).0 e)))
      (λ e. (bytes_eq-Decides (rename a) (rename b)).1 (ap rename ((bytes_eq-Decides a b).0 e)))

  pub declared_other : (name : Name) (ps : List Prototype) → declared (rename name) (map other ps) ≡ option_map other (declared name ps)
  declared_other name [] = refl
  declared_other name (p ∷ ps) =
      ap (λ b. if b then Some (other p) else declared (rename name) (map other ps)) (apart name p.name) ∙ by_test (bytes_eq name p.name) (declared_other name ps) where
        by_test : (b : Bool) → declared (rename name) (map other ps) ≡ option_map other (declared name ps) → (if b then Some (other p) else declared (rename name) (map other ps)) ≡ option_map other (if b then Some p else declared name ps)
        by_test true e = refl
        by_test false e = e

  or_owner : (o : Option Owner) (p : Option Prototype) → option_or (option_map other_owner o) (option_map OfProto (option_map other p)) ≡ option_map other_owner (option_or o (option_map OfProto p))
  or_owner (Some o) p = refl
  or_owner None (Some p) = refl
  or_owner None None = refl

  types_stay : (o : Option _) → option_map OfType o ≡ option_map other_owner (option_map OfType o)
  types_stay (Some t) = refl
  types_stay None = refl

  pub meant_other : (word : Name) (s : Sight) → meant (rename word) (others s) ≡ option_map other_owner (meant word s)
  meant_other word s =
      ap (λ t. option_or (option_map OfType t) (option_map OfProto (declared (rename word) (map other s.here ++ map other s.outside)))) (good.types word)
      ∙ ap (λ ps. option_or (option_map OfType (node_type_named word)) (option_map OfProto (declared (rename word) ps))) (sym (map-append other s.here s.outside))
      ∙ ap (λ p. option_or (option_map OfType (node_type_named word)) (option_map OfProto p)) (declared_other word (s.here ++ s.outside))
      ∙ ap (λ o. option_or o (option_map OfProto (option_map other (declared word (s.here ++ s.outside))))) (types_stay (node_type_named word))
      ∙ or_owner (option_map OfType (node_type_named word)) (declared word (s.here ++ s.outside))

  -- ---- steps

  then_seen : (r : Seen) (f g : Look) → Sees f g → and_see (seen r) g ≡ seen (and_see r f)
  then_seen (Ok s) f g h = h s
  then_seen (Err e) f g h = refl

  pub sees_then : (p q f g : Look) → Sees p q → Sees f g → Sees (λ s. and_see (p s) f) (λ s. and_see (q s) g)
  sees_then p q f g h k s = ap (λ r. and_see r g) (h s) ∙ then_seen (p s) f g k

  back : (r : Seen) (names : Names) → and_see {Y = Sight} (seen r) (λ t. Ok (record t { taken = names })) ≡ seen (and_see r (λ t. Ok (record t { taken = names })))
  back (Ok t) names = refl
  back (Err e) names = refl

  pub sees_aside : (p q : Look) → Sees p q → Sees (aside p) (aside q)
  sees_aside p q h s = ap (λ r. and_see {Y = Sight} r (λ t. Ok (record t { taken = s.taken }))) (h (record s { taken = no_names })) ∙ back (p (record s { taken = no_names })) s.taken

  pub keeps_see : (p q : Look) → Sees p q → Keeps same (see p) (see q)
  keeps_see p q h w = ap (λ r. follow [] r (λ s. comes (Ok (tt {0}, record w { sight = s })))) (h w.sight) ∙ on (p w.sight) where
    on : (r : Seen) → follow [] (seen r) (λ s. comes (Ok (tt {0}, record w { sight = s }))) ≡ mapped walked same (follow [] r (λ s. comes (Ok (tt {0}, record w { sight = s }))))
    on (Ok s) = refl
    on (Err e) = refl

  -- ---- parts two by two

  abbrev pub Both : {X : Type 0} → (X → X → Type 0) → List X → List X → Type 0
  Both R [] [] = Unit {0}
  Both R (x ∷ xs) (y ∷ ys) = R x y × Both R xs ys
  Both R _ _ = ⊥

  pub both_map : {X Y : Type 0} (R : Y → Y → Type 0) (of : X → Y) (ren : X → X) (xs : List X) → AllByRecursion (λ x. R (of x) (of (ren x))) xs → Both R (map of xs) (map of (map ren xs))
  both_map R of ren [] h = tt
  both_map R of ren (x ∷ xs) h = (h.0, both_map R of ren xs h.1)

  pub each_sees : {X : Type 0} (R : X → X → Type 0) (f g : X → Look) → ((x y : X) → R x y → Sees (f x) (g y)) → (xs ys : List X) → Both R xs ys → Sees (each f xs) (each g ys)
  each_sees R f g k [] [] h s = refl
  each_sees R f g k [] (y ∷ ys) h s = absurd h
  each_sees R f g k (x ∷ xs) [] h s = absurd h
  each_sees R f g k (x ∷ xs) (y ∷ ys) h s = sees_then (f x) (g y) (each f xs) (each g ys) (k x y h.0) (each_sees R f g k xs ys h.1) s

  found_next : {f g : Bool → Result Bool ℕ} (r : Result Bool ℕ) → ((b : Bool) → g b ≡ f b) → and_see r g ≡ and_see r f
  found_next (Ok b) k = k b
  found_next (Err line) k = refl

  pub each_found : {X : Type 0} (R : X → X → Type 0) (f g : X → Search) → ((x y : X) → R x y → (hidden : Bool) → g y hidden ≡ f x hidden) → (xs ys : List X) → Both R xs ys → (hidden : Bool) → each g ys hidden ≡ each f xs hidden
  each_found R f g k [] [] h hidden = refl
  each_found R f g k [] (y ∷ ys) h hidden = absurd h
  each_found R f g k (x ∷ xs) [] h hidden = absurd h
  each_found R f g k (x ∷ xs) (y ∷ ys) h hidden = ap (λ r. and_see r (each g ys)) (k x y h.0 hidden) ∙ found_next (f x hidden) (each_found R f g k xs ys h.1)

  pub through_keeps : {X A : Type 0} (R : X → X → Type 0) (a : A → A) (f g : X → A → Does A) → ((x y : X) → R x y → (v : A) → Keeps a (f x v) (g y (a v))) → (xs ys : List X) → Both R xs ys → (v : A) → Keeps a (through f xs v) (through g ys (a v))
  through_keeps R a f g k [] [] h v w = refl
  through_keeps R a f g k [] (y ∷ ys) h v w = absurd h
  through_keeps R a f g k (x ∷ xs) [] h v w = absurd h
  through_keeps R a f g k (x ∷ xs) (y ∷ ys) h v w = maps_then walked a a (f x v) (g y (a v)) (through f xs) (through g ys) (k x y h.0 v) (λ u. through_keeps R a f g k xs ys h.1 u) w

  -- ---- values

  pub record NodeKeeps (m n : Node) : Type 0 where
    pub finds : (own : Name) (hidden : Bool) → n.finds (rename own) hidden ≡ m.finds own hidden
    pub sees : Sees m.sees n.sees
    pub does : Keeps same m.does n.does

  abbrev pub GivenKeeps : Given Node → Given Node → Type 0
  GivenKeeps given.Nothing given.Nothing = Unit {0}
  GivenKeeps (given.Is a) (given.Is b) = b ≡ a
  GivenKeeps (given.Value v) (given.Value u) =
      (item_count u ≡ item_count v) × Both NodeKeeps (nodes_in (given.Value v)) (nodes_in (given.Value u)) × Keeps same (put_in v) (put_in u)
  GivenKeeps _ _ = ⊥

  pub given_sees_keeps : (g h : Given Node) → GivenKeeps g h → Sees (given_sees g) (given_sees h)
  given_sees_keeps given.Nothing given.Nothing k s = refl
  given_sees_keeps given.Nothing (given.Is b) k s = absurd k
  given_sees_keeps given.Nothing (given.Value u) k s = absurd k
  given_sees_keeps (given.Is a) given.Nothing k s = absurd k
  given_sees_keeps (given.Is a) (given.Is b) k s = ap (λ name. given_sees (given.Is name) (others s)) k
  given_sees_keeps (given.Is a) (given.Value u) k s = absurd k
  given_sees_keeps (given.Value v) given.Nothing k s = absurd k
  given_sees_keeps (given.Value v) (given.Is b) k s = absurd k
  given_sees_keeps (given.Value v) (given.Value u) k s =
      each_sees NodeKeeps (λ (n : Node). n.sees) (λ (n : Node). n.sees) (λ x y r. r.sees) (nodes_in (given.Value v)) (nodes_in (given.Value u)) k.1 s

  pub given_found : (g h : Given Node) → GivenKeeps g h → (own : Name) (hidden : Bool) → given_finds h (rename own) hidden ≡ given_finds g own hidden
  given_found given.Nothing given.Nothing k own hidden = refl
  given_found given.Nothing (given.Is b) k own hidden = absurd k
  given_found given.Nothing (given.Value u) k own hidden = absurd k
  given_found (given.Is a) given.Nothing k own hidden = absurd k
  given_found (given.Is a) (given.Is b) k own hidden = refl
  given_found (given.Is a) (given.Value u) k own hidden = absurd k
  given_found (given.Value v) given.Nothing k own hidden = absurd k
  given_found (given.Value v) (given.Is b) k own hidden = absurd k
  given_found (given.Value v) (given.Value u) k own hidden =
      each_found NodeKeeps (λ (n : Node). n.finds own) (λ (n : Node). n.finds (rename own)) (λ x y r. r.finds own) (nodes_in (given.Value v)) (nodes_in (given.Value u)) k.1 hidden

  pub leave_keeps : (g h : Given Node) → GivenKeeps g h → Keeps same (leave_out g) (leave_out h)
  leave_keeps g h k = keeps_see (aside (given_sees g)) (aside (given_sees h)) (sees_aside (given_sees g) (given_sees h) (given_sees_keeps g h k))

  -- ---- what a field is given

  abbrev by_owner : (line : ℕ) (f : ℕ × Field) (i : Inside) (u : RawValue Node) (b : Bool) (o : Option Names) → Does Inside
  by_owner line f i u b o =
      meet (if b then AField f.0 (item_count u) else AnItem)
      >>= λ _. if is_kept o f.1.name then (put_in u >>= λ r. pure (fill line f i (Some r)))
      else leave_out (given.Value u) >>= λ _. pure (fill line f i None)

  value_keeps : (line : ℕ) (f : ℕ × Field) (i : Inside) (v u : RawValue Node) → GivenKeeps (given.Value v) (given.Value u) → Keeps within (give_value line f i v) (give_value line f (within i) u)
  value_keeps line f i v u k w =
      ap (λ b. by_owner line f (within i) u b (taken_by (Some (within i).owner)) (walked w)) (is_node_other i.owner)
      ∙ ap (λ o. by_owner line f (within i) u (is_node i.owner) o (walked w)) (taken_other i.owner)
      ∙ ap (λ n. (meet (if is_node i.owner then AField f.0 n else AnItem)
      >>= λ _. if is_kept (taken_by (Some i.owner)) f.1.name then (put_in u >>= λ r. pure (fill line f (within i) (Some r)))
      else leave_out (given.Value u) >>= λ _. pure (fill line f (within i) None)) (walked w)) k.0
      ∙ ap (behind ((if is_node i.owner then AField f.0 (item_count v) else AnItem) ∷ []))
      (maps_if walked within (is_kept (taken_by (Some i.owner)) f.1.name)
      (put_in v >>= λ r. pure (fill line f i (Some r))) (leave_out (given.Value v) >>= λ _. pure (fill line f i None))
      (put_in u >>= λ r. pure (fill line f (within i) (Some r))) (leave_out (given.Value u) >>= λ _. pure (fill line f (within i) None))
      (maps_then walked same within (put_in v) (put_in u) (λ r. pure (fill line f i (Some r))) (λ r. pure (fill line f (within i) (Some r))) k.2 (λ r x. refl))
      (maps_then walked same within (leave_out (given.Value v)) (leave_out (given.Value u)) (λ _. pure (fill line f i None)) (λ _. pure (fill line f (within i) None)) (leave_keeps (given.Value v) (given.Value u) k) (λ _ x. refl)) w)

  join_keeps : (line : ℕ) (f : ℕ × Field) (i : Inside) (outer : Name) (v : Option (RawValue ℕ)) → Keeps within (join line f i outer v) (join line f (within i) outer v)
  join_keeps line f i outer v w = ap (λ b. joined (if b then AField f.0 (option_map_or item_count v 0) else AnItem)) (is_node_other i.owner) where
    joined : Met → Outcome (Inside × Walk)
    joined met = (meet met >>= λ _. note (tt {0}) (λ s. record s {
      ends = λ all name. s.ends all name ++ (if bytes_eq outer name
          then option_map_or (λ what. what.ends f.1.name) (stands_at all (Some i.at)) [] else []);
    }) >>= λ _. pure (fill line f (within i) v)) (walked w)

  is_keeps : (line : ℕ) (f : ℕ × Field) (twice : Bool) (i : Inside) (o : Option Field) → Keeps within (give_is line f twice i o) (give_is line f twice (within i) o)
  is_keeps line f twice i None w = refl
  is_keeps line f twice i (Some outer) w =
      maps_if walked within (fits outer f.1)
      (if twice then refuse FieldTwice line else (λ x. join line f i outer.name (value_of outer.name x.scope.given) x)) (refuse BadIs line)
      (if twice then refuse FieldTwice line else (λ x. join line f (within i) outer.name (value_of outer.name x.scope.given) x)) (refuse BadIs line)
      (maps_if walked within twice (refuse FieldTwice line) (λ x. join line f i outer.name (value_of outer.name x.scope.given) x) (refuse FieldTwice line) (λ x. join line f (within i) outer.name (value_of outer.name x.scope.given) x)
      (λ x. refl) (λ x. join_keeps line f i outer.name (value_of outer.name x.scope.given) x)) (λ x. refl) w

  pub give_keeps : (line : ℕ) (f : ℕ × Field) (twice : Bool) (g h : Given Node) (i : Inside) → GivenKeeps g h → Keeps within (give line f twice g i) (give line f twice h (within i))
  give_keeps line f twice given.Nothing given.Nothing i k w =
      maps_if walked within twice (refuse FieldTwice line) (met_field i.owner f.0 0 >>= λ _. pure (fill line f i None)) (refuse FieldTwice line) (met_field (within i).owner f.0 0 >>= λ _. pure (fill line f (within i) None))
      (λ x. refl) (λ x. ap (λ b. (meet (if b then AField f.0 0 else AnItem) >>= λ _. pure (fill line f (within i) None)) (walked x)) (is_node_other i.owner)) w
  give_keeps line f twice given.Nothing (given.Is b) i k w = absurd k
  give_keeps line f twice given.Nothing (given.Value u) i k w = absurd k
  give_keeps line f twice (given.Is a) given.Nothing i k w = absurd k
  give_keeps line f twice (given.Is a) (given.Is b) i k w =
      ap (λ name. give line f twice (given.Is name) (within i) (walked w)) k
      ∙ is_keeps line f twice i (find (λ o. bytes_eq o.name a) w.scope.interface) w
  give_keeps line f twice (given.Is a) (given.Value u) i k w = absurd k
  give_keeps line f twice (given.Value v) given.Nothing i k w = absurd k
  give_keeps line f twice (given.Value v) (given.Is b) i k w = absurd k
  give_keeps line f twice (given.Value v) (given.Value u) i k w =
      ap (λ b. (if b || is_initial f.1.access then (if twice then refuse FieldTwice line else give_value line f (within i) u) else refuse UnknownField line) (walked w)) (is_node_other i.owner)
      ∙ maps_if walked within (is_node i.owner || is_initial f.1.access)
      (if twice then refuse FieldTwice line else give_value line f i v) (refuse UnknownField line)
      (if twice then refuse FieldTwice line else give_value line f (within i) u) (refuse UnknownField line)
      (maps_if walked within twice (refuse FieldTwice line) (give_value line f i v) (refuse FieldTwice line) (give_value line f (within i) u) (λ x. refl) (value_keeps line f i v u k)) (λ x. refl) w
