-- Two walks that put in the same, beside each other.
use Rattle.std.proofs.Common.{◌≡◌, ℕ, Bool, true, false, if◌then◌else◌, List, [], ◌∷◌, ◌++◌, Option, Some, None, Result, Ok, Err, refl, ap, sym, ◌∙◌, subst}
use Rattle.std.specs.List.{find}
use Rattle.std.specs.Option.{option_map_or}
use Rattle.std.specs.Str.{bytes_eq}
use Rattle.classic_tree.specs.declared.tree.Given.{Given}
use Rattle.classic_tree.specs.declared.tree.Given.TheVariants as given
use Rattle.classic_tree.specs.declared.tree.RawValue.{RawValue}
use Rattle.x3d_values.specs.declared.node_type.NodeType.{NodeType}
use Rattle.proto_flat.specs.declared.fault.ExpandFault.{ExpandFault}
use Rattle.proto_flat.specs.declared.fault.ExpandFaultKind.{ExpandFaultKind}
use Rattle.proto_flat.specs.declared.fault.ExpandFaultKind.TheVariants.{FieldTwice, BadIs}
use Rattle.proto_meaning.specs.Limits.{Met, ANode, AnInstance, AField, AnItem, Outcome, item_count, behind, follow}
use Rattle.proto_meaning.specs.Names.{Field, Filled, Braces}
use Rattle.proto_meaning.specs.Sight.{Sight, OfType}
use Rattle.proto_meaning.specs.Flat.{Walk, Does, ◌>>=◌, pure, refuse, meet, Node, Inside, put_in, fill, give_is, give_value, give}

-- all that is met but instances
abbrev pub less : List Met → List Met
less [] = []
less (AnInstance ∷ ms) = less ms
less (ANode ∷ ms) = ANode ∷ less ms
less (AField number items ∷ ms) = AField number items ∷ less ms
less (AnItem ∷ ms) = AnItem ∷ less ms

less_append : (ms ns : List Met) → less (ms ++ ns) ≡ less ms ++ less ns
less_append [] ns = refl
less_append (AnInstance ∷ ms) ns = less_append ms ns
less_append (ANode ∷ ms) ns = ap (λ l. ANode ∷ l) (less_append ms ns)
less_append (AField number items ∷ ms) ns = ap (λ l. AField number items ∷ l) (less_append ms ns)
less_append (AnItem ∷ ms) ns = ap (λ l. AnItem ∷ l) (less_append ms ns)

abbrev pub Equal : {A : Type 0} → A → A → Type 0
Equal a b = b ≡ a

module _ (one two : Sight) where
  -- the same was put in; nothing that IS could take, and no ROUTE
  pub record Beside (w v : Walk) : Type 0 where
    pub put : v.put ≡ w.put
    pub one_sight : w.sight ≡ one
    pub two_sight : v.sight ≡ two
    pub one_interface : w.scope.interface ≡ []
    pub two_interface : v.scope.interface ≡ []
    pub one_routes : (all : List Braces) → w.scope.routes all ≡ []
    pub two_routes : (all : List Braces) → v.scope.routes all ≡ []

  abbrev pub EndAlike : {A B : Type 0} → (A → B → Type 0) → Result (A × Walk) ExpandFault → Result (B × Walk) ExpandFault → Type 0
  EndAlike R (Ok p) (Ok q) = R p.0 q.0 × Beside p.1 q.1
  EndAlike R (Err e) (Err f) = f ≡ e
  EndAlike R (Ok p) (Err f) = ⊥
  EndAlike R (Err e) (Ok q) = ⊥

  abbrev pub ComeAlike : {A B : Type 0} → (A → B → Type 0) → Outcome (A × Walk) → Outcome (B × Walk) → Type 0
  ComeAlike R o p = (p.met ≡ less o.met) × EndAlike R o.comes p.comes

  abbrev pub Alike : {A B : Type 0} → (A → B → Type 0) → Does A → Does B → Type 0
  Alike R m n = (w v : Walk) → Beside w v → ComeAlike R (m w) (n v)

  pub behind_alike : {A B : Type 0} (R : A → B → Type 0) (met more : List Met) (o : Outcome (A × Walk)) (p : Outcome (B × Walk)) → more ≡ less met → ComeAlike R o p → ComeAlike R (behind met o) (behind more p)
  behind_alike R met more o p e h = (ap (λ m. m ++ p.met) e ∙ ap (λ m. less met ++ m) h.0 ∙ sym (less_append met o.met), h.1)

  follow_alike : {A B C D : Type 0} (R : A → B → Type 0) (Q : C → D → Type 0) (f : A → Does C) (g : B → Does D) (met more : List Met) (c : Result (A × Walk) ExpandFault) (d : Result (B × Walk) ExpandFault)
      → more ≡ less met → EndAlike R c d → ((a : A) (b : B) → R a b → Alike Q (f a) (g b)) → ComeAlike Q (follow met c (λ p. f p.0 p.1)) (follow more d (λ p. g p.0 p.1))
  follow_alike R Q f g met more (Ok p) (Ok q) e h k = behind_alike Q met more (f p.0 p.1) (g q.0 q.1) e (k p.0 q.0 h.0 p.1 q.1 h.1)
  follow_alike R Q f g met more (Err x) (Err y) e h k = (e, h)
  follow_alike R Q f g met more (Ok p) (Err y) e h k = absurd h
  follow_alike R Q f g met more (Err x) (Ok q) e h k = absurd h

  pub then_alike : {A B C D : Type 0} (R : A → B → Type 0) (Q : C → D → Type 0) (m : Does A) (n : Does B) (f : A → Does C) (g : B → Does D) → Alike R m n → ((a : A) (b : B) → R a b → Alike Q (f a) (g b)) → Alike Q (m >>= f) (n >>= g)
  then_alike R Q m n f g h k w v b = follow_alike R Q f g (m w).met (n v).met (m w).comes (n v).comes (h w v b).0 (h w v b).1 k

  pub pure_alike : {A B : Type 0} (R : A → B → Type 0) (a : A) (b : B) → R a b → Alike R (pure a) (pure b)
  pure_alike R a b r w v h = (refl, (r, h))

  pub refuse_alike : {A B : Type 0} (R : A → B → Type 0) (kind : ExpandFaultKind) (line : ℕ) → Alike R (refuse kind line) (refuse kind line)
  refuse_alike R kind line w v h = (refl, refl)

  pub if_alike : {A B : Type 0} (R : A → B → Type 0) (c : Bool) (m k : Does A) (n l : Does B) → Alike R m n → Alike R k l → Alike R (if c then m else k) (if c then n else l)
  if_alike R true m k n l h j = h
  if_alike R false m k n l h j = j

  pub option_alike : {X A B : Type 0} (R : A → B → Type 0) (o : Option X) (f : X → Does A) (g : X → Does B) (m : Does A) (n : Does B) → ((x : X) → Alike R (f x) (g x)) → Alike R m n → Alike R (option_map_or f o m) (option_map_or g o n)
  option_alike R None f g m n h k = k
  option_alike R (Some x) f g m n h k = h x

  -- ---- values and fields

  abbrev pub inside_of : ℕ → NodeType → List Field → List Filled → Inside
  inside_of at t fields filled = record { at = at; owner = OfType t; fields = fields; filled = filled }

  -- the same between both pairs of braces, but for their places
  pub record InsideAlike (at to : ℕ) (t : NodeType) (i j : Inside) : Type 0 where
    pub fields : List Field
    pub filled : List Filled
    pub first : i ≡ inside_of at t fields filled
    pub second : j ≡ inside_of to t fields filled

  abbrev pub GivenAlike : Given Node → Given Node → Type 0
  GivenAlike given.Nothing given.Nothing = Unit {0}
  GivenAlike (given.Is a) (given.Is b) = b ≡ a
  GivenAlike (given.Value v) (given.Value u) = (item_count u ≡ item_count v) × Alike Equal (put_in v) (put_in u)
  GivenAlike _ _ = ⊥

  field_met : {A B : Type 0} (R : A → B → Type 0) (number n k : ℕ) (m : Does A) (o : Does B) → k ≡ n → Alike R m o → Alike R (meet (AField number n) >>= λ _. m) (meet (AField number k) >>= λ _. o)
  field_met R number n k m o e h w v b = (ap (λ i. AField number i ∷ (o v).met) e ∙ ap (λ l. AField number n ∷ l) (h w v b).0, (h w v b).1)

  filled_alike : (line : ℕ) (f : ℕ × Field) (at to : ℕ) (t : NodeType) (fields : List Field) (filled : List Filled) (r : Option (RawValue ℕ)) → InsideAlike at to t (fill line f (inside_of at t fields filled) r) (fill line f (inside_of to t fields filled) r)
  filled_alike line f at to t fields filled r = record { fields = fields; filled = filled ++ record { line = line; name = f.1.name; number = f.0; value = r } ∷ []; first = refl; second = refl }

  pub give_alike : (line : ℕ) (f : ℕ × Field) (twice : Bool) (g h : Given Node) (at to : ℕ) (t : NodeType) (fields : List Field) (filled : List Filled) → GivenAlike g h
      → Alike (InsideAlike at to t) (give line f twice g (inside_of at t fields filled)) (give line f twice h (inside_of to t fields filled))
  give_alike line f twice given.Nothing given.Nothing at to t fields filled k =
      if_alike (InsideAlike at to t) twice (refuse FieldTwice line) (meet (AField f.0 0) >>= λ _. pure (fill line f (inside_of at t fields filled) None)) (refuse FieldTwice line) (meet (AField f.0 0) >>= λ _. pure (fill line f (inside_of to t fields filled) None))
      (refuse_alike (InsideAlike at to t) FieldTwice line)
      (field_met (InsideAlike at to t) f.0 0 0 (pure (fill line f (inside_of at t fields filled) None)) (pure (fill line f (inside_of to t fields filled) None)) refl
      (pure_alike (InsideAlike at to t) (fill line f (inside_of at t fields filled) None) (fill line f (inside_of to t fields filled) None) (filled_alike line f at to t fields filled None)))
  give_alike line f twice given.Nothing (given.Is b) at to t fields filled k = absurd k
  give_alike line f twice given.Nothing (given.Value u) at to t fields filled k = absurd k
  give_alike line f twice (given.Is a) given.Nothing at to t fields filled k = absurd k
  give_alike line f twice (given.Is a) (given.Is b) at to t fields filled k = λ w v h.
      subst (λ (o : Outcome (Inside × Walk)). ComeAlike (InsideAlike at to t) o (give line f twice (given.Is b) (inside_of to t fields filled) v)) (sym (ap (λ fs. give_is line f twice (inside_of at t fields filled) (find (λ (o : Field). bytes_eq o.name a) fs) w) h.one_interface))
      (subst (λ (o : Outcome (Inside × Walk)). ComeAlike (InsideAlike at to t) (refuse {A = Inside} BadIs line w) o) (sym (ap (λ fs. give_is line f twice (inside_of to t fields filled) (find (λ (o : Field). bytes_eq o.name b) fs) v) h.two_interface)) (refl, refl))
  give_alike line f twice (given.Is a) (given.Value u) at to t fields filled k = absurd k
  give_alike line f twice (given.Value v) given.Nothing at to t fields filled k = absurd k
  give_alike line f twice (given.Value v) (given.Is b) at to t fields filled k = absurd k
  give_alike line f twice (given.Value v) (given.Value u) at to t fields filled k =
      if_alike (InsideAlike at to t) twice (refuse FieldTwice line) (give_value line f (inside_of at t fields filled) v) (refuse FieldTwice line) (give_value line f (inside_of to t fields filled) u)
      (refuse_alike (InsideAlike at to t) FieldTwice line)
      (field_met (InsideAlike at to t) f.0 (item_count v) (item_count u) (put_in v >>= λ r. pure (fill line f (inside_of at t fields filled) (Some r))) (put_in u >>= λ r. pure (fill line f (inside_of to t fields filled) (Some r))) k.0
      (then_alike Equal (InsideAlike at to t) (put_in v) (put_in u) (λ r. pure (fill line f (inside_of at t fields filled) (Some r))) (λ r. pure (fill line f (inside_of to t fields filled) (Some r))) k.1
      (λ a b e. pure_alike (InsideAlike at to t) (fill line f (inside_of at t fields filled) (Some a)) (fill line f (inside_of to t fields filled) (Some b))
      (subst (λ x. InsideAlike at to t (fill line f (inside_of at t fields filled) (Some a)) (fill line f (inside_of to t fields filled) (Some x))) (sym e) (filled_alike line f at to t fields filled (Some a))))))
