-- Walks that differ in lines alone, and outcomes that do.
use Rattle.std.proofs.Common.{◌≡◌, ℕ, Bool, true, false, if◌then◌else◌, List, [], ◌∷◌, ◌++◌, option_map, Result, Ok, Err, map, refl, ap, ◌∙◌}
use Rattle.proto_flat.specs.declared.fault.ExpandFault.{ExpandFault}
use Rattle.proto_flat.specs.declared.fault.ExpandFaultKind.{ExpandFaultKind}
use Rattle.proto_meaning.specs.Limits.{Met, Outcome, follow}
use Rattle.proto_meaning.specs.Names.{Name, Field, Filled, Stands, Braces, Scope}
use Rattle.proto_meaning.specs.Sight.{Put, Instance, Prototype, Sight, Look, Owner, OfType, OfProto, and_see, aside, each, no_names}
use Rattle.proto_meaning.specs.Flat.{Walk, Does, ◌>>=◌, Inside, comes, meet, pure, refuse, see, through}
use Rattle.laws_documents.specs.Lines.{unlined_declaration, unlined_flat_node, unlined_flat_route}

-- ---- without lines

abbrev pub bare_field : Field → Field
bare_field f = unlined_declaration f

abbrev pub bare_fields : List Field → List Field
bare_fields fs = map bare_field fs

abbrev pub bare_filled : Filled → Filled
bare_filled f = record f { line = 0 }

abbrev pub bare_stands : Stands → Stands
bare_stands s = record s { interface = option_map bare_fields s.interface }

abbrev pub bare_braces : Braces → Braces
bare_braces b = record b { stands = option_map bare_stands b.stands }

abbrev pub bare_put : Put → Put
bare_put p = record p { nodes = map unlined_flat_node p.nodes }

abbrev pub bare_fault : ExpandFault → ExpandFault
bare_fault e = record e { line = 0 }

abbrev pub bare_instance : Instance → Instance
bare_instance i = record i { routes = map unlined_flat_route i.routes; put = bare_put i.put }

abbrev pub bare_result : Result Instance ExpandFault → Result Instance ExpandFault
bare_result (Ok i) = Ok (bare_instance i)
bare_result (Err e) = Err (bare_fault e)

abbrev pub bare_made : Outcome Instance → Outcome Instance
bare_made o = record { met = o.met; comes = bare_result o.comes }

-- ---- alike

abbrev pub Equal : {A : Type 0} → A → A → Type 0
Equal a b = b ≡ a

module _ {A B : Type 0} (R : A → B → Type 0) where
  abbrev pub Both : List A → List B → Type 0
  Both [] [] = Unit {0}
  Both (a ∷ as') (b ∷ bs) = R a b × Both as' bs
  Both [] (b ∷ bs) = ⊥
  Both (a ∷ as') [] = ⊥

  pub both_append : (as' bs : List A) (cs ds : List B) → Both as' cs → Both bs ds → Both (as' ++ bs) (cs ++ ds)
  both_append [] bs [] ds h k = k
  both_append [] bs (c ∷ cs) ds h k = absurd h
  both_append (a ∷ as') bs [] ds h k = absurd h
  both_append (a ∷ as') bs (c ∷ cs) ds h k = (h.0, both_append as' bs cs ds h.1 k)

-- an instance of the one is an instance of the other
pub record PrototypeAlike (p q : Prototype) : Type 0 where
  pub name : q.name ≡ p.name
  pub interface : q.interface ≡ bare_fields p.interface
  pub takes : q.takes ≡ p.takes
  pub instance : (given : List Filled) (put : Put) → q.instance (map bare_filled given) (bare_put put) ≡ bare_made (p.instance given put)

abbrev pub PrototypesAlike : List Prototype → List Prototype → Type 0
PrototypesAlike ps qs = Both PrototypeAlike ps qs

pub record SightAlike (s t : Sight) : Type 0 where
  pub here : PrototypesAlike s.here t.here
  pub outside : PrototypesAlike s.outside t.outside
  pub taken : t.taken ≡ s.taken

pub record ScopeAlike (s t : Scope) : Type 0 where
  pub braces : t.braces ≡ map bare_braces s.braces
  pub routes : (all : List Braces) → t.routes (map bare_braces all) ≡ map unlined_flat_route (s.routes all)
  pub ends : (all : List Braces) (name : Name) → t.ends (map bare_braces all) name ≡ s.ends all name
  pub interface : t.interface ≡ bare_fields s.interface
  pub given : t.given ≡ map bare_filled s.given

pub record WalkAlike (w v : Walk) : Type 0 where
  pub put : v.put ≡ bare_put w.put
  pub sight : SightAlike w.sight v.sight
  pub scope : ScopeAlike w.scope v.scope

-- ---- outcomes

abbrev pub ComesAlike : {A B : Type 0} → (A → B → Type 0) → Result (A × Walk) ExpandFault → Result (B × Walk) ExpandFault → Type 0
ComesAlike R (Ok p) (Ok q) = R p.0 q.0 × WalkAlike p.1 q.1
ComesAlike R (Err e) (Err f) = f ≡ bare_fault e
ComesAlike R (Ok p) (Err f) = ⊥
ComesAlike R (Err e) (Ok q) = ⊥

pub record Alike {A B : Type 0} (R : A → B → Type 0) (o : Outcome (A × Walk)) (q : Outcome (B × Walk)) : Type 0 where
  pub met : q.met ≡ o.met
  pub comes_to : ComesAlike R o.comes q.comes

abbrev pub DoesAlike : {A B : Type 0} → (A → B → Type 0) → Does A → Does B → Type 0
DoesAlike R m n = (w v : Walk) → WalkAlike w v → Alike R (m w) (n v)

module _ {A B : Type 0} (R : A → B → Type 0) where
  pub pure_alike : (a : A) (b : B) → R a b → DoesAlike R (pure a) (pure b)
  pure_alike a b h w v k = record { met = refl; comes_to = (h, k) }

  pub refuse_alike : (kind : ExpandFaultKind) (line : ℕ) → DoesAlike R (refuse kind line) (refuse kind 0)
  refuse_alike kind line w v k = record { met = refl; comes_to = refl }

  pub if_alike : (b : Bool) (m k : Does A) (n l : Does B) → DoesAlike R m n → DoesAlike R k l → DoesAlike R (if b then m else k) (if b then n else l)
  if_alike true m k n l h g = h
  if_alike false m k n l h g = g

pub meet_alike : (m n : Met) → n ≡ m → DoesAlike (Equal {A = Unit {0}}) (meet m) (meet n)
meet_alike m n e w v k = record { met = ap (λ (x : Met). x ∷ []) e; comes_to = (refl, k) }

module _ {A B C D : Type 0} (R : A → B → Type 0) (S : C → D → Type 0) where
  behind_alike : (m n : List Met) (o : Outcome (C × Walk)) (q : Outcome (D × Walk)) → n ≡ m → Alike S o q → Alike S (record { met = m ++ o.met; comes = o.comes }) (record { met = n ++ q.met; comes = q.comes })
  behind_alike m n o q e h = record { met = ap (λ x. x ++ q.met) e ∙ ap (λ x. m ++ x) h.met; comes_to = h.comes_to }

  follow_alike : (f : A → Does C) (g : B → Does D) (m n : List Met) (c : Result (A × Walk) ExpandFault) (d : Result (B × Walk) ExpandFault) → n ≡ m → ComesAlike R c d → ((a : A) (b : B) → R a b → DoesAlike S (f a) (g b))
      → Alike S (follow m c (λ p. f p.0 p.1)) (follow n d (λ p. g p.0 p.1))
  follow_alike f g m n (Ok p) (Ok q) e h k = behind_alike m n (f p.0 p.1) (g q.0 q.1) e (k p.0 q.0 h.0 p.1 q.1 h.1)
  follow_alike f g m n (Err x) (Err y) e h k = record { met = e; comes_to = h }
  follow_alike f g m n (Ok p) (Err y) e h k = absurd h
  follow_alike f g m n (Err x) (Ok q) e h k = absurd h

  pub then_alike : (m : Does A) (n : Does B) (f : A → Does C) (g : B → Does D) → DoesAlike R m n → ((a : A) (b : B) → R a b → DoesAlike S (f a) (g b)) → DoesAlike S (λ w. (m >>= f) w) (λ v. (n >>= g) v)
  then_alike m n f g h k w v i = follow_alike f g (m w).met (n v).met (m w).comes (n v).comes (h w v i).met (h w v i).comes_to k

module _ {A B X Y : Type 0} (I : A → B → Type 0) (S : X → Y → Type 0) (f : A → X → Does X) (g : B → Y → Does Y) (k : (a : A) (b : B) → I a b → (x : X) (y : Y) → S x y → DoesAlike S (f a x) (g b y)) where
  pub through_alike : (as' : List A) (bs : List B) → Both I as' bs → (x : X) (y : Y) → S x y → DoesAlike S (through f as' x) (through g bs y)
  through_alike [] [] h x y s = pure_alike S x y s
  through_alike [] (b ∷ bs) h x y s = absurd h
  through_alike (a ∷ as') [] h x y s = absurd h
  through_alike (a ∷ as') (b ∷ bs) h x y s = then_alike S S (f a x) (g b y) (through f as') (through g bs) (k a b h.0 x y s) (λ u v i. through_alike as' bs h.1 u v i)

-- ---- what is in sight

abbrev pub Seen : Type 0
Seen = Result Sight ExpandFault

abbrev pub SeenAlike : Seen → Seen → Type 0
SeenAlike (Ok s) (Ok t) = SightAlike s t
SeenAlike (Err e) (Err f) = f ≡ bare_fault e
SeenAlike (Ok s) (Err f) = ⊥
SeenAlike (Err e) (Ok t) = ⊥

abbrev pub SeesAlike : Look → Look → Type 0
SeesAlike p q = (s t : Sight) → SightAlike s t → SeenAlike (p s) (q t)

pub sees_then : (r q : Seen) (f g : Look) → SeenAlike r q → SeesAlike f g → SeenAlike (and_see r f) (and_see q g)
sees_then (Ok s) (Ok t) f g h k = k s t h
sees_then (Err e) (Err x) f g h k = h
sees_then (Ok s) (Err x) f g h k = absurd h
sees_then (Err e) (Ok t) f g h k = absurd h

pub aside_alike : (p q : Look) → SeesAlike p q → SeesAlike (aside p) (aside q)
aside_alike p q h s t k =
    sees_then (p (record s { taken = no_names })) (q (record t { taken = no_names })) (λ u. Ok (record u { taken = s.taken })) (λ u. Ok (record u { taken = t.taken }))
    (h (record s { taken = no_names }) (record t { taken = no_names }) (record { here = k.here; outside = k.outside; taken = refl }))
    (λ u x i. record { here = i.here; outside = i.outside; taken = k.taken })

pub each_alike : {A B : Type 0} (I : A → B → Type 0) (f : A → Look) (g : B → Look) → ((a : A) (b : B) → I a b → SeesAlike (f a) (g b)) → (as' : List A) (bs : List B) → Both I as' bs → SeesAlike (each f as') (each g bs)
each_alike I f g k [] [] h s t i = i
each_alike I f g k [] (b ∷ bs) h s t i = absurd h
each_alike I f g k (a ∷ as') [] h s t i = absurd h
each_alike I f g k (a ∷ as') (b ∷ bs) h s t i = sees_then (f a s) (g b t) (each f as') (each g bs) (k a b h.0 s t i) (each_alike I f g k as' bs h.1)

pub sees_if : (b : Bool) (p q m n : Look) → SeesAlike p m → SeesAlike q n → SeesAlike (if b then p else q) (if b then m else n)
sees_if true p q m n h k = h
sees_if false p q m n h k = k

now_seen : (w v : Walk) → WalkAlike w v → (r q : Seen) → SeenAlike r q → Alike (Equal {A = Unit {0}}) (follow [] r (λ s. comes (Ok (tt, record w { sight = s })))) (follow [] q (λ s. comes (Ok (tt, record v { sight = s }))))
now_seen w v h (Ok s) (Ok t) k = record { met = refl; comes_to = (refl, record { put = h.put; sight = k; scope = h.scope }) }
now_seen w v h (Err e) (Err f) k = record { met = refl; comes_to = k }
now_seen w v h (Ok s) (Err f) k = absurd k
now_seen w v h (Err e) (Ok t) k = absurd k

pub see_alike : (p q : Look) → SeesAlike p q → DoesAlike (Equal {A = Unit {0}}) (see p) (see q)
see_alike p q h w v k = now_seen w v k (p w.sight) (q v.sight) (h w.sight v.sight k.sight)

-- ---- whose fields stand between braces

abbrev pub OwnerAlike : Owner → Owner → Type 0
OwnerAlike (OfType t) (OfType u) = u ≡ t
OwnerAlike (OfProto p) (OfProto q) = PrototypeAlike p q
OwnerAlike (OfType t) (OfProto q) = ⊥
OwnerAlike (OfProto p) (OfType u) = ⊥

abbrev pub bare_inside : Owner → Inside → Inside
bare_inside owner i = record { at = i.at; owner = owner; fields = bare_fields i.fields; filled = map bare_filled i.filled }

pub record InsideAlike (b c : Inside) : Type 0 where
  pub owner : Owner
  pub owned : OwnerAlike b.owner owner
  pub is : c ≡ bare_inside owner b
