-- Walks in scopes with other DEF names, and outcomes of such walks.
use Rattle.std.proofs.Common.{◌≡◌, ℕ, Bool, true, false, if◌then◌else◌, List, [], ◌∷◌, ◌++◌, option_map, Result, Ok, Err, map, refl, ap, sym, ◌∙◌}
use Rattle.std.specs.Str.{bytes_eq}
use Rattle.std.proofs.lemmas.Slice.Eq.{bytes_eq-Decides}
use Rattle.proto_flat.specs.declared.fault.ExpandFault.{ExpandFault}
use Rattle.proto_flat.specs.declared.fault.ExpandFaultKind.{ExpandFaultKind}
use Rattle.proto_meaning.specs.Limits.{Met, Outcome, follow}
use Rattle.proto_meaning.specs.Names.{Name, Filled, Braces, Scope}
use Rattle.proto_meaning.specs.Sight.{Put, Instance, Prototype, Sight, Look, Owner, OfType, OfProto, and_see, aside, each, no_names}
use Rattle.proto_meaning.specs.Flat.{Walk, Does, ◌>>=◌, Inside, comes, meet, pure, refuse, see, through}
use Rattle.laws_documents.specs.RenamedDefs.{IsOneToOne, nameless}
use Rattle.laws_documents.proofs.LineWalks.{Both, Equal}

-- ---- other names

abbrev pub Apart : (Name → Name) → Type 0
Apart r = (a b : Name) → bytes_eq (r a) (r b) ≡ bytes_eq a b

same_test : (a b : Bool) → (a ≡ true → b ≡ true) → (b ≡ true → a ≡ true) → a ≡ b
same_test true b h k = sym (h refl)
same_test false true h k = k refl
same_test false false h k = refl

pub apart : (r : Name → Name) → IsOneToOne r → Apart r
apart r one a b =
    same_test (bytes_eq (r a) (r b)) (bytes_eq a b)
    (λ e. (bytes_eq-Decides a b).1 (one a b ((bytes_eq-Decides (r a) (r b)).0 e)))
    (λ e. (bytes_eq-Decides (r a) (r b)).1 (ap r ((bytes_eq-Decides a b).0 e)))

abbrev pub other_braces : (Name → Name) → Braces → Braces
other_braces r b = record b { name = option_map r b.name }

-- ---- alike

-- equal but for the names of nodes
pub record PutAlike (p q : Put) : Type 0 where
  pub nodes : map nameless q.nodes ≡ map nameless p.nodes
  pub helpers : q.helpers ≡ p.helpers

pub record InstanceAlike (i j : Instance) : Type 0 where
  pub node : j.node ≡ i.node
  pub ends : j.ends ≡ i.ends
  pub routes : j.routes ≡ i.routes
  pub put : PutAlike i.put j.put

abbrev pub MadeAlike : Result Instance ExpandFault → Result Instance ExpandFault → Type 0
MadeAlike (Ok i) (Ok j) = InstanceAlike i j
MadeAlike (Err e) (Err f) = f ≡ e
MadeAlike (Ok i) (Err f) = ⊥
MadeAlike (Err e) (Ok j) = ⊥

pub record OutcomeAlike (o q : Outcome Instance) : Type 0 where
  pub met : q.met ≡ o.met
  pub comes_to : MadeAlike o.comes q.comes

-- an instance of the one is an instance of the other
pub record PrototypeAlike (p q : Prototype) : Type 0 where
  pub name : q.name ≡ p.name
  pub interface : q.interface ≡ p.interface
  pub takes : q.takes ≡ p.takes
  pub instance : (given : List Filled) (put other : Put) → PutAlike put other → OutcomeAlike (p.instance given put) (q.instance given other)

abbrev pub PrototypesAlike : List Prototype → List Prototype → Type 0
PrototypesAlike ps qs = Both PrototypeAlike ps qs

pub record SightAlike (s t : Sight) : Type 0 where
  pub here : PrototypesAlike s.here t.here
  pub outside : PrototypesAlike s.outside t.outside
  pub taken : t.taken ≡ s.taken

pub record ScopeAlike (r : Name → Name) (s t : Scope) : Type 0 where
  pub braces : t.braces ≡ map (other_braces r) s.braces
  pub routes : (all : List Braces) → t.routes (map (other_braces r) all) ≡ s.routes all
  pub ends : (all : List Braces) (name : Name) → t.ends (map (other_braces r) all) name ≡ s.ends all name
  pub interface : t.interface ≡ s.interface
  pub given : t.given ≡ s.given

pub record WalkAlike (r : Name → Name) (w v : Walk) : Type 0 where
  pub put : PutAlike w.put v.put
  pub sight : SightAlike w.sight v.sight
  pub scope : ScopeAlike r w.scope v.scope

-- ---- outcomes

abbrev pub ComesAlike : (Name → Name) → {A B : Type 0} → (A → B → Type 0) → Result (A × Walk) ExpandFault → Result (B × Walk) ExpandFault → Type 0
ComesAlike r R (Ok p) (Ok q) = R p.0 q.0 × WalkAlike r p.1 q.1
ComesAlike r R (Err e) (Err f) = f ≡ e
ComesAlike r R (Ok p) (Err f) = ⊥
ComesAlike r R (Err e) (Ok q) = ⊥

pub record Alike (r : Name → Name) {A B : Type 0} (R : A → B → Type 0) (o : Outcome (A × Walk)) (q : Outcome (B × Walk)) : Type 0 where
  pub met : q.met ≡ o.met
  pub comes_to : ComesAlike r R o.comes q.comes

abbrev pub DoesAlike : (Name → Name) → {A B : Type 0} → (A → B → Type 0) → Does A → Does B → Type 0
DoesAlike r R m n = (w v : Walk) → WalkAlike r w v → Alike r R (m w) (n v)

module _ (r : Name → Name) {A B : Type 0} (R : A → B → Type 0) where
  pub pure_alike : (a : A) (b : B) → R a b → DoesAlike r R (pure a) (pure b)
  pure_alike a b h w v k = record { met = refl; comes_to = (h, k) }

  pub refuse_alike : (kind : ExpandFaultKind) (line : ℕ) → DoesAlike r R (refuse kind line) (refuse kind line)
  refuse_alike kind line w v k = record { met = refl; comes_to = refl }

  pub if_alike : (b : Bool) (m k : Does A) (n l : Does B) → DoesAlike r R m n → DoesAlike r R k l → DoesAlike r R (if b then m else k) (if b then n else l)
  if_alike true m k n l h g = h
  if_alike false m k n l h g = g

pub meet_alike : (r : Name → Name) (m n : Met) → n ≡ m → DoesAlike r (Equal {A = Unit {0}}) (meet m) (meet n)
meet_alike r m n e w v k = record { met = ap (λ (x : Met). x ∷ []) e; comes_to = (refl, k) }

module _ (r : Name → Name) {A B C D : Type 0} (R : A → B → Type 0) (S : C → D → Type 0) where
  behind_alike : (m n : List Met) (o : Outcome (C × Walk)) (q : Outcome (D × Walk)) → n ≡ m → Alike r S o q → Alike r S (record { met = m ++ o.met; comes = o.comes }) (record { met = n ++ q.met; comes = q.comes })
  behind_alike m n o q e h = record { met = ap (λ x. x ++ q.met) e ∙ ap (λ x. m ++ x) h.met; comes_to = h.comes_to }

  follow_alike : (f : A → Does C) (g : B → Does D) (m n : List Met) (c : Result (A × Walk) ExpandFault) (d : Result (B × Walk) ExpandFault) → n ≡ m → ComesAlike r R c d → ((a : A) (b : B) → R a b → DoesAlike r S (f a) (g b))
      → Alike r S (follow m c (λ p. f p.0 p.1)) (follow n d (λ p. g p.0 p.1))
  follow_alike f g m n (Ok p) (Ok q) e h k = behind_alike m n (f p.0 p.1) (g q.0 q.1) e (k p.0 q.0 h.0 p.1 q.1 h.1)
  follow_alike f g m n (Err x) (Err y) e h k = record { met = e; comes_to = h }
  follow_alike f g m n (Ok p) (Err y) e h k = absurd h
  follow_alike f g m n (Err x) (Ok q) e h k = absurd h

  pub then_alike : (m : Does A) (n : Does B) (f : A → Does C) (g : B → Does D) → DoesAlike r R m n → ((a : A) (b : B) → R a b → DoesAlike r S (f a) (g b)) → DoesAlike r S (λ w. (m >>= f) w) (λ v. (n >>= g) v)
  then_alike m n f g h k w v i = follow_alike f g (m w).met (n v).met (m w).comes (n v).comes (h w v i).met (h w v i).comes_to k

module _ (r : Name → Name) {A B X Y : Type 0} (I : A → B → Type 0) (S : X → Y → Type 0) (f : A → X → Does X) (g : B → Y → Does Y) (k : (a : A) (b : B) → I a b → (x : X) (y : Y) → S x y → DoesAlike r S (f a x) (g b y)) where
  pub through_alike : (as' : List A) (bs : List B) → Both I as' bs → (x : X) (y : Y) → S x y → DoesAlike r S (through f as' x) (through g bs y)
  through_alike [] [] h x y s = pure_alike r S x y s
  through_alike [] (b ∷ bs) h x y s = absurd h
  through_alike (a ∷ as') [] h x y s = absurd h
  through_alike (a ∷ as') (b ∷ bs) h x y s = then_alike r S S (f a x) (g b y) (through f as') (through g bs) (k a b h.0 x y s) (λ u v i. through_alike as' bs h.1 u v i)

-- ---- what is in sight

abbrev pub Seen : Type 0
Seen = Result Sight ExpandFault

abbrev pub SeenAlike : Seen → Seen → Type 0
SeenAlike (Ok s) (Ok t) = SightAlike s t
SeenAlike (Err e) (Err f) = f ≡ e
SeenAlike (Ok s) (Err f) = ⊥
SeenAlike (Err e) (Ok t) = ⊥

abbrev pub SeesAlike : Look → Look → Type 0
SeesAlike p q = (s t : Sight) → SightAlike s t → SeenAlike (p s) (q t)

pub sees_then : (r q : Seen) (f g : Look) → SeenAlike r q → SeesAlike f g → SeenAlike (and_see r f) (and_see q g)
sees_then (Ok s) (Ok t) f g h k = k s t h
sees_then (Err e) (Err x) f g h k = h
sees_then (Ok s) (Err x) f g h k = absurd h
sees_then (Err e) (Ok t) f g h k = absurd h

pub aside_alike : (p q : Look) → SeesAlike p q → SeesAlike (aside p) (aside q)
aside_alike p q h s t k =
    sees_then (p (record s { taken = no_names })) (q (record t { taken = no_names })) (λ u. Ok (record u { taken = s.taken })) (λ u. Ok (record u { taken = t.taken }))
    (h (record s { taken = no_names }) (record t { taken = no_names }) (record { here = k.here; outside = k.outside; taken = refl }))
    (λ u x i. record { here = i.here; outside = i.outside; taken = k.taken })

pub each_alike : {A B : Type 0} (I : A → B → Type 0) (f : A → Look) (g : B → Look) → ((a : A) (b : B) → I a b → SeesAlike (f a) (g b)) → (as' : List A) (bs : List B) → Both I as' bs → SeesAlike (each f as') (each g bs)
each_alike I f g k [] [] h s t i = i
each_alike I f g k [] (b ∷ bs) h s t i = absurd h
each_alike I f g k (a ∷ as') [] h s t i = absurd h
each_alike I f g k (a ∷ as') (b ∷ bs) h s t i = sees_then (f a s) (g b t) (each f as') (each g bs) (k a b h.0 s t i) (each_alike I f g k as' bs h.1)

pub sees_if : (b : Bool) (p q m n : Look) → SeesAlike p m → SeesAlike q n → SeesAlike (if b then p else q) (if b then m else n)
sees_if true p q m n h k = h
sees_if false p q m n h k = k

now_seen : (r : Name → Name) (w v : Walk) → WalkAlike r w v → (x y : Seen) → SeenAlike x y → Alike r (Equal {A = Unit {0}}) (follow [] x (λ s. comes (Ok (tt, record w { sight = s })))) (follow [] y (λ s. comes (Ok (tt, record v { sight = s }))))
now_seen r w v h (Ok s) (Ok t) k = record { met = refl; comes_to = (refl, record { put = h.put; sight = k; scope = h.scope }) }
now_seen r w v h (Err e) (Err f) k = record { met = refl; comes_to = k }
now_seen r w v h (Ok s) (Err f) k = absurd k
now_seen r w v h (Err e) (Ok t) k = absurd k

pub see_alike : (r : Name → Name) (p q : Look) → SeesAlike p q → DoesAlike r (Equal {A = Unit {0}}) (see p) (see q)
see_alike r p q h w v k = now_seen r w v k (p w.sight) (q v.sight) (h w.sight v.sight k.sight)

-- ---- whose fields stand between braces

abbrev pub OwnerAlike : Owner → Owner → Type 0
OwnerAlike (OfType t) (OfType u) = u ≡ t
OwnerAlike (OfProto p) (OfProto q) = PrototypeAlike p q
OwnerAlike (OfType t) (OfProto q) = ⊥
OwnerAlike (OfProto p) (OfType u) = ⊥

abbrev pub owned_by : Owner → Inside → Inside
owned_by owner i = record i { owner = owner }

pub record InsideAlike (b c : Inside) : Type 0 where
  pub owner : Owner
  pub owned : OwnerAlike b.owner owner
  pub is : c ≡ owned_by owner b
