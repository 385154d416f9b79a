-- Walks that differ in numbers of nodes alone, and parts that go on alike from them.
use Rattle.std.proofs.Common.{◌≡◌, ℕ, Bool, true, false, if◌then◌else◌, List, [], ◌∷◌, ◌++◌, length, Option, Some, None, Result, Ok, Err, bytes_eq, refl, ap, sym, ◌∙◌, subst}
use Rattle.std.specs.Prelude.{IfSome}
use Rattle.std.specs.List.{AllByRecursion}
use Rattle.classic_tree.specs.declared.tree.RawValue.{RawValue}
use Rattle.proto_flat.specs.declared.fault.ExpandFault.{ExpandFault}
use Rattle.proto_flat.specs.declared.fault.ExpandFaultKind.{ExpandFaultKind}
use Rattle.proto_meaning.specs.Limits.{Met, Outcome, follow, item_count}
use Rattle.proto_meaning.specs.Names.{Name, Filled}
use Rattle.proto_meaning.specs.Sight.{Prototype, Sight, Look, and_see, aside, declared, each, no_names}
use Rattle.proto_meaning.specs.Flat.{Walk, Does, ◌>>=◌, Inside, comes, meet, pure, refuse, see, through}
use Rattle.proto_meaning.specs.Sizes.{Alike, AreSized, ComeAlike, EachSized, EndAlike, IsSized, sizes}

-- ---- what parts give

abbrev pub Any : {A : Type 0} → A → A → Type 0
Any a b = Unit {0}

abbrev pub AsMany : {A : Type 0} → List A → List A → Type 0
AsMany as' bs = length bs ≡ length as'

abbrev pub AsLarge : RawValue ℕ → RawValue ℕ → Type 0
AsLarge u v = item_count v ≡ item_count u

abbrev pub SameSizes : List Filled → List Filled → Type 0
SameSizes fs gs = sizes gs ≡ sizes fs

-- ---- outcomes

abbrev pub GoesAlike : {A : Type 0} → (A → A → Type 0) → Result (A × Walk) ExpandFault → Result (A × Walk) ExpandFault → Type 0
GoesAlike R (Ok p) (Ok q) = R p.0 q.0 × Alike p.1 q.1
GoesAlike R (Err e) (Err f) = f ≡ e
GoesAlike R (Ok p) (Err f) = ⊥
GoesAlike R (Err e) (Ok q) = ⊥

pub record GoAlike {A : Type 0} (R : A → A → Type 0) (o p : Outcome (A × Walk)) : Type 0 where
  pub met : p.met ≡ o.met
  pub goes : GoesAlike R o.comes p.comes

abbrev pub DoAlike : {A : Type 0} → (A → A → Type 0) → Does A → Does A → Type 0
DoAlike R m n = (w v : Walk) → Alike w v → GoAlike R (m w) (n v)

module _ {A : Type 0} (R : A → A → Type 0) where
  pub pure_alike : (a b : A) → R a b → DoAlike R (pure a) (pure b)
  pure_alike a b h w v k = record { met = refl; goes = (h, k) }

  pub refuse_alike : (kind : ExpandFaultKind) (line : ℕ) → DoAlike R (refuse kind line) (refuse kind line)
  refuse_alike kind line w v k = record { met = refl; goes = refl }

  pub if_alike : (b : Bool) (m k n l : Does A) → DoAlike R m n → DoAlike R k l → DoAlike R (if b then m else k) (if b then n else l)
  if_alike true m k n l h g = h
  if_alike false m k n l h g = g

pub meet_alike : (m n : Met) → n ≡ m → DoAlike (Any {A = Unit {0}}) (meet m) (meet n)
meet_alike m n e w v k = record { met = ap (λ (x : Met). x ∷ []) e; goes = (tt, k) }

module _ {A C : Type 0} (R : A → A → Type 0) (S : C → C → Type 0) where
  behind_alike : (m n : List Met) (o q : Outcome (C × Walk)) → n ≡ m → GoAlike S o q → GoAlike S (record { met = m ++ o.met; comes = o.comes }) (record { met = n ++ q.met; comes = q.comes })
  behind_alike m n o q e h = record { met = ap (λ x. x ++ q.met) e ∙ ap (λ x. m ++ x) h.met; goes = h.goes }

  follow_alike : (f g : A → Does C) (m n : List Met) (c d : Result (A × Walk) ExpandFault) → n ≡ m → GoesAlike R c d → ((a b : A) → R a b → DoAlike S (f a) (g b))
      → GoAlike S (follow m c (λ p. f p.0 p.1)) (follow n d (λ p. g p.0 p.1))
  follow_alike f g m n (Ok p) (Ok q) e h k = behind_alike m n (f p.0 p.1) (g q.0 q.1) e (k p.0 q.0 h.0 p.1 q.1 h.1)
  follow_alike f g m n (Err x) (Err y) e h k = record { met = e; goes = h }
  follow_alike f g m n (Ok p) (Err y) e h k = absurd h
  follow_alike f g m n (Err x) (Ok q) e h k = absurd h

  pub then_alike : (m n : Does A) (f g : A → Does C) → DoAlike R m n → ((a b : A) → R a b → DoAlike S (f a) (g b)) → DoAlike S (λ w. (m >>= f) w) (λ v. (n >>= g) v)
  then_alike m n f g h k w v i = follow_alike f g (m w).met (n v).met (m w).comes (n v).comes (h w v i).met (h w v i).goes k

module _ {A X : Type 0} (S : X → X → Type 0) (f : A → X → Does X) where
  -- one item does alike, behind what is alike
  abbrev pub OneAlike : A → Type 0
  OneAlike a = (x y : X) → S x y → DoAlike S (f a x) (f a y)

  pub through_alike : (as' : List A) → AllByRecursion OneAlike as' → (x y : X) → S x y → DoAlike S (through f as' x) (through f as' y)
  through_alike [] h x y s = pure_alike S x y s
  through_alike (a ∷ as') h x y s = then_alike S S (f a x) (f a y) (through f as') (through f as') (h.0 x y s) (λ u v i. through_alike as' h.1 u v i)

-- ---- what is in sight

abbrev pub FoundSized : Option Prototype → Type 0
FoundSized o = IfSome o IsSized

found_if : (b : Bool) (p : Prototype) (o : Option Prototype) → IsSized p → FoundSized o → FoundSized (if b then Some p else o)
found_if true p o h k = h
found_if false p o h k = k

first_if : (b : Bool) (p : Prototype) (o q : Option Prototype) → FoundSized (if b then Some p else o) → (FoundSized o → FoundSized q) → FoundSized (if b then Some p else q)
first_if true p o q h k = h
first_if false p o q h k = k h

both_sized : (word : Name) (ps qs : List Prototype) → FoundSized (declared word ps) → FoundSized (declared word qs) → FoundSized (declared word (ps ++ qs))
both_sized word [] qs h k = k
both_sized word (p ∷ ps) qs h k = first_if (bytes_eq word p.name) p (declared word ps) (declared word (ps ++ qs)) h (λ i. both_sized word ps qs i k)

pub each_of_both : (ps qs : List Prototype) → EachSized ps → EachSized qs → EachSized (ps ++ qs)
each_of_both ps qs h k word = both_sized word ps qs (h word) (k word)

pub one_sized : (p : Prototype) → IsSized p → EachSized (p ∷ [])
one_sized p h word = found_if (bytes_eq word p.name) p None h tt

pub none_sized : EachSized []
none_sized word = tt

abbrev pub Seen : Type 0
Seen = Result Sight ExpandFault

abbrev pub SeenSized : Seen → Type 0
SeenSized (Ok s) = AreSized s
SeenSized (Err e) = Unit {0}

-- the prototype that is in sight last is sized
abbrev pub LastSized : Sight → Seen → Type 0
LastSized s (Ok t) = (p : Prototype) → t.here ≡ s.here ++ p ∷ [] → IsSized p
LastSized s (Err e) = Unit {0}

-- the step declares sized prototypes alone
abbrev pub SeesSized : Look → Type 0
SeesSized p = (s : Sight) → AreSized s → SeenSized (p s)

pub with_taken : (s : Sight) (t : Sight) → t.here ≡ s.here → t.outside ≡ s.outside → AreSized s → AreSized t
with_taken s t e f h = record { here = subst EachSized (sym e) h.here; outside = subst EachSized (sym f) h.outside }

pub sees_then : (r : Seen) (f : Look) → SeenSized r → SeesSized f → SeenSized (and_see r f)
sees_then (Ok s) f h k = k s h
sees_then (Err e) f h k = tt

pub aside_sized : (p : Look) → SeesSized p → SeesSized (aside p)
aside_sized p h s k =
    sees_then (p (record s { taken = no_names })) (λ u. Ok (record u { taken = s.taken }))
    (h (record s { taken = no_names }) (with_taken s (record s { taken = no_names }) refl refl k))
    (λ u i. with_taken u (record u { taken = s.taken }) refl refl i)

pub each_sized : {A : Type 0} (f : A → Look) (as' : List A) → AllByRecursion (λ a. SeesSized (f a)) as' → SeesSized (each f as')
each_sized f [] h s k = k
each_sized f (a ∷ as') h s k = sees_then (f a s) (each f as') (h.0 s k) (each_sized f as' h.1)

pub sees_if : (b : Bool) (p q : Look) → SeesSized p → SeesSized q → SeesSized (if b then p else q)
sees_if true p q h k = h
sees_if false p q h k = k

now_seen : (w v : Walk) → Alike w v → (r : Seen) → SeenSized r → GoAlike (Any {A = Unit {0}}) (follow [] r (λ s. comes (Ok (tt, record w { sight = s })))) (follow [] r (λ s. comes (Ok (tt, record v { sight = s }))))
now_seen w v h (Ok s) k = record { met = refl; goes = (tt, record { sight = refl; sized = k; braces = h.braces; interface = h.interface; given = h.given }) }
now_seen w v h (Err e) k = record { met = refl; goes = refl }

pub see_alike : (p : Look) → SeesSized p → DoAlike (Any {A = Unit {0}}) (see p) (see p)
see_alike p h w v k =
    subst (λ t. GoAlike (Any {A = Unit {0}}) (see p w) (follow [] (p t) (λ s. comes (Ok (tt {0}, record v { sight = s }))))) (sym k.sight)
    (now_seen w v k (p w.sight) (h w.sight k.sized))

-- ---- between braces

abbrev pub with_filled : Inside → List Filled → Inside
with_filled i filled = record i { filled = filled }

pub record InsideAlike (i j : Inside) : Type 0 where
  pub filled : List Filled
  pub same : sizes filled ≡ sizes i.filled
  pub is : j ≡ with_filled i filled

-- ---- what walks come to, but for what they give

end_alike : {A : Type 0} (R : A → A → Type 0) (c d : Result (A × Walk) ExpandFault) → GoesAlike R c d → EndAlike c d
end_alike R (Ok p) (Ok q) h = tt
end_alike R (Err e) (Err f) h = h
end_alike R (Ok p) (Err f) h = absurd h
end_alike R (Err e) (Ok q) h = absurd h

pub come_alike : {A : Type 0} (R : A → A → Type 0) (o p : Outcome (A × Walk)) → GoAlike R o p → ComeAlike o p
come_alike R o p h = record { met = h.met; ends = end_alike R o.comes p.comes h.goes }
