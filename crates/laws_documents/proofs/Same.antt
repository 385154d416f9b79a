-- Parts that do the same wherever what is in sight is the same, one after the other.
use Rattle.std.proofs.Common.{◌≡◌, ℕ, Bool, true, false, List, [], ◌∷◌, Result, Ok, Err, map, refl, ap, sym, ◌∙◌, subst}
use Rattle.std.specs.List.{AllByRecursion}
use Rattle.proto_flat.specs.declared.fault.ExpandFault.{ExpandFault}
use Rattle.proto_meaning.specs.Limits.{Met, behind, follow, and_then}
use Rattle.proto_meaning.specs.Sight.{Sight, Look, and_see, each, no_names}
use Rattle.proto_meaning.specs.Flat.{Walk, Does, ◌>>=◌, through}
use Rattle.proto_meaning.proofs.SightLaw.{Seen, bare, bared, Free, After, Follows, each_free, then_follows}
use Rattle.laws_documents.specs.Untaken.{seen_or, past, in_turn}

-- the same in sight, but for what ISs took
abbrev pub Alike : Sight → Sight → Type 0
Alike s t = bare t ≡ bare s

abbrev sight_in : Seen → Sight
sight_in (Ok s) = s
sight_in (Err e) = record { here = []; outside = []; taken = no_names }

abbrev is_there : Seen → Bool
is_there (Ok s) = true
is_there (Err e) = false

abbrev Only : Bool → Type 0 → Type 0
Only true G = G
Only false G = Unit {0}

seen_known : (r : Seen) (s v : Sight) → bared r ≡ Ok (bare v) → Alike (seen_or s r) v
seen_known (Ok t) s v e = sym (ap sight_in e)
seen_known (Err f) s v e = subst (λ b. Only b (Alike s v)) (ap is_there e) tt

seen_alike : (r q : Seen) (s t : Sight) → Alike s t → bared r ≡ bared q → Alike (seen_or s r) (seen_or t q)
seen_alike (Ok u) (Ok v) s t e h = sym (ap sight_in h)
seen_alike (Err x) (Err y) s t e h = e
seen_alike (Ok u) (Err y) s t e h = subst (λ b. Only b (Alike u t)) (sym (ap is_there h)) tt
seen_alike (Err x) (Ok v) s t e h = subst (λ b. Only b (Alike s v)) (ap is_there h) tt

-- what a step declares is the same, where the same is in sight
free_at : (p : Look) → Free p → (s t : Sight) → Alike s t → bared (p s) ≡ bared (p t)
free_at p free s t e = free s ∙ ap (λ x. bared (p x)) (sym e) ∙ sym (free t)

pub past_known : (p : Look) → Free p → (s t v : Sight) → Alike s t → bared (p t) ≡ Ok (bare v) → Alike (past p s) v
past_known p free s t v e h = seen_known (p s) s v (free_at p free s t e ∙ h)

-- past two steps that declare the same
pub past_alike : (p q : Look) (s t : Sight) → Alike s t → bared (p s) ≡ bared (q t) → Alike (past p s) (past q t)
past_alike p q s t e h = seen_alike (p s) (q t) s t e h

ok_known : (p : Look) → Free p → (s t u : Sight) → Alike s t → p t ≡ Ok u → Alike (past p s) u
ok_known p free s t u e h = past_known p free s t u e (ap bared h)

-- ---- one after the other

then_outcome : {A B : Type 0} (P : A → Type 0) (f g : A → Does B) (p : Look) (s t : Sight) (met : List Met) (c : Result (A × Walk) ExpandFault) → Free p → Alike s t → After P c (p t)
    → ((a : A) → P a → (v : Walk) → Alike (past p s) v.sight → g a v ≡ f a v) → follow met c (λ q. g q.0 q.1) ≡ follow met c (λ q. f q.0 q.1)
then_outcome P f g p s t met (Ok q) free e h k = ap (behind met) (k q.0 h.0 q.1 (past_known p free s t q.1.sight e h.1))
then_outcome P f g p s t met (Err x) free e h k = refl

pub then_same : {A B : Type 0} (P : A → Type 0) (m n : Does A) (f g : A → Does B) (p : Look) (s : Sight) (w : Walk) → Alike s w.sight → Free p → Follows P m p → n w ≡ m w
    → ((a : A) → P a → (v : Walk) → Alike (past p s) v.sight → g a v ≡ f a v) → (n >>= g) w ≡ (m >>= f) w
then_same P m n f g p s w e free follows same k =
    ap (λ o. and_then o (λ q. g q.0 q.1)) same ∙ then_outcome P f g p s w.sight (m w).met (m w).comes free e (follows w) k

-- the second is the same
pub same_then : {A B : Type 0} (m n : Does A) (f : A → Does B) (w : Walk) → n w ≡ m w → (n >>= f) w ≡ (m >>= f) w
same_then m n f w same = ap (λ o. and_then o (λ q. f q.0 q.1)) same

see_outcome : (r : Seen) (p : Look) (f g : Look) → ((u : Sight) → r ≡ Ok u → g u ≡ f u) → and_see r g ≡ and_see r f
see_outcome (Ok u) p f g k = k u refl
see_outcome (Err x) p f g k = refl

pub then_sees : (p q f g : Look) (s t : Sight) → Alike s t → Free p → q t ≡ p t → ((u : Sight) → Alike (past p s) u → g u ≡ f u) → and_see (q t) g ≡ and_see (p t) f
then_sees p q f g s t e free same k = ap (λ r. and_see r g) same ∙ see_outcome (p t) p f g (λ u is. k u (ok_known p free s t u e is))

-- ---- lists

-- a part and another that does the same, where that is in sight, given an A of a kind
pub record Steady {A T : Type 0} (sees : T → Look) (does : T → A → Does A) (P : A → Type 0) (s : Sight) (m n : T) : Type 0 where
  pub free : Free (sees m)
  pub follows : (a : A) → P a → Follows P (does m a) (sees m)
  pub seen : (t : Sight) → Alike s t → sees n t ≡ sees m t
  pub done : (a : A) → P a → (w : Walk) → Alike s w.sight → does n a w ≡ does m a w

module _ {A T : Type 0} (sees : T → Look) (does : T → A → Does A) (P : A → Type 0) where
  abbrev pub AllSteady : Sight → List T → List T → Type 0
  AllSteady s [] [] = Unit {0}
  AllSteady s (m ∷ ms) (n ∷ ns) = Steady sees does P s m n × AllSteady (past (sees n) s) ms ns
  AllSteady s [] (n ∷ ns) = ⊥
  AllSteady s (m ∷ ms) [] = ⊥

  -- past the one, and past the other
  past_same : (s : Sight) (m n : T) → Steady sees does P s m n → (v : Sight) → Alike (past (sees m) s) v → Alike (past (sees n) s) v
  past_same s m n h v e = e ∙ ap (λ r. bare (seen_or s r)) (sym (h.seen s refl))

  pub through_same : (s : Sight) (ms ns : List T) → AllSteady s ms ns → (a : A) → P a → (w : Walk) → Alike s w.sight → through does ns a w ≡ through does ms a w
  through_same s [] [] h a p w e = refl
  through_same s [] (n ∷ ns) h a p w e = absurd h
  through_same s (m ∷ ms) [] h a p w e = absurd h
  through_same s (m ∷ ms) (n ∷ ns) h a p w e =
      then_same P (does m a) (does n a) (through does ms) (through does ns) (sees m) s w e h.0.free (h.0.follows a p) (h.0.done a p w e)
      (λ b q v k. through_same (past (sees n) s) ms ns h.1 b q v (past_same s m n h.0 v.sight k))

  pub each_same : (s : Sight) (ms ns : List T) → AllSteady s ms ns → (t : Sight) → Alike s t → each sees ns t ≡ each sees ms t
  each_same s [] [] h t e = refl
  each_same s [] (n ∷ ns) h t e = absurd h
  each_same s (m ∷ ms) [] h t e = absurd h
  each_same s (m ∷ ms) (n ∷ ns) h t e =
      then_sees (sees m) (sees n) (each sees ms) (each sees ns) s t e h.0.free (h.0.seen t e)
      (λ u k. each_same (past (sees n) s) ms ns h.1 u (past_same s m n h.0 u k))

  all_free : (s : Sight) (ms ns : List T) → AllSteady s ms ns → AllByRecursion (λ (m : T). Free (sees m)) ms
  all_free s [] ns h = tt
  all_free s (m ∷ ms) [] h = absurd h
  all_free s (m ∷ ms) (n ∷ ns) h = (h.0.free, all_free (past (sees n) s) ms ns h.1)

  pub through_follows : (s : Sight) (ms ns : List T) → AllSteady s ms ns → (a : A) → P a → Follows P (through does ms a) (each sees ms)
  through_follows s [] ns h a p w = (p, refl)
  through_follows s (m ∷ ms) [] h a p w = absurd h
  through_follows s (m ∷ ms) (n ∷ ns) h a p w =
      then_follows P P (does m a) (through does ms) (sees m) (each sees ms) (each_free sees ms (all_free (past (sees n) s) ms ns h.1)) (h.0.follows a p)
      (λ b q. through_follows (past (sees n) s) ms ns h.1 b q) w

  pub steady_free : (s : Sight) (ms ns : List T) → AllSteady s ms ns → Free (each sees ms)
  steady_free s ms ns h = each_free sees ms (all_free s ms ns h)

  -- parts of a text in turn
  pub steady_in_turn : {X F : Type 0} (of : X → T) (put : X → F) (at : F → Sight → X) (Good : X → Type 0) → ((x : X) → Good x → (s : Sight) → Steady sees does P s (of x) (of (at (put x) s)))
      → (xs : List X) → AllByRecursion Good xs → (s : Sight) → AllSteady s (map of xs) (map of (in_turn at (λ x. sees (of x)) (map put xs) s))
  steady_in_turn of put at Good h [] goods s = tt
  steady_in_turn of put at Good h (x ∷ xs) goods s =
      (h x goods.0 s, steady_in_turn of put at Good h xs goods.1 (past (sees (of (at (put x) s))) s))

-- the search goes through parts in which it finds the same
pub finds_in_turn : {X F T : Type 0} (finds : T → Bool → Result Bool ℕ) (sees : X → Look) (of : X → T) (put : X → F) (at : F → Sight → X) (Good : X → Type 0) → ((x : X) → Good x → (s : Sight) (hidden : Bool) → finds (of (at (put x) s)) hidden ≡ finds (of x) hidden)
    → (xs : List X) → AllByRecursion Good xs → (s : Sight) (hidden : Bool) → each finds (map of (in_turn at sees (map put xs) s)) hidden ≡ each finds (map of xs) hidden
finds_in_turn finds sees of put at Good h [] goods s hidden = refl
finds_in_turn finds sees of put at Good h (x ∷ xs) goods s hidden =
    ap (λ r. and_see r (each finds (map of (in_turn at sees (map put xs) (past (sees (at (put x) s)) s))))) (h x goods.0 s hidden)
    ∙ found (finds (of x) hidden) (λ b. finds_in_turn finds sees of put at Good h xs goods.1 (past (sees (at (put x) s)) s) b) where
      found : {f g : Bool → Result Bool ℕ} (r : Result Bool ℕ) → ((b : Bool) → g b ≡ f b) → and_see r g ≡ and_see r f
      found (Ok b) k = k b
      found (Err line) k = refl
