-- What a text does where that is in sight, and what another does with nothing in sight, one after the other.
use Rattle.std.proofs.Common.{◌≡◌, Bool, true, false, List, [], Option, Some, None, Result, Ok, Err, refl, ap, sym, ◌∙◌, subst}
use Rattle.std.specs.Prelude.{if◌then◌else◌}
use Rattle.std.specs.Option.{option_map_or}
use Rattle.proto_flat.specs.declared.fault.ExpandFault.{ExpandFault}
use Rattle.proto_meaning.specs.Limits.{Met, Outcome, behind, follow, and_then}
use Rattle.proto_meaning.specs.Sight.{Sight, Look, no_names}
use Rattle.proto_meaning.specs.Flat.{Walk, Does, ◌>>=◌, pure, see, comes}
use Rattle.proto_meaning.proofs.SightLaw.{bare, bared, Free, After, Follows}
use Rattle.proto_meaning.specs.trees.Resolved.{Seen}

abbrev pub hide : Walk → Walk
hide w = record w { sight = record { here = []; outside = []; taken = no_names } }

abbrev pub hid : {A : Type 0} → Result (A × Walk) ExpandFault → Result (A × Walk) ExpandFault
hid (Ok p) = Ok (p.0, hide p.1)
hid (Err e) = Err e

abbrev pub hidden : {A : Type 0} → Outcome (A × Walk) → Outcome (A × Walk)
hidden o = record { met = o.met; comes = hid o.comes }

-- what is in sight is s, but for what ISs took
abbrev pub In : Sight → Walk → Type 0
In s w = bare w.sight ≡ bare s

-- where s is in sight, a text and its tree do the same
abbrev pub Same : {A : Type 0} → Sight → Does A → Does A → Type 0
Same s text tree = (w : Walk) → In s w → tree (hide w) ≡ hidden (text w)

-- ---- what is known of what is in sight

abbrev sight_in : Seen → Sight
sight_in (Ok s) = s
sight_in (Err e) = record { here = []; outside = []; taken = no_names }

abbrev is_there : Seen → Bool
is_there (Ok s) = true
is_there (Err e) = false

abbrev Only : Bool → Type 0 → Type 0
Only true G = G
Only false G = Unit {0}

abbrev pub ok : Sight → Seen
ok s = Ok s

abbrev pub fails : ExpandFault → Seen
fails e = Err e

pub never : {G : Type 0} (s : Sight) (e : ExpandFault) → fails e ≡ ok s → G
never {G} s e h = subst (λ b. Only b G) (ap is_there h) tt

pub in_bared : (s t : Sight) → ok s ≡ ok t → s ≡ t
in_bared s t e = ap sight_in e

-- a step that doesn't ask what was taken sees the same where the same is in sight
pub free_in : (p : Look) → Free p → (s : Sight) (w : Walk) → In s w → bared (p w.sight) ≡ bared (p s)
free_in p free s w e = free w.sight ∙ ap (λ x. bared (p x)) e ∙ sym (free s)

-- ---- one after the other

then_hidden : {A B : Type 0} (P : A → Type 0) (f g : A → Does B) (met : List Met) (c : Result (A × Walk) ExpandFault) (r q : Seen) → bared q ≡ bared r → After P c q
    → ((t : Sight) → r ≡ Ok t → (a : A) → P a → Same t (f a) (g a)) → follow met (hid c) (λ p. g p.0 p.1) ≡ hidden (follow met c (λ p. f p.0 p.1))
then_hidden P f g met (Err e) r q same h k = refl
then_hidden P f g met (Ok p) (Ok t) q same h k = ap (behind met) (k t refl p.0 h.0 p.1 (in_bared (bare p.1.sight) (bare t) (sym h.1 ∙ same)))
then_hidden P f g met (Ok p) (Err e) q same h k = never (bare p.1.sight) e (sym same ∙ h.1)

pub same_then : {A B : Type 0} (P : A → Type 0) (m n : Does A) (f g : A → Does B) (p : Look) (s : Sight) (r : Seen) → Free p → Follows P m p → bared (p s) ≡ bared r → Same s m n
    → ((t : Sight) → r ≡ Ok t → (a : A) → P a → Same t (f a) (g a)) → Same s (m >>= f) (n >>= g)
same_then P m n f g p s r free follows sees same k w e =
    ap (λ o. and_then o (λ q. g q.0 q.1)) (same w e)
    ∙ then_hidden P f g (m w).met (m w).comes r (p w.sight) (free_in p free s w e ∙ sees) (follows w) k

-- the first changes nothing in sight
pub same_first : {A B : Type 0} (P : A → Type 0) (m n : Does A) (f g : A → Does B) (s : Sight) → Follows P m (λ t. Ok t) → Same s m n → ((a : A) → P a → Same s (f a) (g a)) → Same s (m >>= f) (n >>= g)
same_first P m n f g s follows same k = same_then P m n f g (λ t. Ok t) s (Ok s) (λ t. refl) follows refl same (λ t e a h. subst (λ x. Same x (f a) (g a)) (in_bared s t e) (k a h))

-- and so does what is behind
pub same_last : {A B : Type 0} (m n : Does A) (f : A → Does B) (g : A → Does B) (s : Sight) → Same s m n → ((a : A) (v : Walk) → g a (hide v) ≡ hidden (f a v)) → Same s (m >>= f) (n >>= g)
same_last {A} {B} m n f g s same k w e = ap (λ o. and_then o (λ q. g q.0 q.1)) (same w e) ∙ by_end (m w).met (m w).comes where
  by_end : (met : List Met) (c : Result (A × Walk) ExpandFault) → follow met (hid c) (λ p. g p.0 p.1) ≡ hidden (follow met c (λ p. f p.0 p.1))
  by_end met (Ok p) = ap (behind met) (k p.0 p.1)
  by_end met (Err e) = refl

-- a step of sight comes first, and no part of the tree stands for it
abbrev fault_or : ExpandFault → Seen → ExpandFault
fault_or e (Ok s) = e
fault_or e (Err x) = x

abbrev pub failing : {A : Type 0} → ExpandFault → Outcome (A × Walk)
failing e = comes (Err e)

abbrev pub seen : Walk → Seen → Outcome (Unit {0} × Walk)
seen w q = follow [] q (λ s. comes (Ok (tt {0}, record w { sight = s })))

seen_first : {A : Type 0} (f : Unit {0} → Does A) (g : Does A) (w : Walk) (r q : Seen) → bared q ≡ bared r → ((t : Sight) → r ≡ Ok t → Same t (f tt) g) → ((e : ExpandFault) → r ≡ Err e → (v : Walk) → g v ≡ record { met = []; comes = Err e })
    → g (hide w) ≡ hidden (and_then (seen w q) (λ p. f p.0 p.1))
seen_first f g w (Ok t) (Ok u) same k wrong = k t refl (record w { sight = u }) (in_bared (bare u) (bare t) same)
seen_first f g w (Err e) (Err x) same k wrong = wrong e refl (hide w) ∙ ap failing (sym (ap (fault_or e) same))
seen_first f g w (Ok t) (Err x) same k wrong = never (bare t) x same
seen_first f g w (Err e) (Ok u) same k wrong = never (bare u) e (sym same)

pub same_seen : {A : Type 0} (p : Look) (f : Unit {0} → Does A) (g : Does A) (s : Sight) (r : Seen) → Free p → bared (p s) ≡ bared r → ((t : Sight) → r ≡ Ok t → Same t (f tt) g)
    → ((e : ExpandFault) → r ≡ Err e → (v : Walk) → g v ≡ record { met = []; comes = Err e }) → Same s (see p >>= f) g
same_seen p f g s r free sees k wrong w e = seen_first f g w r (p w.sight) (free_in p free s w e ∙ sees) k wrong

-- ---- choices

pub same_if : {A : Type 0} (s : Sight) (b : Bool) (m n k l : Does A) → Same s m n → Same s k l → Same s (if b then m else k) (if b then n else l)
same_if s true m n k l e f = e
same_if s false m n k l e f = f

pub same_option : {X A : Type 0} (s : Sight) (o : Option X) (f g : X → Does A) (m n : Does A) → ((x : X) → Same s (f x) (g x)) → Same s m n → Same s (option_map_or f o m) (option_map_or g o n)
same_option s None f g m n h k = k
same_option s (Some x) f g m n h k = h x

pub same_when : {A : Type 0} (s : Sight) (b : Bool) (m n k l : Does A) → (b ≡ true → Same s m n) → Same s k l → Same s (if b then m else k) (if b then n else l)
same_when s true m n k l e f = e refl
same_when s false m n k l e f = f

pub same_chosen : {A : Type 0} (s : Sight) (b : Bool) (m k n : Does A) → b ≡ true → Same s m n → Same s (if b then m else k) n
same_chosen s b m k n e h = subst (λ c. Same s (if c then m else k) n) (sym e) h

pub same_other : {A : Type 0} (s : Sight) (b : Bool) (m k n : Does A) → b ≡ false → Same s k n → Same s (if b then m else k) n
same_other s b m k n e h = subst (λ c. Same s (if c then m else k) n) (sym e) h

-- what changes nothing but what is in sight is passed
passed : {A B : Type 0} (b : B) (f : B → Does A) (g : Does A) (w : Walk) (u : Sight) (q : Seen) → bared q ≡ bared (ok u) → Same u (f b) g
    → g (hide w) ≡ hidden (and_then (and_then (seen w q) (λ p. pure b p.1)) (λ p. f p.0 p.1))
passed b f g w u (Ok t) same k = k (record w { sight = t }) (in_bared (bare t) (bare u) same)
passed b f g w u (Err x) same k = never (bare u) x same

pub same_passed : {A B : Type 0} (p : Look) (b : B) (f : B → Does A) (g : Does A) (s u : Sight) → Free p → bared (p s) ≡ bared (ok u) → Same u (f b) g → Same s ((see p >>= λ _. pure b) >>= f) g
same_passed p b f g s u free sees k w e = passed b f g w u (p w.sight) (free_in p free s w e ∙ sees) k

-- a step that fails
pub same_wrong : {A : Type 0} (p : Look) (f : Unit {0} → Does A) (g : Does A) (s : Sight) (e : ExpandFault) → Free p → bared (p s) ≡ fails e → ((v : Walk) → g v ≡ failing e) → Same s (see p >>= f) g
same_wrong p f g s e free sees wrong =
    same_seen p f g s (Err e) free sees (λ t h. never t e h) (λ x h v. wrong v ∙ ap failing (ap (fault_or e) h))
