-- Boxes of the stock are refused for the fault of their scripts.
use Rattle.std.proofs.Common.{◌≡◌, ◌≢◌, ◌⊎◌, ◌∙◌, ℕ, ℤ, zero, suc, ◌+◌, List, [], ◌∷◌, Option, Some, None, length, slice_get, IsSomeAnd, refl, sym, ap, subst, inl, inr, arith}
use Rattle.std.specs.Prelude.{IfErr, IfOk, OnOk, Result, Ok, Err}
use Rattle.x3d_values.specs.declared.script.Kind.{Kind}
use Rattle.x3d_values.specs.declared.script.Kind.TheVariants as kinds
use Rattle.x3d_values.specs.declared.script.ScriptSpec.{ScriptSpec}
use Rattle.script_host.specs.Attaching.{Fits, IsElsewhere, IsOther, IsUnfit, KnownBelow, Meets, Refuses}
use Rattle.script_host.specs.Hosting.{SlotView}
use Rattle.script_host.specs.Pairs.{PairAt, PairsBelow}
use Rattle.script_host.specs.States.{state_fault}
use Rattle.script_host.specs.declared.fault.AttachFault.{AttachFault}
use Rattle.script_host.specs.declared.fault.AttachFault.TheVariants.{UnknownScript, WrongCount, KindDiffers, InterfaceMismatch, StartMismatch, Memory}
use Rattle.script_slots.specs.declared.fault.StateFault.{StateFault}
use Rattle.script_boxes.specs.Boxes.{made, start_or_zeros, stock_for, zeros}
use Rattle.script_boxes.specs.Refused.{no_start, scripts_fault, unfit_at, unfit_from, unknown_from}

-- ---- one script

zeros_fit : (kind : Kind) → state_fault kind (zeros kind) ≡ None
zeros_fit kinds.Counter = refl
zeros_fit kinds.Gate = refl
zeros_fit kinds.Adder = refl
zeros_fit kinds.Batch = refl
zeros_fit kinds.Mover = refl
zeros_fit kinds.Meter = refl

-- a box that is in its start has one
has_start : (kind : Kind) (start : List ℤ) (fault : Option StateFault) → state_fault kind start ≡ fault
    → start_or_zeros kind start fault ≡ start → fault ≡ None
has_start kind start None is same = refl
has_start kind start (Some f) is same = sym is ∙ ap (state_fault kind) (sym same) ∙ zeros_fit kind

-- one that isn't has none
no_start_at : (k : ℕ) (kind : Kind) (start : List ℤ) (fault : Option StateFault) → start_or_zeros kind start fault ≢ start
    → no_start k fault ≡ Some (StartMismatch k)
no_start_at k kind start None other = absurd (other refl)
no_start_at k kind start (Some f) other = refl

fits_at : (k : ℕ) (s : ScriptSpec) (kind : Kind) → s.kind ≡ Some kind → Meets s (made kind s.start) → unfit_at k s ≡ None
fits_at k s kind known m =
    let started : state_fault kind s.start ≡ None = has_start kind s.start (state_fault kind s.start) refl m.start in
    rw m.interface (rw known (rw started refl))

unfit_tells : (k : ℕ) (s : ScriptSpec) (kind : Kind) → s.kind ≡ Some kind → IsUnfit s (made kind s.start)
    → unfit_at k s ≡ Some (InterfaceMismatch k)
unfit_tells k s kind known h = rw h.1 refl

elsewhere_tells : (k : ℕ) (s : ScriptSpec) (kind : Kind) → s.kind ≡ Some kind → IsElsewhere s (made kind s.start)
    → unfit_at k s ≡ Some (StartMismatch k)
elsewhere_tells k s kind known h = rw h.1 (rw known (no_start_at k kind s.start (state_fault kind s.start) h.2))

-- ---- lists of scripts

known_kind : (s : ScriptSpec) (kind : Option Kind) → s.kind ≡ kind → s.kind ≢ None → (k : Kind) × (s.kind ≡ Some k)
known_kind s None e known = absurd (known e)
known_kind s (Some k) e known = (k, e)

first_known : (s : ScriptSpec) (ss : List ScriptSpec) → KnownBelow (s ∷ ss) (length (s ∷ ss)) → (k : Kind) × (s.kind ≡ Some k)
first_known s ss known = known_kind s s.kind refl (known 0 (omega arith))

others_known : (s : ScriptSpec) (ss : List ScriptSpec) → KnownBelow (s ∷ ss) (length (s ∷ ss)) → KnownBelow ss (length ss)
others_known s ss known = λ j h. known (suc j) (omega (arith, h))

stock_first : (s : ScriptSpec) (ss : List ScriptSpec) (kind : Kind) → s.kind ≡ Some kind
    → stock_for (s ∷ ss) ≡ made kind s.start ∷ stock_for ss
stock_first s ss kind known = rw known refl

unknown_there : (k n : ℕ) (asked : List ScriptSpec) (j : ℕ) → n ≡ k + j → KnownBelow asked j
    → IsSomeAnd (slice_get asked j) (λ s. s.kind ≡ None) → unknown_from k asked ≡ Some (UnknownScript n)
unknown_there k n [] j place known here = absurd here
unknown_there k n (s ∷ ss) zero place known here =
    let e : s.kind ≡ None = here in
    let same : k ≡ n = omega (arith, place) in
    rw e (ap (λ m. Some (UnknownScript m)) same)
unknown_there k n (s ∷ ss) (suc j) place known here =
    let first = known_kind s s.kind refl (known 0 (omega arith)) in
    rw first.1 (unknown_there (k + 1) n ss j (omega (arith, place)) (λ i h. known (suc i) (omega (arith, h))) here)

none_unknown : (k : ℕ) (asked : List ScriptSpec) → KnownBelow asked (length asked) → unknown_from k asked ≡ None
none_unknown k [] known = refl
none_unknown k (s ∷ ss) known =
    let first = first_known s ss known in rw first.1 (none_unknown (k + 1) ss (others_known s ss known))

counted : (asked : List ScriptSpec) → KnownBelow asked (length asked) → length (stock_for asked) ≡ length asked
counted [] known = refl
counted (s ∷ ss) known =
    let first = first_known s ss known in
    ap length (stock_first s ss first.0 first.1) ∙ ap suc (counted ss (others_known s ss known))

-- a box is of its script's kind
not_other : (asked : List ScriptSpec) (j : ℕ) → KnownBelow asked (length asked) → PairAt IsOther asked (stock_for asked) j → ⊥
not_other [] j known here = here
not_other (s ∷ ss) zero known here =
    let first = first_known s ss known in
    let other : s.kind ≢ Some first.0 = subst (λ b. PairAt IsOther (s ∷ ss) b 0) (stock_first s ss first.0 first.1) here in
    other first.1
not_other (s ∷ ss) (suc j) known here =
    let first = first_known s ss known in
    not_other ss j (others_known s ss known) (subst (λ b. PairAt IsOther (s ∷ ss) b (suc j)) (stock_first s ss first.0 first.1) here)

-- the first box that doesn't meet its script tells its fault
unfit_there : (Here : ScriptSpec → SlotView → Type 0) (fault : ℕ → AttachFault)
    → ((k : ℕ) (s : ScriptSpec) (kind : Kind) → s.kind ≡ Some kind → Here s (made kind s.start) → unfit_at k s ≡ Some (fault k))
    → (k n : ℕ) (asked : List ScriptSpec) (j : ℕ) → n ≡ k + j → KnownBelow asked (length asked)
    → PairsBelow Meets asked (stock_for asked) j → PairAt Here asked (stock_for asked) j → unfit_from k asked ≡ Some (fault n)
unfit_there Here fault tells k n [] j place known before here = absurd here
unfit_there Here fault tells k n (s ∷ ss) zero place known before here =
    let first = first_known s ss known in
    let unfit : Here s (made first.0 s.start) = subst (λ b. PairAt Here (s ∷ ss) b 0) (stock_first s ss first.0 first.1) here in
    let same : k ≡ n = omega (arith, place) in
    rw (tells k s first.0 first.1 unfit) (ap (λ m. Some (fault m)) same)
unfit_there Here fault tells k n (s ∷ ss) (suc j) place known before here =
    let first = first_known s ss known in
    let split = stock_first s ss first.0 first.1 in
    let meets : PairsBelow Meets (s ∷ ss) (made first.0 s.start ∷ stock_for ss) (suc j) = subst (λ b. PairsBelow Meets (s ∷ ss) b (suc j)) split before in
    let met : Meets s (made first.0 s.start) = meets 0 (omega arith) in
    let later : PairAt Here ss (stock_for ss) j = subst (λ b. PairAt Here (s ∷ ss) b (suc j)) split here in
    rw (fits_at k s first.0 first.1 met)
    (unfit_there Here fault tells (k + 1) n ss j (omega (arith, place)) (others_known s ss known) (λ i h. meets (suc i) (omega (arith, h))) later)

none_unfit : (k : ℕ) (asked : List ScriptSpec) → KnownBelow asked (length asked)
    → PairsBelow Meets asked (stock_for asked) (length asked) → unfit_from k asked ≡ None
none_unfit k [] known meet = refl
none_unfit k (s ∷ ss) known meet =
    let first = first_known s ss known in
    let split = stock_first s ss first.0 first.1 in
    let meets : PairsBelow Meets (s ∷ ss) (made first.0 s.start ∷ stock_for ss) (length (s ∷ ss)) = subst (λ b. PairsBelow Meets (s ∷ ss) b (length (s ∷ ss))) split meet in
    let met : Meets s (made first.0 s.start) = meets 0 (omega arith) in
    rw (fits_at k s first.0 first.1 met) (none_unfit (k + 1) ss (others_known s ss known) (λ i h. meets (suc i) (omega (arith, h))))

-- ---- all of them

-- boxes that are taken have scripts without a fault
pub no_fault : (asked : List ScriptSpec) (boxes : List SlotView) → boxes ≡ stock_for asked → Fits asked boxes
    → scripts_fault asked ≡ None
no_fault asked boxes made_so fit =
    let own = subst (Fits asked) made_so fit in
    rw (none_unknown 0 asked own.known) (none_unfit 0 asked own.known own.meet)

told : (asked : List ScriptSpec) (fault : AttachFault) → Refuses fault asked (stock_for asked)
    → (fault ≡ Memory) ⊎ (scripts_fault asked ≡ Some fault)
told asked (UnknownScript k) h = inr (rw (unknown_there 0 k asked k (omega arith) h.0 h.1) refl)
told asked WrongCount h = absurd (h.1 (sym (counted asked h.0)))
told asked (KindDiffers k) h = absurd (not_other asked k h.known h.here)
told asked (InterfaceMismatch k) h =
    inr (rw (none_unknown 0 asked h.known) (unfit_there IsUnfit InterfaceMismatch unfit_tells 0 k asked k (omega arith) h.known h.before h.here))
told asked (StartMismatch k) h =
    inr (rw (none_unknown 0 asked h.known) (unfit_there IsElsewhere StartMismatch elsewhere_tells 0 k asked k (omega arith) h.known h.before h.here))
told asked Memory h = inl refl

-- boxes are refused for memory, or for the fault of their scripts
pub fault_of : (asked : List ScriptSpec) (boxes : List SlotView) (fault : AttachFault) → boxes ≡ stock_for asked
    → Refuses fault asked boxes → (fault ≡ Memory) ⊎ (scripts_fault asked ≡ Some fault)
fault_of asked boxes fault made_so h = told asked fault (subst (Refuses fault asked) made_so h)

-- the same of an answer
pub taken_if : (result : Result (List SlotView) AttachFault) (asked : List ScriptSpec) (boxes : List SlotView) → boxes ≡ stock_for asked
    → IfOk result (λ scripts. scripts ≡ boxes) → IfOk result (λ scripts. Fits asked scripts) → OnOk result (scripts_fault asked ≡ None)
taken_if (Ok scripts) asked boxes made_so are fit = no_fault asked scripts (are ∙ made_so) fit
taken_if (Err fault) asked boxes made_so are fit = tt

pub refused_if : (result : Result (List SlotView) AttachFault) (asked : List ScriptSpec) (boxes : List SlotView) → boxes ≡ stock_for asked
    → IfErr result (λ fault. Refuses fault asked boxes) → IfErr result (λ fault. (fault ≡ Memory) ⊎ (scripts_fault asked ≡ Some fault))
refused_if (Ok scripts) asked boxes made_so h = tt
refused_if (Err fault) asked boxes made_so h = fault_of asked boxes fault made_so h
