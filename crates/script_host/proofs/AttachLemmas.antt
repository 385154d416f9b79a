-- Facts on the pairs of a script and of its box.
use Rattle.std.proofs.Common.{◌≡◌, ◌<◌, ℕ, zero, suc, List, [], ◌∷◌, length, map, get_or, slice_get, None, refl, sym, ◌∙◌, arith}
use Rattle.std.proofs.lemmas.List.{length-map}
use Rattle.std.specs.Prelude.{IsSomeAnd}
use Rattle.x3d_values.specs.declared.script.ScriptSpec.{ScriptSpec}
use Rattle.script_host.specs.declared.fault.AttachFault.{AttachFault}
use Rattle.script_host.specs.declared.fault.AttachFault.TheVariants.{UnknownScript, WrongCount, KindDiffers, InterfaceMismatch, StartMismatch, Memory}
use Rattle.script_host.specs.Hosting.{SlotView}
use Rattle.script_host.specs.Attaching.{Meets, Fits, KnownBelow, IsMismatch, IsOther, IsUnfit, IsElsewhere, Refuses}
use Rattle.script_host.specs.Pairs.{PairAt, PairsBelow}
use Rattle.script_host.proofs.PairLemmas.{PairAt-map}

-- a mismatch at k, where all before k meet, is the fault
pub refuses_at : {X : Type 0} (f : X → SlotView) (specs : List ScriptSpec) (xs : List X) (k : ℕ) (s : ScriptSpec) (x : X) (fault : AttachFault)
    → k < length specs → k < length xs → s ≡ get_or specs k s → x ≡ get_or xs k x
    → KnownBelow specs (length specs) → length specs ≡ length (map f xs) → PairsBelow Meets specs (map f xs) k
    → IsMismatch fault k s (f x) → Refuses fault specs (map f xs)
refuses_at f specs xs k s x (KindDiffers j) a b at_s at_x known count before h =
    rw h.0 (record { known = known; count = count; before = before; here = PairAt-map IsOther f specs xs k s x a b at_s at_x h.1 })
refuses_at f specs xs k s x (InterfaceMismatch j) a b at_s at_x known count before h =
    rw h.0 (record { known = known; count = count; before = before; here = PairAt-map IsUnfit f specs xs k s x a b at_s at_x h.1 })
refuses_at f specs xs k s x (StartMismatch j) a b at_s at_x known count before h =
    rw h.0 (record { known = known; count = count; before = before; here = PairAt-map IsElsewhere f specs xs k s x a b at_s at_x h.1 })
refuses_at f specs xs k s x (UnknownScript j) a b at_s at_x known count before h = absurd h
refuses_at f specs xs k s x WrongCount a b at_s at_x known count before h = absurd h
refuses_at f specs xs k s x Memory a b at_s at_x known count before h = absurd h

-- ---- boxes that are what is asked for are refused for memory alone

pub no_unknown : (specs : List ScriptSpec) (k : ℕ) → IsSomeAnd (slice_get specs k) (λ s. s.kind ≡ None) → KnownBelow specs (length specs) → ⊥
no_unknown [] k h known = absurd h
no_unknown (s ∷ specs) zero h known = known zero (omega arith) h
no_unknown (s ∷ specs) (suc k) h known = no_unknown specs k h (λ j below. known (suc j) (omega arith))

apart : (P Q : ScriptSpec → SlotView → Type 0) → ((s : ScriptSpec) (r : SlotView) → P s r → Q s r → ⊥) →
    (specs : List ScriptSpec) (boxes : List SlotView) (k : ℕ) → PairAt P specs boxes k → PairsBelow Q specs boxes (length specs) → ⊥
apart P Q never [] boxes k h q = absurd h
apart P Q never (s ∷ specs) [] zero h q = absurd h
apart P Q never (s ∷ specs) [] (suc k) h q = apart P Q never specs [] k h (λ j below. q (suc j) (omega arith))
apart P Q never (s ∷ specs) (r ∷ boxes) zero h q = never s r h (q zero (omega arith))
apart P Q never (s ∷ specs) (r ∷ boxes) (suc k) h q = apart P Q never specs boxes k h (λ j below. q (suc j) (omega arith))

pub only_memory : (fault : AttachFault) (specs : List ScriptSpec) (boxes : List SlotView) → Refuses fault specs boxes → Fits specs boxes → fault ≡ Memory
only_memory (UnknownScript k) specs boxes h fits = absurd (no_unknown specs k h.1 fits.known)
only_memory WrongCount specs boxes h fits = absurd (h.1 fits.count)
only_memory (KindDiffers k) specs boxes h fits = absurd (apart IsOther Meets (λ s r other meets. other meets.kind) specs boxes k h.here fits.meet)
only_memory (InterfaceMismatch k) specs boxes h fits =
    absurd (apart IsUnfit Meets (λ s r unfit meets. let e = sym unfit.1 ∙ meets.interface in absurd cc) specs boxes k h.here fits.meet)
only_memory (StartMismatch k) specs boxes h fits = absurd (apart IsElsewhere Meets (λ s r elsewhere meets. elsewhere.2 meets.start) specs boxes k h.here fits.meet)
only_memory Memory specs boxes h fits = refl

-- all boxes were looked at, and each meets
pub all_meet : {X : Type 0} (f : X → SlotView) (specs : List ScriptSpec) (xs : List X) (k : ℕ) → length specs ≡ k →
    KnownBelow specs (length specs) → length specs ≡ length xs → PairsBelow Meets specs (map f xs) k → Fits specs (map f xs)
all_meet f specs xs k done known count meet = record { known = known; count = count ∙ sym (length-map _ _); meet = rw done meet }
