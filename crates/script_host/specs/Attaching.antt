-- Which boxes a world takes for its scripts, and why it refuses others.
use Rattle.std.specs.Prelude.{◌≡◌, ◌≢◌, ℕ, List, length, slice_get, IsSomeAnd, Option, Some, None, true, false, ⊤}
use Rattle.x3d_values.specs.declared.script.Kind.{Kind}
use Rattle.x3d_values.specs.declared.script.ScriptSpec.{ScriptSpec}
use Rattle.script_host.specs.declared.fault.AttachFault.{AttachFault}
use Rattle.script_host.specs.declared.fault.AttachFault.TheVariants.{UnknownScript, WrongCount, KindDiffers, InterfaceMismatch, StartMismatch, Memory}
use Rattle.script_host.specs.declared.fault.ReplaceFault.{ReplaceFault}
use Rattle.script_host.specs.declared.fault.ReplaceFault.TheVariants as replace
use Rattle.script_host.specs.Hosting.{SlotView}
pub use Rattle.script_slots.specs.Asked.{KnownBelow}
use Rattle.script_host.specs.Pairs.{PairAt, PairsBelow}

-- a box is what its script asks for: it is of the script's kind, the interface fits, and its state
-- is the one in which the script starts
pub record Meets (s : ScriptSpec) (r : SlotView) : Type 0 where
  pub kind : s.kind ≡ Some r.kind
  pub interface : s.fits ≡ true
  pub start : r.state ≡ s.start

-- the boxes are those that the scripts ask for
pub record Fits (specs : List ScriptSpec) (boxes : List SlotView) : Type 0 where
  pub known : KnownBelow specs (length specs)
  pub count : length specs ≡ length boxes
  pub meet : PairsBelow Meets specs boxes (length specs)

-- all kinds are known, there are as many boxes as scripts, the boxes before k are what their
-- scripts ask for, and P holds at k
pub record FirstAt (P : ScriptSpec → SlotView
    → Type 0) (specs : List ScriptSpec) (boxes : List SlotView) (k : ℕ) : Type 0 where
  pub known : KnownBelow specs (length specs)
  pub count : length specs ≡ length boxes
  pub before : PairsBelow Meets specs boxes k
  pub here : PairAt P specs boxes k

-- the box is of another kind
abbrev pub IsOther : ScriptSpec → SlotView → Type 0
IsOther s r = s.kind ≢ Some r.kind

-- the box is of the kind, but the interface doesn't fit
abbrev pub IsUnfit : ScriptSpec → SlotView → Type 0
IsUnfit s r = (s.kind ≡ Some r.kind) × (s.fits ≡ false)

-- the box is of the kind and the interface fits, but its state is another
abbrev pub IsElsewhere : ScriptSpec → SlotView → Type 0
IsElsewhere s r = (s.kind ≡ Some r.kind) × (s.fits ≡ true) × (r.state ≢ s.start)

-- the fault that is reported: unknown kinds first, then the number of boxes, then the first box
-- that isn't what its script asks for
abbrev pub Refuses : AttachFault → List ScriptSpec → List SlotView → Type 0
Refuses (UnknownScript k) specs boxes = KnownBelow specs k
    × IsSomeAnd (slice_get specs k) (λ s. s.kind ≡ None)
Refuses WrongCount specs boxes = KnownBelow specs (length specs) × (length specs ≢ length boxes)
Refuses (KindDiffers k) specs boxes = FirstAt IsOther specs boxes k
Refuses (InterfaceMismatch k) specs boxes = FirstAt IsUnfit specs boxes k
Refuses (StartMismatch k) specs boxes = FirstAt IsElsewhere specs boxes k
Refuses Memory specs boxes = ⊤

-- why one box, at place k, isn't what its script asks for
abbrev pub IsMismatch : AttachFault → ℕ → ScriptSpec → SlotView → Type 0
IsMismatch (KindDiffers j) k s r = (j ≡ k) × IsOther s r
IsMismatch (InterfaceMismatch j) k s r = (j ≡ k) × IsUnfit s r
IsMismatch (StartMismatch j) k s r = (j ≡ k) × IsElsewhere s r
IsMismatch _ k s r = ⊥

-- why a box of this kind can't replace the box of a script
abbrev pub RefusesPlace : ReplaceFault → Option SlotView → Kind → Type 0
RefusesPlace replace.NoSuchScript place kind = place ≡ None
RefusesPlace replace.KindDiffers place kind = IsSomeAnd place (λ r. kind ≢ r.kind)
RefusesPlace replace.Memory place kind = IsSomeAnd place (λ r. kind ≡ r.kind)
