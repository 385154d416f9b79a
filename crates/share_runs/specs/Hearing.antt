-- What a viewer of a run hands on, and what it keeps (our choice).
use Rattle.std.specs.Prelude.{◌≡◌, ◌⊎◌, ℕ, ◌+◌, ◌++◌, ◌∷◌, ◌==◌, [], ⊤, Bool, true, List, length, Option, None, Some, IfSome}
use Rattle.std.specs.Prelude.{drop, filter, nat_le, nat_lt, if◌then◌else◌}
use Rattle.std.specs.List.{find}
use Rattle.std.specs.Option.{option_map}
use Rattle.share_wire.specs.Datagram.{datagram}
use Rattle.share_wire.specs.declared.message.Message.{Message}
use Rattle.share_entries.specs.Chain.{link}
use Rattle.share_session.specs.declared.message.Body2.TheVariants.{Input, Offer, Ask, Ack, Floor, Piece}
use Rattle.share_session.specs.declared.message.Message2.{Message2}
use Rattle.share_session.specs.declared.message.Message2.TheVariants.{Said, Hello, Welcome}
use Rattle.share_session.specs.declared.prefix.Prefix.{Prefix}
use Rattle.share_session.specs.Heard.{heard}
use Rattle.share_runs.specs.declared.known.KnownList.{KnownList}
use Rattle.share_runs.specs.declared.step.RunStep.{RunStep}
use Rattle.share_runs.specs.declared.step.RunStep.TheVariants as step
use Rattle.share_runs.specs.declared.viewer_run.Early.{Early}
use Rattle.share_runs.specs.declared.viewer_run.ViewerRun.{ViewerRun}
use Rattle.share_runs.specs.Known.{IsOf}
use Rattle.share_runs.specs.Steps.{step_of}

-- an input is of the list that the viewer knows
abbrev pub IsOfList : KnownList → Message2 → Type 0
IsOfList k (Said session (Input i)) = IsOf k.from k.chains.items i
IsOfList k (Said session (Offer o)) = ⊤
IsOfList k (Said session (Ask a)) = ⊤
IsOfList k (Said session (Ack a)) = ⊤
IsOfList k (Said session (Floor n)) = ⊤
IsOfList k (Said session (Piece p)) = ⊤
IsOfList k (Hello h) = ⊤
IsOfList k (Welcome w) = ⊤

-- Bytes are handed on of a message: they are the datagram of version 1 of what is heard of it in
-- this session, and an input is of the list that the viewer knows.
pub record IsHeard (session mark : List ℕ) (k : KnownList) (m : Message2)
    (bytes : List ℕ) : Type 0 where
  pub message : Message
  pub is_heard : heard session mark m ≡ Some message
  pub text : bytes ≡ datagram message
  pub of_list : IsOfList k m

-- the chains of one list that is known further, or none was known
abbrev pub KnowsMore : (old new : KnownList) → Type 0
KnowsMore old new =
    (old.chains.items ≡ []) ⊎ ((new.from ≡ old.from)
    × (more : List (List ℕ)) × (new.chains.items ≡ old.chains.items ++ more))

-- ---- each step

-- the datagram of version 1
abbrev pub text_of : ViewerRun → Message2 → Option (List ℕ)
text_of r m = option_map datagram (heard r.session r.mark m)

-- the chain after an input
abbrev pub next_of : Message2 → List (List ℕ)
next_of (Said session (Input i)) = link i.chain i.entry ∷ []
next_of (Said session (Offer o)) = []
next_of (Said session (Ask a)) = []
next_of (Said session (Ack a)) = []
next_of (Said session (Floor n)) = []
next_of (Said session (Piece p)) = []
next_of (Hello h) = []
next_of (Welcome w) = []

-- where a piece lets a viewer start
abbrev pub start_of : Message2 → List Prefix
start_of (Said session (Piece p)) =
    record { applied = p.head.applied; chain = p.head.chain } ∷ []
start_of (Said session (Offer o)) = []
start_of (Said session (Ask a)) = []
start_of (Said session (Ack a)) = []
start_of (Said session (Floor n)) = []
start_of (Said session (Input i)) = []
start_of (Hello h) = []
start_of (Welcome w) = []

-- an input that is held, with who sent it
abbrev pub early_of : (from : ℕ) → Message2 → List Early
early_of from (Said session (Input i)) = record { from = from; input = i } ∷ []
early_of from (Said session (Offer o)) = []
early_of from (Said session (Ask a)) = []
early_of from (Said session (Ack a)) = []
early_of from (Said session (Floor n)) = []
early_of from (Said session (Piece p)) = []
early_of from (Hello h) = []
early_of from (Welcome w) = []

-- of more than 64 held inputs the one that came first goes
abbrev pub kept_of : List Early → List Early
kept_of held = if nat_lt 64 (length held) then drop 1 held else held

-- an input more is held
abbrev pub Holds : (old more new : List Early) → Type 0
Holds old more new = new ≡ kept_of (old ++ more)

-- it is held, unless memory is refused; then nothing changes
abbrev pub MayHold : (old more new : List Early) → Type 0
MayHold old more new = Holds old more new ⊎ (new ≡ old)

-- what changes: the chains, the starts, what is held
pub record Changes (old new : ViewerRun) (next : List (List ℕ)) (more : List Prefix) : Type 0 where
  pub mark : new.mark ≡ old.mark
  pub session : new.session ≡ old.session
  pub from : new.known.from ≡ old.known.from
  pub chains : new.known.chains.items ≡ old.known.chains.items ++ next
  pub starts : new.known.starts.items ≡ old.known.starts.items ++ more
  pub held : new.held.items ≡ old.held.items
  pub is_other_list : new.is_other_list ≡ old.is_other_list

-- the next input is handed on, unless memory is refused to its chain
abbrev pub IsNext : (old : ViewerRun) → Message2 → Option (List ℕ) → (new : ViewerRun) → Type 0
IsNext old m None new = Changes old new [] []
IsNext old m (Some bytes) new = (Some bytes ≡ text_of old m) × Changes old new (next_of m) []

-- a piece from which a viewer may start is handed on, unless memory or room lacks for its chain
abbrev pub IsGathered : (old : ViewerRun) → Message2 → Option (List ℕ) → (new : ViewerRun) → Type 0
IsGathered old m None new = Changes old new [] []
IsGathered old m (Some bytes) new = (Some bytes ≡ text_of old m) × Changes old new [] (start_of m)

abbrev pub IsTaken : RunStep → (old : ViewerRun) → (from : ℕ) → Message2 → Option (List ℕ)
    → (new : ViewerRun) → Type 0
IsTaken step.HandOn old from m handed new = (handed ≡ text_of old m) × (new ≡ old)
IsTaken step.Next old from m handed new = IsNext old m handed new
IsTaken step.Hold old from m handed new =
    (handed ≡ None) × (new ≡ record old { held = new.held })
    × MayHold old.held.items (early_of from m) new.held.items
IsTaken step.Gather old from m handed new = IsGathered old m handed new
IsTaken step.Drop old from m handed new = (handed ≡ None) × (new ≡ old)
IsTaken step.OtherRun old from m handed new = (handed ≡ None) × (new ≡ old)
IsTaken step.OtherList old from m handed new =
    (handed ≡ None) × (new ≡ record old { is_other_list = true })

-- what every step leaves
pub record Keeps (old : ViewerRun) (from : ℕ) (m : Message2) (new : ViewerRun) : Type 0 where
  pub mark : new.mark ≡ old.mark
  pub session : new.session ≡ old.session
  pub grows : KnowsMore old.known new.known
  pub held : MayHold old.held.items (early_of from m) new.held.items

-- ---- held inputs

-- the viewer lacks a held input, or the ones before it
abbrev pub is_needed : KnownList → Early → Bool
is_needed k e = nat_le (k.from + length k.chains.items) e.input.number

-- no input is held that the viewer has
abbrev pub IsReleased : (old new : ViewerRun) → Type 0
IsReleased old new =
    (new ≡ record old { held = new.held })
    × (new.held.items ≡ filter (is_needed old.known) old.held.items)

-- the input that was held, as a message
abbrev pub early_said : ViewerRun → Early → Message2
early_said r e = Said r.session (Input e.input)

abbrev pub is_due : KnownList → Early → Bool
is_due k e = (k.from + length k.chains.items) == e.input.number

-- the first held input with the next number is taken, as if it came now
abbrev pub IsDue : Option Early → (old : ViewerRun) → Option (ℕ × List ℕ)
    → (new : ViewerRun) → Type 0
IsDue None old handed new = (handed ≡ None) × (new ≡ old)
IsDue (Some e) old handed new =
    IsTaken (step_of old.session old.known (early_said old e)) old e.from (early_said old e)
    (option_map (λ h. h.1) handed) new
    × IfSome handed (λ h. h.0 ≡ e.from)

-- what the viewer has is held no longer, and then the next input is taken, if it is held
abbrev pub IsDueInput : (old : ViewerRun) → Option (ℕ × List ℕ) → (new : ViewerRun) → Type 0
IsDueInput old handed new =
    (mid : ViewerRun) × IsReleased old mid
    × IsDue (find (is_due mid.known) mid.held.items) mid handed new
