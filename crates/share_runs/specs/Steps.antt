-- What a viewer of a run does with a message (our choice).
use Rattle.std.specs.Prelude.{ℕ, ◌-◌, Bool, List, Option, None, Some, nat_eq, if◌then◌else◌}
use Rattle.std.specs.Cmp.Lexicographic.{pointwise}
use Rattle.share_wire.specs.declared.message.Body.{Body}
use Rattle.share_entries.specs.Chain.{link}
use Rattle.share_session.specs.declared.message.Body2.{Body2}
use Rattle.share_session.specs.declared.message.Body2.TheVariants.{Input, Offer, Ask, Ack, Floor, Piece}
use Rattle.share_session.specs.declared.message.Input2.{Input2}
use Rattle.share_session.specs.declared.message.Message2.{Message2}
use Rattle.share_session.specs.declared.message.Message2.TheVariants.{Said, Hello, Welcome}
use Rattle.share_session.specs.Follows.{follows}
use Rattle.share_session.specs.Heard.{as_body}
use Rattle.share_runs.specs.declared.known.KnownList.{KnownList}
use Rattle.share_runs.specs.declared.step.RunStep.{RunStep}
use Rattle.share_runs.specs.declared.step.RunStep.TheVariants as step
use Rattle.share_runs.specs.Known.{chain_in, chain_at, is_early}

-- after an input that comes after what is known there: the next one, one that came before, or
-- another than that
abbrev pub after_step : List ℕ → Option (List ℕ) → RunStep
after_step chain None = step.Next
after_step chain (Some known) = if pointwise nat_eq chain known then step.HandOn else step.OtherList

-- by the chains that are known before and after the input, and whether it is early
abbrev pub input_step : (early : Bool) → (before after : Option (List ℕ)) → Input2 → RunStep
input_step early None after i = if early then step.Hold else step.Drop
input_step early (Some chain) after i =
    if follows chain i then after_step (link i.chain i.entry) after else step.OtherList

-- by the chain that is known at the piece's number
abbrev pub piece_step : Option (List ℕ) → List ℕ → RunStep
piece_step None chain = step.Gather
piece_step (Some known) chain = if pointwise nat_eq chain known then step.HandOn else step.Drop

abbrev pub body_step : KnownList → Body2 → RunStep
body_step k (Input i) =
    input_step (is_early k.from k.chains.items i.number)
    (chain_in k.from k.chains.items (i.number - 1))
    (chain_in k.from k.chains.items i.number) i
body_step k (Piece p) =
    piece_step (chain_at k.from k.chains.items k.starts.items p.head.applied) p.head.chain
body_step k (Offer o) = step.HandOn
body_step k (Ask a) = step.HandOn
body_step k (Ack a) = step.HandOn
body_step k (Floor n) = step.HandOn

-- a body beyond a world's limits is dropped
abbrev pub said_step : KnownList → Body2 → Option Body → RunStep
said_step k b None = step.Drop
said_step k b (Some heard) = body_step k b

abbrev pub step_of : (session : List ℕ) → KnownList → Message2 → RunStep
step_of session k (Said other b) =
    if pointwise nat_eq other session then said_step k b (as_body b) else step.OtherRun
step_of session k (Hello h) = step.Drop
step_of session k (Welcome w) = step.Drop
