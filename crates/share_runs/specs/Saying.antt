-- What a viewer of a run sends (our choice).
use Rattle.std.specs.Prelude.{◌≡◌, ◌⊎◌, ℕ, ◌-◌, List, Option, None, Result, Ok, Err}
use Rattle.std.specs.Option.{option_map}
use Rattle.share_wire.specs.Messages.{PieceView}
use Rattle.share_wire.specs.declared.fault.WireFault.{WireFault}
use Rattle.share_wire.specs.declared.message.Body.{Body}
use Rattle.share_wire.specs.declared.message.Body.TheVariants.{Input, Offer, Ask, Ack, Floor, Piece}
use Rattle.share_wire.specs.declared.message.Message.{Message}
use Rattle.share_session.specs.Messages.{PieceView2}
use Rattle.share_session.specs.declared.message.Body2.{Body2}
use Rattle.share_session.specs.declared.message.Body2.TheVariants as body2
use Rattle.share_session.specs.declared.message.Message2.{Message2}
use Rattle.share_session.specs.declared.message.Message2.TheVariants.{Said}
use Rattle.share_session.specs.Heard.{lifted}
use Rattle.share_runs.specs.declared.known.KnownList.{KnownList}
use Rattle.share_runs.specs.declared.viewer_run.ViewerRun.{ViewerRun}
use Rattle.share_runs.specs.Known.{begun, chain_in}

abbrev pub with_chain : PieceView → List ℕ → PieceView2
with_chain p chain = record {
  head = record {
    chain = chain;
    boot = p.boot;
    applied = p.applied;
    size = p.length;
    index = p.index;
  };
  bytes = p.bytes;
}

abbrev pub piece_with : PieceView → List ℕ → Body2
piece_with p chain = body2.Piece (with_chain p chain)

-- the body of version 2: a piece has the chain at its number of inputs, if it is known; a viewer
-- sends no input
abbrev pub raised : KnownList → Body → Option Body2
raised k (Piece p) = option_map (piece_with p) (chain_in k.from k.chains.items p.applied)
raised k (Input s) = None
raised k (Offer o) = lifted (Offer o)
raised k (Ask a) = lifted (Ask a)
raised k (Ack a) = lifted (Ack a)
raised k (Floor f) = lifted (Floor f)

-- the message of version 2 of what was given: a datagram of version 1, or other bytes, which are
-- not sent
abbrev pub said_of : ViewerRun → Result Message WireFault → Option Message2
said_of r (Ok m) = option_map (Said r.session) (raised r.known m.body)
said_of r (Err fault) = None

abbrev pub Stays : (old new : KnownList) → Type 0
Stays old new = (new.from ≡ old.from) × (new.chains.items ≡ old.chains.items)

-- an ask may begin the list that the viewer knows, unless memory is refused
abbrev pub Begins : (old : KnownList) → (next : ℕ) → (new : KnownList) → Type 0
Begins old next new =
    ((new.from, new.chains.items) ≡ begun old.from old.chains.items old.starts.items (next - 1))
    ⊎ Stays old new

abbrev pub IsAsked : (old : KnownList) → Body → (new : KnownList) → Type 0
IsAsked old (Ask a) new = Begins old a.next new
IsAsked old (Input s) new = Stays old new
IsAsked old (Offer o) new = Stays old new
IsAsked old (Ack a) new = Stays old new
IsAsked old (Floor f) new = Stays old new
IsAsked old (Piece p) new = Stays old new

abbrev pub IsNoted : (old : KnownList) → Result Message WireFault → (new : KnownList) → Type 0
IsNoted old (Ok m) new = IsAsked old m.body new
IsNoted old (Err fault) new = Stays old new

-- what a viewer knows after it said this
pub record IsSaid (old : ViewerRun) (said : Result Message WireFault)
    (new : ViewerRun) : Type 0 where
  pub others : new ≡ record old { known = new.known }
  pub starts : new.known.starts ≡ old.known.starts
  pub noted : IsNoted old.known said new.known
