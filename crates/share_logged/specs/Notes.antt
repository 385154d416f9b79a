-- What a turn notes of the datagrams that it takes.
use Rattle.std.specs.Prelude.{◌≡◌, ℕ, ℤ, Bool, IsTrue, List, [], ◌∷◌, ◌++◌, Option, Result, Ok}
use Rattle.std.specs.Prelude.{Err, is_err}
use Rattle.std.specs.List.{flat_map}
use Rattle.x3d_values.specs.Ranges.{is_input_time}
use Rattle.share_wire.specs.declared.fault.WireFault.{WireFault}
use Rattle.share_wire.specs.declared.message.Message.{Message}
use Rattle.share_entries.specs.Entry.{EntryView}
use Rattle.share_law.specs.declared.fault.HostFault.{HostFault}
use Rattle.share_law.specs.declared.reply.HostReply.{HostReply}
use Rattle.share_law.specs.Parts.{HostPart}
use Rattle.share_law.specs.Calls.{IsPartTakeOf}
use Rattle.share_law.specs.Network.{HostTook}
use Rattle.share_law.specs.Steps.{says_memory}
use Rattle.share_turns.specs.declared.fault.TurnFault.{TurnFault}
use Rattle.share_turns.specs.declared.traffic.Traffic.{Traffic}
use Rattle.share_turns.specs.Exchanges.{sent_to}
use Rattle.share_turns.specs.HostTurn.{bodies_for, datagrams_of, sender_of}
use Rattle.share_turns.specs.Told.{Grows}
use Rattle.share_core.specs.Host.{AreNumbered}
use Rattle.share_logged.specs.declared.pending.Note.{Note}
use Rattle.share_logged.specs.Turn.{IsGathered, Taking, all_answers, read_entries}

-- the largest number of answers of a turn, and of entries that it numbers
abbrev pub max_answers : ℕ
max_answers = 64

abbrev pub max_numbered : ℕ
max_numbered = 65

-- the time of the last of these entries, or `last` if there is none
abbrev pub last_after : (last : ℤ) → List EntryView → ℤ
last_after last [] = last
last_after last (e ∷ es) = last_after e.time es

-- the note of a datagram; there is none if the host refused it
abbrev pub noted : (to : ℕ) → (sender : Option ℕ) → Result HostReply HostFault → List Note
noted to sender (Ok reply) = record { to = to; sender = sender; reply = reply } ∷ []
noted to sender (Err fault) = []

-- what is sent for a note, by the part that the host then holds
abbrev pub sent_for : (mark : List ℕ) → HostPart → Note → List Traffic
sent_for mark h n = sent_to n.to (datagrams_of mark (bodies_for h n.sender n.reply))

abbrev pub sent_for_all : (mark : List ℕ) → HostPart → List Note → List Traffic
sent_for_all mark h ns = flat_map (sent_for mark h) ns

-- the inputs that the replies name are numbered
abbrev pub AllNumbered : HostPart → List Note → Type 0
AllNumbered h [] = Unit {0}
AllNumbered h (n ∷ ns) = AreNumbered h n.reply × AllNumbered h ns

-- the times of these entries are in their range
abbrev pub AllFit : List EntryView → Type 0
AllFit [] = Unit {0}
AllFit (e ∷ es) = IsTrue (is_input_time e.time) × AllFit es

-- a datagram was taken: its entry was added, and what it is answered was noted
pub record IsNoted (result : Result (Unit {0}) TurnFault) (mark : List ℕ) (h : HostPart) (to : ℕ)
    (read : Result Message WireFault) (entries more : List EntryView) (notes others : List Note)
    (new : HostPart) : Type 0 where
  pub answer : Result HostReply HostFault
  pub took : IsPartTakeOf mark h read answer new
  pub numbered : more ≡ entries ++ read_entries h.last read answer
  pub noted : others ≡ notes ++ noted to (sender_of read) answer
  pub refused : is_err result ≡ says_memory (HostTook answer)

-- the turn up to its append, and what is noted of it
pub record HasGathered (result : Result (Unit {0}) TurnFault) (mark : List ℕ) (clock : Option ℤ)
    (told_before told_after : Option (List Traffic)) (old new : HostPart)
    (before after : List ℕ) (entries : List EntryView) (notes : List Note) : Type 0 where
  pub takings : List Taking
  pub gathered : IsGathered result mark clock told_before told_after old new before after takings
      entries
  pub answers : (h : HostPart) → sent_for_all mark h notes ≡ all_answers mark h takings

-- these had to be sent and were, or a prefix of them
pub record IsSentInTurn (whole : Bool) (told_before told_after : Option (List Traffic))
    (wanted : List Traffic) : Type 0 where
  pub sent : List Traffic
  pub lost : List Traffic
  pub front : sent ++ lost ≡ wanted
  pub all : IsTrue whole → lost ≡ []
  pub told : Grows told_before told_after sent
