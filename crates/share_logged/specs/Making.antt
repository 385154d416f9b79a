-- The logs that a host's calls make, and the host that a log makes.
use Rattle.std.specs.Prelude.{◌≡◌, ℕ, ◌+◌, ◌≤◌, ℤ, pos, ◌+ℤ◌, List, [], ◌∷◌, length, Ok}
use Rattle.share_wire.specs.declared.message.Body.TheVariants as body
use Rattle.share_entries.specs.Entry.{EntryView}
use Rattle.share_entries.specs.declared.entry.Source.{Source}
use Rattle.share_entries.specs.declared.entry.Source.TheVariants.{Clock, Offer}
use Rattle.share_law.specs.declared.reply.HostReply.TheVariants.{Numbered}
use Rattle.share_law.specs.Host.{HostState, new_host, host_clock, host_take, last_time}
use Rattle.share_law.specs.Parts.{HostPart, part_of}
use Rattle.laws_hosts.specs.Log.{host_of}
use Rattle.share_logged.specs.Logged.{logged}

-- The host numbers an input at this time: a clock, or an offer, which it numbers 1 microsecond
-- after its last input.
abbrev pub MakesOf : HostState → (time : ℤ) → Source → HostState → Type 0
MakesOf h time Clock new = (n : ℕ) × (host_clock h time ≡ (Ok n, new))
MakesOf h time (Offer o) new =
    (time ≡ last_time h.list +ℤ pos 1)
    × ((n : ℕ) × (host_take h (body.Offer o) ≡ (Ok (Numbered n), new)))

abbrev pub Makes : HostState → EntryView → HostState → Type 0
Makes h e new = MakesOf h e.time e.source new

-- the host numbers the inputs of these entries, one after another
abbrev pub AreMade : HostState → List EntryView → HostState → Type 0
AreMade h [] new = new ≡ h
AreMade h (e ∷ es) new = (next : HostState) × Makes h e next × AreMade next es new

-- these entries are a log: clocks and offers of a new host make them
abbrev pub IsLogOf : (viewers : ℕ) → List EntryView → Type 0
IsLogOf viewers entries = (h : HostState) × AreMade (new_host viewers) entries h

-- the part is that of the host that the entries of a log make, from the part's floor on
pub record IsOfLog (viewers : ℕ) (entries : List EntryView) (part : HostPart) : Type 0 where
  pub log : IsLogOf viewers entries
  pub from_one : 1 ≤ part.floor
  pub to_next : part.floor ≤ length entries + 1
  pub same : part ≡ part_of (host_of viewers (logged entries) part.floor)
