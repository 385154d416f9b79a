-- The parts that a real host may reach: whatever calls were made, each is the part of some host.
use Rattle.std.specs.Prelude.{◌≡◌, ◌≤◌, ◌+◌, ℕ, ℤ, List, [], ◌∷◌, length, Result}
use Rattle.share_wire.specs.declared.fault.WireFault.{WireFault}
use Rattle.share_wire.specs.declared.message.Message.{Message}
use Rattle.share_law.specs.declared.fault.FloorFault.{FloorFault}
use Rattle.share_law.specs.declared.fault.HostFault.{HostFault}
use Rattle.share_law.specs.declared.fault.NumberFault.{NumberFault}
use Rattle.share_law.specs.declared.reply.HostReply.{HostReply}
use Rattle.share_law.specs.Calls.{IsClocked, IsHostTakeOf, IsPartClocked, IsPartTakeOf}
use Rattle.share_law.specs.Host.{HostState, drop_below, new_host}
use Rattle.share_law.specs.Parts.{HostPart, new_part, part_drop_below, part_of}

-- a call that may change a host, with its answer: a clock, a take of what bytes decode to, or a
-- floor
pub data HostCall : Type 0 where
  Clock : (t : ℤ) → Result ℕ NumberFault → HostCall
  Take : (decoded : Result Message WireFault) → Result HostReply HostFault → HostCall
  DropBelow : (f : ℕ) → Result ℕ FloorFault → HostCall

-- what the call's contract ensures of a real host's part
abbrev pub IsPartCall : (mark : List ℕ) → HostPart → HostCall → HostPart → Type 0
IsPartCall mark old (Clock t result) new = IsPartClocked old t result new
IsPartCall mark old (Take decoded result) new = IsPartTakeOf mark old decoded result new
IsPartCall mark old (DropBelow f result) new = part_drop_below old f ≡ (result, new)

-- like `IsPartCall`, for a host with its whole list
abbrev pub IsHostCall : (mark : List ℕ) → HostState → HostCall → HostState → Type 0
IsHostCall mark old (Clock t result) new = IsClocked old t result new
IsHostCall mark old (Take decoded result) new = IsHostTakeOf mark old decoded result new
IsHostCall mark old (DropBelow f result) new = drop_below old f ≡ (result, new)

-- calls one after another
abbrev pub ArePartCalls : (mark : List ℕ) → HostPart → List HostCall → HostPart → Type 0
ArePartCalls mark old [] new = new ≡ old
ArePartCalls mark old (call ∷ calls) new =
    (mid : HostPart) × IsPartCall mark old call mid × ArePartCalls mark mid calls new

abbrev pub AreHostCalls : (mark : List ℕ) → HostState → List HostCall → HostState → Type 0
AreHostCalls mark old [] new = new ≡ old
AreHostCalls mark old (call ∷ calls) new =
    (mid : HostState) × IsHostCall mark old call mid × AreHostCalls mark mid calls new

-- the part is that of this host, whose floor is from 1 to the next input
pub record IsPartOf (h : HostState) (part : HostPart) : Type 0 where
  pub same : part_of h ≡ part
  pub from_one : 1 ≤ h.floor
  pub at_most : h.floor ≤ length h.list + 1

-- some host has this part: what a type of real hosts can keep as its invariant
abbrev pub IsSomePart : HostPart → Type 0
IsSomePart part = (h : HostState) × IsPartOf h part

pub record HostsAreParts (mark : List ℕ) : Type 0 where
  -- the part of a new real host is the part of the law's new host
  pub begins : (viewers : ℕ) → IsPartOf (new_host viewers) (new_part viewers)
  -- Let a real host have the part of h. After a call of the real host there is a host that h may
  -- become by that call, with the same answer, and the real host has the part of that host.
  pub goes_on : (h : HostState) (old new : HostPart) (call : HostCall)
      → IsPartOf h old → IsPartCall mark old call new
      → (next : HostState) × IsHostCall mark h call next × IsPartOf next new
  -- so some host has the part after the call
  pub keeps : (old new : HostPart) (call : HostCall)
      → IsSomePart old → IsPartCall mark old call new → IsSomePart new
  -- and so it is after any calls of a real host
  pub all : (viewers : ℕ) (calls : List HostCall) (part : HostPart)
      → ArePartCalls mark (new_part viewers) calls part
      → (h : HostState) × AreHostCalls mark (new_host viewers) calls h × IsPartOf h part
