-- A host as its contracts see it.
use Rattle.std.specs.Prelude.{ℕ, zero, suc, ◌+◌, ◌-◌, ◌≤◌, ℤ, nat_lt, if◌then◌else◌, List, drop}
use Rattle.std.specs.Prelude.{slice_get, Option, None}
use Rattle.x3d_values.specs.Stamp.{StampedView}
use Rattle.share_rules.specs.declared.kept.SeatCount.{SeatCount}
use Rattle.share_law.specs.declared.reply.HostReply.{HostReply}
use Rattle.share_law.specs.declared.reply.HostReply.TheVariants.{Asked}
use Rattle.share_law.specs.Parts.{HostPart}

-- the mark of the scene, and the part of a host that this host holds; it represents every host with
-- that part
pub record HostView : Type 0 where
  pub mark : List ℕ
  pub part : HostPart

-- the inputs of a part: those from the floor on, the number of all inputs, and the time of the last
pub record HostInputsView : Type 0 where
  pub floor : ℕ
  pub rest : List StampedView
  pub count : ℕ
  pub last : ℤ

-- the part with these inputs, and with what is kept of each viewer
abbrev pub part_with : HostInputsView → List SeatCount → HostPart
part_with e kept =
    record { floor = e.floor; rest = e.rest; count = e.count; last = e.last; kept = kept }

-- input n, if it isn't below the floor
abbrev pub entry : HostInputsView → (n : ℕ) → Option StampedView
entry e zero = None
entry e (suc n) = if nat_lt (suc n) e.floor then None else slice_get e.rest (suc n - e.floor)

-- the inputs from a new floor on, which isn't below the old one
abbrev pub dropped : HostInputsView → (f : ℕ) → HostInputsView
dropped e f = record e { floor = f; rest = drop (f - e.floor) e.rest }

-- the inputs that the reply names are numbered
abbrev pub AreNumbered : HostPart → HostReply → Type 0
AreNumbered p (Asked first count) = first + count ≤ p.count + 1
AreNumbered p reply = Unit {0}
