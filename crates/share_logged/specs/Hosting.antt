-- A host over a log, as its contracts see it.
use Rattle.std.specs.Prelude.{ℕ, List}
use Rattle.share_law.specs.Parts.{HostPart}
use Rattle.share_turns.specs.declared.attendance.Attendance.{Attendance}

-- the mark of its scene, its part, and which viewers it counts
pub record LoggedView : Type 0 where
  pub mark : List ℕ
  pub part : HostPart
  pub attendance : Attendance
