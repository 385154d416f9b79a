-- A turn, and what follows it.
use Rattle.std.proofs.Common.{◌≡◌, ℕ, ℤ, Bool, List, ◌+◌, ap, sym, ◌∙◌, subst}
use Rattle.std.specs.Prelude.{Option, IsTrue}
use Rattle.share_entries.specs.Entry.{EntryView}
use Rattle.share_law.specs.Parts.{HostPart}
use Rattle.share_turns.specs.Heard.{nobody}
use Rattle.share_turns.specs.Runs.{hosting}
use Rattle.share_turns.specs.Told.{passed}
use Rattle.share_turns.specs.declared.attendance.Attendance.{Attendance}
use Rattle.share_turns.specs.declared.traffic.Traffic.{Traffic}
use Rattle.share_logged.specs.Making.{IsOfLog}
use Rattle.share_logged.specs.Resting.{IsRestedTurn, IsSettled}
use Rattle.share_logged.specs.Shown.{Shows}
use Rattle.share_logged.specs.Turn.{IsLoggedTurn}
use Rattle.share_logged.proofs.Dropping.{kept-of}
use Rattle.share_logged.proofs.Showing.{turn-current, turn-shows}

pub rested : (mark : List ℕ) (keep : Option ℕ) (clock : Option ℤ) (clean : Bool) (known stored : List EntryView) (a m b : Option (List Traffic)) (ra rm rb : ℕ)
    (old left new : HostPart) (none came : List ℕ) (before after : Attendance) (millis : ℕ) → none ≡ nobody → IsLoggedTurn mark clock clean known stored a m old left none came
    → IsSettled keep came left new before after millis → b ≡ m → rm ≡ ra → rb ≡ rm + millis
    → IsRestedTurn mark keep clock clean known stored (passed a ra) (passed b rb) (hosting old before) (hosting new after)
rested mark keep clock clean known stored a m b ra rm rb old left new none came before after millis is turned settled told time more = record {
  left = left;
  came = came;
  turned = subst (λ (t : Option (List Traffic)). IsLoggedTurn mark clock clean known stored a t old left nobody came) (sym told)
      (subst (λ (h : List ℕ). IsLoggedTurn mark clock clean known stored a m old left h came) is turned);
  millis = millis;
  settled = settled;
  rested = more ∙ ap (λ (n : ℕ). n + millis) time;
}

pub rested-current : (v : ℕ) (mark : List ℕ) (keep : Option ℕ) (clock : Option ℤ) (clean : Bool) (known stored : List EntryView) (a m : Option (List Traffic))
    (old left new : HostPart) (none came : List ℕ) (before after : Attendance) (millis : ℕ) → IsLoggedTurn mark clock clean known stored a m old left none came
    → IsSettled keep came left new before after millis → IsTrue clean → IsOfLog v known old → IsOfLog v stored new
rested-current v mark keep clock clean known stored a m old left new none came before after millis turned settled is_clean is =
    subst (λ (p : HostPart). IsOfLog v stored p) (sym settled.kept)
    (kept-of v stored keep settled.noted left (turn-current v mark clock clean known stored a m old left none came turned is_clean is))

pub rested-shows : (v : ℕ) (mark : List ℕ) (clock : Option ℤ) (clean : Bool) (known stored : List EntryView) (a m b : Option (List Traffic)) (old left : HostPart) (none came : List ℕ)
    → IsLoggedTurn mark clock clean known stored a m old left none came → b ≡ m → IsTrue clean → IsOfLog v known old → Shows mark v stored a b
rested-shows v mark clock clean known stored a m b old left none came turned told is_clean is =
    subst (λ (t : Option (List Traffic)). Shows mark v stored a t) (sym told) (turn-shows v mark clock clean known stored a m old left none came turned is_clean is)
