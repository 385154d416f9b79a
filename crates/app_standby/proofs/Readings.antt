-- The host after a reading is the one of all entries: of those below the base and those that the log
-- knows.
use Rattle.std.proofs.Common.{◌≡◌, ℕ, List, [], ◌++◌, ap, append_assoc, sym, ◌∙◌, subst}
use Rattle.std.specs.Prelude.{Bool, Option, None, Some, Result, Ok, Err, IfOk, IsTrue, OnOk}
use Rattle.share_entries.specs.Base.{BaseView}
use Rattle.share_entries.specs.Entry.{EntryView}
use Rattle.share_law.specs.Parts.{part_of}
use Rattle.share_logged.specs.Bases.{IsBaseOf}
use Rattle.share_logged.specs.Hosting.{LoggedView}
use Rattle.share_logged.specs.Logged.{logged}
use Rattle.share_logged.specs.Making.{IsLogOf, IsOfLog}
use Rattle.share_logged.specs.declared.fault.ResumeFault.{ResumeFault}
use Rattle.share_logged.proofs.Resuming.{of-entries}
use Rattle.share_turns.specs.Attendance.{none_heard}
use Rattle.laws_hosts.specs.Log.{host_of}
use Rattle.app_standby.specs.Origins.{IsBelow, IsNowFrom}
use Rattle.app_standby.specs.State.{IsMade}
use Rattle.app_standby.specs.declared.origin.Origin.{Origin}
use Rattle.app_standby.specs.declared.state.Now.{Now}
use Rattle.app_standby.specs.declared.state.Now.TheVariants as now

-- ---- a host begins

-- the log has no base
pub of-all : (mark : List ℕ) (v : ℕ) (base : Option BaseView) (es : List EntryView) (result : Result LoggedView ResumeFault) → base ≡ None
    → IfOk result (λ h. h ≡ record { mark = mark; part = part_of (host_of v (logged es) 1); attendance = none_heard }) → OnOk result (IsLogOf v es)
    → IfOk result (λ h. (below : List EntryView) → IsBelow v base below → IsOfLog v (below ++ es) h.part)
of-all mark v base es (Err fault) none host log = tt
of-all mark v base es (Ok h) none host log = λ below is.
    let empty : below ≡ [] = subst (λ (o : Option BaseView). IsBelow v o below) none is in
    let part = ap (λ (x : LoggedView). x.part) host in
    subst (λ (l : List EntryView). IsOfLog v (l ++ es) h.part) (sym empty) (of-entries v es h.part log part)

-- it goes on from its base
pub from-base : (v : ℕ) (base : Option BaseView) (b : BaseView) (es : List EntryView) (result : Result LoggedView ResumeFault) → base ≡ Some b
    → IfOk result (λ h. (run : List ℕ) (viewers : ℕ) (below : List EntryView) → IsBaseOf run viewers below b → IsOfLog viewers (below ++ es) h.part)
    → IfOk result (λ h. (below : List EntryView) → IsBelow v base below → IsOfLog v (below ++ es) h.part)
from-base v base b es (Err fault) some log = tt
from-base v base b es (Ok h) some log = λ below is.
    let of_base : IsBelow v (Some b) below = subst (λ (o : Option BaseView). IsBelow v o below) some is in
    log of_base.0 v below of_base.1

-- ---- a host after a reading

-- it followed
pub followed : (o : Origin) (n : Now) (h : LoggedView) (all new : List EntryView) (clean : Bool) (result : Result LoggedView ResumeFault) → n ≡ now.Hosting h
    → IfOk result (λ q. (viewers : ℕ) (known : List EntryView) → IsOfLog viewers known h.part → IsOfLog viewers (known ++ new) q.part)
    → IfOk result (λ q. (known below : List EntryView) → IsTrue clean → all ≡ known ++ new → IsNowFrom o below known n → IsOfLog o.viewers (below ++ all) q.part)
followed o n h all new clean (Err fault) is log = tt
followed o n h all new clean (Ok q) is log = λ known below x same w.
    let old : IsOfLog o.viewers (below ++ known) h.part = subst (λ (z : Now). IsMade o.viewers (below ++ known) z) is w.1.1 in
    let more : (below ++ known) ++ new ≡ below ++ all = append_assoc below known new ∙ ap (λ (l : List EntryView). below ++ l) (sym same) in
    subst (λ (l : List EntryView). IsOfLog o.viewers l q.part) more (log o.viewers (below ++ known) old)

-- it began again
pub begun : (o : Origin) (n : Now) (es all new : List EntryView) (clean : Bool) (result : Result LoggedView ResumeFault) → (IsTrue clean → es ≡ all)
    → IfOk result (λ h. (below : List EntryView) → IsBelow o.viewers o.base below → IsOfLog o.viewers (below ++ es) h.part)
    → IfOk result (λ q. (known below : List EntryView) → IsTrue clean → all ≡ known ++ new → IsNowFrom o below known n → IsOfLog o.viewers (below ++ all) q.part)
begun o n es all new clean (Err fault) entries log = tt
begun o n es all new clean (Ok q) entries log = λ known below x same w.
    subst (λ (l : List EntryView). IsOfLog o.viewers (below ++ l) q.part) (entries x) (log below w.0)
