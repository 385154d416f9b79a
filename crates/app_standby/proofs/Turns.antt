-- A turn of a run, and what ends it.
use Rattle.std.proofs.Common.{◌≡◌, ℕ, ℤ, List, ◌++◌, ◌∙◌, sym, subst, inl, inr}
use Rattle.std.specs.Prelude.{Bool, Option, Result, Ok, Err, IfOk, IsTrue, OnErr}
use Rattle.share_entries.specs.Entry.{EntryView}
use Rattle.share_law.specs.Parts.{HostPart}
use Rattle.share_logged.specs.Making.{IsOfLog}
use Rattle.share_logged.specs.Resting.{IsRestedTurn}
use Rattle.share_logged.specs.Shown.{Shows}
use Rattle.share_logged.specs.Turn.{IsLoggedEnd}
use Rattle.share_logged.specs.declared.fault.LoggedFault.{LoggedFault}
use Rattle.share_logged.specs.declared.fault.LoggedFault.TheVariants as logged_fault
use Rattle.share_store.specs.OneLog.{Begins}
use Rattle.share_store.specs.declared.fault.AppendFault.TheVariants as append
use Rattle.share_turns.specs.Runs.{Hosting}
use Rattle.share_turns.specs.Told.{Passed}
use Rattle.share_turns.specs.declared.traffic.Traffic.{Traffic}
use Rattle.app_standby.specs.Shared.{ShowsFirst}
use Rattle.app_standby.specs.State.{after_fault}
use Rattle.app_standby.specs.Steps.{Goes, moment}
use Rattle.app_standby.specs.declared.fault.SharedFault.{SharedFault}
use Rattle.app_standby.specs.declared.state.Now.{Now}
use Rattle.app_standby.specs.declared.state.Now.TheVariants as now
use Rattle.app_standby.proofs.Going.{begins-below, begins-equal, shows-first}

turn-grows : (mark : List ℕ) (keep : Option ℕ) (clock : Option ℤ) (clean : Bool) (known stored : List EntryView) (a b : Passed) (old new : Hosting)
    → IsRestedTurn mark keep clock clean known stored a b old new → IsTrue clean → Begins known stored
turn-grows mark keep clock clean known stored a b old new r x = (r.turned.entries, r.turned.has_stored x)

end-grows : (mark : List ℕ) (clock : Option ℤ) (fault : LoggedFault) (clean : Bool) (known stored : List EntryView) (a b : Option (List Traffic)) (old : HostPart) (before : List ℕ)
    → IsLoggedEnd mark clock fault clean known stored a b old before → IsTrue clean → Begins known stored
end-grows mark clock (logged_fault.Turn f) clean known stored a b old before (inl cut) x = begins-equal known stored cut.same
end-grows mark clock (logged_fault.Turn f) clean known stored a b old before (inr rest) x = (rest.1.entries, rest.1.has_stored x)
end-grows mark clock (logged_fault.Log f) clean known stored a b old before un x = begins-equal known stored (un.same x)

-- a whole turn of a host with the mark `h`, after which it has the mark `n`
pub turn-goes : (mark h n : List ℕ) (v : ℕ) (below : List EntryView) (keep : Option ℕ) (clock : Option ℤ) (p q : Bool) (known stored : List EntryView) (a b : Passed) (old new : Hosting)
    → n ≡ h → IsRestedTurn h keep clock q known stored a b old new → (IsTrue q → IsTrue p)
    → (IsTrue q → IsOfLog v (below ++ known) old.part → Shows h v (below ++ stored) a.told b.told)
    → (IsTrue q → IsOfLog v (below ++ known) old.part → IsOfLog v (below ++ stored) new.part)
    → Goes mark v (moment (below ++ known) p a.told) (moment (below ++ stored) q b.told) ((h ≡ mark) × IsOfLog v (below ++ known) old.part)
    ((n ≡ mark) × IsOfLog v (below ++ stored) new.part)
turn-goes mark h n v below keep clock p q known stored a b old new same done clean shown stays = record {
  clean = clean;
  grows = λ x. begins-below below known stored (turn-grows h keep clock q known stored a b old new done x);
  shown = λ x w.
      subst (λ (m : List ℕ). ShowsFirst m v (below ++ stored) a.told b.told) w.0
      (shows-first h v (below ++ stored) a.told b.told (shown x w.1));
  stays = λ x w. (same ∙ w.0, stays x w.1);
}

-- a turn that ended early
pub end-goes : (mark h : List ℕ) (v : ℕ) (below : List EntryView) (clock : Option ℤ) (fault : LoggedFault) (p q : Bool) (known stored : List EntryView) (a b : Option (List Traffic)) (old : HostPart) (before : List ℕ) (is : Type 0)
    → is → IsLoggedEnd h clock fault q known stored a b old before → (IsTrue q → IsTrue p)
    → (IsTrue q → IsOfLog v (below ++ known) old → Shows h v (below ++ stored) a b)
    → Goes mark v (moment (below ++ known) p a) (moment (below ++ stored) q b) ((h ≡ mark) × IsOfLog v (below ++ known) old) is
end-goes mark h v below clock fault p q known stored a b old before is holds ended clean shown = record {
  clean = clean;
  grows = λ x. begins-below below known stored (end-grows h clock fault q known stored a b old before ended x);
  shown = λ x w. subst (λ (m : List ℕ). ShowsFirst m v (below ++ stored) a b) w.0 (shows-first h v (below ++ stored) a b (shown x w.1));
  stays = λ x w. holds;
}

-- the run goes on without its host, or it ends
pub fault-ok : (fault : LoggedFault) (result : Result Now SharedFault) (P : Now → Type 0) → result ≡ after_fault fault → P now.Behind → IfOk result P
fault-ok (logged_fault.Turn f) result P is h = subst (λ (r : Result Now SharedFault). IfOk r P) (sym is) tt
fault-ok (logged_fault.Log append.Taken) result P is h = subst (λ (r : Result Now SharedFault). IfOk r P) (sym is) h
fault-ok (logged_fault.Log append.InDoubt) result P is h = subst (λ (r : Result Now SharedFault). IfOk r P) (sym is) h
fault-ok (logged_fault.Log append.Memory) result P is h = subst (λ (r : Result Now SharedFault). IfOk r P) (sym is) tt
fault-ok (logged_fault.Log append.Full) result P is h = subst (λ (r : Result Now SharedFault). IfOk r P) (sym is) tt

pub on-err : {A : Type 0} (result : Result Now SharedFault) → A → OnErr result A
on-err (Ok n) h = tt
on-err (Err fault) h = h
