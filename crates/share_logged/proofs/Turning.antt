-- A turn, from its parts.
use Rattle.std.proofs.Common.{◌≡◌, ◌≢◌, ℕ, ℤ, Bool, List, [], ◌++◌, refl, ap, sym, ◌∙◌, subst, inl, inr, append-nil}
use Rattle.std.specs.Prelude.{Option, Result, Ok, Err, IfErr, IsTrue, OnErr, OnOk, is_ok}
use Rattle.share_entries.specs.Entry.{EntryView}
use Rattle.share_store.specs.declared.fault.AppendFault.{AppendFault}
use Rattle.share_law.specs.Parts.{HostPart}
use Rattle.share_turns.specs.declared.fault.TurnFault.{TurnFault}
use Rattle.share_turns.specs.declared.fault.TurnFault.TheVariants as turn_fault
use Rattle.share_turns.specs.declared.traffic.Traffic.{Traffic}
use Rattle.share_turns.specs.Told.{Grows}
use Rattle.share_logged.specs.declared.fault.LoggedFault.{LoggedFault}
use Rattle.share_logged.specs.declared.fault.LoggedFault.TheVariants as logged_fault
use Rattle.share_logged.specs.declared.pending.Note.{Note}
use Rattle.share_logged.specs.Notes.{HasGathered, IsSentInTurn, sent_for_all}
use Rattle.share_logged.specs.Turn.{IsLoggedEnd, IsLoggedTurn}

abbrev pub gathered_whole : Result (Unit {0}) TurnFault
gathered_whole = Ok tt

module _ (mark : List ℕ) (clock : Option ℤ) (clean : Bool) (known stored : List EntryView) (a m b : Option (List Traffic)) (old new : HostPart) (x y : List ℕ) (entries : List EntryView) (notes : List Note) where
  pub turn_cut : (fault : TurnFault) → HasGathered (Err fault) mark clock a b old new x y entries notes → stored ≡ known
      → IsLoggedEnd mark clock (logged_fault.Turn fault) clean known stored a b old x
  turn_cut fault g same = inl (record { new = new; after = y; takings = g.takings; entries = entries; gathered = g.gathered; same = same })

  pub turn_unstored : (fault : AppendFault) → HasGathered gathered_whole mark clock a b old new x y entries notes → entries ≢ [] → (IsTrue clean → stored ≡ known)
      → IsLoggedEnd mark clock (logged_fault.Log fault) clean known stored a b old x
  turn_unstored fault g some same = record { new = new; after = y; takings = g.takings; entries = entries; some = some; gathered = g.gathered; same = same }

  pub turn_answered : (result : Result (Unit {0}) LoggedFault) → HasGathered gathered_whole mark clock a m old new x y entries notes → (IsTrue clean → stored ≡ known ++ entries)
      → IsSentInTurn (is_ok result) m b (sent_for_all mark new notes) → OnOk result (IsLoggedTurn mark clock clean known stored a b old new x y)
  turn_answered (Ok u) g has s = record {
    takings = g.takings;
    entries = entries;
    between = m;
    gathered = g.gathered;
    has_stored = has;
    told = subst (λ (l : List Traffic). Grows m b l) (sym (append-nil s.sent) ∙ ap (λ (l : List Traffic). s.sent ++ l) (sym (s.all refl)) ∙ s.front ∙ g.answers new) s.told;
  }
  turn_answered (Err fault) g has s = tt

  pub turn_ended : (result : Result (Unit {0}) LoggedFault) → HasGathered gathered_whole mark clock a m old new x y entries notes → (IsTrue clean → stored ≡ known ++ entries)
      → IsSentInTurn (is_ok result) m b (sent_for_all mark new notes) → OnErr result (result ≡ Err (logged_fault.Turn turn_fault.Port))
      → IfErr result (λ fault. IsLoggedEnd mark clock fault clean known stored a b old x)
  turn_ended (Ok u) g has s port = tt
  turn_ended (Err (logged_fault.Turn turn_fault.Port)) g has s port = inr (
    refl,
    record {
      new = new;
      after = y;
      takings = g.takings;
      entries = entries;
      between = m;
      sent = s.sent;
      lost = s.lost;
      gathered = g.gathered;
      has_stored = has;
      front = s.front ∙ g.answers new;
      told = s.told;
    },
  )
  turn_ended (Err (logged_fault.Turn turn_fault.Spoiled)) g has s port = absurd (cc)
  turn_ended (Err (logged_fault.Turn turn_fault.Memory)) g has s port = absurd (cc)
  turn_ended (Err (logged_fault.Log fault)) g has s port = absurd (cc)
