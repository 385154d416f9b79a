-- A turn over a log that knows the last entries of a world alone is one over all its entries.
use Rattle.std.proofs.Common.{ℕ, ℤ, Bool, List, ◌++◌, inl, inr, ap, sym, ◌∙◌, append_assoc}
use Rattle.std.specs.Prelude.{Option}
use Rattle.share_entries.specs.Entry.{EntryView}
use Rattle.share_law.specs.Parts.{HostPart}
use Rattle.share_turns.specs.declared.fault.TurnFault.{TurnFault}
use Rattle.share_turns.specs.declared.traffic.Traffic.{Traffic}
use Rattle.share_logged.specs.declared.fault.LoggedFault.{LoggedFault}
use Rattle.share_logged.specs.declared.fault.LoggedFault.TheVariants as logged_fault
use Rattle.share_logged.specs.Turn.{IsCut, IsLoggedEnd, IsLoggedTurn, IsUnsent, IsUnstored}

module _ (mark : List ℕ) (clock : Option ℤ) (clean : Bool) (below known stored : List EntryView) (a b : Option (List Traffic)) (old : HostPart) (x : List ℕ) where
  pub turn-behind : (new : HostPart) (y : List ℕ) → IsLoggedTurn mark clock clean known stored a b old new x y → IsLoggedTurn mark clock clean (below ++ known) (below ++ stored) a b old new x y
  turn-behind new y t = record {
    takings = t.takings;
    entries = t.entries;
    between = t.between;
    gathered = t.gathered;
    has_stored = λ c. ap (λ (l : List EntryView). below ++ l) (t.has_stored c) ∙ sym (append_assoc below known t.entries);
    told = t.told;
  }

  cut-behind : (fault : TurnFault) → IsCut mark clock fault known stored a b old x → IsCut mark clock fault (below ++ known) (below ++ stored) a b old x
  cut-behind fault c = record {
    new = c.new;
    after = c.after;
    takings = c.takings;
    entries = c.entries;
    gathered = c.gathered;
    same = ap (λ (l : List EntryView). below ++ l) c.same;
  }

  unstored-behind : IsUnstored mark clock clean known stored a b old x → IsUnstored mark clock clean (below ++ known) (below ++ stored) a b old x
  unstored-behind c = record {
    new = c.new;
    after = c.after;
    takings = c.takings;
    entries = c.entries;
    some = c.some;
    gathered = c.gathered;
    same = λ k. ap (λ (l : List EntryView). below ++ l) (c.same k);
  }

  unsent-behind : IsUnsent mark clock clean known stored a b old x → IsUnsent mark clock clean (below ++ known) (below ++ stored) a b old x
  unsent-behind c = record {
    new = c.new;
    after = c.after;
    takings = c.takings;
    entries = c.entries;
    between = c.between;
    sent = c.sent;
    lost = c.lost;
    gathered = c.gathered;
    has_stored = λ k. ap (λ (l : List EntryView). below ++ l) (c.has_stored k) ∙ sym (append_assoc below known c.entries);
    front = c.front;
    told = c.told;
  }

  pub end-behind : (fault : LoggedFault) → IsLoggedEnd mark clock fault clean known stored a b old x → IsLoggedEnd mark clock fault clean (below ++ known) (below ++ stored) a b old x
  end-behind (logged_fault.Turn fault) (inl c) = inl (cut-behind fault c)
  end-behind (logged_fault.Turn fault) (inr k) = inr (k.0, unsent-behind k.1)
  end-behind (logged_fault.Log fault) c = unstored-behind c
