-- Rounds of leaving out. A node or a prototype that went may have been named by a USE, a ROUTE or
-- an instance, which the next round leaves out.
use Rattle.std.specs.Prelude.{◌≡◌, ℕ, zero, suc, Bool, false, List, [], ◌∷◌, ◌++◌, Some, None, if◌then◌else◌}
use Rattle.std.specs.List.{flat_map, list_any}
use Rattle.classic_tree.specs.declared.tree.Document.{Document}
use Rattle.classic_part.specs.declared.knowing.Known.{Known}
use Rattle.classic_part.specs.declared.notes.Note.{Note}
use Rattle.classic_part.specs.declared.part.Round.{Round}
use Rattle.classic_part.specs.Notes.{is_left_out}
use Rattle.classic_part.specs.Part.{kept_in, notes_in, statement_part}

abbrev pub goes : Note → Bool
goes note = is_left_out note.kind

-- what stays of a document in one round
abbrev pub one_round : Known → Document → Round
one_round known d =
    record {
      document = record d { statements = kept_in (statement_part known) d.statements };
      notes = notes_in (statement_part known) d.statements;
    }

-- the first round takes each name for one that is there
abbrev pub first : List ℕ → Document → Round
first refused d = one_round (record { notes = None; refused = refused }) d

-- a further round knows the names that stayed in the round before
abbrev pub next : List ℕ → Round → Round
next refused r = one_round (record { notes = Some r.notes; refused = refused }) r.document

-- the first round, and n more
abbrev pub after : ℕ → List ℕ → Document → Round
after zero refused d = first refused d
after (suc n) refused d = next refused (after n refused d)

-- the note, if it is of something that went
abbrev pub left_one : Note → List Note
left_one n = if goes n then n ∷ [] else []

-- what went in the first n rounds
abbrev pub left_in : ℕ → List ℕ → Document → List Note
left_in zero refused d = []
left_in (suc n) refused d = left_in n refused d ++ flat_map left_one (after n refused d).notes

-- a round after which nothing more goes; what went was appended to a list
pub record IsSettled (refused : List ℕ) (d : Document) (r : Round) (old new : List Note)
    : Type 0 where
  pub rounds : ℕ
  pub made : r ≡ after rounds refused d
  pub still : list_any goes (next refused r).notes ≡ false
  pub told : new ≡ old ++ left_in (suc rounds) refused d
