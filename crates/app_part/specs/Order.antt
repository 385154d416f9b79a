-- The notes on what was left out, in the order of their places.
use Rattle.std.specs.Prelude.{◌≡◌, ℕ, List}
use Rattle.std.specs.List.Sorted.{IsPermutation, IsNonDecreasingBy}
use Rattle.classic_part.specs.declared.notes.Note.{Note}
use Rattle.app_part.specs.declared.part.ScenePart.{ScenePart}

-- where the thing begins that a note is of
abbrev pub note_place : Note → ℕ
note_place note = note.line

-- the same notes, in the order of their places
pub record AreByPlace (notes sorted : List Note) : Type 0 where
  pub same : IsPermutation notes sorted
  pub order : IsNonDecreasingBy note_place sorted

-- the same part, but for the order of the notes
pub record IsOrdered (part shown : ScenePart) : Type 0 where
  pub notes : AreByPlace part.left shown.left
  pub text : shown.text ≡ part.text
  pub source : shown.source ≡ part.source
  pub lines : shown.lines ≡ part.lines
  pub unread : shown.unread ≡ part.unread
  pub blames : shown.blames ≡ part.blames
