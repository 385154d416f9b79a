-- The part of a text that is a scene, and the lines and numbers of what was left out.
use Rattle.std.specs.Prelude.{◌≡◌, ℕ, List, Result, IfErr, IfOk}
use Rattle.app_jobs.specs.declared.fault.JobFault.{JobFault}
use Rattle.app_part.specs.Listing.{told_text}
use Rattle.app_part.specs.Order.{IsOrdered}
use Rattle.app_part.specs.Whole.{IsPartOfText, IsRefused, IsScene}
use Rattle.app_part.specs.declared.part.ScenePart.{ScenePart}
use Rattle.embed_parts.specs.LeftOut.{left_numbers}
use Rattle.embed_parts.specs.declared.part.EmbeddedPart.{EmbeddedPart}

-- the text of a part, and the lines and numbers of what was left out
pub record IsTold (part : ScenePart) (made : EmbeddedPart) : Type 0 where
  pub text : made.text.items ≡ part.text.items
  pub told : made.told.items ≡ told_text part
  pub notes : made.notes.items ≡ left_numbers part

-- the same, with the notes in the order of their places
pub record IsToldInOrder (part : ScenePart) (made : EmbeddedPart) : Type 0 where
  pub shown : ScenePart
  pub ordered : IsOrdered part shown
  pub told : IsTold shown made

-- the part of a text, which is a scene
pub record IsMade (text : List ℕ) (made : EmbeddedPart) : Type 0 where
  pub part : ScenePart
  pub is : IsPartOfText text part
  pub scene : IsScene made.text.items
  pub told : IsToldInOrder part made

-- the part of a text, or why there is none
abbrev pub IsOpened : List ℕ → Result EmbeddedPart JobFault → Type 0
IsOpened text result = IfOk result (IsMade text) × IfErr result (IsRefused text)
