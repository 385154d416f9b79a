-- What `part` reads and writes.
use Rattle.std.specs.Prelude.{◌≡◌, ℕ, List, Option, option_map}
use Rattle.std.specs.Io.KnownBytes.{Consumes, IsAtEnd}
use Rattle.app_jobs.specs.declared.fault.JobFault.{JobFault}
use Rattle.app_part.specs.Kept.{IsLostOf}
use Rattle.app_part.specs.Listing.{told_text}
use Rattle.app_part.specs.Order.{IsOrdered}
use Rattle.app_part.specs.Whole.{IsPartOfText, IsRefused, IsScene}
use Rattle.app_part.specs.declared.part.ScenePart.{ScenePart}
use Rattle.app_part.specs.declared.streams.KeptTexts.{KeptTexts}
use Rattle.app_part.specs.declared.streams.PartTexts.{PartTexts}

-- the part of these bytes, which is a scene, with its notes in the order of their places
pub record IsOrderedPart (bytes : List ℕ) (shown : ScenePart) : Type 0 where
  pub part : ScenePart
  pub is : IsPartOfText bytes part
  pub ordered : IsOrdered part shown
  pub scene : IsScene shown.text.items

-- the text of a part, and the lines on what was left out
pub record AreShown (shown : ScenePart) (made : PartTexts) : Type 0 where
  pub text : made.text.items ≡ shown.text.items
  pub told : made.told.items ≡ told_text shown

-- the text of the part of these bytes, and the lines on what was left out
pub record ArePartTexts (bytes : List ℕ) (made : PartTexts) : Type 0 where
  pub shown : ScenePart
  pub part : IsOrderedPart bytes shown
  pub texts : AreShown shown made

-- the same, and what is said of the first name that the part lacks
pub record AreKeptTexts (bytes names : List ℕ) (made : KeptTexts) : Type 0 where
  pub shown : ScenePart
  pub part : IsOrderedPart bytes shown
  pub texts : AreShown shown made.texts
  pub lost : IsLostOf shown names (option_map (λ v. v.items) made.lost)

-- a reader was read to its end, from state old to state new, and these are the texts of the part of
-- its bytes
pub record IsPartRead (old new : Option (List ℕ)) (made : PartTexts) : Type 0 where
  pub bytes : List ℕ
  pub consumed : Consumes old new bytes
  pub ended : IsAtEnd new
  pub texts : ArePartTexts bytes made

-- a reader was read to its end, and its bytes have no part, for this reason
pub record HasNoPartRead (old new : Option (List ℕ)) (fault : JobFault) : Type 0 where
  pub bytes : List ℕ
  pub consumed : Consumes old new bytes
  pub ended : IsAtEnd new
  pub refused : IsRefused bytes fault

-- the same as IsPartRead, and what is said of the first name that the part lacks
pub record IsKeptRead (old new : Option (List ℕ)) (names : List ℕ) (made : KeptTexts)
    : Type 0 where
  pub bytes : List ℕ
  pub consumed : Consumes old new bytes
  pub ended : IsAtEnd new
  pub texts : AreKeptTexts bytes names made
