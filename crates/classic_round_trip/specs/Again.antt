-- The text written for a tree stays the same if it is read and written again (ISO/IEC 19776-2,
-- grammar).
use Rattle.std.specs.Prelude.{◌≡◌, ℕ, ◌≤◌, List, length}
use Rattle.classic_lex.specs.Header.{max_len}
use Rattle.classic_tree.specs.Writing.{document_text}
use Rattle.classic_tree.specs.declared.tree.Document.{Document}
use Rattle.classic_text.specs.Spells.{Spells}
use Rattle.classic_round_trip.specs.Spellable.{IsSpellable}

-- the text spells a document, and writing any document that it spells gives this text
pub record IsWrittenAgain (text : List ℕ) : Type 0 where
  pub document : Document
  pub spelled : Spells text document
  pub same : (d : Document) → Spells text d → document_text d ≡ text

-- the text written for a spellable document is such a text, within the limit of 16 MiB
abbrev pub TextsStay : Type 0
TextsStay =
    (d : Document) → IsSpellable d → length (document_text d) ≤ max_len
    → IsWrittenAgain (document_text d)
