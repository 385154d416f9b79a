-- What `format` reads and writes: a text, and the text of its document (ISO/IEC 19776-2, grammar).
use Rattle.std.specs.Prelude.{◌≡◌, ◌⊎◌, ◌≤◌, ◌^◌, Option, Some, ℕ, List, [], length, Result, Ok, Err}
use Rattle.std.specs.Io.KnownBytes.{Appends, Consumes, IsAtEnd, Keeps}
use Rattle.classic_tree.specs.Writing.{document_text}
use Rattle.classic_tree.specs.declared.tree.Document.{Document}
use Rattle.classic_text.specs.Reading.{read_text}
use Rattle.classic_text.specs.Spells.{Spells}
use Rattle.classic_round_trip.specs.AnyLength.{SpellsAtAnyLength}
use Rattle.app_jobs.specs.Faults.{of_read}
use Rattle.app_program.specs.Opening.{next}
use Rattle.app_jobs.specs.declared.fault.JobFault.{JobFault}
use Rattle.app_jobs.specs.declared.fault.JobFault.TheVariants.{Device}

-- the document that a text spells, or its first fault
abbrev pub document_of : List ℕ → Result Document JobFault
document_of text = next of_read (read_text text) (λ d. Ok d)

-- a reader was read to its end, from state old to state new, and its bytes spell the document
pub record IsDocumentRead (old new : Option (List ℕ)) (d : Document) : Type 0 where
  pub bytes : List ℕ
  pub consumed : Consumes old new bytes
  pub ended : IsAtEnd new
  pub spelled : Spells bytes d

-- a reader was read to its end, and its bytes spell no document, for this reason
pub record IsNoText (old new : Option (List ℕ)) (fault : JobFault) : Type 0 where
  pub bytes : List ℕ
  pub consumed : Consumes old new bytes
  pub ended : IsAtEnd new
  pub refused : document_of bytes ≡ Err fault

-- a reader's bytes spell a document, and the text of that document was appended to a writer. That
-- text spells the document again, whatever its length and except for line numbers
pub record IsFormatted (old_read new_read old_written new_written : Option (List ℕ)) : Type 0 where
  pub document : Document
  pub read : IsDocumentRead old_read new_read document
  pub written : Appends old_written new_written (document_text document)
  pub again : SpellsAtAnyLength (document_text document) document

-- nothing was written; or the writer failed, and the reader's bytes spell a document
abbrev pub IsUnwritten : Option (List ℕ) → Option (List ℕ) → Option (List ℕ) → Option (List ℕ)
    → JobFault → Type 0
IsUnwritten old_read new_read old_written new_written fault =
    Keeps old_written new_written
    ⊎ ((fault ≡ Device) × ((d : Document) × IsDocumentRead old_read new_read d))

-- -- written texts can be read again

-- the first bytes are a scene that is written as the second
abbrev pub IsFormattedAs : List ℕ → List ℕ → Type 0
IsFormattedAs text written = IsFormatted (Some text) (Some []) (Some []) (Some written)

-- the bytes are written as themselves and as nothing else, and are never refused as a text
pub record IsFormattedAlike (text : List ℕ) : Type 0 where
  pub same : IsFormattedAs text text
  pub only : (other : List ℕ) → IsFormattedAs text other → other ≡ text
  pub taken : (fault : JobFault) → ¬ IsNoText (Some text) (Some []) fault

-- all bytes that a scene is written as stay the same, within the limit of 16 MiB
abbrev pub FormattedTextsStay : Type 0
FormattedTextsStay =
    (text written : List ℕ) → IsFormattedAs text written → length written ≤ 2 ^ 24
    → IsFormattedAlike written
