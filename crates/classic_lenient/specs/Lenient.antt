-- The document of a text with statements that aren't read.
use Rattle.std.specs.Prelude.{◌≡◌, ◌⊎◌, ℕ, Bool, true, false, List, [], map, Ok, Err}
use Rattle.classic_lex.specs.Header.{mark_len}
use Rattle.classic_lex.specs.Lexed.{lexed, seen}
use Rattle.classic_lex.specs.Spans.{AreSpans}
use Rattle.classic_lex.specs.declared.fault.LexFault.{LexFault}
use Rattle.classic_lex.specs.declared.token.Token.{Token}
use Rattle.classic_text.specs.Reading.{read_text, of_tokens}
use Rattle.classic_text.specs.declared.fault.ReadFault.{ReadFault}
use Rattle.classic_text.specs.declared.fault.ReadFaultKind.{ReadFaultKind}
use Rattle.classic_text.specs.declared.fault.ReadFaultKind.TheVariants.{Memory}
use Rattle.classic_tree.specs.declared.tree.Document.{Document}
use Rattle.classic_lenient.specs.declared.reading.Lenient.{Lenient}
use Rattle.classic_lenient.specs.declared.scan.Unread.{Unread}
use Rattle.classic_lenient.specs.Pieces.{piece_of}
use Rattle.classic_lenient.specs.Scan.{unread_in}
use Rattle.classic_lenient.specs.Blanks.{blanked}
use Rattle.classic_lenient.specs.VrmlHeader.{as_x3d}

abbrev pub says_memory : ReadFaultKind → Bool
says_memory Memory = true
says_memory _ = false

-- the statements of a text that are left out, by its tokens in their places
pub record IsPlaced (text : List ℕ) (unread : List Unread) : Type 0 where
  pub tokens : List Token
  pub lexed : lexed text ≡ Ok (map (seen text) tokens)
  pub spans : AreSpans text (mark_len text) tokens
  pub are : unread ≡ unread_in (map (piece_of text) tokens)

-- the document of the text with spaces for those statements
pub record IsMended (text : List ℕ) (made : Lenient) : Type 0 where
  pub placed : IsPlaced text made.unread
  pub read : read_text (blanked text made.unread) ≡ Ok made.document

-- the text has no tokens; or it is not a document even with spaces for those statements
abbrev pub IsUnmended : List ℕ → ReadFault → Type 0
IsUnmended text fault =
    ((lex : LexFault) × (lexed text ≡ Err lex) × (fault ≡ of_tokens lex))
    ⊎ ((unread : List Unread) × IsPlaced text unread
    × (read_text (blanked text unread) ≡ Err fault))

-- a document is read as a whole; only of another text statements are left out
abbrev pub IsLenient : List ℕ → Lenient → Type 0
IsLenient text made =
    ((read_text text ≡ Ok made.document) × (made.unread ≡ []))
    ⊎ ((fault : ReadFault) × (read_text text ≡ Err fault) × IsMended (as_x3d text) made)

abbrev pub IsUnreadable : List ℕ → ReadFault → Type 0
IsUnreadable text fault =
    (first : ReadFault) × (read_text text ≡ Err first) × IsUnmended (as_x3d text) fault

-- ---- laws

-- a text that the exact reader takes is read as the same document, and nothing is left out
abbrev pub ReadTextsStay : Type 0
ReadTextsStay =
    (text : List ℕ) (d : Document) (made : Lenient) → read_text text ≡ Ok d → IsLenient text made
    → (made.document ≡ d) × (made.unread ≡ [])
