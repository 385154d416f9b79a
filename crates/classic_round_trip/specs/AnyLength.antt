-- Which texts spell a document, whatever their length (ISO/IEC 19776-2, grammar).
use Rattle.std.specs.Prelude.{◌≡◌, ℕ, List, IsUtf8}
use Rattle.classic_lex.specs.Tokens.{Piece, text_of, ArePieces, tokens_among, IsHeader}
use Rattle.classic_tree.specs.declared.tree.Document.{Document}
use Rattle.classic_text.specs.Spells.{IsSpelling}

-- The text, which has no byte order mark, spells the document, ignoring lines and the limit on its
-- own length.
pub record SpellsAtAnyLength (text : List ℕ) (d : Document) : Type 0 where
  pub encoded : IsUtf8 text
  pub header : IsHeader d.version text
  pub pieces : List Piece
  pub spelled : text_of pieces ≡ text
  pub cut : ArePieces pieces
  pub spelling : IsSpelling (λ there here. Unit {0}) (tokens_among 1 pieces) d
