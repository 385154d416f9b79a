-- The tokens of a text with what each is to the statements that are left out.
use Rattle.std.specs.Prelude.{ℕ, List, [], Bool, ◌&&◌, nat_le, length, slice_range, if◌then◌else◌}
use Rattle.classic_lex.specs.declared.token.Token.{Token}
use Rattle.classic_lenient.specs.declared.pieces.Piece.{Piece}
use Rattle.classic_lenient.specs.Marks.{mark_of}

-- a place from a byte up to another, within a number of bytes
abbrev pub is_place : ℕ → ℕ → ℕ → Bool
is_place len start end = nat_le start end && nat_le end len

abbrev pub bytes_at : List ℕ → ℕ → ℕ → List ℕ
bytes_at text start end =
    if is_place (length text) start end then slice_range text start end else []

abbrev pub piece_of : List ℕ → Token → Piece
piece_of text token =
    record {
      mark = mark_of token.kind (bytes_at text token.start token.end);
      start = token.start;
      end = token.end;
      line = token.line;
    }
