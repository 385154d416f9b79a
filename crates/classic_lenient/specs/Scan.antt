-- The statements that are left out (ISO/IEC 19776-2, grammar): EXTERNPROTO where a statement or an
-- item of a node may begin; IMPORT, EXPORT and UNIT where a statement of a text or of the body of a
-- PROTO may; declarations whose type is not one of the 19 that are read.
use Rattle.std.specs.Prelude.{ℕ, zero, suc, ◌+◌, ◌-◌, List, [], ◌∷◌, Bool, true, false, not, ◌&&◌, ◌==◌, Option, Some, None, min, slice_get, ◌^◌, if◌then◌else◌}
use Rattle.classic_lenient.specs.declared.mark.Mark.{Mark}
use Rattle.classic_lenient.specs.declared.mark.Mark.TheVariants as mark
use Rattle.classic_lenient.specs.declared.pieces.Piece.{Piece}
use Rattle.classic_lenient.specs.declared.scan.Around.{Around}
use Rattle.classic_lenient.specs.declared.scan.Before.{Before}
use Rattle.classic_lenient.specs.declared.scan.Before.TheVariants as before
use Rattle.classic_lenient.specs.declared.scan.Unread.{Unread}
use Rattle.classic_lenient.specs.declared.scan.UnreadKind.{UnreadKind}
use Rattle.classic_lenient.specs.declared.scan.UnreadKind.TheVariants as kind
use Rattle.classic_lenient.specs.Lengths.{extern_len, import_len, export_len, unit_len, declaration_len}

-- ---- where a statement may begin

abbrev pub is_binding : Before → Bool
is_binding before.Binding = true
is_binding _ = false

abbrev pub is_after_list : Before → Bool
is_after_list before.CloseBracket = true
is_after_list _ = false

abbrev pub is_statement : Around → Bool
is_statement around = around.inside == 0 && not (is_binding around.before)

-- ---- the statement at the front

abbrev pub begun : Around → Mark → List Piece → ℕ
begun around mark.ExternProto ps = if not (is_binding around.before) then extern_len ps else 0
begun around mark.Import ps = if is_statement around then import_len ps else 0
begun around mark.Export ps = if is_statement around then export_len ps else 0
begun around mark.Unit ps = if is_statement around then unit_len ps else 0
begun around mark.Holds ps = declaration_len true ps
begun around mark.Event ps = declaration_len false ps
begun around _ ps = 0

-- its number of tokens; 0 if there is none
abbrev pub unread_len : Around → List Piece → ℕ
unread_len around [] = 0
unread_len around (p ∷ ps) = begun around p.mark ps

abbrev pub kind_of : Mark → UnreadKind
kind_of mark.ExternProto = kind.ExternProto
kind_of mark.Import = kind.Import
kind_of mark.Export = kind.Export
kind_of mark.Unit = kind.Unit
kind_of _ = kind.Declaration

abbrev pub no_piece : Piece
no_piece = record { mark = mark.Point; start = 0; end = 0; line = 0 }

abbrev pub piece_or : Option Piece → Piece
piece_or None = no_piece
piece_or (Some p) = p

abbrev pub piece_at : List Piece → ℕ → Piece
piece_at ps at = piece_or (slice_get ps at)

-- a declaration has its name after the type
abbrev pub name_place : UnreadKind → ℕ
name_place kind.Declaration = 2
name_place _ = 1

abbrev pub unread_by : UnreadKind → ℕ → List Piece → Unread
unread_by k len ps =
    record {
      kind = k;
      line = (piece_at ps 0).line;
      start = (piece_at ps 0).start;
      end = (piece_at ps (len - 1)).end;
      name_start = (piece_at ps (name_place k)).start;
      name_end = (piece_at ps (name_place k)).end;
    }

-- the statement of the first tokens
abbrev pub unread_of : ℕ → List Piece → Unread
unread_of len ps = unread_by (kind_of (piece_at ps 0).mark) len ps

-- ---- after a token

abbrev pub before_of : Mark → Before
before_of mark.Binding = before.Binding
before_of mark.Is = before.Binding
before_of mark.Point = before.Binding
before_of mark.CloseBracket = before.CloseBracket
before_of _ = before.Other

abbrev pub one_more : ℕ → ℕ
one_more n = min (n + 1) (2 ^ 64 - 1)

-- A brace after a list opens the body of a PROTO, whose statements are like those of a text.
abbrev pub inside_after : Around → Mark → ℕ
inside_after around mark.OpenBrace =
    if around.inside == 0 && is_after_list around.before then 0 else one_more around.inside
inside_after around mark.OpenBracket = one_more around.inside
inside_after around mark.CloseBrace = around.inside - 1
inside_after around mark.CloseBracket = around.inside - 1
inside_after around _ = around.inside

abbrev pub passed : Around → Mark → Around
passed around m = record { inside = inside_after around m; before = before_of m }

abbrev pub behind : Around → Around
behind around = record around { before = before.Other }

-- ---- all statements

abbrev pub begin_with : ℕ → Around → Piece → List Piece → (ℕ → Around → List Unread) → List Unread
begin_with zero around p ps go_on = go_on 0 (passed around p.mark)
begin_with (suc n) around p ps go_on = unread_of (suc n) (p ∷ ps) ∷ go_on n (behind around)

-- of these tokens, the first of which belong to a statement that began before
unfoldable pub scan : ℕ → Around → List Piece → List Unread
scan skip around [] = []
scan (suc skip) around (p ∷ ps) = scan skip around ps
scan zero around (p ∷ ps) =
    begin_with (unread_len around (p ∷ ps)) around p ps (λ skip a. scan skip a ps)

abbrev pub outermost : Around
outermost = record { inside = 0; before = before.Other }

abbrev pub unread_in : List Piece → List Unread
unread_in ps = scan 0 outermost ps
