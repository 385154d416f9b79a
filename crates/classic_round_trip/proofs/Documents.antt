-- What is written of a spellable document spells it.
use Rattle.std.proofs.Common.{◌≡◌, ℕ, ◌≤◌, List, [], ◌∷◌, ◌++◌, length, refl, sym, ap, subst, ◌∙◌, append_assoc, append-nil, inl, inr, arith}
use Rattle.std.specs.Prelude.{codes}
use Rattle.std.specs.Str.{IsUtf8}
use Rattle.std.specs.List.{flat_map}
use Rattle.std.proofs.lemmas.Str.{IsUtf8-append}
use Rattle.classic_lex.specs.declared.versions.Version.{Version}
use Rattle.classic_lex.specs.declared.versions.Version.TheVariants.{V3_0, V3_1, V3_2, V3_3, V4_0}
use Rattle.classic_bytes.specs.Bytes.{is_space, is_line_end}
use Rattle.classic_lex.specs.Header.{max_len, version_text}
use Rattle.classic_lex.specs.Lexed.{Tok, line_after}
use Rattle.classic_lex.specs.Tokens.{Piece, blank, text_of, IsPiece, IsComment, ArePieces, tokens_among, IsHeader, IsHeaded}
use Rattle.classic_tree.specs.declared.tree.Document.{Document}
use Rattle.classic_tree.specs.Writing.{profile_line, component_line, meta_line, lines_text, statement_text, document_text}
use Rattle.classic_text.specs.Spells.{IsProfile, IsComponent, IsMeta, AreEach, AreStatements, IsSpelling, SpellsButLines}
use Rattle.classic_round_trip.specs.AnyLength.{SpellsAtAnyLength}
use Rattle.classic_round_trip.specs.Spellable.{IsSpellable, head_words}
use Rattle.classic_round_trip.proofs.Tokens.{SeesNoneOf}
use Rattle.classic_round_trip.proofs.Pieces.{AreBefore, one_byte, Found, Then, join}
use Rattle.classic_round_trip.proofs.Words.{ascii_text}
use Rattle.classic_round_trip.proofs.Routes.{Any}
use Rattle.classic_round_trip.proofs.Statements.{apart_head}
use Rattle.classic_round_trip.proofs.Levels.{AtEnd, found_statements}
use Rattle.classic_round_trip.proofs.Heads.{found_components, found_metas, found_profile, no_component, no_profile, no_meta}

-- ---- the header line

abbrev first_line : Version → List ℕ
first_line version = codes "#X3D V" ++ version_text version ++ codes " utf8"

is_comment : (version : Version) (rest : List ℕ) → IsComment (first_line version) (10 ∷ rest)
unfolding is_line_end
is_comment V3_0 rest = (refl, (refl, refl))
is_comment V3_1 rest = (refl, (refl, refl))
is_comment V3_2 rest = (refl, (refl, refl))
is_comment V3_3 rest = (refl, (refl, refl))
is_comment V4_0 rest = (refl, (refl, refl))

IsUtf8-first_line : (version : Version) → IsUtf8 (first_line version)
IsUtf8-first_line V3_0 = ascii_text (first_line V3_0) refl
IsUtf8-first_line V3_1 = ascii_text (first_line V3_1) refl
IsUtf8-first_line V3_2 = ascii_text (first_line V3_2) refl
IsUtf8-first_line V3_3 = ascii_text (first_line V3_3) refl
IsUtf8-first_line V4_0 = ascii_text (first_line V4_0) refl

-- ---- a whole text

whole_text : (pieces : List Piece) → AreBefore pieces [] → ArePieces pieces
whole_text [] h = tt
whole_text (p ∷ ps) h = (subst (IsPiece p) (append-nil (text_of ps)) h.0, whole_text ps h.1)

module _ (d : Document) where
  -- what stands behind the first line
  abbrev body : List ℕ
  body = profile_line d.profile ++ (flat_map component_line d.components ++ (flat_map meta_line d.metas ++ lines_text statement_text 0 d.statements))

  abbrev words : List (List ℕ)
  words = head_words d.metas d.components d.profile

  abbrev Statements : List Tok → List Tok → Type 0
  Statements ts ms = AreStatements Any d.statements ts × SeesNoneOf words ts

  abbrev Metas : List Tok → List Tok → Type 0
  Metas ts ms = Then (AreEach (codes "META") IsMeta d.metas) Statements ts ms

  abbrev Components : List Tok → List Tok → Type 0
  Components ts ms = Then (AreEach (codes "COMPONENT") IsComponent d.components) Metas ts ms

  found_document : IsSpellable d → Found body [] AtEnd (Then (IsProfile d.profile) Components)
  found_document h =
      join (found_profile d.profile h.profile
      ((flat_map component_line d.components ++ (flat_map meta_line d.metas ++ lines_text statement_text 0 d.statements)) ++ []))
      (join (found_components d.components h.components ((flat_map meta_line d.metas ++ lines_text statement_text 0 d.statements) ++ []))
      (join (found_metas d.metas h.metas (lines_text statement_text 0 d.statements ++ []))
      (found_statements words (apart_head d.metas d.components d.profile) d.statements h.statements)
      (λ ts ms j. no_meta d.metas d.components d.profile ts j.1))
      (λ ts ms j. no_component d.metas d.components d.profile ts j.0 j.1 j.2.1))
      (λ ts ms j. no_profile d.metas d.components d.profile ts j.0 j.2.0 j.1 j.2.1 j.2.2.1)

  text_parts : (h v u p c m s : List ℕ) → (h ++ v ++ u ++ 10 ∷ []) ++ p ++ c ++ m ++ s ≡ (h ++ v ++ u) ++ (10 ∷ (p ++ (c ++ (m ++ s))))
  text_parts h v u p c m s = simp append_assoc

  header_parts : (h v u b : List ℕ) → h ++ (v ++ (u ++ b)) ≡ (h ++ v ++ u) ++ b
  header_parts h v u b = simp append_assoc

  document_text_is : document_text d ≡ first_line d.version ++ (10 ∷ body)
  unfolding document_text
  document_text_is = text_parts (codes "#X3D V") (version_text d.version) (codes " utf8") (profile_line d.profile)
      (flat_map component_line d.components) (flat_map meta_line d.metas) (lines_text statement_text 0 d.statements)

  pieces : IsSpellable d → List Piece
  pieces h = blank (first_line d.version) ∷ blank (10 ∷ []) ∷ (found_document h).pieces

  module _ (h : IsSpellable d) where
    encoded : IsUtf8 (document_text d)
    encoded = subst IsUtf8 (sym document_text_is) (IsUtf8-append (first_line d.version) (10 ∷ body) (IsUtf8-first_line d.version)
        (IsUtf8-append (10 ∷ []) body (one_byte 10 (omega arith)) (found_document h).utf8))

    header : IsHeader d.version (document_text d)
    unfolding is_space
    header = record {
      rest = 10 ∷ body;
      spelled = header_parts (codes "#X3D V") (version_text d.version) (codes " utf8") (10 ∷ body)
          ∙ sym document_text_is;
      ends = refl;
    }

    -- the line of the first token
    abbrev line : ℕ
    line = line_after (line_after 1 (first_line d.version)) (10 ∷ [])

    spelling : IsSpelling Any (tokens_among line (found_document h).pieces) d
    spelling =
        let tokens : List Tok = tokens_among line (found_document h).pieces in
        let f = (found_document h).fits line [] refl in
        let g : Then (IsProfile d.profile) Components tokens [] =
        subst (λ (ts : List Tok). Then (IsProfile d.profile) Components ts []) (append-nil tokens) f in
        record {
          behind_profile = g.0;
          behind_components = g.2.0;
          behind_metas = g.2.2.0;
          profile = g.1;
          components = g.2.1;
          metas = g.2.2.1;
          statements = g.2.2.2.0;
        }

    cut : ArePieces (pieces h)
    unfolding is_space pieces
    cut =
        let f = found_document h in
        (inr (is_comment d.version (text_of f.pieces)), (inl (refl, refl), whole_text f.pieces f.cut))

    text_of_pieces : text_of (pieces h) ≡ document_text d
    unfolding pieces
    text_of_pieces = ap (λ (t : List ℕ). first_line d.version ++ (10 ∷ t)) (found_document h).spelled ∙ sym document_text_is

    spelling_of_pieces : IsSpelling Any (tokens_among 1 (pieces h)) d
    unfolding pieces
    spelling_of_pieces = spelling

  -- what is written spells it
  pub spelled_by_text : IsSpellable d → SpellsAtAnyLength (document_text d) d
  spelled_by_text h = record {
    encoded = encoded h;
    header = header h;
    pieces = pieces h;
    spelled = text_of_pieces h;
    cut = cut h;
    spelling = spelling_of_pieces h;
  }

-- a text that isn't too long spells what it spells at any length
pub within_limit : (text : List ℕ) (d : Document) → SpellsAtAnyLength text d → length text ≤ max_len → SpellsButLines text d
within_limit text d h size =
    let headed : IsHeaded text d.version text = record {
      size = size;
      encoded = h.encoded;
      mark = [];
      marked = inl refl;
      spelled = refl;
      header = h.header;
    } in
    record {
      version = record { body = text; headed = headed };
      tokens = tokens_among 1 h.pieces;
      has = record { version = d.version; body = text; headed = headed; pieces = h.pieces; spelled = h.spelled; cut = h.cut; are = refl };
      spelling = h.spelling;
    }
