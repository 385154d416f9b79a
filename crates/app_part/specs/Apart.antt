-- A text with each token on a line of its own. Each part of its tree then begins on a line on which
-- no other part does: its place.
use Rattle.std.specs.Prelude.{◌≡◌, ◌⊎◌, ℕ, ◌-◌, List, [], ◌∷◌, ◌++◌, Ok, ◌==◌, slice_index_or, if◌then◌else◌}
use Rattle.std.specs.List.{flat_map}
use Rattle.classic_lex.specs.Header.{version_of}
use Rattle.classic_lex.specs.Lexed.{Tok}
use Rattle.classic_lex.specs.declared.token.Token.{Token}
use Rattle.classic_lex.specs.declared.versions.Version.{Version}
use Rattle.classic_tree.specs.Writing.{document_text, header_line}
use Rattle.classic_tree.specs.declared.tree.Document.{Document}
use Rattle.classic_lenient.specs.Lenient.{IsLenient}
use Rattle.classic_lenient.specs.VrmlHeader.{as_x3d}
use Rattle.classic_lenient.specs.declared.reading.Lenient.{Lenient}
use Rattle.app_part.specs.Tokens.{AreTokens, placed}
use Rattle.app_part.specs.declared.apart.Apart.{Apart}
use Rattle.app_part.specs.declared.places.Placed.{Placed}

abbrev line_feed : ℕ
line_feed = 10

abbrev pub spelled : Tok → List ℕ
spelled tok = tok.text ++ line_feed ∷ []

abbrev pub apart_text : Version → List ℕ → List Token → List ℕ
apart_text version text tokens =
    header_line version ++ flat_map (λ t. spelled (placed text t)) tokens

-- ---- from places back to lines

abbrev pub if_ended : ℕ → ℕ → List ℕ
if_ended line byte = if byte == line_feed then line ∷ [] else []

-- the token's line, for each line that it is on when it stands alone (a string may have more)
abbrev pub lines_of : Tok → List ℕ
lines_of tok = flat_map (if_ended tok.line) tok.text ++ tok.line ∷ []

-- for each line of the text with its tokens apart, the line of the text; the header is on line 1
abbrev pub apart_lines : List ℕ → List Token → List ℕ
apart_lines text tokens = 1 ∷ flat_map (λ t. lines_of (placed text t)) tokens

-- the line of a place; a fault without a place has no line
abbrev pub line_at : List ℕ → ℕ → ℕ
line_at lines place = if place == 0 then 0 else slice_index_or lines (place - 1) place

-- ---- the tree of a text, with places

-- a text with its tokens apart
pub record IsApart (text : List ℕ) (made : Apart) : Type 0 where
  pub version : Version
  pub versioned : version_of text ≡ Ok version
  pub tokens : List Token
  pub are : AreTokens text tokens
  pub written : made.text.items ≡ apart_text version text tokens
  pub lines : made.lines.items ≡ apart_lines text tokens

-- the tree of a text whose tokens are apart, which is a document's but for its lines
pub record IsOfApart (apart : Apart) (document : Document) (made : Placed) : Type 0 where
  pub read : IsLenient apart.text.items made.lenient
  pub same : document_text made.lenient.document ≡ document_text document
  pub source : made.source.items ≡ apart.text.items
  pub lines : made.lines.items ≡ apart.lines.items

-- the tree of a text with its tokens apart
pub record IsNumberedAs (text : List ℕ) (document : Document) (made : Placed) : Type 0 where
  pub apart : Apart
  pub is : IsApart text apart
  pub tree : IsOfApart apart document made

-- the tree of the text itself, if that with its tokens apart is another: places are its lines
pub record IsAsRead (text : List ℕ) (lenient : Lenient) (made : Placed) : Type 0 where
  pub tree : made.lenient ≡ lenient
  pub source : made.source.items ≡ as_x3d text
  pub lines : made.lines.items ≡ []

abbrev pub IsPlaced : List ℕ → Lenient → Placed → Type 0
IsPlaced text lenient made =
    IsNumberedAs (as_x3d text) lenient.document made ⊎ IsAsRead text lenient made
