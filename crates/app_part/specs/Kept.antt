-- Names of nodes that have to stay in a part (our choice).
use Rattle.std.specs.Prelude.{◌≡◌, ℕ, Bool, false, not, ◌&&◌, ◌++◌, List, [], ◌∷◌, Option, Some, None, map, codes, is_none, nat_le, if◌then◌else◌}
use Rattle.std.specs.Str.{bytes_eq}
use Rattle.std.specs.Str.Lines.{lines}
use Rattle.classic_lex.specs.Lexed.{Tok}
use Rattle.classic_lex.specs.declared.token.Token.{Token}
use Rattle.classic_part.specs.declared.notes.Note.{Note}
use Rattle.app_part.specs.Listing.{is_group}
use Rattle.app_part.specs.Told.{note_line}
use Rattle.app_part.specs.Tokens.{AreTokens, placed}
use Rattle.app_part.specs.declared.part.ScenePart.{ScenePart}

-- the line of the first `DEF name` among tokens, given whether the token before them is DEF
abbrev pub defined_at : List ℕ → Bool → List Tok → Option ℕ
defined_at name behind [] = None
defined_at name behind (tok ∷ toks) =
    if behind && bytes_eq tok.text name then Some tok.line
    else defined_at name (bytes_eq tok.text (codes "DEF")) toks

-- a name that no node has; an empty line is no name
abbrev pub is_lost : List Tok → List ℕ → Bool
is_lost toks [] = false
is_lost toks (c ∷ cs) = is_none (defined_at (c ∷ cs) false toks)

-- the first name that no node has
abbrev pub first_lost : List Tok → List (List ℕ) → Option (List ℕ)
first_lost toks [] = None
first_lost toks (name ∷ names) =
    if is_lost toks name then Some name else first_lost toks names

-- the first of the names, one a line, that no node of a text has
abbrev pub IsFirstLost : List ℕ → List ℕ → Option (List ℕ) → Type 0
IsFirstLost text names lost =
    (tokens : List Token) × AreTokens text tokens
    × (lost ≡ first_lost (map (placed text) tokens) (lines names))

-- ---- which rule took a name

-- something went that begins at the place or before it
abbrev pub may_take : ℕ → Note → Bool
may_take place note = not (is_group note) && nat_le note.line place

-- the last of notes in the order of their places on what went up to a place: what went has no
-- notes inside
abbrev pub taker : ℕ → Option Note → List Note → Option Note
taker place found [] = found
taker place found (note ∷ notes) =
    taker place (if may_take place note then Some note else found) notes

abbrev pub taken_by : ScenePart → Option Note → List ℕ
taken_by part None = codes "no node has this name" ++ 10 ∷ []
taken_by part (Some note) = note_line part.lines.items part.blames note

abbrev pub reason_at : ScenePart → Option ℕ → List ℕ
reason_at part None = taken_by part None
reason_at part (Some place) = taken_by part (taker place None part.left)

-- where a text, which has places as lines, names a node so
pub record IsDefPlace (source name : List ℕ) (place : Option ℕ) : Type 0 where
  pub tokens : List Token
  pub are : AreTokens source tokens
  pub is : place ≡ defined_at name false (map (placed source) tokens)

-- `Pot: line 2: node Teapot left out`, for a name that the part of a text lacks
pub record IsLostLine (part : ScenePart) (name told : List ℕ) : Type 0 where
  pub place : Option ℕ
  pub at : IsDefPlace part.source.items name place
  pub is : told ≡ name ++ codes ": " ++ reason_at part place

-- what is said of the first name that the part of a text lacks, if it lacks one
abbrev pub IsSaid : ScenePart → Option (List ℕ) → Option (List ℕ) → Type 0
IsSaid part None None = Unit {0}
IsSaid part (Some name) (Some told) = IsLostLine part name told
IsSaid part None (Some told) = ⊥
IsSaid part (Some name) None = ⊥

pub record IsLostOf (part : ScenePart) (names : List ℕ) (told : Option (List ℕ)) : Type 0 where
  pub lost : Option (List ℕ)
  pub first : IsFirstLost part.text.items names lost
  pub said : IsSaid part lost told
