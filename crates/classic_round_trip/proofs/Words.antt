-- Names, words, marks and white space are found as what they are.
use Rattle.std.proofs.Common.{◌≡◌, ℕ, zero, suc, List, [], ◌∷◌, ◌++◌, true, false, ◌&&◌, not, ◌==◌, replicate, refl, arith}
use Rattle.std.specs.Prelude.{codes, nat_lt}
use Rattle.std.specs.Str.{IsUtf8}
use Rattle.std.specs.List.{list_all}
use Rattle.std.proofs.lemmas.Bool.{and_parts, ltb-true, not-true}
use Rattle.std.proofs.lemmas.Str.{IsUtf8-append, IsUtf8-nil}
use Rattle.x3d_values.specs.Names.{access_name, field_type_name}
use Rattle.x3d_values.specs.declared.field_type.Access.{Access}
use Rattle.x3d_values.specs.declared.field_type.Access.TheVariants.{InputOnly, OutputOnly, InputOutput, InitializeOnly}
use Rattle.x3d_values.specs.declared.field_type.FieldType.{FieldType}
use Rattle.x3d_values.specs.declared.field_type.FieldType.TheVariants.{SFBool, SFInt32, SFFloat, SFTime, SFString, SFVec2f, SFVec3f, SFColor, SFNode, MFBool, MFInt32, MFFloat, MFTime, MFString, MFVec2f, MFVec3f, MFColor, MFNode, SFRotation}
use Rattle.classic_lex.specs.declared.token.TokenKind.TheVariants as kind
use Rattle.classic_bytes.specs.Bytes.{is_space, is_digit, ends_numeral, continues_name, begins_name}
use Rattle.classic_lex.specs.Lexed.{Tok}
use Rattle.classic_lex.specs.Tokens.{NotAhead, IsIdentifier, IsToken}
use Rattle.classic_text.specs.Input.{spelling}
use Rattle.classic_text.specs.Terminal.{terminal_of, word, name_or_access, is_access}
use Rattle.classic_text.specs.Spells.{Is, IsSuch, IsName, IsAccess, IsFieldType, IsWord}
use Rattle.classic_round_trip.specs.Spellable.{IsFreeName}
use Rattle.classic_round_trip.proofs.Tokens.{Terminal, word_of_name}
use Rattle.classic_round_trip.proofs.Pieces.{one_byte, Found, Always, white, one}
use Rattle.classic_round_trip.proofs.Numbers.{EndsNumeral}

-- ---- what stands behind

abbrev pub EndsName : List ℕ → Type 0
EndsName rest = NotAhead continues_name rest

-- names, words and numerals end before it
abbrev pub IsEnding : List ℕ → Type 0
IsEnding rest = EndsName rest × EndsNumeral rest

module _ (rest : List ℕ) where
  pub ending_space : IsEnding (32 ∷ rest)
  unfolding continues_name ends_numeral is_space
  ending_space = (refl, refl)

  pub ending_line : IsEnding (10 ∷ rest)
  unfolding continues_name ends_numeral is_space
  ending_line = (refl, refl)

  pub ending_bracket : IsEnding (93 ∷ rest)
  unfolding continues_name ends_numeral is_space
  ending_bracket = (refl, refl)

  pub ending_point : EndsName (46 ∷ rest)
  unfolding continues_name
  ending_point = refl

-- ---- white space

module _ {text rest : List ℕ} {More : List Tok → Type 0} {R : List Tok → List Tok → Type 0} where
  pub spaced : Found text rest More R → Found (32 ∷ text) rest More R
  unfolding is_space
  spaced p = white 32 refl (omega arith) p

  pub lined : Found text rest More R → Found (10 ∷ text) rest More R
  unfolding is_space
  lined p = white 10 refl (omega arith) p

pub indented : {text rest : List ℕ} {More : List Tok → Type 0} {R : List Tok → List Tok → Type 0} (n : ℕ) → Found text rest More R
    → Found (replicate n 32 ++ text) rest More R
indented zero p = p
indented (suc n) p = spaced (indented n p)

-- ---- marks

pub found_open_brace : (rest : List ℕ) → Found (123 ∷ []) rest Always (Is (terminal_of kind.OpenBrace []))
found_open_brace rest = one kind.OpenBrace (123 ∷ []) refl (one_byte 123 (omega arith)) (λ line ms. (refl, refl))

pub found_close_brace : (rest : List ℕ) → Found (125 ∷ []) rest Always (Is (terminal_of kind.CloseBrace []))
found_close_brace rest = one kind.CloseBrace (125 ∷ []) refl (one_byte 125 (omega arith)) (λ line ms. (refl, refl))

pub found_open_bracket : (rest : List ℕ) → Found (91 ∷ []) rest Always (Is (terminal_of kind.OpenBracket []))
found_open_bracket rest = one kind.OpenBracket (91 ∷ []) refl (one_byte 91 (omega arith)) (λ line ms. (refl, refl))

pub found_close_bracket : (rest : List ℕ) → Found (93 ∷ []) rest Always (Is (terminal_of kind.CloseBracket []))
found_close_bracket rest = one kind.CloseBracket (93 ∷ []) refl (one_byte 93 (omega arith)) (λ line ms. (refl, refl))

no_digit : (b : ℕ) → begins_name b ≡ true → is_digit b ≡ false
unfolding begins_name
no_digit b h =
    let p = and_parts (continues_name b && not (is_digit b) && not (b == 43)) (not (b == 45)) h in
    let q = and_parts (continues_name b && not (is_digit b)) (not (b == 43)) p.0 in
    not-true (is_digit b) (and_parts (continues_name b) (not (is_digit b)) q.0).1

no_digit_ahead : (n rest : List ℕ) → IsIdentifier n [] → NotAhead is_digit (n ++ rest)
no_digit_ahead [] rest h = absurd h
no_digit_ahead (b ∷ bs) rest h = no_digit b h.0

-- the point before a name
pub found_point : (n rest : List ℕ) → IsIdentifier n [] → Found (46 ∷ []) (n ++ rest) Always (Is (terminal_of kind.Point []))
found_point n rest h = one kind.Point (46 ∷ []) (refl, no_digit_ahead n rest h) (one_byte 46 (omega arith)) (λ line ms. (refl, refl))

-- ---- names and words

identifier : (n rest : List ℕ) → IsIdentifier n [] → EndsName rest → IsToken kind.Identifier n rest
identifier [] rest h e = absurd h
identifier (b ∷ bs) rest h e = (h.0, (h.1.0, e))

pub found_name : (n rest : List ℕ) → IsFreeName n → EndsName rest → Found n rest Always (IsName n)
unfolding word name_or_access is_access
found_name n rest h e = one kind.Identifier n (identifier n rest h.is e) h.utf8 (λ line ms. (word_of_name n h.no_word h.no_access, refl, refl))

pub ascii_text : (cs : List ℕ) → list_all (λ c. nat_lt c 128) cs ≡ true → IsUtf8 cs
ascii_text [] h = IsUtf8-nil
ascii_text (c ∷ cs) h = let p = and_parts (nat_lt c 128) (list_all (λ c. nat_lt c 128) cs) h in IsUtf8-append (c ∷ []) cs
    (one_byte c (ltb-true c 128 p.0)) (ascii_text cs p.1)

-- an identifier of ASCII, by the word that it is
found_ascii : (w rest : List ℕ) → IsIdentifier w [] → list_all (λ c. nat_lt c 128) w ≡ true → EndsName rest → Found w rest Always (Is (word w))
found_ascii w rest h a e = one kind.Identifier w (identifier w rest h e) (ascii_text w a) (λ line ms. (refl, refl))

-- the token is this word, as the grammar sees it, and as it is spelled
abbrev pub IsFirstWord : List ℕ → List Tok → List Tok → Type 0
IsFirstWord w ts rest = Is (word w) ts rest × (spelling ts ≡ w)

found_first : (w rest : List ℕ) → IsIdentifier w [] → list_all (λ c. nat_lt c 128) w ≡ true → EndsName rest → Found w rest Always (IsFirstWord w)
unfolding spelling
found_first w rest h a e = one kind.Identifier w (identifier w rest h e) (ascii_text w a) (λ line ms. ((refl, refl), refl))

-- the same, as a word of the head
found_ascii_word : (w rest : List ℕ) → IsIdentifier w [] → list_all (λ c. nat_lt c 128) w ≡ true → EndsName rest → Found w rest Always (IsWord w)
found_ascii_word w rest h a e = one kind.Identifier w (identifier w rest h e) (ascii_text w a) (λ line ms. (refl, refl))

module _ (rest : List ℕ) (e : EndsName rest) where
  pub found_null : Found (codes "NULL") rest Always (Is (word (codes "NULL")))
  unfolding begins_name continues_name is_digit
  found_null = found_ascii (codes "NULL") rest (refl, (refl, tt)) refl e

  pub found_true : Found (codes "TRUE") rest Always (Is (word (codes "TRUE")))
  unfolding begins_name continues_name is_digit
  found_true = found_ascii (codes "TRUE") rest (refl, (refl, tt)) refl e

  pub found_false : Found (codes "FALSE") rest Always (Is (word (codes "FALSE")))
  unfolding begins_name continues_name is_digit
  found_false = found_ascii (codes "FALSE") rest (refl, (refl, tt)) refl e

module _ (rest : List ℕ) where
  pub found_def_word : Found (codes "DEF") (32 ∷ rest) Always (IsFirstWord (codes "DEF"))
  unfolding begins_name continues_name is_digit
  found_def_word = found_first (codes "DEF") (32 ∷ rest) (refl, (refl, tt)) refl (ending_space rest).0

  pub found_use_word : Found (codes "USE") (32 ∷ rest) Always (IsFirstWord (codes "USE"))
  unfolding begins_name continues_name is_digit
  found_use_word = found_first (codes "USE") (32 ∷ rest) (refl, (refl, tt)) refl (ending_space rest).0

  pub found_route_word : Found (codes "ROUTE") (32 ∷ rest) Always (IsFirstWord (codes "ROUTE"))
  unfolding begins_name continues_name is_digit
  found_route_word = found_first (codes "ROUTE") (32 ∷ rest) (refl, (refl, tt)) refl (ending_space rest).0

  pub found_proto_word : Found (codes "PROTO") (32 ∷ rest) Always (IsFirstWord (codes "PROTO"))
  unfolding begins_name continues_name is_digit
  found_proto_word = found_first (codes "PROTO") (32 ∷ rest) (refl, (refl, tt)) refl (ending_space rest).0

  pub found_to_word : Found (codes "TO") (32 ∷ rest) Always (Is (word (codes "TO")))
  unfolding begins_name continues_name is_digit
  found_to_word = found_ascii (codes "TO") (32 ∷ rest) (refl, (refl, tt)) refl (ending_space rest).0

  pub found_is_word : Found (codes "IS") (32 ∷ rest) Always (Is (word (codes "IS")))
  unfolding begins_name continues_name is_digit
  found_is_word = found_ascii (codes "IS") (32 ∷ rest) (refl, (refl, tt)) refl (ending_space rest).0

  pub found_profile_word : Found (codes "PROFILE") (32 ∷ rest) Always (IsWord (codes "PROFILE"))
  unfolding begins_name continues_name is_digit
  found_profile_word = found_ascii_word (codes "PROFILE") (32 ∷ rest) (refl, (refl, tt)) refl (ending_space rest).0

  pub found_component_word : Found (codes "COMPONENT") (32 ∷ rest) Always (IsWord (codes "COMPONENT"))
  unfolding begins_name continues_name is_digit
  found_component_word = found_ascii_word (codes "COMPONENT") (32 ∷ rest) (refl, (refl, tt)) refl (ending_space rest).0

  pub found_meta_word : Found (codes "META") (32 ∷ rest) Always (IsWord (codes "META"))
  unfolding begins_name continues_name is_digit
  found_meta_word = found_ascii_word (codes "META") (32 ∷ rest) (refl, (refl, tt)) refl (ending_space rest).0

-- ---- access and types

-- an identifier of ASCII that is seen as this, and is so
found_such : (k : Terminal) (P : List ℕ → Type 0) (w rest : List ℕ) → IsIdentifier w [] → list_all (λ c. nat_lt c 128) w ≡ true → word w ≡ k → P w
    → Found w (32 ∷ rest) Always (IsSuch k P)
found_such k P w rest h a is so =
    one kind.Identifier w (identifier w (32 ∷ rest) h (ending_space rest).0) (ascii_text w a) (λ line ms. (is, so, refl))

pub found_access : (a : Access) (rest : List ℕ) → Found (access_name a) (32 ∷ rest) Always (IsAccess a)
unfolding begins_name continues_name is_digit word name_or_access is_access
found_access InputOnly rest = found_such _ _ (codes "inputOnly") rest (refl, (refl, tt)) refl refl refl
found_access OutputOnly rest = found_such _ _ (codes "outputOnly") rest (refl, (refl, tt)) refl refl refl
found_access InputOutput rest = found_such _ _ (codes "inputOutput") rest (refl, (refl, tt)) refl refl refl
found_access InitializeOnly rest = found_such _ _ (codes "initializeOnly") rest (refl, (refl, tt)) refl refl refl

pub found_field_type : (f : FieldType) (rest : List ℕ) → Found (field_type_name f) (32 ∷ rest) Always (IsFieldType f)
unfolding begins_name continues_name is_digit word name_or_access is_access
found_field_type SFBool rest = found_such _ _ (codes "SFBool") rest (refl, (refl, tt)) refl refl refl
found_field_type SFInt32 rest = found_such _ _ (codes "SFInt32") rest (refl, (refl, tt)) refl refl refl
found_field_type SFFloat rest = found_such _ _ (codes "SFFloat") rest (refl, (refl, tt)) refl refl refl
found_field_type SFTime rest = found_such _ _ (codes "SFTime") rest (refl, (refl, tt)) refl refl refl
found_field_type SFString rest = found_such _ _ (codes "SFString") rest (refl, (refl, tt)) refl refl refl
found_field_type SFVec2f rest = found_such _ _ (codes "SFVec2f") rest (refl, (refl, tt)) refl refl refl
found_field_type SFVec3f rest = found_such _ _ (codes "SFVec3f") rest (refl, (refl, tt)) refl refl refl
found_field_type SFColor rest = found_such _ _ (codes "SFColor") rest (refl, (refl, tt)) refl refl refl
found_field_type SFNode rest = found_such _ _ (codes "SFNode") rest (refl, (refl, tt)) refl refl refl
found_field_type MFBool rest = found_such _ _ (codes "MFBool") rest (refl, (refl, tt)) refl refl refl
found_field_type MFInt32 rest = found_such _ _ (codes "MFInt32") rest (refl, (refl, tt)) refl refl refl
found_field_type MFFloat rest = found_such _ _ (codes "MFFloat") rest (refl, (refl, tt)) refl refl refl
found_field_type MFTime rest = found_such _ _ (codes "MFTime") rest (refl, (refl, tt)) refl refl refl
found_field_type MFString rest = found_such _ _ (codes "MFString") rest (refl, (refl, tt)) refl refl refl
found_field_type MFVec2f rest = found_such _ _ (codes "MFVec2f") rest (refl, (refl, tt)) refl refl refl
found_field_type MFVec3f rest = found_such _ _ (codes "MFVec3f") rest (refl, (refl, tt)) refl refl refl
found_field_type MFColor rest = found_such _ _ (codes "MFColor") rest (refl, (refl, tt)) refl refl refl
found_field_type MFNode rest = found_such _ _ (codes "MFNode") rest (refl, (refl, tt)) refl refl refl
found_field_type SFRotation rest = found_such _ _ (codes "SFRotation") rest (refl, (refl, tt)) refl refl refl
