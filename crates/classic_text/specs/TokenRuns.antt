-- Which tokens spell a name, a string, a number or a place, and runs and lists of them (ISO/IEC
-- 19776-2, grammar). Each relation takes the tokens, and the rest of them after the part that it
-- describes.
use Rattle.std.specs.Prelude.{◌≡◌, ◌≢◌, ℕ, ℤ, Bool, true, false, List, [], ◌∷◌, Option, Some, None}
use Rattle.x3d_numerals.specs.Numeral.{IsNumeral}
use Rattle.x3d_values.specs.declared.field_type.Access.{Access}
use Rattle.x3d_values.specs.declared.field_type.FieldType.{FieldType}
use Rattle.x3d_values.specs.Names.{access_named, field_type_named}
use Rattle.classic_lex.specs.Lexed.{Tok}
use Rattle.classic_tree.specs.declared.tree.RouteEnd.{RouteEnd}
use Rattle.classic_text.specs.declared.terminal.Terminal.{Terminal}
use Rattle.classic_text.specs.declared.terminal.Terminal.TheVariants as t
use Rattle.classic_text.specs.Terminal.{terminal_of}
use Rattle.classic_text.specs.Strings.{Holds}

-- ---- tokens

-- one token of this kind
abbrev pub Is : Terminal → List Tok → List Tok → Type 0
Is k [] rest = ⊥
Is k (x ∷ ts) rest = (terminal_of x.kind x.text ≡ k) × (rest ≡ ts)

-- one token of this kind, whose text has the property P
abbrev pub IsSuch : Terminal → (List ℕ → Type 0) → List Tok → List Tok → Type 0
IsSuch k P [] rest = ⊥
IsSuch k P (x ∷ ts) rest = (terminal_of x.kind x.text ≡ k) × P x.text × (rest ≡ ts)

-- the next token, if any, is not of this kind
abbrev pub NotAhead : Terminal → List Tok → Type 0
NotAhead k [] = Unit {0}
NotAhead k (x ∷ ts) = terminal_of x.kind x.text ≢ k

-- the next token, if any, is not this word
abbrev pub NotWordAhead : List ℕ → List Tok → Type 0
NotWordAhead w [] = Unit {0}
NotWordAhead w (x ∷ ts) = x.text ≢ w

abbrev pub IsName : List ℕ → List Tok → List Tok → Type 0
IsName n ts rest = IsSuch t.Name (λ text. text ≡ n) ts rest

abbrev pub IsString : List ℕ → List Tok → List Tok → Type 0
IsString s ts rest = IsSuch t.String (λ text. Holds text s) ts rest

-- a numeral of n millionths
abbrev pub IsNumber : ℤ → List Tok → List Tok → Type 0
IsNumber n ts rest = IsSuch t.Numeral (λ text. IsNumeral text n) ts rest

abbrev pub IsTruth : Bool → List Tok → List Tok → Type 0
IsTruth true ts rest = Is t.True ts rest
IsTruth false ts rest = Is t.False ts rest

-- a word of access of X3D, or an older one
abbrev pub IsAccess : Access → List Tok → List Tok → Type 0
IsAccess a ts rest = IsSuch t.Access (λ text. access_named text ≡ Some a) ts rest

abbrev pub IsFieldType : FieldType → List Tok → List Tok → Type 0
IsFieldType f ts rest = IsSuch t.Name (λ text. field_type_named text ≡ Some f) ts rest

-- ---- places, runs and lists

-- `node.field`
abbrev pub IsPlace : RouteEnd → List Tok → List Tok → Type 0
IsPlace p ts rest = (a : List Tok) × (b : List Tok) × IsName p.node ts a × Is t.Point a b
    × IsName p.field b rest

-- numerals up to the next token that is not a numeral
abbrev pub AreNumbers : List ℤ → List Tok → List Tok → Type 0
AreNumbers [] ts rest = NotAhead t.Numeral ts × (rest ≡ ts)
AreNumbers (n ∷ ns) ts rest = (a : List Tok) × IsNumber n ts a × AreNumbers ns a rest

-- like AreNumbers, with at least one numeral
abbrev pub AreSomeNumbers : List ℤ → List Tok → List Tok → Type 0
AreSomeNumbers [] ts rest = ⊥
AreSomeNumbers (n ∷ ns) ts rest = AreNumbers (n ∷ ns) ts rest

-- items, and then a token of this kind
abbrev pub AreUntil : {A : Type 0} → Terminal → (A → List Tok → List Tok → Type 0) → List A
    → List Tok → List Tok → Type 0
AreUntil k Item [] ts rest = Is k ts rest
AreUntil k Item (x ∷ xs) ts rest = (a : List Tok) × Item x ts a × AreUntil k Item xs a rest

-- at least one item, and then the bracket that closes a list
abbrev pub AreListed : {A : Type 0} → (A → List Tok → List Tok → Type 0) → List A → List Tok
    → List Tok → Type 0
AreListed Item [] ts rest = ⊥
AreListed Item (x ∷ xs) ts rest = AreUntil t.CloseBracket Item (x ∷ xs) ts rest

-- `DEF name`, or nothing
abbrev pub HasDef : Option (List ℕ) → List Tok → List Tok → Type 0
HasDef None ts rest = rest ≡ ts
HasDef (Some n) ts rest = (a : List Tok) × Is t.Def ts a × IsName n a rest
