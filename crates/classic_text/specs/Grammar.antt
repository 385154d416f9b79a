-- The grammar as a parser from left to right (ISO/IEC 19776-2, grammar).
use Rattle.std.specs.Prelude.{ℕ, ℤ, zero, suc, Bool, true, false, ◌||◌, ◌&&◌, if◌then◌else◌, List, [], ◌∷◌, ◌++◌, length, Option, Some, None, Ok, Err, codes}
use Rattle.x3d_values.specs.Ranges.{max_depth}
use Rattle.x3d_values.specs.declared.field_type.Access.{Access}
use Rattle.classic_lex.specs.Lexed.{Tok}
use Rattle.x3d_values.specs.Access.{is_initial}
use Rattle.classic_rules.specs.Bounds.{is_script}
use Rattle.classic_tree.specs.declared.tree.RouteEnd.{RouteEnd}
use Rattle.classic_tree.specs.declared.tree.RouteText.{RouteText}
use Rattle.classic_tree.specs.declared.tree.RawValue.{RawValue}
use Rattle.classic_tree.specs.declared.tree.RawValue.TheVariants as v
use Rattle.classic_tree.specs.declared.tree.Given.{Given}
use Rattle.classic_tree.specs.declared.tree.Given.TheVariants as given
use Rattle.classic_tree.specs.declared.tree.Declaration.{Declaration}
use Rattle.classic_tree.specs.declared.tree.ProtoText.{ProtoText, roll-ProtoText}
use Rattle.classic_tree.specs.declared.tree.BodyItem.{BodyItem}
use Rattle.classic_tree.specs.declared.tree.BodyItem.TheVariants as held
use Rattle.classic_tree.specs.declared.tree.NodeText.{NodeText}
use Rattle.classic_tree.specs.declared.tree.NodeText.TheVariants as made
use Rattle.classic_tree.specs.declared.tree.Statement.{Statement}
use Rattle.classic_tree.specs.declared.tree.Statement.TheVariants as stands
use Rattle.classic_text.specs.declared.refusal.Refusal.{Refusal}
use Rattle.classic_text.specs.declared.refusal.Refusal.TheVariants.{TooDeep, Unsupported}
use Rattle.classic_text.specs.declared.terminal.Terminal.{Terminal}
use Rattle.classic_text.specs.declared.terminal.Terminal.TheVariants as t
use Rattle.classic_text.specs.Input.{Parser, ◌>>=◌, and_then, pure, refuse, refusal, peek, here, expect, name, access, field_type, string, truth, number, sees, sees_word, at_end, next}
use Rattle.classic_text.specs.Terminal.{line}

unfoldable pub place : Parser RouteEnd
place = do
  n ← name
  _ ← expect t.Point
  f ← name
  pure (record { node = n; field = f })

unfoldable pub route : Parser RouteText
route = do
  at ← here
  _ ← expect t.Route
  source ← place
  _ ← expect t.To
  target ← place
  pure (record { line = at; source = source; target = target })

-- ---- runs and lists

-- The number bounds the turns. Each turn takes a token, so the number of tokens is enough.
unfoldable pub numbers_from : ℕ → List ℤ → Parser (List ℤ)
numbers_from zero found = pure found
numbers_from (suc n) found =
    λ ts. if sees t.Numeral ts then and_then (number ts) (λ x. numbers_from n (found ++ x ∷ []))
    else Ok (found, ts)

-- numerals up to the next token that is not a numeral
unfoldable pub numbers : Parser (List ℤ)
numbers = λ ts. numbers_from (length ts) [] ts

unfoldable pub until_from : {A : Type 0} → Terminal → Parser A → ℕ → List A → Parser (List A)
until_from k item zero found = refuse
until_from k item (suc n) found =
    λ ts. if sees k ts then Ok (found, next ts)
    else and_then (item ts) (λ x. until_from k item n (found ++ x ∷ []))

-- items up to a token of this kind, which is consumed
unfoldable pub until : {A : Type 0} → Terminal → Parser A → Parser (List A)
until k item = λ ts. until_from k item (length ts) [] ts

-- ---- statements that aren't supported

-- a statement that begins with EXTERNPROTO, IMPORT, EXPORT or UNIT
unfoldable pub begins_unread_statement : List Tok → Bool
begins_unread_statement ts =
    sees_word (codes "EXTERNPROTO") ts || sees_word (codes "IMPORT") ts
    || sees_word (codes "EXPORT") ts || sees_word (codes "UNIT") ts

abbrev pub unsupported : {A : Type 0} → Parser A
unsupported = λ ts. Err (Unsupported (line ts))

-- ---- values; inner reads a node in them

unfoldable pub what_is : Parser (Given NodeText)
what_is = do
  _ ← expect t.Is
  n ← name
  pure (given.Is n)

-- `IS name` in the declaration of a field, only in a Script
unfoldable pub joined : Bool → Parser (Given NodeText)
joined script = λ ts. if script then what_is ts else refuse ts

module _ (inner : Parser NodeText) where
  abbrev pub list_by : Terminal → Parser (RawValue NodeText)
  list_by t.CloseBracket = do
    _ ← expect t.CloseBracket
    pure v.EmptyList
  list_by t.True = do
    xs ← until t.CloseBracket truth
    pure (v.TruthList xs)
  list_by t.False = do
    xs ← until t.CloseBracket truth
    pure (v.TruthList xs)
  list_by t.String = do
    xs ← until t.CloseBracket string
    pure (v.StringList xs)
  list_by t.Numeral = do
    xs ← until t.CloseBracket number
    pure (v.NumberList xs)
  list_by _ = do
    xs ← until t.CloseBracket inner
    pure (v.NodeList xs)

  -- a list after its opening bracket
  unfoldable pub list : Parser (RawValue NodeText)
  list = peek >>= list_by

  abbrev pub value_by : Terminal → Parser (RawValue NodeText)
  value_by t.Null = do
    _ ← expect t.Null
    pure v.Null
  value_by t.True = do
    b ← truth
    pure (v.Truth b)
  value_by t.False = do
    b ← truth
    pure (v.Truth b)
  value_by t.String = do
    s ← string
    pure (v.String s)
  value_by t.Numeral = do
    ns ← numbers
    pure (v.Numbers ns)
  value_by t.OpenBracket = do
    _ ← expect t.OpenBracket
    list
  value_by _ = do
    n ← inner
    pure (v.Node n)

  unfoldable pub value : Parser (RawValue NodeText)
  value = peek >>= value_by

  unfoldable pub one_given : Parser (Given NodeText)
  one_given = λ ts. if sees t.Is ts then what_is ts else (value >>= λ x. pure (given.Value x)) ts

  unfoldable pub field : Parser BodyItem
  field = do
    at ← here
    f ← name
    x ← one_given
    pure (held.Field at f x)

  -- ---- declarations

  -- `IS name`, or else a value if the field holds one
  unfoldable pub declared : Bool → Access → Parser (Given NodeText)
  declared script a =
      λ ts. if sees t.Is ts then joined script ts
      else (if is_initial a then (value >>= λ x. pure (given.Value x)) ts
      else Ok (given.Nothing, ts))

  unfoldable pub declaration : Bool → Parser (Declaration NodeText)
  declaration script = do
    at ← here
    a ← access
    f ← field_type
    n ← name
    x ← declared script a
    pure (record { line = at; access = a; field_type = f; name = n; given = x })

  -- inside reads the body, given the line of the first word
  unfoldable pub proto_with : (ℕ → Parser (List Statement)) → Parser ProtoText
  proto_with inside = do
    at ← here
    _ ← expect t.Proto
    n ← name
    _ ← expect t.OpenBracket
    ds ← until t.CloseBracket (declaration false)
    ss ← inside at
    pure (roll-ProtoText (record { line = at; name = n; interface = ds; body = ss }))

  -- a declaration, or a field; EXTERNPROTO is not supported
  unfoldable pub other_item : Bool → Parser BodyItem
  other_item script = λ ts.
      if sees_word (codes "EXTERNPROTO") ts then unsupported ts
      else (if script && sees t.Access ts
      then (declaration true >>= λ d. pure (held.Declaration d)) ts else field ts)

  unfoldable pub node_statement : Parser Statement
  node_statement =
      λ ts. if begins_unread_statement ts then unsupported ts
      else (inner >>= λ n. pure (stands.Node n)) ts

module _ (inner : Parser NodeText) (proto : Parser ProtoText) where
  -- an item in the body of a Script, or of another node
  unfoldable pub one_item : Bool → Parser BodyItem
  one_item script = λ ts.
      if sees t.Route ts then (route >>= λ r. pure (held.Route r)) ts
      else (if sees t.Proto ts then (proto >>= λ p. pure (held.Proto p)) ts
      else other_item inner script ts)

  unfoldable pub body : Bool → Parser (List BodyItem)
  body script = do
    _ ← expect t.OpenBrace
    until t.CloseBrace (one_item script)

  unfoldable pub one_statement : Parser Statement
  one_statement = λ ts.
      if sees t.Route ts then (route >>= λ r. pure (stands.Route r)) ts
      else (if sees t.Proto ts then (proto >>= λ p. pure (stands.Proto p)) ts
      else node_statement inner ts)

  unfoldable pub proto_body : Parser (List Statement)
  proto_body = do
    _ ← expect t.OpenBrace
    until t.CloseBrace one_statement

-- ---- nodes

unfoldable pub def_name : Parser (Option (List ℕ))
def_name = λ ts. if sees t.Def ts then (expect t.Def >>= λ _. name >>= λ n. pure (Some n)) ts
    else Ok (None, ts)

unfoldable pub use_node : Parser NodeText
use_node = do
  at ← here
  _ ← expect t.Use
  n ← name
  pure (made.Use at n)

unfoldable pub full_node : (Bool → Parser (List BodyItem)) → Parser NodeText
full_node inside = do
  at ← here
  def ← def_name
  k ← name
  is ← inside (is_script k)
  pure (made.Full at def k is)

-- a node; inside reads its body
abbrev pub node_with : (Bool → Parser (List BodyItem)) → Parser NodeText
node_with inside = λ ts. if sees t.Use ts then use_node ts else full_node inside ts

unfoldable pub begins_node : List Tok → Bool
begins_node ts = sees t.Use ts || sees t.Def ts || sees t.Name ts

-- the refusal if nodes may nest no deeper
unfoldable pub deep_refusal : List Tok → Refusal
deep_refusal ts = if begins_node ts then TooDeep (line ts) else refusal ts

-- Nodes, and the bodies of prototypes. Nodes and bodies nest at most to the given depth, counting
-- themselves. The interface of a prototype is as deep as the prototype.
unfoldable mutual
  pub node_at : ℕ → Parser NodeText
  node_at zero = λ ts. Err (deep_refusal ts)
  node_at (suc depth) =
      node_with (body (node_at depth) (proto_with (node_at depth) (proto_body_at depth)))

  pub proto_body_at : ℕ → ℕ → Parser (List Statement)
  proto_body_at zero at = λ ts. Err (TooDeep at)
  proto_body_at (suc depth) at =
      proto_body (node_at depth) (proto_with (node_at depth) (proto_body_at depth))

abbrev pub proto_at : ℕ → Parser ProtoText
proto_at depth = proto_with (node_at depth) (proto_body_at depth)

-- ---- statements

abbrev pub top_statement : Parser Statement
top_statement = one_statement (node_at max_depth) (proto_at max_depth)

unfoldable pub statements_from : ℕ → List Statement → Parser (List Statement)
statements_from zero found = pure found
statements_from (suc n) found = λ ts.
    if at_end ts then Ok (found, ts)
    else and_then (top_statement ts) (λ x. statements_from n (found ++ x ∷ []))

unfoldable pub statements : Parser (List Statement)
statements = λ ts. statements_from (length ts) [] ts
