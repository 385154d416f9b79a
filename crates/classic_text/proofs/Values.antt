-- Lists and values read what they speak of, and nothing else.
use Rattle.std.proofs.Common.{◌≡◌, ℕ, ℤ, zero, suc, ◌<◌, ◌≤◌, List, [], ◌∷◌, ◌++◌, length, Bool, true, false, Ok, refl, sym, ap, ◌∙◌, subst, ⊎_elim, arith, append_assoc}
use Rattle.std.proofs.lemmas.List.{append-nil}
use Rattle.classic_lex.specs.Lexed.{Tok}
use Rattle.classic_tree.specs.declared.tree.RawValue.{RawValue}
use Rattle.classic_tree.specs.declared.tree.RawValue.TheVariants as v
use Rattle.classic_tree.specs.declared.tree.Given.{Given}
use Rattle.classic_tree.specs.declared.tree.Given.TheVariants as given
use Rattle.classic_tree.specs.declared.tree.NodeText.{NodeText}
use Rattle.classic_text.specs.declared.terminal.Terminal.{Terminal}
use Rattle.classic_text.specs.declared.terminal.Terminal.TheVariants as t
use Rattle.classic_text.specs.Strings.{Holds}
use Rattle.classic_text.specs.Input.{Parser, and_then, kind, next, sees, expect, name, string, truth, number}
use Rattle.classic_text.specs.Grammar.{numbers, until, until_from, list_by, list, value_by, value, what_is, one_given}
use Rattle.classic_text.specs.Spells.{Is, IsString, IsNumber, IsTruth, AreUntil, AreListed, IsList, IsBracketed, IsValue, IsGiven}
use Rattle.classic_text.proofs.Seen.{see, not_see}
use Rattle.classic_text.proofs.Steps.{ok_is, both, chosen, Is-kind, IsSuch-kind, Is-shorter, IsSuch-shorter, IsName-shorter, found_expect, only_expect, closes, close, found_name, only_name, found_string, only_string, found_truth, only_truth, IsTruth-shorter, found_number, only_number}
use Rattle.classic_text.proofs.Runs.{AreSomeNumbers-kind, AreSomeNumbers-shorter, IsNumber-kind, IsNumber-shorter, found_numbers, only_numbers}

-- ---- strings

pub IsString-kind : (s : List ℕ) (ts rest : List Tok) → IsString s ts rest → kind ts ≡ t.String
IsString-kind s ts rest h = IsSuch-kind t.String (λ text. Holds text s) ts rest h

pub IsString-shorter : (s : List ℕ) (ts rest : List Tok) → IsString s ts rest → length rest < length ts
IsString-shorter s ts rest h = IsSuch-shorter t.String (λ text. Holds text s) ts rest h

-- ---- items up to a token

-- how an item is read, and what spells it
pub record Knows {A : Type 0} (item : Parser A) (Item : A → List Tok → List Tok → Type 0) : Type 0 where
  pub found : (x : A) (ts rest : List Tok) → item ts ≡ Ok (x, rest) → Item x ts rest
  pub only : (x : A) (ts rest : List Tok) → Item x ts rest → item ts ≡ Ok (x, rest)
  pub shorter : (x : A) (ts rest : List Tok) → Item x ts rest → length rest < length ts

known_truth : Knows truth IsTruth
known_truth = record { found = found_truth; only = only_truth; shorter = IsTruth-shorter }

known_string : Knows string IsString
known_string = record { found = found_string; only = only_string; shorter = IsString-shorter }

known_number : Knows number IsNumber
known_number = record { found = found_number; only = only_number; shorter = IsNumber-shorter }

module _ {A : Type 0} (k : Terminal) (item : Parser A) (Item : A → List Tok → List Tok → Type 0) (known : Knows item Item) (real : t.End ≡ k → ⊥) where
  found_until_from : (n : ℕ) (found xs : List A) (ts rest : List Tok) → until_from k item n found ts ≡ Ok (xs, rest) → (more : List A) × (xs ≡ found ++ more) × AreUntil k Item more ts rest
  unfolding until_from
  found_until_from zero found xs ts rest h = cc
  found_until_from (suc n) found xs ts rest h =
      ⊎_elim (λ c. let e = ok_is (found, next ts) (xs, rest) c.1 in ([], ap (λ p. p.0) (sym e) ∙ sym (append-nil found), closes k ts rest real c.0 (ap (λ p. p.1) e)))
      (λ c. both (item ts) (λ x. until_from k item n (found ++ x ∷ [])) (xs, rest) c.1 (λ x a e r.
      let m = found_until_from n (found ++ x ∷ []) xs a rest r in
      (x ∷ m.0, m.1 ∙ append_assoc found (x ∷ []) m.0, (a, known.found x ts a e, m.2))))
      (chosen (sees k ts) (Ok (found, next ts)) (and_then (item ts) (λ x. until_from k item n (found ++ x ∷ []))) (Ok (xs, rest)) h)

  pub found_until : (xs : List A) (ts rest : List Tok) → until k item ts ≡ Ok (xs, rest) → AreUntil k Item xs ts rest
  unfolding until
  found_until xs ts rest h = let r = found_until_from (length ts) [] xs ts rest h in rw r.1 r.2

  pub AreUntil-shorter : (xs : List A) (ts rest : List Tok) → AreUntil k Item xs ts rest → length rest < length ts
  AreUntil-shorter [] ts rest h = Is-shorter k ts rest h
  AreUntil-shorter (x ∷ xs) ts rest h = omega (arith, known.shorter x ts h.0 h.1, AreUntil-shorter xs h.0 rest h.2)

  only_until_from : ((x : A) (ts rest : List Tok) → Item x ts rest → kind ts ≡ k → ⊥) → (n : ℕ) (found more : List A) (ts rest : List Tok) → length ts ≤ n → AreUntil k Item more ts rest → until_from k item n found ts ≡ Ok (found ++ more, rest)
  unfolding until_from
  only_until_from apart zero found more ts rest fits h = absurd (omega (arith, AreUntil-shorter more ts rest h))
  only_until_from apart (suc n) found [] ts rest fits h = rw (see k ts (Is-kind k ts rest h), close k ts rest h, append-nil found) refl
  only_until_from apart (suc n) found (x ∷ more) ts rest fits h =
      rw (not_see k ts (apart x ts h.0 h.1), known.only x ts h.0 h.1)
      (only_until_from apart n (found ++ x ∷ []) more h.0 rest (omega (arith, known.shorter x ts h.0 h.1)) h.2 ∙ ap (λ (xs : List A). Ok (xs, rest)) (append_assoc found (x ∷ []) more))

  pub only_until : ((x : A) (ts rest : List Tok) → Item x ts rest → kind ts ≡ k → ⊥) → (xs : List A) (ts rest : List Tok) → AreUntil k Item xs ts rest → until k item ts ≡ Ok (xs, rest)
  unfolding until
  only_until apart xs ts rest h = only_until_from apart (length ts) [] xs ts rest (omega arith) h

-- ---- lists that are not empty

module _ {A : Type 0} (item : Parser A) (Item : A → List Tok → List Tok → Type 0) (known : Knows item Item) where
  some_listed : (xs : List A) (ts rest : List Tok) → (kind ts ≡ t.CloseBracket → ⊥) → AreUntil t.CloseBracket Item xs ts rest → AreListed Item xs ts rest
  some_listed [] ts rest apart h = absurd (apart (Is-kind t.CloseBracket ts rest h))
  some_listed (x ∷ xs) ts rest apart h = h

  found_listed : (xs : List A) (ts rest : List Tok) → (kind ts ≡ t.CloseBracket → ⊥) → until t.CloseBracket item ts ≡ Ok (xs, rest) → AreListed Item xs ts rest
  found_listed xs ts rest apart h = some_listed xs ts rest apart (found_until t.CloseBracket item Item known (λ e. cc) xs ts rest h)

  only_listed : ((x : A) (ts rest : List Tok) → Item x ts rest → kind ts ≡ t.CloseBracket → ⊥) → (xs : List A) (ts rest : List Tok) → AreListed Item xs ts rest → until t.CloseBracket item ts ≡ Ok (xs, rest)
  only_listed apart [] ts rest h = absurd h
  only_listed apart (x ∷ xs) ts rest h = only_until t.CloseBracket item Item known (λ e. cc) apart (x ∷ xs) ts rest h

  AreListed-shorter : (xs : List A) (ts rest : List Tok) → AreListed Item xs ts rest → length rest < length ts
  AreListed-shorter [] ts rest h = absurd h
  AreListed-shorter (x ∷ xs) ts rest h = AreUntil-shorter t.CloseBracket item Item known (λ e. cc) (x ∷ xs) ts rest h

apart_truth : (b : Bool) (ts rest : List Tok) → IsTruth b ts rest → kind ts ≡ t.CloseBracket → ⊥
apart_truth true ts rest h e = let c : t.True ≡ t.CloseBracket = sym (Is-kind t.True ts rest h) ∙ e in cc
apart_truth false ts rest h e = let c : t.False ≡ t.CloseBracket = sym (Is-kind t.False ts rest h) ∙ e in cc

apart_string : (s : List ℕ) (ts rest : List Tok) → IsString s ts rest → kind ts ≡ t.CloseBracket → ⊥
apart_string s ts rest h e = let c : t.String ≡ t.CloseBracket = sym (IsString-kind s ts rest h) ∙ e in cc

apart_number : (n : ℤ) (ts rest : List Tok) → IsNumber n ts rest → kind ts ≡ t.CloseBracket → ⊥
apart_number n ts rest h e = let c : t.Numeral ≡ t.CloseBracket = sym (IsNumber-kind n ts rest h) ∙ e in cc

-- ---- values

-- a node begins with such a token
abbrev pub BeginsNode : Terminal → Type 0
BeginsNode t.Use = Unit {0}
BeginsNode t.Def = Unit {0}
BeginsNode t.Name = Unit {0}
BeginsNode _ = ⊥

module _ (inner : Parser NodeText) (Inner : NodeText → List Tok → List Tok → Type 0) (known : Knows inner Inner) (begins : (n : NodeText) (ts rest : List Tok) → Inner n ts rest → BeginsNode (kind ts)) where
  apart_node : (n : NodeText) (ts rest : List Tok) → Inner n ts rest → kind ts ≡ t.CloseBracket → ⊥
  apart_node n ts rest h k = subst BeginsNode k (begins n ts rest h)

  -- a list behind its bracket, by the kind of the first token in it

  found_truths : (x : RawValue NodeText) (ts rest : List Tok) → (kind ts ≡ t.CloseBracket → ⊥) → and_then (until t.CloseBracket truth ts) (λ xs r. Ok (v.TruthList xs, r)) ≡ Ok (x, rest) → IsList Inner x ts rest
  found_truths x ts rest apart h =
      both (until t.CloseBracket truth ts) _ (x, rest) h (λ xs a e h. subst (λ (y : RawValue NodeText × List Tok). IsList Inner y.0 ts y.1) (ok_is _ _ h) (found_listed truth IsTruth known_truth xs ts a apart e))

  found_nodes : (x : RawValue NodeText) (ts rest : List Tok) → (kind ts ≡ t.CloseBracket → ⊥) → and_then (until t.CloseBracket inner ts) (λ xs r. Ok (v.NodeList xs, r)) ≡ Ok (x, rest) → IsList Inner x ts rest
  found_nodes x ts rest apart h =
      both (until t.CloseBracket inner ts) _ (x, rest) h (λ xs a e h. subst (λ (y : RawValue NodeText × List Tok). IsList Inner y.0 ts y.1) (ok_is _ _ h) (found_listed inner Inner known xs ts a apart e))

  found_list_by : (k : Terminal) (x : RawValue NodeText) (ts rest : List Tok) → kind ts ≡ k → list_by inner k ts ≡ Ok (x, rest) → IsList Inner x ts rest
  found_list_by t.CloseBracket x ts rest k h =
      both (expect t.CloseBracket ts) _ (x, rest) h (λ u a e h. subst (λ (y : RawValue NodeText × List Tok). IsList Inner y.0 ts y.1) (ok_is _ _ h) (found_expect t.CloseBracket ts a (λ e. cc) e))
  found_list_by t.True x ts rest k h = found_truths x ts rest (λ e. let c : t.True ≡ t.CloseBracket = sym k ∙ e in cc) h
  found_list_by t.False x ts rest k h = found_truths x ts rest (λ e. let c : t.False ≡ t.CloseBracket = sym k ∙ e in cc) h
  found_list_by t.String x ts rest k h =
      both (until t.CloseBracket string ts) _ (x, rest) h (λ xs a e h. subst (λ (y : RawValue NodeText × List Tok). IsList Inner y.0 ts y.1) (ok_is _ _ h)
      (found_listed string IsString known_string xs ts a (λ e. let c : t.String ≡ t.CloseBracket = sym k ∙ e in cc) e))
  found_list_by t.Numeral x ts rest k h =
      both (until t.CloseBracket number ts) _ (x, rest) h (λ xs a e h. subst (λ (y : RawValue NodeText × List Tok). IsList Inner y.0 ts y.1) (ok_is _ _ h)
      (found_listed number IsNumber known_number xs ts a (λ e. let c : t.Numeral ≡ t.CloseBracket = sym k ∙ e in cc) e))
  found_list_by t.End x ts rest k h = found_nodes x ts rest (λ e. let c : t.End ≡ t.CloseBracket = sym k ∙ e in cc) h
  found_list_by t.Def x ts rest k h = found_nodes x ts rest (λ e. let c : t.Def ≡ t.CloseBracket = sym k ∙ e in cc) h
  found_list_by t.Use x ts rest k h = found_nodes x ts rest (λ e. let c : t.Use ≡ t.CloseBracket = sym k ∙ e in cc) h
  found_list_by t.Route x ts rest k h = found_nodes x ts rest (λ e. let c : t.Route ≡ t.CloseBracket = sym k ∙ e in cc) h
  found_list_by t.To x ts rest k h = found_nodes x ts rest (λ e. let c : t.To ≡ t.CloseBracket = sym k ∙ e in cc) h
  found_list_by t.Proto x ts rest k h = found_nodes x ts rest (λ e. let c : t.Proto ≡ t.CloseBracket = sym k ∙ e in cc) h
  found_list_by t.Is x ts rest k h = found_nodes x ts rest (λ e. let c : t.Is ≡ t.CloseBracket = sym k ∙ e in cc) h
  found_list_by t.Null x ts rest k h = found_nodes x ts rest (λ e. let c : t.Null ≡ t.CloseBracket = sym k ∙ e in cc) h
  found_list_by t.Access x ts rest k h = found_nodes x ts rest (λ e. let c : t.Access ≡ t.CloseBracket = sym k ∙ e in cc) h
  found_list_by t.Name x ts rest k h = found_nodes x ts rest (λ e. let c : t.Name ≡ t.CloseBracket = sym k ∙ e in cc) h
  found_list_by t.OpenBrace x ts rest k h = found_nodes x ts rest (λ e. let c : t.OpenBrace ≡ t.CloseBracket = sym k ∙ e in cc) h
  found_list_by t.CloseBrace x ts rest k h = found_nodes x ts rest (λ e. let c : t.CloseBrace ≡ t.CloseBracket = sym k ∙ e in cc) h
  found_list_by t.OpenBracket x ts rest k h = found_nodes x ts rest (λ e. let c : t.OpenBracket ≡ t.CloseBracket = sym k ∙ e in cc) h
  found_list_by t.Point x ts rest k h = found_nodes x ts rest (λ e. let c : t.Point ≡ t.CloseBracket = sym k ∙ e in cc) h

  found_list : (x : RawValue NodeText) (ts rest : List Tok) → list inner ts ≡ Ok (x, rest) → IsList Inner x ts rest
  unfolding list
  found_list x ts rest h = found_list_by (kind ts) x ts rest refl h

  nodes_by : (k : Terminal) (n : NodeText) (ns : List NodeText) (ts rest : List Tok) → BeginsNode k → AreListed Inner (n ∷ ns) ts rest → list_by inner k ts ≡ Ok (v.NodeList (n ∷ ns), rest)
  nodes_by t.Use n ns ts rest b h = rw (only_listed inner Inner known apart_node (n ∷ ns) ts rest h) refl
  nodes_by t.Def n ns ts rest b h = rw (only_listed inner Inner known apart_node (n ∷ ns) ts rest h) refl
  nodes_by t.Name n ns ts rest b h = rw (only_listed inner Inner known apart_node (n ∷ ns) ts rest h) refl
  nodes_by _ n ns ts rest b h = absurd b

  only_list : (x : RawValue NodeText) (ts rest : List Tok) → IsList Inner x ts rest → list inner ts ≡ Ok (x, rest)
  unfolding list
  only_list v.EmptyList ts rest h = rw (Is-kind t.CloseBracket ts rest h, only_expect t.CloseBracket ts rest h) refl
  only_list (v.TruthList []) ts rest h = absurd h
  only_list (v.TruthList (true ∷ bs)) ts rest h = rw (Is-kind t.True ts h.0 h.1, only_listed truth IsTruth known_truth apart_truth (true ∷ bs) ts rest h) refl
  only_list (v.TruthList (false ∷ bs)) ts rest h = rw (Is-kind t.False ts h.0 h.1, only_listed truth IsTruth known_truth apart_truth (false ∷ bs) ts rest h) refl
  only_list (v.StringList []) ts rest h = absurd h
  only_list (v.StringList (s ∷ ss)) ts rest h = rw (IsString-kind s ts h.0 h.1, only_listed string IsString known_string apart_string (s ∷ ss) ts rest h) refl
  only_list (v.NumberList []) ts rest h = absurd h
  only_list (v.NumberList (n ∷ ns)) ts rest h = rw (IsNumber-kind n ts h.0 h.1, only_listed number IsNumber known_number apart_number (n ∷ ns) ts rest h) refl
  only_list (v.NodeList []) ts rest h = absurd h
  only_list (v.NodeList (n ∷ ns)) ts rest h = nodes_by (kind ts) n ns ts rest (begins n ts h.0 h.1) h
  only_list v.Null ts rest h = absurd h
  only_list (v.Truth b) ts rest h = absurd h
  only_list (v.String s) ts rest h = absurd h
  only_list (v.Numbers ns) ts rest h = absurd h
  only_list (v.Node n) ts rest h = absurd h

  IsList-shorter : (x : RawValue NodeText) (ts rest : List Tok) → IsList Inner x ts rest → length rest < length ts
  IsList-shorter v.EmptyList ts rest h = Is-shorter t.CloseBracket ts rest h
  IsList-shorter (v.TruthList bs) ts rest h = AreListed-shorter truth IsTruth known_truth bs ts rest h
  IsList-shorter (v.StringList ss) ts rest h = AreListed-shorter string IsString known_string ss ts rest h
  IsList-shorter (v.NumberList ns) ts rest h = AreListed-shorter number IsNumber known_number ns ts rest h
  IsList-shorter (v.NodeList ns) ts rest h = AreListed-shorter inner Inner known ns ts rest h
  IsList-shorter v.Null ts rest h = absurd h
  IsList-shorter (v.Truth b) ts rest h = absurd h
  IsList-shorter (v.String s) ts rest h = absurd h
  IsList-shorter (v.Numbers ns) ts rest h = absurd h
  IsList-shorter (v.Node n) ts rest h = absurd h

  -- ---- a value, by the kind of its first token

  bracketed : (x : RawValue NodeText) (ts a rest : List Tok) → Is t.OpenBracket ts a → IsList Inner x a rest → IsValue Inner x ts rest
  bracketed v.EmptyList ts a rest o h = (a, o, h)
  bracketed (v.TruthList bs) ts a rest o h = (a, o, h)
  bracketed (v.StringList ss) ts a rest o h = (a, o, h)
  bracketed (v.NumberList ns) ts a rest o h = (a, o, h)
  bracketed (v.NodeList ns) ts a rest o h = (a, o, h)
  bracketed v.Null ts a rest o h = absurd h
  bracketed (v.Truth b) ts a rest o h = absurd h
  bracketed (v.String s) ts a rest o h = absurd h
  bracketed (v.Numbers ns) ts a rest o h = absurd h
  bracketed (v.Node n) ts a rest o h = absurd h

  by_truth : (x : RawValue NodeText) (ts rest : List Tok) → and_then (truth ts) (λ b r. Ok (v.Truth b, r)) ≡ Ok (x, rest) → IsValue Inner x ts rest
  by_truth x ts rest h = both (truth ts) _ (x, rest) h (λ b a e h. subst (λ (y : RawValue NodeText × List Tok). IsValue Inner y.0 ts y.1) (ok_is _ _ h) (found_truth b ts a e))

  by_inner : (x : RawValue NodeText) (ts rest : List Tok) → and_then (inner ts) (λ n r. Ok (v.Node n, r)) ≡ Ok (x, rest) → IsValue Inner x ts rest
  by_inner x ts rest h = both (inner ts) _ (x, rest) h (λ n a e h. subst (λ (y : RawValue NodeText × List Tok). IsValue Inner y.0 ts y.1) (ok_is _ _ h) (known.found n ts a e))

  found_value_by : (k : Terminal) (x : RawValue NodeText) (ts rest : List Tok) → kind ts ≡ k → value_by inner k ts ≡ Ok (x, rest) → IsValue Inner x ts rest
  found_value_by t.Null x ts rest k h =
      both (expect t.Null ts) _ (x, rest) h (λ u a e h. subst (λ (y : RawValue NodeText × List Tok). IsValue Inner y.0 ts y.1) (ok_is _ _ h) (found_expect t.Null ts a (λ e. cc) e))
  found_value_by t.True x ts rest k h = by_truth x ts rest h
  found_value_by t.False x ts rest k h = by_truth x ts rest h
  found_value_by t.String x ts rest k h =
      both (string ts) _ (x, rest) h (λ s a e h. subst (λ (y : RawValue NodeText × List Tok). IsValue Inner y.0 ts y.1) (ok_is _ _ h) (found_string s ts a e))
  found_value_by t.Numeral x ts rest k h =
      both (numbers ts) _ (x, rest) h (λ ns a e h. subst (λ (y : RawValue NodeText × List Tok). IsValue Inner y.0 ts y.1) (ok_is _ _ h) (found_numbers ns ts a k e))
  found_value_by t.OpenBracket x ts rest k h =
      both (expect t.OpenBracket ts) _ (x, rest) h (λ u a e h. bracketed x ts a rest (found_expect t.OpenBracket ts a (λ e. cc) e) (found_list x a rest h))
  found_value_by _ x ts rest k h = by_inner x ts rest h

  pub found_value : (x : RawValue NodeText) (ts rest : List Tok) → value inner ts ≡ Ok (x, rest) → IsValue Inner x ts rest
  unfolding value
  found_value x ts rest h = found_value_by (kind ts) x ts rest refl h

  only_node : (k : Terminal) (n : NodeText) (ts rest : List Tok) → BeginsNode k → Inner n ts rest → value_by inner k ts ≡ Ok (v.Node n, rest)
  only_node t.Use n ts rest b h = rw (known.only n ts rest h) refl
  only_node t.Def n ts rest b h = rw (known.only n ts rest h) refl
  only_node t.Name n ts rest b h = rw (known.only n ts rest h) refl
  only_node _ n ts rest b h = absurd b

  only_bracketed : (x : RawValue NodeText) (ts rest : List Tok) → IsBracketed Inner x ts rest → value inner ts ≡ Ok (x, rest)
  unfolding value
  only_bracketed x ts rest h = rw (Is-kind t.OpenBracket ts h.0 h.1, only_expect t.OpenBracket ts h.0 h.1, only_list x h.0 rest h.2) refl

  pub only_value : (x : RawValue NodeText) (ts rest : List Tok) → IsValue Inner x ts rest → value inner ts ≡ Ok (x, rest)
  unfolding value
  only_value v.Null ts rest h = rw (Is-kind t.Null ts rest h, only_expect t.Null ts rest h) refl
  only_value (v.Truth true) ts rest h = rw (Is-kind t.True ts rest h, only_truth true ts rest h) refl
  only_value (v.Truth false) ts rest h = rw (Is-kind t.False ts rest h, only_truth false ts rest h) refl
  only_value (v.String s) ts rest h = rw (IsString-kind s ts rest h, only_string s ts rest h) refl
  only_value (v.Numbers ns) ts rest h = rw (AreSomeNumbers-kind ns ts rest h, only_numbers ns ts rest h) refl
  only_value (v.Node n) ts rest h = only_node (kind ts) n ts rest (begins n ts rest h) h
  only_value v.EmptyList ts rest h = only_bracketed v.EmptyList ts rest h
  only_value (v.TruthList bs) ts rest h = only_bracketed (v.TruthList bs) ts rest h
  only_value (v.StringList ss) ts rest h = only_bracketed (v.StringList ss) ts rest h
  only_value (v.NumberList ns) ts rest h = only_bracketed (v.NumberList ns) ts rest h
  only_value (v.NodeList ns) ts rest h = only_bracketed (v.NodeList ns) ts rest h

  IsBracketed-shorter : (x : RawValue NodeText) (ts rest : List Tok) → IsBracketed Inner x ts rest → length rest < length ts
  IsBracketed-shorter x ts rest h = omega (arith, Is-shorter t.OpenBracket ts h.0 h.1, IsList-shorter x h.0 rest h.2)

  pub IsValue-shorter : (x : RawValue NodeText) (ts rest : List Tok) → IsValue Inner x ts rest → length rest < length ts
  IsValue-shorter v.Null ts rest h = Is-shorter t.Null ts rest h
  IsValue-shorter (v.Truth b) ts rest h = IsTruth-shorter b ts rest h
  IsValue-shorter (v.String s) ts rest h = IsString-shorter s ts rest h
  IsValue-shorter (v.Numbers ns) ts rest h = AreSomeNumbers-shorter ns ts rest h
  IsValue-shorter (v.Node n) ts rest h = known.shorter n ts rest h
  IsValue-shorter v.EmptyList ts rest h = IsBracketed-shorter v.EmptyList ts rest h
  IsValue-shorter (v.TruthList bs) ts rest h = IsBracketed-shorter (v.TruthList bs) ts rest h
  IsValue-shorter (v.StringList ss) ts rest h = IsBracketed-shorter (v.StringList ss) ts rest h
  IsValue-shorter (v.NumberList ns) ts rest h = IsBracketed-shorter (v.NumberList ns) ts rest h
  IsValue-shorter (v.NodeList ns) ts rest h = IsBracketed-shorter (v.NodeList ns) ts rest h

  -- no value begins with IS
  pub value_apart : (x : RawValue NodeText) (ts rest : List Tok) → IsValue Inner x ts rest → kind ts ≡ t.Is → ⊥
  value_apart v.Null ts rest h e = let c : t.Null ≡ t.Is = sym (Is-kind t.Null ts rest h) ∙ e in cc
  value_apart (v.Truth true) ts rest h e = let c : t.True ≡ t.Is = sym (Is-kind t.True ts rest h) ∙ e in cc
  value_apart (v.Truth false) ts rest h e = let c : t.False ≡ t.Is = sym (Is-kind t.False ts rest h) ∙ e in cc
  value_apart (v.String s) ts rest h e = let c : t.String ≡ t.Is = sym (IsString-kind s ts rest h) ∙ e in cc
  value_apart (v.Numbers ns) ts rest h e = let c : t.Numeral ≡ t.Is = sym (AreSomeNumbers-kind ns ts rest h) ∙ e in cc
  value_apart (v.Node n) ts rest h e = subst BeginsNode e (begins n ts rest h)
  value_apart v.EmptyList ts rest h e = let c : t.OpenBracket ≡ t.Is = sym (Is-kind t.OpenBracket ts h.0 h.1) ∙ e in cc
  value_apart (v.TruthList bs) ts rest h e = let c : t.OpenBracket ≡ t.Is = sym (Is-kind t.OpenBracket ts h.0 h.1) ∙ e in cc
  value_apart (v.StringList ss) ts rest h e = let c : t.OpenBracket ≡ t.Is = sym (Is-kind t.OpenBracket ts h.0 h.1) ∙ e in cc
  value_apart (v.NumberList ns) ts rest h e = let c : t.OpenBracket ≡ t.Is = sym (Is-kind t.OpenBracket ts h.0 h.1) ∙ e in cc
  value_apart (v.NodeList ns) ts rest h e = let c : t.OpenBracket ≡ t.Is = sym (Is-kind t.OpenBracket ts h.0 h.1) ∙ e in cc

  -- ---- what a field is given

  pub found_given : (x : Given NodeText) (ts rest : List Tok) → one_given inner ts ≡ Ok (x, rest) → IsGiven Inner x ts rest
  unfolding one_given what_is
  found_given x ts rest h =
      ⊎_elim (λ c. both (expect t.Is ts) _ (x, rest) c.1 (λ u a e h. both (name a) _ (x, rest) h (λ n b f h.
      subst (λ (y : Given NodeText × List Tok). IsGiven Inner y.0 ts y.1) (ok_is _ _ h) (a, found_expect t.Is ts a (λ e. cc) e, found_name n a b f))))
      (λ c. both (value inner ts) _ (x, rest) c.1 (λ y a e h. subst (λ (y : Given NodeText × List Tok). IsGiven Inner y.0 ts y.1) (ok_is _ _ h) (found_value y ts a e)))
      (chosen (sees t.Is ts) (what_is ts) (and_then (value inner ts) (λ y a. Ok (given.Value y, a))) (Ok (x, rest)) h)

  pub only_given : (x : Given NodeText) (ts rest : List Tok) → IsGiven Inner x ts rest → one_given inner ts ≡ Ok (x, rest)
  unfolding one_given what_is
  only_given given.Nothing ts rest h = absurd h
  only_given (given.Value x) ts rest h = rw (not_see t.Is ts (value_apart x ts rest h), only_value x ts rest h) refl
  only_given (given.Is n) ts rest h = rw (see t.Is ts (Is-kind t.Is ts h.0 h.1), only_expect t.Is ts h.0 h.1, only_name n h.0 rest h.2) refl

  pub IsGiven-shorter : (x : Given NodeText) (ts rest : List Tok) → IsGiven Inner x ts rest → length rest < length ts
  IsGiven-shorter given.Nothing ts rest h = absurd h
  IsGiven-shorter (given.Value x) ts rest h = IsValue-shorter x ts rest h
  IsGiven-shorter (given.Is n) ts rest h = omega (arith, Is-shorter t.Is ts h.0 h.1, IsName-shorter n h.0 rest h.2)
