-- The texts of nodes are found as those nodes.
use Rattle.std.proofs.Common.{◌≡◌, ℕ, List, [], ◌∷◌, ◌++◌, true, Option, Some, None, refl, sym, ap, subst, ◌∙◌, append_assoc, ◌⊎◌, inl, inr}
use Rattle.std.specs.Prelude.{codes}
use Rattle.std.specs.List.{AllByRecursion}
use Rattle.classic_lex.specs.declared.token.TokenKind.TheVariants as kind
use Rattle.classic_lex.specs.Lexed.{Tok}
use Rattle.classic_tree.specs.declared.tree.BodyItem.{BodyItem}
use Rattle.classic_tree.specs.declared.tree.ProtoText.{ProtoText}
use Rattle.classic_tree.specs.declared.tree.NodeText.{NodeText}
use Rattle.classic_tree.specs.declared.tree.NodeText.TheVariants as made
use Rattle.classic_tree.specs.Writing.{block_text, given_text, item_text, node_text, proto_text}
use Rattle.classic_tree.proofs.Equations.{item_text-field, item_text-declaration, item_text-route, item_text-proto, node_text-use, node_text-full}
use Rattle.classic_text.specs.Input.{kind as kind_of, spelling}
use Rattle.classic_text.specs.Terminal.{terminal_of, word, name_or_access, is_access}
use Rattle.classic_text.specs.Spells.{IsName, HasDef, IsItem, IsBody, IsLayer}
use Rattle.classic_round_trip.specs.Spellable.{IsFreeName, IsNoneOf, IsSpellableItem, IsSpellableUse, IsNameOrNone, IsSpellableFull, BeginsWithNoneOf}
use Rattle.classic_round_trip.proofs.Tokens.{Is-kind, IsSuch-kind, IsSuch-spelling, BeginsNew, begins_new}
use Rattle.classic_round_trip.proofs.Pieces.{Found, Always, Then, with, retext, always, join}
use Rattle.classic_round_trip.proofs.Words.{ending_space, spaced, found_open_brace, found_close_brace, found_name, found_def_word, found_use_word}
use Rattle.classic_round_trip.proofs.Routes.{Any, IsWritten, found_route, found_block}
use Rattle.classic_round_trip.proofs.Fields.{found_given, given_ends, found_declaration, declaration_first}

-- ---- what stands in a body, by the nodes and PROTOs in it

module _ (Fact : NodeText → Type 0) (Inner : NodeText → List Tok → List Tok → Type 0)
    (first : (n : NodeText) (ts ms : List Tok) → Inner n ts ms → BeginsNew ts)
    (found : (n : NodeText) → Fact n → (indent : ℕ) → IsWritten (node_text n indent) (Inner n))
    (ProtoFact : ProtoText → Type 0) (Proto : ProtoText → List Tok → List Tok → Type 0)
    (proto_first : (p : ProtoText) (ts ms : List Tok) → Proto p ts ms → BeginsNew ts)
    (found_proto : (p : ProtoText) → ProtoFact p → (indent : ℕ) → IsWritten (proto_text p indent) (Proto p))
    (node_type : List ℕ) where
  found_item : (item : BodyItem) → IsSpellableItem Fact ProtoFact node_type item → (indent : ℕ)
      → IsWritten (item_text item indent) (IsItem Any Inner Proto node_type item)
  found_item item (inl h) indent = λ r e.
      retext (item_text item indent) (ap (λ (i : BodyItem). item_text i indent) h.is ∙ item_text-field h.at h.name h.value indent)
      (with (IsItem Any Inner Proto node_type item) (λ ts ms j. inl
      (record {
        at = h.at;
        name = h.name;
        value = h.value;
        is = h.is;
        lined = tt;
        other = h.other;
        behind = j.0;
        named = j.1;
        spelled = j.2;
      }))
      (join (found_name h.name (given_text node_text h.value indent ++ r) h.named (given_ends Fact Inner first found h.value indent r e))
      (found_given Fact Inner first found h.value h.given indent r e) (λ ts ms s. tt)))
  found_item item (inr (inl h)) indent = λ r e.
      retext (item_text item indent) (ap (λ (i : BodyItem). item_text i indent) h.is ∙ item_text-route h.route indent)
      (with (IsItem Any Inner Proto node_type item) (λ ts ms j. inr (inl (record { route = h.route; is = h.is; spelled = j })))
      (always (found_route h.route r h.spellable e)))
  found_item item (inr (inr (inl h))) indent = λ r e.
      retext (item_text item indent) (ap (λ (i : BodyItem). item_text i indent) h.is ∙ item_text-proto h.proto indent)
      (with (IsItem Any Inner Proto node_type item) (λ ts ms j. inr (inr (inl (record { proto = h.proto; is = h.is; spelled = j }))))
      (found_proto h.proto h.spellable indent r e))
  found_item item (inr (inr (inr h))) indent = λ r e.
      retext (item_text item indent) (ap (λ (i : BodyItem). item_text i indent) h.is ∙ item_text-declaration h.declaration indent)
      (with (IsItem Any Inner Proto node_type item)
      (λ ts ms j. inr (inr (inr (record { scripted = h.scripted; declaration = h.declaration; is = h.is; spelled = j }))))
      (found_declaration Fact Inner first found true h.declaration h.spellable indent r e))

  item_first : (item : BodyItem) (ts ms : List Tok) → IsItem Any Inner Proto node_type item ts ms → BeginsNew ts
  unfolding word name_or_access is_access
  item_first item ts ms (inl h) = begins_new (word []) ts (IsSuch-kind (word []) _ ts h.behind h.named) (λ e. cc) (λ e. cc)
  item_first item ts ms (inr (inl h)) = begins_new (word (codes "ROUTE")) ts (Is-kind (word (codes "ROUTE")) ts h.spelled.0 h.spelled.4) (λ e. cc) (λ e. cc)
  item_first item ts ms (inr (inr (inl h))) = proto_first h.proto ts ms h.spelled
  item_first item ts ms (inr (inr (inr h))) = declaration_first Fact Inner first found true h.declaration ts ms h.spelled

  pub found_body : (items : List BodyItem) → AllByRecursion (IsSpellableItem Fact ProtoFact node_type) items → (indent : ℕ) (rest : List ℕ)
      → Found (123 ∷ block_text item_text indent items ++ 125 ∷ []) rest Always (IsBody Any Inner Proto node_type items)
  unfolding word
  found_body items h indent rest =
      found_block (terminal_of kind.CloseBrace []) (λ q. cc, λ q. cc) (125 ∷ []) found_close_brace (IsItem Any Inner Proto node_type) item_first item_text
      (IsSpellableItem Fact ProtoFact node_type) found_item (terminal_of kind.OpenBrace []) 123 found_open_brace items h indent rest

-- ---- nodes

-- the first token is a word of the grammar, or none of these words
abbrev pub Opens : List (List ℕ) → List Tok → Type 0
Opens words ts = (spelling ts ≡ codes "USE") ⊎ ((spelling ts ≡ codes "DEF") ⊎ IsNoneOf words (spelling ts))

module _ (Body : List ℕ → List BodyItem → List Tok → List Tok → Type 0) where
  pub layer_first : (node : NodeText) (ts ms : List Tok) → IsLayer Any Body node ts ms → BeginsNew ts
  unfolding word name_or_access is_access
  layer_first node ts ms (inl h) = begins_new (word (codes "USE")) ts (Is-kind (word (codes "USE")) ts h.behind h.word) (λ e. cc) (λ e. cc)
  layer_first node ts ms (inr h) = by h.def h.defined
    where
      by : (def : Option (List ℕ)) → HasDef def ts h.behind_def → BeginsNew ts
      by None d = begins_new (word []) ts (ap kind_of (sym d) ∙ IsSuch-kind (word []) _ h.behind_def h.behind_type h.typed) (λ e. cc) (λ e. cc)
      by (Some n) d = begins_new (word (codes "DEF")) ts (Is-kind (word (codes "DEF")) ts d.0 d.1) (λ e. cc) (λ e. cc)

  module _ (Item : List ℕ → BodyItem → Type 0)
      (found : (node_type : List ℕ) (items : List BodyItem) → AllByRecursion (Item node_type) items → (indent : ℕ) (rest : List ℕ)
      → Found (123 ∷ block_text item_text indent items ++ 125 ∷ []) rest Always (Body node_type items))
      (words : List (List ℕ)) where
    abbrev OpensNode : NodeText → List Tok → List Tok → Type 0
    OpensNode node ts ms = IsLayer Any Body node ts ms × Opens words ts

    found_use : (node : NodeText) → IsSpellableUse node → (indent : ℕ) → IsWritten (node_text node indent) (OpensNode node)
    unfolding word
    found_use node h indent = λ r e.
        retext (node_text node indent) (ap (λ (n : NodeText). node_text n indent) h.is ∙ node_text-use h.at h.name indent)
        (with (OpensNode node) (λ ts ms j. (
          inl (record { at = h.at; name = h.name; is = h.is; lined = tt; behind = j.0; word = j.1.0; named = j.2 }),
          inl j.1.1,
        ))
        (join (found_use_word (h.name ++ r)) (spaced (always (found_name h.name r h.named e.0))) (λ ts ms s. tt)))

    plain_parts : (k block : List ℕ) → [] ++ k ++ codes " {" ++ block ++ 125 ∷ [] ≡ k ++ (32 ∷ (123 ∷ block ++ 125 ∷ []))
    plain_parts k block = simp append_assoc

    def_parts : (n k block : List ℕ) → (codes "DEF " ++ n ++ 32 ∷ []) ++ k ++ codes " {" ++ block ++ 125 ∷ []
        ≡ codes "DEF" ++ (32 ∷ (n ++ (32 ∷ (k ++ (32 ∷ (123 ∷ block ++ 125 ∷ []))))))
    def_parts n k block = simp append_assoc

    module _ (node : NodeText) (at : ℕ) (name : List ℕ) (items : List BodyItem) (named : IsFreeName name) (all : AllByRecursion (Item name) items)
        (indent : ℕ) (r : List ℕ) where
      typed : Found (name ++ (32 ∷ (123 ∷ block_text item_text indent items ++ 125 ∷ []))) r Always (Then (IsName name) (Body name items))
      typed = join (found_name name (32 ∷ (123 ∷ block_text item_text indent items ++ 125 ∷ []) ++ r) named
          (ending_space ((123 ∷ block_text item_text indent items ++ 125 ∷ []) ++ r)).0) (spaced (found name items all indent r)) (λ ts ms s. tt)

      found_def : (def : Option (List ℕ)) → IsNameOrNone def → BeginsWithNoneOf words def name → node ≡ made.Full at def name items
          → Found (node_text node indent) r BeginsNew (OpensNode node)
      unfolding word name_or_access is_access
      found_def None d b is =
          retext (node_text node indent) (ap (λ (n : NodeText). node_text n indent) is ∙ node_text-full at None name items indent
          ∙ plain_parts name (block_text item_text indent items))
          (with (OpensNode node) (λ ts ms j. (
            inr (record {
              at = at;
              def = None;
              node_type = name;
              items = items;
              is = is;
              lined = tt;
              behind_def = ts;
              behind_type = j.0;
              defined = refl;
              typed = j.1;
              body = j.2;
            }),
            inr (inr (subst (IsNoneOf words) (sym (IsSuch-spelling (word []) (λ text. text ≡ name) ts j.0 j.1)) b)),
          ))
          (always typed))
      found_def (Some n) d b is =
          retext (node_text node indent) (ap (λ (n : NodeText). node_text n indent) is ∙ node_text-full at (Some n) name items indent
          ∙ def_parts n name (block_text item_text indent items))
          (with (OpensNode node) (λ ts ms j. (
            inr (record {
              at = at;
              def = Some n;
              node_type = name;
              items = items;
              is = is;
              lined = tt;
              behind_def = j.2.0;
              behind_type = j.2.2.0;
              defined = (j.0, j.1.0, j.2.1);
              typed = j.2.2.1;
              body = j.2.2.2;
            }),
            inr (inl j.1.1),
          ))
          (always (join (found_def_word ((n ++ (32 ∷ (name ++ (32 ∷ (123 ∷ block_text item_text indent items ++ 125 ∷ []))))) ++ r)) (spaced
          (join (found_name n ((32 ∷ (name ++ (32 ∷ (123 ∷ block_text item_text indent items ++ 125 ∷ [])))) ++ r) d
          (ending_space ((name ++ (32 ∷ (123 ∷ block_text item_text indent items ++ 125 ∷ []))) ++ r)).0) (spaced typed) (λ ts ms s. tt)))
          (λ ts ms s. tt))))

    pub found_layer : (node : NodeText) → IsSpellableUse node ⊎ IsSpellableFull Item words node → (indent : ℕ)
        → IsWritten (node_text node indent) (OpensNode node)
    found_layer node (inl h) indent = found_use node h indent
    found_layer node (inr h) indent = λ r e. found_def node h.at h.node_type h.items h.typed h.body indent r h.def h.defined h.begins h.is
