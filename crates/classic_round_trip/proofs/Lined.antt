-- What spells a part of a tree, lines apart, spells the part with the lines of its tokens, of which
-- the same text is written.
use Rattle.std.proofs.Common.{◌≡◌, ℕ, ◌+◌, List, [], ◌∷◌, ◌++◌, Bool, true, false, refl, ap, sym, subst, ◌∙◌, replicate, inl, inr}
use Rattle.std.specs.Prelude.{codes}
use Rattle.x3d_values.specs.Names.{access_name, field_type_name}
use Rattle.x3d_values.specs.declared.field_type.Access.{Access}
use Rattle.classic_lex.specs.declared.token.TokenKind.TheVariants as kind
use Rattle.classic_lex.specs.Lexed.{Tok}
use Rattle.classic_tree.specs.declared.tree.BodyItem.{BodyItem}
use Rattle.classic_tree.specs.declared.tree.BodyItem.TheVariants as held
use Rattle.classic_tree.specs.declared.tree.BodyItem.TheOpen.{ProtoText-F}
use Rattle.classic_tree.specs.declared.tree.Declaration.{Declaration}
use Rattle.classic_tree.specs.declared.tree.Given.{Given}
use Rattle.classic_tree.specs.declared.tree.Given.TheVariants as given
use Rattle.classic_tree.specs.declared.tree.NodeText.{NodeText}
use Rattle.classic_tree.specs.declared.tree.ProtoText.{ProtoText, out-ProtoText, out-roll-ProtoText, roll-ProtoText}
use Rattle.classic_tree.specs.declared.tree.RawValue.{RawValue}
use Rattle.classic_tree.specs.declared.tree.RawValue.TheVariants as v
use Rattle.classic_tree.specs.declared.tree.RouteText.{RouteText}
use Rattle.classic_tree.specs.declared.tree.Statement.{Statement}
use Rattle.classic_tree.specs.declared.tree.Statement.TheVariants as stands
use Rattle.classic_tree.specs.Writing.{Writes, block_text, declaration_text, deeper_text, given_text, item_text, line_text, lines_text, node_text, proto_text, route_text, statement_text, value_text}
use Rattle.classic_tree.proofs.Equations.{item_text-declaration, item_text-field, item_text-proto, item_text-route, proto_text_is, statement_text-node, statement_text-proto, statement_text-route}
use Rattle.classic_text.specs.Spells.{AreUntil, Is, IsName, IsBody, IsDeclaration, IsDeclared, IsGiven, IsItem, IsProtoBy, IsRoute, IsStatement, IsValue}
use Rattle.classic_text.specs.Terminal.{line, terminal_of, word}
use Rattle.classic_round_trip.proofs.Routes.{Any}
use Rattle.classic_round_trip.proofs.Tokens.{Terminal}

-- a part that is spelled, of which the same is written as of this one
pub record Lined {A : Type 0} (text : A → Writes) (P : A → List Tok → List Tok → Type 0) (x : A) (ts rest : List Tok) : Type 0 where
  pub part : A
  pub spelled : P part ts rest
  pub same : (indent : ℕ) → text part indent ≡ text x indent

-- parts, of which the same is written on lines of their own
pub record LinedAll {A : Type 0} (text : A → Writes) (P : List A → List Tok → List Tok → Type 0) (xs : List A) (ts rest : List Tok) : Type 0 where
  pub parts : List A
  pub spelled : P parts ts rest
  pub same : (indent : ℕ) → lines_text text indent parts ≡ lines_text text indent xs
  pub block : (indent : ℕ) → block_text text indent parts ≡ block_text text indent xs

-- ---- lists

pub lines_same : {A : Type 0} (text : A → Writes) (indent : ℕ) (y x : A) (ys xs : List A) → text y indent ≡ text x indent → lines_text text indent ys ≡ lines_text text indent xs
    → lines_text text indent (y ∷ ys) ≡ lines_text text indent (x ∷ xs)
lines_same text indent y x ys xs one more =
    ap (λ t. (replicate indent 32 ++ t ++ 10 ∷ []) ++ lines_text text indent ys) one ∙ ap (λ ls. line_text text indent x ++ ls) more

block_same : {A : Type 0} (text : A → Writes) (y x : A) (ys xs : List A) → ((indent : ℕ) → text y indent ≡ text x indent)
    → ((indent : ℕ) → lines_text text indent ys ≡ lines_text text indent xs) → (indent : ℕ) → block_text text indent (y ∷ ys) ≡ block_text text indent (x ∷ xs)
block_same text y x ys xs one more indent =
    ap (λ ls. 10 ∷ ls ++ replicate indent 32) (lines_same text (indent + 2) y x ys xs (one (indent + 2)) (more (indent + 2)))

pub lined_until : {A : Type 0} (text : A → Writes) (k : Terminal) (P Q : A → List Tok → List Tok → Type 0)
    → ((x : A) (ts rest : List Tok) → P x ts rest → Lined text Q x ts rest)
    → (xs : List A) (ts rest : List Tok) → AreUntil k P xs ts rest → LinedAll text (AreUntil k Q) xs ts rest
lined_until text k P Q f [] ts rest h = record { parts = []; spelled = h; same = λ i. refl; block = λ i. refl }
lined_until text k P Q f (x ∷ xs) ts rest h =
    let one = f x ts h.0 h.1 in
    let more = lined_until text k P Q f xs h.0 rest h.2 in
    record {
      parts = one.part ∷ more.parts;
      spelled = (h.0, one.spelled, more.spelled);
      same = λ i. lines_same text i one.part x more.parts xs (one.same i) (more.same i);
      block = block_same text one.part x more.parts xs one.same more.same;
    }

-- ---- prototypes, by what is in them

abbrev OpenProto : Type 0
OpenProto = ProtoText-F BodyItem NodeText Statement ProtoText

-- what is written of a prototype
abbrev open_text : OpenProto → Writes
open_text o indent =
    codes "PROTO " ++ o.name ++ codes " [" ++ block_text (declaration_text node_text) indent o.interface ++ codes "] {" ++ deeper_text statement_text indent o.body ++ 125 ∷ []

open_same : (again o : OpenProto) (indent : ℕ) → again.name ≡ o.name
    → block_text (declaration_text node_text) indent again.interface ≡ block_text (declaration_text node_text) indent o.interface
    → lines_text statement_text (indent + 2) again.body ≡ lines_text statement_text (indent + 2) o.body → open_text again indent ≡ open_text o indent
open_same again o indent name block body = rw (name, block, body) refl

-- what spells it, with its line
abbrev IsOpenProto : (NodeText → List Tok → List Tok → Type 0) → (List Statement → List Tok → List Tok → Type 0) → OpenProto → List Tok → List Tok → Type 0
IsOpenProto Inner Body o ts rest =
    (a : List Tok) × (b : List Tok) × (c : List Tok) × (d : List Tok)
    × (line ts ≡ o.line) × Is (word (codes "PROTO")) ts a
    × IsName o.name a b × Is (terminal_of kind.OpenBracket []) b c
    × AreUntil (terminal_of kind.CloseBracket []) (IsDeclaration ◌≡◌ Inner false) o.interface c d
    × Body o.body d rest

-- ---- values

module _ (P Q : NodeText → List Tok → List Tok → Type 0) (f : (n : NodeText) (ts rest : List Tok) → P n ts rest → Lined node_text Q n ts rest) where
  lined_value : (x : RawValue NodeText) (ts rest : List Tok) → IsValue P x ts rest → Lined (value_text node_text) (IsValue Q) x ts rest
  lined_value v.Null ts rest h = record { part = v.Null; spelled = h; same = λ i. refl }
  lined_value (v.Truth b) ts rest h = record { part = v.Truth b; spelled = h; same = λ i. refl }
  lined_value (v.String s) ts rest h = record { part = v.String s; spelled = h; same = λ i. refl }
  lined_value (v.Numbers ns) ts rest h = record { part = v.Numbers ns; spelled = h; same = λ i. refl }
  lined_value (v.Node n) ts rest h = let m = f n ts rest h in record { part = v.Node m.part; spelled = m.spelled; same = m.same }
  lined_value v.EmptyList ts rest h = record { part = v.EmptyList; spelled = h; same = λ i. refl }
  lined_value (v.TruthList bs) ts rest h = record { part = v.TruthList bs; spelled = h; same = λ i. refl }
  lined_value (v.StringList ss) ts rest h = record { part = v.StringList ss; spelled = h; same = λ i. refl }
  lined_value (v.NumberList ns) ts rest h = record { part = v.NumberList ns; spelled = h; same = λ i. refl }
  lined_value (v.NodeList []) ts rest h = absurd h.2
  lined_value (v.NodeList (n ∷ ns)) ts rest h =
      let one = f n h.0 h.2.0 h.2.1 in
      let more = lined_until node_text (terminal_of kind.CloseBracket []) P Q f ns h.2.0 rest h.2.2 in
      record {
        part = v.NodeList (one.part ∷ more.parts);
        spelled = (h.0, h.1, (h.2.0, one.spelled, more.spelled));
        same = λ i. ap (λ block. 91 ∷ block ++ 93 ∷ []) (block_same node_text one.part n more.parts ns one.same more.same i);
      }

  lined_given : (x : Given NodeText) (ts rest : List Tok) → IsGiven P x ts rest → Lined (given_text node_text) (IsGiven Q) x ts rest
  lined_given given.Nothing ts rest h = absurd h
  lined_given (given.Value x) ts rest h =
      let m = lined_value x ts rest h in
      record { part = given.Value m.part; spelled = m.spelled; same = λ i. ap (λ t. 32 ∷ t) (m.same i) }
  lined_given (given.Is n) ts rest h = record { part = given.Is n; spelled = h; same = λ i. refl }

  lined_declared : (script : Bool) (a : Access) (x : Given NodeText) (ts rest : List Tok) → IsDeclared P script a x ts rest
      → Lined (given_text node_text) (IsDeclared Q script a) x ts rest
  lined_declared script a given.Nothing ts rest h = record { part = given.Nothing; spelled = h; same = λ i. refl }
  lined_declared script a (given.Value x) ts rest h =
      let m = lined_value x ts rest h.1 in
      record { part = given.Value m.part; spelled = (h.0, m.spelled); same = λ i. ap (λ t. 32 ∷ t) (m.same i) }
  lined_declared script a (given.Is n) ts rest h = record { part = given.Is n; spelled = h; same = λ i. refl }

-- ---- what has lines

lined_route : (r : RouteText) (ts rest : List Tok) → IsRoute Any r ts rest → Lined (λ (x : RouteText) (i : ℕ). route_text x) (IsRoute ◌≡◌) r ts rest
lined_route r ts rest h = record {
  part = record r { line = line ts };
  spelled = (h.0, h.1, h.2, refl, h.4, h.5, h.6, h.7);
  same = λ i. refl;
}

module _ (P Q : NodeText → List Tok → List Tok → Type 0) (f : (n : NodeText) (ts rest : List Tok) → P n ts rest → Lined node_text Q n ts rest) where
  lined_declaration : (script : Bool) (d : Declaration NodeText) (ts rest : List Tok) → IsDeclaration Any P script d ts rest
      → Lined (declaration_text node_text) (IsDeclaration ◌≡◌ Q script) d ts rest
  lined_declaration script d ts rest h =
      let g = lined_declared P Q f script d.access d.given h.2 rest h.7 in
      record {
        part = record d { line = line ts; given = g.part };
        spelled = (h.0, h.1, h.2, refl, h.4, h.5, h.6, g.spelled);
        same = λ i. ap (λ r. access_name d.access ++ 32 ∷ field_type_name d.field_type ++ 32 ∷ d.name ++ r) (g.same i);
      }

  module _ (R S : ProtoText → List Tok → List Tok → Type 0) (g : (p : ProtoText) (ts rest : List Tok) → R p ts rest → Lined proto_text S p ts rest) where
    lined_item : (node_type : List ℕ) (item : BodyItem) (ts rest : List Tok) → IsItem Any P R node_type item ts rest → Lined item_text (IsItem ◌≡◌ Q S node_type) item ts rest
    lined_item node_type item ts rest (inl h) =
        let m = lined_given P Q f h.value h.behind rest h.spelled in
        record {
          part = held.Field (line ts) h.name m.part;
          spelled = inl (record {
            at = line ts;
            name = h.name;
            value = m.part;
            is = refl;
            lined = refl;
            other = h.other;
            behind = h.behind;
            named = h.named;
            spelled = m.spelled;
          });
          same = λ i.
              item_text-field (line ts) h.name m.part i ∙ ap (λ t. h.name ++ t) (m.same i) ∙ sym (item_text-field h.at h.name h.value i)
              ∙ ap (λ (x : BodyItem). item_text x i) (sym h.is);
        }
    lined_item node_type item ts rest (inr (inl h)) =
        let m = lined_route h.route ts rest h.spelled in
        record {
          part = held.Route m.part;
          spelled = inr (inl (record { route = m.part; is = refl; spelled = m.spelled }));
          same = λ i.
              item_text-route m.part i ∙ m.same i ∙ sym (item_text-route h.route i) ∙ ap (λ (x : BodyItem). item_text x i) (sym h.is);
        }
    lined_item node_type item ts rest (inr (inr (inl h))) =
        let m = g h.proto ts rest h.spelled in
        record {
          part = held.Proto m.part;
          spelled = inr (inr (inl (record { proto = m.part; is = refl; spelled = m.spelled })));
          same = λ i.
              item_text-proto m.part i ∙ m.same i ∙ sym (item_text-proto h.proto i) ∙ ap (λ (x : BodyItem). item_text x i) (sym h.is);
        }
    lined_item node_type item ts rest (inr (inr (inr h))) =
        let m = lined_declaration true h.declaration ts rest h.spelled in
        record {
          part = held.Declaration m.part;
          spelled = inr (inr (inr (record { scripted = h.scripted; declaration = m.part; is = refl; spelled = m.spelled })));
          same = λ i.
              item_text-declaration m.part i ∙ m.same i ∙ sym (item_text-declaration h.declaration i)
              ∙ ap (λ (x : BodyItem). item_text x i) (sym h.is);
        }

    pub lined_body : (node_type : List ℕ) (items : List BodyItem) (ts rest : List Tok) → IsBody Any P R node_type items ts rest
        → LinedAll item_text (IsBody ◌≡◌ Q S node_type) items ts rest
    lined_body node_type items ts rest h =
        let m = lined_until item_text (terminal_of kind.CloseBrace []) (IsItem Any P R node_type) (IsItem ◌≡◌ Q S node_type) (lined_item node_type) items h.0 rest h.2 in
        record { parts = m.parts; spelled = (h.0, h.1, m.spelled); same = m.same; block = m.block }

    pub lined_statement : (s : Statement) (ts rest : List Tok) → IsStatement Any P R s ts rest → Lined statement_text (IsStatement ◌≡◌ Q S) s ts rest
    lined_statement s ts rest (inl h) =
        let m = f h.node ts rest h.spelled in
        record {
          part = stands.Node m.part;
          spelled = inl (record {
            node = m.part;
            is = refl;
            spelled = m.spelled;
            no_externproto = h.no_externproto;
            no_import = h.no_import;
            no_export = h.no_export;
            no_unit = h.no_unit;
          });
          same = λ i.
              statement_text-node m.part i ∙ m.same i ∙ sym (statement_text-node h.node i) ∙ ap (λ (x : Statement). statement_text x i) (sym h.is);
        }
    lined_statement s ts rest (inr (inl h)) =
        let m = lined_route h.route ts rest h.spelled in
        record {
          part = stands.Route m.part;
          spelled = inr (inl (record { route = m.part; is = refl; spelled = m.spelled }));
          same = λ i.
              statement_text-route m.part i ∙ m.same i ∙ sym (statement_text-route h.route i) ∙ ap (λ (x : Statement). statement_text x i) (sym h.is);
        }
    lined_statement s ts rest (inr (inr h)) =
        let m = g h.proto ts rest h.spelled in
        record {
          part = stands.Proto m.part;
          spelled = inr (inr (record { proto = m.part; is = refl; spelled = m.spelled }));
          same = λ i.
              statement_text-proto m.part i ∙ m.same i ∙ sym (statement_text-proto h.proto i) ∙ ap (λ (x : Statement). statement_text x i) (sym h.is);
        }

  module _ (B C : List Statement → List Tok → List Tok → Type 0)
      (g : (ss : List Statement) (ts rest : List Tok) → B ss ts rest → LinedAll statement_text C ss ts rest) where
    pub lined_proto : (p : ProtoText) (ts rest : List Tok) → IsProtoBy Any P B p ts rest → Lined proto_text (IsProtoBy ◌≡◌ Q C) p ts rest
    unfolding word
    lined_proto p ts rest h =
        let o : OpenProto = out-ProtoText p in
        let m = lined_until (declaration_text node_text) (terminal_of kind.CloseBracket []) (IsDeclaration Any P false) (IsDeclaration ◌≡◌ Q false) (lined_declaration false)
        o.interface h.2 h.3 h.8 in
        let b = g o.body h.3 rest h.9 in
        let again : OpenProto = record { line = line ts; name = o.name; interface = m.parts; body = b.parts } in
        let opens : out-ProtoText (roll-ProtoText again) ≡ again = out-roll-ProtoText again in
        let spelled : IsOpenProto Q C again ts rest = (h.0, h.1, h.2, h.3, refl, h.5, h.6, h.7, m.spelled, b.spelled) in
        record {
          part = roll-ProtoText again;
          spelled = subst (λ (x : OpenProto). IsOpenProto Q C x ts rest) (sym opens) spelled;
          same = λ i.
              proto_text_is (roll-ProtoText again) i ∙ ap (λ (x : OpenProto). open_text x i) opens ∙ open_same again o i refl (m.block i) (b.same (i + 2)) ∙ sym (proto_text_is p i);
        }
