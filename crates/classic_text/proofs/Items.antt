-- What stands in bodies, by how nodes and prototypes are read: what is read is spelled so, and what is spelled so is read.
use Rattle.std.proofs.Common.{◌≡◌, ℕ, ◌<◌, List, [], ◌∷◌, length, Bool, true, false, cond, ◌&&◌, ◌||◌, Some, Ok, Err, refl, sym, ◌∙◌, subst, inl, inr, ⊎_elim, arith}
use Rattle.std.specs.Prelude.{codes}
use Rattle.std.proofs.lemmas.Bool.{and_parts, and_right, or_parts, or_from}
use Rattle.x3d_values.specs.declared.field_type.Access.{Access}
use Rattle.x3d_values.specs.Names.{access_named}
use Rattle.classic_lex.specs.Lexed.{Tok}
use Rattle.classic_rules.specs.Bounds.{is_script}
use Rattle.classic_tree.specs.declared.tree.BodyItem.{BodyItem}
use Rattle.classic_tree.specs.declared.tree.BodyItem.TheVariants as held
use Rattle.classic_tree.specs.declared.tree.NodeText.{NodeText}
use Rattle.classic_tree.specs.declared.tree.ProtoText.{ProtoText}
use Rattle.classic_tree.specs.declared.tree.Statement.{Statement}
use Rattle.classic_tree.specs.declared.tree.Statement.TheVariants as stands
use Rattle.classic_text.specs.declared.refusal.Refusal.{Refusal}
use Rattle.classic_text.specs.declared.refusal.Refusal.TheVariants.{Unsupported}
use Rattle.classic_text.specs.declared.terminal.Terminal.TheVariants as t
use Rattle.classic_text.specs.Terminal.{line}
use Rattle.classic_text.specs.Input.{Parsed, Parser, and_then, kind, sees, sees_word, expect, name}
use Rattle.classic_text.specs.Grammar.{route, one_given, field, declaration, begins_unread_statement, other_item, one_item, body, node_statement, one_statement, proto_body}
use Rattle.classic_text.specs.Spells.{NotWordAhead, IsAccess, IsItem, IsBody, IsStatement, IsProtoBody}
use Rattle.classic_text.proofs.Seen.{see, not_see, same_word, word_same, not_word_ahead, word_not_ahead, other_name, name_other}
use Rattle.classic_text.proofs.Steps.{ok_is, both, chosen, Is-shorter, IsName-kind, IsName-shorter, found_expect, only_expect, found_name, only_name, found_route, only_route, IsRoute-kind, IsRoute-shorter}
use Rattle.classic_text.proofs.Values.{Knows, BeginsNode, found_until, only_until, AreUntil-shorter, found_given, only_given, IsGiven-shorter}
use Rattle.classic_text.proofs.Declarations.{known_declaration, IsDeclaration-kind}

-- what is not refused
not_refused : {A : Type 0} (b : Bool) (e : Refusal) (x : Parsed A) (y : A × List Tok) → cond b (Err e) x ≡ Ok y → (b ≡ false) × (x ≡ Ok y)
not_refused true e x y h = cc
not_refused false e x y h = (refl, h)

-- ---- Scripts and other words

script_named : (type : List ℕ) → is_script type ≡ true → type ≡ codes "Script"
unfolding is_script
script_named type h = same_word type (codes "Script") h

named_script : (type : List ℕ) → type ≡ codes "Script" → is_script type ≡ true
unfolding is_script
named_script type h = word_same type (codes "Script") h

no_access : (a : Access) → access_named (codes "EXTERNPROTO") ≡ Some a → ⊥
no_access a h = cc

-- a word of access is not EXTERNPROTO
access_apart : (a : Access) (ts rest : List Tok) → IsAccess a ts rest → NotWordAhead (codes "EXTERNPROTO") ts
access_apart a [] rest h = tt
access_apart a (x ∷ ts) rest h = λ e. no_access a (subst (λ (text : List ℕ). access_named text ≡ Some a) e h.1)

module _ (inner : Parser NodeText) (Inner : NodeText → List Tok → List Tok → Type 0) (known : Knows inner Inner) (begins : (n : NodeText) (ts rest : List Tok) → Inner n ts rest → BeginsNode (kind ts)) (proto : Parser ProtoText) (Proto : ProtoText → List Tok → List Tok → Type 0) (known_proto : Knows proto Proto) (proto_begins : (p : ProtoText) (ts rest : List Tok) → Proto p ts rest → kind ts ≡ t.Proto) where
  -- ---- what stands in a body

  module _ (type : List ℕ) where
    found_field : (x : BodyItem) (ts rest : List Tok) → sees_word (codes "EXTERNPROTO") ts ≡ false → field inner ts ≡ Ok (x, rest) → IsItem ◌≡◌ Inner Proto type x ts rest
    unfolding field
    found_field x ts rest free h =
        both (name ts) _ (x, rest) h (λ f a e h. both (one_given inner a) _ (x, rest) h (λ g b i h.
        let named = found_name f ts a e in
        subst (λ (p : BodyItem × List Tok). IsItem ◌≡◌ Inner Proto type p.0 ts p.1) (ok_is (held.Field (line ts) f g, b) (x, rest) h)
        (inl (record { at = line ts; name = f; value = g; is = refl; lined = refl; other = other_name (codes "EXTERNPROTO") f ts a free named; behind = a; named = named; spelled = found_given inner Inner known begins g a b i }))))

    found_other : (x : BodyItem) (ts rest : List Tok) → other_item inner (is_script type) ts ≡ Ok (x, rest) → IsItem ◌≡◌ Inner Proto type x ts rest
    unfolding other_item
    found_other x ts rest h =
        let g = not_refused (sees_word (codes "EXTERNPROTO") ts) (Unsupported (line ts)) (cond (is_script type && sees t.Access ts) (and_then (declaration inner true ts) (λ d a. Ok (held.Declaration d, a))) (field inner ts)) (x, rest) h in
        ⊎_elim (λ c. both (declaration inner true ts) _ (x, rest) c.1 (λ d a e h.
        subst (λ (p : BodyItem × List Tok). IsItem ◌≡◌ Inner Proto type p.0 ts p.1) (ok_is (held.Declaration d, a) (x, rest) h)
        (inr (inr (inr (record { scripted = script_named type (and_parts (is_script type) (sees t.Access ts) c.0).0; declaration = d; is = refl; spelled = (known_declaration inner Inner known begins true).found d ts a e }))))))
        (λ c. found_field x ts rest g.0 c.1)
        (chosen (is_script type && sees t.Access ts) (and_then (declaration inner true ts) (λ d a. Ok (held.Declaration d, a))) (field inner ts) (Ok (x, rest)) g.1)

    found_item : (x : BodyItem) (ts rest : List Tok) → one_item inner proto (is_script type) ts ≡ Ok (x, rest) → IsItem ◌≡◌ Inner Proto type x ts rest
    unfolding one_item
    found_item x ts rest h =
        ⊎_elim (λ c. both (route ts) _ (x, rest) c.1 (λ r a e h.
        subst (λ (p : BodyItem × List Tok). IsItem ◌≡◌ Inner Proto type p.0 ts p.1) (ok_is (held.Route r, a) (x, rest) h) (inr (inl (record { route = r; is = refl; spelled = found_route r ts a e })))))
        (λ c. ⊎_elim (λ d. both (proto ts) _ (x, rest) d.1 (λ p a e h.
        subst (λ (q : BodyItem × List Tok). IsItem ◌≡◌ Inner Proto type q.0 ts q.1) (ok_is (held.Proto p, a) (x, rest) h) (inr (inr (inl (record { proto = p; is = refl; spelled = known_proto.found p ts a e }))))))
        (λ d. found_other x ts rest d.1)
        (chosen (sees t.Proto ts) (and_then (proto ts) (λ p a. Ok (held.Proto p, a))) (other_item inner (is_script type) ts) (Ok (x, rest)) c.1))
        (chosen (sees t.Route ts) (and_then (route ts) (λ r a. Ok (held.Route r, a))) (cond (sees t.Proto ts) (and_then (proto ts) (λ p a. Ok (held.Proto p, a))) (other_item inner (is_script type) ts)) (Ok (x, rest)) h)

    only_item : (x : BodyItem) (ts rest : List Tok) → IsItem ◌≡◌ Inner Proto type x ts rest → one_item inner proto (is_script type) ts ≡ Ok (x, rest)
    unfolding one_item other_item field
    only_item x ts rest (inl h) =
        let k : kind ts ≡ t.Name = IsName-kind h.name ts h.behind h.named in
        let no_route : sees t.Route ts ≡ false = not_see t.Route ts (λ e. let c : t.Name ≡ t.Route = sym k ∙ e in cc) in
        let no_proto : sees t.Proto ts ≡ false = not_see t.Proto ts (λ e. let c : t.Name ≡ t.Proto = sym k ∙ e in cc) in
        let no_access : sees t.Access ts ≡ false = not_see t.Access ts (λ e. let c : t.Name ≡ t.Access = sym k ∙ e in cc) in
        let no_declaration : (is_script type && sees t.Access ts) ≡ false = and_right (is_script type) (sees t.Access ts) no_access in
        let read : sees_word (codes "EXTERNPROTO") ts ≡ false = name_other (codes "EXTERNPROTO") h.name ts h.behind h.other h.named in
        rw (no_route, no_proto, read, no_declaration, only_name h.name ts h.behind h.named, only_given inner Inner known begins h.value h.behind rest h.spelled, h.lined, h.is) refl
    only_item x ts rest (inr (inl h)) = rw (see t.Route ts (IsRoute-kind h.route ts rest h.spelled), only_route h.route ts rest h.spelled, h.is) refl
    only_item x ts rest (inr (inr (inl h))) =
        let k : kind ts ≡ t.Proto = proto_begins h.proto ts rest h.spelled in
        let no_route : sees t.Route ts ≡ false = not_see t.Route ts (λ e. let c : t.Proto ≡ t.Route = sym k ∙ e in cc) in
        rw (no_route, see t.Proto ts k, known_proto.only h.proto ts rest h.spelled, h.is) refl
    only_item x ts rest (inr (inr (inr h))) =
        let k : kind ts ≡ t.Access = IsDeclaration-kind inner Inner known begins true h.declaration ts rest h.spelled in
        let no_route : sees t.Route ts ≡ false = not_see t.Route ts (λ e. let c : t.Access ≡ t.Route = sym k ∙ e in cc) in
        let no_proto : sees t.Proto ts ≡ false = not_see t.Proto ts (λ e. let c : t.Access ≡ t.Proto = sym k ∙ e in cc) in
        let read : sees_word (codes "EXTERNPROTO") ts ≡ false = word_not_ahead (codes "EXTERNPROTO") ts tt (access_apart h.declaration.access ts h.spelled.0 h.spelled.4) in
        rw (no_route, no_proto, read, named_script type h.scripted, see t.Access ts k, (known_declaration inner Inner known begins true).only h.declaration ts rest h.spelled, h.is) refl

    apart_item : (x : BodyItem) (ts rest : List Tok) → IsItem ◌≡◌ Inner Proto type x ts rest → kind ts ≡ t.CloseBrace → ⊥
    apart_item x ts rest (inl h) e = let c : t.Name ≡ t.CloseBrace = sym (IsName-kind h.name ts h.behind h.named) ∙ e in cc
    apart_item x ts rest (inr (inl h)) e = let c : t.Route ≡ t.CloseBrace = sym (IsRoute-kind h.route ts rest h.spelled) ∙ e in cc
    apart_item x ts rest (inr (inr (inl h))) e = let c : t.Proto ≡ t.CloseBrace = sym (proto_begins h.proto ts rest h.spelled) ∙ e in cc
    apart_item x ts rest (inr (inr (inr h))) e = let c : t.Access ≡ t.CloseBrace = sym (IsDeclaration-kind inner Inner known begins true h.declaration ts rest h.spelled) ∙ e in cc

    IsItem-shorter : (x : BodyItem) (ts rest : List Tok) → IsItem ◌≡◌ Inner Proto type x ts rest → length rest < length ts
    IsItem-shorter x ts rest (inl h) = omega (arith, IsName-shorter h.name ts h.behind h.named, IsGiven-shorter inner Inner known begins h.value h.behind rest h.spelled)
    IsItem-shorter x ts rest (inr (inl h)) = IsRoute-shorter h.route ts rest h.spelled
    IsItem-shorter x ts rest (inr (inr (inl h))) = known_proto.shorter h.proto ts rest h.spelled
    IsItem-shorter x ts rest (inr (inr (inr h))) = (known_declaration inner Inner known begins true).shorter h.declaration ts rest h.spelled

    known_item : Knows (one_item inner proto (is_script type)) (IsItem ◌≡◌ Inner Proto type)
    known_item = record { found = found_item; only = only_item; shorter = IsItem-shorter }

    pub known_body : Knows (body inner proto (is_script type)) (IsBody ◌≡◌ Inner Proto type)
    unfolding body
    known_body = record {
      found = λ is ts rest h. both (expect t.OpenBrace ts) _ (is, rest) h (λ u a e h. (a, found_expect t.OpenBrace ts a (λ e. cc) e, found_until t.CloseBrace (one_item inner proto (is_script type)) (IsItem ◌≡◌ Inner Proto type) known_item (λ e. cc) is a rest h));
      only = λ is ts rest h. rw (only_expect t.OpenBrace ts h.0 h.1) (only_until t.CloseBrace (one_item inner proto (is_script type)) (IsItem ◌≡◌ Inner Proto type) known_item (λ e. cc) apart_item is h.0 rest h.2);
      shorter = λ is ts rest h. omega (arith, Is-shorter t.OpenBrace ts h.0 h.1, AreUntil-shorter t.CloseBrace (one_item inner proto (is_script type)) (IsItem ◌≡◌ Inner Proto type) known_item (λ e. cc) is h.0 rest h.2);
    }

  -- ---- statements

  found_node : (s : Statement) (ts rest : List Tok) → node_statement inner ts ≡ Ok (s, rest) → IsStatement ◌≡◌ Inner Proto s ts rest
  unfolding node_statement begins_unread_statement
  found_node s ts rest h =
      let e = sees_word (codes "EXTERNPROTO") ts in
      let i = sees_word (codes "IMPORT") ts in
      let x = sees_word (codes "EXPORT") ts in
      let u = sees_word (codes "UNIT") ts in
      let g = not_refused (begins_unread_statement ts) (Unsupported (line ts)) (and_then (inner ts) (λ n a. Ok (stands.Node n, a))) (s, rest) h in
      let p = or_parts (e || i || x) u g.0 in
      let q = or_parts (e || i) x p.0 in
      let r = or_parts e i q.0 in
      both (inner ts) _ (s, rest) g.1 (λ n a e h.
      subst (λ (y : Statement × List Tok). IsStatement ◌≡◌ Inner Proto y.0 ts y.1) (ok_is (stands.Node n, a) (s, rest) h)
      (inl (record {
        node = n;
        is = refl;
        spelled = known.found n ts a e;
        no_externproto = not_word_ahead (codes "EXTERNPROTO") ts r.0;
        no_import = not_word_ahead (codes "IMPORT") ts r.1;
        no_export = not_word_ahead (codes "EXPORT") ts q.1;
        no_unit = not_word_ahead (codes "UNIT") ts p.1;
      })))

  found_statement : (s : Statement) (ts rest : List Tok) → one_statement inner proto ts ≡ Ok (s, rest) → IsStatement ◌≡◌ Inner Proto s ts rest
  unfolding one_statement
  found_statement s ts rest h =
      ⊎_elim (λ c. both (route ts) _ (s, rest) c.1 (λ r a e h.
      subst (λ (y : Statement × List Tok). IsStatement ◌≡◌ Inner Proto y.0 ts y.1) (ok_is (stands.Route r, a) (s, rest) h) (inr (inl (record { route = r; is = refl; spelled = found_route r ts a e })))))
      (λ c. ⊎_elim (λ d. both (proto ts) _ (s, rest) d.1 (λ p a e h.
      subst (λ (y : Statement × List Tok). IsStatement ◌≡◌ Inner Proto y.0 ts y.1) (ok_is (stands.Proto p, a) (s, rest) h) (inr (inr (record { proto = p; is = refl; spelled = known_proto.found p ts a e })))))
      (λ d. found_node s ts rest d.1)
      (chosen (sees t.Proto ts) (and_then (proto ts) (λ p a. Ok (stands.Proto p, a))) (node_statement inner ts) (Ok (s, rest)) c.1))
      (chosen (sees t.Route ts) (and_then (route ts) (λ r a. Ok (stands.Route r, a))) (cond (sees t.Proto ts) (and_then (proto ts) (λ p a. Ok (stands.Proto p, a))) (node_statement inner ts)) (Ok (s, rest)) h)

  readable : (ts : List Tok) → NotWordAhead (codes "EXTERNPROTO") ts → NotWordAhead (codes "IMPORT") ts → NotWordAhead (codes "EXPORT") ts → NotWordAhead (codes "UNIT") ts → begins_unread_statement ts ≡ false
  unfolding begins_unread_statement
  readable ts e i x u =
      or_from _ _ (or_from _ _ (or_from _ _ (word_not_ahead (codes "EXTERNPROTO") ts tt e) (word_not_ahead (codes "IMPORT") ts tt i)) (word_not_ahead (codes "EXPORT") ts tt x)) (word_not_ahead (codes "UNIT") ts tt u)

  only_statement : (s : Statement) (ts rest : List Tok) → IsStatement ◌≡◌ Inner Proto s ts rest → one_statement inner proto ts ≡ Ok (s, rest)
  unfolding one_statement node_statement
  only_statement s ts rest (inl h) =
      let b : BeginsNode (kind ts) = begins h.node ts rest h.spelled in
      let no_route : sees t.Route ts ≡ false = not_see t.Route ts (λ e. subst BeginsNode e b) in
      let no_proto : sees t.Proto ts ≡ false = not_see t.Proto ts (λ e. subst BeginsNode e b) in
      rw (no_route, no_proto, readable ts h.no_externproto h.no_import h.no_export h.no_unit, known.only h.node ts rest h.spelled, h.is) refl
  only_statement s ts rest (inr (inl h)) = rw (see t.Route ts (IsRoute-kind h.route ts rest h.spelled), only_route h.route ts rest h.spelled, h.is) refl
  only_statement s ts rest (inr (inr h)) =
      let k : kind ts ≡ t.Proto = proto_begins h.proto ts rest h.spelled in
      let no_route : sees t.Route ts ≡ false = not_see t.Route ts (λ e. let c : t.Proto ≡ t.Route = sym k ∙ e in cc) in
      rw (no_route, see t.Proto ts k, known_proto.only h.proto ts rest h.spelled, h.is) refl

  IsStatement-shorter : (s : Statement) (ts rest : List Tok) → IsStatement ◌≡◌ Inner Proto s ts rest → length rest < length ts
  IsStatement-shorter s ts rest (inl h) = known.shorter h.node ts rest h.spelled
  IsStatement-shorter s ts rest (inr (inl h)) = IsRoute-shorter h.route ts rest h.spelled
  IsStatement-shorter s ts rest (inr (inr h)) = known_proto.shorter h.proto ts rest h.spelled

  pub known_statement : Knows (one_statement inner proto) (IsStatement ◌≡◌ Inner Proto)
  known_statement = record { found = found_statement; only = only_statement; shorter = IsStatement-shorter }

  apart_statement : (s : Statement) (ts rest : List Tok) → IsStatement ◌≡◌ Inner Proto s ts rest → kind ts ≡ t.CloseBrace → ⊥
  apart_statement s ts rest (inl h) e = subst BeginsNode e (begins h.node ts rest h.spelled)
  apart_statement s ts rest (inr (inl h)) e = let c : t.Route ≡ t.CloseBrace = sym (IsRoute-kind h.route ts rest h.spelled) ∙ e in cc
  apart_statement s ts rest (inr (inr h)) e = let c : t.Proto ≡ t.CloseBrace = sym (proto_begins h.proto ts rest h.spelled) ∙ e in cc

  pub known_proto_body : Knows (proto_body inner proto) (IsProtoBody ◌≡◌ Inner Proto)
  unfolding proto_body
  known_proto_body = record {
    found = λ ss ts rest h. both (expect t.OpenBrace ts) _ (ss, rest) h (λ u a e h. (a, found_expect t.OpenBrace ts a (λ e. cc) e, found_until t.CloseBrace (one_statement inner proto) (IsStatement ◌≡◌ Inner Proto) known_statement (λ e. cc) ss a rest h));
    only = λ ss ts rest h. rw (only_expect t.OpenBrace ts h.0 h.1) (only_until t.CloseBrace (one_statement inner proto) (IsStatement ◌≡◌ Inner Proto) known_statement (λ e. cc) apart_statement ss h.0 rest h.2);
    shorter = λ ss ts rest h. omega (arith, Is-shorter t.OpenBrace ts h.0 h.1, AreUntil-shorter t.CloseBrace (one_statement inner proto) (IsStatement ◌≡◌ Inner Proto) known_statement (λ e. cc) ss h.0 rest h.2);
  }
