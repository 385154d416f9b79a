-- Statements and documents: what is read is spelled so, and what is spelled so is read.
use Rattle.std.proofs.Common.{◌≡◌, ℕ, zero, suc, ◌≤◌, List, [], ◌∷◌, ◌++◌, length, Result, Ok, Err, refl, sym, ap, ◌∙◌, subst, arith, append_assoc}
use Rattle.std.specs.Prelude.{IfOk, codes}
use Rattle.std.proofs.lemmas.List.{append-nil}
use Rattle.x3d_lists.specs.Answers.{Gives}
use Rattle.classic_lex.specs.declared.fault.LexFault.{LexFault}
use Rattle.classic_lex.specs.declared.versions.Version.{Version}
use Rattle.classic_lex.specs.Header.{version_of, without_mark}
use Rattle.classic_lex.specs.Lexed.{Tok, Toks, lexed, last_line}
use Rattle.classic_lex.specs.Tokens.{HasTokens, HasVersion}
use Rattle.classic_lex.proofs.HeadLemmas.{IsHeaded-version_of, version_of-IsHeaded}
use Rattle.classic_lex.proofs.TokenLemmas.{HasTokens-lexed, lexed-HasTokens}
use Rattle.classic_tree.specs.declared.tree.Statement.{Statement}
use Rattle.classic_tree.specs.declared.tree.Document.{Document}
use Rattle.classic_text.specs.declared.fault.ReadFault.{ReadFault}
use Rattle.classic_text.specs.Input.{Parsed, at_end}
use Rattle.classic_text.specs.Grammar.{node_at, proto_at, top_statement, statements_from, statements}
use Rattle.classic_text.specs.Head.{profile, component, meta, each, whole}
use Rattle.classic_text.specs.Spells.{max_depth, IsNode, IsProto, IsTopStatement, AreStatements, IsComponent, IsMeta, IsSpelling, Spells}
use Rattle.classic_text.specs.Reading.{memory, document_of, by_tokens, by_version, read_text}
use Rattle.classic_text.proofs.Steps.{ok_is, both}
use Rattle.classic_text.proofs.Heads.{found_profile, only_profile, known_component, known_meta, found_each, only_each, component_begins, meta_begins}
use Rattle.classic_text.proofs.Values.{Knows}
use Rattle.classic_text.proofs.Items.{known_statement}
use Rattle.classic_text.proofs.Nodes.{known_node, node_begins, known_proto, proto_begins}

-- ---- statements

known_top : Knows top_statement (IsTopStatement ◌≡◌)
known_top = known_statement (node_at max_depth) (IsNode ◌≡◌ max_depth) (known_node max_depth) (node_begins max_depth) (proto_at max_depth) (IsProto ◌≡◌ max_depth) (known_proto max_depth) (proto_begins max_depth)

found_from : (n : ℕ) (found ss : List Statement) (ts rest : List Tok) → length ts ≤ n → statements_from n found ts ≡ Ok (ss, rest) → (more : List Statement) × (ss ≡ found ++ more) × AreStatements ◌≡◌ more ts
unfolding statements_from at_end
found_from zero found ss [] rest fits h = ([], ap (λ p. p.0) (sym (ok_is (found, []) (ss, rest) h)) ∙ sym (append-nil found), refl)
found_from zero found ss (x ∷ ts) rest fits h = absurd (omega arith)
found_from (suc n) found ss [] rest fits h = ([], ap (λ p. p.0) (sym (ok_is (found, []) (ss, rest) h)) ∙ sym (append-nil found), refl)
found_from (suc n) found ss (x ∷ ts) rest fits h =
    both (top_statement (x ∷ ts)) (λ s. statements_from n (found ++ s ∷ [])) (ss, rest) h (λ s a e r.
    let is = known_top.found s (x ∷ ts) a e in
    let m = found_from n (found ++ s ∷ []) ss a rest (omega (arith, known_top.shorter s (x ∷ ts) a is)) r in
    (s ∷ m.0, m.1 ∙ append_assoc found (s ∷ []) m.0, (a, is, m.2)))

only_from : (n : ℕ) (found more : List Statement) (ts : List Tok) → length ts ≤ n → AreStatements ◌≡◌ more ts → statements_from n found ts ≡ Ok (found ++ more, [])
unfolding statements_from at_end
only_from zero found [] ts fits h = rw (append-nil found, h) refl
only_from (suc n) found [] ts fits h = rw (append-nil found, h) refl
only_from n found (s ∷ more) [] fits h = absurd (omega (arith, known_top.shorter s [] h.0 h.1))
only_from zero found (s ∷ more) (x ∷ ts) fits h = absurd (omega arith)
only_from (suc n) found (s ∷ more) (x ∷ ts) fits h =
    rw (known_top.only s (x ∷ ts) h.0 h.1)
    (only_from n (found ++ s ∷ []) more h.0 (omega (arith, known_top.shorter s (x ∷ ts) h.0 h.1)) h.2 ∙ ap (λ (ss : List Statement). Ok (ss, [])) (append_assoc found (s ∷ []) more))

found_statements : (ss : List Statement) (ts rest : List Tok) → statements ts ≡ Ok (ss, rest) → AreStatements ◌≡◌ ss ts
unfolding statements
found_statements ss ts rest h = let r = found_from (length ts) [] ss ts rest (omega arith) h in rw r.1 r.2

only_statements : (ss : List Statement) (ts : List Tok) → AreStatements ◌≡◌ ss ts → statements ts ≡ Ok (ss, [])
unfolding statements
only_statements ss ts h = only_from (length ts) [] ss ts (omega arith) h

-- ---- documents

found_whole : (version : Version) (d : Document) (ts rest : List Tok) → whole version ts ≡ Ok (d, rest) → (d.version ≡ version) × IsSpelling ◌≡◌ ts d
unfolding whole
found_whole version d ts rest h =
    both (profile ts) _ (d, rest) h (λ p a e h. both (each (codes "COMPONENT") component a) _ (d, rest) h (λ cs b f h. both (each (codes "META") meta b) _ (d, rest) h (λ ms c g h. both (statements c) _ (d, rest) h (λ ss r i h.
    subst (λ (y : Document × List Tok). (y.0.version ≡ version) × IsSpelling ◌≡◌ ts y.0) (ok_is (record { version = version; profile = p; components = cs; metas = ms; statements = ss }, r) (d, rest) h) (
      refl,
      record {
        behind_profile = a;
        behind_components = b;
        behind_metas = c;
        profile = found_profile p ts a e;
        components = found_each (codes "COMPONENT") component IsComponent known_component component_begins tt cs a b f;
        metas = found_each (codes "META") meta IsMeta known_meta meta_begins tt ms b c g;
        statements = found_statements ss c r i;
      },
    )))))

only_whole : (d : Document) (ts : List Tok) → IsSpelling ◌≡◌ ts d → whole d.version ts ≡ Ok (d, [])
unfolding whole
only_whole d ts h =
    rw (
      only_profile d.profile ts h.behind_profile h.profile,
      only_each (codes "COMPONENT") component IsComponent known_component component_begins tt d.components h.behind_profile h.behind_components h.components,
      only_each (codes "META") meta IsMeta known_meta meta_begins tt d.metas h.behind_components h.behind_metas h.metas,
      only_statements d.statements h.behind_metas h.statements,
    )
    refl

heads : (text : List ℕ) (version : Version) → version_of text ≡ Ok version → HasVersion text version
heads text version e = record { body = without_mark text; headed = IsHeaded-version_of text version e }

module _ (text : List ℕ) where
  by_outcome : (version : Version) (tokens : List Tok) (o : Parsed Document) (d : Document) → HasVersion text version → HasTokens text tokens → whole version tokens ≡ o → document_of (last_line text) o ≡ Ok d → Spells text d
  by_outcome version tokens (Ok p) d v has e h =
      let is : p.0 ≡ d = cc in
      let g = found_whole version p.0 tokens p.1 e in
      subst (λ (x : Document). Spells text x) is (record { version = subst (HasVersion text) (sym g.0) v; tokens = tokens; has = has; spelling = g.1 })
  by_outcome version tokens (Err e) d v has w h = cc

  by_lexing : (version : Version) (r : Toks) (d : Document) → HasVersion text version → lexed text ≡ r → by_tokens (last_line text) version r ≡ Ok d → Spells text d
  by_lexing version (Ok tokens) d v e h = by_outcome version tokens (whole version tokens) d v (HasTokens-lexed text tokens e) refl h
  by_lexing version (Err fault) d v e h = cc

  by_head : (r : Result Version LexFault) (d : Document) → version_of text ≡ r → by_version text r ≡ Ok d → Spells text d
  by_head (Ok version) d e h = by_lexing version (lexed text) d (heads text version e) refl h
  by_head (Err fault) d e h = cc

  -- what reading gives is spelled
  pub is_spelled : (d : Document) → read_text text ≡ Ok d → Spells text d
  unfolding read_text
  is_spelled d h = by_head (version_of text) d refl h

  pub found_document : (r : Result Document ReadFault) → Gives memory (λ d. d) r (read_text text) → IfOk r (λ d. Spells text d)
  found_document (Ok d) h = is_spelled d h
  found_document (Err e) h = tt

-- what is spelled, reading gives
pub is_read : (text : List ℕ) (d : Document) → Spells text d → read_text text ≡ Ok d
unfolding read_text
is_read text d h =
    rw (version_of-IsHeaded text d.version h.version.body h.version.headed, lexed-HasTokens text h.tokens h.has, only_whole d h.tokens h.spelling) refl

-- a text spells one document at most
pub one_document : (text : List ℕ) (c d : Document) → Spells text c → Spells text d → c ≡ d
one_document text c d h k = let e : ◌≡◌ {A = Result Document ReadFault} (Ok c) (Ok d) = sym (is_read text c h) ∙ is_read text d k in cc
