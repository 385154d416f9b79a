-- The tokens that a text is cut into are those that it has.
use Rattle.std.proofs.Common.{◌≡◌, ℕ, List, Result, Ok, Err, refl, sym, ap, ◌∙◌, inl, inr}
use Rattle.std.specs.Prelude.{IfOk, MatchResult}
use Rattle.x3d_lists.specs.Answers.{Gives}
use Rattle.classic_lex.specs.declared.fault.LexFault.{LexFault}
use Rattle.classic_lex.specs.declared.versions.Version.{Version}
use Rattle.classic_lex.specs.Header.{version_of, without_mark}
use Rattle.classic_lex.specs.Lexed.{Tok, Toks, tokens_at, behind_head, lexed, memory}
use Rattle.classic_lex.specs.Tokens.{HasTokens, text_of}
use Rattle.classic_lex.proofs.CutLemmas.{IsMade-tokens_at, tokens_at-text_of}
use Rattle.classic_lex.proofs.HeadLemmas.{IsHeaded-version_of, version_of-IsHeaded, without_mark-IsHeaded}

by_version : (text : List ℕ) (r : Result Version LexFault) (tokens : List Tok) → version_of text ≡ r → behind_head r text ≡ Ok tokens → HasTokens text tokens
by_version text (Ok v) tokens e h =
    let made = IsMade-tokens_at 1 (without_mark text) tokens h in
    record { version = v; body = without_mark text; headed = IsHeaded-version_of text v e; pieces = made.pieces; spelled = made.spelled; cut = made.cut; are = made.are }
by_version text (Err fault) tokens e h = cc

pub HasTokens-lexed : (text : List ℕ) (tokens : List Tok) → lexed text ≡ Ok tokens → HasTokens text tokens
unfolding lexed
HasTokens-lexed text tokens h = by_version text (version_of text) tokens refl h

pub lexed-HasTokens : (text : List ℕ) (tokens : List Tok) → HasTokens text tokens → lexed text ≡ Ok tokens
unfolding lexed
lexed-HasTokens text tokens h =
    let b : without_mark text ≡ text_of h.pieces = without_mark-IsHeaded text h.version h.body h.headed ∙ sym h.spelled in
    ap (λ (r : Result Version LexFault). behind_head r text) (version_of-IsHeaded text h.version h.body h.headed)
    ∙ ap (tokens_at 0 1) b
    ∙ tokens_at-text_of h.pieces 1 h.cut
    ∙ ap Ok h.are

-- a text has one list of tokens
pub HasTokens-one : (text : List ℕ) (some others : List Tok) → HasTokens text some → HasTokens text others → some ≡ others
HasTokens-one text some others h k =
    let e : ◌≡◌ {A = Toks} (Ok some) (Ok others) = sym (lexed-HasTokens text some h) ∙ lexed-HasTokens text others k in
    cc

-- ---- of an answer

module _ {X : Type 0} (view : X → List Tok) (text : List ℕ) where
  pub HasTokens-Gives : (result : Result X LexFault) → Gives memory view result (lexed text) → IfOk result (λ v. HasTokens text (view v))
  HasTokens-Gives (Ok v) h = HasTokens-lexed text (view v) h
  HasTokens-Gives (Err e) h = tt

  pub Gives-HasTokens : (result : Result X LexFault) → Gives memory view result (lexed text) → (tokens : List Tok) → HasTokens text tokens → MatchResult result (λ v. view v ≡ tokens) (λ e. e ≡ memory)
  Gives-HasTokens (Ok v) h tokens has =
      let k = sym h ∙ lexed-HasTokens text tokens has in
      cc
  Gives-HasTokens (Err e) (inl h) tokens has = h
  Gives-HasTokens (Err e) (inr h) tokens has =
      let k : ◌≡◌ {A = Toks} (Err e) (Ok tokens) = sym h ∙ lexed-HasTokens text tokens has in
      cc
