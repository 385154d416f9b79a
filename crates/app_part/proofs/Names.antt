-- The first of the names in a file, line by line.
use Rattle.std.proofs.Common.{◌≡◌, ◌⊎◌, ℕ, ◌<◌, List, [], ◌∷◌, length, Bool, true, false, Option, Some, None, Err, inl, inr, sym, ap, ◌∙◌, if◌then◌else◌}
use Rattle.std.specs.Str.Lines.{lines}
use Rattle.classic_lex.specs.Lexed.{Tok, lexed, memory}
use Rattle.classic_lex.specs.declared.fault.LexFault.{LexFault}
use Rattle.classic_text.specs.Reading.{of_tokens}
use Rattle.classic_text.specs.declared.fault.ReadFault.{ReadFault}
use Rattle.app_jobs.specs.Faults.{of_read}
use Rattle.app_jobs.specs.declared.fault.JobFault.{JobFault}
use Rattle.app_jobs.specs.declared.fault.JobFault.TheVariants.{Memory}
use Rattle.share_rules.specs.Lines.{first_line, behind_line}
use Rattle.app_jobs.proofs.LineLemmas.{cut}
use Rattle.app_part.specs.Kept.{is_lost, first_lost}
use Rattle.app_part.specs.Tokens.{HasNoTokens}

abbrev choose : List Tok → Bool → List ℕ → List (List ℕ) → Option (List ℕ)
choose toks lost name names = if lost then Some name else first_lost toks names

-- the names of a text that isn't empty begin with its first line
first_of : (toks : List Tok) (rest name behind : List ℕ) (lost : Bool) → 0 < length rest → name ≡ first_line rest → behind ≡ behind_line rest
    → lost ≡ is_lost toks name → first_lost toks (lines rest) ≡ choose toks lost name (lines behind)
first_of toks rest name behind lost some is after told =
    ap (first_lost toks) (cut rest some).lines
    ∙ ap (λ n. choose toks (is_lost toks n) n (lines (behind_line rest))) (sym is)
    ∙ ap (λ b. choose toks (is_lost toks name) name (lines b)) (sym after)
    ∙ ap (λ b. choose toks b name (lines behind)) (sym told)

pub passed : (toks : List Tok) (all : Option (List ℕ)) (rest name behind : List ℕ) (lost : Bool) → all ≡ first_lost toks (lines rest)
    → 0 < length rest → name ≡ first_line rest → behind ≡ behind_line rest → lost ≡ is_lost toks name → lost ≡ false
    → all ≡ first_lost toks (lines behind)
passed toks all rest name behind lost before some is after told off =
    before ∙ first_of toks rest name behind lost some is after told
    ∙ ap (λ b. choose toks b name (lines behind)) off

pub found : (toks : List Tok) (all : Option (List ℕ)) (rest name behind : List ℕ) (lost : Bool) → all ≡ first_lost toks (lines rest)
    → 0 < length rest → name ≡ first_line rest → behind ≡ behind_line rest → lost ≡ is_lost toks name → lost ≡ true
    → Some name ≡ all
found toks all rest name behind lost before some is after told on =
    sym (before ∙ first_of toks rest name behind lost some is after told
    ∙ ap (λ b. choose toks b name (lines behind)) on)

pub none_left : (toks : List Tok) (all : Option (List ℕ)) (rest : List ℕ) → all ≡ first_lost toks (lines rest) → length rest ≡ 0 → None ≡ all
none_left toks all [] before none = sym before
none_left toks all (b ∷ bs) before none = absurd cc

-- a text without tokens
pub no_tokens : (text : List ℕ) (e : LexFault) (r : ReadFault) (f : JobFault) → (e ≡ memory) ⊎ (lexed text ≡ Err e)
    → r ≡ of_tokens e → f ≡ of_read r → (f ≡ Memory) ⊎ HasNoTokens text f
no_tokens text e r f (inl none) read is = inl (is ∙ ap of_read read ∙ ap (λ x. of_read (of_tokens x)) none)
no_tokens text e r f (inr told) read is = inr (e, told, is ∙ ap of_read read)
