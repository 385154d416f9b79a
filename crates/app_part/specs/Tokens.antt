-- The tokens of a text, in their places.
use Rattle.std.specs.Prelude.{◌≡◌, ℕ, List, Ok, Err, map}
use Rattle.classic_lex.specs.Lexed.{Tok, lexed, seen}
use Rattle.classic_lex.specs.Header.{mark_len}
use Rattle.classic_lex.specs.Spans.{AreSpans}
use Rattle.classic_lex.specs.declared.fault.LexFault.{LexFault}
use Rattle.classic_lex.specs.declared.token.Token.{Token}
use Rattle.classic_text.specs.Reading.{of_tokens}
use Rattle.classic_lenient.specs.Pieces.{bytes_at}
use Rattle.app_jobs.specs.Faults.{of_read}
use Rattle.app_jobs.specs.declared.fault.JobFault.{JobFault}

-- the tokens of a text, in their places
pub record AreTokens (text : List ℕ) (tokens : List Token) : Type 0 where
  pub lexed : lexed text ≡ Ok (map (seen text) tokens)
  pub spans : AreSpans text (mark_len text) tokens

abbrev pub placed : List ℕ → Token → Tok
placed text token =
    record {
      kind = token.kind;
      text = bytes_at text token.start token.end;
      line = token.line;
    }

-- a text has no tokens, for this reason
abbrev pub HasNoTokens : List ℕ → JobFault → Type 0
HasNoTokens text fault =
    (lex : LexFault) × (lexed text ≡ Err lex) × (fault ≡ of_read (of_tokens lex))
