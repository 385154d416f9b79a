use Rattle.std.proofs.Common.{◌≡◌, ◌≤◌, ◌+◌, length, map, drop}
use Rattle.std.specs.Prelude.{slice_range}
use Rattle.classic_lex.specs.Lexed.{with_front, seen, tokens_at}
use Rattle.classic_lex.specs.Spans.{AreSpans}
use Rattle.classic_lex.proofs.SpanLemmas.{IsOpenGap, last_end}
use Rattle.classic_lex.proofs.lexing.cut.Given as goal

abbrev pub invariant-loop-rest : goal.invariant-loop-rest
invariant-loop-rest l = record {
  within : l.at + length l.rest ≡ length l.text;
  here : l.rest ≡ drop l.at l.text;
  lines : l.line ≤ l.at + 1;
  spans : AreSpans l.text l.start l.tokens.items;
  before : last_end l.start l.tokens.items ≤ l.at;
  gap : IsOpenGap (slice_range l.text (last_end l.start l.tokens.items) l.at) l.rest;
  told : with_front (map (seen l.text) l.tokens.items) (tokens_at 0 l.line l.rest) ≡ tokens_at 0 1 (drop l.start l.text);
}

abbrev pub decreases-loop-rest : goal.decreases-loop-rest
decreases-loop-rest l = length l.rest
