use Rattle.std.proofs.Common.{rules, arith, ◌≡◌, ◌==◌, ◌<◌, ◌+◌, ◌-◌, length, take, drop, ◌∙◌, ap, inr}
use Rattle.std.specs.Prelude.{slice_range}
use Rattle.std.proofs.lemmas.List.{drop-drop, take_rest, length-drop}
use Rattle.std.proofs.lemmas.List.Sums.{count_by-le-length}
use Rattle.classic_lex.specs.Lexed.{tokens_at}
use Rattle.classic_lex.proofs.Cutting.{none_before, on_blank, on_piece, on_bad, at_end}
use Rattle.classic_lex.proofs.SpanLemmas.{IsOpenGap-here, IsOpenGap-blank, is_gap-token, AreSpans-push, last_end, last_end-push}
use Rattle.classic_lex.proofs.lexing.cut.Goals as goal
use Rattle.classic_lex.proofs.lexing.cut.Goals.{in-Blank, in-Piece+in_ok-push-in-Piece}

pub loop-rest-init : goal.loop-rest-init
loop-rest-init c =
    let text = c.args.text.now in
    let begin = c.args.start in
    let whole : take (length c.args.text.now - c.args.start) (drop c.args.start c.args.text.now) ≡ drop c.args.start c.args.text.now = take_rest c.args.text.now c.args.start in
    record {
      within = rw whole (omega (arith, length-drop begin text));
      here = whole;
      lines = omega arith;
      spans = rw c.new-tokens.ensures.items c.requires.room;
      before = rw c.new-tokens.ensures.items (omega arith);
      gap = rw c.new-tokens.ensures.items (IsOpenGap-here text _ begin);
      told = rw (c.new-tokens.ensures.items, whole) (none_before (tokens_at 0 1 (drop begin text)));
    }

pub returns-in-Bad-clause-exact : goal.returns-in-Bad-clause-exact
returns-in-Bad-clause-exact c =
    let some : 0 < length c.loop-rest.rest.now = search rules in
    inr (on_bad c.loop-rest.tokens.items c.args.text.now _ c.loop-rest.rest.now c.loop-rest.at c.loop-rest.line some c.loop-rest.invariant.here c.loop-rest.invariant.told c.in-Bad.kind c.in-Bad.ensures.value)

pub loop-rest-preserved : goal.loop-rest-preserved
loop-rest-preserved c =
    let text = c.args.text.now in
    let rest = c.loop-rest.rest.now in
    let at = c.loop-rest.at in
    let items = c.loop-rest.tokens.items in
    let begin = c.args.start in
    let some : 0 < length c.loop-rest.rest.now = search rules in
    record {
      within = omega arith;
      here = c.split_at.ensures.back ∙ ap (drop c.match-front.len) c.loop-rest.invariant.here ∙ drop-drop c.match-front.len at text;
      lines = omega (arith, count_by-le-length (λ b. b == 10) c.split_at.result.0.now);
      spans = elim c.match-front.branch [
        | in-Blank w ↦ rw w.tokens-is c.loop-rest.invariant.spans
        | in-Piece+in_ok-push-in-Piece w ↦ rw (w.tokens-is, w.in_ok-push-in-Piece.ensures.items, w.end_of.ensures)
            (AreSpans-push text items begin _ c.loop-rest.invariant.spans c.loop-rest.invariant.before (omega (arith, w.in-Piece.ensures.within.0)) (omega (arith, w.in-Piece.ensures.within.1))
            (is_gap-token (slice_range text (last_end begin items) at) rest w.in-Piece.kind w.in-Piece.n w.in-Piece.ensures.value some c.loop-rest.invariant.gap))
      ];
      before = elim c.match-front.branch [
        | in-Blank w ↦ rw w.tokens-is (omega (arith, c.loop-rest.invariant.before))
        | in-Piece+in_ok-push-in-Piece w ↦ rw (w.tokens-is, w.len-is, w.in_ok-push-in-Piece.ensures.items, w.end_of.ensures) (omega (arith, last_end-push items begin (record { kind = w.in-Piece.kind; start = at; end = at + w.in-Piece.n; line = c.loop-rest.line })))
      ];
      gap = rw c.split_at.ensures.back (elim c.match-front.branch [
        | in-Blank w ↦ rw (w.tokens-is, w.len-is) (IsOpenGap-blank text rest (last_end begin items) at w.in-Blank.n c.loop-rest.invariant.before c.loop-rest.invariant.here w.in-Blank.ensures.value some c.loop-rest.invariant.gap)
        | in-Piece+in_ok-push-in-Piece w ↦ rw (w.tokens-is, w.len-is, w.in_ok-push-in-Piece.ensures.items, w.end_of.ensures, last_end-push items begin) (IsOpenGap-here text (drop w.in-Piece.n rest) (at + w.in-Piece.n))
      ]);
      told = rw (c.line_feeds-line.ensures.value, c.split_at.ensures.front, c.split_at.ensures.back) (elim c.match-front.branch [
        | in-Blank w ↦ rw (w.tokens-is, w.len-is) (on_blank items text _ rest at c.loop-rest.line some c.loop-rest.invariant.here c.loop-rest.invariant.told w.in-Blank.n w.in-Blank.ensures.value w.in-Blank.ensures.within)
        | in-Piece+in_ok-push-in-Piece w ↦ rw (w.tokens-is, w.len-is, w.in_ok-push-in-Piece.ensures.items, w.end_of.ensures) (on_piece items text _ rest at c.loop-rest.line some c.loop-rest.invariant.here c.loop-rest.invariant.told w.in-Piece.kind w.in-Piece.n w.in-Piece.ensures.value w.in-Piece.ensures.within)
      ]);
    }

pub returns-clause-exact : goal.returns-clause-exact
returns-clause-exact c =
    let none : length c.loop-rest.rest.now ≡ 0 = search rules in
    at_end _ _ c.loop-rest.rest.now c.loop-rest.line none c.loop-rest.invariant.told
