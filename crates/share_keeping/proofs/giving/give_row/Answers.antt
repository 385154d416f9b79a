use Rattle.std.proofs.Common.{rules, ◌≡◌, ◌<◌, ◌∙◌, ℕ, arith, refl, ap, subst, true}
use Rattle.std.specs.Prelude.{Err}
use Rattle.share_turns.specs.Exchanges.{AreSent}
use Rattle.share_keeping.specs.Giving.{texts_from}
use Rattle.share_keeping.specs.Joiners.{in_a_row}
use Rattle.share_keeping.specs.Shots.{pieces_in}
use Rattle.share_keeping.proofs.Rows.{row_lost, row_more, row_none}
use Rattle.share_keeping.proofs.giving.give_row.Goals as goal

pub loop-more-init : goal.loop-more-init
loop-more-init g c = (
  row_none c.args.mark.now c.args.shot.now c.args.joiner.now.next c.args.joiner.now.peer (g.P.Port.told c.args.port.now),
  refl,
)

pub loop-more-preserved : goal.loop-more-preserved
loop-more-preserved g c =
    let i = c.loop-more.invariant in (
      row_more c.args.mark.now c.args.shot.now c.args.joiner.now.next c.loop-more.more c.args.joiner.now.peer (g.P.Port.told c.args.port.now) (g.P.Port.told c.loop-more.port) (g.P.Port.told c.give_piece.new.port)
          c.bytes.result.now c.count-count.result c.piece_after-number.result c.bytes.ensures c.count-count.ensures c.piece_after-number.ensures i.0 c.in_ok-give_piece.ensures.sent,
      c.give_piece.ensures.time ∙ i.1,
    )

pub returns-in_err-give_piece-clause-sent : goal.returns-in_err-give_piece-clause-sent
returns-in_err-give_piece-clause-sent g c =
    let i = c.loop-more.invariant in
    let failed : c.from_residual.result ≡ Err c.in_err-give_piece.field-0.0 = search rules in
    let all : c.in_a_row-more-end.result ≡ in_a_row (pieces_in c.args.shot.now.bytes) = c.in_a_row-more-end.ensures ∙ ap (λ (n : ℕ). in_a_row n) c.count-count.ensures in
    let within : c.loop-more.more < in_a_row (pieces_in c.args.shot.now.bytes) = omega (arith, all, c.loop-more-test.true) in
    rw failed (row_lost c.args.mark.now c.args.shot.now c.args.joiner.now.next c.loop-more.more (in_a_row (pieces_in c.args.shot.now.bytes)) c.args.joiner.now.peer
    (g.P.Port.told c.args.port.now) (g.P.Port.told c.loop-more.port) (g.P.Port.told c.give_piece.new.port)
    c.bytes.result.now c.count-count.result c.piece_after-number.result within c.bytes.ensures c.count-count.ensures c.piece_after-number.ensures i.0 c.in_err-give_piece.ensures.sent)

pub returns-in_err-give_piece-clause-time : goal.returns-in_err-give_piece-clause-time
returns-in_err-give_piece-clause-time g c = c.give_piece.ensures.time ∙ c.loop-more.invariant.1

pub returns-clause-sent : goal.returns-clause-sent
returns-clause-sent g c =
    let all : c.in_a_row-more-end.result ≡ in_a_row (pieces_in c.args.shot.now.bytes) = c.in_a_row-more-end.ensures ∙ ap (λ (n : ℕ). in_a_row n) c.count-count.ensures in
    let done : c.loop-more.more ≡ in_a_row (pieces_in c.args.shot.now.bytes) = omega (arith, all, c.loop-more-test.false) in
    subst (λ (n : ℕ). AreSent true c.args.joiner.now.peer (g.P.Port.told c.args.port.now) (g.P.Port.told c.loop-more.port) (texts_from c.args.mark.now c.args.shot.now c.args.joiner.now.next n)) done c.loop-more.invariant.0

pub returns-clause-time : goal.returns-clause-time
returns-clause-time g c = c.loop-more.invariant.1
