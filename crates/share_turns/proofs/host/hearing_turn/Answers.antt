use Rattle.std.proofs.Common.{rules, ◌≡◌, [], ◌∷◌, take, refl, inl, inr, ◌∙◌, arith}
use Rattle.std.specs.Prelude.{Ok, Err}
use Rattle.share_turns.specs.declared.traffic.Datagram.{Datagram}
use Rattle.share_turns.specs.declared.traffic.Traffic.TheVariants.{Nothing}
use Rattle.share_turns.specs.declared.fault.TurnFault.TheVariants.{Memory, Port}
use Rattle.share_turns.proofs.Sending.{grows_none}
use Rattle.share_turns.proofs.Turning.{turn_cut, turn_end, turn_unclocked, turned_begun, turned_more}
use Rattle.share_turns.proofs.host.hearing_turn.Goals as goal

pub loop-datagram-init : goal.loop-datagram-init
loop-datagram-init g c = (turned_begun c.args.host.now.mark c.args.clock (g.P.Port.told c.args.port.now) c.args.host.now.part c.number_clock.new.host.part c.args.heard.now c.in_ok-number_clock.ensures.step, c.in_ok-number_clock.ensures.mark, refl, refl)

pub returns-in_err-number_clock-clause-turn : goal.returns-in_err-number_clock-clause-turn
returns-in_err-number_clock-clause-turn g c =
    let failed : c.from_residual.result ≡ Err Memory = search rules in
    rw failed (turn_unclocked c.args.host.now.mark c.args.clock (g.P.Port.told c.args.port.now) c.args.host.now.part c.number_clock.new.host.part c.args.heard.now c.in_err-number_clock.ensures.step)

pub returns-in_err-from-clause-turn : goal.returns-in_err-from-clause-turn
returns-in_err-from-clause-turn g c =
    let failed : c.from_residual-in_err-from.result ≡ Err Port = search rules in
    rw failed (turn_end (Err Port) c.args.host.now.mark c.args.clock (g.P.Port.told c.args.port.now) (g.P.Port.told c.loop-datagram.port) (g.P.Port.told c.receive.new.self)
    c.args.host.now.part c.loop-datagram.host.part c.args.heard.now c.loop-datagram.heard c.loop-datagram._datagram [] c.loop-datagram.invariant.0 (0, refl) (omega (arith, c.loop-datagram-test.true)) refl c.in_err-from.ensures.got)

pub returns-in_err-answer-in-Some-clause-turn : goal.returns-in_err-answer-in-Some-clause-turn
returns-in_err-answer-in-Some-clause-turn g c =
    let failed : c.from_residual-in_err-answer-in-Some.result ≡ Err c.in_err-answer-in-Some.field-0.0 = search rules in
    let came : Datagram = record { peer = c.in-Some.from; bytes = take c.in-Some.count c.receive.new.into } in
    let got = rw c.in-Some.is at c.in_ok-from.ensures.got in
    let hearing = rw (c.mark-mark.ensures.value, c.viewers-viewers.ensures, c.decode-read.ensures.exact) at c.hear.ensures in
    let exchange = rw c.loop-datagram.invariant.1 at (c.in_err-answer-in-Some.ensures.exchange came.bytes c.decode-read.ensures.exact) in
    rw failed (turn_cut c.in_err-answer-in-Some.field-0.0 c.args.host.now.mark c.args.clock (g.P.Port.told c.args.port.now) (g.P.Port.told c.loop-datagram.port) (g.P.Port.told c.receive.new.self) (g.P.Port.told c.answer.new.port)
    came c.args.host.now.part c.loop-datagram.host.part c.answer.new.host.part c.args.heard.now c.loop-datagram.heard c.hear.new.heard c.loop-datagram._datagram c.loop-datagram.invariant.0 (omega (arith, c.loop-datagram-test.true)) got.1 hearing exchange)

pub returns-in-None-clause-turn : goal.returns-in-None-clause-turn
returns-in-None-clause-turn g c =
    let got = rw c.in-None.is at c.in_ok-from.ensures.got in
    turn_end (Ok tt) c.args.host.now.mark c.args.clock (g.P.Port.told c.args.port.now) (g.P.Port.told c.loop-datagram.port) (g.P.Port.told c.receive.new.self)
    c.args.host.now.part c.loop-datagram.host.part c.args.heard.now c.loop-datagram.heard c.loop-datagram._datagram (Nothing ∷ []) c.loop-datagram.invariant.0 (0, refl) (omega (arith, c.loop-datagram-test.true)) (inl refl) got

pub returns-clause-turn : goal.returns-clause-turn
returns-clause-turn g c =
    let told = g.P.Port.told c.loop-datagram.port in
    let count : c.loop-datagram._datagram ≡ 64 = omega (arith, c.loop-datagram-test.false) in
    turn_end (Ok tt) c.args.host.now.mark c.args.clock (g.P.Port.told c.args.port.now) told told
    c.args.host.now.part c.loop-datagram.host.part c.args.heard.now c.loop-datagram.heard c.loop-datagram._datagram [] c.loop-datagram.invariant.0 (0, refl) (omega (arith, count)) (inr (refl, count)) (grows_none told)

pub loop-datagram-preserved : goal.loop-datagram-preserved
loop-datagram-preserved g c =
    let came : Datagram = record { peer = c.in-Some.from; bytes = take c.in-Some.count c.receive.new.into } in
    let got = rw c.in-Some.is at c.in_ok-from.ensures.got in
    let hearing = rw (c.mark-mark.ensures.value, c.viewers-viewers.ensures, c.decode-read.ensures.exact) at c.hear.ensures in
    let exchange = rw c.loop-datagram.invariant.1 at (c.in_ok-answer-in-Some.ensures.exchange came.bytes c.decode-read.ensures.exact) in (
      turned_more c.args.host.now.mark c.args.clock (g.P.Port.told c.args.port.now) (g.P.Port.told c.loop-datagram.port) (g.P.Port.told c.receive.new.self) (g.P.Port.told c.answer.new.port)
          came c.args.host.now.part c.loop-datagram.host.part c.answer.new.host.part c.args.heard.now c.loop-datagram.heard c.hear.new.heard c.loop-datagram._datagram c.loop-datagram.invariant.0 got.1 hearing exchange,
      c.in_ok-answer-in-Some.ensures.mark ∙ c.loop-datagram.invariant.1,
      c.in_ok-answer-in-Some.ensures.failures ∙ c.in_ok-from.ensures.failures ∙ c.loop-datagram.invariant.2,
      c.in_ok-answer-in-Some.ensures.time ∙ c.in_ok-from.ensures.time ∙ c.loop-datagram.invariant.3,
    )
