use Rattle.std.proofs.Common.{rules, ◌≡◌, true, false, refl, inl, [], ◌∷◌, ◌+◌, take, ap, ◌∙◌, arith}
use Rattle.share_core.specs.Viewer.{with_state}
use Rattle.share_turns.specs.declared.traffic.Datagram.{Datagram}
use Rattle.std.specs.Prelude.{Err}
use Rattle.share_turns.specs.declared.traffic.Traffic.TheVariants.{Nothing}
use Rattle.share_turns.specs.declared.fault.TurnFault.TheVariants.{Memory, Port}
use Rattle.share_turns.proofs.Answering.{went_on}
use Rattle.share_turns.proofs.Taking.{takes_all, takes_end, takes_failed, takes_more}
use Rattle.share_turns.proofs.viewer.take_all.Goals as goal

pub returns-in_err-take_one-in-Some-clause-takes : goal.returns-in_err-take_one-in-Some-clause-takes
returns-in_err-take_one-in-Some-clause-takes g c =
    let came : Datagram = record { peer = c.in-Some._from; bytes = take c.in-Some.count c.receive.new.into } in
    let got = rw c.in-Some.is at c.in_ok-_from.ensures.got in
    let more = takes_more c.args.viewer.now c.loop-datagram.viewer (Err Memory) (g.P.Port.told c.args.port.now) (g.P.Port.told c.loop-datagram.port) (g.P.Port.told c.receive.new.self)
    came true c.take_one.new.viewer.state c.loop-datagram._datagram c.loop-datagram.invariant.1 c.loop-datagram.invariant.0 got.1 c.in_err-take_one-in-Some.ensures.taken (0, refl) in
    let failed : c.from_residual-in_err-take_one-in-Some.result ≡ Err Memory = search rules in
    rw failed (takes_all c.args.viewer.now (Err Memory) (g.P.Port.told c.args.port.now) (g.P.Port.told c.receive.new.self) c.take_one.new.viewer.state (c.loop-datagram._datagram + 1) more (omega (arith, c.loop-datagram-test.true)) refl)

pub returns-in_err-_from-clause-takes : goal.returns-in_err-_from-clause-takes
returns-in_err-_from-clause-takes g c =
    let failed : c.from_residual.result ≡ Err Port = search rules in
    rw failed (takes_failed c.args.viewer.now (g.P.Port.told c.args.port.now) (g.P.Port.told c.loop-datagram.port) (g.P.Port.told c.receive.new.self)
    c.loop-datagram.viewer.state c.loop-datagram._datagram c.loop-datagram.invariant.0 (omega (arith, c.loop-datagram-test.true)) c.in_err-_from.ensures.got)

pub returns-in-None-clause-takes : goal.returns-in-None-clause-takes
returns-in-None-clause-takes g c =
    let got = rw c.in-None.is at c.in_ok-_from.ensures.got in
    takes_end c.args.viewer.now went_on (g.P.Port.told c.args.port.now) (g.P.Port.told c.loop-datagram.port) (g.P.Port.told c.receive.new.self)
    c.loop-datagram.viewer.state c.loop-datagram._datagram (Nothing ∷ []) c.loop-datagram.invariant.0 (omega (arith, c.loop-datagram-test.true)) (inl refl) got

pub loop-datagram-preserved : goal.loop-datagram-preserved
loop-datagram-preserved g c =
    let came : Datagram = record { peer = c.in-Some._from; bytes = take c.in-Some.count c.receive.new.into } in
    let got = rw c.in-Some.is at c.in_ok-_from.ensures.got in (
      takes_more c.args.viewer.now c.loop-datagram.viewer went_on (g.P.Port.told c.args.port.now) (g.P.Port.told c.loop-datagram.port) (g.P.Port.told c.receive.new.self)
          came false c.take_one.new.viewer.state c.loop-datagram._datagram c.loop-datagram.invariant.1 c.loop-datagram.invariant.0 got.1 c.in_ok-take_one-in-Some.ensures.taken (1, refl),
      c.in_ok-take_one-in-Some.ensures.others ∙ ap (λ v. with_state v c.take_one.new.viewer.state) c.loop-datagram.invariant.1,
      c.in_ok-_from.ensures.failures ∙ c.loop-datagram.invariant.2,
    )
