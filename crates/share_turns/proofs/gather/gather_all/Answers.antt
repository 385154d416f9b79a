use Rattle.std.proofs.Common.{rules, ◌≡◌, true, false, refl, inl, inr, [], ◌∷◌, ◌+◌, take, ap, ◌∙◌, arith}
use Rattle.share_core.specs.Viewer.{with_gathering}
use Rattle.share_turns.specs.declared.traffic.Datagram.{Datagram}
use Rattle.std.specs.Prelude.{Err}
use Rattle.share_turns.specs.declared.traffic.Traffic.TheVariants.{Nothing}
use Rattle.share_turns.specs.declared.fault.TurnFault.TheVariants.{Memory, Port}
use Rattle.share_turns.proofs.Answering.{went_on}
use Rattle.share_turns.proofs.Gathering.{gathers_all, gathers_end, gathers_failed, gathers_more, gathers_none}
use Rattle.share_turns.proofs.gather.gather_all.Goals as goal

pub loop-datagram-init : goal.loop-datagram-init
loop-datagram-init g c = (gathers_none c.args.viewer.now.mark (g.P.Port.told c.args.port.now) c.args.viewer.now.gathering, refl, refl)

pub returns-in_err-gather_one-in-Some-clause-gathers : goal.returns-in_err-gather_one-in-Some-clause-gathers
returns-in_err-gather_one-in-Some-clause-gathers g c =
    let came : Datagram = record { peer = c.in-Some._from; bytes = take c.in-Some.count c.receive.new.into } in
    let got = rw c.in-Some.is at c.in_ok-_from.ensures.got in
    let more = gathers_more c.args.viewer.now c.loop-datagram.viewer (Err Memory) (g.P.Port.told c.args.port.now) (g.P.Port.told c.loop-datagram.port) (g.P.Port.told c.receive.new.self)
    came true c.gather_one.new.viewer.gathering c.loop-datagram._datagram c.loop-datagram.invariant.1 c.loop-datagram.invariant.0 got.1 c.in_err-gather_one-in-Some.ensures.gathered (0, refl) in
    let failed : c.from_residual-in_err-gather_one-in-Some.result ≡ Err Memory = search rules in
    rw failed (gathers_all c.args.viewer.now.mark (Err Memory) (g.P.Port.told c.args.port.now) (g.P.Port.told c.receive.new.self) c.args.viewer.now.gathering c.gather_one.new.viewer.gathering (c.loop-datagram._datagram + 1) more (omega (arith, c.loop-datagram-test.true)) refl)

pub returns-in_err-_from-clause-gathers : goal.returns-in_err-_from-clause-gathers
returns-in_err-_from-clause-gathers g c =
    let failed : c.from_residual.result ≡ Err Port = search rules in
    rw failed (gathers_failed c.args.viewer.now.mark (g.P.Port.told c.args.port.now) (g.P.Port.told c.loop-datagram.port) (g.P.Port.told c.receive.new.self)
    c.args.viewer.now.gathering c.loop-datagram.viewer.gathering c.loop-datagram._datagram c.loop-datagram.invariant.0 (omega (arith, c.loop-datagram-test.true)) c.in_err-_from.ensures.got)

pub returns-in-None-clause-gathers : goal.returns-in-None-clause-gathers
returns-in-None-clause-gathers g c =
    let got = rw c.in-None.is at c.in_ok-_from.ensures.got in
    gathers_end c.args.viewer.now.mark went_on (g.P.Port.told c.args.port.now) (g.P.Port.told c.loop-datagram.port) (g.P.Port.told c.receive.new.self)
    c.args.viewer.now.gathering c.loop-datagram.viewer.gathering c.loop-datagram._datagram (Nothing ∷ []) c.loop-datagram.invariant.0 (omega (arith, c.loop-datagram-test.true)) (inl refl) got

pub returns-clause-gathers : goal.returns-clause-gathers
returns-clause-gathers g c =
    let count : c.loop-datagram._datagram ≡ 64 = omega (arith, c.loop-datagram-test.false) in
    gathers_all c.args.viewer.now.mark went_on (g.P.Port.told c.args.port.now) (g.P.Port.told c.loop-datagram.port)
    c.args.viewer.now.gathering c.loop-datagram.viewer.gathering c.loop-datagram._datagram c.loop-datagram.invariant.0 (omega (arith, count)) (inr (refl, count))

pub loop-datagram-preserved : goal.loop-datagram-preserved
loop-datagram-preserved g c =
    let came : Datagram = record { peer = c.in-Some._from; bytes = take c.in-Some.count c.receive.new.into } in
    let got = rw c.in-Some.is at c.in_ok-_from.ensures.got in (
      gathers_more c.args.viewer.now c.loop-datagram.viewer went_on (g.P.Port.told c.args.port.now) (g.P.Port.told c.loop-datagram.port) (g.P.Port.told c.receive.new.self)
          came false c.gather_one.new.viewer.gathering c.loop-datagram._datagram c.loop-datagram.invariant.1 c.loop-datagram.invariant.0 got.1 c.in_ok-gather_one-in-Some.ensures.gathered (1, refl),
      c.in_ok-gather_one-in-Some.ensures.others ∙ ap (λ v. with_gathering v c.gather_one.new.viewer.gathering) c.loop-datagram.invariant.1,
      c.in_ok-_from.ensures.failures ∙ c.loop-datagram.invariant.2,
    )
