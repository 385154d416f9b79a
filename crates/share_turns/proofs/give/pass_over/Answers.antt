use Rattle.std.proofs.Common.{rules, ◌≡◌, refl, inl, inr, [], ◌∷◌, take, ◌∙◌, arith}
use Rattle.std.specs.Prelude.{Err}
use Rattle.share_turns.specs.declared.traffic.Datagram.{Datagram}
use Rattle.share_turns.specs.declared.traffic.Traffic.TheVariants.{Nothing}
use Rattle.share_turns.specs.declared.fault.TurnFault.TheVariants.{Port}
use Rattle.share_turns.proofs.Sending.{grows_none}
use Rattle.share_turns.proofs.Gathering.{passed_end, passed_failed, passed_more, passed_none}
use Rattle.share_turns.proofs.give.pass_over.Goals as goal

pub loop-datagram-init : goal.loop-datagram-init
loop-datagram-init g c = (passed_none (g.P.Port.told c.args.port.now), refl)

pub returns-in_err-_from-clause-over : goal.returns-in_err-_from-clause-over
returns-in_err-_from-clause-over g c =
    let failed : c.from_residual.result ≡ Err Port = search rules in
    rw failed (passed_failed (g.P.Port.told c.args.port.now) (g.P.Port.told c.loop-datagram.port) (g.P.Port.told c.receive.new.self)
    c.loop-datagram._datagram c.loop-datagram.invariant.0 (omega (arith, c.loop-datagram-test.true)) c.in_err-_from.ensures.got)

pub returns-in-None-clause-over : goal.returns-in-None-clause-over
returns-in-None-clause-over g c =
    let got = rw c.in-None.is at c.in_ok-_from.ensures.got in
    passed_end (g.P.Port.told c.args.port.now) (g.P.Port.told c.loop-datagram.port) (g.P.Port.told c.receive.new.self)
    c.loop-datagram._datagram (Nothing ∷ []) c.loop-datagram.invariant.0 (omega (arith, c.loop-datagram-test.true)) (inl refl) got

pub returns-clause-over : goal.returns-clause-over
returns-clause-over g c =
    let told = g.P.Port.told c.loop-datagram.port in
    let count : c.loop-datagram._datagram ≡ 64 = omega (arith, c.loop-datagram-test.false) in
    passed_end (g.P.Port.told c.args.port.now) told told c.loop-datagram._datagram [] c.loop-datagram.invariant.0 (omega (arith, count)) (inr (refl, count)) (grows_none told)

pub loop-datagram-preserved : goal.loop-datagram-preserved
loop-datagram-preserved g c =
    let came : Datagram = record { peer = c.in-Some._from; bytes = take c.in-Some._count c.receive.new.into } in
    let got = rw c.in-Some.is at c.in_ok-_from.ensures.got in (
      passed_more (g.P.Port.told c.args.port.now) (g.P.Port.told c.loop-datagram.port) (g.P.Port.told c.receive.new.self) came c.loop-datagram._datagram c.loop-datagram.invariant.0 got.1,
      c.in_ok-_from.ensures.failures ∙ c.loop-datagram.invariant.1,
    )
