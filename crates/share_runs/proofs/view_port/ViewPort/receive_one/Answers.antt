use Rattle.std.proofs.Common.{refl, []}
use Rattle.std.specs.Prelude.{◌∷◌, None, take}
use Rattle.share_session.specs.Decoding.{decoded}
use Rattle.share_turns.specs.declared.traffic.Traffic.TheVariants.{Nothing}
use Rattle.share_runs.specs.Port.{handed_in}
use Rattle.share_runs.proofs.Porting.{at_none, at_some, hears_quiet, received_hears}
use Rattle.share_runs.proofs.view_port.ViewPort.receive_one.Goals as goal

pub returns-in-Ok-Some-clause-hears : goal.returns-in-Ok-Some-clause-hears
returns-in-Ok-Some-clause-hears g c =
    received_hears (λ p. p.items) c.args.self.now.run c.take_bytes-packet.new.run
    (g.P.Port.told c.args.self.now.port) (g.P.Port.told c.receive.new.self) c.in-Ok-Some.from
    (take c.in-Ok-Some.count c.receive.new.into) (decoded (take c.in-Ok-Some.count c.receive.new.into))
    c.take_bytes-packet.result (handed_in c.came_of.result)
    (at_some _ _ c.in-Ok-Some.field-0 (c.in-Ok-Some.from, c.in-Ok-Some.count) c.in-Ok-Some.field-0-is c.in-Ok-Some.ensures.got).1
    c.take_bytes-packet.ensures.found c.take_bytes-packet.ensures.run c.came_of.ensures

pub returns-in-Ok-None-clause-hears : goal.returns-in-Ok-None-clause-hears
returns-in-Ok-None-clause-hears g c =
    hears_quiet c.args.self.now.run c.args.self.now.run (g.P.Port.told c.args.self.now.port)
    (g.P.Port.told c.receive.new.self) (Nothing ∷ []) None refl refl
    (at_none _ _ c.in-Ok-None.field-0 c.in-Ok-None.field-0-is c.in-Ok-None.ensures.got)
