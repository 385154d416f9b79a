use Rattle.std.proofs.lemmas.Int.{to_z-of_z}
use mir.Syntax.{w64}
use Rattle.laws_calls.proofs.Hosts.{clock}
use Rattle.laws_calls.proofs.host.host_clock.Goals as goal

pub returns : goal.returns
returns c =
    clock c.steps_law.ensures.calls c.args.host.now c.clock.new.self c.args.time c.clock.result c.clock.ensures.mark (rw (to_z-of_z w64 c.args.time c.ranges.time) at c.clock.ensures.step)
