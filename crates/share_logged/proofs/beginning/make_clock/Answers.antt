use Rattle.std.proofs.Common.{rules, FitsSigned, w64}
use Rattle.std.proofs.lemmas.Int.{to_z-of_z}
use Rattle.share_logged.proofs.Resuming.{made_clock}
use Rattle.share_logged.proofs.beginning.make_clock.Goals as goal

pub returns-clause-made : goal.returns-clause-made
returns-clause-made c =
    let fits : FitsSigned w64 c.args.time = search rules in
    let step = rw (to_z-of_z w64 c.args.time fits) at c.clock.ensures.step in
    made_clock c.args.host.now.part c.clock.new.self.part c.args.time c.args.number c.clock.result c.after_clock.result step c.after_clock.ensures
