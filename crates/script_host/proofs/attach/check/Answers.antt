use Rattle.std.proofs.Common.{rules, map}
use Rattle.script_host.specs.Attaching.{Refuses}
use Rattle.script_host.specs.Hosting.{fresh_record}
use Rattle.script_host.proofs.AttachLemmas.{no_unknown, only_memory}
use Rattle.script_host.proofs.attach.check.Goals as goal

pub returns-in-Some-clause-takes : goal.returns-in-Some-clause-takes
returns-in-Some-clause-takes g c fits = absurd (no_unknown c.args.specs.now c.in-Some.k (search rules) fits.known)

pub returns-in-Some-2-clause-takes : goal.returns-in-Some-2-clause-takes
returns-in-Some-2-clause-takes g c fits =
    let boxes = map (fresh_record g.B.Behaviour.kind_of g.B.Behaviour.numbers) c.args.boxes.now in
    let refused : Refuses c.in-Some-2.fault c.args.specs.now boxes = search rules in
    only_memory c.in-Some-2.fault c.args.specs.now boxes refused fits
