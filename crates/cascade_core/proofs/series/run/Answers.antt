use Rattle.std.proofs.Common.{rules, ◌≡◌, None}
use Rattle.cascade_core.specs.Held.{after_all, refusal_in}
use Rattle.cascade_core.proofs.RunFaults.{Stops, all-taken, ran, stopped, stopped_in_order}
use Rattle.cascade_core.proofs.series.run.Goals as goal

pub returns-in-Err-clause-err : goal.returns-in-Err-clause-err
returns-in-Err-clause-err g c =
    let stops : Stops c.in-Ok.stage c.args.inputs.now c.in-Err.fault = search rules in
    stopped c.in-Err.fault c.in-Ok.stage c.args.scene c.args.routes c.args.inputs.now c.in-Ok.ensures stops

pub returns-in-Err-clause-in_order : goal.returns-in-Err-clause-in_order
returns-in-Err-clause-in_order g c =
    let stops : Stops c.in-Ok.stage c.args.inputs.now c.in-Err.fault = search rules in
    stopped_in_order c.in-Err.fault c.in-Ok.stage c.args.scene c.args.routes c.args.inputs.now c.in-Ok.ensures stops

pub returns-clause-ok : goal.returns-clause-ok
returns-clause-ok g c =
    let after : c.apply_all.new.self ≡ after_all c.in-Ok.stage c.args.inputs.now = search rules in
    ran c.in-Ok.stage c.args.scene c.args.routes c.args.inputs.now c.in-Ok.ensures c.apply_all.new.self after

pub returns-clause-taken : goal.returns-clause-taken
returns-clause-taken g c =
    let none : refusal_in c.in-Ok.stage c.args.inputs.now ≡ None = search rules in
    all-taken c.in-Ok.stage c.args.scene c.args.routes c.args.inputs.now c.in-Ok.ensures none
