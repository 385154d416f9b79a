use Rattle.std.proofs.Common.{rules, ◌∙◌, refl}
use Rattle.cascade_core.proofs.Installs.{length_refused, memory_refused, range_refused, states_fit, world_given}
use Rattle.cascade_core.proofs.SoundLemmas.{has_scripts_still}
use Rattle.cascade_core.proofs.stage.Stage.install.Goals as goal

pub invariant_of-self : goal.invariant_of-self
invariant_of-self g c =
    let i = c.self.invariant in
    (tt, i.1, has_scripts_still _ _ _ c.restore.ensures.kinds refl i.2, c.restore.ensures.kinds ∙ i.3)

pub invariant_of-self-in-Err-StateLength : goal.invariant_of-self-in-Err-StateLength
invariant_of-self-in-Err-StateLength g c =
    let i = c.self.invariant in
    (i.0, i.1, has_scripts_still _ _ _ c.restore.ensures.kinds refl i.2, c.restore.ensures.kinds ∙ i.3)

pub invariant_of-self-in-Err-StateRange : goal.invariant_of-self-in-Err-StateRange
invariant_of-self-in-Err-StateRange g c =
    let i = c.self.invariant in
    (i.0, i.1, has_scripts_still _ _ _ c.restore.ensures.kinds refl i.2, c.restore.ensures.kinds ∙ i.3)

pub invariant_of-self-in_default : goal.invariant_of-self-in_default
invariant_of-self-in_default g c =
    let i = c.self.invariant in
    (tt, i.1, has_scripts_still _ _ _ c.restore.ensures.kinds refl i.2, c.restore.ensures.kinds ∙ i.3)

pub returns-in-Err-Memory-clause-refused : goal.returns-in-Err-Memory-clause-refused
returns-in-Err-Memory-clause-refused g c =
    memory_refused c.args.self.now c.self.inside.routed.scene c.self.inside.routed.routes c.self.inside.spoiled c.self.inside.course.live.world c.self.inside.course.scripts c.restore.new.self c.args.states.now c.self.view_is c.self.invariant.3
    _ c.applied-applied.ensures (rw c.in-Err-Memory.field-0-is at c.in-Err-Memory.ensures.refused).0

pub returns-in-Err-StateLength-clause-refused : goal.returns-in-Err-StateLength-clause-refused
returns-in-Err-StateLength-clause-refused g c =
    length_refused c.args.self.now c.self.inside.routed.scene c.self.inside.routed.routes c.self.inside.spoiled c.self.inside.course.live.world c.self.inside.course.scripts _ c.args.states.now c.self.view_is c.self.invariant.3
    (rw c.in-Err-StateLength.field-0-is at c.in-Err-StateLength.ensures.refused)

pub returns-in-Err-StateRange-clause-refused : goal.returns-in-Err-StateRange-clause-refused
returns-in-Err-StateRange-clause-refused g c =
    range_refused c.args.self.now c.self.inside.routed.scene c.self.inside.routed.routes c.self.inside.spoiled c.self.inside.course.live.world c.self.inside.course.scripts _ c.args.states.now c.self.view_is c.self.invariant.3
    (rw c.in-Err-StateRange.field-0-is at c.in-Err-StateRange.ensures.refused)

pub returns-in_default-clause-refused : goal.returns-in_default-clause-refused
returns-in_default-clause-refused g c =
    memory_refused c.args.self.now c.self.inside.routed.scene c.self.inside.routed.routes c.self.inside.spoiled c.self.inside.course.live.world c.self.inside.course.scripts c.restore.new.self c.args.states.now c.self.view_is c.self.invariant.3
    _ c.applied-applied.ensures c.in-Ok.ensures.fit

pub returns-clause-fit : goal.returns-clause-fit
returns-clause-fit g c =
    states_fit c.args.self.now c.self.inside.routed.scene c.self.inside.routed.routes c.self.inside.spoiled c.self.inside.course.live.world c.self.inside.course.scripts c.restore.new.self c.args.states.now c.self.view_is c.self.invariant.3
    c.in-Ok.ensures.fit

pub returns-clause-ok : goal.returns-clause-ok
returns-clause-ok g c =
    world_given c.args.self.now c.self.inside.routed.scene c.self.inside.routed.routes c.self.inside.spoiled c.self.inside.course.live.world c.self.inside.course.scripts c.restore.new.self c.args.states.now c.self.view_is c.self.invariant.3
    _ c.args.world (search rules) c.in-Ok.ensures.fit c.in-Ok.ensures.ok
