use Rattle.std.proofs.Common.{◌∙◌, refl}
use Rattle.cascade_core.proofs.Installs.{same_kinds}
use Rattle.cascade_core.proofs.SoundLemmas.{has_scripts_still}
use Rattle.cascade_core.proofs.stage.Stage.replace_script.Goals as goal

pub invariant_of-self : goal.invariant_of-self
invariant_of-self g c =
    let i = c.self.invariant in
    (i.0, i.1, has_scripts_still _ _ _ (same_kinds c.self.inside.course.scripts c.replace.new.self c.replace.ensures.same) refl i.2, same_kinds c.self.inside.course.scripts c.replace.new.self c.replace.ensures.same ∙ i.3)

pub invariant_of-self-2 : goal.invariant_of-self-2
invariant_of-self-2 g c =
    let i = c.self.invariant in
    (i.0, i.1, has_scripts_still _ _ _ (same_kinds c.self.inside.course.scripts c.replace.new.self c.replace.ensures.same) refl i.2, same_kinds c.self.inside.course.scripts c.replace.new.self c.replace.ensures.same ∙ i.3)
