use Rattle.std.proofs.Common.{◌∙◌, if◌then◌else◌, Bool, Some, ap, is_eq, nat_cmp}
use Rattle.std.specs.Cmp.Lexicographic.{slice_cmp}
use Rattle.std.proofs.Math.Path.{fun_ext}
use Rattle.std.proofs.lemmas.Map.Text.{is_eq-slice_cmp}
use Rattle.scene_core.specs.Labels.{known_of}
use Rattle.scene_core.proofs.labels.mark_as.Goals as goal

pub returns-clause-marked : goal.returns-clause-marked
unfolding known_of
returns-clause-marked c =
    fun_ext (λ name. c.in_ok-before.ensures.updates.0 (record c.as_str.result { now = name })
    ∙ ap (λ (same : Bool). if same then Some c.args.alone else known_of c.args.marks.now name)
    (ap (λ given. is_eq (slice_cmp nat_cmp given name)) c.as_str.ensures ∙ is_eq-slice_cmp c.args.name.now name))
