use Rattle.std.proofs.Common.{◌∙◌, Bool, true, if◌then◌else◌, ap, is_eq, nat_cmp}
use Rattle.std.specs.Cmp.Lexicographic.{slice_cmp}
use Rattle.std.proofs.lemmas.Map.Text.{is_eq-slice_cmp}
use Rattle.scene_faults.specs.Index.{holds}
use Rattle.scene_faults.proofs.named.NameSet.add.Goals as goal

pub returns : goal.returns
unfolding holds
returns c =
    λ name. c.in_ok-insert.ensures.updates.0 (record c.as_str.result { now = name })
    ∙ ap (λ (same : Bool). if same then true else holds c.args.self.now name)
    (ap (λ given. is_eq (slice_cmp nat_cmp given name)) c.as_str.ensures ∙ is_eq-slice_cmp c.args.name.now name)
