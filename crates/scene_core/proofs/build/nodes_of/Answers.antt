use Rattle.std.proofs.Common.{subst, List, ℕ, Bool}
use Rattle.x3d_lists.specs.Answers.{Gives}
use Rattle.scene_core.proofs.NameLemmas.{marks-alone}
use Rattle.scene_core.specs.Building.{nodes_by}
use Rattle.scene_core.specs.Faults.{memory}
use Rattle.scene_core.specs.Labels.{known_of, names_of}
use Rattle.scene_core.proofs.build.nodes_of.Goals as goal

pub returns : goal.returns
returns c =
    let e = marks-alone (known_of c.in_ok-marks.marks) (names_of c.args.nodes.now c.args.numbering.now.order) (rw c.as_slice.ensures at c.in_ok-marks.ensures) in
    let P : (List ℕ → Bool) → Type 0 = λ alone. Gives memory (λ all. all) c.nodes_by-made.result (nodes_by c.args.nodes.now c.args.numbering.now alone) in
    subst P e c.nodes_by-made.ensures
