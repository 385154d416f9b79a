use Rattle.std.proofs.Common.{rules, ◌≡◌, false, length, replicate}
use Rattle.scene_core.proofs.TaskLemmas.{unnumbered-few, numbering-done}
use Rattle.scene_core.proofs.numbering.numbered.Goals as goal

pub visit_all-requires : goal.visit_all-requires
visit_all-requires c =
    let e : c.from_vec.result ≡ replicate (length c.args.nodes.now) false = search rules in
    rw e (unnumbered-few c.args.nodes.now)

pub returns : goal.returns
returns c =
    let e : c.from_vec.result ≡ replicate (length c.args.nodes.now) false = search rules in
    let z : c.from_vec-2.result ≡ replicate (length c.args.nodes.now) 0 = search rules in
    rw (c.in-Ok.ensures, e, z, c.new.ensures) (numbering-done c.args.nodes.now c.args.roots.now c.args.helpers.now)
