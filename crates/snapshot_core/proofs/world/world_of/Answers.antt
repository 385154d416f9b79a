use Rattle.std.proofs.lemmas.Result.{err_from_is_err_and}
use Rattle.snapshot_core.proofs.WorldLaws.{no_progress, no_parts, whole_body}
use Rattle.snapshot_core.proofs.world.world_of.Goals as goal

pub returns-in_default : goal.returns-in_default
returns-in_default c = no_progress c.args.version c.args.scene.now c.args.bytes.now (rw c.numbers.ensures at c.in_default.ensures)

pub returns-in_err-parts : goal.returns-in_err-parts
returns-in_err-parts c =
    let p = err_from_is_err_and c.from_residual.result c.from_residual.ensures.1 in
    rw (p.1, p.2) (no_parts c.args.version c.args.scene.now c.args.bytes.now c.in-Some.progress c.in-Some.rest.now _ (rw c.numbers.ensures at c.in-Some.ensures) c.in_err-parts.ensures)

pub returns : goal.returns
returns c = rw c.found_with.ensures (whole_body c.args.version c.args.scene.now c.args.bytes.now c.in-Some.progress c.in-Some.rest.now c.in_ok-parts.parts c.in_ok-parts.rest.now (rw c.numbers.ensures at c.in-Some.ensures) c.in_ok-parts.ensures)
