use Rattle.std.proofs.Common.{◌∙◌, sym}
use Rattle.scene_core.proofs.TaskLemmas.{old-done, new-done, new-few, new-fewer}
use Rattle.scene_core.proofs.numbering.visit.Goals as goal

pub returns-then-not-is_new-clause-done : goal.returns-then-not-is_new-clause-done
returns-then-not-is_new-clause-done c =
    old-done c.args.nodes.now c.args.state.now c.args.node c.args.tasks.now.items (sym c.is_new.ensures ∙ c.if-not-is_new.true)

pub returns-clause-done : goal.returns-clause-done
returns-clause-done c =
    rw (c.in_ok-push_visits.ensures, c.in_ok-push.ensures.items, c.appear.ensures, c.as_slice.ensures.value, c.in_ok-parts.ensures)
    (new-done c.args.nodes.now c.args.state.now c.args.node c.args.tasks.now.items (sym c.is_new.ensures ∙ c.if-not-is_new.false) c.requires)

pub returns-clause-few : goal.returns-clause-few
returns-clause-few c =
    rw (c.appear.ensures) (new-few c.args.nodes.now c.args.state.now c.args.node (sym c.is_new.ensures ∙ c.if-not-is_new.false) c.requires)

pub returns-clause-fewer : goal.returns-clause-fewer
returns-clause-fewer c =
    rw (c.in_ok-push_visits.ensures, c.in_ok-push.ensures.items, c.appear.ensures, c.as_slice.ensures.value, c.in_ok-parts.ensures)
    (new-fewer c.args.nodes.now c.args.state.now c.args.node c.args.tasks.now.items (sym c.is_new.ensures ∙ c.if-not-is_new.false))
