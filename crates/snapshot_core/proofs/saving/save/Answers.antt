use Rattle.snapshot_core.proofs.Saves.{not_running, not_spoiled}
use Rattle.snapshot_core.proofs.saving.save.Goals as goal

pub returns-in_default-clause-ok : goal.returns-in_default-clause-ok
returns-in_default-clause-ok g c = not_running _ c.args.stage.now.held c.in_default.ensures

pub returns-in_default-clause-err : goal.returns-in_default-clause-err
returns-in_default-clause-err g c = not_running _ c.args.stage.now.held c.in_default.ensures

pub returns-then-is_err-clause-spoiled : goal.returns-then-is_err-clause-spoiled
returns-then-is_err-clause-spoiled g c = not_spoiled _ c.args.stage.now.held _ c.in-Some.ensures

pub returns-then-is_err-2-clause-spoiled : goal.returns-then-is_err-2-clause-spoiled
returns-then-is_err-2-clause-spoiled g c = not_spoiled _ c.args.stage.now.held _ c.in-Some.ensures

pub returns-clause-spoiled : goal.returns-clause-spoiled
returns-clause-spoiled g c = not_spoiled _ c.args.stage.now.held _ c.in-Some.ensures
