use Rattle.std.proofs.Common.{rules}
use Rattle.share_core.proofs.Nexts.{advanced, left, never-Spoiled, never-NotNext}
use Rattle.share_core.proofs.ahead.apply_next.Goals as goal

pub returns-in-Ok-clause-place : goal.returns-in-Ok-clause-place
returns-in-Ok-clause-place g c = (advanced c.args.stage.now c.apply.new.self c.args.window.now c.advance.new.self c.in-Some.input c.requires.place (search rules) c.requires.runs c.in-Ok.ensures.ok c.advance.ensures).1

pub returns-in-Ok-clause-most : goal.returns-in-Ok-clause-most
returns-in-Ok-clause-most g c = (advanced c.args.stage.now c.apply.new.self c.args.window.now c.advance.new.self c.in-Some.input c.requires.place (search rules) c.requires.runs c.in-Ok.ensures.ok c.advance.ensures).0

pub returns-in-Err-TimeNotLater-clause-place : goal.returns-in-Err-TimeNotLater-clause-place
returns-in-Err-TimeNotLater-clause-place g c = left c.args.stage.now c.apply.new.self c.args.window.now c.drop_next.new.self c.in-Some.input c.apply.result c.in-Err-TimeNotLater.field-0 c.requires.place c.in-Err-TimeNotLater.ensures.err c.in-Err-TimeNotLater.field-0-is c.apply.ensures.refused c.drop_next.ensures

pub unreachable-requires : goal.unreachable-requires
unreachable-requires g c = never-Spoiled c.args.stage.now.held c.args.window.now c.in-Some.input c.in-Err-Spoiled.field-0 c.requires.runs c.requires.place (search rules) c.in-Err-Spoiled.ensures.err c.in-Err-Spoiled.field-0-is

pub unreachable-requires-in-Err-NotNext : goal.unreachable-requires-in-Err-NotNext
unreachable-requires-in-Err-NotNext g c = never-NotNext c.args.stage.now.held c.args.window.now c.in-Some.input c.in-Err-NotNext.field-0 c.requires.runs c.requires.place (search rules) c.in-Err-NotNext.ensures.err c.in-Err-NotNext.field-0-is
