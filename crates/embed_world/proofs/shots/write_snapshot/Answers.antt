use Rattle.std.proofs.Common.{inr}
use Rattle.embed_world.proofs.Held.{no_shot, shot_made}
use Rattle.embed_world.proofs.shots.write_snapshot.Goals as goal

pub returns-in-Ok-clause-is : goal.returns-in-Ok-clause-is
returns-in-Ok-clause-is c =
    shot_made c.args.stage.now.held c.args.mark.now c.args.boot c.args.stage.now.scene _ c.args.out.now.items c.save.new.out.items
    c.requires.empty c.in-Ok.ensures.spoiled c.in-Ok.ensures.ok

pub returns-in-Err-Spoiled-clause-is : goal.returns-in-Err-Spoiled-clause-is
returns-in-Err-Spoiled-clause-is c =
    inr (no_shot c.args.stage.now.held c.args.mark.now c.args.boot c.args.stage.now.scene c.in-Err-Spoiled.field-0 c.args.out.now.items c.save.new.out.items
    c.in-Err-Spoiled.field-0-is c.in-Err-Spoiled.ensures.err)
