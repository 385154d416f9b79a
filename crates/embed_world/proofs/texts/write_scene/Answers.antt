use Rattle.std.proofs.Common.{inr}
use Rattle.cascade_core.specs.Texts.{scene_text}
use Rattle.embed_world.proofs.Held.{made, none}
use Rattle.embed_world.proofs.texts.write_scene.Goals as goal

pub returns-in-Ok-clause-is : goal.returns-in-Ok-clause-is
returns-in-Ok-clause-is c =
    made c.args.stage.now.held (scene_text c.args.stage.now.scene c.args.stage.now.routes) _ c.args.out.now.items c.scene_text.new.out.items
    c.requires.empty c.in-Ok.ensures.refused c.in-Ok.ensures.ok

pub returns-in-Err-Spoiled-clause-is : goal.returns-in-Err-Spoiled-clause-is
returns-in-Err-Spoiled-clause-is c =
    inr (none c.args.stage.now.held (scene_text c.args.stage.now.scene c.args.stage.now.routes) c.in-Err-Spoiled.field-0 c.in-Err-Spoiled.field-0-is c.in-Err-Spoiled.ensures.memory)
