use Rattle.std.proofs.Common.{◌∙◌, ap, refl}
use Rattle.std.specs.List.{list_all}
use Rattle.script_slots.specs.Settling.{DueScriptsView}
use Rattle.scene_core.specs.Scene.{shapes_of}
use Rattle.script_running.specs.Acting.{kinds_of}
use Rattle.cascade_core.specs.Course.{wiring_at}
use Rattle.cascade_world.specs.declared.world.Live.{Live}
use Rattle.cascade_core.specs.Scripts.{are_begun}
use Rattle.cascade_core.specs.Sound.{are_sent}
use Rattle.cascade_core.proofs.Openings.{opened_same, opening-has_scripts, started_begun, started_sent}
use Rattle.cascade_core.proofs.opening.open.Goals as goal

pub new-requires-2 : goal.new-requires-2
new-requires-2 g c = ap are_begun c.in-Ok-initialize_all.ensures.scripts ∙ started_begun (wiring_at c.args.routed.now) c.args.scripts

pub send_and_settle-requires-clause-outputs : goal.send_and_settle-requires-clause-outputs
send_and_settle-requires-clause-outputs g c =
    ap (list_all (are_sent (shapes_of c.args.routed.now.scene))) c.in-Ok-initialize_all.ensures.sendings
    ∙ started_sent (wiring_at c.args.routed.now) c.args.scripts c.requires.rest.has_scripts.sound

pub send_and_settle-requires-clause-fresh : goal.send_and_settle-requires-clause-fresh
send_and_settle-requires-clause-fresh g c = ap (λ (s : DueScriptsView). s.settled) c.in-Ok.ensures

pub returns-clause-world : goal.returns-clause-world
returns-clause-world g c =
    opened_same c.args.routed.now c.requires.runs c.args.live c.args.scripts _ c.in-Ok.settling c.len.result c.in-Ok-initialize_all.sendings.items _ _
    c.requires.scripts (ap (λ (l : Live). l.world) c.requires.live) (ap (λ (l : Live). l.sent) c.requires.live) (c.new-2.ensures ∙ c.in-Ok-initialize_all.ensures.scripts) c.in-Ok.ensures c.len.ensures c.in-Ok-initialize_all.ensures.sendings
    refl c.in-Ok-send_and_settle.ensures.course

pub send_and_settle-requires-clause-rest : goal.send_and_settle-requires-clause-rest
send_and_settle-requires-clause-rest g c = record {
  empty = c.requires.rest.empty;
  none = c.requires.rest.none;
  boxes = c.requires.rest.boxes;
  has_scripts =
      opening-has_scripts (wiring_at c.args.routed.now) c.args.scripts c.new-2.result c.args.live c.in-Ok.settling c.len.result c.requires.rest.has_scripts.sound
      (ap kinds_of c.new-2.ensures ∙ c.initialize_all.ensures.kinds) c.in-Ok.ensures c.len.ensures;
}

pub returns-clause-rest : goal.returns-clause-rest
returns-clause-rest g c = c.in-Ok-send_and_settle.ensures.rest

pub returns-clause-scene : goal.returns-clause-scene
returns-clause-scene g c = record {
  runs = c.requires.runs;
  kinds =
      c.send_and_settle.ensures.scripts.kinds ∙ (ap kinds_of c.new-2.ensures ∙ c.initialize_all.ensures.kinds) ∙ ap kinds_of c.requires.scripts;
}
