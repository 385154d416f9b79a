use Rattle.std.proofs.Common.{◌≡◌, ◌++◌, take}
use Rattle.std.specs.List.{flat_map}
use Rattle.embed_scene.specs.Scripts.{script_numbers}
use Rattle.embed_scene.proofs.scripts.push_all.Given as goal

abbrev pub invariant-loop-script : goal.invariant-loop-script
invariant-loop-script l = l.out.items ≡ l.fn.out.items ++ flat_map script_numbers (take l.script-index l.scripts)
