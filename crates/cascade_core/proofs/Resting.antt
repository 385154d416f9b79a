-- A course has the scripts that it had.
use Rattle.std.proofs.Common.{◌∙◌, List, sym}
use Rattle.std.proofs.lemmas.List.{length-map}
use Rattle.script_host.specs.Hosting.{SlotView}
use Rattle.script_running.specs.Acting.{kinds_of}
use Rattle.cascade_world.specs.declared.world.Live.{Live}
use Rattle.cascade_core.specs.Course.{CourseView, Wiring, course}
use Rattle.cascade_core.specs.Resting.{HasSameScripts}
use Rattle.cascade_core.specs.Sound.{HasScriptsOf, IsSound}
use Rattle.cascade_core.proofs.SoundLemmas.{has_scripts_still}

-- at one step and at the next
pub scripts_then : {a b c : CourseView} → HasSameScripts a b → HasSameScripts b c → HasSameScripts a c
scripts_then first next = record { kinds = next.kinds ∙ first.kinds; count = next.count ∙ first.count }

-- they are those that are run, as they were
pub has_scripts_then : {wiring : Wiring} {old new : CourseView} → HasSameScripts old new → HasScriptsOf wiring old → HasScriptsOf wiring new
has_scripts_then {wiring} {old} {new} same has_scripts = has_scripts_still wiring old new same.kinds same.count has_scripts

-- as many as there are, before any was settled
pub has_scripts_begun : (wiring : Wiring) (live : Live) (scripts : List SlotView) → IsSound wiring (kinds_of scripts) → HasScriptsOf wiring (course live scripts)
has_scripts_begun wiring live scripts sound = record { sound = sound; counted = sym (length-map scripts (λ (r : SlotView). r.kind)) }
