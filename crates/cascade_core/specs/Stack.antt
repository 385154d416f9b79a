-- The meaning of the tasks on a work stack: the last is done first.
use Rattle.std.specs.Prelude.{ℕ, Bool, ◌≡◌, true, false, ◌+◌, ◌-◌, ◌*◌, List, [], ◌∷◌, length, drop, reverse}
use Rattle.std.specs.List.{fold}
use Rattle.scene_core.specs.declared.scene.End.{End}
use Rattle.scene_core.specs.declared.scene.Route.{Route}
use Rattle.scene_core.specs.Shape.{Shape}
use Rattle.cascade_core.specs.Course.{CourseView, Wiring}
use Rattle.cascade_trace.specs.Ends.{has_sent, targets_of}
use Rattle.cascade_core.specs.Outputs.{is_scene_output, ends_from}
use Rattle.cascade_core.specs.Cascade.{deliver, send_full}
use Rattle.cascade_core.specs.declared.tasks.CascadeTask.{CascadeTask}
use Rattle.cascade_core.specs.declared.tasks.CascadeTask.TheVariants.{Send, Follow}
use Rattle.cascade_world.specs.declared.world.Live.{Live}

-- the effect of a task, by the definition of the cascade
abbrev pub do_task : Wiring → CourseView → CascadeTask → CourseView
do_task wiring c (Send source v) = send_full wiring c source v
do_task wiring c (Follow source v next) =
    fold (deliver (send_full wiring) wiring v) c (drop next (targets_of wiring.routes source))

-- the effect of the tasks, from the last to the first
unfoldable pub finish : Wiring → CourseView → List CascadeTask → CourseView
finish wiring c tasks = fold (do_task wiring) c (reverse tasks)

-- only outputs of the scene send
abbrev pub IsReady : List Shape → CascadeTask → Type 0
IsReady shapes (Send source v) = is_scene_output shapes source ≡ true
IsReady shapes (Follow source v next) = Unit {0}

-- a bound on the tasks that this one leads to, without those for events of outputs that have not
-- sent before
abbrev pub weight : List Route → CascadeTask → ℕ
weight routes (Send source v) = 1
weight routes (Follow source v next) = 6 * (length routes - next) + 1

unfoldable pub weights : List Route → List CascadeTask → ℕ
weights routes [] = 0
weights routes (task ∷ tasks) = weight routes task + weights routes tasks

-- 1 for an output that has not sent
abbrev pub one_unless : Bool → ℕ
one_unless true = 0
one_unless false = 1

-- the number of these outputs that have not sent
unfoldable pub unsent_among : List End → List End → ℕ
unsent_among [] sent = 0
unsent_among (o ∷ os) sent = one_unless (has_sent sent o) + unsent_among os sent

-- the number of outputs of the scene that have not sent
abbrev pub unsent : List Shape → Live → ℕ
unsent shapes live = unsent_among (ends_from 0 shapes) live.sent

-- a bound on the remaining tasks
unfoldable pub work_left : Wiring → CourseView → List CascadeTask → ℕ
work_left wiring c tasks =
    unsent wiring.shapes c.live * (6 * length wiring.routes + 2) + weights wiring.routes tasks
