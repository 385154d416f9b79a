-- An event cascade through scripts (ISO/IEC 19775-1, event model: execution model): like a cascade
-- without scripts, except that an event at an input of a script is a call of the script, whose
-- replies its node sends.
use Rattle.std.specs.Prelude.{ℕ, zero, suc, ◌+◌, List, [], Option, Some, None, if◌then◌else◌}
use Rattle.std.specs.List.{fold}
use Rattle.std.specs.Option.{option_and_then, option_map}
use Rattle.x3d_values.specs.declared.value.Value.{Value}
use Rattle.react_core.specs.declared.outbox.SentEvent.{SentEvent}
use Rattle.scene_core.specs.declared.scene.End.{End}
use Rattle.script_host.specs.Behaviour.{Call}
use Rattle.script_running.specs.Acting.{act, call_of}
use Rattle.script_slots.specs.Settling.{with_received}
use Rattle.cascade_world.specs.Answers.{answer, with_answer}
use Rattle.cascade_trace.specs.Ends.{has_sent, targets_of}
use Rattle.cascade_core.specs.Outputs.{outputs_of}
use Rattle.cascade_world.specs.World.{record_event}
use Rattle.cascade_core.specs.Course.{CourseView, Wiring, ports_of, script_of, with_live}

-- the replies of a node, one after another, each sent on by `go`
abbrev pub send_all : (CourseView → End → Value → CourseView) → ℕ → CourseView → List SentEvent
    → CourseView
send_all go node c replies =
    fold (λ t reply. go t (record { node = node; field = reply.field }) reply.value) c replies

-- a call of a script
pub record Arrival : Type 0 where
  pub number : ℕ
  pub call : Call

-- the call that an event causes, if its target is an input of a script that takes the value
abbrev pub arrival : Wiring → CourseView → End → Value → Option Arrival
arrival wiring c target v =
    option_and_then
    (λ k. option_map (λ call. record { number = k; call = call })
    (call_of (ports_of wiring k) k target.field v c.scripts))
    (script_of wiring target.node)

-- the result of an event at its target: the course, and the events that the target's node sends
pub record Reacted : Type 0 where
  pub course : CourseView
  pub replies : List SentEvent

-- a script is called, and has received an event
abbrev pub called_at : Wiring → CourseView → Arrival → Reacted
called_at wiring c at =
    let a = act (ports_of wiring at.number) at.call at.number c.scripts in
    record {
      course = record c { scripts = a.scripts; settling = with_received c.settling at.number };
      replies = a.replies;
    }

-- nothing happens if no script receives the event
abbrev pub received_by : Wiring → CourseView → Option Arrival → Reacted
received_by wiring c (Some at) = called_at wiring c at
received_by wiring c None = record { course = c; replies = [] }

-- a target that isn't a script answers
abbrev pub answered_at : Wiring → CourseView → End → Value → Reacted
answered_at wiring c target v =
    let a = answer wiring.shapes c.live.world target v
    in record { course = with_live c (with_answer c.live a); replies = a.replies }

abbrev pub reached_by : Wiring → CourseView → End → Value → Option Arrival → Reacted
reached_by wiring c target v (Some at) = called_at wiring c at
reached_by wiring c target v None = answered_at wiring c target v

unfoldable pub reached : Wiring → CourseView → End → Value → Reacted
reached wiring c target v = reached_by wiring c target v (arrival wiring c target v)

-- the target is reached, and each reply of its node is sent on
unfoldable pub deliver : (CourseView → End → Value → CourseView) → Wiring → Value → CourseView → End
    → CourseView
deliver go wiring v c target =
    let r = reached wiring c target v in send_all go target.node r.course r.replies

abbrev pub recorded : CourseView → End → Value → CourseView
recorded c source v = with_live c (record_event c.live source v)

-- an event is sent by an output, unless the output has sent before: it is recorded, and follows
-- each route to its end
unfoldable pub send : Wiring → ℕ → CourseView → End → Value → CourseView
send wiring zero c source v = c
send wiring (suc depth) c source v =
    if has_sent c.live.sent source
    then c
    else fold (deliver (send wiring depth) wiring v) (recorded c source v)
    (targets_of wiring.routes source)

-- an event is sent with all its consequences
abbrev pub send_full : Wiring → CourseView → End → Value → CourseView
send_full wiring = send wiring (outputs_of wiring.shapes + 1)

-- the replies of a node are sent with all their consequences
abbrev pub send_replies : Wiring → ℕ → CourseView → List SentEvent → CourseView
send_replies wiring node c replies = send_all (send_full wiring) node c replies
