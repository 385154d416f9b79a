-- What the scripts of a world do at a call, and what their nodes send (ISO/IEC 19775-1, Script).
use Rattle.std.specs.Prelude.{ℕ, List, [], Option, Some, None, map, slice_get, slice_set}
use Rattle.std.specs.Option.{option_and_then}
use Rattle.x3d_values.specs.declared.script.Kind.{Kind}
use Rattle.x3d_values.specs.declared.value.Value.{Value}
use Rattle.react_core.specs.declared.outbox.SentEvent as node
use Rattle.script_host.specs.Behaviour.{Call}
use Rattle.script_host.specs.Hosting.{SlotView, after_call, answer_of}
use Rattle.script_running.specs.Ports.{PortsView, call_at, reply_of}

-- the scripts after a call, and what the node of the called script sends, in order
pub record Acted : Type 0 where
  pub scripts : List SlotView
  pub replies : List node.SentEvent

abbrev pub idle : List SlotView → Acted
idle scripts = record { scripts = scripts; replies = [] }

-- script k is called, if there is one
abbrev pub acting : PortsView → Call → ℕ → List SlotView → Option SlotView → Acted
acting ports call k scripts (Some r) = record {
  scripts = slice_set scripts k (after_call call r);
  replies = map (reply_of r.kind ports) (answer_of call r).replies;
}
acting ports call k scripts None = idle scripts

unfoldable pub act : PortsView → Call → ℕ → List SlotView → Acted
act ports call k scripts = acting ports call k scripts (slice_get scripts k)

-- the call that script k gets from an event at a field of its node
abbrev pub call_of : PortsView → ℕ → ℕ → Value → List SlotView → Option Call
call_of ports k field value scripts =
    option_and_then (λ (r : SlotView). call_at r.kind ports field value) (slice_get scripts k)

abbrev pub receiving : PortsView → ℕ → List SlotView → Option Call → Acted
receiving ports k scripts (Some call) = act ports call k scripts
receiving ports k scripts None = idle scripts

-- an event reaches a field of the node of script k
abbrev pub receive : PortsView → ℕ → ℕ → Value → List SlotView → Acted
receive ports k field value scripts =
    receiving ports k scripts (call_of ports k field value scripts)

-- the kinds of the scripts, which no call changes
abbrev pub kinds_of : List SlotView → List Kind
kinds_of scripts = map (λ (r : SlotView). r.kind) scripts
