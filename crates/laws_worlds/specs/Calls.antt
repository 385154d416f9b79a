-- The ranges of one script: its state, the values that it takes, and the values that it sends (our
-- choice of kinds and ranges).
use Rattle.std.specs.Prelude.{◌≡◌, ℤ, Bool, true, false, List, None, slice_get}
use Rattle.std.specs.List.{list_all}
use Rattle.std.specs.Option.{option_map_or}
use Rattle.x3d_values.specs.declared.script.Kind.{Kind}
use Rattle.x3d_values.specs.Tables.{FieldRowView}
use Rattle.snapshot_codec.specs.Values.{value_fits}
use Rattle.script_host.specs.Behaviour.{CallAnswer, Call, Initialize, Receive, Settle, behave}
use Rattle.script_host.specs.Events.{takes_event}
use Rattle.script_host.specs.Interface.{outputs}
use Rattle.script_host.specs.States.{state_fault}
use Rattle.script_slots.specs.declared.reply.Reply.{Reply}
use Rattle.script_running.specs.Values.{value_of}

-- the value that an input receives is of its type, and in the range of the type
abbrev pub call_fits : Kind → Call → Bool
call_fits kind Initialize = true
call_fits kind (Receive input event) = takes_event kind input event
call_fits kind Settle = true

-- the value that an output sends is of its type, and in the range of the type
abbrev pub reply_fits : Kind → Reply → Bool
reply_fits kind r =
    option_map_or (λ (e : FieldRowView). value_fits e.field_type (value_of e.field_type r.numbers))
    (slice_get (outputs kind) r.output) false

-- the script gets a state of its kind, and sends events that fit
pub record AnswerFits (kind : Kind) (a : CallAnswer) : Type 0 where
  pub in_state : state_fault kind a.state ≡ None
  pub in_replies : list_all (reply_fits kind) a.replies ≡ true

-- each call on a script in a state of its kind gives such an answer
abbrev pub CallsFit : Type 0
CallsFit =
    (kind : Kind) (call : Call) (state : List ℤ)
    → state_fault kind state ≡ None → call_fits kind call ≡ true
    → AnswerFits kind (behave kind call state)
