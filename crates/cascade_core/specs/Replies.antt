-- The replies of a node, as tasks.
use Rattle.std.specs.Prelude.{ℕ}
use Rattle.react_core.specs.declared.outbox.SentEvent.{SentEvent}
use Rattle.cascade_core.specs.declared.tasks.CascadeTask.{CascadeTask}
use Rattle.cascade_core.specs.declared.tasks.CascadeTask.TheVariants.{Send}

-- the task to send a reply of a node
abbrev pub send_by : ℕ → SentEvent → CascadeTask
send_by node r = Send (record { node = node; field = r.field }) r.value
