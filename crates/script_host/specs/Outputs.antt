-- From which outputs scripts send.
use Rattle.std.specs.Prelude.{ℤ, List, Bool, IsTrue, length, nat_lt}
use Rattle.std.specs.List.{list_all}
use Rattle.x3d_values.specs.declared.script.Kind.{Kind}
use Rattle.script_host.specs.Behaviour.{behave, Call}
use Rattle.script_host.specs.Interface.{outputs}
use Rattle.script_slots.specs.declared.reply.Reply.{Reply}

-- all replies are sent from outputs of the kind
abbrev pub leave_by_outputs : Kind → List Reply → Bool
leave_by_outputs kind replies = list_all (λ r. nat_lt r.output (length (outputs kind))) replies

-- every call in every state sends only from outputs of the kind
abbrev pub SendsByOutputs : Type 0
SendsByOutputs = (kind : Kind) (call : Call) (state : List ℤ)
    → IsTrue (leave_by_outputs kind (behave kind call state).replies)
