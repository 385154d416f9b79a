-- What a host makes of a datagram (our choice). One of version 1, or none of any version, is handed
-- on. So is what a datagram of the host's session says. A Hello to the host is answered.
use Rattle.std.specs.Prelude.{ℕ, ◌&&◌, Bool, List, Option, None, Some, Result, Ok, Err, replicate, take, nat_eq, if◌then◌else◌}
use Rattle.std.specs.Cmp.Lexicographic.{pointwise}
use Rattle.share_wire.specs.Datagram.{datagram}
use Rattle.share_wire.specs.declared.message.Message.{Message}
use Rattle.share_entries.specs.declared.head.Head.{Head}
use Rattle.share_session.specs.Names.{NameView}
use Rattle.share_session.specs.Runs.{session_of}
use Rattle.share_session.specs.Heard.{heard}
use Rattle.share_session.specs.declared.fault.DatagramFault.{DatagramFault}
use Rattle.share_session.specs.declared.fault.DatagramFault.TheVariants.{BadPacket, BadVersion, BadTag, BadBody}
use Rattle.share_session.specs.declared.message.Hello.{Hello as AHello}
use Rattle.share_session.specs.declared.message.Welcome.{Welcome as AWelcome}
use Rattle.share_session.specs.declared.message.Message2.{Message2}
use Rattle.share_session.specs.declared.message.Message2.TheVariants.{Said, Hello, Welcome}
use Rattle.share_welcomes.specs.declared.host_run.HostRun.{HostRun}
use Rattle.share_welcomes.specs.declared.host_run.Coming.{Coming}
use Rattle.share_welcomes.specs.declared.host_run.Coming.TheVariants.{Plain, Heard, Greets, Strange}

-- ---- the run of a log

abbrev pub no_name : NameView
no_name = record { len = 0; bytes = replicate 64 0 }

-- the run of a host whose log has this head; its world has no name
abbrev pub run_of_head : Head → HostRun
run_of_head h = record {
  mark = h.mark;
  run = h.run;
  session = session_of h.mark h.run;
  name = no_name;
  viewers = h.viewers;
}

-- ---- what came

abbrev pub is_same : (bytes other : List ℕ) → Bool
is_same bytes other = pointwise nat_eq bytes other

abbrev pub text_of : NameView → List ℕ
text_of name = take name.len name.bytes

-- a Hello of the host's scene and of its world's name
abbrev pub is_greeted : HostRun → AHello → Bool
is_greeted r h = is_same h.mark r.mark && is_same (text_of h.name) (text_of r.name)

abbrev pub greeting : HostRun → AHello → Coming
greeting r h = if is_greeted r h then Greets h else Strange

abbrev pub heard_as : Option Message → Coming
heard_as None = Strange
heard_as (Some message) = Heard message

abbrev pub message_as : HostRun → Message2 → Coming
message_as r (Said session body) = heard_as (heard r.session r.mark (Said session body))
message_as r (Hello h) = greeting r h
message_as r (Welcome w) = Strange

abbrev pub fault_as : DatagramFault → Coming
fault_as BadPacket = Plain
fault_as BadVersion = Plain
fault_as BadTag = Strange
fault_as BadBody = Strange

-- what a host makes of a datagram, given the message of version 2 that it is, or the fault
abbrev pub coming_of : HostRun → Result Message2 DatagramFault → Coming
coming_of r (Ok message) = message_as r message
coming_of r (Err fault) = fault_as fault

-- the bytes that are handed on: those of version 1 for a datagram of the session, else as they came
abbrev pub handed : Coming → (came : List ℕ) → List ℕ
handed Plain came = came
handed (Heard message) came = datagram message
handed (Greets h) came = came
handed Strange came = came

-- the answer to a Hello, with the last boot of its viewer, or 0; the cookie is zeros
abbrev pub welcome_to : HostRun → AHello → (kept : ℕ) → AWelcome
welcome_to r h kept = record {
  mark = h.mark;
  who = h.who;
  cookie = replicate 8 0;
  nonce = h.nonce;
  run = r.run;
  viewers = r.viewers;
  kept = kept;
}
