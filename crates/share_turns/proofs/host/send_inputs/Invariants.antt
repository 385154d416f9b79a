use Rattle.std.proofs.Common.{◌≡◌, true, ◌+◌, ◌-◌, ◌≤◌}
use Rattle.share_turns.specs.Exchanges.{AreSent}
use Rattle.share_turns.proofs.Sending.{inputs_from}
use Rattle.share_turns.proofs.host.send_inputs.Given as goal

abbrev pub invariant-loop-number : goal.invariant-loop-number
invariant-loop-number g l =
    AreSent true l.to (g.P.Port.told l.initial.port) (g.P.Port.told l.port) (inputs_from l.host.mark l.host.part l.first (l.number - l.first))
    × (g.P.Port.failure_count l.port ≡ g.P.Port.failure_count l.initial.port)
    × (g.P.Port.rested l.port ≡ g.P.Port.rested l.initial.port)
    × (l.first ≤ l.number) × (l.number-end ≡ l.first + l.count) × (l.number ≤ l.number-end)
