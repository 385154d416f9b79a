use Rattle.std.proofs.Common.{◌≡◌}
use Rattle.app_commands.specs.Welcomed.{with_nonce}
use Rattle.app_commands.proofs.welcomed.meet.Given as goal

abbrev pub invariant-loop-try : goal.invariant-loop-try
invariant-loop-try g l =
    (l.hello ≡ with_nonce l.meeting.hello l.hello.nonce)
    × (g.P.Port.failure_count l.port ≡ g.P.Port.failure_count l.initial.port)
    × (g.P.Port.rested l.port ≡ g.P.Port.rested l.initial.port)
