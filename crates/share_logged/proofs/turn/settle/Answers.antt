use Rattle.std.proofs.Common.{◌∙◌, ap, ℕ, ◌+◌, ◌-◌, ◌^◌, min}
use Rattle.share_law.specs.Parts.{HostPart}
use Rattle.share_turns.specs.declared.attendance.Attendance.{Attendance}
use Rattle.share_logged.proofs.Dropping.{kept-last}
use Rattle.share_logged.proofs.turn.settle.Goals as goal

pub returns-clause-last : goal.returns-clause-last
returns-clause-last g c =
    ap (λ (p : HostPart). p.last) c.drop_counted.ensures.part ∙ kept-last c.args.keep c.note.new.self c.args.host.now.part

pub returns-clause-settled : goal.returns-clause-settled
returns-clause-settled g c = record { noted = c.note.new.self; heard = c.note.ensures; kept = c.drop_counted.ensures.part; passed = c.pass.ensures }

pub returns-clause-clock : goal.returns-clause-clock
returns-clause-clock g c =
    ap (λ (a : Attendance). a.time) c.pass.ensures ∙ ap (λ (n : ℕ). min (n + c.rest-millis.result) (2 ^ 64 - 1)) c.note.ensures.time
