use Rattle.std.proofs.Common.{rules, ◌≡◌, ◌∙◌, ap, length}
use Rattle.share_law.specs.Parts.{new_part}
use Rattle.share_turns.specs.Seats.{seats_of, ways_of}
use Rattle.app_commands.specs.Joining.{Joint}
use Rattle.app_commands.proofs.Agreed.{is_agreed, is_agreed_in_part, written}
use Rattle.app_commands.proofs.joining.agree_job.Goals as goal

pub returns-in-Ok-clause-done : goal.returns-in-Ok-clause-done
returns-in-Ok-clause-done g c =
    let ways = ways_of g.P.Port.told g.P.Port.failure_count in
    let before = c.args.job.now in
    let job : Joint = record { inputs = before.inputs; mark = before.mark; viewers = before.viewers.items } in
    let left = seats_of c.agree.new.viewers c.agree.new.ports in
    let same : length c.agree.new.viewers ≡ length before.viewers.items = search rules in
    let all : before.viewers.len ≡ length before.viewers.items = search rules in
    let counted : c.count_of.result ≡ length before.viewers.items = search rules in
    rw (written before.viewers.len c.agree.new.viewers before.viewers.items same all)
    (is_agreed ways job c.args.own c.args.turns c.args.port.now c.args.ports.now c.agree.new.port left c.new-host.result.mark c.new-host.result.part c.agree.new.host.part
    c.as_slice.result.now c.deref_mut.result.now (ap (λ h. h.mark) c.new-host.ensures) (ap (λ h. h.part) c.new-host.ensures ∙ ap new_part counted)
    c.as_slice.ensures.value c.deref_mut.ensures.value c.new-text.result.items c.agree.new.out.items c.new-text.ensures.items c.in-Ok.ensures.done c.in-Ok.ensures.texts)

pub returns-in-Err-clause-ended : goal.returns-in-Err-clause-ended
returns-in-Err-clause-ended g c =
    let ways = ways_of g.P.Port.told g.P.Port.failure_count in
    let before = c.args.job.now in
    let job : Joint = record { inputs = before.inputs; mark = before.mark; viewers = before.viewers.items } in
    let left = seats_of c.agree.new.viewers c.agree.new.ports in
    let same : length c.agree.new.viewers ≡ length before.viewers.items = search rules in
    let all : before.viewers.len ≡ length before.viewers.items = search rules in
    let counted : c.count_of.result ≡ length before.viewers.items = search rules in
    rw c.series_fault.ensures (rw (written before.viewers.len c.agree.new.viewers before.viewers.items same all)
    (is_agreed_in_part ways job c.args.own c.args.turns c.args.port.now c.args.ports.now c.agree.new.port left c.new-host.result.mark c.new-host.result.part c.agree.new.host.part
    c.as_slice.result.now c.deref_mut.result.now (ap (λ h. h.mark) c.new-host.ensures) (ap (λ h. h.part) c.new-host.ensures ∙ ap new_part counted)
    c.as_slice.ensures.value c.deref_mut.ensures.value c.in-Err.fault c.in-Err.ensures.ended))
