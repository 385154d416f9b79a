-- Scripts settle after the events of a timestamp (ISO/IEC 19775-1, Script: events processed; the
-- order is our choice).
use Rattle.std.specs.Prelude.{ℕ, zero, suc, Option}
use Rattle.std.specs.Option.{option_map_or}
use Rattle.script_host.specs.Behaviour.{Settle}
use Rattle.script_running.specs.Acting.{act}
use Rattle.script_slots.specs.Settling.{lowest_due, with_settled}
use Rattle.cascade_core.specs.Course.{CourseView, Wiring, node_of, ports_of}
use Rattle.cascade_core.specs.Cascade.{send_replies}

-- the lowest script that has received an event and isn't settled
abbrev pub next_due : CourseView → Option ℕ
next_due c = lowest_due c.settling

-- the script is settled, and the replies of its node are sent
unfoldable pub settle_one : Wiring → CourseView → ℕ → CourseView
settle_one wiring c k =
    let a = act (ports_of wiring k) Settle k c.scripts in
    send_replies wiring (node_of wiring k)
    (record c { scripts = a.scripts; settling = with_settled c.settling k }) a.replies

-- scripts settle until none is due, but at most n times
unfoldable pub settle_up_to : Wiring → ℕ → CourseView → CourseView
settle_up_to wiring zero c = c
settle_up_to wiring (suc n) c =
    option_map_or (λ k. settle_up_to wiring n (settle_one wiring c k)) (next_due c) c

-- scripts settle until none is due, at most once for each script
abbrev pub settle : Wiring → CourseView → CourseView
settle wiring c = settle_up_to wiring c.settling.count c
