-- The part of a host that drops inputs stays that of its log.
use Rattle.std.proofs.Common.{◌≡◌, ℕ, ◌+◌, ◌≤◌, Bool, true, false, List, length, refl, sym, ◌∙◌, ap, arith}
use Rattle.std.specs.Prelude.{Option, Some, None, Result, Ok, Err, nat_lt, if◌then◌else◌, drop, ◌-◌}
use Rattle.std.proofs.lemmas.Bool.Decides.{nat_tests}
use Rattle.share_entries.specs.Entry.{EntryView}
use Rattle.share_law.specs.declared.fault.FloorFault.{FloorFault}
use Rattle.share_law.specs.declared.fault.FloorFault.TheVariants.{FloorBack, FloorAhead}
use Rattle.share_law.specs.Host.{HostState, drop_below}
use Rattle.share_law.specs.Parts.{HostPart, part_drop_below, part_of}
use Rattle.share_turns.specs.Attendance.{lowest_dropped}
use Rattle.share_turns.specs.Runs.{dropped_below, kept_for, next_floor}
use Rattle.share_turns.specs.declared.attendance.Attendance.{Attendance}
use Rattle.laws_hosts.specs.Log.{host_of, inputs_of}
use Rattle.share_logged.specs.Logged.{logged}
use Rattle.share_logged.specs.Making.{IsLogOf, IsOfLog}
use Rattle.share_logged.proofs.Keeping.{by-part}
use Rattle.share_logged.proofs.Making.{logged-inputs}

-- the part of the host of a log, from a floor on
of-floor : (v : ℕ) (es : List EntryView) (q : HostPart) (f : ℕ) → IsLogOf v es → 1 ≤ f → f ≤ length es + 1 → q ≡ part_of (host_of v (logged es) f) → IsOfLog v es q
of-floor v es q f log one low is =
    let floor : q.floor ≡ f = ap (λ (x : HostPart). x.floor) is in
    record {
      log = log;
      from_one = omega (arith, one, floor);
      to_next = omega (arith, low, floor);
      same = is ∙ ap (λ k. part_of (host_of v (logged es) k)) (sym floor);
    }

host-dropped : (v : ℕ) (es : List EntryView) (fl f : ℕ) (q : HostPart) → IsLogOf v es → 1 ≤ fl → fl ≤ length es + 1 → (a b : Bool) → nat_lt f fl ≡ a
    → nat_lt (length (inputs_of (logged es)) + 1) f ≡ b
    → q ≡ part_of (let r : Result ℕ FloorFault × HostState = if a then (Err FloorBack, host_of v (logged es) fl) else if b then (Err FloorAhead, host_of v (logged es) fl) else (Ok f, host_of v (logged es) f) in r).1
    → IsOfLog v es q
host-dropped v es fl f q log one low true b ea eb is = of-floor v es q fl log one low is
host-dropped v es fl f q log one low false true ea eb is = of-floor v es q fl log one low is
host-dropped v es fl f q log one low false false ea eb is =
    let many = logged-inputs es in
    let above : fl ≤ f = grind (arith, nat_tests) in
    let within : f ≤ length (inputs_of (logged es)) + 1 = grind (arith, nat_tests) in
    of-floor v es q f log (omega (arith, one, above)) (omega (arith, within, many)) is

pub dropped-of : (v : ℕ) (es : List EntryView) (p : HostPart) (f : ℕ) → IsOfLog v es p → IsOfLog v es (part_drop_below p f).1
dropped-of v es p f is =
    let h : HostState = host_of v (logged es) p.floor in
    let by = by-part v p.floor es is.from_one is.to_next in
    let same : (part_drop_below p f).1 ≡ part_of (drop_below h f).1 =
    ap (λ (q : HostPart). (part_drop_below q f).1) is.same ∙ ap (λ (r : Result ℕ FloorFault × HostPart). r.1) (by.drop f) in
    host-dropped v es p.floor f (part_drop_below p f).1 is.log is.from_one is.to_next (nat_lt f p.floor) (nat_lt (length (inputs_of (logged es)) + 1) f) refl refl same

below-of : (v : ℕ) (es : List EntryView) (o : Option ℕ) (p : HostPart) → IsOfLog v es p → IsOfLog v es (dropped_below o p)
below-of v es None p is = is
below-of v es (Some f) p is = dropped-of v es p f is

pub kept-of : (v : ℕ) (es : List EntryView) (keep : Option ℕ) (a : Attendance) (p : HostPart) → IsOfLog v es p → IsOfLog v es (kept_for keep a p)
kept-of v es keep a p is = below-of v es (next_floor keep (lowest_dropped (length p.kept) a) p) p is

-- ---- the time of the last input stays

drop-last : (p : HostPart) (f : ℕ) (a b : Bool) → (let r : Result ℕ FloorFault × HostPart = if a then (Err FloorBack, p) else if b then (Err FloorAhead, p) else (Ok f, record p { floor = f; rest = drop (f - p.floor) p.rest }) in r).1.last ≡ p.last
drop-last p f true b = refl
drop-last p f false true = refl
drop-last p f false false = refl

below-last : (o : Option ℕ) (p : HostPart) → (dropped_below o p).last ≡ p.last
below-last None p = refl
below-last (Some f) p = drop-last p f (nat_lt f p.floor) (nat_lt (p.count + 1) f)

pub kept-last : (keep : Option ℕ) (a : Attendance) (p : HostPart) → (kept_for keep a p).last ≡ p.last
kept-last keep a p = below-last (next_floor keep (lowest_dropped (length p.kept) a) p) p
