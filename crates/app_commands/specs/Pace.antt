-- When a viewer's asks and offers are sent, and for how long their answers are awaited. Times are
-- microseconds of a clock, up to 2^64 - 1, and rests are milliseconds.
use Rattle.std.specs.Prelude.{ℕ, ◌+◌, ◌-◌, ◌*◌, ◌/◌, ◌^◌, ◌==◌, ◌&&◌, ◌||◌, not, min, max, nat_le, nat_lt}
use Rattle.std.specs.Prelude.{Bool, true, false, if◌then◌else◌, Option, Some, None}
use Rattle.app_commands.specs.declared.pace.Pace.{Pace}

-- the time after a span, at most 2^64 - 1
abbrev pub later : (time span : ℕ) → ℕ
later time span = min (time + span) (2 ^ 64 - 1)

-- how long to wait for an answer: two round trips, at least 4 milliseconds and at most a second
abbrev pub patience_for : (trip : ℕ) → ℕ
patience_for trip = max 4_000 (min (min (2 * trip) (2 ^ 64 - 1)) 1_000_000)

-- twice as long, after an answer that didn't come in time, at most a second
abbrev pub longer : (patience : ℕ) → ℕ
longer patience = min (min (2 * patience) (2 ^ 64 - 1)) 1_000_000

-- nothing was sent, and a round trip is taken to be 50 milliseconds
abbrev pub unsent : Pace
unsent = record {
  awaited = 0;
  since = 0;
  patience = patience_for 50_000;
  trip = 50_000;
  next = 0;
  asked = 0;
  begun = 0;
  measuring = false;
  number = 0;
  offered = 0;
}

-- how much longer an answer is awaited since something was sent or came, at most until a second
-- after the last ask
abbrev pub left : Pace → (now : ℕ) → ℕ
left p now =
    if p.awaited == 0 then 0 else min (later p.since p.patience) (later p.asked 1_000_000) - now

-- an ask repeats the number of the last one within the pause
abbrev pub is_again : Pace → (next now pause : ℕ) → Bool
is_again p next now pause = (next == p.next) && nat_lt now (later p.asked pause)

-- an ask is due: no answer is awaited, and it doesn't repeat the last one, unless that had no
-- answer
abbrev pub is_due : Pace → (next now pause : ℕ) → Bool
is_due p next now pause =
    if nat_lt 0 (left p now) then false else (nat_lt 0 p.awaited || not (is_again p next now pause))

-- an ask repeats the last one, which had no answer
abbrev pub is_retry : Pace → (next : ℕ) → Bool
is_retry p next = nat_lt 0 p.awaited && (next == p.next)

-- an ask is sent; only its answer is awaited
abbrev pub asked : Pace → (next now : ℕ) → Pace
asked p next now = record p {
  awaited = 1;
  since = now;
  patience = if p.awaited == 0 then p.patience else longer p.patience;
  next = next;
  asked = now;
  begun = if is_retry p next then p.begun else now;
  measuring = if is_retry p next then p.measuring else true;
}

-- an offer repeats the last one before that could be answered
abbrev pub is_early : Pace → (number now : ℕ) → Bool
is_early p number now = (number == p.number) && nat_lt now (later p.offered p.patience)

-- an offer is sent; its answer is awaited too
abbrev pub offered : Pace → (number now : ℕ) → Pace
offered p number now = record p {
  awaited = min (p.awaited + 1) (2 ^ 32 - 1);
  since = now;
  number = number;
  offered = now;
}

-- an input or an ack comes
abbrev pub come : Pace → (now : ℕ) → Pace
come p now = record p { since = now; patience = patience_for p.trip }

-- an ack comes, which answers an ask or an offer
abbrev pub answered : Pace → Pace
answered p = record p { awaited = p.awaited - 1 }

-- the round trip, if this span passed since an input was first asked for. If it was asked for
-- again, the round trip is at most an eighth more than the one measured before
abbrev pub measure : Pace → (span : ℕ) → ℕ
measure p span = if p.begun == p.asked then span else min span (later p.trip (p.trip / 8))

-- an input comes; if it is the first that was asked for, the round trip is measured
abbrev pub measured : Pace → (number now : ℕ) → Pace
measured p number now =
    if p.measuring && (number == p.next)
    then record p { measuring = false; trip = measure p (now - p.begun) }
    else p

-- the length of the first rest, in milliseconds
abbrev pub first_rest : ℕ
first_rest = 1

-- the length of the next rest, after one of this many milliseconds
abbrev pub next_rest : (rest : ℕ) → (is_new : Bool) → ℕ
next_rest rest is_new = if is_new then first_rest else min (min (2 * rest) (2 ^ 32 - 1)) 50

-- how many milliseconds passed between two rests that ended at these times, if both are known
abbrev pub passed_between : (ended now : Option ℕ) → ℕ
passed_between None now = 0
passed_between (Some ended) None = 0
passed_between (Some ended) (Some now) = now - ended

-- a viewer that gives repeats its ask a second after the last time, or if it hasn't yet
abbrev pub is_reminded : (asked : Option ℕ) → (now : ℕ) → Bool
is_reminded None now = true
is_reminded (Some asked) now = nat_le 1000 (now - asked)

-- a viewer that only gathers repeats its ask likewise, until it sends something else
abbrev pub is_knocking : (knocks : Bool) → (asked : Option ℕ) → (now : ℕ) → Bool
is_knocking knocks asked now = knocks && is_reminded asked now
