-- How a viewer comes into a run, and when it learns that its run is over (our choice).
use Rattle.std.specs.Prelude.{◌≡◌, ℕ, ◌+◌, ◌&&◌, not, min, Bool, true, false, List, Option, None, Some, nat_eq, nat_le, if◌then◌else◌}
use Rattle.std.specs.List.{fold}
use Rattle.std.specs.Cmp.Lexicographic.{pointwise}
use Rattle.share_session.specs.declared.message.Welcome.{Welcome}
use Rattle.share_session.specs.Welcomes.{answers}
use Rattle.share_runs.specs.declared.arrival.Arrival.{Arrival}
use Rattle.share_runs.specs.declared.arrival.ArrivalEvent.{ArrivalEvent}
use Rattle.share_runs.specs.declared.arrival.ArrivalEvent.TheVariants.{Drawn, Passed, Welcomed, Heard, Bound}

-- a Hello may be answered for 5 seconds
abbrev pub max_age : ℕ
max_age = 5000

-- a viewer ends after 10 seconds in which other runs alone answered; times are counted no further
abbrev pub max_silence : ℕ
max_silence = 10000

abbrev pub later : (time millis : ℕ) → ℕ
later time millis = min max_silence (time + millis)

-- the viewer is in this run, and has just heard it
abbrev pub in_run : Arrival → List ℕ → Arrival
in_run m run = record {
  hello = m.hello;
  age = m.age;
  run = Some run;
  is_bound = m.is_bound;
  is_other = false;
  silence = 0;
}

-- another run has answered
abbrev pub among_others : Arrival → Arrival
among_others m = record {
  hello = m.hello;
  age = m.age;
  run = m.run;
  is_bound = m.is_bound;
  is_other = true;
  silence = m.silence;
}

abbrev pub is_own : Option (List ℕ) → List ℕ → Bool
is_own None run = false
is_own (Some own) run = pointwise nat_eq own run

-- a viewer that has applied an input or made an offer stays in its run; another takes the run that
-- it is welcomed to
abbrev pub welcomed : Arrival → List ℕ → Arrival
welcomed m run =
    if m.is_bound && not (is_own m.run run) then among_others m else in_run m run

-- a Welcome counts if it answers the last Hello in time
abbrev pub is_taken : Arrival → Welcome → Bool
is_taken m w = nat_le m.age max_age && answers m.hello w

abbrev pub drawn : Arrival → List ℕ → Arrival
drawn m nonce = record {
  hello = record {
    mark = m.hello.mark;
    who = m.hello.who;
    cookie = m.hello.cookie;
    nonce = nonce;
    name = m.hello.name;
  };
  age = 0;
  run = m.run;
  is_bound = m.is_bound;
  is_other = m.is_other;
  silence = m.silence;
}

abbrev pub passed : Arrival → ℕ → Arrival
passed m millis = record {
  hello = m.hello;
  age = later m.age millis;
  run = m.run;
  is_bound = m.is_bound;
  is_other = m.is_other;
  silence = later m.silence millis;
}

abbrev pub after_event : Arrival → ArrivalEvent → Arrival
after_event m (Drawn nonce) = drawn m nonce
after_event m (Passed millis) = passed m millis
after_event m (Welcomed w) = if is_taken m w then welcomed m w.run else m
after_event m Heard = record {
  hello = m.hello;
  age = m.age;
  run = m.run;
  is_bound = m.is_bound;
  is_other = false;
  silence = 0;
}
after_event m Bound = record {
  hello = m.hello;
  age = m.age;
  run = m.run;
  is_bound = true;
  is_other = m.is_other;
  silence = m.silence;
}

-- its run is over
abbrev pub is_over : Arrival → Bool
is_over m = m.is_bound && (m.is_other && nat_le max_silence m.silence)

-- a viewer that has applied an input or made an offer stays in its run, whatever comes
abbrev pub BoundStay : Type 0
BoundStay =
    (m : Arrival) (events : List ArrivalEvent) → m.is_bound ≡ true
    → (fold after_event m events).run ≡ m.run
