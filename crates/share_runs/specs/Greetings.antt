-- What a viewer in a run says to its host besides what its world says (our choice).
use Rattle.std.specs.Prelude.{ℕ, ◌&&◌, ◌||◌, not, Bool, false, List, Option, None, Some, nat_eq, nat_le, if◌then◌else◌}
use Rattle.std.specs.Prelude.{Result, Ok, Err}
use Rattle.std.specs.Cmp.Lexicographic.{pointwise}
use Rattle.share_session.specs.declared.fault.DatagramFault.{DatagramFault}
use Rattle.share_session.specs.declared.message.Hello.{Hello as AHello}
use Rattle.share_session.specs.declared.message.Welcome.{Welcome as AWelcome}
use Rattle.share_session.specs.declared.message.Message2.{Message2}
use Rattle.share_session.specs.declared.message.Message2.TheVariants.{Said, Hello, Welcome}
use Rattle.share_session.specs.Runs.{session_of}
use Rattle.share_turns.specs.Told.{one_more}
use Rattle.share_runs.specs.declared.arrival.Arrival.{Arrival}
use Rattle.share_runs.specs.declared.arrival.ArrivalEvent.TheVariants as event
use Rattle.share_runs.specs.declared.greetings.Greetings.{Greetings}
use Rattle.share_runs.specs.Arrival.{after_event, is_own, is_taken, later, max_age}

-- a viewer that heard nothing for a second says Hello again, at most once a second
abbrev pub pause : ℕ
pause = 1000

-- the nonce after another, by a secret of 32 bytes
abbrev pub next_nonce : (seed nonce : List ℕ) → List ℕ
next_nonce seed nonce = session_of seed nonce

abbrev pub hello_with : AHello → (cookie : List ℕ) → AHello
hello_with h cookie =
    record { mark = h.mark; who = h.who; cookie = cookie; nonce = h.nonce; name = h.name }

abbrev pub with_cookie : Arrival → List ℕ → Arrival
with_cookie a cookie = record {
  hello = hello_with a.hello cookie;
  age = a.age;
  run = a.run;
  is_bound = a.is_bound;
  is_other = a.is_other;
  silence = a.silence;
}

-- a Welcome that counts, to the viewer's own run
abbrev pub is_of_own : Arrival → AWelcome → Bool
is_of_own a w = is_taken a w && is_own a.run w.run

-- it brings a cookie that the viewer hasn't brought back
abbrev pub is_new_cookie : Arrival → AWelcome → Bool
is_new_cookie a w = is_of_own a w && not (pointwise nat_eq w.cookie a.hello.cookie)

abbrev pub welcomed_in : Arrival → AWelcome → Arrival
welcomed_in a w =
    if is_of_own a w then with_cookie (after_event a (event.Welcomed w)) w.cookie
    else after_event a (event.Welcomed w)

abbrev pub with_arrival : Greetings → Arrival → Greetings
with_arrival m a =
    record { arrival = a; seed = m.seed; since = m.since; owes = m.owes; others = m.others }

-- after a message: in its session; of another session; a Welcome
abbrev pub heeded : (session : List ℕ) → Greetings → Message2 → Greetings
heeded session m (Said other b) =
    if pointwise nat_eq other session then with_arrival m (after_event m.arrival event.Heard)
    else record {
      arrival = m.arrival;
      seed = m.seed;
      since = m.since;
      owes = m.owes;
      others = one_more m.others;
    }
heeded session m (Hello h) = m
heeded session m (Welcome w) = record {
  arrival = welcomed_in m.arrival w;
  seed = m.seed;
  since = m.since;
  owes = m.owes || is_new_cookie m.arrival w;
  others = m.others;
}

-- other bytes than a datagram of version 2 change nothing
abbrev pub heeds : (session : List ℕ) → Greetings → Result Message2 DatagramFault → Greetings
heeds session m (Ok message) = heeded session m message
heeds session m (Err fault) = m

abbrev pub elapsed : Greetings → (millis : ℕ) → Greetings
elapsed m millis = record {
  arrival = after_event m.arrival (event.Passed millis);
  seed = m.seed;
  since = later m.since millis;
  owes = m.owes;
  others = m.others;
}

-- a Hello is due: a cookie is to be brought back, or nothing was heard for a second
abbrev pub is_hello_due : Greetings → Bool
is_hello_due m = m.owes || (nat_le pause m.since && nat_le pause m.arrival.silence)

-- a nonce that is 5 seconds old is drawn again
abbrev pub renewed : Greetings → Arrival
renewed m =
    if nat_le max_age m.arrival.age
    then after_event m.arrival (event.Drawn (next_nonce m.seed m.arrival.hello.nonce))
    else m.arrival

abbrev pub greeted : Greetings → Greetings
greeted m =
    record { arrival = renewed m; seed = m.seed; since = 0; owes = false; others = m.others }

abbrev pub hello_due : Greetings → Option AHello
hello_due m = if is_hello_due m then Some (greeted m).arrival.hello else None

abbrev pub after_greeting : Greetings → Greetings
after_greeting m = if is_hello_due m then greeted m else m
