-- How a viewer comes into a run of its host (our choice).
use Rattle.std.specs.Prelude.{ℕ, not, false, List, Option, None, Some, Result, Ok, Err, nat_eq, if◌then◌else◌}
use Rattle.std.specs.Cmp.Lexicographic.{pointwise}
use Rattle.share_session.specs.declared.fault.DatagramFault.{DatagramFault}
use Rattle.share_session.specs.declared.message.Hello.{Hello as AHello}
use Rattle.share_session.specs.declared.message.Welcome.{Welcome as AWelcome}
use Rattle.share_session.specs.declared.message.Message2.{Message2}
use Rattle.share_session.specs.declared.message.Message2.TheVariants.{Said, Hello, Welcome}
use Rattle.share_session.specs.Welcomes.{answers}
use Rattle.share_runs.specs.declared.arrival.Arrival.{Arrival}
use Rattle.share_runs.specs.declared.arrival.ArrivalEvent.TheVariants as event
use Rattle.share_runs.specs.declared.greetings.Greetings.{Greetings}
use Rattle.share_runs.specs.Arrival.{after_event}
use Rattle.share_runs.specs.Greetings.{with_cookie}

-- a Welcome that answers this Hello
abbrev pub welcome_of : AHello → Message2 → Option AWelcome
welcome_of h (Said session b) = None
welcome_of h (Hello other) = None
welcome_of h (Welcome w) = if answers h w then Some w else None

abbrev pub welcome_in : AHello → Result Message2 DatagramFault → Option AWelcome
welcome_in h (Ok m) = welcome_of h m
welcome_in h (Err fault) = None

-- before a Welcome; the Hello's nonce is at most a second old
abbrev pub begun : AHello → Arrival
begun h = record {
  hello = h;
  age = 1000;
  run = None;
  is_bound = false;
  is_other = false;
  silence = 0;
}

-- welcomed, and bound to that run
abbrev pub arrived : AHello → AWelcome → Arrival
arrived h w =
    with_cookie (after_event (after_event (begun h) (event.Welcomed w)) event.Bound) w.cookie

abbrev pub met : AHello → (seed : List ℕ) → AWelcome → Greetings
met h seed w = record {
  arrival = arrived h w;
  seed = seed;
  since = 0;
  owes = not (pointwise nat_eq w.cookie h.cookie);
  others = 0;
}
