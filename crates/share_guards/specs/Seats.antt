-- How much of each seat is taken (our choice). Of a seat, which is a viewer's number below 64, at
-- most 8 datagrams are taken in one turn, and at most 64 offers in one second.
use Rattle.std.specs.Prelude.{ℕ, ◌+◌, ◌&&◌, ◌||◌, not, min, Bool, List, get_or, slice_set}
use Rattle.std.specs.Prelude.{replicate, nat_lt, if◌then◌else◌}
use Rattle.share_guards.specs.declared.seats.Seats.{Seats}

abbrev pub none_taken : List ℕ
none_taken = replicate 64 0

abbrev pub no_seats : Seats
no_seats = record { datagrams = none_taken; offers = none_taken; age = 0 }

-- how many datagrams of a seat were taken in this turn, and how many offers in this second
abbrev pub datagrams_of : Seats → (who : ℕ) → ℕ
datagrams_of s who = get_or s.datagrams who 0

abbrev pub offers_of : Seats → (who : ℕ) → ℕ
offers_of s who = get_or s.offers who 0

-- a datagram is no offer, or fewer than 64 offers were taken
abbrev pub is_within : (is_offer : Bool) → (count : ℕ) → Bool
is_within is_offer count = not is_offer || nat_lt count 64

-- one more datagram of a seat is within the limits
abbrev pub has_room : Seats → (who : ℕ) → (is_offer : Bool) → Bool
has_room s who is_offer =
    nat_lt who 64 && (nat_lt (datagrams_of s who) 8 && is_within is_offer (offers_of s who))

-- one more of a seat, up to what a byte is for
abbrev pub one_more_of : List ℕ → (who : ℕ) → List ℕ
one_more_of counts who = slice_set counts who (min (get_or counts who 0 + 1) 255)

abbrev pub counted : Seats → (who : ℕ) → (is_offer : Bool) → Seats
counted s who is_offer = record s {
  datagrams = one_more_of s.datagrams who;
  offers = if is_offer then one_more_of s.offers who else s.offers;
}

-- a datagram of a seat came: it is counted if it is taken
abbrev pub taken : Seats → (who : ℕ) → (is_offer : Bool) → Seats
taken s who is_offer = if has_room s who is_offer then counted s who is_offer else s

-- a turn ends: no datagrams were taken in the next one. Once a second has passed, another begins,
-- in which no offers were taken.
abbrev pub passed : Seats → (millis : ℕ) → Seats
passed s millis =
    if nat_lt (s.age + millis) 1000
    then record s { datagrams = none_taken; age = s.age + millis }
    else no_seats
