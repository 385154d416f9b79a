-- Which addresses a host answers, and which datagrams it takes (our choice, by RFC 9000, section
-- 8.1). An address is known at the number of a peer once a Hello from there brought back the cookie
-- that a Welcome to it had. Only known addresses are answered otherwise than by a Welcome, and a
-- Welcome to another one has no more bytes than the Hello that it answers.
use Rattle.std.specs.Prelude.{ℕ, ◌+◌, ◌-◌, ◌^◌, min, ◌&&◌, ◌||◌, Bool, true, false, List}
use Rattle.std.specs.Prelude.{Option, None, Some, codes, nat_le, nat_eq, if◌then◌else◌}
use Rattle.std.specs.Cmp.Lexicographic.{pointwise}
use Rattle.std.specs.Net.Socket.{socket_port}
use Rattle.std.specs.declared.net.socket_addr.SocketAddr.{SocketAddr}
use Rattle.share_keys.specs.Hmac.{hmac}
use Rattle.share_cookies.specs.Cookies.{cookie_of}
use Rattle.share_cookies.specs.Secrets as cookies
use Rattle.share_cookies.specs.declared.secrets.Secrets.{Secrets}
use Rattle.share_guards.specs.declared.guard.Asked.{Asked}
use Rattle.share_guards.specs.declared.guard.Guard.{Guard}
use Rattle.share_guards.specs.declared.kind.Kind.{Kind}
use Rattle.share_guards.specs.declared.kind.Kind.TheVariants.{Greets, Asks, Offers, Strange}
use Rattle.share_guards.specs.Places.{knows, noted, octets_of, same_place}
use Rattle.share_guards.specs.Seats as seats

-- one more, up to 2^64 - 1
abbrev pub dropping : Guard → Guard
dropping g = record g { dropped = min (g.dropped + 1) (2 ^ 64 - 1) }

-- ---- cookies

-- the cookie of a viewer at an address, by the current secret
abbrev pub cookie_at : Secrets → SocketAddr → (who : ℕ) → List ℕ
cookie_at s place who = cookie_of s.current (octets_of place) (socket_port place) who

-- it is the cookie of a viewer at an address, by the current secret or the one before it
abbrev pub is_known_cookie : Secrets → (cookie : List ℕ) → SocketAddr → (who : ℕ) → Bool
is_known_cookie s cookie place who =
    pointwise nat_eq cookie (cookie_of s.current (octets_of place) (socket_port place) who)
    || pointwise nat_eq cookie (cookie_of s.former (octets_of place) (socket_port place) who)

-- further secrets are made of a seed, which changes
abbrev pub secret_after : (seed : List ℕ) → List ℕ
secret_after seed = hmac seed (codes "secret")

abbrev pub seed_after : (seed : List ℕ) → List ℕ
seed_after seed = hmac seed (codes "seed")

-- ---- what comes

-- a Hello that brings back its cookie makes its address known; another one of an address that isn't
-- known is to be answered
abbrev pub greeted : Guard → (peer : ℕ) → SocketAddr → (who : ℕ) → (cookie : List ℕ)
    → (count : ℕ) → Guard
greeted g peer place who cookie count =
    if is_known_cookie g.secrets cookie place who
    then record g { known = noted g.known peer place; asked = None }
    else if knows g.known peer place then g
    else record g { asked = Some (record { place = place; room = count }) }

-- an ask or an offer of a known address is taken if its seat is within the limits
abbrev pub takes : Guard → (peer : ℕ) → SocketAddr → (who : ℕ) → (is_offer : Bool) → Bool
takes g peer place who is_offer = knows g.known peer place && seats.has_room g.seats who is_offer

abbrev pub after_take : Guard → (peer : ℕ) → SocketAddr → (who : ℕ) → (is_offer : Bool) → Guard
after_take g peer place who is_offer =
    if takes g peer place who is_offer
    then record g { seats = seats.taken g.seats who is_offer }
    else dropping g

-- whether a datagram from an address is handed on
abbrev pub hands_on_at : Guard → (peer : ℕ) → SocketAddr → Kind → Bool
hands_on_at g peer place (Greets who cookie) = true
hands_on_at g peer place (Asks who) = takes g peer place who false
hands_on_at g peer place (Offers who) = takes g peer place who true
hands_on_at g peer place Strange = false

abbrev pub after_came_at : Guard → (peer : ℕ) → SocketAddr → Kind → (count : ℕ) → Guard
after_came_at g peer place (Greets who cookie) count = greeted g peer place who cookie count
after_came_at g peer place (Asks who) count = after_take g peer place who false
after_came_at g peer place (Offers who) count = after_take g peer place who true
after_came_at g peer place Strange count = dropping g

-- a peer without an address is heard by no one
abbrev pub hands_on : Guard → (peer : ℕ) → Option SocketAddr → Kind → Bool
hands_on g peer None kind = false
hands_on g peer (Some place) kind = hands_on_at g peer place kind

abbrev pub after_came : Guard → (peer : ℕ) → Option SocketAddr → Kind → (count : ℕ) → Guard
after_came g peer None kind count = dropping g
after_came g peer (Some place) kind count = after_came_at g peer place kind count

-- ---- what is sent

-- the last Hello that isn't answered is of this address, and had at least `count` bytes
abbrev pub has_room : Option Asked → SocketAddr → (count : ℕ) → Bool
has_room None place count = false
has_room (Some asked) place count = same_place asked.place place && nat_le count asked.room

abbrev pub answers : Guard → SocketAddr → (is_welcome : Bool) → (count : ℕ) → Bool
answers g place is_welcome count = is_welcome && has_room g.asked place count

-- what is sent to a known address is allowed, and the answer to a Hello
abbrev pub allows : Guard → (to : ℕ) → Option SocketAddr → (is_welcome : Bool) → (count : ℕ)
    → Bool
allows g to None is_welcome count = false
allows g to (Some place) is_welcome count =
    knows g.known to place || answers g place is_welcome count

-- a Hello is answered once
abbrev pub after_sending_at : Guard → (to : ℕ) → SocketAddr → (is_welcome : Bool) → (count : ℕ)
    → Guard
after_sending_at g to place is_welcome count =
    if knows g.known to place then g
    else if answers g place is_welcome count then record g { asked = None }
    else g

abbrev pub after_sending : Guard → (to : ℕ) → Option SocketAddr → (is_welcome : Bool)
    → (count : ℕ) → Guard
after_sending g to None is_welcome count = g
after_sending g to (Some place) is_welcome count = after_sending_at g to place is_welcome count

-- ---- turns

-- the secrets after these milliseconds, and the seed, of which one more secret was made if it was
-- due
abbrev pub secrets_passed : Guard → (millis : ℕ) → Secrets
secrets_passed g millis = cookies.passed g.secrets millis (secret_after g.seed)

abbrev pub seed_passed : Guard → (millis : ℕ) → List ℕ
seed_passed g millis = if cookies.is_due g.secrets millis then seed_after g.seed else g.seed

abbrev pub passed : Guard → (millis : ℕ) → Guard
passed g millis = record g {
  secrets = secrets_passed g millis;
  seed = seed_passed g millis;
  seats = seats.passed g.seats millis;
}
