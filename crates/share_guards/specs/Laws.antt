-- What holds of a guard, whatever comes and is to be sent (our choice, by RFC 9000, section 8.1).
use Rattle.std.specs.Prelude.{◌≡◌, ◌≤◌, ◌⊎◌, ◌&&◌, ◌+◌, ℕ, Bool, true, List, [], ◌∷◌}
use Rattle.std.specs.Prelude.{Option, None, Some, ⊤, if◌then◌else◌}
use Rattle.std.specs.declared.net.socket_addr.SocketAddr.{SocketAddr}
use Rattle.share_guards.specs.declared.guard.Guard.{Guard}
use Rattle.share_guards.specs.declared.kind.Kind.{Kind}
use Rattle.share_guards.specs.declared.kind.Kind.TheVariants.{Greets, Asks, Offers, Strange}
use Rattle.share_guards.specs.Guard.{after_came, after_sending, allows, is_known_cookie, passed}
use Rattle.share_guards.specs.Places.{is_at, known_at, knows}

-- A datagram of this many bytes came from a peer, which had this address; one was to be sent; a
-- turn ended, after these milliseconds.
pub data Event : Type 0 where
  came : (peer : ℕ) → Option SocketAddr → Kind → (count : ℕ) → Event
  sending : (to : ℕ) → Option SocketAddr → (is_welcome : Bool) → (count : ℕ) → Event
  turned : (millis : ℕ) → Event

abbrev pub after : Guard → Event → Guard
after g (came peer place kind count) = after_came g peer place kind count
after g (sending to place is_welcome count) = after_sending g to place is_welcome count
after g (turned millis) = passed g millis

abbrev pub after_all : Guard → List Event → Guard
after_all g [] = g
after_all g (e ∷ es) = after_all (after g e) es

-- ---- the bytes of an address

-- the bytes that came from an address
abbrev pub bytes_in : SocketAddr → Event → ℕ
bytes_in p (came peer place kind count) = if is_at place p then count else 0
bytes_in p (sending to place is_welcome count) = 0
bytes_in p (turned millis) = 0

abbrev pub all_in : SocketAddr → List Event → ℕ
all_in p [] = 0
all_in p (e ∷ es) = bytes_in p e + all_in p es

-- the bytes that are sent to an address, which are those that the guard allows
abbrev pub bytes_out : SocketAddr → Guard → Event → ℕ
bytes_out p g (came peer place kind count) = 0
bytes_out p g (sending to place is_welcome count) =
    if is_at place p && allows g to place is_welcome count then count else 0
bytes_out p g (turned millis) = 0

abbrev pub all_out : SocketAddr → Guard → List Event → ℕ
all_out p g [] = 0
all_out p g (e ∷ es) = bytes_out p g e + all_out p (after g e) es

-- what is sent to an address is a Welcome
abbrev pub IsWelcome : SocketAddr → Guard → Event → Type 0
IsWelcome p g (came peer place kind count) = ⊤
IsWelcome p g (sending to place is_welcome count) =
    is_at place p ≡ true → allows g to place is_welcome count ≡ true → is_welcome ≡ true
IsWelcome p g (turned millis) = ⊤

abbrev pub AreWelcomes : SocketAddr → Guard → List Event → Type 0
AreWelcomes p g [] = ⊤
AreWelcomes p g (e ∷ es) = IsWelcome p g e × AreWelcomes p (after g e) es

-- ---- cookies

-- a Hello from an address, at a peer's number, with a cookie that is known at that moment
abbrev pub IsGreeting : Guard → SocketAddr → Kind → Type 0
IsGreeting g place (Greets who cookie) = is_known_cookie g.secrets cookie place who ≡ true
IsGreeting g place (Asks who) = ⊥
IsGreeting g place (Offers who) = ⊥
IsGreeting g place Strange = ⊥

abbrev pub IsFrom : Guard → (peer : ℕ) → SocketAddr → (from : ℕ) → Option SocketAddr → Kind
    → Type 0
IsFrom g peer p from None kind = ⊥
IsFrom g peer p from (Some place) kind = (from ≡ peer) × (place ≡ p) × IsGreeting g place kind

abbrev pub Brings : Guard → (peer : ℕ) → SocketAddr → Event → Type 0
Brings g peer p (came from place kind count) = IsFrom g peer p from place kind
Brings g peer p (sending to place is_welcome count) = ⊥
Brings g peer p (turned millis) = ⊥

abbrev pub Brought : Guard → (peer : ℕ) → SocketAddr → List Event → Type 0
Brought g peer p [] = ⊥
Brought g peer p (e ∷ es) = Brings g peer p e ⊎ Brought (after g e) peer p es

-- ---- laws

-- a guard that knows no address, and was asked nothing
abbrev pub IsNew : Guard → Type 0
IsNew g = ((peer : ℕ) → known_at g.known peer ≡ None) × (g.asked ≡ None)

-- Of whatever comes and is to be sent, no more bytes are sent to an address than came from it, and
-- only Welcomes, unless it brought back a cookie.
abbrev pub StrangersGetNoMore : Type 0
StrangersGetNoMore =
    (g : Guard) (p : SocketAddr) (es : List Event) → IsNew g
    → ((peer : ℕ) → ¬ Brought g peer p es)
    → (all_out p g es ≤ all_in p es) × AreWelcomes p g es

-- an address is known at a peer's number only if it brought back a cookie there
abbrev pub KnownBroughtACookie : Type 0
KnownBroughtACookie =
    (g : Guard) (peer : ℕ) (p : SocketAddr) (es : List Event) → IsNew g
    → knows (after_all g es).known peer p ≡ true → Brought g peer p es
