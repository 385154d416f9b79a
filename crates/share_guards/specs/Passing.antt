-- What passes through a guarded port (our choice).
use Rattle.std.specs.Prelude.{◌≡◌, ◌≤◌, ◌<◌, ◌⊎◌, ℕ, ⊤, Bool, true, false, List, [], ◌∷◌}
use Rattle.std.specs.Prelude.{Option, None, Some, Result, Ok, Err, length, take, is_some}
use Rattle.std.specs.declared.net.socket_addr.SocketAddr.{SocketAddr}
use Rattle.share_session.specs.Datagram.{datagram}
use Rattle.share_session.specs.Decoding.{decoded}
use Rattle.share_session.specs.declared.message.Welcome.{Welcome as AWelcome}
use Rattle.share_session.specs.declared.message.Message2.TheVariants.{Welcome}
use Rattle.share_turns.specs.Told.{Grows, max_received}
use Rattle.share_turns.specs.declared.port.PortFault.{PortFault}
use Rattle.share_turns.specs.declared.traffic.Datagram.{Datagram}
use Rattle.share_turns.specs.declared.traffic.Traffic.{Traffic}
use Rattle.share_turns.specs.declared.traffic.Traffic.TheVariants.{Nothing, Received, Sent}
use Rattle.share_guards.specs.declared.guard.Guard.{Guard}
use Rattle.share_guards.specs.declared.coming.Coming.{Coming}
use Rattle.share_guards.specs.declared.coming.Coming.TheVariants as coming
use Rattle.share_guards.specs.Guard.{after_came, after_sending, allows, cookie_at, dropping}
use Rattle.share_guards.specs.Guard.{hands_on}
use Rattle.share_guards.specs.Kinds.{kind_in, welcome_in}

-- it records nothing
abbrev pub no_record : Option (List Traffic)
no_record = None

-- ---- what comes of one datagram

abbrev pub coming_if : (taken : Bool) → (peer count : ℕ) → Coming
coming_if true peer count = coming.Handed peer count
coming_if false peer count = coming.Dropped

-- what comes of these bytes from a peer, which has this address
abbrev pub coming_at : Guard → (peer : ℕ) → Option SocketAddr → (bytes : List ℕ) → Coming
coming_at g peer place bytes =
    coming_if (hands_on g peer place (kind_in (decoded bytes))) peer (length bytes)

abbrev pub MostBytes : Coming → Type 0
MostBytes coming.Nothing = ⊤
MostBytes coming.Dropped = ⊤
MostBytes (coming.Handed peer count) = count ≤ max_received

-- ---- what comes, in all

-- the guard, and the port below it, at one moment
pub record Moment (P : Type 0) : Type 0 where
  pub guard : Guard
  pub port : P

abbrev pub moment : {P : Type 0} → Guard → P → Moment P
moment guard port = record { guard = guard; port = port }

-- over a port that records this, and whose peers have these addresses
module _ {P : Type 0} (told : P → Option (List Traffic))
    (place_of : P → ℕ → Option SocketAddr) where
  -- a datagram came below, and the guard, as it then was, refused it
  abbrev pub DropsOne : (old new : Moment P) → Type 0
  DropsOne old new =
      (d : Datagram) × Grows (told old.port) (told new.port) (Received d ∷ [])
      × (hands_on old.guard d.peer (place_of new.port d.peer) (kind_in (decoded d.bytes)) ≡ false)
      × (new.guard ≡ dropping old.guard)

  -- these bytes came below from a peer, and the guard took them
  abbrev pub HandsOne : (old new : Moment P) → (peer : ℕ) → (bytes : List ℕ) → Type 0
  HandsOne old new peer bytes =
      Grows (told old.port) (told new.port)
      (Received (record { peer = peer; bytes = bytes }) ∷ [])
      × (hands_on old.guard peer (place_of new.port peer) (kind_in (decoded bytes)) ≡ true)
      × (new.guard
      ≡ after_came old.guard peer (place_of new.port peer) (kind_in (decoded bytes))
      (length bytes))

  -- the guard is unchanged, and this passed below
  abbrev pub Leaves : (old new : Moment P) → List Traffic → Type 0
  Leaves old new passed =
      Grows (told old.port) (told new.port) passed × (new.guard ≡ old.guard)

  -- what came of one receive below
  abbrev pub ComesOne : (old new : Moment P) → (into : List ℕ) → Result Coming PortFault
      → Type 0
  ComesOne old new into (Ok coming.Nothing) = Leaves old new (Nothing ∷ [])
  ComesOne old new into (Ok coming.Dropped) = DropsOne old new
  ComesOne old new into (Ok (coming.Handed peer count)) = HandsOne old new peer (take count into)
  ComesOne old new into (Err fault) = Leaves old new []

  -- one datagram after another was dropped, each before the next of these moments
  abbrev pub AllDropped : (old : Moment P) → List (Moment P) → Type 0
  AllDropped old [] = ⊤
  AllDropped old (next ∷ later) = DropsOne old next × AllDropped next later

  abbrev pub last_of : (old : Moment P) → List (Moment P) → Moment P
  last_of old [] = old
  last_of old (next ∷ later) = last_of next later

  -- fewer than `most` datagrams were dropped, and then this came of one more receive below
  abbrev pub EndsBy : (most : ℕ) → (old new : Moment P) → (into : List ℕ)
      → Result Coming PortFault → Type 0
  EndsBy most old new into last =
      (drops : List (Moment P)) × AllDropped old drops × (length drops < most)
      × ComesOne (last_of old drops) new into last

  -- `most` datagrams were dropped, and nothing more was asked of the port below
  abbrev pub IsCutShort : (most : ℕ) → (old new : Moment P) → Type 0
  IsCutShort most old new =
      (drops : List (Moment P)) × AllDropped old drops × (length drops ≡ most)
      × (new ≡ last_of old drops)

  -- What is handed on, if anything is: a number of bytes at the front of what was received. Nothing
  -- is only if nothing arrived below, or `most` datagrams were dropped.
  abbrev pub Comes : (most : ℕ) → (old new : Moment P) → (into : List ℕ)
      → Result (Option (ℕ × ℕ)) PortFault → Type 0
  Comes most old new into (Ok None) =
      EndsBy most old new into (Ok coming.Nothing) ⊎ IsCutShort most old new
  Comes most old new into (Ok (Some r)) =
      EndsBy most old new into (Ok (coming.Handed r.0 r.1))
  Comes most old new into (Err fault) = EndsBy most old new into (Err fault)

-- ---- what is sent

abbrev pub with_cookie : AWelcome → (cookie : List ℕ) → AWelcome
with_cookie w cookie = record w { cookie = cookie }

-- a Welcome to an address has its cookie
abbrev pub welcome_at : Guard → Option SocketAddr → AWelcome → AWelcome
welcome_at g None w = w
welcome_at g (Some place) w = with_cookie w (cookie_at g.secrets place w.who)

abbrev pub welcome_text : AWelcome → List ℕ
welcome_text w = datagram (Welcome w)

abbrev pub text_for : Guard → Option SocketAddr → (bytes : List ℕ) → Option AWelcome → List ℕ
text_for g place bytes None = bytes
text_for g place bytes (Some w) = welcome_text (welcome_at g place w)

-- what is sent for these bytes to an address
abbrev pub text_sent : Guard → Option SocketAddr → (bytes : List ℕ) → List ℕ
text_sent g place bytes = text_for g place bytes (welcome_in (decoded bytes))

abbrev pub is_welcome : (bytes : List ℕ) → Bool
is_welcome bytes = is_some (welcome_in (decoded bytes))

-- a text is sent below, and the guard allows it
abbrev pub IsSent : Guard → (to : ℕ) → Option SocketAddr → (is_welcome : Bool) → (text : List ℕ)
    → (told_before told_after : Option (List Traffic)) → Type 0
IsSent g to place is_welcome text told_before told_after =
    (allows g to place is_welcome (length text) ≡ true)
    × Grows told_before told_after (Sent (record { peer = to; bytes = text }) ∷ [])

-- whether the guard allows what is sent for these bytes
abbrev pub allows_bytes : Guard → (to : ℕ) → Option SocketAddr → (bytes : List ℕ) → Bool
allows_bytes g to place bytes =
    allows g to place (is_welcome bytes) (length (text_sent g place bytes))

abbrev pub Sends : Guard → (to : ℕ) → Option SocketAddr → (bytes : List ℕ)
    → (told_before told_after : Option (List Traffic)) → Type 0
Sends g to place bytes told_before told_after =
    IsSent g to place (is_welcome bytes) (text_sent g place bytes) told_before told_after

abbrev pub after_send : Guard → (to : ℕ) → Option SocketAddr → (bytes : List ℕ) → Guard
after_send g to place bytes =
    after_sending g to place (is_welcome bytes) (length (text_sent g place bytes))
