-- What holds of datagrams with seals.
use Rattle.std.specs.Prelude.{◌≡◌, ◌++◌, List, ℕ, true}
use Rattle.share_session.specs.declared.message.Message2.{Message2}
use Rattle.share_session.specs.Datagram.{datagram, message_fits}
use Rattle.share_worlds.specs.Wanted.{for_message, world_of}

-- a datagram is for the world of its message, whatever seal follows
abbrev pub WorldsAreTold : Type 0
WorldsAreTold = (m : Message2) (seal : List ℕ) → message_fits m ≡ true
    → world_of (datagram m ++ seal) ≡ for_message m
