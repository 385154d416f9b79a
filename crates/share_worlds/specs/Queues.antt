-- Datagrams in order, with addresses.
use Rattle.std.specs.Prelude.{ℕ, List, ◌++◌, ◌∷◌, [], Bool, if◌then◌else◌}
use Rattle.std.specs.declared.net.socket_addr.SocketAddr.{SocketAddr}
use Rattle.share_worlds.specs.declared.queue.Parcel.{Parcel}

abbrev pub parcel : SocketAddr → List ℕ → Parcel
parcel address bytes = record { address = address; bytes = bytes }

-- the queue with a datagram at its end, if it was added
abbrev pub pushed : Bool → Parcel → List Parcel → List Parcel
pushed is_added p old = if is_added then old ++ p ∷ [] else old
