-- The port of a world, over two queues.
use Rattle.std.specs.Prelude.{◌≡◌, ◌⊎◌, ℕ, ◌+◌, ◌-◌, ◌^◌, ◌*◌, ◌<◌, min, List, ◌++◌, ◌∷◌, [], length, take, Option, None, Some, Result, Ok, Err}
use Rattle.std.specs.declared.net.socket_addr.SocketAddr.{SocketAddr}
use Rattle.share_peers.specs.Table.{AllKept, IsAt, Table, count_of}
use Rattle.share_turns.specs.Told.{one_more}
use Rattle.share_turns.specs.declared.traffic.Traffic.{Traffic}
use Rattle.share_turns.specs.declared.port.PortFault.{PortFault}
use Rattle.share_worlds.specs.Queues.{parcel}
use Rattle.share_worlds.specs.declared.queue.Parcel.{Parcel}

-- how many datagrams wait for a world, and how many wait to leave it
abbrev pub most_waiting : ℕ
most_waiting = 64

abbrev pub most_leaving : ℕ
most_leaving = 256

-- how many addresses a port of a world keeps, and how many peers it has
abbrev pub kept_of : (viewers : ℕ) → ℕ
kept_of viewers = 8 + 2 * viewers

abbrev pub peers_of : (viewers : ℕ) → ℕ
peers_of viewers = kept_of viewers + 64

-- a port of a world records no traffic; its queues say what passed
abbrev pub no_record : Option (List Traffic)
no_record = None

-- no send and no receive fails
abbrev pub no_failures : ℕ
no_failures = 0

-- a datagram is at the end of a queue, which had fewer than `most`; or it is lost, and counted
abbrev pub IsPut : (most : ℕ) → Parcel → (old new : List Parcel) → (lost lost_new : ℕ) → Type 0
IsPut most p old new lost lost_new =
    ((new ≡ old ++ p ∷ []) × (lost_new ≡ lost) × (length old < most))
    ⊎ ((new ≡ old) × (lost_new ≡ one_more lost))

-- what is sent to a peer waits to leave to its address, or is lost; a peer without an address gets
-- nothing
abbrev pub IsPosted : Option SocketAddr → (bytes : List ℕ) → (old new : List Parcel)
    → (lost lost_new : ℕ) → Type 0
IsPosted None bytes old new lost lost_new = (new ≡ old) × (lost_new ≡ lost)
IsPosted (Some address) bytes old new lost lost_new =
    IsPut most_leaving (parcel address bytes) old new lost lost_new

-- what is received is the oldest that arrived, and its peer has the address that it came from;
-- nothing is received if nothing waits, or if there is no number for its address
abbrev pub IsTaken : Result (Option (ℕ × ℕ)) PortFault → (into : List ℕ) → (old new : List Parcel)
    → (table : Table) → (addresses : List (Option SocketAddr)) → Type 0
IsTaken (Ok None) into old new table addresses =
    ((old ≡ []) × (new ≡ []))
    ⊎ ((p : Parcel) × (old ≡ p ∷ new) × AllKept table.kept (count_of table))
IsTaken (Ok (Some r)) into old new table addresses =
    (p : Parcel) × (old ≡ p ∷ new) × (take r.1 into ≡ p.bytes) × IsAt addresses r.0 p.address
IsTaken (Err fault) into old new table addresses = ⊥

-- the milliseconds that a rest takes: those that passed since the last one, at most as many as can
-- still be counted
abbrev pub rest_of : (passed rested : ℕ) → ℕ
rest_of passed rested = min passed (2 ^ 64 - 1 - rested)
