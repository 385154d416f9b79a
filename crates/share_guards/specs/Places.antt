-- Addresses, and which of them are known at the number of a peer.
use Rattle.std.specs.Prelude.{ℕ, ◌&&◌, ◌==◌, Bool, false, List, [], ◌∷◌, Option, None, Some}
use Rattle.std.specs.Prelude.{get_or, slice_set, nat_eq}
use Rattle.std.specs.Cmp.Lexicographic.{pointwise}
use Rattle.std.specs.Net.Addr.{ipv4_octets, ipv6_octets, ipv6_segments}
use Rattle.std.specs.Net.Socket.{v4_ip, v4_port, v6_ip, v6_port, v6_flowinfo, v6_scope_id}
use Rattle.std.specs.declared.net.socket_addr.SocketAddr.{SocketAddr}
use Rattle.std.specs.declared.net.socket_addr.SocketAddr.TheVariants.{V4, V6}

-- the 4 or 16 bytes of an address
abbrev pub octets_of : SocketAddr → List ℕ
octets_of (V4 a) = ipv4_octets (v4_ip a)
octets_of (V6 a) = ipv6_octets (v6_ip a)

-- two addresses are the same, with their ports and all
abbrev pub same_place : SocketAddr → SocketAddr → Bool
same_place (V4 a) (V4 b) =
    pointwise nat_eq (ipv4_octets (v4_ip a)) (ipv4_octets (v4_ip b)) && (v4_port a == v4_port b)
same_place (V4 a) (V6 b) = false
same_place (V6 a) (V4 b) = false
same_place (V6 a) (V6 b) =
    pointwise nat_eq (ipv6_segments (v6_ip a)) (ipv6_segments (v6_ip b))
    && (v6_port a == v6_port b
    && (v6_flowinfo a == v6_flowinfo b && v6_scope_id a == v6_scope_id b))

-- there is an address, and it is this one
abbrev pub is_at : Option SocketAddr → SocketAddr → Bool
is_at None address = false
is_at (Some place) address = same_place place address

-- the address that brought back a cookie at a peer's number; none at a number for which the list
-- has no place
abbrev pub known_at : List (Option SocketAddr) → (peer : ℕ) → Option SocketAddr
known_at known peer = get_or known peer None

-- a peer is known at an address, if that one brought back a cookie at its number
abbrev pub knows : List (Option SocketAddr) → (peer : ℕ) → SocketAddr → Bool
knows known peer address = is_at (known_at known peer) address

-- a peer brought back its cookie; at a number for which the list has no place it stays
-- unknown
abbrev pub noted : List (Option SocketAddr) → (peer : ℕ) → SocketAddr → List (Option SocketAddr)
noted known peer address = slice_set known peer (Some address)

-- a port of 127.0.0.1
abbrev pub local_place : (port : ℕ) → SocketAddr
local_place port = V4 (record { ip = record { octets = 127 ∷ 0 ∷ 0 ∷ 1 ∷ [] }; port = port })
