-- Which addresses are of this machine alone, and who may reach a host.
use Rattle.std.specs.Prelude.{◌≡◌, ◌⊎◌, Bool, true}
use Rattle.std.specs.Net.Addr.{IsLoopbackV4, IsLoopbackV6, IsUnspecifiedV4, IsUnspecifiedV6, MatchIp}
use Rattle.std.specs.Net.Socket.{socket_ip}
use Rattle.std.specs.declared.net.ip_addr.IpAddr.{IpAddr}
use Rattle.std.specs.declared.net.socket_addr.SocketAddr.{SocketAddr}

-- an address of 127.0.0.0/8, or ::1
abbrev pub IsLoopback : IpAddr → Type 0
IsLoopback ip = MatchIp ip IsLoopbackV4 IsLoopbackV6

-- 0.0.0.0 or ::, all interfaces
abbrev pub IsAll : IpAddr → Type 0
IsAll ip = MatchIp ip IsUnspecifiedV4 IsUnspecifiedV6

-- an address may be used with keys, or if anyone may come, or if it is of this machine alone
abbrev pub MayBeUsed : SocketAddr → (has_keys is_open : Bool) → Type 0
MayBeUsed address has_keys is_open =
    (has_keys ≡ true) ⊎ ((is_open ≡ true) ⊎ IsLoopback (socket_ip address))
