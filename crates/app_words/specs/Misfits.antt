-- Options of `view`, `host`, `serve` and `recall` that don't go together, though each has its range (our choice).
use Rattle.std.specs.Prelude.{ℕ, Bool, true, false, ◌==◌, ◌&&◌, ◌||◌, nat_lt, not, is_none, is_some, Option, None, Some, if◌then◌else◌}
use Rattle.app_words.specs.declared.misfit.Misfit.{Misfit}
use Rattle.app_words.specs.declared.misfit.Misfit.TheVariants as misfit
use Rattle.app_words.specs.declared.order.HostOrder.{HostOrder}
use Rattle.app_words.specs.declared.order.LogUse.{LogUse}
use Rattle.app_words.specs.declared.order.LogUse.TheVariants.{Without, GoesOn, Makes, Shares}
use Rattle.app_words.specs.declared.order.ServeOrder.{ServeOrder}
use Rattle.app_words.specs.declared.order.ViewOrder.{ViewOrder}

-- the first of two reasons
abbrev pub or_else : Option Misfit → Option Misfit → Option Misfit
or_else None later = later
or_else (Some first) later = Some first

-- a host is at a port of this machine or at an address, and not at both
abbrev pub place_misfit : (why : Misfit) → (port : Option ℕ) → (has_address : Bool) → Option Misfit
place_misfit why (Some port) true = Some why
place_misfit why None false = Some why
place_misfit why port has_address = None

-- the boot that was asked for can't be above another
abbrev pub is_first_boot : Option ℕ → Bool
is_first_boot None = false
is_first_boot (Some n) = nat_lt n 2

-- a viewer joins in a boot above that of a snapshot, which is at least 1, and at a port that the
-- other viewer was told. With a key the host gives, to the port that the viewer speaks from
abbrev pub join_misfit : ViewOrder → Option Misfit
join_misfit o =
    if not o.join then None
    else if is_first_boot o.boot then Some misfit.FirstBoot
    else if not o.has_key && is_none o.at then Some misfit.NoOwnPort
    else None

-- its own port is not the host's, where that is one of this machine
abbrev pub at_misfit : (port at : Option ℕ) → Option Misfit
at_misfit (Some port) (Some own) = if own == port then Some (misfit.AtHost own) else None
at_misfit port at = None

-- it gives neither to its own port nor to the host's
abbrev pub own_misfit : (at : Option ℕ) → (to : ℕ) → Option Misfit
own_misfit None to = None
own_misfit (Some own) to = if own == to then Some (misfit.GivesToItself to) else None

abbrev pub given_misfit : (port at : Option ℕ) → (to : ℕ) → Option Misfit
given_misfit None at to = own_misfit at to
given_misfit (Some port) at to =
    if port == to then Some (misfit.GivesToHost to) else own_misfit at to

abbrev pub give_misfit : (port at give : Option ℕ) → Option Misfit
give_misfit port at None = None
give_misfit port at (Some to) = given_misfit port at to

-- ---- viewers with a key

-- a host or a viewer with keys isn't open to whoever comes
abbrev pub open_misfit : (why : Misfit) → (has_keys is_open : Bool) → Option Misfit
open_misfit why has_keys is_open = if has_keys && is_open then Some why else None

-- version 1 is spoken on one machine alone, without keys, and names no world
abbrev pub first_misfit : (wire : Option ℕ) → Option Misfit
first_misfit None = None
first_misfit (Some n) = if n == 1 then Some misfit.FirstWire else None

abbrev pub wire_misfit : ViewOrder → Option Misfit
wire_misfit o =
    if o.has_key || o.has_address || o.has_world then first_misfit o.wire else None

-- snapshots come from the host alone: another viewer has another key
abbrev pub sealed_misfit : ViewOrder → Option Misfit
sealed_misfit o = if o.has_key && is_some o.give then Some misfit.SealedGiving else None

-- the first reason why the options don't go together, if there is one
abbrev pub misfit_of : ViewOrder → Option Misfit
misfit_of o =
    or_else (place_misfit misfit.TwoHosts o.port o.has_address)
    (or_else (join_misfit o) (or_else (at_misfit o.port o.at)
    (or_else (give_misfit o.port o.at o.give)
    (or_else (open_misfit misfit.OpenWithKey o.has_key o.is_open)
    (or_else (sealed_misfit o) (wire_misfit o))))))

-- ---- hosts

abbrev pub has_log : LogUse → Bool
has_log Without = false
has_log GoesOn = true
has_log Makes = true
has_log Shares = true

abbrev pub is_shared : LogUse → Bool
is_shared Without = false
is_shared GoesOn = false
is_shared Makes = false
is_shared Shares = true

-- only a host with a log makes clocks
abbrev pub every_misfit : HostOrder → Option Misfit
every_misfit o =
    if not (has_log o.log) && is_some o.every then Some misfit.EveryWithoutLog else None

-- a world is named, logged in to and stood by for only where its log is in etcd
abbrev pub unshared_misfit : HostOrder → Option Misfit
unshared_misfit o =
    if o.has_world then Some misfit.WorldWithoutEtcd
    else if o.has_login then Some misfit.LoginWithoutEtcd
    else if is_some o.standby then Some misfit.StandbyWithoutEtcd
    else None

-- and there it has to be named
abbrev pub sharing_misfit : HostOrder → Option Misfit
sharing_misfit o =
    if not (is_shared o.log) then unshared_misfit o
    else if o.has_world then None
    else Some misfit.EtcdWithoutWorld

-- only a host with keys keeps a world, and the lines of its trace
abbrev pub forget_misfit : HostOrder → Option Misfit
forget_misfit o =
    if not o.has_keys && is_some o.forget then Some misfit.ForgetWithoutKeys else None

-- the first reason why the options don't go together, if there is one
abbrev pub host_misfit : HostOrder → Option Misfit
host_misfit o =
    or_else (place_misfit misfit.TwoPlaces o.port o.has_address)
    (or_else (every_misfit o)
    (or_else (sharing_misfit o)
    (or_else (forget_misfit o) (open_misfit misfit.OpenWithKeys o.has_keys o.is_open))))

-- ---- the worlds of a folder

-- `serve` logs in only where the logs are in etcd
abbrev pub login_misfit : ServeOrder → Option Misfit
login_misfit o = if o.has_login && not o.has_etcd then Some misfit.LoginWithoutEtcd else None

-- it has one place, as a host
abbrev pub serve_misfit : ServeOrder → Option Misfit
serve_misfit o =
    or_else (place_misfit misfit.TwoPlaces o.port o.has_address) (login_misfit o)

-- `recall` prints what a log has, or makes another
abbrev pub recall_misfit : (info makes : Bool) → Option Misfit
recall_misfit info makes = if info && makes then Some misfit.InfoOfNewLog else None
