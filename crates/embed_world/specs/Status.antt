-- The numbers that C sees for answers, and what an export does with a handle.
use Rattle.std.specs.Prelude.{◌≡◌, ◌++◌, ℕ, List, Option, Some, None, Result, Ok, Err, drop, length, nat_lt, if◌then◌else◌}
use Rattle.snapshot_core.specs.declared.fault.SaveFault.{SaveFault}
use Rattle.snapshot_core.specs.declared.fault.SaveFault.TheVariants as save
use Rattle.snapshot_core.specs.declared.fault.SnapFault.{SnapFault}
use Rattle.snapshot_core.specs.declared.fault.SnapFault.TheVariants as snap
use Rattle.cascade_core.specs.declared.fault.ApplyFault.{ApplyFault}
use Rattle.cascade_core.specs.declared.fault.ApplyFault.TheVariants as apply
use Rattle.cascade_core.specs.declared.fault.ForgetFault.{ForgetFault}
use Rattle.cascade_core.specs.declared.fault.ForgetFault.TheVariants as forget
use Rattle.cascade_core.specs.declared.fault.PlaceFault.{PlaceFault}
use Rattle.cascade_core.specs.declared.fault.PlaceFault.TheVariants as place
use Rattle.embed_world.specs.declared.fault.LookFault.{LookFault}
use Rattle.embed_world.specs.declared.fault.LookFault.TheVariants as look

-- ---- statuses

-- the handle is empty
abbrev pub closed : ℕ
closed = 10

-- a number is out of its range
abbrev pub out_of_range : ℕ
out_of_range = 11

-- there is no such node
abbrev pub no_such_node : ℕ
no_such_node = 23

-- the node has no such field
abbrev pub no_such_field : ℕ
no_such_field = 24

-- there is no such datagram
abbrev pub no_packet : ℕ
no_packet = 25

-- there is no room for everything
abbrev pub no_room : ℕ
no_room = 12

abbrev pub status_of_apply : ApplyFault → ℕ
status_of_apply apply.Spoiled = 20
status_of_apply apply.NotNext = 21
status_of_apply apply.TimeNotLater = 22
status_of_apply apply.Memory = 5

abbrev pub status_of_look : Result (Unit {0}) LookFault → ℕ
status_of_look (Ok _) = 0
status_of_look (Err look.Spoiled) = 20
status_of_look (Err look.NoSuchNode) = 23
status_of_look (Err look.NoSuchField) = 24
status_of_look (Err look.NoValue) = 28
status_of_look (Err look.Memory) = 5

abbrev pub status_of_place : Result (Unit {0}) PlaceFault → ℕ
status_of_place (Ok _) = 0
status_of_place (Err place.Spoiled) = 20
status_of_place (Err place.NoSuchScript) = 26
status_of_place (Err place.KindDiffers) = 27
status_of_place (Err place.Memory) = 5

abbrev pub status_of_forget : Result (Unit {0}) ForgetFault → ℕ
status_of_forget (Ok _) = 0
status_of_forget (Err forget.Spoiled) = 20
status_of_forget (Err forget.Ahead) = 11

abbrev pub status_of_save : Result (Unit {0}) SaveFault → ℕ
status_of_save (Ok _) = 0
status_of_save (Err save.Spoiled) = 20
status_of_save (Err save.Memory) = 5

abbrev pub status_of_snap : SnapFault → ℕ
status_of_snap snap.Short = 30
status_of_snap snap.BadMagic = 31
status_of_snap snap.BadVersion = 32
status_of_snap snap.WrongScene = 33
status_of_snap snap.BadDigest = 34
status_of_snap snap.NotCanonical = 35
status_of_snap snap.BootNotNew = 36
status_of_snap snap.ScriptState = 37
status_of_snap snap.Memory = 5

-- ---- what is copied out

-- everything is copied if there is room, and the rest of the buffer is unchanged; how many there
-- are is returned
abbrev pub IsCopied : {A : Type 0} → (all old : List A) → (status wanted : ℕ) → (new : List A)
    → Type 0
IsCopied all old status wanted new =
    (wanted ≡ length all)
    × (status ≡ (if nat_lt (length old) (length all) then no_room else 0))
    × (new ≡ (if nat_lt (length old) (length all) then old else all ++ drop (length all) old))

-- ---- calls

-- what the handle holds is called, and the handle then holds what the call leaves; an empty handle
-- is not called
abbrev pub Calls : {H A : Type 0} → (H → A → H → Type 0) → (A → ℕ) → Option H → ℕ → Option H
    → Type 0
Calls {H} {A} does status_of None status after = (status ≡ closed) × (after ≡ None)
Calls {H} {A} does status_of (Some w) status after =
    (answer : A) × (next : H)
    × does w answer next × (status ≡ status_of answer) × (after ≡ Some next)

-- like Calls, and the answer's result is written over the old value
abbrev pub CallsOut : {H A O : Type 0} → (H → A → H → Type 0) → (A → ℕ) → (O → A → O) → Option H
    → ℕ → Option H → (old new : O) → Type 0
CallsOut {H} {A} does status_of told None status after old new =
    (status ≡ closed) × (after ≡ None) × (new ≡ old)
CallsOut {H} {A} does status_of told (Some w) status after old new =
    (answer : A) × (next : H)
    × does w answer next × (status ≡ status_of answer) × (after ≡ Some next)
    × (new ≡ told old answer)

-- something is read of what the handle holds, which is unchanged
abbrev pub Asks : {H A : Type 0} → (H → A) → Option H → ℕ → (old new : A) → Type 0
Asks asked None status old new = (status ≡ closed) × (new ≡ old)
Asks asked (Some w) status old new = (status ≡ 0) × (new ≡ asked w)

-- like Asks, with this status
abbrev pub AsksBy : {H A : Type 0} → (H → A) → (said : ℕ) → Option H → ℕ → (old new : A) → Type 0
AsksBy asked said None status old new = (status ≡ closed) × (new ≡ old)
AsksBy asked said (Some w) status old new = (status ≡ said) × (new ≡ asked w)

-- what was found is written; if nothing was, the status is `missing` and nothing is written
abbrev pub IsWritten : {A : Type 0} → (missing : ℕ) → Option A → (old : A) → (status : ℕ)
    → (new : A) → Type 0
IsWritten missing None old status new = (status ≡ missing) × (new ≡ old)
IsWritten missing (Some found) old status new = (status ≡ 0) × (new ≡ found)

-- the number of a field is written, if there is one
abbrev pub IsFound : Option ℕ → (old status new : ℕ) → Type 0
IsFound found old status new = IsWritten no_such_field found old status new

-- a field is looked up in what the handle holds, which is unchanged
abbrev pub Finds : {H : Type 0} → (H → Option ℕ) → Option H → ℕ → (old new : ℕ) → Type 0
Finds found None status old new = (status ≡ closed) × (new ≡ old)
Finds found (Some h) status old new = IsFound (found h) old status new

-- the number of a viewer is written, if there is such a viewer
abbrev pub IsHeard : Option ℕ → (old status new : ℕ) → Type 0
IsHeard found old status new = IsWritten out_of_range found old status new

-- a viewer is looked up in what the handle holds, which is unchanged
abbrev pub Hears : {H : Type 0} → (H → Option ℕ) → Option H → ℕ → (old new : ℕ) → Type 0
Hears found None status old new = (status ≡ closed) × (new ≡ old)
Hears found (Some h) status old new = IsHeard (found h) old status new

-- bytes or numbers of what the handle holds are copied
abbrev pub Copies : {H A : Type 0} → (H → List A) → Option H → ℕ → (old : List A)
    → (wanted_old wanted : ℕ) → (new : List A) → Type 0
Copies all None status old wanted_old wanted new =
    (status ≡ closed) × (wanted ≡ wanted_old) × (new ≡ old)
Copies all (Some w) status old wanted_old wanted new = IsCopied (all w) old status wanted new

-- ---- datagrams

-- a datagram is copied; if there is none, nothing is
abbrev pub IsHandedOut : (none : ℕ) → Option (List ℕ) → (old : List ℕ) → (status : ℕ)
    → (wanted_old wanted : ℕ) → (new : List ℕ) → Type 0
IsHandedOut none None old status wanted_old wanted new =
    (status ≡ none) × (wanted ≡ wanted_old) × (new ≡ old)
IsHandedOut none (Some bytes) old status wanted_old wanted new =
    IsCopied bytes old status wanted new

-- a datagram of what the handle holds is copied
abbrev pub HandsOut : {H : Type 0} → (none : ℕ) → (H → Option (List ℕ)) → Option H → ℕ
    → (old : List ℕ) → (wanted_old wanted : ℕ) → (new : List ℕ) → Type 0
HandsOut none made None status old wanted_old wanted new =
    (status ≡ closed) × (wanted ≡ wanted_old) × (new ≡ old)
HandsOut none made (Some h) status old wanted_old wanted new =
    IsHandedOut none (made h) old status wanted_old wanted new
