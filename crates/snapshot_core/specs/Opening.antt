-- The versions of snapshots, and the checks before a world is read (our choice).
use Rattle.std.specs.Prelude.{ℕ, ◌==◌, List, Option, Some, None, Result, if◌then◌else◌, slice_get}
use Rattle.std.specs.Option.{option_and_then, unwrap_or}
use Rattle.snapshot_codec.specs.declared.head.HeadFault.{HeadFault}
use Rattle.snapshot_codec.specs.declared.input_number.Numbers.{Numbers}
use Rattle.snapshot_codec.specs.declared.input_number.Numbers.TheVariants.{Short, Long}
use Rattle.snapshot_codec.specs.declared.viewers.Viewers.{Viewers}
use Rattle.snapshot_codec.specs.declared.viewers.Viewers.TheVariants.{Sixteen, SixtyFour}
use Rattle.snapshot_codec.specs.Head.{head_fault, opened}
use Rattle.snapshot_core.specs.declared.version.Version.{Version}
use Rattle.snapshot_core.specs.declared.version.Version.TheVariants.{One, Two, Three}

-- ---- the versions that are read

-- the number of a version: the fifth byte of its snapshots
abbrev pub version_number : Version → ℕ
version_number One = 1
version_number Two = 2
version_number Three = 3

-- the version of this number, if there is one
abbrev pub version_of : ℕ → Option Version
version_of n =
    if n == version_number One then Some One
    else (if n == version_number Two then Some Two
    else (if n == version_number Three then Some Three else None))

-- the version of the snapshots that are written
abbrev pub newest : Version
newest = Three

-- the number of viewers that a world has in snapshots of a version
abbrev pub viewers_of : Version → Viewers
viewers_of One = Sixteen
viewers_of Two = SixtyFour
viewers_of Three = SixtyFour

-- how wide the numbers of inputs are in snapshots of a version
abbrev pub numbers_of : Version → Numbers
numbers_of One = Short
numbers_of Two = Short
numbers_of Three = Long

-- ---- the version of a snapshot

-- the version that the fifth byte names; the newest if it names none
abbrev pub version_in : List ℕ → Version
version_in bytes = unwrap_or (option_and_then version_of (slice_get bytes 4)) newest

-- what is wrong with the head or the digest, by the version that is named
abbrev pub fault_before : (mark : List ℕ) → (bytes : List ℕ) → Option HeadFault
fault_before mark bytes = head_fault (version_number (version_in bytes)) mark bytes

-- the body, by the version that is named, or the fault of the head or the digest
abbrev pub found_body : (mark : List ℕ) → (bytes : List ℕ) → Result (List ℕ) HeadFault
found_body mark bytes = opened (version_number (version_in bytes)) mark bytes
