-- What a viewer does with the bytes of a snapshot, and which worlds have a snapshot.
use Rattle.std.specs.Prelude.{◌≡◌, ◌⊎◌, ◌<◌, ◌^◌, ℕ, List, Option, None, Some, Result, Ok, Err}
use Rattle.std.specs.Prelude.{nat_le, if◌then◌else◌}
use Rattle.cascade_core.specs.Course.{Scripted}
use Rattle.snapshot_core.specs.declared.fault.SnapFault.{SnapFault}
use Rattle.snapshot_core.specs.declared.fault.SnapFault.TheVariants.{BootNotNew, Memory}
use Rattle.snapshot_core.specs.Loading.{HasSnapshot, fault_before, loaded}
use Rattle.snapshot_core.specs.Shot.{shot}
use Rattle.share_law.specs.declared.fault.JoinFault.{JoinFault}
use Rattle.share_law.specs.declared.fault.JoinFault.TheVariants.{NotWhole}
use Rattle.share_law.specs.Calls.{IsJoin, IsNoJoin, left_by}
use Rattle.share_law.specs.Network.{join_result}
use Rattle.share_law.specs.Pieces.{Gathering, joined, whole_of}
use Rattle.share_law.specs.Viewer.{Shot, ViewerState, begun, spoiled_at}
use Rattle.share_core.specs.Viewer.{ViewerView, machine_of}

-- the viewer restarts in the world that was found, or stays unchanged
abbrev pub rewound_to : ViewerState Scripted → (boot : ℕ) → Result (ℕ × Scripted) SnapFault
    → Result ℕ SnapFault × ViewerState Scripted
rewound_to x boot (Ok found) = (Ok found.1.world.applied, begun boot found.1)
rewound_to x boot (Err fault) = (Err fault, x)

-- the answer to a rewind, and the viewer after it, unless memory runs out
abbrev pub rewound : ViewerView → (boot : ℕ) → (bytes : List ℕ)
    → Result ℕ SnapFault × ViewerState Scripted
rewound v boot bytes =
    if nat_le boot v.state.boot then (Err BootNotNew, v.state)
    else rewound_to v.state boot (loaded v.mark v.scene boot bytes)

-- Like `rewound`, for a real viewer. Memory is refused only if the boot is above the viewer's own
-- and the head of the snapshot is good. The viewer is then spoiled, with the inputs that it had
-- applied.
abbrev pub IsRewound : ViewerView → (boot : ℕ) → (bytes : List ℕ) → Result ℕ SnapFault
    → ViewerState Scripted → Type 0
IsRewound v boot bytes result new =
    (rewound v boot bytes ≡ (result, new))
    ⊎ ((v.state.boot < boot) × (fault_before v.mark bytes ≡ None) × (result ≡ Err Memory)
    × (new ≡ spoiled_at (machine_of v) v.state 0))

-- ---- what was gathered

-- the viewer restarts from the bytes of these pieces, if none is missing
abbrev pub IsBegunFrom : ViewerView → Option Gathering → (boot : ℕ) → Result ℕ JoinFault
    → ViewerState Scripted → Type 0
IsBegunFrom v None boot result new = (result ≡ Err NotWhole) × (new ≡ v.state)
IsBegunFrom v (Some g) boot result new =
    (rewound : Result ℕ SnapFault) × IsRewound v boot (joined g.places) rewound new
    × (result ≡ join_result rewound)

-- The viewer restarts from the bytes that it gathered, if no piece is missing, and then holds no
-- pieces. Else what it gathered stays.
abbrev pub IsJoined : ViewerView → Option Gathering → (boot : ℕ) → Result ℕ JoinFault
    → ViewerState Scripted → Option Gathering → Type 0
IsJoined v None boot result new held = IsNoJoin v.state v.gathering result new held
IsJoined v (Some g) boot result new held =
    (rewound : Result ℕ SnapFault) × IsRewound v boot (joined g.places) rewound new
    × (result ≡ join_result rewound) × (held ≡ left_by v.gathering rewound)

-- if what was gathered is the snapshot of a world, the join is the law's step
abbrev pub IsLawfulJoin : ViewerView → (boot : ℕ) → Result ℕ JoinFault → ViewerState Scripted
    → Option Gathering → Type 0
IsLawfulJoin v boot result new held =
    (g : Gathering) → whole_of v.gathering ≡ Some g
    → (from : Shot Scripted) → from.boot < 2 ^ 32
    → HasSnapshot v.scene from.state
    → joined g.places ≡ shot v.mark from.boot v.scene from.state
    → IsJoin (machine_of v) v.state v.gathering from boot result new held
