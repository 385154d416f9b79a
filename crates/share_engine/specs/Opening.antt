-- What opening a world finds.
use Rattle.std.specs.Prelude.{◌≡◌, ◌==◌, ℕ, length, Bool, true, false, List, [], nat_eq, Option, None, Some, Result, Ok, Err, if◌then◌else◌}
use Rattle.std.specs.Cmp.Lexicographic.{pointwise}
use Rattle.std.specs.Option.{option_map}
use Rattle.share_entries.specs.declared.head.Head.{Head}
use Rattle.share_entries.specs.declared.head.HeadFault.{HeadFault}
use Rattle.share_entries.specs.Base.{BaseView, base_in}
use Rattle.share_etcd.specs.Contents.{BasedView}
use Rattle.share_etcd.specs.Views.{opening_view}
use Rattle.share_engine.specs.declared.fault.ReadingFault.{ReadingFault}
use Rattle.share_engine.specs.declared.fault.WorldFault.{WorldFault}
use Rattle.share_engine.specs.declared.fault.WorldFault.TheVariants.{BadHead, WrongScene, WrongSeats}
use Rattle.share_engine.specs.declared.finding.Finding.{Finding}
use Rattle.share_engine.specs.declared.finding.Finding.TheVariants.{Made, Found}
use Rattle.share_engine.specs.Exchanges.{Exchange}
use Rattle.share_engine.specs.Faults.{world_fault}
use Rattle.share_engine.specs.Keys.{held, Always, IsKept, AfterOpening}

-- any number of viewers, or exactly this one
abbrev pub has_seats : Option ℕ → (viewers : ℕ) → Bool
has_seats None viewers = true
has_seats (Some expected) viewers = expected == viewers

-- the head that was read, if it is of this scene and has this number of viewers
abbrev pub checked : (mark : List ℕ) (viewers : Option ℕ) → Result Head HeadFault
    → Result Head WorldFault
checked mark viewers (Err fault) = Err BadHead
checked mark viewers (Ok head) =
    if pointwise nat_eq head.mark mark then
    (if has_seats viewers head.viewers then Ok head else Err WrongSeats)
    else Err WrongScene

-- a base keeps something of each viewer of the head
abbrev pub seated : Head → Option BaseView → Option BaseView
seated head None = None
seated head (Some base) = if length base.kept == head.viewers then Some base else None

-- the base of a world with this head, if it has none or its bytes are one of this head
abbrev pub base_found : Head → Option BasedView → Option (Option BaseView)
base_found head None = Some None
base_found head (Some based) = option_map Some (seated head (base_in based.base))

-- the world was made, without entries, or was there
abbrev pub IsFinding : (world : List ℕ) → Option (List Exchange) → Finding → Type 0
IsFinding world told (Made revision) =
    (run : List ℕ) → IsKept world run (record { below = 0; chain = run }) told (held revision revision [])
IsFinding world told (Found opening) =
    (run : List ℕ) → Always world run told (AfterOpening run (opening_view opening))

abbrev pub is_made : Finding → Bool
is_made (Made revision) = true
is_made (Found opening) = false

-- a fault of reading, not one of the head
abbrev pub IsOfReading : WorldFault → Type 0
IsOfReading fault = (reading : ReadingFault) × (next : ℕ) × (fault ≡ world_fault reading next)
