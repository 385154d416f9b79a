-- The names of faults in a log (our choice).
use Rattle.std.specs.Prelude.{ℕ, List, codes}
use Rattle.share_wire.specs.Faults.{fault_name}
use Rattle.share_law.specs.declared.fault.NumberFault.{NumberFault}
use Rattle.share_law.specs.declared.fault.NumberFault.TheVariants as number
use Rattle.share_law.specs.declared.fault.HostFault.{HostFault}
use Rattle.share_law.specs.declared.fault.HostFault.TheVariants as host
use Rattle.share_law.specs.declared.fault.TakeFault.{TakeFault}
use Rattle.share_law.specs.declared.fault.TakeFault.TheVariants as take
use Rattle.share_law.specs.declared.fault.OfferFault.{OfferFault}
use Rattle.share_law.specs.declared.fault.OfferFault.TheVariants as offer
use Rattle.share_law.specs.declared.fault.FloorFault.{FloorFault}
use Rattle.share_law.specs.declared.fault.FloorFault.TheVariants as floor
use Rattle.share_law.specs.declared.fault.GatherFault.{GatherFault}
use Rattle.share_law.specs.declared.fault.GatherFault.TheVariants as gather
use Rattle.share_law.specs.declared.fault.JoinFault.{JoinFault}
use Rattle.share_law.specs.declared.fault.JoinFault.TheVariants as join
use Rattle.snapshot_core.specs.declared.fault.SaveFault.{SaveFault}
use Rattle.snapshot_core.specs.declared.fault.SaveFault.TheVariants as save
use Rattle.snapshot_core.specs.declared.fault.SnapFault.{SnapFault}
use Rattle.snapshot_core.specs.declared.fault.SnapFault.TheVariants as snap

abbrev pub number_name : NumberFault → List ℕ
number_name number.WorldFull = codes "WorldFull"
number_name number.TimeNotLater = codes "TimeNotLater"
number_name number.TimeRange = codes "TimeRange"
number_name number.Memory = codes "Memory"

abbrev pub host_name : HostFault → List ℕ
host_name (host.Wire fault) = fault_name fault
host_name host.WrongScene = codes "WrongScene"
host_name host.BadViewer = codes "BadViewer"
host_name (host.Number fault) = number_name fault

abbrev pub take_name : TakeFault → List ℕ
take_name take.Spoiled = codes "Spoiled"
take_name (take.Wire fault) = fault_name fault
take_name take.WrongScene = codes "WrongScene"
take_name take.NotForMe = codes "NotForMe"
take_name take.TimeNotLater = codes "TimeNotLater"
take_name take.Memory = codes "Memory"

abbrev pub offer_name : OfferFault → List ℕ
offer_name offer.Spoiled = codes "Spoiled"
offer_name offer.ZeroRay = codes "ZeroRay"
offer_name offer.PointRange = codes "PointRange"
offer_name offer.OfferFull = codes "OfferFull"
offer_name offer.OffersSpent = codes "OffersSpent"

abbrev pub save_name : SaveFault → List ℕ
save_name save.Spoiled = codes "Spoiled"
save_name save.Memory = codes "Memory"

abbrev pub snap_name : SnapFault → List ℕ
snap_name snap.Short = codes "Short"
snap_name snap.BadMagic = codes "BadMagic"
snap_name snap.BadVersion = codes "BadVersion"
snap_name snap.WrongScene = codes "WrongScene"
snap_name snap.BadDigest = codes "BadDigest"
snap_name snap.NotCanonical = codes "NotCanonical"
snap_name snap.BootNotNew = codes "BootNotNew"
snap_name snap.ScriptState = codes "ScriptState"
snap_name snap.Memory = codes "Memory"

abbrev pub floor_name : FloorFault → List ℕ
floor_name floor.FloorBack = codes "FloorBack"
floor_name floor.FloorAhead = codes "FloorAhead"

abbrev pub gather_name : GatherFault → List ℕ
gather_name (gather.Wire fault) = fault_name fault
gather_name gather.WrongScene = codes "WrongScene"
gather_name gather.NotPiece = codes "NotPiece"
gather_name gather.Memory = codes "Memory"

abbrev pub join_name : JoinFault → List ℕ
join_name join.NotWhole = codes "NotWhole"
join_name (join.Snap fault) = snap_name fault
