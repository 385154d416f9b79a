-- The base of a log: what stands for its first entries to a host that goes on from there.
use Rattle.std.specs.Prelude.{◌≡◌, ℕ, ◌&&◌, Bool, List, ◌++◌, length, Option, None, Some, if◌then◌else◌}
use Rattle.x3d_values.specs.Ranges.{is_input_time}
use Rattle.share_entries.specs.Base.{BaseView, is_base_number}
use Rattle.share_entries.specs.Chain.{chain_after}
use Rattle.share_entries.specs.Entry.{EntryView}
use Rattle.share_entries.specs.Head.{is_viewer_count}
use Rattle.share_law.specs.Host.{last_time}
use Rattle.share_law.specs.Parts.{HostPart, part_behind}
use Rattle.laws_hosts.specs.Log.{host_of, inputs_of}
use Rattle.share_logged.specs.Following.{PartsMake}
use Rattle.share_logged.specs.Logged.{logged}
use Rattle.share_logged.specs.Making.{IsLogOf, IsOfLog}

-- the base has the number and the time of the last of these entries, which are a log, what they make
-- a host keep of each viewer, and the chain that a log of this run has after them
pub record IsBaseOf (run : List ℕ) (viewers : ℕ) (entries : List EntryView) (base : BaseView) :
    Type 0 where
  pub log : IsLogOf viewers entries
  pub number : base.number ≡ length entries
  pub time : base.time ≡ last_time (inputs_of (logged entries))
  pub kept : base.kept ≡ (host_of viewers (logged entries) 1).kept
  pub chain : base.chain ≡ chain_after run entries

-- the part of a host that goes on from a base
abbrev pub part_from : BaseView → HostPart
part_from base = part_behind base.number base.time base.kept

-- A host that goes on from a base, and then numbers more entries, is the host that all entries of
-- the log make.
abbrev pub BasesStandForEntries : Type 0
BasesStandForEntries =
    (run : List ℕ) (viewers : ℕ) (below entries : List EntryView) (base : BaseView)
    (part : HostPart) → IsBaseOf run viewers below base → PartsMake (part_from base) entries part
    → IsOfLog viewers (below ++ entries) part

-- ---- a base is made

abbrev pub has_base : HostPart → Bool
has_base p =
    (is_viewer_count (length p.kept) && is_base_number p.count) && is_input_time p.last

-- the base of a host's inputs, if it has numbered one
abbrev pub base_of : HostPart → (chain snapshot : List ℕ) → Option BaseView
base_of p chain snapshot =
    if has_base p
    then Some (record {
      kept = p.kept;
      number = p.count;
      time = p.last;
      chain = chain;
      snapshot = snapshot;
    })
    else None
