-- A host that goes on from a base is the one that all entries of the log make.
use Rattle.std.proofs.Common.{◌≡◌, ℕ, ◌+◌, ◌-◌, ℤ, List, [], length, drop, sym, ap, ◌∙◌, arith}
use Rattle.std.proofs.Math.ListN.{drop_of_length-le}
use Rattle.x3d_values.specs.Stamp.{StampedView}
use Rattle.share_rules.specs.declared.kept.SeatCount.{SeatCount}
use Rattle.share_entries.specs.Base.{BaseView}
use Rattle.share_entries.specs.Chain.{chain_after}
use Rattle.share_entries.specs.Entry.{EntryView}
use Rattle.share_law.specs.Host.{last_time}
use Rattle.share_law.specs.Parts.{HostPart, part_of}
use Rattle.laws_hosts.specs.Log.{host_of, inputs_of}
use Rattle.share_logged.specs.Bases.{BasesStandForEntries, IsBaseOf, part_from}
use Rattle.share_logged.specs.Logged.{logged}
use Rattle.share_logged.specs.Making.{IsOfLog}
use Rattle.share_logged.proofs.Making.{logged-inputs}
use Rattle.share_logged.proofs.Parts.{of-made}

abbrev part_with : (floor : ℕ) → List StampedView → (count : ℕ) → (last : ℤ) → List SeatCount → HostPart
part_with floor rest count last kept = record { floor = floor; rest = rest; count = count; last = last; kept = kept }

pub of-base : (run : List ℕ) (v : ℕ) (below : List EntryView) (base : BaseView) → IsBaseOf run v below base → IsOfLog v below (part_from base)
of-base run v below base is =
    let inputs : List StampedView = inputs_of (logged below) in
    let many : length inputs ≡ length below = logged-inputs below in
    let n = base.number in
    let gone : drop (n + 1 - 1) inputs ≡ [] = drop_of_length-le inputs (omega (arith, many, is.number)) in
    let count : n ≡ length inputs = is.number ∙ sym many in
    let same : part_from base ≡ part_of (host_of v (logged below) (n + 1)) =
    ap (λ (r : List StampedView). part_with (n + 1) r n base.time base.kept) (sym gone)
    ∙ ap (λ (k : ℕ). part_with (n + 1) (drop (n + 1 - 1) inputs) k base.time base.kept) count
    ∙ ap (λ (t : ℤ). part_with (n + 1) (drop (n + 1 - 1) inputs) (length inputs) t base.kept) is.time
    ∙ ap (λ (k : List SeatCount). part_with (n + 1) (drop (n + 1 - 1) inputs) (length inputs) (last_time inputs) k) is.kept in
    record { log = is.log; from_one = omega (arith); to_next = omega (arith, is.number); same = same }

pub bases_stand : BasesStandForEntries
bases_stand run v below entries base part is made = of-made v below entries (part_from base) part (of-base run v below base is) made

-- ---- a base is made

pub base-from : (run : List ℕ) (v : ℕ) (entries : List EntryView) (p : HostPart) (base : BaseView) → base.kept ≡ p.kept → base.number ≡ p.count → base.time ≡ p.last → base.chain ≡ chain_after run entries → IsOfLog v entries p → IsBaseOf run v entries base
base-from run v entries p base kept number time chain is = record {
  log = is.log;
  number = number ∙ ap (λ (x : HostPart). x.count) is.same ∙ logged-inputs entries;
  time = time ∙ ap (λ (x : HostPart). x.last) is.same;
  kept = kept ∙ ap (λ (x : HostPart). x.kept) is.same;
  chain = chain;
}
