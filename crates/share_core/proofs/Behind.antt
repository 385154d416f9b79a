-- A host that has none of its inputs any more is the part of some host.
use Rattle.std.proofs.Common.{◌≡◌, ℕ, zero, suc, ◌+◌, ◌-◌, ℤ, pos, List, [], length, drop, replicate, refl, sym, ap, ◌∙◌, arith}
use Rattle.std.proofs.Math.ListN.{drop_of_length-le}
use Rattle.std.proofs.lemmas.List.{length-replicate}
use Rattle.x3d_values.specs.declared.stamped.Cause.TheVariants.{Clock}
use Rattle.x3d_values.specs.Stamp.{StampedView}
use Rattle.share_rules.specs.declared.kept.SeatCount.{SeatCount}
use Rattle.share_law.specs.Host.{HostState, last_from}
use Rattle.share_law.specs.HostCalls.{IsSomePart}
use Rattle.share_law.specs.Parts.{HostPart, part_behind, part_of}

-- some input at this time
abbrev some_at : ℤ → StampedView
some_at last = record { number = 1; time = last; cause = Clock }

lasts : (last : ℤ) (n : ℕ) (t : ℤ) → (n ≡ 0 → t ≡ last) → last_from t (replicate n (some_at last)) ≡ last
lasts last zero t none = none refl
lasts last (suc n) t none = lasts last n last (λ z. refl)

pub some-behind : (count : ℕ) (last : ℤ) (kept : List SeatCount) → (count ≡ 0 → last ≡ pos 0) → IsSomePart (part_behind count last kept)
some-behind count last kept none =
    let list : List StampedView = replicate count (some_at last) in
    let long : length list ≡ count = length-replicate count (some_at last) in
    let gone : drop (count + 1 - 1) list ≡ [] = drop_of_length-le list (omega (arith, long)) in
    let late = lasts last count (pos 0) (λ z. sym (none z)) in
    let h : HostState = record { list = list; kept = kept; floor = count + 1 } in
    let same : part_of h ≡ part_behind count last kept =
    ap (λ (r : List StampedView). let p : HostPart = record { floor = count + 1; rest = r; count = length list; last = (part_of h).last; kept = kept } in p) gone
    ∙ ap (λ (n : ℕ). let p : HostPart = record { floor = count + 1; rest = []; count = n; last = (part_of h).last; kept = kept } in p) long
    ∙ ap (λ (t : ℤ). let p : HostPart = record { floor = count + 1; rest = []; count = count; last = t; kept = kept } in p) late in
    (h, record { same = same; from_one = omega (arith); at_most = omega (arith, long) })
