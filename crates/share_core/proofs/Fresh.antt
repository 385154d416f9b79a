-- A host that was made just now.
use Rattle.std.proofs.Common.{◌≡◌, ℕ, ◌≤◌, take, replicate, ap, ◌∙◌}
use Rattle.std.proofs.lemmas.List.{take-replicate}
use Rattle.x3d_values.specs.Ranges.{max_viewers}
use Rattle.share_rules.specs.declared.kept.SeatCount.{SeatCount}

pub fresh : (d : SeatCount) (n : ℕ) → n ≤ max_viewers → d.boot ≡ 0 → d.count ≡ 0 → take n (replicate max_viewers d) ≡ replicate n (record { boot = 0; count = 0 })
fresh d n few boot count =
    take-replicate n max_viewers d few ∙ ap (λ (k : SeatCount). replicate n k) (ap (λ b. let z : SeatCount = record { boot = b; count = d.count } in z) boot ∙ ap (λ c. let z : SeatCount = record { boot = 0; count = c } in z) count)
