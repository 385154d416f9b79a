-- The boot of a viewer that is given none (our choice).
use Rattle.std.specs.Prelude.{◌<◌, ◌≤◌, ◌-◌, ◌^◌, ℕ, max, min, Option, None, Some}

-- the seconds since the beginning of 2020, from 2 to 2^32 - 1, at this many seconds after that of
-- 1970; 2 if there is no time
abbrev pub boot_at : Option ℕ → ℕ
boot_at None = 2
boot_at (Some seconds) = max (min (seconds - 1577836800) (2 ^ 32 - 1)) 2

-- the least boot from the viewer's own on that is above the one that its host kept
pub record IsLeastBeyond (kept own boot : ℕ) : Type 0 where
  pub not_below : own ≤ boot
  pub beyond : kept < boot
  pub least : (other : ℕ) → own ≤ other → kept < other → boot ≤ other
