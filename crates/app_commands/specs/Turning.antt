-- Which of several hosts a viewer speaks to (our choice). Times are milliseconds of a clock.
use Rattle.std.specs.Prelude.{ℕ, ◌+◌, ◌-◌, Bool, false, nat_le, nat_lt, if◌then◌else◌, Option, None, Some}

-- the host that is spoken to wasn't heard for 2 seconds
abbrev pub is_silent : (heard : Option ℕ) → (now : ℕ) → Bool
is_silent None now = false
is_silent (Some heard) now = nat_le 2000 (now - heard)

-- the place after this one, and after the last the first
abbrev pub next_place : (at count : ℕ) → ℕ
next_place at count = if nat_lt (at + 1) count then at + 1 else 0
