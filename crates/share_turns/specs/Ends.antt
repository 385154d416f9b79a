-- From which number on a host keeps its inputs, and when it is done.
use Rattle.std.specs.Prelude.{ℕ, ◌+◌, ◌-◌, ◌&&◌, Bool, false, max, min, nat_le, not}
use Rattle.std.specs.Prelude.{Option, Some, None}

-- All viewers heard of have asked past the inputs below `lowest`. At most the numbered ones of
-- these count. The last `keep` of them are kept, and dropped inputs stay dropped.
abbrev pub floor_for : (keep lowest floor count : ℕ) → ℕ
floor_for keep lowest floor count = max (min lowest (count + 1) - keep) floor

-- a viewer that is counted lacks input `until`
abbrev pub lacks : (until : ℕ) → (lowest : Option ℕ) → Bool
lacks until None = false
lacks until (Some lowest) = nat_le lowest until

-- `until` inputs are to be numbered: they are, some viewer was heard of, and of those that are
-- counted none lacks one of them
abbrev pub is_done : (until : Option ℕ) → (is_any : Bool) → (lowest : Option ℕ) → (count : ℕ)
    → Bool
is_done None is_any lowest count = false
is_done (Some until) is_any lowest count =
    is_any && (nat_le until count && not (lacks until lowest))
