-- When a world is due. Moments are milliseconds of one clock.
use Rattle.std.specs.Prelude.{ℕ, ◌-◌, ◌||◌, Bool, false, List, Option, None, Some, min, nat_le, if◌then◌else◌}
use Rattle.std.specs.List.{fold}
use Rattle.share_worlds.specs.declared.due.Wants.{Wants}

-- the earlier of two moments, if there is one
abbrev pub earlier : (a b : Option ℕ) → Option ℕ
earlier None b = b
earlier (Some m) None = Some m
earlier (Some m) (Some n) = Some (min m n)

-- at once if datagrams wait for it or clocks of its job are left; else at the next clock of its
-- beat, when it may give up viewers, or when those that join get pieces
abbrev pub moment_of : Wants → Option ℕ
moment_of w = if w.has_arrived || w.has_clocks then Some 0 else earlier w.beat (earlier w.settles w.gives)

abbrev pub is_due : Option ℕ → (now : ℕ) → Bool
is_due None now = false
is_due (Some moment) now = nat_le moment now

-- the longest wait: a second, after which the folder is read
abbrev pub longest : ℕ
longest = 1000

abbrev pub left : (now : ℕ) → Option ℕ → ℕ
left now None = longest
left now (Some moment) = min (moment - now) longest

-- how long none of the worlds is due
abbrev pub wait_for : List (Option ℕ) → (now : ℕ) → ℕ
wait_for moments now = fold (λ least moment. min least (left now moment)) longest moments
