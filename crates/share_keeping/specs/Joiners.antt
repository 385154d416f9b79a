-- The viewers that join (our choice). A seat is a viewer's number below 64. Each has a place for
-- the peer that asks for input 1 from it, and keeps it for 10 seconds after its last ask.
use Rattle.std.specs.Prelude.{ℕ, ◌+◌, ◌%◌, ◌==◌, min, Bool, true, false, List, map, replicate, get_or, slice_set, nat_lt, Option, None, Some, if◌then◌else◌}
use Rattle.std.specs.List.{list_any}
use Rattle.share_keeping.specs.declared.joiners.Joiner.{Joiner}

abbrev pub no_joiners : List (Option Joiner)
no_joiners = replicate 64 None

-- ---- asks

-- the piece that a peer gets next: it goes on where it was
abbrev pub next_of : Option Joiner → (peer : ℕ) → ℕ
next_of None peer = 0
next_of (Some j) peer = if j.peer == peer then j.next else 0

-- a seat asks for input 1 from a peer
abbrev pub joined : List (Option Joiner) → (who peer : ℕ) → List (Option Joiner)
joined js who peer =
    slice_set js who
    (Some (record { peer = peer; next = next_of (get_or js who None) peer; silent = 0 }))

-- a seat asks for a later input
abbrev pub left : List (Option Joiner) → (who : ℕ) → List (Option Joiner)
left js who = slice_set js who None

-- ---- time

abbrev pub after_time : (millis : ℕ) → Option Joiner → Option Joiner
after_time millis None = None
after_time millis (Some j) =
    if nat_lt (j.silent + millis) 10000
    then Some (record { peer = j.peer; next = j.next; silent = j.silent + millis })
    else None

abbrev pub passed : (millis : ℕ) → List (Option Joiner) → List (Option Joiner)
passed millis js = map (after_time millis) js

-- ---- pieces

abbrev pub restarted : Option Joiner → Option Joiner
restarted None = None
restarted (Some j) = Some (record { peer = j.peer; next = 0; silent = j.silent })

abbrev pub all_restarted : List (Option Joiner) → List (Option Joiner)
all_restarted js = map restarted js

-- the piece of `count` pieces that comes `more` after piece `next`, round and round
abbrev pub piece_after : (count next more : ℕ) → ℕ
piece_after count next more = if count == 0 then 0 else (next + more) % count

-- how many of `count` pieces a viewer gets at a rest: 16, or each once if there are fewer
abbrev pub in_a_row : (count : ℕ) → ℕ
in_a_row count = min count 16

abbrev pub advanced : (count : ℕ) → Option Joiner → Option Joiner
advanced count None = None
advanced count (Some j) =
    Some (record {
      peer = j.peer;
      next = piece_after count j.next (in_a_row count);
      silent = j.silent;
    })

abbrev pub all_advanced : (count : ℕ) → List (Option Joiner) → List (Option Joiner)
all_advanced count js = map (advanced count) js

-- ---- who

abbrev pub is_joiner : Option Joiner → Bool
is_joiner None = false
is_joiner (Some j) = true

abbrev pub are_some : List (Option Joiner) → Bool
are_some js = list_any is_joiner js

abbrev pub is_peer : (peer : ℕ) → Option Joiner → Bool
is_peer peer None = false
is_peer peer (Some j) = j.peer == peer

abbrev pub joins : List (Option Joiner) → (peer : ℕ) → Bool
joins js peer = list_any (is_peer peer) js
