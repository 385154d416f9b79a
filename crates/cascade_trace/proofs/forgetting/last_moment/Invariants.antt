use Rattle.std.proofs.Common.{◌≡◌, drop, pos}
use Rattle.cascade_trace.specs.Staying.{last_input, last_time}
use Rattle.cascade_trace.proofs.forgetting.last_moment.Given as goal

-- the input after the entries that are left
abbrev pub invariant-loop-entry : goal.invariant-loop-entry
invariant-loop-entry l =
    (last_input (drop l.entry-index l.entries) l.moment.input ≡ last_input l.entries 0)
    × (last_time (drop l.entry-index l.entries) l.moment.time ≡ last_time l.entries (pos 0))
