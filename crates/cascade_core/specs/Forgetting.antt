-- A world that has forgotten the lines of its trace of inputs below a number.
use Rattle.std.specs.Prelude.{ℕ, ◌+◌, List, Option, Some, None, if◌then◌else◌, nat_lt}
use Rattle.cascade_core.specs.Course.{Scripted}
use Rattle.cascade_core.specs.Held.{Held, Running, Spoiled}
use Rattle.cascade_core.specs.declared.fault.ForgetFault.{ForgetFault}
use Rattle.cascade_core.specs.declared.fault.ForgetFault.TheVariants as fault
use Rattle.cascade_trace.specs.Forgetting.{lines_from}
use Rattle.cascade_trace.specs.declared.trace.TraceLine.{TraceLine}

-- a world with this trace, otherwise unchanged
abbrev pub with_trace : Scripted → List TraceLine → Scripted
with_trace w trace = record w { world = record w.world { trace = trace } }

-- the world without the lines of inputs below this number, otherwise unchanged
abbrev pub forget : (below : ℕ) → Scripted → Scripted
forget below w = with_trace w (lines_from below w.world.trace)

-- ---- a stage

abbrev pub forgotten : (below : ℕ) → Held → Held
forgotten below (Running w) = Running (forget below w)
forgotten below (Spoiled n) = Spoiled n

-- why a stage forgets nothing: the first reason that holds
abbrev pub forget_refusal : (below : ℕ) → Held → Option ForgetFault
forget_refusal below (Running w) =
    if nat_lt (w.world.applied + 1) below then Some fault.Ahead else None
forget_refusal below (Spoiled n) = Some fault.Spoiled
