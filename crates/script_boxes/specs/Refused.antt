-- Why the scripts of a scene are refused if their boxes are from the stock.
use Rattle.std.specs.Prelude.{ℕ, ◌+◌, List, [], ◌∷◌, Option, Some, None, if◌then◌else◌}
use Rattle.std.specs.Option.{option_or}
use Rattle.x3d_values.specs.declared.script.Kind.{Kind}
use Rattle.x3d_values.specs.declared.script.ScriptSpec.{ScriptSpec}
use Rattle.script_host.specs.States.{state_fault}
use Rattle.script_host.specs.declared.fault.AttachFault.{AttachFault}
use Rattle.script_host.specs.declared.fault.AttachFault.TheVariants.{UnknownScript, InterfaceMismatch, StartMismatch}
use Rattle.script_slots.specs.declared.fault.StateFault.{StateFault}

-- the kind of script k is unknown
abbrev pub unknown_at : ℕ → Option Kind → Option AttachFault
unknown_at k None = Some (UnknownScript k)
unknown_at k (Some kind) = None

-- the first of these scripts, numbered from k on, whose kind is unknown
abbrev pub unknown_from : ℕ → List ScriptSpec → Option AttachFault
unknown_from k [] = None
unknown_from k (asked ∷ others) = option_or (unknown_at k asked.kind) (unknown_from (k + 1) others)

abbrev pub no_start : ℕ → Option StateFault → Option AttachFault
no_start k None = None
no_start k (Some fault) = Some (StartMismatch k)

-- the state in which the script is to start is not a state of its kind
abbrev pub start_fault : ℕ → ScriptSpec → Option Kind → Option AttachFault
start_fault k asked None = None
start_fault k asked (Some kind) = no_start k (state_fault kind asked.start)

-- the script's interface isn't that of its kind, or its start state is not a state of its kind
abbrev pub unfit_at : ℕ → ScriptSpec → Option AttachFault
unfit_at k asked = if asked.fits then start_fault k asked asked.kind else Some (InterfaceMismatch k)

abbrev pub unfit_from : ℕ → List ScriptSpec → Option AttachFault
unfit_from k [] = None
unfit_from k (asked ∷ others) = option_or (unfit_at k asked) (unfit_from (k + 1) others)

-- why these scripts are refused: the first whose kind is unknown, or else the first that doesn't
-- fit its kind
abbrev pub scripts_fault : List ScriptSpec → Option AttachFault
scripts_fault asked = option_or (unknown_from 0 asked) (unfit_from 0 asked)
