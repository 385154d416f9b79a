-- Scripts that run: their states, and which script is at a node (ISO/IEC 19775-1, Script).
use Rattle.std.specs.Prelude.{ℕ, ℤ, ◌+◌, ◌==◌, Bool, true, List, [], ◌∷◌, Option, Some, None, map, if◌then◌else◌}
use Rattle.std.specs.List.{list_all}
use Rattle.x3d_values.specs.declared.script.Kind.{Kind}
use Rattle.script_running.specs.declared.run.Run.{Run}
use Rattle.script_host.specs.Hosting.{SlotView}
use Rattle.script_running.specs.Ports.{PortsView}

-- the states of scripts
abbrev pub states_of : List SlotView → List (List ℤ)
states_of scripts = map (λ (r : SlotView). r.state) scripts

-- all scripts were initialized
abbrev pub are_begun : List SlotView → Bool
are_begun scripts = list_all (λ (r : SlotView). r.initialized) scripts

-- scripts of these kinds in these states, all initialized
abbrev pub running : List Kind → List (List ℤ) → List SlotView
running [] states = []
running (kind ∷ kinds) [] = []
running (kind ∷ kinds) (state ∷ states) =
    record { kind = kind; state = state; initialized = true } ∷ running kinds states

-- ---- the scripts of nodes

-- the first of these scripts, numbered from k on, whose node is `node`
abbrev pub script_from : ℕ → List Run → ℕ → Option ℕ
script_from k [] node = None
script_from k (run ∷ runs) node =
    if run.node == node then Some k else script_from (k + 1) runs node

abbrev pub no_ports : PortsView
no_ports = record { inputs = []; outputs = [] }
