-- The boxes that are created for scripts (our choice of kinds).
use Rattle.std.specs.Prelude.{ℤ, pos, false, List, [], ◌∷◌, Option, Some, None}
use Rattle.std.specs.List.{filter_map}
use Rattle.std.specs.Option.{option_map}
use Rattle.x3d_values.specs.declared.script.Kind.{Kind}
use Rattle.x3d_values.specs.declared.script.Kind.TheVariants as kinds
use Rattle.x3d_values.specs.declared.script.ScriptSpec.{ScriptSpec}
use Rattle.script_host.specs.Hosting.{SlotView, fresh_record}
use Rattle.script_host.specs.States.{state_fault}
use Rattle.script_slots.specs.declared.fault.StateFault.{StateFault}
use Rattle.script_boxes.specs.declared.stock.StockScript.{StockScript}
use Rattle.script_boxes.specs.declared.stock.StockScript.TheVariants as stock

abbrev pub stock_kind : StockScript → Kind
stock_kind (stock.Counter state) = kinds.Counter
stock_kind (stock.Gate state) = kinds.Gate
stock_kind (stock.Adder state) = kinds.Adder
stock_kind (stock.Batch state) = kinds.Batch
stock_kind (stock.Mover state) = kinds.Mover
stock_kind (stock.Meter state) = kinds.Meter

-- a script of the stock means its state
abbrev pub stock_state : StockScript → List ℤ
stock_state (stock.Counter state) = state
stock_state (stock.Gate state) = state
stock_state (stock.Adder state) = state
stock_state (stock.Batch state) = state
stock_state (stock.Mover state) = state
stock_state (stock.Meter state) = state

-- a new box, not initialized
abbrev pub made_of : StockScript → SlotView
made_of script = fresh_record stock_kind stock_state script

-- the state of a script whose start state isn't given
abbrev pub zeros : Kind → List ℤ
zeros kinds.Counter = pos 0 ∷ pos 0 ∷ []
zeros kinds.Gate = pos 0 ∷ []
zeros kinds.Adder = pos 0 ∷ pos 0 ∷ []
zeros kinds.Batch = pos 0 ∷ []
zeros kinds.Mover = pos 0 ∷ pos 0 ∷ pos 0 ∷ pos 0 ∷ pos 0 ∷ pos 0 ∷ []
zeros kinds.Meter = []

-- the start state that was asked for, or zeros if it is not a state of the kind
abbrev pub start_or_zeros : Kind → List ℤ → Option StateFault → List ℤ
start_or_zeros kind start None = start
start_or_zeros kind start (Some fault) = zeros kind

-- the box of a script of this kind that is to start in this state
abbrev pub made : Kind → List ℤ → SlotView
made kind start = record {
  kind = kind;
  state = start_or_zeros kind start (state_fault kind start);
  initialized = false;
}

-- the box of a script, if its kind is known
abbrev pub made_for : ScriptSpec → Option SlotView
made_for asked = option_map (λ (kind : Kind). made kind asked.start) asked.kind

-- the boxes of all scripts whose kinds are known
abbrev pub stock_for : List ScriptSpec → List SlotView
stock_for asked = filter_map made_for asked
