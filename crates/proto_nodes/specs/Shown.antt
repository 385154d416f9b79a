-- The state of a walk, in the terms of the definition.
use Rattle.std.specs.Prelude.{◌≡◌, ◌⊎◌, [], Result, Ok, Err}
use Rattle.proto_flat.specs.Fault.{memory}
use Rattle.proto_flat.specs.declared.fault.ExpandFault.{ExpandFault}
use Rattle.proto_meaning.specs.Flat.{begin}
use Rattle.proto_meaning.specs.Names.{Scope}
use Rattle.proto_meaning.specs.Sight.{no_names}
use Rattle.proto_parts.specs.Settled.{State, full}
use Rattle.proto_parts.specs.Put as put
use Rattle.proto_parts.specs.Scope as scope
use Rattle.proto_nodes.specs.declared.walker.Walker.{Walker}

-- no prototype is looked up by name, so what is in sight never changes
abbrev pub shown : Walker → State
shown w =
    record {
      room = w.room;
      walk = record {
        put = put.shown w.put;
        sight = record { here = []; outside = []; taken = no_names };
        scope = scope.shown w.scope;
      };
    }

-- the state with another scope
abbrev pub in_scope : Scope → State → State
in_scope scope s = record { room = s.room; walk = record s.walk { scope = scope } }

abbrev pub before : State
before = record { room = full; walk = begin [] (record { nodes = []; helpers = [] }) }

abbrev pub Sound : Walker → Type 0
Sound w = scope.Sound w.scope

-- a step did what the definition does, or memory was refused
abbrev pub Steps : {A X : Type 0} → (A → X) → Result (X × State) ExpandFault
    → Result A ExpandFault → Walker → Type 0
Steps view outcome (Ok a) new = (outcome ≡ Ok (view a, shown new)) × Sound new
Steps view outcome (Err e) new = (e ≡ memory) ⊎ (outcome ≡ Err e)
