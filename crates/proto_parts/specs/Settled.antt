-- Limits that are checked as things are counted: how much more may be counted, and what a part of a
-- text gives in that room. Nothing here is part of the definition of a flat document;
-- limits_are_settled says that the results are the same.
use Rattle.std.specs.Prelude.{ℕ, ◌-◌, ◌&&◌, not, nat_lt, if◌then◌else◌, List, [], ◌∷◌, Result, Ok, Err}
use Rattle.x3d_values.specs.Ranges.{max_instances, max_items, max_nodes, max_put_in}
use Rattle.proto_flat.specs.Fault.{fault}
use Rattle.proto_flat.specs.declared.fault.ExpandFault.{ExpandFault}
use Rattle.proto_flat.specs.declared.fault.ExpandFaultKind.TheVariants.{TooLarge}
use Rattle.proto_meaning.specs.Limits.{Met, Outcome, nodes_met, instances_met, items_met, has_room}
use Rattle.proto_meaning.specs.Sight.{and_see}
use Rattle.proto_meaning.specs.Flat.{Walk, Does}
use Rattle.proto_parts.specs.declared.room.Room.{Room}

-- before anything is counted
abbrev pub full : Room
full = record {
  nodes = max_nodes;
  instances = max_instances;
  items = max_items;
  all = max_put_in;
}

abbrev pub too_large : {A : Type 0} → Result A ExpandFault
too_large = Err (fault TooLarge 0)

-- uses one of all, and that many of the others
abbrev pub spend_so_much : ℕ → ℕ → ℕ → Room → Result Room ExpandFault
spend_so_much nodes instances items r =
    if not (nat_lt r.nodes nodes) && not (nat_lt r.instances instances)
    then (if not (nat_lt r.items items) && not (nat_lt r.all 1)
    then Ok (record {
      nodes = r.nodes - nodes;
      instances = r.instances - instances;
      items = r.items - items;
      all = r.all - 1;
    })
    else too_large)
    else too_large

-- uses the room of what is counted
abbrev pub spend : Met → Room → Result Room ExpandFault
spend m r =
    if has_room m then spend_so_much (nodes_met m) (instances_met m) (items_met m) r else too_large

abbrev pub spend_all : List Met → Room → Result Room ExpandFault
spend_all [] r = Ok r
spend_all (m ∷ ms) r = and_see (spend m r) (spend_all ms)

abbrev pub beside : {A : Type 0} → Room → A → Result (A × Room) ExpandFault
beside left a = Ok (a, left)

-- what a part gives in that room, and the room that it leaves
abbrev pub settle : {A : Type 0} → Outcome A → Room → Result (A × Room) ExpandFault
settle o r = and_see (spend_all o.met r) (λ left. and_see o.comes (beside left))

-- the state of the walk, and how much more may be counted
pub record State : Type 0 where
  pub room : Room
  pub walk : Walk

abbrev pub onward : {A : Type 0} → (A × Walk) × Room → Result (A × State) ExpandFault
onward p = Ok (p.0.0, record { room = p.1; walk = p.0.1 })

-- what a part does from that state
abbrev pub doing : {A : Type 0} → Does A → State → Result (A × State) ExpandFault
doing m s = and_see (settle (m s.walk) s.room) onward
