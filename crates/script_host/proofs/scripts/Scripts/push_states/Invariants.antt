use Rattle.std.proofs.Common.{◌≡◌, ◌++◌, map, take}
use Rattle.script_host.specs.Pairs.{PairsBelow}
use Rattle.script_host.specs.Restoring.{IsStateOf}
use Rattle.script_host.proofs.scripts.Scripts.push_states.Given as goal

abbrev pub invariant-loop-slot : goal.invariant-loop-slot
invariant-loop-slot g l = record {
  pushed : l.out.items ≡ l.initial.out.items ++ map (λ r. r.state) (take l.slot-index l.slot-items);
  fit : PairsBelow IsStateOf l.slot-items (map (λ r. r.state) l.slot-items) l.slot-index;
}
