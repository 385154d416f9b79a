use Rattle.std.proofs.Common.{◌≡◌, ◌-◌}
use Rattle.std.specs.List.{fold, range_with_len}
use Rattle.script_running.specs.Acting.{kinds_of}
use Rattle.cascade_core.specs.Apply.{start_one, started}
use Rattle.cascade_core.specs.Course.{wiring_at}
use Rattle.cascade_core.proofs.opening.initialize_all.Given as goal

-- with the scripts that are left, what the nodes of all of them are to send
abbrev pub invariant-loop-k : goal.invariant-loop-k
invariant-loop-k g l = record {
  done :
      fold (start_one (wiring_at l.routed)) (record { scripts = l.scripts; sendings = l.sendings.items }) (range_with_len l.k (l.count - l.k))
      ≡ started (wiring_at l.routed) l.fn.scripts;
  kinds : kinds_of l.scripts ≡ kinds_of l.fn.scripts;
}
