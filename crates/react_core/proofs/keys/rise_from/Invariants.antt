use Rattle.std.proofs.Common.{◌≡◌, drop}
use Rattle.react_core.specs.Keys.{rise_from}
use Rattle.react_core.proofs.keys.rise_from.Given as goal

abbrev pub invariant-loop-key : goal.invariant-loop-key
invariant-loop-key l = rise_from l.fn.low l.fn.keys ≡ rise_from l.low (drop l.key-index l.keys)
