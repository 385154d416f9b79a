use Rattle.std.proofs.Common.{◌≡◌, drop, None}
use Rattle.std.specs.Option.{option_map}
use Rattle.app_part.specs.Kept.{taker}
use Rattle.app_part.proofs.kept.taker.Given as goal

abbrev pub invariant-loop-note : goal.invariant-loop-note
invariant-loop-note l =
    taker l.place None l.notes ≡ taker l.place (option_map (λ n. n.now) l.found) (drop l.note-index l.notes)
