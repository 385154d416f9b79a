use Rattle.std.proofs.Common.{◌≡◌, take}
use Rattle.std.specs.List.{fold}
use Rattle.embed_changes.specs.Changes.{listed}
use Rattle.embed_changes.proofs.changes.push_fields.Given as goal

abbrev pub invariant-loop-source : goal.invariant-loop-source
invariant-loop-source l =
    (l.changes.items, l.numbers.items) ≡ fold (listed l.fn.scene l.fn.state) (l.fn.changes.items, l.fn.numbers.items) (take l.source-index l.fn.outputs)
