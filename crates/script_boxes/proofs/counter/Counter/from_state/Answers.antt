use Rattle.std.proofs.Common.{◌∷◌, ◌∙◌, [], ℤ, ap₂, get_or, pos, rules, arith}
use Rattle.script_boxes.proofs.Narrow.{held}
use Rattle.script_boxes.proofs.NumberLists.{two}
use Rattle.script_boxes.proofs.counter.Counter.from_state.Goals as goal

pub returns-clause-ok : goal.returns-clause-ok
returns-clause-ok c =
    let s = c.args.state.now in
    let count = held (get_or s 0 (pos 0)) c.in-Ok.count (search rules) c.in-Ok.ensures.0 c.in-Ok.ensures.1 in
    let step = held (get_or s 1 (pos 0)) c.in-Ok-try_from.step (search rules) c.in-Ok-try_from.ensures.0 c.in-Ok-try_from.ensures.1 in
    ap₂ (λ (x y : ℤ). x ∷ y ∷ []) count step ∙ two s (omega arith) (omega arith)
