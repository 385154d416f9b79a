use Rattle.std.proofs.Common.{◌∷◌, ◌∙◌, [], ℤ, ap, get_or, pos, rules, arith}
use Rattle.script_boxes.proofs.Narrow.{held}
use Rattle.script_boxes.proofs.NumberLists.{one}
use Rattle.script_boxes.proofs.batch.Batch.from_state.Goals as goal

pub returns-clause-ok : goal.returns-clause-ok
returns-clause-ok c =
    let s = c.args.state.now in
    let pending = held (get_or s 0 (pos 0)) c.in-Ok.pending (search rules) c.in-Ok.ensures.0 c.in-Ok.ensures.1 in
    ap (λ (x : ℤ). x ∷ []) pending ∙ one s (omega arith) (omega arith)
