use Rattle.std.proofs.Common.{◌∙◌, Bool, true, if◌then◌else◌, ap}
use Rattle.std.specs.Cmp.{unsigned_tied}
use Rattle.classic_part.specs.Index.{has}
use Rattle.classic_part.proofs.lines.LineSet.add.Goals as goal

pub returns : goal.returns
unfolding has
returns c =
    λ other. c.in_ok-insert.ensures.updates.0 other
    ∙ ap (λ (same : Bool). if same then true else has c.args.self.now other) (unsigned_tied c.args.line other)
