use Rattle.std.proofs.Common.{◌≡◌, ◌∙◌, false, sym, rules}
use Rattle.pick_core.proofs.tree.is_passed.Goals as goal

pub returns : goal.returns
returns c e =
    let late : c.enters_before.result ≡ false = search rules in
    record { outer = c.in-Some.outer; there = sym c.box_at.ensures ∙ c.in-Some.is; late = sym c.enters_before.ensures ∙ late }
