use Rattle.std.proofs.Common.{◌∙◌, ap, refl}
use Rattle.script_slots.specs.Settling.{lowest_due}
use Rattle.script_slots.proofs.Tables.{first_due}
use Rattle.script_slots.proofs.due.DueScripts.next.Goals as goal

pub returns : goal.returns
returns c =
    c.copied.ensures
    ∙ first_due c.self.inside.has_received.items c.self.inside.due _ c.self.invariant refl c.first.result c.first.ensures.variant.1
    c.first.ensures.member c.first.ensures.least
    ∙ ap lowest_due c.self.view_is
