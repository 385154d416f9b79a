use Rattle.std.proofs.Common.{Option, sym, ◌∙◌, ap}
use Rattle.share_entries.specs.Base.{BaseView}
use Rattle.share_entries.specs.Start.{start_of}
use Rattle.share_entries.proofs.start.start_of.Goals as goal

pub returns-in-Some-clause-value : goal.returns-in-Some-clause-value
returns-in-Some-clause-value c = c.start_at.ensures.value c.args.head.now ∙ ap (λ (b : Option BaseView). start_of c.args.head.now b) (sym c.in-Some.is)
