use Rattle.laws_written.proofs.Labels.{labels_are_distinct}
use Rattle.laws_written.proofs.text_laws.labels_are_distinct.Goals as goal

pub returns : goal.returns
returns c = labels_are_distinct
