use Rattle.embed_changes.proofs.Listing.{held, named, once}
use Rattle.embed_changes.proofs.laws.outputs_are_listed.Goals as goal

pub returns-clause-once : goal.returns-clause-once
returns-clause-once c = once

pub returns-clause-named : goal.returns-clause-named
returns-clause-named c = named

pub returns-clause-held : goal.returns-clause-held
returns-clause-held c = held
