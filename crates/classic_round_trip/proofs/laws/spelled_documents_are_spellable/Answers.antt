use Rattle.std.proofs.Common.{◌≡◌}
use Rattle.classic_round_trip.proofs.Routes.{Any}
use Rattle.classic_round_trip.proofs.Spelled.{spellable}
use Rattle.classic_round_trip.proofs.laws.spelled_documents_are_spellable.Goals as goal

pub returns-clause-with_lines : goal.returns-clause-with_lines
returns-clause-with_lines c = spellable ◌≡◌

pub returns-clause-lines_apart : goal.returns-clause-lines_apart
returns-clause-lines_apart c = spellable Any
