use Rattle.app_words.proofs.AskedLemmas.{end_needs_exactly, end_needs_until}
use Rattle.app_words.proofs.view.end_in.Goals as goal

pub returns-in_default-clause-none : goal.returns-in_default-clause-none
returns-in_default-clause-none c = end_needs_until _ c.in_default.ensures.none

pub returns-in_default-exactly_in-clause-none : goal.returns-in_default-exactly_in-clause-none
returns-in_default-exactly_in-clause-none c = end_needs_exactly _ c.in_default-exactly_in.ensures.none
