use Rattle.std.proofs.Common.{◌∙◌}
use Rattle.app_words.proofs.NumberLemmas.{some_text}
use Rattle.app_words.proofs.numbers.is_text_given.Goals as goal

pub returns : goal.returns
returns c = c.is_some.ensures ∙ some_text c.text_in.result _ c.text_in.ensures
