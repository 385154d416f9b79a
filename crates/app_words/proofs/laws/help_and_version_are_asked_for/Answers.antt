use Rattle.app_words.proofs.OwnWords.{help_is_text, version_is_text}
use Rattle.app_words.proofs.laws.help_and_version_are_asked_for.Goals as goal

pub returns-clause-help : goal.returns-clause-help
returns-clause-help c = help_is_text

pub returns-clause-version : goal.returns-clause-version
returns-clause-version c = version_is_text
