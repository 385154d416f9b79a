use Rattle.std.proofs.Common.{rules}
use Rattle.app_words.specs.Commands.{view_app}
use Rattle.app_words.proofs.commands.view_command.Goals as goal

pub returns : goal.returns
unfolding view_app
returns c = search rules
