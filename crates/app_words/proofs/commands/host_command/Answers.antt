use Rattle.std.proofs.Common.{rules}
use Rattle.app_words.specs.Commands.{host_app}
use Rattle.app_words.proofs.commands.host_command.Goals as goal

pub returns : goal.returns
unfolding host_app
returns c = search rules
