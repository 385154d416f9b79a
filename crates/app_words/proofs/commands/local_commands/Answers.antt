use Rattle.std.proofs.Common.{rules}
use Rattle.app_words.specs.Commands.{run_app, format_app, check_app, rehearse_app, agree_app}
use Rattle.app_words.proofs.commands.local_commands.Goals as goal

pub returns : goal.returns
unfolding run_app format_app check_app rehearse_app agree_app
returns c = search rules
