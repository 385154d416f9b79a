use Rattle.std.proofs.Common.{rules}
use Rattle.app_words.specs.Commands.{serve_app, recall_app, part_app, key_app}
use Rattle.app_words.proofs.commands.file_commands.Goals as goal

pub returns : goal.returns
unfolding serve_app recall_app part_app key_app
returns c = search rules
