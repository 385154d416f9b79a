use Rattle.std.proofs.Common.{◌≡◌, take}
use Rattle.std.specs.List.{fold}
use Rattle.clap.specs.Words.{app_of}
use Rattle.app_words.specs.Commands.{app_with, with_command}
use Rattle.app_words.proofs.commands.with_commands.Given as goal

abbrev pub invariant-loop-words : goal.invariant-loop-words
invariant-loop-words l =
    app_of l.program ≡ fold (λ a w. with_command a (app_with w)) (app_of l.initial.program) (take l.words-index l.commands)
