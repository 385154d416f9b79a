use Rattle.std.proofs.Common.{◌≡◌, take, false}
use Rattle.std.specs.List.{fold}
use Rattle.clap.specs.Words.{app_of, new_app}
use Rattle.clap.specs.declared.builder.command.Command.TheViews.{out-Command as fields_of}
use Rattle.app_words.specs.Commands.{with_flag, with_option, with_text}
use Rattle.app_words.proofs.commands.command.Given as goal

abbrev pub invariant-loop-option : goal.invariant-loop-option
invariant-loop-option l =
    (app_of l.command ≡ fold with_option (new_app l.words.name.now) (take l.option-index l.words.options.now))
    × ((fields_of l.command).has_globals ≡ false)

abbrev pub invariant-loop-text : goal.invariant-loop-text
invariant-loop-text l =
    (app_of l.command ≡ fold with_text (fold with_option (new_app l.words.name.now) l.words.options.now) (take l.text-index l.words.texts.now))
    × ((fields_of l.command).has_globals ≡ false)

abbrev pub invariant-loop-flag : goal.invariant-loop-flag
invariant-loop-flag l =
    (app_of l.command
    ≡ fold with_flag
    (fold with_text (fold with_option (new_app l.words.name.now) l.words.options.now) l.words.texts.now)
    (take l.flag-index l.words.flags.now))
    × ((fields_of l.command).has_globals ≡ false)
