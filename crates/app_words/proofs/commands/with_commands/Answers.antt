use Rattle.std.proofs.Common.{◌∙◌, ◌≤◌, ap, arith, length}
use Rattle.std.proofs.lemmas.List.{take_all}
use Rattle.std.specs.List.{fold}
use Rattle.clap.specs.Words.{app_of}
use Rattle.app_words.specs.Commands.{app_with, with_command}
use Rattle.app_words.proofs.CommandLemmas.{one_more}
use Rattle.app_words.proofs.commands.with_commands.Goals as goal

pub loop-words-preserved : goal.loop-words-preserved
loop-words-preserved c =
    one_more (λ a w. with_command a (app_with w)) _ _ _ _ _ _ c.loop-words-test.true c.loop-words.invariant
    c.in_ok-program.ensures.app

pub returns : goal.returns
returns c =
    let words = c.args.commands.now in
    let past : length words ≤ c.loop-words.words-index = omega (arith, c.loop-words-test.false) in
    c.loop-words.invariant ∙ ap (fold (λ a w. with_command a (app_with w)) (app_of c.args.program)) (take_all _ words past)
