use Rattle.std.proofs.Common.{◌∙◌, ◌||◌, ap}
use Rattle.clap.specs.Words.{app_of, with_rule}
use Rattle.app_words.specs.Commands.{with_flag, with_option, with_text}
use Rattle.app_words.proofs.CommandLemmas.{one_more}
use Rattle.app_words.proofs.commands.command.Goals as goal

pub loop-option-preserved : goal.loop-option-preserved
loop-option-preserved c =
    let kept = c.loop-option.invariant in
    let added = c.in_ok-command-2.ensures in
    let option = c.number_arg.ensures in
    let shape = added.shape option.local ∙ ap (with_rule (app_of c.loop-option.command)) option.rule in (
      one_more with_option _ _ _ _ _ _ c.loop-option-test.true kept.0 shape,
      added.globals ∙ ap (λ g. g || c.number_arg.result.global) kept.1 ∙ option.local,
    )

pub loop-text-preserved : goal.loop-text-preserved
loop-text-preserved c =
    let kept = c.loop-text.invariant in
    let added = c.in_ok-command-3.ensures in
    let text = c.text_arg.ensures in
    let shape = added.shape text.local ∙ ap (with_rule (app_of c.loop-text.command)) text.rule in (
      one_more with_text _ _ _ _ _ _ c.loop-text-test.true kept.0 shape,
      added.globals ∙ ap (λ g. g || c.text_arg.result.global) kept.1 ∙ text.local,
    )

pub loop-flag-preserved : goal.loop-flag-preserved
loop-flag-preserved c =
    let kept = c.loop-flag.invariant in
    let added = c.in_ok-command-4.ensures in
    let flag = c.flag_arg.ensures in
    let shape = added.shape flag.local ∙ ap (with_rule (app_of c.loop-flag.command)) flag.rule in (
      one_more with_flag _ _ _ _ _ _ c.loop-flag-test.true kept.0 shape,
      added.globals ∙ ap (λ g. g || c.flag_arg.result.global) kept.1 ∙ flag.local,
    )
