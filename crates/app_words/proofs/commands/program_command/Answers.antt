use Rattle.std.proofs.Common.{◌≡◌, ◌∙◌, ap, subst}
use Rattle.std.specs.List.{fold}
use Rattle.std.specs.Result.{IfOk}
use Rattle.clap.specs.Words.{app_of}
use Rattle.app_words.specs.Commands.{app_with, with_command}
use Rattle.app_words.proofs.CommandLemmas.{first_commands, host_added, view_added, file_commands}
use Rattle.app_words.proofs.commands.program_command.Goals as goal

pub returns : goal.returns
returns c =
    let first = c.local_commands.result.now in
    let host = c.host_command.result.now in
    let view = c.view_command.result.now in
    let third = c.file_commands.result.now in
    let local = c.in_ok-local.ensures ∙ ap (λ a. fold (λ b w. with_command b (app_with w)) a first) c.in_ok-bare.ensures.app
    ∙ first_commands first c.local_commands.ensures in
    let hosted = c.in_ok-hosted.ensures.app ∙ ap (λ a. with_command a (app_with host)) local ∙ host_added host c.host_command.ensures in
    let shared = c.in_ok-shared.ensures.app ∙ ap (λ a. with_command a (app_with view)) hosted ∙ view_added view c.view_command.ensures in
    let all = ap (λ a. fold (λ b w. with_command b (app_with w)) a third) shared
    ∙ file_commands third c.file_commands.ensures in
    subst (λ a. IfOk c.with_commands-2.result (λ p. app_of p ≡ a)) all c.with_commands-2.ensures
