use Rattle.clap.specs.Words.{app_of, subcommand_rows_of}
use Rattle.app_words.proofs.WordLemmas.{text_found, text_refused}
use Rattle.app_words.proofs.words.text_of.Goals as goal

pub returns-in-Ok-clause-named : goal.returns-in-Ok-clause-named
returns-in-Ok-clause-named c =
    let taken = c.in-Ok.ensures in
    text_found (app_of c.in_ok-command.command) _ _ (subcommand_rows_of c.in-Ok.matches) _ c.in_ok-command.ensures
    (λ simple. (taken.matches simple).1) c.text_of.ensures

pub returns-in-Err-clause-refused : goal.returns-in-Err-clause-refused
returns-in-Err-clause-refused c =
    text_refused (app_of c.in_ok-command.command) _ _ _ _ c.in_ok-command.ensures c.in-Err.ensures.kinds c.kind.ensures
    c.refusal_of.ensures
