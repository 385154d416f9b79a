use Rattle.std.proofs.Common.{rules, ◌≡◌, Err, inr, refl}
use Rattle.clap.specs.Words.{app_of, subcommand_rows_of}
use Rattle.app_words.proofs.AskedLemmas.{some_range}
use Rattle.app_words.proofs.WordLemmas.{asked_by, means_by, means_none, refused_by, silent_taken}
use Rattle.app_words.proofs.words.request_of.Goals as goal

pub returns-in-Some-clause-asked : goal.returns-in-Some-clause-asked
returns-in-Some-clause-asked c =
    let taken = c.in-Ok.ensures in (
      means_by (app_of c.in_ok-command.command) _ (subcommand_rows_of c.in-Ok.matches) c.in-Some.order c.in_ok-command.ensures taken.kinds
          (λ simple. (taken.matches simple).1) c.in-Some.ensures.some,
      some_range c.in-Some.order _ c.in-Some.ensures.some,
    )

pub returns-in-Ok-clause-refused : goal.returns-in-Ok-clause-refused
returns-in-Ok-clause-refused c =
    let taken = c.in-Ok.ensures in
    inr (
      refl,
      (
        means_none (app_of c.in_ok-command.command) _ (subcommand_rows_of c.in-Ok.matches) c.in_ok-command.ensures (λ simple. (taken.matches simple).1)
            c.in-None.ensures.none,
        silent_taken (app_of c.in_ok-command.command) _ c.in_ok-command.ensures taken.kinds,
      ),
    )

pub returns-in_err-shown-in-Err-clause-refused : goal.returns-in_err-shown-in-Err-clause-refused
returns-in_err-shown-in-Err-clause-refused c =
    let failed : c.from_residual-in_err-shown-in-Err.result ≡ Err c.in_err-shown-in-Err.field-0.0 = search rules in
    rw failed (refused_by (app_of c.in_ok-command.command) _ _ c.in_err-shown-in-Err.field-0.0 c.in_ok-command.ensures c.in-Err.ensures.kinds
    c.in_err-shown-in-Err.ensures.refused)

pub returns-clause-asked : goal.returns-clause-asked
returns-clause-asked c =
    asked_by (app_of c.in_ok-command.command) _ _ c.in_ok-command.ensures c.in-Err.ensures.kinds c.in_ok-shown-in-Err.ensures.text
