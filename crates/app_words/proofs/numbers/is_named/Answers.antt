use Rattle.std.proofs.Common.{◌∙◌}
use Rattle.clap.proofs.WalkLemmas.{one_text-rows}
use Rattle.clap.specs.Words.{found_of, rows_of}
use Rattle.app_words.proofs.NumberLemmas.{given_flag}
use Rattle.app_words.proofs.numbers.is_named.Goals as goal

pub returns : goal.returns
returns c =
    c.unwrap_or.ensures
    ∙ given_flag _ c.args.id.now (rows_of (found_of c.args.matches.now)) _ c.get_one.result
    (one_text-rows (found_of c.args.matches.now) c.args.id.now) c.get_one.ensures.none c.get_one.ensures.value
