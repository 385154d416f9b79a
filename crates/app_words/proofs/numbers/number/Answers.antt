use Rattle.clap.proofs.WalkLemmas.{one_text-rows}
use Rattle.clap.specs.Words.{found_of, rows_of}
use Rattle.app_words.proofs.NumberLemmas.{number_some, number_none}
use Rattle.app_words.proofs.numbers.number.Goals as goal

pub returns-clause-some : goal.returns-clause-some
returns-clause-some c =
    number_some c.args.id.now (rows_of (found_of c.args.matches.now)) _ c.get_one.result
    (one_text-rows (found_of c.args.matches.now) c.args.id.now) c.get_one.ensures.none c.get_one.ensures.value

pub returns-clause-none : goal.returns-clause-none
returns-clause-none c =
    number_none c.args.id.now (rows_of (found_of c.args.matches.now)) _ c.get_one.result
    (one_text-rows (found_of c.args.matches.now) c.args.id.now) c.get_one.ensures.none c.get_one.ensures.value
