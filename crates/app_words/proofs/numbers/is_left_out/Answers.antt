use Rattle.clap.specs.Words.{found_of}
use Rattle.app_words.proofs.NumberLemmas.{left_out, not_left_out}
use Rattle.app_words.proofs.numbers.is_left_out.Goals as goal

pub returns-clause-yes : goal.returns-clause-yes
returns-clause-yes c =
    left_out (found_of c.args.matches.now) c.args.id.now c.get_str.result c.is_none.result c.get_str.ensures c.is_none.ensures

pub returns-clause-no : goal.returns-clause-no
returns-clause-no c =
    not_left_out (found_of c.args.matches.now) c.args.id.now c.get_str.result c.is_none.result c.get_str.ensures c.is_none.ensures
