use Rattle.clap.specs.Words.{found_of}
use Rattle.app_words.proofs.NumberLemmas.{text_of}
use Rattle.app_words.proofs.numbers.text_in.Goals as goal

pub returns : goal.returns
returns c = text_of (found_of c.args.matches.now) c.args.id.now c.get_str.result c.get_str.ensures
