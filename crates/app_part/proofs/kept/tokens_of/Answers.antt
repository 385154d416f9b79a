use Rattle.app_part.proofs.Names.{no_tokens}
use Rattle.app_part.proofs.kept.tokens_of.Goals as goal

pub returns-in-Err-clause-refused : goal.returns-in-Err-clause-refused
returns-in-Err-clause-refused c =
    no_tokens c.args.text.now c.in-Err.fault c.from.result c.from-in-Err.result c.in-Err.ensures.exact c.from.ensures c.from-in-Err.ensures
