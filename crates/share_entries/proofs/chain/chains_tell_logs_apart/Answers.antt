use Rattle.share_entries.proofs.ChainLaws.{chains_tell}
use Rattle.share_entries.proofs.chain.chains_tell_logs_apart.Goals as goal

pub returns : goal.returns
returns c = chains_tell
