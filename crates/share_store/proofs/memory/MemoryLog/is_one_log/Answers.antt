use Rattle.share_store.proofs.Handles.{one_list}
use Rattle.share_store.proofs.memory.MemoryLog.is_one_log.Goals as goal

pub returns : goal.returns
returns c = one_list c.args.self.now.entries c.args.self.now.handles
