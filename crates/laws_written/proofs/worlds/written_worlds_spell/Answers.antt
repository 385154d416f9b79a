use Rattle.laws_written.proofs.Spelled.{running_worlds_spell, written_worlds_spell}
use Rattle.laws_written.proofs.worlds.written_worlds_spell.Goals as goal

pub returns-clause-reached : goal.returns-clause-reached
returns-clause-reached c = written_worlds_spell

pub returns-clause-running : goal.returns-clause-running
returns-clause-running c = running_worlds_spell
