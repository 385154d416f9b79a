use Rattle.std.proofs.Common.{length}
use Rattle.script_running.proofs.list.+first_word.Given as goal

abbrev pub decreases-first_word : goal.decreases-first_word
decreases-first_word l = length l.urls.now
