use Rattle.laws_written.proofs.Rewritten.{running_again, worlds_again}
use Rattle.laws_written.proofs.typed.written_worlds_are_again.Goals as goal

pub returns-clause-reached : goal.returns-clause-reached
returns-clause-reached c = worlds_again c.spelled_flats_are_named.ensures c.fitting_worlds_are_kept.ensures c.fields_are_distinct.ensures c.document_scenes_are_sound.ensures c.written_scenes_are_again.ensures

pub returns-clause-running : goal.returns-clause-running
returns-clause-running c = running_again c.spelled_flats_are_named.ensures c.fitting_worlds_are_kept.ensures c.fields_are_distinct.ensures c.document_scenes_are_sound.ensures c.written_scenes_are_again.ensures
