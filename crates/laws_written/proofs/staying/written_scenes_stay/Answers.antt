use Rattle.laws_written.proofs.WorldsWhole.{scenes_stay}
use Rattle.laws_written.proofs.staying.written_scenes_stay.Goals as goal

pub returns : goal.returns
returns c = scenes_stay (record { named = c.spelled_flats_are_named.ensures; writable = c.scenes_are_writable.ensures; spelled = c.written_scenes_spell.ensures.writable; keepable = c.fitting_worlds_are_kept.ensures; typed = c.fitting_worlds_are_typed.ensures; ranged = c.fitting_worlds_are_in_range.ensures; distinct = c.fields_are_distinct.ensures; sound = c.document_scenes_are_sound.ensures; flats = c.written_scenes_are_flat.ensures; exist = c.written_scenes_exist.ensures; again = c.written_scenes_are_again.ensures; room = c.scenes_again_have_room.ensures; resolve = c.written_routes_stay.ensures.resolved })
