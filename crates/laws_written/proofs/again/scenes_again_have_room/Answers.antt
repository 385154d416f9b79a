use Rattle.laws_written.proofs.Room.{again_has_room}
use Rattle.laws_written.proofs.again.scenes_again_have_room.Goals as goal

pub returns : goal.returns
returns c = again_has_room
