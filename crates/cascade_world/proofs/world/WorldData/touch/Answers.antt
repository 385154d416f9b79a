use Rattle.cascade_world.proofs.PointingReplies.{few-replies, few-room}
use Rattle.cascade_world.proofs.world.WorldData.touch.Goals as goal

pub forget-requires : goal.forget-requires
forget-requires c = record { room = rw c.in_ok-react.ensures.replies (few-room _ (few-replies _ _ _ _ _ c.requires.sensor)) }
