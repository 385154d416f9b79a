use Rattle.app_part.proofs.Mended.{begun_at}
use Rattle.app_part.proofs.part.part_of_tree.Goals as goal

pub mended-made-requires : goal.mended-made-requires
mended-made-requires c =
    begun_at c.args.placed.lenient.document c.new.result c.new-2.result c.new.ensures c.new-2.ensures
