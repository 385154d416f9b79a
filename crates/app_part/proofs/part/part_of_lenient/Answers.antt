use Rattle.app_part.proofs.Parting.{lenient_made, lenient_refused}
use Rattle.app_part.proofs.part.part_of_lenient.Goals as goal

pub returns-clause-made : goal.returns-clause-made
returns-clause-made c =
    lenient_made c.args.text.now c.args.lenient c.in_ok-placed.placed c.part_of_tree.result c.in_ok-placed.ensures c.part_of_tree.ensures.made

pub returns-clause-refused : goal.returns-clause-refused
returns-clause-refused c =
    lenient_refused c.args.text.now c.args.lenient c.in_ok-placed.placed c.part_of_tree.result c.in_ok-placed.ensures c.part_of_tree.ensures.refused
