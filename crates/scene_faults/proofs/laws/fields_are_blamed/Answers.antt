use Rattle.scene_faults.proofs.Blamed.{fields_are_blamed, declarations_are_blamed}
use Rattle.scene_faults.proofs.laws.fields_are_blamed.Goals as goal

pub returns-clause-given : goal.returns-clause-given
returns-clause-given c = fields_are_blamed

pub returns-clause-declared : goal.returns-clause-declared
returns-clause-declared c = declarations_are_blamed
