use Rattle.app_part.proofs.Texts.{scenes_are_their_parts, scenes_are_refused_as_texts}
use Rattle.app_part.proofs.laws.scenes_are_their_parts.Goals as goal

pub returns-clause-made : goal.returns-clause-made
returns-clause-made c = scenes_are_their_parts

pub returns-clause-refused : goal.returns-clause-refused
returns-clause-refused c = scenes_are_refused_as_texts
