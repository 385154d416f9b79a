use Rattle.laws_written.proofs.Defaults.{defaults_are_left_out, left_out_are_defaults}
use Rattle.laws_written.proofs.text_laws.fields_are_left_out.Goals as goal

pub returns-clause-defaults : goal.returns-clause-defaults
returns-clause-defaults c = left_out_are_defaults

pub returns-clause-all : goal.returns-clause-all
returns-clause-all c = defaults_are_left_out
