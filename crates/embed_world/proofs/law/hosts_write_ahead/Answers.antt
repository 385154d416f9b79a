use Rattle.embed_world.proofs.AheadLaws.{acks-are-stored, answers-grow, begins-keep, clocks-keep, drops-keep, floors-are-stored, inputs-are-stored, keeping-keeps, takes-from-keep, takes-keep}
use Rattle.embed_entries.proofs.LineTexts.{appends-make-logs}
use Rattle.embed_world.proofs.law.hosts_write_ahead.Goals as goal

pub returns-clause-clocks : goal.returns-clause-clocks
returns-clause-clocks c = clocks-keep

pub returns-clause-takes : goal.returns-clause-takes
returns-clause-takes c = takes-keep

pub returns-clause-takes_from : goal.returns-clause-takes_from
returns-clause-takes_from c = takes-from-keep

pub returns-clause-drops : goal.returns-clause-drops
returns-clause-drops c = drops-keep

pub returns-clause-keeps : goal.returns-clause-keeps
returns-clause-keeps c = keeping-keeps

pub returns-clause-begins : goal.returns-clause-begins
returns-clause-begins c = begins-keep

pub returns-clause-answers : goal.returns-clause-answers
returns-clause-answers c = answers-grow

pub returns-clause-bytes : goal.returns-clause-bytes
returns-clause-bytes c = appends-make-logs

pub returns-clause-inputs : goal.returns-clause-inputs
returns-clause-inputs c = inputs-are-stored

pub returns-clause-acks : goal.returns-clause-acks
returns-clause-acks c = acks-are-stored

pub returns-clause-floors : goal.returns-clause-floors
returns-clause-floors c = floors-are-stored
