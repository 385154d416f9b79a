use Rattle.laws_worlds.proofs.NetworksCounted.{counted}
use Rattle.laws_worlds.proofs.Sent.{opening_few, sends_few}
use Rattle.laws_worlds.proofs.traces.traces_are_limited.Goals as goal

pub returns-clause-each : goal.returns-clause-each
returns-clause-each c = sends_few

pub returns-clause-opening : goal.returns-clause-opening
returns-clause-opening c = opening_few

pub returns-clause-all : goal.returns-clause-all
returns-clause-all c = counted
