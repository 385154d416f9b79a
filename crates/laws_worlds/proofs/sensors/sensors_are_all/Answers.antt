use Rattle.laws_worlds.proofs.Lowest.{all_rise, are_few, are_lowest}
use Rattle.laws_worlds.proofs.sensors.sensors_are_all.Goals as goal

pub returns-clause-lowest : goal.returns-clause-lowest
returns-clause-lowest c = are_lowest

pub returns-clause-rising : goal.returns-clause-rising
returns-clause-rising c = all_rise

pub returns-clause-few : goal.returns-clause-few
returns-clause-few c = are_few
