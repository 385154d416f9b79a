use Rattle.laws_worlds.proofs.Routes.{all_routes_join}
use Rattle.laws_worlds.proofs.documents.routes_join.Goals as goal

pub returns : goal.returns
returns c = all_routes_join
