use Rattle.laws_worlds.proofs.Hits.{sized}
use Rattle.laws_worlds.proofs.documents.document_hits_are_on_rays.Goals as goal

pub returns-clause-sized : goal.returns-clause-sized
returns-clause-sized c = sized

pub returns-clause-on_rays : goal.returns-clause-on_rays
returns-clause-on_rays c flat scene state ray hit is picked = c.hits_are_on_rays_law.ensures scene state ray hit (sized flat scene is) picked
