use Rattle.std.proofs.Common.{Result, Ok, Err, IfOk}
use Rattle.share_etcd.specs.Keys.{text_of}
use Rattle.share_engine.specs.Keys.{held}
use Rattle.share_engine.proofs.Lasting.{last_of}
use Rattle.share_engine.proofs.opening.open_world.Goals as goal

of_all : {T E : Type 0} (r : Result T E) (P : T → Type 0) → ((x : T) → P x) → IfOk r P
of_all (Ok x) P all = all x
of_all (Err e) P all = tt

pub returns-in-Ok-Made-clause-last : goal.returns-in-Ok-Made-clause-last
returns-in-Ok-Made-clause-last g c =
    let l = c.begin.result.log in
    last_of (text_of l.name) l.head.run l.known.start (g.E.Engine.told l.engine) (held l.revisions.head l.revisions.tail l.known.entries) l.kept

pub returns-in-Ok-Found-clause-last : goal.returns-in-Ok-Found-clause-last
returns-in-Ok-Found-clause-last g c =
    of_all c.open_found.result _ (λ o.
    last_of (text_of o.log.name) o.log.head.run o.log.known.start (g.E.Engine.told o.log.engine) (held o.log.revisions.head o.log.revisions.tail o.log.known.entries) o.log.kept)
