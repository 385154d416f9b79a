use Rattle.share_etcd.specs.Keys.{text_of}
use Rattle.share_etcd.specs.Views.{opening_view}
use Rattle.share_engine.proofs.Openings.{opened_reads}
use Rattle.share_engine.proofs.opening.open_headed.Goals as goal

pub go_on-opened-requires : goal.go_on-opened-requires
go_on-opened-requires g c =
    opened_reads (text_of c.args.name) c.args.head (g.E.Engine.told c.args.engine) (opening_view c.args.opening) _ c.in-Ok.ensures.found c.requires
