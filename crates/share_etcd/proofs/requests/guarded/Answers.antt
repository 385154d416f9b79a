use Rattle.std.specs.Prelude.{codes}
use Rattle.share_etcd.proofs.RequestLaws.{five_pieces}
use Rattle.share_etcd.proofs.requests.guarded.Goals as goal

pub returns : goal.returns
returns c =
    five_pieces c.push_pieces.new.out.items c.new-out.result.items (codes "{\"compare\":[") c.as_slice.result.now (codes "],\"success\":[") c.as_slice-2.result.now (codes "]}")
    c.args.compares.items c.args.operations.items c.in_ok-push_pieces.ensures.ok c.new-out.ensures.items c.as_slice.ensures.value c.as_slice-2.ensures.value
