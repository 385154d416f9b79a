use Rattle.std.proofs.Common.{map}
use Rattle.serde_json.specs.View.{view}
use Rattle.share_etcd.proofs.DocumentLaws.{array_listed}
use Rattle.share_etcd.proofs.pairs.listed.Goals as goal

pub returns-in-Some-as_array : goal.returns-in-Some-as_array
returns-in-Some-as_array c =
    let pairs = c.in-Some-as_array.pairs.now.items in
    rw (c.in-Some.is, c.as_slice.ensures.value)
    (array_listed (map view pairs) (view c.in-Some.pairs.now) c.in-Some-as_array.ensures)
