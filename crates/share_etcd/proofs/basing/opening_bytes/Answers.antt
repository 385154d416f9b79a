use Rattle.std.proofs.Common.{rules, ◌≡◌, ℕ, List, IfOk, subst}
use Rattle.share_etcd.specs.Keys.{text_of, head_key, tail_key, base_key, snapshot_key, log_key, log_end}
use Rattle.share_etcd.specs.Requests.{joined, get_one, get_range}
use Rattle.share_etcd.proofs.RequestLaws.{same_three}
use Rattle.share_etcd.proofs.basing.opening_bytes.Goals as goal

pub returns : goal.returns
returns c =
    let world = text_of c.args.name.now in
    let ends : c.in_ok-ends.ends.items ≡ joined (get_one (head_key world)) (get_one (tail_key world)) = c.in_ok-ends.ensures in
    let based : c.in_ok-based.based.items ≡ joined (get_one (base_key world)) (get_one (snapshot_key world)) = c.in_ok-based.ensures in
    let frames : c.in_ok-frames.frames.items ≡ get_range (log_key world 1) (log_end world) = search rules in
    let P : List ℕ → Type 0 = λ t. IfOk c.three.result (λ v. v.items ≡ t) in
    subst P (same_three _ _ _ _ _ _ ends based frames) c.three.ensures
