use Rattle.std.proofs.Common.{rules, ◌≡◌, ℕ, List, IfOk, subst}
use Rattle.share_etcd.specs.Keys.{text_of, head_key, tail_key, log_key, log_end}
use Rattle.share_etcd.specs.Requests.{get_one, get_range}
use Rattle.share_etcd.proofs.RequestLaws.{same_three}
use Rattle.share_etcd.proofs.requests.reading_bytes.Goals as goal

pub returns : goal.returns
returns c =
    let world = text_of c.args.name.now in
    let head : c.in_ok-head.head.items ≡ get_one (head_key world) = search rules in
    let tail : c.in_ok-tail.tail.items ≡ get_one (tail_key world) = search rules in
    let frames : c.in_ok-frames.frames.items ≡ get_range (log_key world c.args.first) (log_end world) = search rules in
    let P : List ℕ → Type 0 = λ t. IfOk c.three.result (λ v. v.items ≡ t) in
    subst P (same_three _ _ _ _ _ _ head tail frames) c.three.ensures
