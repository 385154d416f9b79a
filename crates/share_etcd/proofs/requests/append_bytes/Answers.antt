use Rattle.std.proofs.Common.{rules, ◌≡◌, ℕ, List, IfOk, subst}
use Rattle.share_etcd.specs.Numerals.{digits_of}
use Rattle.share_etcd.specs.Keys.{text_of, head_key, tail_key, log_key}
use Rattle.share_etcd.specs.Requests.{unchanged, put}
use Rattle.share_etcd.proofs.RequestLaws.{same_transaction}
use Rattle.share_etcd.proofs.requests.append_bytes.Goals as goal

pub returns : goal.returns
returns c =
    let world = text_of c.args.name.now in
    let this : c.in_ok-same_head.same_head.items ≡ unchanged (head_key world) c.args.known.head = search rules in
    let that : c.in_ok-same_tail.same_tail.items ≡ unchanged (tail_key world) c.args.known.tail = search rules in
    let first : c.in_ok-put_frame.put_frame.items ≡ put (log_key world c.args.first) c.args.frame.now = search rules in
    let second : c.in_ok-put_last.put_last.items ≡ put (tail_key world) (digits_of c.args.last) = c.in_ok-put_last.ensures in
    let P : List ℕ → Type 0 = λ t. IfOk c.transaction.result (λ v. v.items ≡ t) in
    subst P (same_transaction _ _ _ _ _ _ _ _ this that first second) c.transaction.ensures
