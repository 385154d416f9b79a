use Rattle.std.proofs.Common.{rules, ◌≡◌, ℕ, ◌+◌, List, IfOk, subst}
use Rattle.share_entries.specs.Base.{base_text}
use Rattle.share_entries.specs.Head.{head_text}
use Rattle.share_etcd.specs.Keys.{text_of, head_key, tail_key, base_key, snapshot_key, log_front, log_key}
use Rattle.share_etcd.specs.Requests.{unchanged, put, joined, delete_range}
use Rattle.share_etcd.proofs.RequestLaws.{same_transaction}
use Rattle.share_etcd.proofs.basing.basing_bytes.Goals as goal

pub returns : goal.returns
returns c =
    let world = text_of c.args.name.now in
    let this : c.in_ok-same_head.same_head.items ≡ unchanged (head_key world) c.args.known.head = search rules in
    let that : c.in_ok-same_tail.same_tail.items ≡ unchanged (tail_key world) c.args.known.tail = search rules in
    let puts : c.in_ok-puts.puts.items ≡ joined (put (head_key world) (head_text c.args.head.now)) (put (base_key world) (base_text c.args.base.now)) = c.in_ok-puts.ensures in
    let rest : c.in_ok-rest.rest.items ≡ joined (put (snapshot_key world) c.args.snapshot.now) (delete_range (log_front world) (log_key world (c.args.base.now.number + 1))) = c.in_ok-rest.ensures in
    let P : List ℕ → Type 0 = λ t. IfOk c.transaction.result (λ v. v.items ≡ t) in
    subst P (same_transaction _ _ _ _ _ _ _ _ this that puts rest) c.transaction.ensures
