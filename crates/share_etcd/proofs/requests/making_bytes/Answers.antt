use Rattle.std.proofs.Common.{rules, ◌≡◌, ℕ, List, IfOk, subst}
use Rattle.share_entries.specs.Head.{head_text}
use Rattle.share_etcd.specs.Numerals.{digits_of}
use Rattle.share_etcd.specs.Keys.{text_of, head_key, tail_key}
use Rattle.share_etcd.specs.Requests.{absent, put}
use Rattle.share_etcd.proofs.RequestLaws.{same_transaction}
use Rattle.share_etcd.proofs.requests.making_bytes.Goals as goal

pub returns : goal.returns
returns c =
    let world = text_of c.args.name.now in
    let this : c.in_ok-no_head.no_head.items ≡ absent (head_key world) = search rules in
    let that : c.in_ok-no_tail.no_tail.items ≡ absent (tail_key world) = search rules in
    let first : c.in_ok-first.first.items ≡ put (head_key world) (head_text c.args.head.now) = c.in_ok-first.ensures in
    let second : c.in_ok-second.second.items ≡ put (tail_key world) (digits_of 0) = c.in_ok-second.ensures in
    let P : List ℕ → Type 0 = λ t. IfOk c.transaction.result (λ v. v.items ≡ t) in
    subst P (same_transaction _ _ _ _ _ _ _ _ this that first second) c.transaction.ensures
