use Rattle.std.proofs.Common.{◌+◌, length, ◌∙◌, ap}
use Rattle.share_entries.specs.Chain.{chain_after}
use Rattle.share_entries.specs.Frame.{frame_in}
use Rattle.share_etcd.specs.Keys.{text_of}
use Rattle.share_engine.proofs.Keeping.{request_if}
use Rattle.share_engine.proofs.log.EtcdLog.request.Goals as goal

pub returns : goal.returns
returns g c =
    let l = c.args.self.now in
    let first = c.next_number-first.result in
    request_if c.append_bytes.result (λ v. v.items) (text_of l.name) l.revisions.head l.revisions.tail first (c.last_number-before.result + length c.args.entries.now) (l.known.start.below + length l.known.entries + 1) (l.known.start.below + length l.known.entries + length c.args.entries.now)
    c.chain.result (chain_after l.known.start.chain l.known.entries) c.deref.result.now c.args.entries.now
    c.next_number-first.ensures (ap (λ n. n + length c.args.entries.now) c.last_number-before.ensures) c.chain.ensures
    (c.deref.ensures.value ∙ c.in_ok-frame.ensures.text)
    (ap (λ t. frame_in c.chain.result first t) c.deref.ensures.value ∙ c.in_ok-frame.ensures.again)
    c.append_bytes.ensures
