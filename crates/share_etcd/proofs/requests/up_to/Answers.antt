use Rattle.std.proofs.Common.{◌≡◌, List, ℕ, ap, ◌∙◌}
use Rattle.std.specs.Prelude.{codes}
use Rattle.share_etcd.specs.Requests.{base64}
use Rattle.share_etcd.proofs.RequestLaws.{three_pieces}
use Rattle.share_etcd.proofs.requests.up_to.Goals as goal

pub returns : goal.returns
returns c =
    let key : c.as_bytes.result.now ≡ base64 c.args.key.items =
    c.as_bytes.ensures.value ∙ c.in_ok-key.ensures.text ∙ ap (λ (bytes : List ℕ). base64 bytes) c.as_slice.ensures.value in
    let end : c.as_bytes-2.result.now ≡ base64 c.args.end.items =
    c.as_bytes-2.ensures.value ∙ c.in_ok-end.ensures.text ∙ ap (λ (bytes : List ℕ). base64 bytes) c.as_slice-2.ensures.value in
    three_pieces c.push_pieces.new.out.items c.new-out.result.items c.as_bytes.result.now (codes "\",\"range_end\":\"") c.as_bytes-2.result.now
    (base64 c.args.key.items) (base64 c.args.end.items) c.in_ok-push_pieces.ensures.ok c.new-out.ensures.items key end
