use Rattle.std.proofs.Common.{rules, List, ℕ, ◌∙◌, ap}
use Rattle.snapshot_codec.specs.Head.{opened}
use Rattle.snapshot_codec.proofs.HeadLaws.{opened-found, snapshot-opened}
use Rattle.snapshot_codec.proofs.head.open.Goals as goal

pub returns-clause-found : goal.returns-clause-found
returns-clause-found c = opened-found (λ body. body.now) c.opened.result c.args.version c.args.mark.now c.args.bytes.now c.opened.ensures

pub returns-clause-only : goal.returns-clause-only
returns-clause-only c = λ body long is. c.opened.ensures ∙ ap (λ (b : List ℕ). opened c.args.version c.args.mark.now b) is ∙ snapshot-opened c.args.version c.args.mark.now body (search rules) long
