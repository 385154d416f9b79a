use Rattle.std.proofs.Common.{◌≡◌, true, false, sym, ◌∙◌}
use Rattle.serde_json.specs.View.{view}
use Rattle.share_etcd.proofs.DocumentLaws.{read_ok, read_none}
use Rattle.share_etcd.proofs.outcome.document.Goals as goal

pub returns-in-Ok : goal.returns-in-Ok
returns-in-Ok c = read_ok c.args.body.now (view c.in-Ok.value) c.in-Ok.ensures.ok.0 c.in-Ok.ensures.ok.1

pub returns-else-is_memory : goal.returns-else-is_memory
returns-else-is_memory c =
    read_none c.args.body.now (c.in-Err.ensures.err (λ m.
    let bad : true ≡ false = sym (c.is_memory.ensures.1 m) ∙ c.if-is_memory.false in cc))
