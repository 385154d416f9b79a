use Rattle.std.proofs.Common.{◌∙◌}
use Rattle.scene_text.proofs.Documents.{document_made}
use Rattle.scene_text.proofs.write.scene_document.Goals as goal

pub returns : goal.returns
returns c =
    document_made c.args.scene.now c.args.routes.now c.args.state.now c.header-header.result.now
    c.in_ok-profile.profile c.in_ok-components.components c.in-Ok.metas c.from_vec.result
    c.header-header.ensures c.in_ok-profile.ensures c.in_ok-components.ensures c.in-Ok.ensures (c.from_vec.ensures ∙ c.in-Ok-planned_statements.ensures)
