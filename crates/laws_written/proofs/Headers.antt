-- The scene of what is written has the same header statements.
use Rattle.std.proofs.Common.{sym, ap, ◌∙◌}
use Rattle.scene_core.specs.Scene.{SceneView}
use Rattle.scene_text.specs.Statements.{scene_document}
use Rattle.laws_documents.proofs.Heads.{headers_stay}
use Rattle.laws_written.specs.Headers.{HeadersAreKept}
use Rattle.laws_written.proofs.Steps.{scene_is}

pub headers_are_kept : HeadersAreKept
unfolding scene_document
headers_are_kept scene routes state f again h e =
    sym (ap (λ (v : SceneView). v.header) (scene_is f again e).is) ∙ headers_stay (scene_document scene routes state) f h
