-- A document by its parts.
use Rattle.std.proofs.Common.{◌≡◌, ℕ, List, Option, ap, ◌∙◌}
use Rattle.x3d_values.specs.declared.fields.Fields.{Fields}
use Rattle.classic_tree.specs.declared.tree.Meta.{Meta}
use Rattle.classic_tree.specs.declared.tree.Statement.{Statement}
use Rattle.scene_core.specs.declared.scene.Route.{Route}
use Rattle.scene_core.specs.Scene.{SceneView}
use Rattle.scene_text.specs.Places.{named}
use Rattle.scene_text.specs.Statements.{scene_document, statements_of}

abbrev pub TypeOf : {A : Type 0} → A → Type 0
TypeOf {A} it = A

-- with the header statements of the scene and the statements of its plan
pub document_made : (s : SceneView) (routes : List Route) (state : List Fields) (h : TypeOf s.header)
    (profile : Option (List ℕ)) (components : List (List ℕ)) (metas : List Meta) (statements : List Statement) →
    h ≡ s.header → profile ≡ h.profile → components ≡ h.components → metas ≡ h.metas →
    statements ≡ statements_of (record { scene = s; routes = routes; state = state; named = named s routes }) →
    record { version = h.version; profile = profile; components = components; metas = metas; statements = statements }
    ≡ scene_document s routes state
unfolding scene_document
document_made s routes state h profile components metas statements same a b c e =
    (λ k. record { version = (same k).version; profile = (a ∙ ap (λ (x : TypeOf s.header). x.profile) same) k; components = (b ∙ ap (λ (x : TypeOf s.header). x.components) same) k; metas = (c ∙ ap (λ (x : TypeOf s.header). x.metas) same) k; statements = e k })
