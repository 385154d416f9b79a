-- From the part of a text to the lines and numbers of it.
use Rattle.std.proofs.Common.{◌≡◌, ℕ, List, Result, Ok, Err, IfOk, IfErr, inl, refl, sym, subst, ◌∙◌}
use Rattle.app_jobs.specs.declared.fault.JobFault.{JobFault}
use Rattle.app_jobs.specs.declared.fault.JobFault.TheVariants.{Memory}
use Rattle.app_part.specs.Order.{IsOrdered}
use Rattle.app_part.specs.Whole.{IsPartOfText, IsScene}
use Rattle.app_part.specs.declared.part.ScenePart.{ScenePart}
use Rattle.embed_parts.specs.Parts.{IsOpened, IsTold, IsToldInOrder}
use Rattle.embed_parts.specs.declared.part.EmbeddedPart.{EmbeddedPart}

pub in_order : (part shown : ScenePart) (r : Result EmbeddedPart JobFault)
    → IsOrdered part shown → IfOk r (IsTold shown) → IfOk r (IsToldInOrder part)
in_order part shown (Ok made) ordered told =
    record { shown = shown; ordered = ordered; told = told }
in_order part shown (Err f) ordered told = tt

same_items : (shown part : ScenePart) → shown.text ≡ part.text → shown.text.items ≡ part.text.items
same_items shown part same = rw same refl

same_text : (part : ScenePart) (made : EmbeddedPart) → IsToldInOrder part made
    → made.text.items ≡ part.text.items
same_text part made told = told.told.text ∙ same_items told.shown part told.ordered.text

-- a part that is a scene, with its lines and numbers, is the part of the text
pub opened : (text : List ℕ) (part : ScenePart) (r : Result EmbeddedPart JobFault)
    → IsPartOfText text part → IsScene part.text.items → IfOk r (IsToldInOrder part)
    → IfErr r (λ f. f ≡ Memory) → IsOpened text r
opened text part (Ok made) is scene told none = (
  record {
    part = part;
    is = is;
    scene = subst (λ t. IsScene t) (sym (same_text part made told)) scene;
    told = told;
  },
  tt,
)
opened text part (Err f) is scene told none = (tt, inl none)
