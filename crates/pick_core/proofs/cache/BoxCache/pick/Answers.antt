use Rattle.std.proofs.Common.{◌≡◌, ◌∙◌, Option, None, sym, subst, ap}
use Rattle.std.specs.List.{fold}
use Rattle.pick_core.specs.Boxes.{boxes}
use Rattle.pick_core.specs.Nearest.{IsPicked}
use Rattle.pick_core.specs.Picked.{nearer, picked}
use Rattle.pick_core.specs.Sites.{shown_rows}
use Rattle.pick_core.specs.declared.hit.Hit.{Hit}
use Rattle.pick_core.specs.Runs.{seen_in}
use Rattle.pick_core.specs.Tree.{IsTreeOf}
use Rattle.pick_core.proofs.Choosing.{picks-nearest}
use Rattle.pick_core.proofs.Seen.{rows-boxes}
use Rattle.pick_core.proofs.cache.BoxCache.pick.Goals as goal

pub returns-clause-value : goal.returns-clause-value
returns-clause-value c scene state h =
    let same : shown_rows c.as_slice.result.now ≡ boxes scene state = ap shown_rows (c.as_slice.ensures.value ∙ c.self.view_is ∙ h) ∙ rows-boxes scene state in
    c.pick_rows.ensures ∙ ap (fold (nearer c.args.ray) None) same

pub returns-clause-nearest : goal.returns-clause-nearest
returns-clause-nearest c scene state h =
    let same : shown_rows c.as_slice.result.now ≡ boxes scene state = ap shown_rows (c.as_slice.ensures.value ∙ c.self.view_is ∙ h) ∙ rows-boxes scene state in
    let value : c.pick_rows.result ≡ picked c.args.ray (boxes scene state) = c.pick_rows.ensures ∙ ap (fold (nearer c.args.ray) None) same in
    subst (λ (hit : Option Hit). IsPicked c.args.ray (boxes scene state) hit) (sym value) (picks-nearest scene state c.args.ray)

pub pick_rows-requires : goal.pick_rows-requires
pick_rows-requires c = subst (λ rows. IsTreeOf c.self.inside.tree (seen_in rows)) (sym c.as_slice.ensures.value) c.self.invariant.1
