use Rattle.std.proofs.Common.{ℕ, ◌++◌, ◌∙◌, List, [], map, sym, ap}
use Rattle.pick_core.specs.Sites.{row_at, site_under, sites_in}
use Rattle.pick_core.specs.Spread.{spread}
use Rattle.pick_core.specs.declared.row.BoxRow.{BoxRow}
use Rattle.pick_core.specs.declared.trail.Place.{Place}
use Rattle.pick_core.proofs.Trails.{rows-is}
use Rattle.pick_core.proofs.gather.gathered.Goals as goal

pub returns : goal.returns
returns c =
    let scene = c.args.scene.now in
    let state = c.args.state.now in
    let rows : List BoxRow → List Place → List ℕ → List BoxRow = λ rs ps ns. rs ++ map (row_at scene state ps) (spread site_under (sites_in scene 64) 0 ns) in
    c.in_ok-gather_all.ensures.rows
    ∙ (ap (λ rs. rows rs c.new.result.items c.roots.result.now) c.new-2.ensures.items
    ∙ (ap (λ ps. rows [] ps c.roots.result.now) c.new.ensures
    ∙ (ap (λ ns. rows [] [] ns) c.roots.ensures ∙ sym (rows-is scene state))))
