use Rattle.std.proofs.Common.{◌≡◌, ◌∙◌, ◌++◌, ℕ, List, map, ap, subst}
use Rattle.std.specs.Prelude.{OnOk}
use Rattle.std.specs.List.{filter, flat_map, fold}
use Rattle.cascade_trace.specs.declared.trace.TraceLine.{TraceLine}
use Rattle.embed_changes.specs.OutputBytes.{bytes_after}
use Rattle.embed_changes.specs.Outputs.{is_after, noted}
use Rattle.embed_changes.proofs.Noting.{written}
use Rattle.embed_changes.proofs.outputs.note_after.Goals as goal
use Rattle.scene_core.specs.declared.scene.End.{End}

pub returns : goal.returns
returns c =
    let outputs : List End = map (λ (l : TraceLine). l.source) (filter (is_after c.args.since) c.args.trace.now) in
    subst (λ (m : List End). OnOk c.note_all.result (c.note_all.new.marks ≡ fold noted m outputs)) c.clear.ensures
    (c.note_all.ensures outputs
    (c.deref.ensures.value ∙ c.in_ok-write_from.ensures.ok
    ∙ ap (λ (bytes : List ℕ). bytes ++ flat_map (bytes_after c.args.since) c.args.trace.now) c.new-bytes.ensures.items
    ∙ written c.args.since c.args.trace.now))
