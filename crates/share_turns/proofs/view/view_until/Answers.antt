use Rattle.std.proofs.Common.{rules, ◌<◌, ◌+◌, ap, sym, ◌∙◌, subst, arith}
use Rattle.std.specs.Prelude.{Ok, Option}
use Rattle.x3d_values.specs.declared.pointing.Point.{Point}
use Rattle.share_core.specs.Viewer.{IfRunning, machine_of, with_state}
use Rattle.share_turns.specs.ViewerTurn.{IsViewerTurn}
use Rattle.share_turns.specs.Views.{ViewerTurns, applied_by}
use Rattle.share_turns.proofs.Viewing.{viewed_more}
use Rattle.share_turns.proofs.view.view_until.Goals as goal

pub loop-turn-preserved : goal.loop-turn-preserved
loop-turn-preserved g c =
    let v = c.args.viewer.now in
    let x = c.loop-turn.viewer in
    let y = c.viewer_turn.new.viewer in
    let z = c.forget_some-due.new.viewer in
    let i = c.loop-turn.invariant in
    let did = c.in_ok-viewer_turn.field-0 in
    let few : applied_by v x.state < c.args.until = search rules in
    let turn = subst (λ (p : Option Point). IfRunning x.state.view (λ w. IsViewerTurn (machine_of x) x.mark x.who c.args.host p (g.P.Port.told c.loop-turn.port) (g.P.Port.told c.viewer_turn.new.port) x.state (Ok did) y.state)) c.item_at-point.ensures c.in_ok-viewer_turn.ensures.turn in
    let more = viewed_more v x y c.args.host c.args.points.now c.args.until c.args.forget c.loop-turn.turn (g.P.Port.told c.args.port.now) (g.P.Port.told c.loop-turn.port) (g.P.Port.told c.viewer_turn.new.port) c.loop-turn.offered did z.state
    i.0 i.1 few c.in_ok-viewer_turn.ensures.spoiled turn c.forget_some-due.ensures.forgot in (
      rw (c.rest-millis.ensures.told) (subst (λ k. ViewerTurns v c.args.host c.args.points.now c.args.until c.args.forget (c.loop-turn.turn + 1) (g.P.Port.told c.args.port.now) (g.P.Port.told c.viewer_turn.new.port) k z.state) (sym c.one_more_if-offered.ensures.value) more),
      c.forget_some-due.ensures.others ∙ ap (λ u. with_state u z.state) (c.in_ok-viewer_turn.ensures.others ∙ ap (λ u. with_state u y.state) i.1),
      c.rest-millis.ensures.count ∙ c.in_ok-viewer_turn.ensures.failures ∙ i.2,
      omega (arith, c.one_more_if-offered.ensures.most, i.3),
    )
