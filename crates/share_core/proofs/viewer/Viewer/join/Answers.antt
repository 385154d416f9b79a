use Rattle.std.proofs.Common.{Bool, None, Some, length, ap, sym, ◌∙◌, subst}
use Rattle.std.specs.Prelude.{Option, if◌then◌else◌}
use Rattle.cascade_core.specs.Course.{Scripted}
use Rattle.share_law.specs.Pieces.{Gathering, whole_of}
use Rattle.share_law.specs.Viewer.{ViewerState}
use Rattle.share_core.specs.Rewinds.{IsBegunFrom, IsJoined}
use Rattle.share_core.specs.Viewer.{ViewerView, view_of, with_gathering}
use Rattle.share_core.specs.Waiting.{with_offers}
use Rattle.share_core.proofs.Joins.{joined_by, join_lawful}
use Rattle.share_core.proofs.viewer.Viewer.join.Goals as goal

pub returns-clause-step : goal.returns-clause-step
returns-clause-step g c =
    let answer = c.begin_from-answer.result in
    let g' : Gathering = c.in-Some.pieces in
    let old : ViewerView = record {
      mark = c.self.inside.mark;
      who = c.self.inside.offers.who;
      scene = c.self.inside.stage.scene;
      routes = c.self.inside.stage.routes;
      state = with_offers c.self.inside.offers (view_of c.self.inside.stage.held c.self.inside.window);
      gathering = c.self.inside.gathering;
    } in
    let new : ViewerState Scripted = c.begin_from-answer.new.self.state in
    let begun = subst (λ (h : Option Gathering). IsBegunFrom (with_gathering old h) (whole_of (Some g')) c.args.boot answer new) c.take.ensures.after c.begin_from-answer.ensures.step in
    let stays = c.unless.ensures ∙ ap (λ (b : Bool). let o : Option Gathering = if b then None else Some g' in o) c.is_ok.ensures.value in
    let joined = joined_by old g' c.args.boot answer new c.unless.result (sym c.take.ensures.value ∙ c.in-Some.is) begun stays in
    let here = subst (λ (v : ViewerView). IsJoined v (whole_of v.gathering) c.args.boot answer new c.unless.result) c.self.view_is joined in
    subst (λ (y : ViewerState Scripted). IsJoined c.args.self.now (whole_of c.args.self.now.gathering) c.args.boot answer y c.unless.result) (sym (ap (λ (v : ViewerView). v.state) c.self-2.view_is)) here

pub returns-clause-law : goal.returns-clause-law
returns-clause-law g c =
    join_lawful c.args.self.now c.args.boot c.begin_from-answer.result _ c.unless.result (sym (ap (λ (v : ViewerView). length v.mark) c.self.view_is) ∙ c.self.invariant.2) (returns-clause-step g c)
