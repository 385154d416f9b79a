-- A rehearsal as a whole.
use Rattle.std.proofs.Common.{◌≡◌, ℕ, ◌≤◌, List, [], length, map, replicate, refl, sym, subst}
use Rattle.std.proofs.lemmas.Option.{none-some}
use Rattle.x3d_values.specs.Ranges.{max_viewers}
use Rattle.scene_core.specs.declared.scene.Route.{Route}
use Rattle.scene_core.specs.Scene.{SceneView}
use Rattle.cascade_core.specs.Held.{StageView}
use Rattle.share_law.specs.declared.step.Step.{Step}
use Rattle.share_law.specs.Cascade.{cascade}
use Rattle.share_law.specs.Network.{start}
use Rattle.share_law.proofs.Runs.{Run-reached}
use Rattle.share_core.specs.Host.{HostView}
use Rattle.share_core.specs.Viewer.{ViewerView}
use Rattle.laws_worlds.proofs.NetworksWorlds.{saved_have}
use Rattle.share_rehearsal.specs.declared.answer.Answer.{Answer}
use Rattle.share_rehearsal.specs.Calls.{Seen, AreCalls, begun_with}
use Rattle.share_rehearsal.specs.Stands.{law_answer}
use Rattle.share_rehearsal.specs.Loaded.{AreLoaded}
use Rattle.share_rehearsal.specs.Rehearsed.{IsLogged, IsRehearsal, IsRehearsed}
use Rattle.share_rehearsal.proofs.Plays.{stand-begun}
use Rattle.share_rehearsal.proofs.Telling.{told_run}
use Rattle.share_rehearsal.proofs.Loads.{ShotsLoad}
use Rattle.share_rehearsal.proofs.Ties.{IsAt, tied}

-- ---- all of it

-- each snapshot of a run can be loaded where all loaded one text
loads : (text mark : List ℕ) (scene : SceneView) (routes : List Route) (stages : List StageView) → AreLoaded text scene routes stages → ShotsLoad mark scene routes
loads text mark scene routes stages loaded net reached s taken at few = saved_have text loaded.flat scene routes mark net loaded.is_scene loaded.attached reached s taken at few

is-rehearsal : (mark : List ℕ) (stages : List StageView) (steps : List Step) (answers : List Answer) (new : Seen) → 1 ≤ length stages → length stages ≤ max_viewers → AreCalls (begun_with mark stages) steps answers new
    → (text : List ℕ) (scene : SceneView) (routes : List Route) → AreLoaded text scene routes stages → IsRehearsal mark scene routes (length stages) steps answers new
is-rehearsal mark stages steps answers new some most calls text scene routes loaded =
    let m = cascade mark scene routes in
    let first = start m (replicate (length stages) 1) in
    let can = loads text mark scene routes stages loaded in
    let now : IsAt mark scene routes can first (begun_with mark stages) = record {
      reached = Run-reached m (length stages) [] [] first some most refl;
      stand = stand-begun mark scene routes stages loaded.one_scene;
      boots = λ n taken at. absurd (none-some taken at);
      lines = λ n taken at. absurd (none-some taken at);
    } in
    let t = tied mark scene routes can first (begun_with mark stages) now steps answers new calls in
    record {
      net = t.0;
      run = told_run m first steps (map law_answer answers) t.0 t.1;
      reached = t.2.reached;
      stand = t.2.stand;
    }

pub is-rehearsed : (mark : List ℕ) (stages : List StageView) (steps : List Step) (before after : List ℕ) (old new : Seen) (host : HostView) (viewers : List ViewerView) → 1 ≤ length stages → length stages ≤ max_viewers → old ≡ begun_with mark stages → IsLogged old steps before after new
    → host ≡ new.host → viewers ≡ new.viewers → IsRehearsed mark stages steps before after host viewers
is-rehearsed mark stages steps before after old new host viewers some most begun logged first second =
    let calls : AreCalls (begun_with mark stages) steps logged.answers new = subst (λ (s : Seen). AreCalls s steps logged.answers new) begun logged.calls in
    let whole : IsRehearsed mark stages steps before after new.host new.viewers = record {
      answers = logged.answers;
      packets = new.packets;
      shots = new.shots;
      calls = calls;
      log = logged.log;
      law = is-rehearsal mark stages steps logged.answers new some most calls;
    } in
    subst (λ (h : HostView). IsRehearsed mark stages steps before after h viewers) (sym first)
    (subst (λ (vs : List ViewerView). IsRehearsed mark stages steps before after new.host vs) (sym second) whole)
