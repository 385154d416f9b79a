-- Late joiners of a rehearsal, by the law of the network that it stands for.
use Rattle.std.proofs.Common.{◌≡◌, ℕ, zero, suc, ◌≤◌, inl, inr, List, [], ◌∷◌, ◌++◌, length, map, take, refl, ap, sym, ◌∙◌, subst}
use Rattle.std.specs.Prelude.{slice_get, Option, Some, None, Result, Ok, nat_le, not}
use Rattle.std.specs.Option.{option_map}
use Rattle.std.proofs.lemmas.Option.{same_Some, none-some}
use Rattle.std.proofs.lemmas.Bool.{cond_both, false≢true}
use Rattle.std.proofs.lemmas.List.{map-append}
use Rattle.scene_core.specs.declared.scene.Route.{Route}
use Rattle.scene_core.specs.Scene.{SceneView}
use Rattle.cascade_core.specs.Apply.{world}
use Rattle.cascade_core.specs.Course.{Scripted}
use Rattle.snapshot_core.specs.declared.fault.SnapFault.{SnapFault}
use Rattle.share_law.specs.Agreement.{Agreement}
use Rattle.share_law.specs.Cascade.{InEveryScene, cascade}
use Rattle.share_law.specs.declared.step.Step.{Step}
use Rattle.share_law.specs.declared.step.Step.TheVariants.{ViewerJoin}
use Rattle.share_law.specs.Joins.{GatheringsAreOfShots, IsPartOf}
use Rattle.share_law.specs.Machine.{Machine}
use Rattle.share_law.specs.Network as law
use Rattle.share_law.specs.Network.{Network, Seat, in_new_boot, joined_by, join_result, joins_shot, viewer_joins, viewer_step, with_gathering, with_seat}
use Rattle.share_law.specs.Pieces.{Gathering, shot_with, whole_of}
use Rattle.share_law.specs.Reached.{IsRunning}
use Rattle.share_law.specs.Viewer.{Shot, ViewerState, begun, empty_window}
use Rattle.share_law.proofs.Shots.{shot_with-at}
use Rattle.share_law.proofs.Elements.{slice_get-set}
use Rattle.share_core.specs.Viewer.{ViewerView}
use Rattle.share_rehearsal.specs.declared.answer.Answer.{Answer}
use Rattle.share_rehearsal.specs.declared.answer.Answer.TheVariants.{Joined}
use Rattle.share_rehearsal.specs.declared.nodes.Shot.{Shot as Kept}
use Rattle.share_rehearsal.specs.Calls.{Seen}
use Rattle.share_rehearsal.specs.Laws.{IsTaken, JoinersStand, OfRehearsals, PiecesHold}
use Rattle.share_rehearsal.specs.Stands.{StandFor, law_answer, shot_at, viewer_at}
use Rattle.share_rehearsal.specs.Told.{IsToldStep, ToldRun}

-- ---- what stands for what

-- a snapshot of the network stands among the real ones
mapped : {X Y : Type 0} (f : X → Y) (xs : List X) (i : ℕ) (x : X) → slice_get xs i ≡ Some x → slice_get (map f xs) i ≡ Some (f x)
mapped f [] i x at = absurd (none-some x at)
mapped f (y ∷ xs) zero x at = ap (λ z. Some (f z)) (same_Some y x at)
mapped f (y ∷ xs) (suc i) x at = mapped f xs i x at

taken : (mark : List ℕ) (scene : SceneView) (routes : List Route) (left : Seen) (net : Network Scripted) (s : ℕ) (from : Shot Scripted)
    → StandFor mark scene routes left net → slice_get net.shots s ≡ Some from → IsTaken scene left s from
taken mark scene routes left net s from stand at =
    ap (λ (kept : List Kept). slice_get kept s) stand.shots ∙ mapped (shot_at mark scene) net.shots s from at
    ∙ ap (λ (m : List ℕ). Some (shot_at m scene from)) (sym (ap (λ h. h.mark) stand.host))

-- the seat that a real viewer stands for
record SeatOf (mark : List ℕ) (scene : SceneView) (routes : List Route) (net : Network Scripted) (v : ℕ) (x : ViewerView) : Type 0 where
  seat : Seat Scripted
  at : slice_get net.viewers v ≡ Some seat
  is : x ≡ viewer_at mark scene routes v seat

seat_behind : (mark : List ℕ) (scene : SceneView) (routes : List Route) (net : Network Scripted) (v : ℕ) (x : ViewerView) (o : Option (Seat Scripted))
    → slice_get net.viewers v ≡ o → Some x ≡ option_map (viewer_at mark scene routes v) o → SeatOf mark scene routes net v x
seat_behind mark scene routes net v x None at is = absurd (none-some x (sym is))
seat_behind mark scene routes net v x (Some seat) at is = record { seat = seat; at = at; is = same_Some x (viewer_at mark scene routes v seat) is }

seat_of : (mark : List ℕ) (scene : SceneView) (routes : List Route) (left : Seen) (net : Network Scripted) (v : ℕ) (x : ViewerView)
    → StandFor mark scene routes left net → slice_get left.viewers v ≡ Some x → SeatOf mark scene routes net v x
seat_of mark scene routes left net v x stand at = seat_behind mark scene routes net v x (slice_get net.viewers v) refl (sym at ∙ stand.viewers v)

-- ---- what was gathered

pub pieces_hold : InEveryScene GatheringsAreOfShots → OfRehearsals PiecesHold
pieces_hold law mark scene routes viewers steps answers left r v x g at held =
    let seat = seat_of mark scene routes left r.net v x r.stand at in
    let own : seat.seat.gathering ≡ Some g = sym (ap (λ (z : ViewerView). z.gathering) seat.is) ∙ held in
    let part = law mark scene routes r.net r.reached v seat.seat g seat.at own in
    let same : mark ≡ left.host.mark = sym (ap (λ h. h.mark) r.stand.host) in (
      part.0,
      part.1,
      taken mark scene routes left r.net part.0 part.1 r.stand part.2,
      subst (λ (m : List ℕ). IsPartOf (cascade m scene routes) g part.1) same part.3,
      λ whole. part.4 whole ∙ ap (λ (m : List ℕ). (shot_at m scene part.1).bytes) same,
    )

-- ---- the last step

told_last : {W : Type 0} (m : Machine W) (old : Network W) (steps : List Step) (answers : List law.Answer) (s : Step) (a : law.Answer) (new : Network W)
    → ToldRun m old (steps ++ s ∷ []) (answers ++ a ∷ []) new → (mid : Network W) × IsToldStep m mid s a new
told_last {W} m old [] [] s a new run = (old, subst (λ (z : Network W). IsToldStep m old s a z) (sym run.2) run.1)
told_last m old (t ∷ steps) (b ∷ answers) s a new run = told_last m run.0 steps answers s a new run.2
told_last m old [] (b ∷ []) s a new run = absurd run.2
told_last m old [] (b ∷ c ∷ answers) s a new run = absurd run.2
told_last m old (t ∷ []) [] s a new run = absurd run.2
told_last m old (t ∷ u ∷ steps) [] s a new run = absurd run.2

-- ---- a join

-- the number that an answer tells of a viewer that joined
abbrev joined_at : law.Answer → Option ℕ
joined_at (law.Joined (Ok n)) = Some n
joined_at answer = None

-- the viewer stands in a snapshot of the network
record Stands {W : Type 0} (m : Machine W) (net : Network W) (v boot n : ℕ) : Type 0 where
  s : ℕ
  shot : Shot W
  at : slice_get net.shots s ≡ Some shot
  count : m.applied shot.state ≡ n
  seat : Seat W
  is : slice_get net.viewers v ≡ Some seat
  node : seat.node ≡ begun boot shot.state
  gathered : seat.gathering ≡ None

joins-not : {W : Type 0} {G : Type 0} (net new : Network W) (a : law.Answer) (n : ℕ) → joined_at a ≡ None → (let r : law.Answer × Network W = (a, net) in r) ≡ (law.Joined (Ok n), new) → G
joins-not {W} net new a n none h = absurd (none-some n (sym none ∙ ap (λ (r : law.Answer × Network W). joined_at r.0) h))

joins-so : {W : Type 0} (m : Machine W) (net new : Network W) (v s boot n : ℕ) (x : Seat W) (shot : Shot W) → slice_get net.viewers v ≡ Some x → slice_get net.shots s ≡ Some shot
    → (let r : law.Answer × Network W = (law.Joined (Ok (m.applied shot.state)), with_seat net v (with_gathering (in_new_boot x (begun boot shot.state)) None)) in r) ≡ (law.Joined (Ok n), new) → Stands m new v boot n
joins-so {W} m net new v s boot n x shot at shots h = record {
  s = s;
  shot = shot;
  at = ap (λ (r : law.Answer × Network W). slice_get r.1.shots s) (sym h) ∙ shots;
  count = same_Some _ n (ap (λ (r : law.Answer × Network W). joined_at r.0) h);
  seat = with_gathering (in_new_boot x (begun boot shot.state)) None;
  is = ap (λ (r : law.Answer × Network W). slice_get r.1.viewers v) (sym h) ∙ slice_get-set net.viewers v x _ at;
  node = refl;
  gathered = refl;
}

shot-joins : {W : Type 0} (m : Machine W) (net new : Network W) (v boot n : ℕ) (x : Seat W) (o : Option (Shot W)) → slice_get net.viewers v ≡ Some x → ((shot : Shot W) → o ≡ Some shot → (s : ℕ) × (slice_get net.shots s ≡ Some shot))
    → joins_shot m net v x boot o ≡ (law.Joined (Ok n), new) → Stands m new v boot n
shot-joins m net new v boot n x None at there h = joins-not net new _ n refl h
shot-joins {W} m net new v boot n x (Some shot) at there h =
    let shots : (s : ℕ) × (slice_get net.shots s ≡ Some shot) = there shot refl in
    let whole : Result ℕ SnapFault × ViewerState W → law.Answer × Network W = λ r. (law.Joined (join_result r.0), with_seat net v (joined_by x r)) in
    let Q : Result ℕ SnapFault × ViewerState W → Type 0 = λ r. whole r ≡ (law.Joined (Ok n), new) → Stands m new v boot n in
    cond_both (nat_le boot x.node.boot) _ _ Q (λ _ g. joins-not _ new _ n refl g)
    (λ _. cond_both (not (m.fits shot.state)) _ _ Q (λ _ g. joins-not _ new _ n refl g)
    (λ _. cond_both (nat_le boot shot.boot) _ _ Q (λ _ g. joins-not _ new _ n refl g)
    (λ _ g. joins-so m net new v shots.0 boot n x shot at shots.1 g))) h

gathered-joins : {W : Type 0} (m : Machine W) (net new : Network W) (v boot n : ℕ) (x : Seat W) (o : Option Gathering) → slice_get net.viewers v ≡ Some x → viewer_joins m net v x boot o ≡ (law.Joined (Ok n), new) → Stands m new v boot n
gathered-joins m net new v boot n x None at h = joins-not net new _ n refl h
gathered-joins m net new v boot n x (Some g) at h =
    shot-joins m net new v boot n x (shot_with m net.shots g) at (λ shot e. let there = shot_with-at m net.shots g shot e in (there.0, there.1)) h

step-joins : {W : Type 0} (m : Machine W) (net new : Network W) (v boot n : ℕ) (o : Option (Seat W)) → slice_get net.viewers v ≡ o → viewer_step m net (ViewerJoin v boot) v o ≡ (law.Joined (Ok n), new) → Stands m new v boot n
step-joins m net new v boot n None at h = joins-not net new _ n refl h
step-joins m net new v boot n (Some x) at h = gathered-joins m net new v boot n x (whole_of x.gathering) at h

told-joins : {W : Type 0} (m : Machine W) (net new : Network W) (v boot n : ℕ) → IsToldStep m net (ViewerJoin v boot) (law.Joined (Ok n)) new → Stands m new v boot n
told-joins m net new v boot n (inl had) = step-joins m net new v boot n (slice_get net.viewers v) refl had.1
told-joins m net new v boot n (inr not_had) = absurd (false≢true not_had.0)

last-joins : {W : Type 0} (m : Machine W) (old : Network W) (steps : List Step) (answers : List Answer) (v boot n : ℕ) (new : Network W)
    → ToldRun m old (steps ++ ViewerJoin v boot ∷ []) (map law_answer (answers ++ Joined (Ok n) ∷ [])) new → Stands m new v boot n
last-joins {W} m old steps answers v boot n new run =
    let one : Answer = Joined (Ok n) in
    let parted = subst (λ (told : List law.Answer). ToldRun m old (steps ++ ViewerJoin v boot ∷ []) told new) (map-append law_answer answers (one ∷ [])) run in
    let last = told_last m old steps (map law_answer answers) (ViewerJoin v boot) (law.Joined (Ok n)) new parted in
    told-joins m last.0 new v boot n last.1

pub joiners_stand : ((mark : List ℕ) (scene : SceneView) (routes : List Route) → Agreement mark scene routes) → JoinersStand
joiners_stand law mark scene routes viewers steps answers left v boot n r =
    let m = cascade mark scene routes in
    let b = last-joins m _ steps answers v boot n r.net r.run in
    let runs : IsRunning r.net v b.shot.state empty_window = record { seat = b.seat; is = b.is; view = ap (λ (y : ViewerState Scripted). y.view) b.node } in
    let holds = law mark scene routes r.net r.reached v b.shot.state empty_window runs in
    record {
      s = b.s;
      from = b.shot;
      taken = taken mark scene routes left r.net b.s b.shot r.stand b.at;
      viewer = viewer_at mark scene routes v b.seat;
      is = r.stand.viewers v ∙ ap (option_map (viewer_at mark scene routes v)) b.is;
      state = b.node;
      gathered = b.gathered;
      most = subst (λ (k : ℕ). k ≤ length r.net.host.list) b.count holds.0;
      world_of_n = holds.1 ∙ ap (λ (k : ℕ). world scene routes (take k r.net.host.list)) b.count;
    }
