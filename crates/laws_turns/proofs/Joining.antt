-- A viewer that joins: it gathers, turn after turn, and starts from what it gathered.
use Rattle.std.proofs.Common.{inl, inr, ℕ, zero, suc, List, [], ◌∷◌, ◌++◌, length, true, Bool, refl, ap, sym, subst}
use Rattle.std.specs.Prelude.{Option, Result, Ok, Err, is_ok}
use Rattle.cascade_core.specs.Course.{Scripted}
use Rattle.share_law.specs.Pieces.{Gathering}
use Rattle.share_law.specs.Viewer.{ViewerState}
use Rattle.share_core.specs.Viewer.{ViewerView, with_gathering}
use Rattle.share_turns.specs.declared.fault.SeriesFault.{SeriesFault}
use Rattle.share_turns.specs.declared.fault.SeriesFault.TheVariants as series
use Rattle.share_turns.specs.declared.fault.TurnFault.{TurnFault}
use Rattle.share_turns.specs.declared.traffic.Traffic.{Traffic}
use Rattle.share_turns.specs.declared.traffic.Traffic.TheVariants.{Received}
use Rattle.share_turns.specs.Gathers.{AreGathered, GatherTurns, Gathers, HasJoined, IsBeginning, IsGatherTurn, IsGathered, IsJoinCut, IsJoinEnd, with_both}
use Rattle.share_turns.specs.ViewerTurn.{Taking, received}
use Rattle.share_turns.proofs.Sending.{grows_none}
use Rattle.laws_turns.specs.ViewerDoings.{ViewerDoes}
use Rattle.laws_turns.specs.ViewerDoings as doing
use Rattle.laws_turns.proofs.Viewers.{Did, did_none, did_then, does_did, does_none, does_then, ended}

gathered : (v : ViewerView) (held : Option Gathering) (ts : List Taking) (new : Option Gathering) → AreGathered v.mark held ts new → Did (with_gathering v held) (with_gathering v new) (received ts)
gathered v held [] new same = did_none (with_gathering v held) (with_gathering v new) (ap (with_gathering v) same)
gathered v held (t ∷ ts) new a =
    let more = gathered v a.0 ts new a.2 in
    (doing.Gathers t.came a.1.0 ∷ more.0, (with_gathering v a.0, (refl, a.1.1), more.1), ap (λ (u : List Traffic). Received t.came ∷ u) more.2)

gathers : (v : ViewerView) (result : Result (Unit {0}) TurnFault) (a b : Option (List Traffic)) (held new : Option Gathering) → Gathers v.mark result a b held new → ViewerDoes a b (with_gathering v held) (with_gathering v new)
gathers v result a b held new g =
    let y = with_gathering v new in
    does_did a b (with_gathering v held) y (received g.takings ++ g.came.rest)
    (did_then (with_gathering v held) y y (received g.takings) g.came.rest (gathered v held g.takings new g.gathered) (ended y (is_ok result) (length g.takings) g.came.rest g.came.ended)) g.came.told

gather-turns : (v : ViewerView) (n : ℕ) (a b : Option (List Traffic)) (held new : Option Gathering) → GatherTurns v.mark n a b held new → ViewerDoes a b (with_gathering v held) (with_gathering v new)
gather-turns v zero a b held new t = does_none a b (with_gathering v held) (with_gathering v new) t.0 (ap (with_gathering v) t.1)
gather-turns v (suc n) a b held new t =
    does_then a t.0 b (with_gathering v held) (with_gathering v t.1) (with_gathering v new) (gather-turns v n a t.0 held t.1 t.2) (gathers v (Ok tt) t.0 b t.1 new t.3)

begins : (a : Option (List Traffic)) (v : ViewerView) (boot : ℕ) (result : Result Bool SeriesFault) (state : ViewerState Scripted) (held : Option Gathering) → IsBeginning v boot result state held → ViewerDoes a a v (with_both v state held)
begins a v boot result state held b =
    does_did a a v (with_both v state held) [] (doing.Joins boot b.answer ∷ [], (with_both v state held, (refl, b.joined, b.law), refl), refl) (grows_none a)

one-gathered : (v : ViewerView) (boot : ℕ) (result : Result Bool SeriesFault) (a b : Option (List Traffic)) (state : ViewerState Scripted) (held : Option Gathering) → IsGathered v boot result a b state held → ViewerDoes a b v (with_both v state held)
one-gathered v boot result a b state held g =
    does_then a b b v (with_gathering v g.gathered) (with_both v state held) (gathers v (Ok tt) a b v.gathering g.gathered g.gathers) (begins b (with_gathering v g.gathered) boot result state held g.beginning)

gather-turn : (v : ViewerView) (boot : ℕ) (result : Result Bool SeriesFault) (a b : Option (List Traffic)) (state : ViewerState Scripted) (held : Option Gathering) → IsGatherTurn v boot result a b state held → ViewerDoes a b v (with_both v state held)
gather-turn v boot result a b state held (inl g) = one-gathered v boot result a b state held g
gather-turn v boot result a b state held (inr cut) =
    subst (λ (x : ViewerState Scripted). ViewerDoes a b v (with_both v x held)) (sym cut.same) (gathers v (Err cut.fault) a b v.gathering held cut.gathers)

pub joined : (v : ViewerView) (boot n : ℕ) (a b : Option (List Traffic)) (state : ViewerState Scripted) (held : Option Gathering) → HasJoined v boot n a b state held → ViewerDoes a b v (with_both v state held)
joined v boot n a b state held j =
    does_then a j.between b v (with_gathering v j.gathered) (with_both v state held) (gather-turns v j.done a j.between v.gathering j.gathered j.before)
    (one-gathered (with_gathering v j.gathered) boot (Ok true) j.between b state held j.last)

cut-short : (v : ViewerView) (boot n : ℕ) (a b : Option (List Traffic)) (fault : SeriesFault) (state : ViewerState Scripted) (held : Option Gathering) → IsJoinCut v boot n a b fault state held → ViewerDoes a b v (with_both v state held)
cut-short v boot n a b fault state held j =
    does_then a j.between b v (with_gathering v j.gathered) (with_both v state held) (gather-turns v j.done a j.between v.gathering j.gathered j.before)
    (gather-turn (with_gathering v j.gathered) boot (Err fault) j.between b state held j.last)

pub join_end : (v : ViewerView) (boot n : ℕ) (a b : Option (List Traffic)) (fault : SeriesFault) (state : ViewerState Scripted) (held : Option Gathering) → IsJoinEnd v boot n a b fault state held → ViewerDoes a b v (with_both v state held)
join_end v boot n a b series.TurnsUsedUp state held j =
    subst (λ (x : ViewerState Scripted). ViewerDoes a b v (with_both v x held)) (sym j.1) (gather-turns v n a b v.gathering held j.0)
join_end v boot n a b (series.Turn fault) state held j = cut-short v boot n a b (series.Turn fault) state held j
join_end v boot n a b (series.Join fault) state held j = cut-short v boot n a b (series.Join fault) state held j
