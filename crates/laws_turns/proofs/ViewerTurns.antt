-- Turns of a viewer are calls on it, one after another.
use Rattle.std.proofs.Common.{◌≡◌, ◌⊎◌, inl, inr, ℕ, zero, suc, List, [], ◌∷◌, ◌++◌, length, true, Bool, refl, ap, sym, subst, ◌∙◌}
use Rattle.std.specs.Prelude.{slice_get, Option, None, Some, Result, Ok, Err, is_ok}
use Rattle.std.specs.Option.{option_map}
use Rattle.x3d_values.specs.declared.pointing.Point.{Point}
use Rattle.cascade_core.specs.Course.{Scripted}
use Rattle.share_wire.specs.declared.message.Body.{Body}
use Rattle.share_law.specs.Viewer.{ViewerWorld, Running, Spoiled, ViewerState, viewer_ask, viewer_resend}
use Rattle.share_core.specs.Viewer.{IfRunning, IfSpoiled, ViewerView, forgot_but, machine_of, with_state}
use Rattle.share_turns.specs.declared.fault.SeriesFault.{SeriesFault}
use Rattle.share_turns.specs.declared.fault.SeriesFault.TheVariants as series
use Rattle.share_turns.specs.declared.fault.TurnFault.{TurnFault}
use Rattle.share_turns.specs.declared.fault.TurnFault.TheVariants as turn_fault
use Rattle.share_turns.specs.declared.traffic.Traffic.{Traffic}
use Rattle.share_turns.specs.declared.traffic.Traffic.TheVariants.{Received, Sent}
use Rattle.share_turns.specs.Exchanges.{IsEnd, sent_to}
use Rattle.share_turns.specs.HostTurn.{datagram_of, listed}
use Rattle.share_turns.specs.ViewerTurn.{AreTaken, IsCut, IsOffered, IsViewerTurn, Taking, received, requests}
use Rattle.share_turns.specs.Views.{IsViewEnd, MayForget, ViewerTurns, forgot_as}
use Rattle.laws_turns.specs.ViewerDoings.{ViewerDoes, ViewerDoing, IsViewerDoing, viewer_traffic}
use Rattle.laws_turns.specs.ViewerDoings as doing
use Rattle.laws_turns.specs.Turns.{ViewerTurnsAreCalls}
use Rattle.share_turns.proofs.Sending.{grows_none}
use Rattle.laws_turns.proofs.Viewers.{Did, Made, did_none, did_then, does_did, does_none, does_then, ended, front, made_append, not_waited, sends}

offers : (v : ViewerView) (point : Option Point) (offered : Bool) (y : ViewerState Scripted) → IsOffered v.state point offered y → Did v (with_state v y) []
offers v None offered y o = did_none v (with_state v y) (ap (with_state v) o.0)
offers v (Some point) offered y o = (doing.Offers point o.0 ∷ [], (with_state v y, (refl, o.1), refl), refl)

taken : (v : ViewerView) (x : ViewerState Scripted) (ts : List Taking) (y : ViewerState Scripted) → AreTaken (machine_of v) v.mark v.who x ts y → Did (with_state v x) (with_state v y) (received ts)
taken v x [] y same = did_none (with_state v x) (with_state v y) (ap (with_state v) same)
taken v x (t ∷ ts) y a =
    let more = taken v a.0 ts y a.2 in
    (doing.Takes t.came a.1.0 ∷ more.0, (with_state v a.0, (refl, a.1.1), more.1), ap (λ (u : List Traffic). Received t.came ∷ u) more.2)

-- a waiting offer, and an ask
resent : (v : ViewerView) (b : Body) → viewer_resend v.who v.state 0 ≡ Some b → (peer : ℕ) (bytes : List ℕ) → bytes ≡ datagram_of v.mark b
    → (d : ViewerDoing) × IsViewerDoing v d v × (viewer_traffic d ≡ Sent (record { peer = peer; bytes = bytes }) ∷ [])
resent v b from peer bytes e = (doing.Resends 0 (record { peer = peer; bytes = bytes }), (refl, ap (option_map (datagram_of v.mark)) from ∙ ap Some (sym e)), refl)

asked : (v : ViewerView) (peer : ℕ) (bytes : List ℕ) → bytes ≡ datagram_of v.mark (viewer_ask (machine_of v) v.who v.state)
    → (d : ViewerDoing) × IsViewerDoing v d v × (viewer_traffic d ≡ Sent (record { peer = peer; bytes = bytes }) ∷ [])
asked v peer bytes e = (doing.Asks (record { peer = peer; bytes = bytes }), (refl, e), refl)

made-resend : (v : ViewerView) (o : Option Body) → viewer_resend v.who v.state 0 ≡ o → Made v (listed o)
made-resend v None e = tt
made-resend v (Some b) e = (resent v b e, tt)

made-requests : (v : ViewerView) → Made v (listed (viewer_resend v.who v.state 0) ++ viewer_ask (machine_of v) v.who v.state ∷ [])
made-requests v =
    made_append v (listed (viewer_resend v.who v.state 0)) (viewer_ask (machine_of v) v.who v.state ∷ []) (made-resend v (viewer_resend v.who v.state 0) refl)
    (asked v, tt)

-- the receives end, or the turn is cut
waits : (v : ViewerView) (n : ℕ) (rest : List Traffic) (sent : List (List ℕ)) (result : Result Bool TurnFault) → IsEnd true n rest ⊎ IsCut result rest sent → Did v v rest
waits v n rest sent result (inl end) = ended v true n rest end
waits v n rest sent (Ok offered) (inr cut) = absurd cut
waits v n rest sent (Err fault) (inr cut) = not_waited v rest cut.0

running : (v : ViewerView) (host : ℕ) (point : Option Point) (a b : Option (List Traffic)) (result : Result Bool TurnFault) (new : ViewerState Scripted)
    → IsViewerTurn (machine_of v) v.mark v.who host point a b v.state result new → ViewerDoes a b v (with_state v new)
running v host point a b result new t =
    let x = with_state v t.begun in
    let y = with_state v new in
    let first = offers v point t.offered t.begun t.offers in
    let next = taken v t.begun t.takings new t.taken in
    let rest = waits y (length t.takings) t.rest t.sent result t.ended in
    let f = front (is_ok result) t.sent (requests (machine_of v) v.mark v.who new) t.of_wanted in
    let last = sends host y (listed (viewer_resend v.who new 0) ++ viewer_ask (machine_of v) v.who new ∷ []) (made-requests y) t.sent f.0 f.1 in
    does_did a b v y ((received t.takings ++ t.rest) ++ sent_to host t.sent)
    (did_then v y y (received t.takings ++ t.rest) (sent_to host t.sent) (did_then v y y (received t.takings) t.rest (did_then v x y [] (received t.takings) first next) rest) last) t.told

turn-by : (v : ViewerView) (host : ℕ) (point : Option Point) (a b : Option (List Traffic)) (result : Result Bool TurnFault) (new : ViewerState Scripted) (view : ViewerWorld Scripted)
    → IfSpoiled view ((result ≡ Err turn_fault.Spoiled) × (new ≡ v.state) × (b ≡ a))
    → IfRunning view (λ w. IsViewerTurn (machine_of v) v.mark v.who host point a b v.state result new) → ViewerDoes a b v (with_state v new)
turn-by v host point a b result new (Spoiled count) spoiled turn = does_none a b v (with_state v new) spoiled.2 (ap (with_state v) spoiled.1)
turn-by v host point a b result new (Running w window) spoiled turn = running v host point a b result new turn

pub viewer_turns_are_calls : ViewerTurnsAreCalls
viewer_turns_are_calls v host point a b result new t = turn-by v host point a b result new v.state.view t.spoiled t.turn

-- ---- old lines are forgotten

forgets : (v : ViewerView) (last : ℕ) → Did v (with_state v (forgot_but last v.state)) []
forgets v last = (doing.Forgets last ∷ [], (with_state v (forgot_but last v.state), refl, refl), refl)

pub forgets_as : (v : ViewerView) (forget : Option ℕ) → Did v (with_state v (forgot_as forget v.state)) []
forgets_as v None = did_none v v refl
forgets_as v (Some last) = forgets v last

may-forget : (v : ViewerView) (forget : Option ℕ) (new : ViewerState Scripted) → MayForget forget v.state new → Did v (with_state v new) []
may-forget v forget new (inl same) = did_none v (with_state v new) (ap (with_state v) same)
may-forget v forget new (inr forgot) = subst (λ (x : ViewerState Scripted). Did v (with_state v x) []) (sym forgot) (forgets_as v forget)

-- what is done without a word to the port
pub does_silently : (a : Option (List Traffic)) (x y : ViewerView) → Did x y [] → ViewerDoes a a x y
does_silently a x y did = does_did a a x y [] did (grows_none a)

-- a turn, and then perhaps old lines are forgotten
turn-then : (v : ViewerView) (host : ℕ) (point : Option Point) (forget : Option ℕ) (a b : Option (List Traffic)) (result : Result Bool TurnFault) (turned new : ViewerState Scripted)
    → ViewerDoes a b v (with_state v turned) → MayForget forget turned new → ViewerDoes a b v (with_state v new)
turn-then v host point forget a b result turned new turn forgot =
    does_then a b b v (with_state v turned) (with_state v new) turn (does_silently b (with_state v turned) (with_state v new) (may-forget (with_state v turned) forget new forgot))

pub turns : (v : ViewerView) (host : ℕ) (points : List Point) (until : ℕ) (forget : Option ℕ) (n : ℕ) (a b : Option (List Traffic)) (offered : ℕ) (new : ViewerState Scripted) → ViewerTurns v host points until forget n a b offered new → ViewerDoes a b v (with_state v new)
turns v host points until forget zero a b offered new t = does_none a b v (with_state v new) t.0 (ap (with_state v) t.2)
turns v host points until forget (suc n) a b offered new t =
    does_then a t.0 b v (with_state v t.2) (with_state v new) (turns v host points until forget n a t.0 t.1 t.2 t.5)
    (turn-then (with_state v t.2) host (slice_get points t.1) forget t.0 b (Ok t.4) t.3 new
    (viewer_turns_are_calls (with_state v t.2) host (slice_get points t.1) t.0 b (Ok t.4) t.3 t.7) t.8)

pub view_end : (v : ViewerView) (host : ℕ) (points : List Point) (until : ℕ) (forget : Option ℕ) (n : ℕ) (a b : Option (List Traffic)) (fault : SeriesFault) (new : ViewerState Scripted) → IsViewEnd v host points until forget n a b fault new → ViewerDoes a b v (with_state v new)
view_end v host points until forget n a b series.TurnsUsedUp new r = turns v host points until forget n a b r.offered new r.turned
view_end v host points until forget n a b (series.Turn fault) new r =
    does_then a r.between b v (with_state v r.mid) (with_state v new) (turns v host points until forget r.done a r.between r.offered r.mid r.before)
    (viewer_turns_are_calls (with_state v r.mid) host (slice_get points r.offered) r.between b (Err fault) new r.last)
view_end v host points until forget n a b (series.Join fault) new r = absurd r
