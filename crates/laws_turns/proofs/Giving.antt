-- A viewer that gives: it sends the pieces of its snapshot, and discards what comes.
use Rattle.std.proofs.Common.{◌≡◌, inl, inr, ℕ, zero, suc, List, [], ◌∷◌, ◌++◌, length, true, false, Bool, refl, ap, sym, ◌∙◌}
use Rattle.std.specs.Prelude.{Option, None, Some, Result, Ok, Err, is_ok}
use Rattle.std.specs.Option.{option_map}
use Rattle.x3d_values.specs.Stamp.{StampedView}
use Rattle.cascade_core.specs.Course.{Scripted}
use Rattle.share_wire.specs.declared.message.Body.{Body}
use Rattle.snapshot_core.specs.Shot.{shot}
use Rattle.share_law.specs.Viewer.{ViewerWorld, Running, Spoiled}
use Rattle.share_core.specs.Pieces.{count_of, piece_of}
use Rattle.share_core.specs.Viewer.{IfRunning, IfSpoiled, ViewerView}
use Rattle.share_turns.specs.declared.fault.TurnFault.{TurnFault}
use Rattle.share_turns.specs.declared.fault.TurnFault.TheVariants as turn_fault
use Rattle.share_turns.specs.declared.traffic.Traffic.{Traffic}
use Rattle.share_turns.specs.declared.traffic.Traffic.TheVariants.{Received}
use Rattle.share_turns.specs.Exchanges.{AreSent, sent_to}
use Rattle.share_turns.specs.Gives.{GiveTurns, GiveTurnsEnd, Gives, IsGiveCut, IsGiveEnd, IsPassedOver, given_in, piece_among, piece_in_turn}
use Rattle.share_turns.specs.HostTurn.{datagram_of, listed}
use Rattle.share_turns.specs.ViewerTurn.{Taking, received}
use Rattle.laws_turns.specs.ViewerDoings.{ViewerDoes}
use Rattle.laws_turns.specs.ViewerDoings as doing
use Rattle.laws_turns.proofs.Viewers.{Did, Made, did_none, did_then, does_did, does_none, does_then, ended, front, sends}

-- what comes is discarded
discards : (v : ViewerView) (ts : List Taking) → Did v v (received ts)
discards v [] = did_none v v refl
discards v (t ∷ ts) =
    let more = discards v ts in (doing.Discards t.came ∷ more.0, (v, refl, more.1), ap (λ (u : List Traffic). Received t.came ∷ u) more.2)

passed-over : (v : ViewerView) (result : Result (Unit {0}) TurnFault) (a b : Option (List Traffic)) → IsPassedOver result a b → ViewerDoes a b v v
passed-over v result a b p =
    does_did a b v v (received p.0 ++ p.1.rest) (did_then v v v (received p.0) p.1.rest (discards v p.0) (ended v (is_ok result) (length p.0) p.1.rest p.1.ended)) p.1.told

-- a viewer that runs with this world
module _ (v : ViewerView) (w : Scripted) (window : List (Option StampedView)) (runs : v.state.view ≡ Running w window) where
  abbrev bytes : List ℕ
  bytes = shot v.mark v.state.boot v.scene w

  made-piece : (k : ℕ) (o : Option Body) → piece_of bytes k ≡ o → Made v (listed o)
  made-piece k None e = tt
  made-piece k (Some b) e = ((λ peer sent same. (doing.Gives k (record { peer = peer; bytes = sent }), (refl, (w, window, runs, ap (option_map (datagram_of v.mark)) e ∙ ap Some (sym same))), refl)), tt)

  made-given : (count : Option ℕ) (n : ℕ) → Made v (listed (piece_among count bytes n))
  made-given None n = tt
  made-given (Some count) n = made-piece (piece_in_turn count n) (piece_of bytes (piece_in_turn count n)) refl

  gives-one : (whole : Bool) (to n : ℕ) (a b : Option (List Traffic)) → AreSent whole to a b (given_in v.mark bytes n) → ViewerDoes a b v v
  gives-one whole to n a b s =
      let f = front whole s.sent (given_in v.mark bytes n) s.of_wanted in
      does_did a b v v (sent_to to s.sent) (sends to v (listed (piece_among (count_of bytes) bytes n)) (made-given (count_of bytes) n) s.sent f.0 f.1) s.told

  give-turns : (to n : ℕ) (a b : Option (List Traffic)) → GiveTurns v.mark bytes to n a b → ViewerDoes a b v v
  give-turns to zero a b t = does_none a b v v t refl
  give-turns to (suc n) a b t =
      does_then a t.0 b v v v (give-turns to n a t.0 t.1)
      (does_then t.0 t.2.0 b v v v (gives-one true to n t.0 t.2.0 t.2.1) (passed-over v (Ok tt) t.2.0 b t.2.2))

  give-cut : (to n : ℕ) (a b : Option (List Traffic)) → IsGiveCut v.mark bytes to n a b → ViewerDoes a b v v
  give-cut to n a b (inl s) = gives-one false to n a b s
  give-cut to n a b (inr t) = does_then a t.0 b v v v (gives-one true to n a t.0 t.1) (passed-over v (Err turn_fault.Port) t.0 b t.2)

  give-end : (to n : ℕ) (a b : Option (List Traffic)) → GiveTurnsEnd v.mark bytes to n a b → ViewerDoes a b v v
  give-end to n a b e = does_then a e.between b v v v (give-turns to e.done a e.between e.before) (give-cut to e.done e.between b e.last)

gives-by : (v : ViewerView) (view : ViewerWorld Scripted) → v.state.view ≡ view → (to n : ℕ) (a b : Option (List Traffic)) → IfSpoiled view ⊥
    → IfRunning view (λ w. GiveTurns v.mark (shot v.mark v.state.boot v.scene w) to n a b) → ViewerDoes a b v v
gives-by v (Spoiled count) is to n a b none t = absurd none
gives-by v (Running w window) is to n a b none t = give-turns v w window is to n a b t

pub gives : (v : ViewerView) (to n : ℕ) (a b : Option (List Traffic)) → Gives v to n a b → ViewerDoes a b v v
gives v to n a b g = gives-by v v.state.view refl to n a b g.0 g.1

gives-end-by : (v : ViewerView) (view : ViewerWorld Scripted) → v.state.view ≡ view → (to n : ℕ) (a b : Option (List Traffic)) → IfSpoiled view ⊥
    → IfRunning view (λ w. GiveTurnsEnd v.mark (shot v.mark v.state.boot v.scene w) to n a b) → ViewerDoes a b v v
gives-end-by v (Spoiled count) is to n a b none t = absurd none
gives-end-by v (Running w window) is to n a b none t = give-end v w window is to n a b t

pub gives_end : (v : ViewerView) (to n : ℕ) (a b : Option (List Traffic)) (fault : TurnFault) → IsGiveEnd v to n a b fault → ViewerDoes a b v v
gives_end v to n a b turn_fault.Port g = gives-end-by v v.state.view refl to n a b g.0 g.1
gives_end v to n a b turn_fault.Spoiled g = does_none a b v v g.1 refl
gives_end v to n a b turn_fault.Memory g = does_none a b v v g.1 refl
