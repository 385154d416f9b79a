-- What a viewer takes in a turn, datagram by datagram.
use Rattle.std.proofs.Common.{◌≡◌, ℕ, ◌+◌, ◌≤◌, List, [], ◌∷◌, ◌++◌, length, length-append, refl, ap, sym, ◌∙◌, arith, append-nil, subst, inl, inr}
use Rattle.std.specs.Prelude.{Bool, true, false, Option, Result, Ok, Err, IfOk, is_ok, replicate}
use Rattle.x3d_values.specs.declared.pointing.Point.{Point}
use Rattle.std.proofs.lemmas.Bool.{false≢true}
use Rattle.std.proofs.lemmas.List.{map-append}
use Rattle.cascade_core.specs.Course.{Scripted}
use Rattle.share_law.specs.Machine.{Machine}
use Rattle.share_law.specs.Viewer.{ViewerWorld, Running, Spoiled, ViewerState}
use Rattle.share_core.specs.Viewer.{IfRunning, IfSpoiled, ViewerView, is_spoiled, machine_of, with_state}
use Rattle.share_turns.specs.declared.traffic.Datagram.{Datagram}
use Rattle.share_turns.specs.declared.traffic.Traffic.{Traffic}
use Rattle.share_turns.specs.declared.traffic.Traffic.TheVariants.{Received}
use Rattle.share_turns.specs.Told.{Grows}
use Rattle.share_turns.specs.declared.fault.TurnFault.{TurnFault}
use Rattle.share_turns.specs.declared.fault.TurnFault.TheVariants as turn_fault
use Rattle.share_turns.specs.Exchanges.{AreSent, IsEnd, sent_to}
use Rattle.share_turns.specs.HostTurn.{failures_after}
use Rattle.share_turns.specs.ViewerTurn.{AreTaken, IsCutByMemory, IsOffered, IsTaking, IsViewerTurn, Takes, Taking, received, refusals_of, requests}
use Rattle.share_turns.specs.Refusals.{IsAnswerAfter}
use Rattle.share_turns.proofs.Answering.{answer_kept, answered_at_once, answered_then, went_on}
use Rattle.share_turns.proofs.Sending.{grows_none, grows_then}

one_more_taken : {W : Type 0} (m : Machine W) (mark : List ℕ) (who : ℕ) (x : ViewerState W) (ts : List Taking) (t : Taking) (mid y : ViewerState W)
    → AreTaken m mark who x ts mid → IsTaking m mark who mid t.came.bytes t.refused y → AreTaken m mark who x (ts ++ t ∷ []) y
one_more_taken m mark who x [] t mid y same took = (y, rw (← same) took, refl)
one_more_taken m mark who x (e ∷ ts) t mid y before took = (before.0, before.1, one_more_taken m mark who before.0 ts t mid y before.2 took)

-- so many datagrams were taken, and the turn goes on or ends there
pub record TakesSoFar (v : ViewerView) (result : Result (Unit {0}) TurnFault) (a b : Option (List Traffic)) (new : ViewerState Scripted) (n : ℕ) : Type 0 where
  pub takings : List Taking
  pub taken : AreTaken (machine_of v) v.mark v.who v.state takings new
  pub memory : IsAnswerAfter (refusals_of takings) result
  pub count : length takings ≡ n
  pub told : Grows a b (received takings)

pub takes_none : (v : ViewerView) (a : Option (List Traffic)) → TakesSoFar v went_on a a v.state 0
takes_none v a = record { takings = []; taken = refl; memory = (0, refl); count = refl; told = grows_none a }

-- what came was taken, and then this was told
pub takes_end : (v : ViewerView) (result : Result (Unit {0}) TurnFault) (a b c : Option (List Traffic)) (new : ViewerState Scripted) (n : ℕ) (rest : List Traffic)
    → TakesSoFar v result a b new n → n ≤ 64 → IsEnd (is_ok result) n rest → Grows b c rest → Takes (machine_of v) v.mark v.who result a c v.state new
takes_end v result a b c new n rest t few end grows = record {
  takings = t.takings;
  taken = t.taken;
  memory = t.memory;
  most = omega (arith, t.count, few);
  rest = rest;
  ended = rw t.count end;
  told = grows_then a b c (received t.takings) rest t.told grows;
}

-- 64 came, or memory was refused to one
pub takes_all : (v : ViewerView) (result : Result (Unit {0}) TurnFault) (a b : Option (List Traffic)) (new : ViewerState Scripted) (n : ℕ)
    → TakesSoFar v result a b new n → n ≤ 64 → IsEnd (is_ok result) n [] → Takes (machine_of v) v.mark v.who result a b v.state new
takes_all v result a b new n t few end = takes_end v result a b b new n [] t few end (grows_none b)

-- the port failed then
pub takes_failed : (v : ViewerView) (a b c : Option (List Traffic)) (new : ViewerState Scripted) (n : ℕ)
    → TakesSoFar v went_on a b new n → n ≤ 64 → Grows b c [] → Takes (machine_of v) v.mark v.who (Err turn_fault.Port) a c v.state new
takes_failed v a b c new n t few grows =
    takes_end v (Err turn_fault.Port) a b c new n []
    (record { takings = t.takings; taken = t.taken; memory = t.memory; count = t.count; told = t.told }) few refl grows

-- one more, by a viewer that came of this one
pub takes_more : (v x : ViewerView) (result : Result (Unit {0}) TurnFault) (a b c : Option (List Traffic)) (d : Datagram) (refused : Bool) (new : ViewerState Scripted) (n : ℕ)
    → x ≡ with_state v x.state → TakesSoFar v went_on a b x.state n → Grows b c (Received d ∷ []) → IsTaking (machine_of x) x.mark x.who x.state d.bytes refused new
    → IsAnswerAfter (refused ∷ []) result → TakesSoFar v result a c new (n + 1)
takes_more v x result a b c d refused new n same t grows took answers =
    let last : Taking = record { came = d; refused = refused } in
    let owned = subst (λ (y : ViewerView). IsTaking (machine_of y) y.mark y.who x.state d.bytes refused new) same took in record {
      takings = t.takings ++ last ∷ [];
      taken = one_more_taken (machine_of v) v.mark v.who v.state t.takings last x.state new t.taken owned;
      memory = rw (map-append (λ (k : Taking). k.refused) t.takings (last ∷ [])) (answered_then (refusals_of t.takings) (refused ∷ []) result t.memory answers);
      count = length-append t.takings (last ∷ []) ∙ ap (λ (k : ℕ). k + 1) t.count;
      told = rw (map-append (λ (k : Taking). Received k.came) t.takings (last ∷ [])) (grows_then a b c (received t.takings) (Received d ∷ []) t.told grows);
    }

-- ---- a whole turn

-- whatever cut the turn, nothing was sent
cut_kept : (fault : TurnFault) (rest : List Traffic) (sent : List (List ℕ)) → rest ≡ [] → sent ≡ [] → IsCutByMemory (Err fault) rest sent
cut_kept turn_fault.Port rest sent a b = tt
cut_kept turn_fault.Spoiled rest sent a b = tt
cut_kept turn_fault.Memory rest sent a b = (a, b)

-- a turn whose calls all had memory isn't cut by it
never_cut : (result : Result Bool TurnFault) (rest : List Traffic) (sent : List (List ℕ)) → IsAnswerAfter [] result → IsCutByMemory result rest sent
never_cut (Ok offered) rest sent a = tt
never_cut (Err turn_fault.Port) rest sent a = tt
never_cut (Err turn_fault.Spoiled) rest sent a = tt
never_cut (Err turn_fault.Memory) rest sent a = absurd (omega (arith, ap length a.1, length-append (replicate a.0 false) (true ∷ [])))

-- it ended early, before anything was sent
pub turn_stopped : (v begun : ViewerView) (host : ℕ) (point : Option Point) (offered : Bool) (a b : Option (List Traffic)) (fault : TurnFault) (new : ViewerState Scripted)
    → begun ≡ with_state v begun.state → IsOffered v.state point offered begun.state → Takes (machine_of begun) begun.mark begun.who (Err fault) a b begun.state new
    → IsViewerTurn (machine_of v) v.mark v.who host point a b v.state (Err fault) new
turn_stopped v begun host point offered a b fault new same offers takes =
    let t = subst (λ (y : ViewerView). Takes (machine_of y) y.mark y.who (Err fault) a b begun.state new) same takes in
    record {
      offered = offered;
      answer = tt;
      begun = begun.state;
      offers = offers;
      takings = t.takings;
      taken = t.taken;
      memory = answer_kept fault (refusals_of t.takings) t.memory;
      most = t.most;
      rest = t.rest;
      sent = [];
      ended = inr (t.ended, refl);
      cut = cut_kept fault t.rest [] t.ended refl;
      of_wanted = (requests (machine_of v) v.mark v.who new, refl);
      told = rw (append-nil (received t.takings ++ t.rest)) t.told;
    }

-- all was taken, and then sent as far as the port did
pub turn_sent : (v begun taken : ViewerView) (host : ℕ) (point : Option Point) (offered : Bool) (a b c : Option (List Traffic)) (result : Result Bool TurnFault)
    → begun ≡ with_state v begun.state → IsOffered v.state point offered begun.state → taken ≡ with_state begun taken.state
    → Takes (machine_of begun) begun.mark begun.who went_on a b begun.state taken.state
    → AreSent (is_ok result) host b c (requests (machine_of taken) taken.mark taken.who taken.state)
    → IfOk result (λ (x : Bool). x ≡ offered) → IsAnswerAfter [] result → IsViewerTurn (machine_of v) v.mark v.who host point a c v.state result taken.state
turn_sent v begun taken host point offered a b c result same offers then takes sent answer quiet =
    let whole : taken ≡ with_state v taken.state = then ∙ ap (λ (y : ViewerView). with_state y taken.state) same in
    let t = subst (λ (y : ViewerView). Takes (machine_of y) y.mark y.who went_on a b begun.state taken.state) same takes in
    let s = subst (λ (y : ViewerView). AreSent (is_ok result) host b c (requests (machine_of y) y.mark y.who taken.state)) whole sent in
    record {
      offered = offered;
      answer = answer;
      begun = begun.state;
      offers = offers;
      takings = t.takings;
      taken = t.taken;
      memory = answered_at_once (refusals_of t.takings) result t.memory quiet;
      most = t.most;
      rest = t.rest;
      sent = s.sent;
      ended = inl t.ended;
      cut = never_cut result t.rest s.sent quiet;
      of_wanted = s.of_wanted;
      told = grows_then a b c (received t.takings ++ t.rest) (sent_to host s.sent) t.told s.told;
    }

pub while_running : (view : ViewerWorld Scripted) (P : Type 0) → P → IfRunning view (λ w. P)
while_running (Running w window) P p = p
while_running (Spoiled count) P p = tt

pub while_spoiled : (view : ViewerWorld Scripted) (P : Type 0) → P → IfSpoiled view P
while_spoiled (Running w window) P p = tt
while_spoiled (Spoiled count) P p = p

pub unless_spoiled : (view : ViewerWorld Scripted) (P : Type 0) → is_spoiled view ≡ false → IfSpoiled view P
unless_spoiled (Running w window) P e = tt
unless_spoiled (Spoiled count) P e = absurd (false≢true (sym e))

pub unless_running : (view : ViewerWorld Scripted) (P : Scripted → Type 0) → is_spoiled view ≡ true → IfRunning view P
unless_running (Running w window) P e = absurd (false≢true e)
unless_running (Spoiled count) P e = tt

-- whatever a turn that ended early was to answer
pub failures_kept : (fault : TurnFault) (n m : ℕ) → m ≡ failures_after {A = Unit {0}} (Err fault) n → m ≡ failures_after {A = Bool} (Err fault) n
failures_kept turn_fault.Port n m e = e
failures_kept turn_fault.Spoiled n m e = e
failures_kept turn_fault.Memory n m e = e
