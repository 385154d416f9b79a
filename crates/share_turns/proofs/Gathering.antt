-- What comes in a turn of a viewer that joins or gives, datagram by datagram, and what it makes of it.
use Rattle.std.proofs.Common.{◌≡◌, ℕ, suc, ◌+◌, ◌<◌, ◌≤◌, List, [], ◌∷◌, ◌++◌, length, length-append, refl, ap, sym, ◌∙◌, arith, subst, inl, inr}
use Rattle.std.specs.Prelude.{Bool, true, false, Option, None, Some, Result, Ok, Err, is_ok}
use Rattle.std.proofs.lemmas.List.{map-append}
use Rattle.cascade_core.specs.Course.{Scripted}
use Rattle.snapshot_core.specs.declared.fault.SnapFault.{SnapFault}
use Rattle.snapshot_core.specs.declared.fault.SnapFault.TheVariants as snap
use Rattle.share_law.specs.declared.fault.JoinFault.{JoinFault}
use Rattle.share_law.specs.declared.fault.JoinFault.TheVariants.{NotWhole, Snap}
use Rattle.share_law.specs.Network.{join_result}
use Rattle.share_law.specs.Pieces.{Gathering, whole_of}
use Rattle.share_law.specs.Viewer.{ViewerState}
use Rattle.share_core.specs.Rewinds.{IsJoined}
use Rattle.share_core.specs.Viewer.{ViewerView, with_gathering}
use Rattle.share_turns.specs.declared.traffic.Datagram.{Datagram}
use Rattle.share_turns.specs.declared.traffic.Traffic.{Traffic}
use Rattle.share_turns.specs.declared.traffic.Traffic.TheVariants.{Received}
use Rattle.share_turns.specs.Told.{Grows}
use Rattle.share_turns.specs.declared.fault.SeriesFault.{SeriesFault}
use Rattle.share_turns.specs.declared.fault.SeriesFault.TheVariants as series
use Rattle.share_turns.specs.declared.fault.TurnFault.{TurnFault}
use Rattle.share_turns.specs.declared.fault.TurnFault.TheVariants as turn_fault
use Rattle.share_turns.specs.Exchanges.{IsEnd}
use Rattle.share_turns.specs.Gathers.{AreGathered, Comes, GatherTurns, Gathers, HasJoined, IsBeginning, IsGatherTurn, IsGathered, IsGathering, IsJoinCut, IsJoinEnd, begun_by, with_both}
use Rattle.share_turns.specs.HostTurn.{failures_after}
use Rattle.share_turns.specs.ViewerTurn.{Taking, received, refusals_of}
use Rattle.share_turns.specs.Views.{failures_in}
use Rattle.share_turns.specs.Refusals.{IsAnswerAfter}
use Rattle.share_turns.proofs.Answering.{answered_then, went_on}
use Rattle.share_turns.proofs.Sending.{grows_none, grows_then}

-- ---- what comes

-- so many datagrams came, and the turn goes on or ends there
pub record ComesSoFar (result : Result (Unit {0}) TurnFault) (a b : Option (List Traffic)) (takings : List Taking) (n : ℕ) : Type 0 where
  pub memory : IsAnswerAfter (refusals_of takings) result
  pub count : length takings ≡ n
  pub told : Grows a b (received takings)

comes_none : (a : Option (List Traffic)) → ComesSoFar went_on a a [] 0
comes_none a = record { memory = (0, refl); count = refl; told = grows_none a }

comes_more : (result : Result (Unit {0}) TurnFault) (a b c : Option (List Traffic)) (ts : List Taking) (t : Taking) (n : ℕ)
    → ComesSoFar went_on a b ts n → Grows b c (Received t.came ∷ []) → IsAnswerAfter (t.refused ∷ []) result → ComesSoFar result a c (ts ++ t ∷ []) (n + 1)
comes_more result a b c ts t n so grows answers = record {
  memory = rw (map-append (λ (k : Taking). k.refused) ts (t ∷ [])) (answered_then (refusals_of ts) (t.refused ∷ []) result so.memory answers);
  count = length-append ts (t ∷ []) ∙ ap (λ (k : ℕ). k + 1) so.count;
  told = rw (map-append (λ (k : Taking). Received k.came) ts (t ∷ [])) (grows_then a b c (received ts) (Received t.came ∷ []) so.told grows);
}

comes_end : (result : Result (Unit {0}) TurnFault) (a b c : Option (List Traffic)) (ts : List Taking) (n : ℕ) (rest : List Traffic)
    → ComesSoFar result a b ts n → n ≤ 64 → IsEnd (is_ok result) n rest → Grows b c rest → Comes result a c ts
comes_end result a b c ts n rest so few end grows = record {
  memory = so.memory;
  most = omega (arith, so.count, few);
  rest = rest;
  ended = rw so.count end;
  told = grows_then a b c (received ts) rest so.told grows;
}

comes_failed : (a b c : Option (List Traffic)) (ts : List Taking) (n : ℕ) → ComesSoFar went_on a b ts n → n ≤ 64 → Grows b c [] → Comes (Err turn_fault.Port) a c ts
comes_failed a b c ts n so few grows = comes_end (Err turn_fault.Port) a b c ts n [] (record { memory = so.memory; count = so.count; told = so.told }) few refl grows

-- ---- what is passed over

pub record PassedSoFar (a b : Option (List Traffic)) (n : ℕ) : Type 0 where
  pub takings : List Taking
  pub came : ComesSoFar went_on a b takings n

pub passed_none : (a : Option (List Traffic)) → PassedSoFar a a 0
passed_none a = record { takings = []; came = comes_none a }

pub passed_more : (a b c : Option (List Traffic)) (d : Datagram) (n : ℕ) → PassedSoFar a b n → Grows b c (Received d ∷ []) → PassedSoFar a c (n + 1)
passed_more a b c d n p grows =
    let last : Taking = record { came = d; refused = false } in
    record { takings = p.takings ++ last ∷ []; came = comes_more went_on a b c p.takings last n p.came grows (1, refl) }

pub passed_end : (a b c : Option (List Traffic)) (n : ℕ) (rest : List Traffic) → PassedSoFar a b n → n ≤ 64 → IsEnd true n rest → Grows b c rest
    → (takings : List Taking) × Comes went_on a c takings
passed_end a b c n rest p few end grows = (p.takings, comes_end went_on a b c p.takings n rest p.came few end grows)

pub passed_failed : (a b c : Option (List Traffic)) (n : ℕ) → PassedSoFar a b n → n ≤ 64 → Grows b c [] → (takings : List Taking) × Comes (Err turn_fault.Port) a c takings
passed_failed a b c n p few grows = (p.takings, comes_failed a b c p.takings n p.came few grows)

-- ---- what is gathered

one_more_gathered : (mark : List ℕ) (held : Option Gathering) (ts : List Taking) (t : Taking) (mid new : Option Gathering)
    → AreGathered mark held ts mid → IsGathering mark mid t.came.bytes t.refused new → AreGathered mark held (ts ++ t ∷ []) new
one_more_gathered mark held [] t mid new same took = (new, rw (← same) took, refl)
one_more_gathered mark held (e ∷ ts) t mid new before took = (before.0, before.1, one_more_gathered mark before.0 ts t mid new before.2 took)

pub record GathersSoFar (mark : List ℕ) (result : Result (Unit {0}) TurnFault) (a b : Option (List Traffic)) (old new : Option Gathering) (n : ℕ) : Type 0 where
  pub takings : List Taking
  pub gathered : AreGathered mark old takings new
  pub came : ComesSoFar result a b takings n

pub gathers_none : (mark : List ℕ) (a : Option (List Traffic)) (held : Option Gathering) → GathersSoFar mark went_on a a held held 0
gathers_none mark a held = record { takings = []; gathered = refl; came = comes_none a }

-- one more, by a viewer that came of this one
pub gathers_more : (v x : ViewerView) (result : Result (Unit {0}) TurnFault) (a b c : Option (List Traffic)) (d : Datagram) (refused : Bool) (new : Option Gathering) (n : ℕ)
    → x ≡ with_gathering v x.gathering → GathersSoFar v.mark went_on a b v.gathering x.gathering n → Grows b c (Received d ∷ []) → IsGathering x.mark x.gathering d.bytes refused new
    → IsAnswerAfter (refused ∷ []) result → GathersSoFar v.mark result a c v.gathering new (n + 1)
gathers_more v x result a b c d refused new n same so grows took answers =
    let last : Taking = record { came = d; refused = refused } in
    let owned = subst (λ (m : List ℕ). IsGathering m x.gathering d.bytes refused new) (ap (λ (z : ViewerView). z.mark) same) took in record {
      takings = so.takings ++ last ∷ [];
      gathered = one_more_gathered v.mark v.gathering so.takings last x.gathering new so.gathered owned;
      came = comes_more result a b c so.takings last n so.came grows answers;
    }

pub gathers_end : (mark : List ℕ) (result : Result (Unit {0}) TurnFault) (a b c : Option (List Traffic)) (old new : Option Gathering) (n : ℕ) (rest : List Traffic)
    → GathersSoFar mark result a b old new n → n ≤ 64 → IsEnd (is_ok result) n rest → Grows b c rest → Gathers mark result a c old new
gathers_end mark result a b c old new n rest so few end grows =
    record { takings = so.takings; gathered = so.gathered; came = comes_end result a b c so.takings n rest so.came few end grows }

-- 64 came, or memory was refused to one
pub gathers_all : (mark : List ℕ) (result : Result (Unit {0}) TurnFault) (a b : Option (List Traffic)) (old new : Option Gathering) (n : ℕ)
    → GathersSoFar mark result a b old new n → n ≤ 64 → IsEnd (is_ok result) n [] → Gathers mark result a b old new
gathers_all mark result a b old new n so few end = gathers_end mark result a b b old new n [] so few end (grows_none b)

-- the port failed then
pub gathers_failed : (mark : List ℕ) (a b c : Option (List Traffic)) (old new : Option Gathering) (n : ℕ)
    → GathersSoFar mark went_on a b old new n → n ≤ 64 → Grows b c [] → Gathers mark (Err turn_fault.Port) a c old new
gathers_failed mark a b c old new n so few grows =
    record { takings = so.takings; gathered = so.gathered; came = comes_failed a b c so.takings n so.came few grows }

-- ---- a turn

-- it ended early
pub gather_cut : (v x : ViewerView) (boot : ℕ) (fault : TurnFault) (a b : Option (List Traffic)) → x ≡ with_gathering v x.gathering
    → Gathers v.mark (Err fault) a b v.gathering x.gathering → IsGatherTurn v boot (Err (series.Turn fault)) a b x.state x.gathering
gather_cut v x boot fault a b same gathers =
    inr (record { fault = fault; is = refl; gathers = gathers; same = ap (λ (z : ViewerView). z.state) same })

-- it gathered, and then it joined
pub gather_joined : (v x y : ViewerView) (boot : ℕ) (result : Result Bool SeriesFault) (a b : Option (List Traffic)) → x ≡ with_gathering v x.gathering
    → Gathers v.mark went_on a b v.gathering x.gathering → IsBeginning x boot result y.state y.gathering → IsGatherTurn v boot result a b y.state y.gathering
gather_joined v x y boot result a b same gathers beginning = inl (record {
  gathered = x.gathering;
  gathers = gathers;
  beginning = subst (λ (z : ViewerView). IsBeginning z boot result y.state y.gathering) same beginning;
})

-- no port fails at a join
quiet_fault : (fault : SnapFault) (n m : ℕ) → m ≡ n → m ≡ failures_in (begun_by (Err (Snap fault))) n
quiet_fault snap.Short n m e = e
quiet_fault snap.BadMagic n m e = e
quiet_fault snap.BadVersion n m e = e
quiet_fault snap.WrongScene n m e = e
quiet_fault snap.BadDigest n m e = e
quiet_fault snap.NotCanonical n m e = e
quiet_fault snap.BootNotNew n m e = e
quiet_fault snap.ScriptState n m e = e
quiet_fault snap.Memory n m e = e

quiet_answer : (answer : Result ℕ JoinFault) (n m : ℕ) → m ≡ n → m ≡ failures_in (begun_by answer) n
quiet_answer (Ok k) n m e = e
quiet_answer (Err NotWhole) n m e = e
quiet_answer (Err (Snap fault)) n m e = quiet_fault fault n m e

pub quiet : (v : ViewerView) (boot : ℕ) (result : Result Bool SeriesFault) (state : ViewerState Scripted) (held : Option Gathering) (n m : ℕ)
    → IsBeginning v boot result state held → m ≡ n → m ≡ failures_in result n
quiet v boot result state held n m beginning e =
    subst (λ (r : Result Bool SeriesFault). m ≡ failures_in r n) (sym beginning.is) (quiet_answer beginning.answer n m e)

-- whatever a turn that ended early was to answer
pub failures_of_turn : (fault : TurnFault) (n m : ℕ) → m ≡ failures_after {A = Unit {0}} (Err fault) n → m ≡ failures_in {A = Bool} (Err (series.Turn fault)) n
failures_of_turn fault n m e = e

-- ---- turns, one after another

abbrev missing : Result Bool SeriesFault
missing = Ok false

never_missing : (rewound : Result ℕ SnapFault) → missing ≡ begun_by (join_result rewound) → ⊥
never_missing (Ok n) e = absurd (cc)
never_missing (Err snap.Short) e = absurd (cc)
never_missing (Err snap.BadMagic) e = absurd (cc)
never_missing (Err snap.BadVersion) e = absurd (cc)
never_missing (Err snap.WrongScene) e = absurd (cc)
never_missing (Err snap.BadDigest) e = absurd (cc)
never_missing (Err snap.NotCanonical) e = absurd (cc)
never_missing (Err snap.BootNotNew) e = absurd (cc)
never_missing (Err snap.ScriptState) e = absurd (cc)
never_missing (Err snap.Memory) e = absurd (cc)

still : (v : ViewerView) (held : Option Gathering) (boot : ℕ) (answer : Result ℕ JoinFault) (state : ViewerState Scripted) (new : Option Gathering)
    → IsJoined v held boot answer state new → missing ≡ begun_by answer → (held ≡ None) × (state ≡ v.state) × (new ≡ v.gathering)
still v None boot answer state new j e = (refl, j.1, j.2)
still v (Some g) boot answer state new j e =
    absurd (never_missing j.0 (subst (λ (r : Result ℕ JoinFault). missing ≡ begun_by r) j.2 e))

-- pieces are missing after a turn
pub not_begun : (v : ViewerView) (boot : ℕ) (a b : Option (List Traffic)) (state : ViewerState Scripted) (held : Option Gathering)
    → IsGatherTurn v boot (Ok false) a b state held → Gathers v.mark went_on a b v.gathering held × (whole_of held ≡ None) × (state ≡ v.state)
not_begun v boot a b state held (inl t) =
    let s = still (with_gathering v t.gathered) (whole_of t.gathered) boot t.beginning.answer state held t.beginning.joined t.beginning.is in
    (subst (λ (h : Option Gathering). Gathers v.mark went_on a b v.gathering h) (sym s.2) t.gathers, ap whole_of s.2 ∙ s.0, s.1)
not_begun v boot a b state held (inr t) = absurd (cc)

pub gathered_more : (v x : ViewerView) (boot n : ℕ) (a b c : Option (List Traffic)) (state : ViewerState Scripted) (held : Option Gathering)
    → x ≡ with_gathering v x.gathering → GatherTurns v.mark n a b v.gathering x.gathering → IsGatherTurn x boot (Ok false) b c state held
    → GatherTurns v.mark (n + 1) a c v.gathering held
gathered_more v x boot n a b c state held same turns turn =
    let s = not_begun x boot b c state held turn in
    let next : suc n ≡ n + 1 = omega arith in
    let gathers = subst (λ (m : List ℕ). Gathers m went_on b c x.gathering held) (ap (λ (z : ViewerView). z.mark) same) s.0 in
    subst (λ k. GatherTurns v.mark k a c v.gathering held) next (b, x.gathering, turns, gathers, s.1)

-- what a turn left is as it was, but for the pieces
pub same_but_pieces : (v x y : ViewerView) (boot : ℕ) (a b : Option (List Traffic)) → x ≡ with_gathering v x.gathering → y ≡ with_both x y.state y.gathering
    → IsGatherTurn x boot (Ok false) a b y.state y.gathering → y ≡ with_gathering v y.gathering
same_but_pieces v x y boot a b same others turn =
    let s = not_begun x boot a b y.state y.gathering turn in
    others ∙ ap (λ (state : ViewerState Scripted). with_both x state y.gathering) s.2 ∙ ap (λ (z : ViewerView). with_gathering z y.gathering) same

-- the last turn, after which it has begun
pub joined_at : (v x : ViewerView) (boot n : ℕ) (a b c : Option (List Traffic)) (state : ViewerState Scripted) (held : Option Gathering)
    → x ≡ with_gathering v x.gathering → GatherTurns v.mark n a b v.gathering x.gathering → IsGatherTurn x boot (Ok true) b c state held
    → HasJoined v boot (n + 1) a c state held
joined_at v x boot n a b c state held same turns (inl t) = record {
  done = n;
  is = refl;
  between = b;
  gathered = x.gathering;
  before = turns;
  last = subst (λ (z : ViewerView). IsGathered z boot (Ok true) b c state held) same t;
}
joined_at v x boot n a b c state held same turns (inr t) = absurd (cc)

-- or it can't go on
pub join_cut : (v x : ViewerView) (boot n turns : ℕ) (a b c : Option (List Traffic)) (fault : SeriesFault) (state : ViewerState Scripted) (held : Option Gathering)
    → n < turns → x ≡ with_gathering v x.gathering → GatherTurns v.mark n a b v.gathering x.gathering → IsGatherTurn x boot (Err fault) b c state held
    → IsJoinEnd v boot turns a c fault state held
join_cut v x boot n turns a b c fault state held few same before turn = ended fault turn
  where
    cut : (fault : SeriesFault) → IsGatherTurn x boot (Err fault) b c state held → IsJoinCut v boot turns a c fault state held
    cut fault turn = record {
      done = n;
      fewer = few;
      between = b;
      gathered = x.gathering;
      before = before;
      last = subst (λ (z : ViewerView). IsGatherTurn z boot (Err fault) b c state held) same turn;
    }

    never : (answer : Result ℕ JoinFault) → begun_by answer ≡ Err series.TurnsUsedUp → ⊥
    never (Ok k) e = absurd (cc)
    never (Err NotWhole) e = absurd (cc)
    never (Err (Snap snap.Short)) e = absurd (cc)
    never (Err (Snap snap.BadMagic)) e = absurd (cc)
    never (Err (Snap snap.BadVersion)) e = absurd (cc)
    never (Err (Snap snap.WrongScene)) e = absurd (cc)
    never (Err (Snap snap.BadDigest)) e = absurd (cc)
    never (Err (Snap snap.NotCanonical)) e = absurd (cc)
    never (Err (Snap snap.BootNotNew)) e = absurd (cc)
    never (Err (Snap snap.ScriptState)) e = absurd (cc)
    never (Err (Snap snap.Memory)) e = absurd (cc)

    ended : (fault : SeriesFault) → IsGatherTurn x boot (Err fault) b c state held → IsJoinEnd v boot turns a c fault state held
    ended (series.Turn e) turn = cut (series.Turn e) turn
    ended (series.Join e) turn = cut (series.Join e) turn
    ended series.TurnsUsedUp (inl t) = absurd (never t.beginning.answer (sym t.beginning.is))
    ended series.TurnsUsedUp (inr t) = absurd (cc)
