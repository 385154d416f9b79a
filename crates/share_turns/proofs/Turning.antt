-- A turn of the host, datagram by datagram.
use Rattle.std.proofs.Common.{◌≡◌, ℕ, ◌+◌, ◌<◌, ◌≤◌, ℤ, Bool, true, false, List, [], ◌∷◌, ◌++◌, length, length-append, refl, ap, sym, ◌∙◌, subst, arith, append-nil}
use Rattle.std.specs.Prelude.{Option, Result, Ok, Err, OnErr, is_err, is_ok}
use Rattle.std.proofs.lemmas.Grind.{flat_map-append}
use Rattle.std.proofs.lemmas.List.{map-append}
use Rattle.share_wire.specs.Decoding.{decoded}
use Rattle.share_wire.specs.declared.fault.WireFault.{WireFault}
use Rattle.share_wire.specs.declared.message.Message.{Message}
use Rattle.share_law.specs.declared.fault.HostFault.{HostFault}
use Rattle.share_law.specs.declared.reply.HostReply.{HostReply}
use Rattle.share_law.specs.Calls.{IsPartTakeOf}
use Rattle.share_law.specs.Parts.{HostPart}
use Rattle.share_law.specs.Network.{HostTook}
use Rattle.share_law.specs.Steps.{says_memory}
use Rattle.share_turns.specs.declared.traffic.Datagram.{Datagram}
use Rattle.share_turns.specs.declared.traffic.Traffic.{Traffic}
use Rattle.share_turns.specs.declared.traffic.Traffic.TheVariants.{Received}
use Rattle.share_turns.specs.Told.{Grows}
use Rattle.share_turns.specs.Exchanges.{AreSent, Exchange, IsEnd, IsSentOf, all_traffic, refusals_in, sent_to, traffic_of}
use Rattle.share_turns.specs.HostTurn.{AreAnswered, IsAnswered, IsBegun, IsExchange, IsHeardTurn, all_heard, bodies_for, datagrams_of, hears, is_whole, is_whole_before, sender_of}
use Rattle.share_turns.specs.Refusals.{IsAnswerAfter}
use Rattle.share_turns.specs.declared.fault.TurnFault.{TurnFault}
use Rattle.share_turns.specs.declared.fault.TurnFault.TheVariants as turn_fault
use Rattle.share_turns.proofs.Answering.{answered_at_once, answered_one, answered_then, went_on}
use Rattle.share_turns.proofs.Sending.{grows_none, grows_then}

all_is_front : (whole : Bool) (sent wanted : List (List ℕ)) → IsSentOf true sent wanted → IsSentOf whole sent wanted
all_is_front true sent wanted e = e
all_is_front false sent wanted e = ([], append-nil sent ∙ e)

front_before : (whole : Bool) (others : List Exchange) (sent wanted : List (List ℕ)) → IsSentOf (is_whole_before true others) sent wanted
    → IsSentOf (is_whole_before whole others) sent wanted
front_before whole [] sent wanted e = all_is_front whole sent wanted e
front_before whole (x ∷ others) sent wanted e = e

whole_or_not : (whole : Bool) (mark : List ℕ) (h : HostPart) (es : List Exchange) (new : HostPart) → AreAnswered true mark h es new → AreAnswered whole mark h es new
whole_or_not whole mark h [] new e = e
whole_or_not whole mark h (e ∷ es) new a =
    (a.0, record { result = a.1.result; took = a.1.took; refused = a.1.refused; sent = front_before whole es _ _ a.1.sent }, whole_or_not whole mark a.0 es new a.2)

-- what was answered before a datagram was answered whole
whole_then : (whole : Bool) (mark : List ℕ) (h next : HostPart) (x e : Exchange) (es : List Exchange)
    → IsAnswered (is_whole_before true es) mark h x next → IsAnswered (is_whole_before whole (es ++ e ∷ [])) mark h x next
whole_then whole mark h next x e [] a = a
whole_then whole mark h next x e (y ∷ es) a = a

one_more_answered : (whole : Bool) (mark : List ℕ) (h : HostPart) (es : List Exchange) (e : Exchange) (mid new : HostPart)
    → AreAnswered true mark h es mid → IsAnswered whole mark mid e new → AreAnswered whole mark h (es ++ e ∷ []) new
one_more_answered whole mark h [] e mid new same a = (new, rw (← same) a, refl)
one_more_answered whole mark h (x ∷ es) e mid new before a =
    (before.0, whole_then whole mark h before.0 x e es before.1, one_more_answered whole mark before.0 es e mid new before.2 a)

one_more_heard : (mark : List ℕ) (viewers : ℕ) (heard : List ℕ) (es : List Exchange) (e : Exchange)
    → all_heard mark viewers heard (es ++ e ∷ []) ≡ hears mark viewers (all_heard mark viewers heard es) e.came.bytes
one_more_heard mark viewers heard [] e = refl
one_more_heard mark viewers heard (x ∷ es) e = one_more_heard mark viewers (hears mark viewers heard x.came.bytes) es e

-- what was heard before a datagram, and of it
heard_then : (mark : List ℕ) (viewers : ℕ) (x y z : List ℕ) (es : List Exchange) (e : Exchange)
    → y ≡ all_heard mark viewers x es → z ≡ hears mark viewers y e.came.bytes → z ≡ all_heard mark viewers x (es ++ e ∷ [])
heard_then mark viewers x y z es e before last =
    last ∙ ap (λ (h : List ℕ). hears mark viewers h e.came.bytes) before ∙ sym (one_more_heard mark viewers x es e)

-- after so many datagrams, where memory was refused to none
pub record Turned (mark : List ℕ) (clock : Option ℤ) (a b : Option (List Traffic)) (old new : HostPart) (x y : List ℕ) (n : ℕ) : Type 0 where
  pub begun : HostPart
  pub exchanges : List Exchange
  pub clocked : IsBegun old clock false begun
  pub answered : AreAnswered true mark begun exchanges new
  pub heard : y ≡ all_heard mark (length old.kept) x exchanges
  pub memory : IsAnswerAfter (false ∷ refusals_in exchanges) went_on
  pub count : length exchanges ≡ n
  pub told : Grows a b (all_traffic exchanges)

pub turned_begun : (mark : List ℕ) (clock : Option ℤ) (a : Option (List Traffic)) (old begun : HostPart) (x : List ℕ) → IsBegun old clock false begun → Turned mark clock a a old begun x x 0
turned_begun mark clock a old begun x clocked =
    record { begun = begun; exchanges = []; clocked = clocked; answered = refl; heard = refl; memory = (1, refl); count = refl; told = grows_none a }

-- memory was refused to the clock
pub turn_unclocked : (mark : List ℕ) (clock : Option ℤ) (a : Option (List Traffic)) (old new : HostPart) (x : List ℕ) → IsBegun old clock true new
    → IsHeardTurn (Err turn_fault.Memory) mark clock a a old new x x
turn_unclocked mark clock a old new x clocked = record {
  refused = true;
  begun = new;
  clocked = clocked;
  exchanges = [];
  answered = refl;
  heard = refl;
  memory = (0, refl);
  most = omega arith;
  rest = [];
  ended = refl;
  told = grows_none a;
}

-- then this was told, and it went on or the port failed
pub turn_end : (result : Result (Unit {0}) TurnFault) (mark : List ℕ) (clock : Option ℤ) (a b c : Option (List Traffic)) (old new : HostPart) (x y : List ℕ) (n : ℕ) (rest : List Traffic)
    → Turned mark clock a b old new x y n → IsAnswerAfter [] result → n ≤ 64 → IsEnd (is_ok result) n rest → Grows b c rest → IsHeardTurn result mark clock a c old new x y
turn_end result mark clock a b c old new x y n rest t answers few end grows = record {
  refused = false;
  begun = t.begun;
  clocked = t.clocked;
  exchanges = t.exchanges;
  answered = whole_or_not (is_whole result) mark t.begun t.exchanges new t.answered;
  heard = t.heard;
  memory = answered_at_once (false ∷ refusals_in t.exchanges) result t.memory answers;
  most = omega (arith, t.count, few);
  rest = rest;
  ended = rw t.count end;
  told = grows_then a b c (all_traffic t.exchanges) rest t.told grows;
}

grown_more : (a b c d : Option (List Traffic)) (es : List Exchange) (e : Exchange)
    → Grows a b (all_traffic es) → Grows b c (Received e.came ∷ []) → Grows c d (sent_to e.came.peer e.sent) → Grows a d (all_traffic (es ++ e ∷ []))
grown_more a b c d es e told received sends =
    let grown = grows_then a b d (all_traffic es) (traffic_of e) told (grows_then b c d (Received e.came ∷ []) (sent_to e.came.peer e.sent) received sends) in
    rw (flat_map-append traffic_of es (e ∷ [])) (rw (append-nil (traffic_of e)) grown)

-- one exchange more, by its answer
more_answered : (result : Result (Unit {0}) TurnFault) (es : List Exchange) (e : Exchange) → IsAnswerAfter (false ∷ refusals_in es) went_on
    → IsAnswerAfter (e.refused ∷ []) result → IsAnswerAfter (false ∷ refusals_in (es ++ e ∷ [])) result
more_answered result es e before last =
    rw (map-append (λ (x : Exchange). x.refused) es (e ∷ [])) (answered_then (false ∷ refusals_in es) (e.refused ∷ []) result before last)

abbrev exchange_of : (result : Result (Unit {0}) TurnFault) (mark : List ℕ) (h : HostPart) (came : Datagram) (a b : Option (List Traffic)) (new : HostPart)
    → IsExchange result mark h came a b new → Exchange
exchange_of result mark h came a b new x = record { came = came; refused = x.refused; sent = x.sent }

-- one datagram more, at which the turn ended
pub turn_cut : (fault : TurnFault) (mark : List ℕ) (clock : Option ℤ) (a b c d : Option (List Traffic)) (came : Datagram) (old mid new : HostPart) (x y z : List ℕ) (n : ℕ)
    → Turned mark clock a b old mid x y n → n < 64 → Grows b c (Received came ∷ []) → z ≡ hears mark (length old.kept) y came.bytes → IsExchange (Err fault) mark mid came c d new
    → IsHeardTurn (Err fault) mark clock a d old new x z
turn_cut fault mark clock a b c d came old mid new x y z n t few received hearing i =
    let result : Result (Unit {0}) TurnFault = Err fault in
    let e = exchange_of result mark mid came c d new i in record {
      refused = false;
      begun = t.begun;
      clocked = t.clocked;
      exchanges = t.exchanges ++ e ∷ [];
      answered = one_more_answered (is_whole result) mark t.begun t.exchanges e mid new t.answered i.answered;
      heard = heard_then mark (length old.kept) x y z t.exchanges e t.heard hearing;
      memory = more_answered result t.exchanges e t.memory i.memory;
      most = rw (length-append t.exchanges (e ∷ [])) (omega (arith, t.count, few));
      rest = [];
      ended = refl;
      told = rw (append-nil (all_traffic (t.exchanges ++ e ∷ []))) (grown_more a b c d t.exchanges e t.told received i.told);
    }

-- one datagram more
pub turned_more : (mark : List ℕ) (clock : Option ℤ) (a b c d : Option (List Traffic)) (came : Datagram) (old mid new : HostPart) (x y z : List ℕ) (n : ℕ)
    → Turned mark clock a b old mid x y n → Grows b c (Received came ∷ []) → z ≡ hears mark (length old.kept) y came.bytes → IsExchange went_on mark mid came c d new
    → Turned mark clock a d old new x z (n + 1)
turned_more mark clock a b c d came old mid new x y z n t received hearing i =
    let e = exchange_of went_on mark mid came c d new i in record {
      begun = t.begun;
      exchanges = t.exchanges ++ e ∷ [];
      clocked = t.clocked;
      answered = one_more_answered true mark t.begun t.exchanges e mid new t.answered i.answered;
      heard = heard_then mark (length old.kept) x y z t.exchanges e t.heard hearing;
      memory = more_answered went_on t.exchanges e t.memory i.memory;
      count = length-append t.exchanges (e ∷ []) ∙ ap (λ (k : ℕ). k + 1) t.count;
      told = grown_more a b c d t.exchanges e t.told received i.told;
    }

-- ---- one exchange

-- the host refused what came, and nothing was sent
pub exchange_refused : (result : Result (Unit {0}) TurnFault) (fault : HostFault) (mark : List ℕ) (h : HostPart) (peer : ℕ) (read : Result Message WireFault) (a : Option (List Traffic)) (new : HostPart)
    → IsPartTakeOf mark h read (Err fault) new → is_err result ≡ says_memory (HostTook (Err fault)) → OnErr result (result ≡ Err turn_fault.Memory)
    → (bytes : List ℕ) → read ≡ decoded bytes → IsExchange result mark h (record { peer = peer; bytes = bytes }) a a new
exchange_refused result fault mark h peer read a new took refused memory bytes is = record {
  refused = is_err result;
  sent = [];
  answered = record {
    result = Err fault;
    took = subst (λ (r : Result Message WireFault). IsPartTakeOf mark h r (Err fault) new) is took;
    refused = refused;
    sent = none_sent result;
  };
  memory = answered_one (is_err result) result refl memory;
  told = grows_none a;
}
  where
    none_sent : (r : Result (Unit {0}) TurnFault) → IsSentOf (is_whole r) [] []
    none_sent (Ok x) = refl
    none_sent (Err turn_fault.Port) = ([], refl)
    none_sent (Err turn_fault.Spoiled) = refl
    none_sent (Err turn_fault.Memory) = refl

-- the host took what came, and sent for it as far as the port did
pub exchange_sent : (result : Result (Unit {0}) TurnFault) (reply : HostReply) (mark : List ℕ) (h : HostPart) (peer : ℕ) (read : Result Message WireFault) (a b : Option (List Traffic)) (new : HostPart)
    → IsPartTakeOf mark h read (Ok reply) new → AreSent (is_whole result) peer a b (datagrams_of mark (bodies_for new (sender_of read) reply))
    → IsAnswerAfter (false ∷ []) result → (bytes : List ℕ) → read ≡ decoded bytes → IsExchange result mark h (record { peer = peer; bytes = bytes }) a b new
exchange_sent result reply mark h peer read a b new took s answers bytes is = record {
  refused = false;
  sent = s.sent;
  answered = record {
    result = Ok reply;
    took = subst (λ (r : Result Message WireFault). IsPartTakeOf mark h r (Ok reply) new) is took;
    refused = refl;
    sent = subst (λ (r : Result Message WireFault). IsSentOf (is_whole result) s.sent (datagrams_of mark (bodies_for new (sender_of r) reply))) is s.of_wanted;
  };
  memory = answers;
  told = s.told;
}
