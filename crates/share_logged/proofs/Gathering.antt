-- What a turn gathers, datagram by datagram.
use Rattle.std.proofs.Common.{◌≡◌, ℕ, ◌+◌, ◌≤◌, ℤ, true, false, List, [], ◌∷◌, ◌++◌, length, length-append, refl, ap, sym, ◌∙◌, subst, arith, append_assoc, append-nil}
use Rattle.std.specs.Prelude.{Option, Result, Ok, Err, IfOk, OnErr, is_ok}
use Rattle.std.proofs.lemmas.Grind.{flat_map-append}
use Rattle.std.proofs.lemmas.List.{map-append}
use Rattle.share_wire.specs.Decoding.{decoded}
use Rattle.share_wire.specs.declared.fault.WireFault.{WireFault}
use Rattle.share_wire.specs.declared.message.Message.{Message}
use Rattle.share_entries.specs.Entry.{EntryView}
use Rattle.share_law.specs.declared.fault.HostFault.{HostFault}
use Rattle.share_law.specs.declared.reply.HostReply.{HostReply}
use Rattle.share_law.specs.declared.reply.HostReply.TheVariants as reply
use Rattle.share_law.specs.Calls.{IsPartTakeOf}
use Rattle.share_law.specs.Network.{HostTook}
use Rattle.share_law.specs.Parts.{HostPart}
use Rattle.share_law.specs.Steps.{says_memory}
use Rattle.share_core.specs.Host.{AreNumbered}
use Rattle.share_turns.specs.declared.fault.TurnFault.{TurnFault}
use Rattle.share_turns.specs.declared.fault.TurnFault.TheVariants as turn_fault
use Rattle.share_turns.specs.declared.traffic.Traffic.{Traffic}
use Rattle.share_turns.specs.declared.traffic.Traffic.TheVariants.{Received}
use Rattle.share_turns.specs.Told.{Grows}
use Rattle.share_turns.specs.Exchanges.{IsEnd, sent_to}
use Rattle.share_turns.specs.HostTurn.{bodies_for, datagrams_of, hears, sender_of}
use Rattle.share_turns.specs.Refusals.{IsAnswerAfter}
use Rattle.share_turns.proofs.Answering.{answered_at_once, answered_one, answered_then, went_on}
use Rattle.share_turns.proofs.Sending.{grows_none, grows_then}
use Rattle.share_logged.specs.declared.pending.Note.{Note}
use Rattle.share_logged.specs.Notes.{AllNumbered, HasGathered, IsNoted, noted, sent_for, sent_for_all}
use Rattle.share_logged.specs.Turn.{AreTaken, IsClockTaken, Taking, all_answers, answers_to, heard_in, read_entries, received, refusals_of}

-- ---- one datagram more

one_more_taken : (mark : List ℕ) (h : HostPart) (ts : List Taking) (t : Taking) (later : List EntryView) (mid new : HostPart)
    → AreTaken mark h ts later mid → IsPartTakeOf mark mid (decoded t.came.bytes) t.answer new
    → AreTaken mark h (ts ++ t ∷ []) (later ++ read_entries mid.last (decoded t.came.bytes) t.answer) new
one_more_taken mark h [] t later mid new same took =
    let more : HostPart → List EntryView = λ m. read_entries m.last (decoded t.came.bytes) t.answer in
    let e : later ++ more mid ≡ more h ++ [] = ap (λ (l : List EntryView). l ++ more mid) same.0 ∙ ap more same.1 ∙ sym (append-nil (more h)) in
    (new, [], subst (λ (m : HostPart). IsPartTakeOf mark m (decoded t.came.bytes) t.answer new) same.1 took, e, (refl, refl))
one_more_taken mark h (x ∷ ts) t later mid new a took =
    let more : List EntryView = read_entries mid.last (decoded t.came.bytes) t.answer in
    let first : List EntryView = read_entries h.last (decoded x.came.bytes) x.answer in (
      a.0,
      a.1 ++ more,
      a.2,
      ap (λ (l : List EntryView). l ++ more) a.3 ∙ append_assoc first a.1 more,
      one_more_taken mark a.0 ts t a.1 mid new a.4 took,
    )

one_more_heard : (mark : List ℕ) (viewers : ℕ) (heard : List ℕ) (ts : List Taking) (t : Taking)
    → heard_in mark viewers heard (ts ++ t ∷ []) ≡ hears mark viewers (heard_in mark viewers heard ts) t.came.bytes
one_more_heard mark viewers heard [] t = refl
one_more_heard mark viewers heard (x ∷ ts) t = one_more_heard mark viewers (hears mark viewers heard x.came.bytes) ts t

note_answers : (mark : List ℕ) (h : HostPart) (to : ℕ) (read : Result Message WireFault) (bytes : List ℕ) (answer : Result HostReply HostFault) → read ≡ decoded bytes
    → sent_for_all mark h (noted to (sender_of read) answer) ≡ answers_to mark h (record { came = record { peer = to; bytes = bytes }; answer = answer }) ++ []
note_answers mark h to read bytes (Ok r) e = ap (λ (x : Result Message WireFault). sent_to to (datagrams_of mark (bodies_for h (sender_of x) r)) ++ []) e
note_answers mark h to read bytes (Err fault) e = refl

one_more_answered : (mark : List ℕ) (notes : List Note) (ts : List Taking) (peer : ℕ) (read : Result Message WireFault) (bytes : List ℕ) (answer : Result HostReply HostFault)
    → read ≡ decoded bytes → ((h : HostPart) → sent_for_all mark h notes ≡ all_answers mark h ts) → (h : HostPart)
    → sent_for_all mark h (notes ++ noted peer (sender_of read) answer) ≡ all_answers mark h (ts ++ record { came = record { peer = peer; bytes = bytes }; answer = answer } ∷ [])
one_more_answered mark notes ts peer read bytes answer is before h =
    let t : Taking = record { came = record { peer = peer; bytes = bytes }; answer = answer } in
    let more : List Note = noted peer (sender_of read) answer in
    flat_map-append (sent_for mark h) notes more
    ∙ ap (λ (l : List Traffic). l ++ sent_for_all mark h more) (before h)
    ∙ ap (λ (l : List Traffic). all_answers mark h ts ++ l) (note_answers mark h peer read bytes answer is)
    ∙ sym (flat_map-append (answers_to mark h) ts (t ∷ []))

-- ---- so far

-- after so many datagrams, where the last one ended the turn or not
pub record Gathered (result : Result (Unit {0}) TurnFault) (mark : List ℕ) (clock : Option ℤ) (a b : Option (List Traffic)) (old new : HostPart) (x y : List ℕ) (n : ℕ)
    (entries : List EntryView) (notes : List Note) : Type 0 where
  pub begun : HostPart
  pub first : List EntryView
  pub later : List EntryView
  pub takings : List Taking
  pub clocked : IsClockTaken old clock false first begun
  pub taken : AreTaken mark begun takings later new
  pub numbered : entries ≡ first ++ later
  pub heard : y ≡ heard_in mark (length old.kept) x takings
  pub memory : IsAnswerAfter (false ∷ refusals_of takings) result
  pub count : length takings ≡ n
  pub told : Grows a b (received takings)
  pub answers : (h : HostPart) → sent_for_all mark h notes ≡ all_answers mark h takings

pub gathered_begun : (mark : List ℕ) (clock : Option ℤ) (a : Option (List Traffic)) (old begun : HostPart) (x : List ℕ) (entries : List EntryView) (notes : List Note)
    → IsClockTaken old clock false entries begun → notes ≡ [] → Gathered went_on mark clock a a old begun x x 0 entries notes
gathered_begun mark clock a old begun x entries notes clocked none = record {
  begun = begun;
  first = entries;
  later = [];
  takings = [];
  clocked = clocked;
  taken = (refl, refl);
  numbered = sym (append-nil entries);
  heard = refl;
  memory = (1, refl);
  count = refl;
  told = grows_none a;
  answers = λ h. ap (sent_for_all mark h) none;
}

-- memory was refused to the clock
pub gather_unclocked : (mark : List ℕ) (clock : Option ℤ) (a : Option (List Traffic)) (old new : HostPart) (x : List ℕ) (entries : List EntryView) (notes : List Note)
    → IsClockTaken old clock true entries new → notes ≡ [] → HasGathered (Err turn_fault.Memory) mark clock a a old new x x entries notes
gather_unclocked mark clock a old new x entries notes clocked none = record {
  takings = [];
  gathered = record {
    refused = true;
    begun = new;
    first = entries;
    later = [];
    clocked = clocked;
    taken = (refl, refl);
    numbered = sym (append-nil entries);
    heard = refl;
    memory = (0, refl);
    most = omega arith;
    rest = [];
    ended = refl;
    told = grows_none a;
  };
  answers = λ h. ap (sent_for_all mark h) none;
}

-- one datagram more
pub gathered_more : (result : Result (Unit {0}) TurnFault) (mark : List ℕ) (clock : Option ℤ) (a b c : Option (List Traffic)) (peer : ℕ) (bytes : List ℕ) (read : Result Message WireFault)
    (old mid new : HostPart) (x y z : List ℕ) (n : ℕ) (entries more : List EntryView) (notes others : List Note)
    → Gathered went_on mark clock a b old mid x y n entries notes → read ≡ decoded bytes → Grows b c (Received (record { peer = peer; bytes = bytes }) ∷ [])
    → z ≡ hears mark (length old.kept) y bytes → IsNoted result mark mid peer read entries more notes others new → OnErr result (result ≡ Err turn_fault.Memory)
    → Gathered result mark clock a c old new x z (n + 1) more others
gathered_more result mark clock a b c peer bytes read old mid new x y z n entries more notes others g is grows hearing i fault =
    let t : Taking = record { came = record { peer = peer; bytes = bytes }; answer = i.answer } in
    let made : List EntryView = read_entries mid.last (decoded bytes) i.answer in
    let took = subst (λ (r : Result Message WireFault). IsPartTakeOf mark mid r i.answer new) is i.took in
    let entry : more ≡ entries ++ made = i.numbered ∙ ap (λ (r : Result Message WireFault). entries ++ read_entries mid.last r i.answer) is in
    let last = answered_one (says_memory (HostTook i.answer)) result i.refused fault in record {
      begun = g.begun;
      first = g.first;
      later = g.later ++ made;
      takings = g.takings ++ t ∷ [];
      clocked = g.clocked;
      taken = one_more_taken mark g.begun g.takings t g.later mid new g.taken took;
      numbered = entry ∙ ap (λ (l : List EntryView). l ++ made) g.numbered ∙ append_assoc g.first g.later made;
      heard = hearing ∙ ap (λ (h : List ℕ). hears mark (length old.kept) h bytes) g.heard ∙ sym (one_more_heard mark (length old.kept) x g.takings t);
      memory = rw (map-append (λ (k : Taking). says_memory (HostTook k.answer)) g.takings (t ∷ []))
          (answered_then (false ∷ refusals_of g.takings) (says_memory (HostTook i.answer) ∷ []) result g.memory last);
      count = length-append g.takings (t ∷ []) ∙ ap (λ (k : ℕ). k + 1) g.count;
      told = rw (map-append (λ (k : Taking). Received k.came) g.takings (t ∷ [])) (grows_then a b c (received g.takings) (Received t.came ∷ []) g.told grows);
      answers = λ h. ap (sent_for_all mark h) i.noted ∙ one_more_answered mark notes g.takings peer read bytes i.answer is g.answers h;
    }

-- then this was told, and it went on, or the port failed
pub gather_end : (result : Result (Unit {0}) TurnFault) (mark : List ℕ) (clock : Option ℤ) (a b c : Option (List Traffic)) (old new : HostPart) (x y : List ℕ) (n : ℕ)
    (entries : List EntryView) (notes : List Note) (rest : List Traffic)
    → Gathered went_on mark clock a b old new x y n entries notes → IsAnswerAfter [] result → n ≤ 64 → IsEnd (is_ok result) n rest → Grows b c rest
    → HasGathered result mark clock a c old new x y entries notes
gather_end result mark clock a b c old new x y n entries notes rest g answers few end grows = record {
  takings = g.takings;
  gathered = record {
    refused = false;
    begun = g.begun;
    first = g.first;
    later = g.later;
    clocked = g.clocked;
    taken = g.taken;
    numbered = g.numbered;
    heard = g.heard;
    memory = answered_at_once (false ∷ refusals_of g.takings) result g.memory answers;
    most = omega (arith, g.count, few);
    rest = rest;
    ended = rw g.count end;
    told = grows_then a b c (received g.takings) rest g.told grows;
  };
  answers = g.answers;
}

-- memory was refused to the last datagram
pub gather_cut : (fault : TurnFault) (mark : List ℕ) (clock : Option ℤ) (a b : Option (List Traffic)) (old new : HostPart) (x y : List ℕ) (n : ℕ)
    (entries : List EntryView) (notes : List Note)
    → Gathered (Err fault) mark clock a b old new x y n entries notes → n ≤ 64 → HasGathered (Err fault) mark clock a b old new x y entries notes
gather_cut fault mark clock a b old new x y n entries notes g few = record {
  takings = g.takings;
  gathered = record {
    refused = false;
    begun = g.begun;
    first = g.first;
    later = g.later;
    clocked = g.clocked;
    taken = g.taken;
    numbered = g.numbered;
    heard = g.heard;
    memory = g.memory;
    most = omega (arith, g.count, few);
    rest = [];
    ended = refl;
    told = rw (append-nil (received g.takings)) g.told;
  };
  answers = g.answers;
}

-- ---- the inputs that were asked for stay numbered

numbered_then : (p q : HostPart) (r : HostReply) → p.count ≤ q.count → AreNumbered p r → AreNumbered q r
numbered_then p q (reply.Asked first count) more is = omega (arith, more, is)
numbered_then p q (reply.Numbered n) more is = tt
numbered_then p q reply.Repeat more is = tt
numbered_then p q reply.Ahead more is = tt
numbered_then p q reply.OldBoot more is = tt
numbered_then p q (reply.Below f) more is = tt
numbered_then p q reply.NothingToDo more is = tt

pub all_numbered_then : (p q : HostPart) (notes : List Note) → p.count ≤ q.count → AllNumbered p notes → AllNumbered q notes
all_numbered_then p q [] more is = tt
all_numbered_then p q (n ∷ ns) more is = (numbered_then p q n.reply more is.0, all_numbered_then p q ns more is.1)

pub all_numbered_append : (p : HostPart) (notes others : List Note) → AllNumbered p notes → AllNumbered p others → AllNumbered p (notes ++ others)
all_numbered_append p [] others a b = b
all_numbered_append p (n ∷ ns) others a b = (a.0, all_numbered_append p ns others a.1 b)

pub noted_numbered : (q : HostPart) (to : ℕ) (sender : Option ℕ) (answer : Result HostReply HostFault) → IfOk answer (AreNumbered q) → AllNumbered q (noted to sender answer)
noted_numbered q to sender (Ok r) is = (is, tt)
noted_numbered q to sender (Err fault) is = tt
