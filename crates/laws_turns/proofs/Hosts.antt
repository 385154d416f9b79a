-- What a host does, one thing after another, and what it sends for a datagram.
use Rattle.std.proofs.Common.{◌≡◌, ℕ, List, [], ◌∷◌, ◌++◌, true, false, Bool, refl, ap, sym, ◌∙◌, subst, append-nil, append_assoc}
use Rattle.std.specs.Prelude.{slice_get, Option, None, Some, Result, Ok, Err}
use Rattle.std.specs.Option.{option_map}
use Rattle.std.specs.List.{flat_map, range_with_len}
use Rattle.share_wire.specs.Decoding.{decoded}
use Rattle.share_wire.specs.declared.message.Body.{Body}
use Rattle.share_law.specs.declared.fault.HostFault.{HostFault}
use Rattle.share_rules.specs.declared.kept.SeatCount.{SeatCount}
use Rattle.share_law.specs.declared.reply.HostReply.{HostReply}
use Rattle.share_law.specs.declared.reply.HostReply.TheVariants.{Asked, Below}
use Rattle.share_law.specs.declared.step.Step.{Step}
use Rattle.share_law.specs.declared.step.Step.TheVariants.{HostAck, HostFloorPacket, HostPacket}
use Rattle.share_law.specs.Calls.{IsPartTakeOf}
use Rattle.share_law.specs.Host.{ack_of}
use Rattle.share_law.specs.Parts.{HostPart, part_packet}
use Rattle.share_turns.specs.declared.traffic.Datagram.{Datagram}
use Rattle.share_turns.specs.declared.traffic.Traffic.{Traffic}
use Rattle.share_turns.specs.declared.traffic.Traffic.TheVariants.{Received, Sent}
use Rattle.share_turns.specs.Exchanges.{Exchange, IsSentOf, sent_to, traffic_of}
use Rattle.share_turns.specs.HostTurn.{ack_to, acks_for, bodies_for, datagram_of, datagrams_for, datagrams_of, inputs_for, listed, sender_of}
use Rattle.share_turns.specs.Told.{Grows}
use Rattle.share_turns.proofs.Sending.{grows_none, grows_then}
use Rattle.laws_turns.specs.HostDoings.{HostDoing, AreHostDoings, HostDoes, all_host_traffic, host_traffic, packet_by}
use Rattle.laws_turns.specs.HostDoings as doing

-- ---- one after another

-- doings with this traffic
abbrev pub Did : (mark : List ℕ) → HostPart → HostPart → List Traffic → Type 0
Did mark old new passed = (ds : List HostDoing) × AreHostDoings mark old ds new × (all_host_traffic ds ≡ passed)

doings-append : (mark : List ℕ) (a : HostPart) (xs : List HostDoing) (b : HostPart) (ys : List HostDoing) (c : HostPart) → AreHostDoings mark a xs b → AreHostDoings mark b ys c → AreHostDoings mark a (xs ++ ys) c
doings-append mark a [] b ys c same rest = subst (λ (h : HostPart). AreHostDoings mark h ys c) same rest
doings-append mark a (d ∷ xs) b ys c first rest = (first.0, first.1, doings-append mark first.0 xs b ys c first.2 rest)

traffic-append : (xs ys : List HostDoing) → all_host_traffic (xs ++ ys) ≡ all_host_traffic xs ++ all_host_traffic ys
traffic-append [] ys = refl
traffic-append (d ∷ xs) ys = ap (λ (t : List Traffic). host_traffic d ++ t) (traffic-append xs ys) ∙ sym (append_assoc (host_traffic d) (all_host_traffic xs) (all_host_traffic ys))

pub did_none : (mark : List ℕ) (a b : HostPart) → b ≡ a → Did mark a b []
did_none mark a b same = ([], same, refl)

pub did_then : (mark : List ℕ) (a b c : HostPart) (t u : List Traffic) → Did mark a b t → Did mark b c u → Did mark a c (t ++ u)
did_then mark a b c t u x y = (
  x.0 ++ y.0,
  doings-append mark a x.0 b y.0 c x.1 y.1,
  traffic-append x.0 y.0 ∙ ap (λ (z : List Traffic). z ++ all_host_traffic y.0) x.2 ∙ ap (λ (z : List Traffic). t ++ z) y.2,
)

pub does_did : (mark : List ℕ) (a b : Option (List Traffic)) (old new : HostPart) (t : List Traffic) → Did mark old new t → Grows a b t → HostDoes mark a b old new
does_did mark a b old new t x told = record { doings = x.0; calls = x.1; told = subst (λ (u : List Traffic). Grows a b u) (sym x.2) told }

pub does_then : (mark : List ℕ) (a b c : Option (List Traffic)) (x y z : HostPart) → HostDoes mark a b x y → HostDoes mark b c y z → HostDoes mark a c x z
does_then mark a b c x y z one two =
    does_did mark a c x z _ (did_then mark x y z _ _ (one.doings, one.calls, refl) (two.doings, two.calls, refl)) (grows_then a b c _ _ one.told two.told)

pub does_none : (mark : List ℕ) (a b : Option (List Traffic)) (x y : HostPart) → b ≡ a → y ≡ x → HostDoes mark a b x y
does_none mark a b x y told same = does_did mark a b x y [] (did_none mark x y same) (subst (λ (c : Option (List Traffic)). Grows a c []) (sym told) (grows_none a))

-- ---- what is sent for a datagram

-- each body is the packet of a step
abbrev Made : HostPart → List Body → Type 0
Made p [] = Unit {0}
Made p (b ∷ bs) = ((s : Step) × (packet_by p s ≡ Some b)) × Made p bs

made-append : (p : HostPart) (xs ys : List Body) → Made p xs → Made p ys → Made p (xs ++ ys)
made-append p [] ys a b = b
made-append p (x ∷ xs) ys a b = (a.0, made-append p xs ys a.1 b)

made-option : (p : HostPart) (s : Step) (o : Option Body) → packet_by p s ≡ o → Made p (listed o)
made-option p s None e = tt
made-option p s (Some b) e = ((s, e), tt)

made-range : (p : HostPart) (ns : List ℕ) → Made p (flat_map (λ n. listed (part_packet p n)) ns)
made-range p [] = tt
made-range p (n ∷ ns) = made-append p (listed (part_packet p n)) _ (made-option p (HostPacket n) (part_packet p n) refl) (made-range p ns)

made-inputs : (p : HostPart) (reply : HostReply) → Made p (inputs_for p reply)
made-inputs p (Asked first count) = made-range p (range_with_len first count)
made-inputs p (Below f) = ((HostFloorPacket, refl), tt)
made-inputs p reply = tt

made-ack : (p : HostPart) (who : ℕ) (kept : Option SeatCount) → slice_get p.kept who ≡ kept → Made p (ack_to who kept)
made-ack p who None at = tt
made-ack p who (Some k) at = ((HostAck who, ap (option_map (ack_of who)) at), tt)

made-acks : (p : HostPart) (sender : Option ℕ) → Made p (acks_for p sender)
made-acks p None = tt
made-acks p (Some who) = made-ack p who (slice_get p.kept who) refl

first-of : (x y : List ℕ) (xs ys : List (List ℕ)) → x ∷ xs ≡ y ∷ ys → x ≡ y
first-of x y xs ys e = cc

rest-of : (x y : List ℕ) (xs ys : List (List ℕ)) → x ∷ xs ≡ y ∷ ys → xs ≡ ys
rest-of x y xs ys e = cc

no-first : (x : List ℕ) (xs : List (List ℕ)) → x ∷ xs ≡ [] → ⊥
no-first x xs e = cc

-- a prefix of the datagrams of these bodies
sends : (mark : List ℕ) (peer : ℕ) (p : HostPart) (bodies : List Body) → Made p bodies → (sent lost : List (List ℕ)) → sent ++ lost ≡ datagrams_of mark bodies → Did mark p p (sent_to peer sent)
sends mark peer p bodies made [] lost e = ([], refl, refl)
sends mark peer p [] made (x ∷ xs) lost e = absurd (no-first x (xs ++ lost) e)
sends mark peer p (b ∷ bs) made (x ∷ xs) lost e =
    let more = sends mark peer p bs made.1 xs lost (rest-of x (datagram_of mark b) (xs ++ lost) (datagrams_of mark bs) e) in
    let head : x ≡ datagram_of mark b = first-of x (datagram_of mark b) (xs ++ lost) (datagrams_of mark bs) e in
    let one : Datagram = record { peer = peer; bytes = x } in (
      doing.Sends made.0.0 one ∷ more.0,
      (p, (refl, ap (option_map (datagram_of mark)) made.0.1 ∙ ap Some (sym head)), more.1),
      ap (λ (t : List Traffic). Sent one ∷ t) more.2,
    )

front : (whole : Bool) (sent wanted : List (List ℕ)) → IsSentOf whole sent wanted → (lost : List (List ℕ)) × (sent ++ lost ≡ wanted)
front true sent wanted e = ([], append-nil sent ∙ e)
front false sent wanted e = e

pub exchange : (whole : Bool) (mark : List ℕ) (h : HostPart) (e : Exchange) (new : HostPart) (result : Result HostReply HostFault) → IsPartTakeOf mark h (decoded e.came.bytes) result new
    → IsSentOf whole e.sent (datagrams_for mark new e.came.bytes result) → Did mark h new (traffic_of e)
exchange whole mark h e new (Ok reply) took sent =
    let bodies = bodies_for new (sender_of (decoded e.came.bytes)) reply in
    let made = made-append new (inputs_for new reply) (acks_for new (sender_of (decoded e.came.bytes))) (made-inputs new reply) (made-acks new (sender_of (decoded e.came.bytes))) in
    let f = front whole e.sent (datagrams_of mark bodies) sent in
    let s = sends mark e.came.peer new bodies made e.sent f.0 f.1 in
    (doing.Takes e.came (Ok reply) ∷ s.0, (new, took, s.1), ap (λ (t : List Traffic). Received e.came ∷ t) s.2)
exchange whole mark h e new (Err fault) took sent =
    let f = front whole e.sent [] sent in
    let s = sends mark e.came.peer new [] tt e.sent f.0 f.1 in
    (doing.Takes e.came (Err fault) ∷ s.0, (new, took, s.1), ap (λ (t : List Traffic). Received e.came ∷ t) s.2)
