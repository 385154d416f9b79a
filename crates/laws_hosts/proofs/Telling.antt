-- What a host is told of a number is an entry of the log.
use Rattle.std.proofs.Common.{◌≡◌, ℕ, ◌+◌, ℤ, pos, ◌+ℤ◌, true, inl, inr, List, [], ◌∷◌, ◌++◌, length, take, refl, ap, sym, ◌∙◌, subst, arith, length-append}
use Rattle.std.specs.Prelude.{slice_get, Option, Some, None, Result, Ok, Err, nat_lt, nat_le, if◌then◌else◌, ◌==◌}
use Rattle.std.proofs.lemmas.Option.{same_Some, none-some}
use Rattle.std.proofs.lemmas.Bool.{cond_both, eqb-true, true≢false}
use Rattle.std.proofs.lemmas.List.{take_all}
use Rattle.x3d_values.specs.declared.stamped.Cause.TheVariants.{Clock, Pointer}
use Rattle.x3d_values.specs.Stamp.{StampedView}
use Rattle.share_wire.specs.Messages.{OfferView}
use Rattle.share_wire.specs.declared.message.Body.{Body}
use Rattle.share_wire.specs.declared.message.Body.TheVariants.{Input, Offer, Ask, Ack, Floor, Piece}
use Rattle.share_rules.specs.declared.kept.SeatCount.{SeatCount}
use Rattle.share_law.specs.declared.fault.NumberFault.{NumberFault}
use Rattle.share_law.specs.declared.fault.FloorFault.{FloorFault}
use Rattle.share_law.specs.declared.fault.FloorFault.TheVariants.{FloorBack, FloorAhead}
use Rattle.share_law.specs.declared.fault.HostFault.{HostFault}
use Rattle.share_law.specs.declared.fault.HostFault.TheVariants.{BadViewer, Number}
use Rattle.share_law.specs.declared.reply.HostReply.{HostReply}
use Rattle.share_law.specs.declared.reply.HostReply.TheVariants as host_reply
use Rattle.share_law.specs.declared.step.Step.{Step}
use Rattle.share_law.specs.declared.step.Step.TheVariants.{HostClock, HostPacket, HostAck, HostTake, HostDropBelow, HostFloorPacket}
use Rattle.share_rules.specs.declared.offers.Standing.{Standing}
use Rattle.share_rules.specs.Asks.{span_of}
use Rattle.share_law.specs.Machine.{Machine}
use Rattle.share_law.specs.Host.{HostState, clocked, number_fault, last_time, host_packet, drop_below, offer_came, offer_answered, offer_numbered, reply_of, count_for, ask_came, asked, ack_of}
use Rattle.share_law.specs.Network.{Network, Answer, Clocked, HostTook, Sent, Dropped, NoSuch, sends, host_acks, host_takes, with_host}
use Rattle.share_law.proofs.Turning.{by_turn}
use Rattle.laws_hosts.specs.Log.{Entry, inputs_of, host_of}
use Rattle.laws_hosts.specs.Hosts.{Hosts, Reader, Told, Did, Fenced, NoMove, is_host_step, seen_by, with_entries, host_does, done_at, enters, appended, entry_of, offer_of, refused_at}
use Rattle.laws_hosts.specs.Steps.{NumbersAreEntries, number_told}
use Rattle.laws_hosts.proofs.Logs.{inputs-length, inputs-end, inputs-next}
use Rattle.laws_hosts.proofs.Mirror.{by_host, kept_of}
use Rattle.laws_hosts.proofs.Blind.{host-refuses}

-- ---- what a host is told

abbrev Tells : {W : Type 0} → Hosts W → (host : ℕ) → Told → List Entry → Type 0
Tells net host told log =
    ((n : ℕ) → number_told told ≡ Some n → (length log ≡ n) × (length net.log + 1 ≡ n) × ((r : Reader) × (slice_get net.hosts host ≡ Some r) × (r.read ≡ length net.log)))
    × (number_told told ≡ None → log ≡ net.log)

Tells-none : {W : Type 0} (net : Hosts W) (host : ℕ) (told : Told) → number_told told ≡ None → Tells net host told net.log
Tells-none net host told none = (λ n e. absurd (none-some n (sym none ∙ e)), λ _. refl)

abbrev Done : {W : Type 0} → Hosts W → (host : ℕ) → Reader → List Entry → Step → Answer × Network W → Type 0
Done net host r es s did =
    Tells net host (done_at net host r s did (slice_get did.1.host.list (length es))).0 (done_at net host r s did (slice_get did.1.host.list (length es))).1.log

-- one that numbers nothing
done-none : {W : Type 0} (net : Hosts W) (host : ℕ) (r : Reader) (es : List Entry) (s : Step) (a : Answer) (own : HostState) (sent : List Body) → own.list ≡ inputs_of es → number_told (Did a) ≡ None → Done net host r es s (a, by_host net own sent)
done-none {W} net host r es s a own sent list none =
    let did : Answer × Network W = (a, by_host net own sent) in
    subst (λ o. Tells net host (done_at net host r s did o).0 (done_at net host r s did o).1.log) (sym (ap (λ l. slice_get l (length es)) list ∙ inputs-end es)) (Tells-none net host (Did a) none)

-- one that numbers an input
done-one : {W : Type 0} (net : Hosts W) (host : ℕ) (r : Reader) (es : List Entry) (s : Step) (a : Answer) (own : HostState) (x : StampedView) → slice_get net.hosts host ≡ Some r → take r.read net.log ≡ es → own.list ≡ inputs_of es ++ x ∷ [] → number_told (Did a) ≡ Some (length (inputs_of es) + 1) → Done net host r es s (a, by_host net own net.sent)
done-one {W} net host r es s a own x at read list says =
    let did : Answer × Network W = (a, by_host net own net.sent) in
    let e : Entry = entry_of (offer_of net s) x in
    let taken : Told × Hosts W = (Did did.0, appended net host r e) in
    let fenced : Told × Hosts W = (Fenced, net) in
    let entered : Tells net host (enters net host r did.0 e).0 (enters net host r did.0 e).1.log =
    cond_both (r.read == length net.log) taken fenced (λ (t : Told × Hosts W). Tells net host t.0 t.1.log)
    (λ whole.
    let all : r.read ≡ length net.log = eqb-true r.read (length net.log) whole in
    let full : es ≡ net.log = sym read ∙ take_all r.read net.log (omega (arith, all)) in
    let size : length es ≡ length net.log = ap length full in (
      λ n told.
          let same : length (inputs_of es) + 1 ≡ n = same_Some _ n (sym says ∙ told) in
          (omega (arith, length-append net.log (e ∷ []), size, same, inputs-length es), omega (arith, size, same, inputs-length es), (r, at, all)),
      λ none. absurd (none-some _ (sym none ∙ says)),
    ))
    (λ _. Tells-none net host Fenced refl) in
    subst (λ o. Tells net host (done_at net host r s did o).0 (done_at net host r s did o).1.log) (sym (ap (λ l. slice_get l (length es)) list ∙ inputs-next es x)) entered

sends-done : {W : Type 0} (net : Hosts W) (host : ℕ) (r : Reader) (es : List Entry) (s : Step) (o : Option Body) → Done net host r es s (sends (with_entries net es r.floor) o)
sends-done net host r es s None = done-none net host r es s (Sent None) (host_of net.seats es r.floor) net.sent refl refl
sends-done net host r es s (Some body) = done-none net host r es s (Sent (Some (length net.sent))) (host_of net.seats es r.floor) (net.sent ++ body ∷ []) refl refl

acks-done : {W : Type 0} (net : Hosts W) (host : ℕ) (r : Reader) (es : List Entry) (s : Step) (v : ℕ) (o : Option SeatCount) → Done net host r es s (host_acks (with_entries net es r.floor) v o)
acks-done net host r es s v None = done-none net host r es s NoSuch (host_of net.seats es r.floor) net.sent refl refl
acks-done net host r es s v (Some k) = sends-done net host r es s (Some (ack_of v k))

drops-list : (host : HostState) (f : ℕ) → (drop_below host f).1.list ≡ host.list
drops-list host f =
    let P : Result ℕ FloorFault × HostState → Type 0 = λ d. d.1.list ≡ host.list in
    let back : Result ℕ FloorFault × HostState = (Err FloorBack, host) in
    let ahead : Result ℕ FloorFault × HostState = (Err FloorAhead, host) in
    let good : Result ℕ FloorFault × HostState = (Ok f, record host { floor = f }) in
    cond_both (nat_lt f host.floor) back (if nat_lt (length host.list + 1) f then ahead else good) P (λ _. refl)
    (λ _. cond_both (nat_lt (length host.list + 1) f) ahead good P (λ _. refl) (λ _. refl))

clock-done : {W : Type 0} (net : Hosts W) (host : ℕ) (r : Reader) (es : List Entry) (t : ℤ) (o : Option NumberFault) → slice_get net.hosts host ≡ Some r → take r.read net.log ≡ es
    → Done net host r es (HostClock t) (Clocked (clocked (host_of net.seats es r.floor) t o).0, with_host (with_entries net es r.floor) (clocked (host_of net.seats es r.floor) t o).1)
clock-done net host r es t (Some fault) at read = done-none net host r es (HostClock t) (Clocked (Err fault)) (host_of net.seats es r.floor) net.sent refl refl
clock-done net host r es t None at read =
    let own : HostState = host_of net.seats es r.floor in
    done-one net host r es (HostClock t) (Clocked (Ok (length own.list + 1))) (clocked own t None).1 (record { number = length own.list + 1; time = t; cause = Clock }) at read refl refl

-- a take that leaves the host as it was, and tells no number
takes-nothing : {W : Type 0} (net : Hosts W) (host : ℕ) (r : Reader) (es : List Entry) (p : ℕ) (reply : Result HostReply HostFault) → number_told (Did (HostTook reply)) ≡ None → Done net host r es (HostTake p) (HostTook reply, with_entries net es r.floor)
takes-nothing net host r es p reply none = done-none net host r es (HostTake p) (HostTook reply) (host_of net.seats es r.floor) net.sent refl none

numbered-done : {W : Type 0} (net : Hosts W) (host : ℕ) (r : Reader) (es : List Entry) (p : ℕ) (o : OfferView) (fault : Option NumberFault) → slice_get net.hosts host ≡ Some r → take r.read net.log ≡ es
    → Done net host r es (HostTake p) (HostTook (offer_numbered (host_of net.seats es r.floor) o fault).0, with_host (with_entries net es r.floor) (offer_numbered (host_of net.seats es r.floor) o fault).1)
numbered-done net host r es p o (Some fault) at read = takes-nothing net host r es p (Err (Number fault)) refl
numbered-done net host r es p o None at read =
    let own : HostState = host_of net.seats es r.floor in
    done-one net host r es (HostTake p) (HostTook (offer_numbered own o None).0) (offer_numbered own o None).1 (record { number = length own.list + 1; time = last_time own.list +ℤ pos 1; cause = Pointer o.pointer }) at read refl refl

offer-done : {W : Type 0} (net : Hosts W) (host : ℕ) (r : Reader) (es : List Entry) (p : ℕ) (o : OfferView) (k : Option SeatCount) → slice_get net.hosts host ≡ Some r → take r.read net.log ≡ es
    → Done net host r es (HostTake p) (HostTook (offer_came (host_of net.seats es r.floor) o k).0, with_host (with_entries net es r.floor) (offer_came (host_of net.seats es r.floor) o k).1)
offer-done net host r es p o None at read = takes-nothing net host r es p (Err BadViewer) refl
offer-done {W} net host r es p o (Some k) at read =
    let own : HostState = host_of net.seats es r.floor in
    let P : Standing → Type 0 = λ t. Done net host r es (HostTake p) (HostTook (offer_answered own o (reply_of t)).0, with_host (with_entries net es r.floor) (offer_answered own o (reply_of t)).1) in
    by_turn k.boot (count_for k o.boot) o.boot o.number P
    (λ _. takes-nothing net host r es p (Ok host_reply.OldBoot) refl)
    (λ _ _. takes-nothing net host r es p (Ok host_reply.Repeat) refl)
    (λ _ _ _. takes-nothing net host r es p (Ok host_reply.Ahead) refl)
    (λ _ _ _. numbered-done net host r es p o (number_fault (inputs_of es) (last_time (inputs_of es) +ℤ pos 1)) at read)

-- an ask numbers nothing
ask-done : {W : Type 0} (net : Hosts W) (host : ℕ) (r : Reader) (es : List Entry) (p next : ℕ) (k : Option SeatCount) → Done net host r es (HostTake p) (HostTook (ask_came (host_of net.seats es r.floor) next k), with_entries net es r.floor)
ask-done net host r es p next None = takes-nothing net host r es p (Err BadViewer) refl
ask-done {W} net host r es p next (Some k) =
    let own : HostState = host_of net.seats es r.floor in
    let P : HostReply → Type 0 = λ reply. Done net host r es (HostTake p) (HostTook (Ok reply), with_entries net es r.floor) in
    let run : HostReply = asked (span_of next (length own.list)) in
    cond_both (nat_lt next own.floor) (host_reply.Below own.floor) (if nat_le next (length own.list) then run else host_reply.NothingToDo) P (λ _. takes-nothing net host r es p (Ok (host_reply.Below own.floor)) refl) (λ _.
    cond_both (nat_le next (length own.list)) run host_reply.NothingToDo P (λ _. takes-nothing net host r es p (Ok run) refl) (λ _. takes-nothing net host r es p (Ok host_reply.NothingToDo) refl))

take-done : {W : Type 0} (net : Hosts W) (host : ℕ) (r : Reader) (es : List Entry) (p : ℕ) (b : Option Body) → slice_get net.hosts host ≡ Some r → take r.read net.log ≡ es
    → Done net host r es (HostTake p) (host_takes (with_entries net es r.floor) b)
take-done net host r es p None at read = done-none net host r es (HostTake p) NoSuch (host_of net.seats es r.floor) net.sent refl refl
take-done net host r es p (Some (Offer o)) at read = offer-done net host r es p o (slice_get (kept_of net es) o.pointer.who) at read
take-done net host r es p (Some (Ask a)) at read = ask-done net host r es p a.next (slice_get (kept_of net es) a.who)
take-done net host r es p (Some (Input x)) at read = takes-nothing net host r es p (Ok host_reply.NothingToDo) refl
take-done net host r es p (Some (Ack a)) at read = takes-nothing net host r es p (Ok host_reply.NothingToDo) refl
take-done net host r es p (Some (Floor f)) at read = takes-nothing net host r es p (Ok host_reply.NothingToDo) refl
take-done net host r es p (Some (Piece q)) at read = takes-nothing net host r es p (Ok host_reply.NothingToDo) refl

host-tells : {W : Type 0} (m : Machine W) (net : Hosts W) (host : ℕ) (s : Step) (r : Reader) → slice_get net.hosts host ≡ Some r → is_host_step s ≡ true → Tells net host (host_does m net host s (Some r)).0 (host_does m net host s (Some r)).1.log
host-tells m net host (HostClock t) r at is = clock-done net host r (take r.read net.log) t (number_fault (inputs_of (take r.read net.log)) t) at refl
host-tells m net host (HostPacket n) r at is = sends-done net host r (take r.read net.log) (HostPacket n) (host_packet (host_of net.seats (take r.read net.log) r.floor) n)
host-tells m net host (HostAck v) r at is = acks-done net host r (take r.read net.log) (HostAck v) v (slice_get (kept_of net (take r.read net.log)) v)
host-tells m net host (HostTake p) r at is = take-done net host r (take r.read net.log) p (slice_get net.sent p) at refl
host-tells m net host (HostDropBelow f) r at is = let own : HostState = host_of net.seats (take r.read net.log) r.floor in done-none net host r (take r.read net.log) (HostDropBelow f) (Dropped (drop_below own f).0) (drop_below own f).1 net.sent (drops-list own f) refl
host-tells m net host HostFloorPacket r at is = sends-done net host r (take r.read net.log) HostFloorPacket (Some (Floor r.floor))
host-tells m net host s r at is = absurd (true≢false (sym is))

host_does-tells : {W : Type 0} (m : Machine W) (net : Hosts W) (host : ℕ) (s : Step) (o : Option Reader) → slice_get net.hosts host ≡ o → is_host_step s ≡ true → Tells net host (host_does m net host s o).0 (host_does m net host s o).1.log
host_does-tells m net host s None at is = Tells-none net host NoMove refl
host_does-tells m net host s (Some r) at is = host-tells m net host s r at is

refused_at-tells : {W : Type 0} (m : Machine W) (net : Hosts W) (s : Step) (j : ℕ) (o : Option Reader) (answer : Answer) (one : Network W) → is_host_step s ≡ true → refused_at m net s j o ≡ Some (answer, one) → number_told (Did answer) ≡ None
refused_at-tells m net s j None answer one is made = absurd (none-some _ made)
refused_at-tells m net s j (Some r) answer one is made = (host-refuses m (seen_by net r) one s j answer is made).1

pub numbers_are_entries : {W : Type 0} (m : Machine W) → NumbersAreEntries m
numbers_are_entries {W} m net new reached host s told (inl did) =
    let not_done : Told × Hosts W = (NoMove, net) in
    let P : Told × Hosts W → Type 0 = λ t. Tells net host t.0 t.1.log in
    subst P did (cond_both (is_host_step s) (host_does m net host s (slice_get net.hosts host)) not_done P
    (λ is. host_does-tells m net host s (slice_get net.hosts host) refl is)
    (λ _. Tells-none net host NoMove refl))
numbers_are_entries {W} m net new reached host s told (inr (j, answer, one, is, made, answered, same)) =
    let P : Told × Hosts W → Type 0 = λ t. Tells net host t.0 t.1.log in
    let back : (let t : Told × Hosts W = (Did answer, net) in t) ≡ (told, new) = ap (λ (t : Told). let z : Told × Hosts W = (t, net) in z) (sym answered) ∙ ap (λ (n : Hosts W). let z : Told × Hosts W = (told, n) in z) (sym same) in
    subst P back (Tells-none net host (Did answer) (refused_at-tells m net s j (slice_get net.hosts host) answer one is made))
