-- What a host over a log sends is of the entries that made it.
use Rattle.std.proofs.Common.{◌≡◌, ℕ, zero, suc, ℤ, Bool, true, false, cond, inl, inr, List, [], ◌∷◌, ◌++◌, length, refl, ap, sym, ◌∙◌, subst, append_assoc}
use Rattle.std.specs.Prelude.{Option, Some, None, Result, Ok, Err, IsTrue, slice_get, nat_lt, is_ok}
use Rattle.std.specs.List.{flat_map, range_with_len}
use Rattle.std.proofs.lemmas.Option.{none-some, same_Some}
use Rattle.x3d_values.specs.Stamp.{StampedView}
use Rattle.share_wire.specs.Decoding.{decoded}
use Rattle.share_wire.specs.declared.message.Body.{Body}
use Rattle.share_entries.specs.Entry.{EntryView}
use Rattle.share_law.specs.declared.fault.HostFault.{HostFault}
use Rattle.share_rules.specs.declared.kept.SeatCount.{SeatCount}
use Rattle.share_law.specs.declared.reply.HostReply.{HostReply}
use Rattle.share_law.specs.declared.reply.HostReply.TheVariants as reply
use Rattle.share_law.specs.Host.{host_packet, input_packet, new_host}
use Rattle.share_law.specs.Parts.{HostPart, part_packet}
use Rattle.share_law.proofs.Parts.{part_packet-host}
use Rattle.share_turns.specs.declared.fault.TurnFault.{TurnFault}
use Rattle.share_turns.specs.declared.traffic.Traffic.{Traffic}
use Rattle.share_turns.specs.declared.traffic.Traffic.TheVariants.{Nothing, Received, Sent}
use Rattle.share_turns.specs.Told.{Grows}
use Rattle.share_turns.specs.Exchanges.{IsEnd, sent_to}
use Rattle.share_turns.specs.HostTurn.{ack_to, acks_for, bodies_for, datagrams_of, inputs_for, listed, sender_of}
use Rattle.share_turns.proofs.Sending.{grows_then}
use Rattle.laws_hosts.specs.Log.{host_of, inputs_of, kept_after}
use Rattle.share_logged.specs.declared.fault.LoggedFault.{LoggedFault}
use Rattle.share_logged.specs.declared.fault.LoggedFault.TheVariants as logged_fault
use Rattle.share_logged.specs.Logged.{logged}
use Rattle.share_logged.specs.Making.{IsOfLog}
use Rattle.share_logged.specs.Shown.{AreShown, IsOfEntries, IsShown, Shows}
use Rattle.share_logged.specs.Turn.{IsGathered, IsLoggedEnd, IsLoggedTurn, Taking, all_answers, answers_to, received}
use Rattle.share_logged.proofs.Keeping.{of-clock, of-taken}

-- ---- bodies

abbrev AllOf : (v : ℕ) → List EntryView → List Body → Type 0
AllOf v es [] = Unit {0}
AllOf v es (b ∷ bs) = IsOfEntries v es b × AllOf v es bs

of-append : (v : ℕ) (es : List EntryView) (xs ys : List Body) → AllOf v es xs → AllOf v es ys → AllOf v es (xs ++ ys)
of-append v es [] ys a b = b
of-append v es (x ∷ xs) ys a b = (a.0, of-append v es xs ys a.1 b)

of-input : (v n : ℕ) (es : List EntryView) (b : Bool) (o : Option StampedView) → slice_get (inputs_of (logged es)) n ≡ o → AllOf v es (listed (cond b None (input_packet o)))
of-input v n es true o e = tt
of-input v n es false None e = tt
of-input v n es false (Some x) e = ((n, e), tt)

of-packet : (v f : ℕ) (es : List EntryView) (n : ℕ) → AllOf v es (listed (host_packet (host_of v (logged es) f) n))
of-packet v f es zero = tt
of-packet v f es (suc n) = of-input v n es (nat_lt (suc n) f) (slice_get (inputs_of (logged es)) n) refl

of-packets : (v : ℕ) (es : List EntryView) (p : HostPart) (ns : List ℕ) → IsOfLog v es p → AllOf v es (flat_map (λ n. listed (part_packet p n)) ns)
of-packets v es p [] is = tt
of-packets v es p (n ∷ ns) is =
    let same = part_packet-host p (host_of v (logged es) p.floor) n (sym is.same) is.from_one in
    of-append v es (listed (part_packet p n)) (flat_map (λ k. listed (part_packet p k)) ns)
    (subst (λ (o : Option Body). AllOf v es (listed o)) (sym same) (of-packet v p.floor es n))
    (of-packets v es p ns is)

of-inputs : (v : ℕ) (es : List EntryView) (p : HostPart) (r : HostReply) → IsOfLog v es p → AllOf v es (inputs_for p r)
of-inputs v es p (reply.Asked first count) is = of-packets v es p (range_with_len first count) is
of-inputs v es p (reply.Numbered n) is = tt
of-inputs v es p reply.Repeat is = tt
of-inputs v es p reply.Ahead is = tt
of-inputs v es p reply.OldBoot is = tt
of-inputs v es p (reply.Below f) is = (is.to_next, tt)
of-inputs v es p reply.NothingToDo is = tt

of-ack : (v who : ℕ) (es : List EntryView) (k : Option SeatCount) → slice_get (kept_after (new_host v).kept (logged es)) who ≡ k → AllOf v es (ack_to who k)
of-ack v who es None e = tt
of-ack v who es (Some kept) e = ((kept, e, refl), tt)

of-acks : (v : ℕ) (es : List EntryView) (p : HostPart) (sender : Option ℕ) → IsOfLog v es p → AllOf v es (acks_for p sender)
of-acks v es p None is = tt
of-acks v es p (Some who) is =
    of-ack v who es (slice_get p.kept who) (sym (ap (λ (x : HostPart). slice_get x.kept who) is.same))

-- ---- datagrams

abbrev Good : (mark : List ℕ) (v : ℕ) → List EntryView → Traffic → Type 0
Good mark v es (Sent d) = IsShown mark v es d.bytes
Good mark v es (Received d) = Unit {0}
Good mark v es Nothing = Unit {0}

abbrev AllGood : (mark : List ℕ) (v : ℕ) → List EntryView → List Traffic → Type 0
AllGood mark v es [] = Unit {0}
AllGood mark v es (t ∷ ts) = Good mark v es t × AllGood mark v es ts

module _ (mark : List ℕ) (v : ℕ) (es : List EntryView) where
  good-append : (xs ys : List Traffic) → AllGood mark v es xs → AllGood mark v es ys → AllGood mark v es (xs ++ ys)
  good-append [] ys a b = b
  good-append (x ∷ xs) ys a b = (a.0, good-append xs ys a.1 b)

  good-front : (xs ys : List Traffic) → AllGood mark v es (xs ++ ys) → AllGood mark v es xs
  good-front [] ys a = tt
  good-front (x ∷ xs) ys a = (a.0, good-front xs ys a.1)

  good-get : (xs : List Traffic) → AllGood mark v es xs → AreShown mark v es xs
  good-get [] a n d e = absurd (none-some (Sent d) e)
  good-get (x ∷ xs) a zero d e = subst (Good mark v es) (same_Some x (Sent d) e) a.0
  good-get (x ∷ xs) a (suc n) d e = good-get xs a.1 n d e

  good-sent : (peer : ℕ) (bs : List Body) → AllOf v es bs → AllGood mark v es (sent_to peer (datagrams_of mark bs))
  good-sent peer [] a = tt
  good-sent peer (b ∷ bs) a = (record { body = b; text = refl; of_entries = a.0 }, good-sent peer bs a.1)

  good-answers : (p : HostPart) (ts : List Taking) → IsOfLog v es p → AllGood mark v es (all_answers mark p ts)
  good-answers p [] is = tt
  good-answers p (t ∷ ts) is = good-append (answers_to mark p t) (all_answers mark p ts) (one t.answer) (good-answers p ts is) where
    one : (answer : Result HostReply HostFault) → AllGood mark v es (answers_to mark p (record { came = t.came; answer = answer }))
    one (Ok r) =
        good-sent t.came.peer (bodies_for p (sender_of (decoded t.came.bytes)) r)
        (of-append v es (inputs_for p r) (acks_for p (sender_of (decoded t.came.bytes))) (of-inputs v es p r is) (of-acks v es p (sender_of (decoded t.came.bytes)) is))
    one (Err fault) = tt

  good-received : (ts : List Taking) → AllGood mark v es (received ts)
  good-received [] = tt
  good-received (t ∷ ts) = (tt, good-received ts)

  good-rest : (all : Bool) (n : ℕ) (rest : List Traffic) → IsEnd all n rest → AllGood mark v es rest
  good-rest true n rest (inl e) = subst (AllGood mark v es) (sym e) (tt, tt)
  good-rest true n rest (inr e) = subst (AllGood mark v es) (sym e.0) tt
  good-rest false n rest e = subst (AllGood mark v es) (sym e) tt

  good-gathered : (result : Result (Unit {0}) TurnFault) (clock : Option ℤ) (a b : Option (List Traffic)) (old new : HostPart) (x y : List ℕ) (ts : List Taking) (more : List EntryView)
      → (g : IsGathered result mark clock a b old new x y ts more) → AllGood mark v es (received ts ++ g.rest)
  good-gathered result clock a b old new x y ts more g =
      good-append (received ts) g.rest (good-received ts) (good-rest (is_ok result) (length ts) g.rest g.ended)

  shows : (a b : Option (List Traffic)) (passed : List Traffic) → Grows a b passed → AllGood mark v es passed → Shows mark v es a b
  shows None b passed grows good = tt
  shows (Some before) None passed grows good = absurd grows
  shows (Some before) (Some after) passed grows good = (passed, grows, good-get passed good)

-- ---- a turn

-- the host after it gathered is that of the log with the entries that it numbered
pub gathered-of : (v : ℕ) (known : List EntryView) (result : Result (Unit {0}) TurnFault) (mark : List ℕ) (clock : Option ℤ) (a b : Option (List Traffic)) (old new : HostPart) (x y : List ℕ)
    (ts : List Taking) (more : List EntryView) → IsOfLog v known old → IsGathered result mark clock a b old new x y ts more → IsOfLog v (known ++ more) new
gathered-of v known result mark clock a b old new x y ts more is g =
    let begun = of-clock v known g.first old g.begun clock g.refused is g.clocked in
    let taken = of-taken v mark (known ++ g.first) g.later g.begun new ts begun g.taken in
    subst (λ (l : List EntryView). IsOfLog v l new) (append_assoc known g.first g.later ∙ ap (λ (l : List EntryView). known ++ l) (sym g.numbered)) taken

pub turn-current : (v : ℕ) (mark : List ℕ) (clock : Option ℤ) (clean : Bool) (known stored : List EntryView) (a b : Option (List Traffic)) (old new : HostPart) (x y : List ℕ)
    → IsLoggedTurn mark clock clean known stored a b old new x y → IsTrue clean → IsOfLog v known old → IsOfLog v stored new
turn-current v mark clock clean known stored a b old new x y t is_clean is =
    subst (λ (l : List EntryView). IsOfLog v l new) (sym (t.has_stored is_clean))
    (gathered-of v known (Ok tt) mark clock a t.between old new x y t.takings t.entries is t.gathered)

pub turn-shows : (v : ℕ) (mark : List ℕ) (clock : Option ℤ) (clean : Bool) (known stored : List EntryView) (a b : Option (List Traffic)) (old new : HostPart) (x y : List ℕ)
    → IsLoggedTurn mark clock clean known stored a b old new x y → IsTrue clean → IsOfLog v known old → Shows mark v stored a b
turn-shows v mark clock clean known stored a b old new x y t is_clean is =
    let now = turn-current v mark clock clean known stored a b old new x y t is_clean is in
    let before : List Traffic = received t.takings ++ t.gathered.rest in
    let answers : List Traffic = all_answers mark new t.takings in
    shows mark v stored a b (before ++ answers) (grows_then a t.between b before answers t.gathered.told t.told)
    (good-append mark v stored before answers (good-gathered mark v stored (Ok tt) clock a t.between old new x y t.takings t.entries t.gathered) (good-answers mark v stored new t.takings now))

pub end-shows : (v : ℕ) (mark : List ℕ) (clock : Option ℤ) (fault : LoggedFault) (clean : Bool) (known stored : List EntryView) (a b : Option (List Traffic)) (old : HostPart) (x : List ℕ)
    → IsLoggedEnd mark clock fault clean known stored a b old x → IsTrue clean → IsOfLog v known old → Shows mark v stored a b
end-shows v mark clock (logged_fault.Turn fault) clean known stored a b old x (inl c) is_clean is =
    shows mark v stored a b (received c.takings ++ c.gathered.rest) c.gathered.told
    (good-gathered mark v stored (Err fault) clock a b old c.new x c.after c.takings c.entries c.gathered)
end-shows v mark clock (logged_fault.Turn fault) clean known stored a b old x (inr k) is_clean is =
    let c = k.1 in
    let now = subst (λ (l : List EntryView). IsOfLog v l c.new) (sym (c.has_stored is_clean)) (gathered-of v known (Ok tt) mark clock a c.between old c.new x c.after c.takings c.entries is c.gathered) in
    let before : List Traffic = received c.takings ++ c.gathered.rest in
    let all = subst (AllGood mark v stored) (sym c.front) (good-answers mark v stored c.new c.takings now) in
    shows mark v stored a b (before ++ c.sent) (grows_then a c.between b before c.sent c.gathered.told c.told)
    (good-append mark v stored before c.sent (good-gathered mark v stored (Ok tt) clock a c.between old c.new x c.after c.takings c.entries c.gathered) (good-front mark v stored c.sent c.lost all))
end-shows v mark clock (logged_fault.Log fault) clean known stored a b old x c is_clean is =
    shows mark v stored a b (received c.takings ++ c.gathered.rest) c.gathered.told
    (good-gathered mark v stored (Ok tt) clock a b old c.new x c.after c.takings c.entries c.gathered)
