-- The part of a host stays that of its log, with the entries of what it numbers.
use Rattle.std.proofs.Common.{◌≡◌, ℕ, ℤ, pos, ◌+ℤ◌, ◌≤ℤ◌, negsuc, FitsSigned, w64, ◌^◌, ◌+◌, ◌≤◌, Bool, true, false, cond, inl, inr, ◌⊎◌, List, [], ◌∷◌, ◌++◌, length, length-append, refl, ap, sym, ◌∙◌, subst, arith, append_assoc, append-nil}
use Rattle.std.specs.Prelude.{Option, Some, None, Result, Ok, Err, slice_get}
use Rattle.std.proofs.lemmas.Bool.{cases_Bool}
use Rattle.std.proofs.lemmas.Int.{ints}
use Rattle.x3d_values.specs.Ranges.{is_input_time}
use Rattle.share_wire.specs.Decoding.{decoded}
use Rattle.share_wire.specs.Messages.{OfferView}
use Rattle.share_wire.specs.declared.fault.WireFault.{WireFault}
use Rattle.share_wire.specs.declared.message.Body.{Body}
use Rattle.share_wire.specs.declared.message.Body.TheVariants as body
use Rattle.share_wire.specs.declared.message.Message.{Message}
use Rattle.share_entries.specs.Entry.{EntryView}
use Rattle.share_entries.specs.declared.entry.Source.{Source}
use Rattle.share_entries.specs.declared.entry.Source.TheVariants.{Clock, Offer}
use Rattle.share_law.specs.declared.fault.HostFault.{HostFault}
use Rattle.share_law.specs.declared.fault.HostFault.TheVariants as host_fault
use Rattle.share_law.specs.declared.fault.NumberFault.{NumberFault}
use Rattle.share_law.specs.declared.fault.NumberFault.TheVariants as number_fault
use Rattle.share_rules.specs.declared.offers.Standing.{Standing}
use Rattle.share_rules.specs.declared.offers.Standing.TheVariants as turn
use Rattle.share_rules.specs.Offers.{standing_of}
use Rattle.share_rules.specs.declared.kept.SeatCount.{SeatCount}
use Rattle.share_law.specs.declared.reply.HostReply.{HostReply}
use Rattle.share_law.specs.declared.reply.HostReply.TheVariants as reply
use Rattle.share_law.specs.Host.{HostState, count_for, host_clock, host_take, reply_before, reply_of}
use Rattle.share_law.specs.Parts.{HostPart, IsByPart, fault_behind, part_clock, part_clocked, part_ask_came, part_fault, part_of, part_offer_answered, part_offer_came, part_offer_numbered, part_take, with_part}
use Rattle.share_law.specs.Calls.{IsPartClocked, IsPartTakeOf}
use Rattle.share_law.proofs.Parts.{parts_stand_for_hosts}
use Rattle.share_core.proofs.Numbering.{time_ok}
use Rattle.share_turns.specs.declared.fault.TurnFault.{TurnFault}
use Rattle.share_turns.specs.declared.traffic.Traffic.{Traffic}
use Rattle.laws_hosts.specs.Log.{host_of}
use Rattle.share_logged.specs.Entries.{PartMakesOf}
use Rattle.share_logged.specs.Logged.{logged}
use Rattle.share_logged.specs.Making.{IsOfLog, MakesOf}
use Rattle.share_logged.specs.Notes.{AllFit, last_after}
use Rattle.share_logged.specs.Turn.{AreTaken, IsClockTaken, IsGathered, Taking, clock_entries, is_numbered, offer_entries, read_entries}
use Rattle.share_logged.proofs.Making.{log-push, logged-inputs, makes-floor, makes-next}

-- ---- a part and its host

pub host-makes : (h : HostState) (t : ℤ) (s : Source) (q : HostPart) → IsByPart h → PartMakesOf (part_of h) t s q → (new : HostState) × MakesOf h t s new × (part_of new ≡ q)
host-makes h t Clock q by m =
    let same : with_part (host_clock h t) ≡ (Ok m.0, q) = sym (by.clock t) ∙ m.1 in
    let new : HostState = (host_clock h t).1 in (
      new,
      (m.0, ap (λ (r : Result ℕ NumberFault). let z : Result ℕ NumberFault × HostState = (r, new) in z) (ap (λ (r : Result ℕ NumberFault × HostPart). r.0) same)),
      ap (λ (r : Result ℕ NumberFault × HostPart). r.1) same,
    )
host-makes h t (Offer o) q by m =
    let same : with_part (host_take h (body.Offer o)) ≡ (Ok (reply.Numbered m.1.0), q) = sym (by.take (body.Offer o)) ∙ m.1.1 in
    let new : HostState = (host_take h (body.Offer o)).1 in (
      new,
      (m.0, (m.1.0, ap (λ (r : Result HostReply HostFault). let z : Result HostReply HostFault × HostState = (r, new) in z) (ap (λ (r : Result HostReply HostFault × HostPart). r.0) same))),
      ap (λ (r : Result HostReply HostFault × HostPart). r.1) same,
    )

pub part-makes : (h new : HostState) (t : ℤ) (s : Source) → IsByPart h → MakesOf h t s new → PartMakesOf (part_of h) t s (part_of new)
part-makes h new t Clock by m = (m.0, by.clock t ∙ ap (λ (r : Result ℕ NumberFault × HostState). with_part r) m.1)
part-makes h new t (Offer o) by m = (m.0, (m.1.0, by.take (body.Offer o) ∙ ap (λ (r : Result HostReply HostFault × HostState). with_part r) m.1.1))

pub by-part : (v f : ℕ) (es : List EntryView) → 1 ≤ f → f ≤ length es + 1 → IsByPart (host_of v (logged es) f)
by-part v f es one low = parts_stand_for_hosts (host_of v (logged es) f) one (omega (arith, low, logged-inputs es))

-- ---- one entry more

pub of-makes : (v : ℕ) (es : List EntryView) (p q : HostPart) (t : ℤ) (s : Source) → IsOfLog v es p → PartMakesOf p t s q → IsOfLog v (es ++ record { time = t; source = s } ∷ []) q
of-makes v es p q t s is m =
    let e : EntryView = record { time = t; source = s } in
    let h : HostState = host_of v (logged es) p.floor in
    let made = host-makes h t s q (by-part v p.floor es is.from_one is.to_next) (subst (λ (x : HostPart). PartMakesOf x t s q) is.same m) in
    let next : made.0 ≡ host_of v (logged (es ++ e ∷ [])) p.floor = makes-next v p.floor es t s made.0 made.1 in
    let same : q ≡ part_of (host_of v (logged (es ++ e ∷ [])) p.floor) = sym made.2 ∙ ap part_of next in
    let floor : q.floor ≡ p.floor = ap (λ (x : HostPart). x.floor) same in
    record {
      log = log-push v es e (record made.0 { floor = 1 }) is.log (makes-floor h made.0 1 t s made.1);
      from_one = omega (arith, is.from_one, floor);
      to_next = omega (arith, is.to_next, floor, length-append es (e ∷ []));
      same = same ∙ ap (λ f. part_of (host_of v (logged (es ++ e ∷ [])) f)) (sym floor);
    }

of-none : (v : ℕ) (es : List EntryView) (p q : HostPart) → q ≡ p → IsOfLog v es p → IsOfLog v (es ++ []) q
of-none v es p q same is = subst (λ (x : HostPart). IsOfLog v (es ++ []) x) (sym same) (subst (λ (l : List EntryView). IsOfLog v l p) (sym (append-nil es)) is)

-- ---- what a call makes: nothing, or an entry

pub record IsSame (entries : List EntryView) (p q : HostPart) : Type 0 where
  pub none : entries ≡ []
  pub same : q ≡ p

pub record IsGrown (entries : List EntryView) (p q : HostPart) : Type 0 where
  pub time : ℤ
  pub source : Source
  pub one : entries ≡ record { time = time; source = source } ∷ []
  pub makes : PartMakesOf p time source q
  pub last : q.last ≡ time
  pub floor : q.floor ≡ p.floor
  pub count : q.count ≡ p.count + 1
  pub fits : fault_behind p.count p.last time ≡ None

abbrev pub Changes : List EntryView → HostPart → HostPart → Type 0
Changes entries p q = IsSame entries p q ⊎ IsGrown entries p q

clocked-grown : (p q : HostPart) (t : ℤ) (n : ℕ) (f : Option NumberFault) → part_fault p t ≡ f → part_clocked p t f ≡ (Ok n, q) → part_clock p t ≡ (Ok n, q) → IsGrown (record { time = t; source = Clock } ∷ []) p q
clocked-grown p q t n (Some fault) is e whole = let a : Err fault ≡ Ok n = ap (λ (r : Result ℕ NumberFault × HostPart). r.0) e in absurd (cc)
clocked-grown p q t n None is e whole = record {
  time = t;
  source = Clock;
  one = refl;
  makes = (n, whole);
  last = sym (ap (λ (r : Result ℕ NumberFault × HostPart). r.1.last) e);
  floor = sym (ap (λ (r : Result ℕ NumberFault × HostPart). r.1.floor) e);
  count = sym (ap (λ (r : Result ℕ NumberFault × HostPart). r.1.count) e);
  fits = is;
}

clocked-same : (p q : HostPart) (t : ℤ) (fault : NumberFault) (f : Option NumberFault) → part_clocked p t f ≡ (Err fault, q) → q ≡ p
clocked-same p q t fault (Some other) e = sym (ap (λ (r : Result ℕ NumberFault × HostPart). r.1) e)
clocked-same p q t fault None e = let a : Ok (p.count + 1) ≡ Err fault = ap (λ (r : Result ℕ NumberFault × HostPart). r.0) e in absurd (cc)

pub clock-changes : (p q : HostPart) (t : ℤ) (answer : Result ℕ NumberFault) → IsPartClocked p t answer q → Changes (clock_entries t answer) p q
clock-changes p q t (Ok n) (inl e) = inr (clocked-grown p q t n (part_fault p t) refl e e)
clock-changes p q t (Err fault) (inl e) = inl (record { none = refl; same = clocked-same p q t fault (part_fault p t) e })
clock-changes p q t (Ok n) (inr k) = let a = k.1 in absurd (cc)
clock-changes p q t (Err fault) (inr k) = inl (record { none = refl; same = k.2 })

-- ---- offers

either-same : (b : Bool) (x : List EntryView) → cond b x x ≡ x
either-same true x = refl
either-same false x = refl

pub numbered-is : (answer : Result HostReply HostFault) → is_numbered answer ≡ true → (n : ℕ) × (answer ≡ Ok (reply.Numbered n))
numbered-is (Ok (reply.Numbered n)) e = (n, refl)
numbered-is (Ok (reply.Asked a b)) e = absurd (cc)
numbered-is (Ok reply.Repeat) e = absurd (cc)
numbered-is (Ok reply.Ahead) e = absurd (cc)
numbered-is (Ok reply.OldBoot) e = absurd (cc)
numbered-is (Ok (reply.Below f)) e = absurd (cc)
numbered-is (Ok reply.NothingToDo) e = absurd (cc)
numbered-is (Err fault) e = absurd (cc)

numbered-grown : (p q : HostPart) (o : OfferView) (n : ℕ) (f : Option NumberFault) → part_fault p (p.last +ℤ pos 1) ≡ f → part_offer_numbered p o f ≡ (Ok (reply.Numbered n), q)
    → part_take p (body.Offer o) ≡ (Ok (reply.Numbered n), q) → IsGrown (record { time = p.last +ℤ pos 1; source = Offer o } ∷ []) p q
numbered-grown p q o n (Some fault) is e whole = let a = ap (λ (r : Result HostReply HostFault × HostPart). r.0) e in absurd (cc)
numbered-grown p q o n None is e whole = record {
  time = p.last +ℤ pos 1;
  source = Offer o;
  one = refl;
  makes = (refl, (n, whole));
  last = sym (ap (λ (r : Result HostReply HostFault × HostPart). r.1.last) e);
  floor = sym (ap (λ (r : Result HostReply HostFault × HostPart). r.1.floor) e);
  count = sym (ap (λ (r : Result HostReply HostFault × HostPart). r.1.count) e);
  fits = is;
}

numbered-same : (p q : HostPart) (o : OfferView) (answer : Result HostReply HostFault) (f : Option NumberFault) → is_numbered answer ≡ false → part_offer_numbered p o f ≡ (answer, q) → q ≡ p
numbered-same p q o answer (Some fault) other e = sym (ap (λ (r : Result HostReply HostFault × HostPart). r.1) e)
numbered-same p q o answer None other e =
    let a : Ok (reply.Numbered (p.count + 1)) ≡ answer = ap (λ (r : Result HostReply HostFault × HostPart). r.0) e in
    let b : true ≡ false = ap is_numbered a ∙ other in absurd (cc)

came-same : (p q : HostPart) (o : OfferView) (answer : Result HostReply HostFault) (k : Option SeatCount) → is_numbered answer ≡ false → part_offer_came p o k ≡ (answer, q) → q ≡ p
came-same p q o answer None other e = sym (ap (λ (r : Result HostReply HostFault × HostPart). r.1) e)
came-same p q o answer (Some k) other e = go (reply_before k o) e where
  go : (r : Option HostReply) → part_offer_answered p o r ≡ (answer, q) → q ≡ p
  go (Some r) e = sym (ap (λ (x : Result HostReply HostFault × HostPart). x.1) e)
  go None e = numbered-same p q o answer (part_fault p (p.last +ℤ pos 1)) other e

came-grown : (p q : HostPart) (o : OfferView) (n : ℕ) (k : Option SeatCount) → part_offer_came p o k ≡ (Ok (reply.Numbered n), q)
    → part_take p (body.Offer o) ≡ (Ok (reply.Numbered n), q) → IsGrown (record { time = p.last +ℤ pos 1; source = Offer o } ∷ []) p q
came-grown p q o n None e whole = let a = ap (λ (r : Result HostReply HostFault × HostPart). r.0) e in absurd (cc)
came-grown p q o n (Some k) e whole = go (standing_of k.boot (count_for k o.boot) o.boot o.number) e where
  go : (s : Standing) → part_offer_answered p o (reply_of s) ≡ (Ok (reply.Numbered n), q) → IsGrown (record { time = p.last +ℤ pos 1; source = Offer o } ∷ []) p q
  go turn.OldBoot e = let a = ap (λ (r : Result HostReply HostFault × HostPart). r.0) e in absurd (cc)
  go turn.Repeat e = let a = ap (λ (r : Result HostReply HostFault × HostPart). r.0) e in absurd (cc)
  go turn.Ahead e = let a = ap (λ (r : Result HostReply HostFault × HostPart). r.0) e in absurd (cc)
  go turn.Next e = numbered-grown p q o n (part_fault p (p.last +ℤ pos 1)) refl e whole

abbrev entries_for : HostPart → Body → Result HostReply HostFault → List EntryView
entries_for p b answer = cond (is_numbered answer) (offer_entries p.last b) []

offer-changes : (p q : HostPart) (o : OfferView) (answer : Result HostReply HostFault) → part_take p (body.Offer o) ≡ (answer, q) → Changes (entries_for p (body.Offer o) answer) p q
offer-changes p q o answer e = elim (cases_Bool (is_numbered answer)) [
  | inl is_one ↦
      let is = numbered-is answer is_one in
      let whole : part_take p (body.Offer o) ≡ (Ok (reply.Numbered is.0), q) = e ∙ ap (λ (r : Result HostReply HostFault). let z : Result HostReply HostFault × HostPart = (r, q) in z) is.1 in
      subst (λ (r : Result HostReply HostFault). Changes (entries_for p (body.Offer o) r) p q) (sym is.1) (inr (came-grown p q o is.0 (slice_get p.kept o.pointer.who) whole whole))
  | inr other ↦
      inl (record { none = ap (λ b. cond b (offer_entries p.last (body.Offer o)) []) other; same = came-same p q o answer (slice_get p.kept o.pointer.who) other e })
]

stays : (p q : HostPart) (answer given : Result HostReply HostFault) → (let z : Result HostReply HostFault × HostPart = (given, p) in z) ≡ (answer, q)
    → IsSame (cond (is_numbered answer) [] []) p q
stays p q answer given e = record { none = either-same (is_numbered answer) []; same = sym (ap (λ (r : Result HostReply HostFault × HostPart). r.1) e) }

take-changes : (p q : HostPart) (b : Body) (answer : Result HostReply HostFault) → part_take p b ≡ (answer, q) → Changes (entries_for p b answer) p q
take-changes p q (body.Input x) answer e = inl (stays p q answer (Ok reply.NothingToDo) e)
take-changes p q (body.Offer o) answer e = offer-changes p q o answer e
take-changes p q (body.Ask a) answer e = inl (stays p q answer (part_ask_came p a.next (slice_get p.kept a.who)) e)
take-changes p q (body.Ack a) answer e = inl (stays p q answer (Ok reply.NothingToDo) e)
take-changes p q (body.Floor f) answer e = inl (stays p q answer (Ok reply.NothingToDo) e)
take-changes p q (body.Piece x) answer e = inl (stays p q answer (Ok reply.NothingToDo) e)

refused-same : (p q : HostPart) (b : Body) (answer : Result HostReply HostFault) (fault : HostFault) → answer ≡ Err fault → q ≡ p → IsSame (entries_for p b answer) p q
refused-same p q b answer fault is same = record { none = ap (entries_for p b) is; same = same }

pub read-changes : (mark : List ℕ) (p q : HostPart) (read : Result Message WireFault) (answer : Result HostReply HostFault) → IsPartTakeOf mark p read answer q
    → Changes (read_entries p.last read answer) p q
read-changes mark p q (Err fault) answer k = inl (record { none = refl; same = k.1 })
read-changes mark p q (Ok message) answer (inr k) = inl (refused-same p q message.body answer host_fault.WrongScene k.1 k.2)
read-changes mark p q (Ok message) answer (inl (is, inl e)) = take-changes p q message.body answer e
read-changes mark p q (Ok message) answer (inl (is, inr k)) = inl (refused-same p q message.body answer (host_fault.Number number_fault.Memory) k.1 k.2)

-- ---- what stays true

pub changes-of : (v : ℕ) (es more : List EntryView) (p q : HostPart) → IsOfLog v es p → Changes more p q → IsOfLog v (es ++ more) q
changes-of v es more p q is (inl c) = subst (λ (l : List EntryView). IsOfLog v (es ++ l) q) (sym c.none) (of-none v es p q c.same is)
changes-of v es more p q is (inr c) = subst (λ (l : List EntryView). IsOfLog v (es ++ l) q) (sym c.one) (of-makes v es p q c.time c.source is c.makes)

pub changes-last : (more : List EntryView) (p q : HostPart) → Changes more p q → q.last ≡ last_after p.last more
changes-last more p q (inl c) = ap (λ (x : HostPart). x.last) c.same ∙ ap (last_after p.last) (sym c.none)
changes-last more p q (inr c) = c.last ∙ ap (last_after p.last) (sym c.one)

pub changes-count : (more : List EntryView) (p q : HostPart) → Changes more p q → p.count ≤ q.count
changes-count more p q (inl c) = omega (arith, ap (λ (x : HostPart). x.count) c.same)
changes-count more p q (inr c) = omega (arith, c.count)

-- at most one entry more
pub changes-few : (more : List EntryView) (p q : HostPart) → Changes more p q → length more ≤ 1
changes-few more p q (inl c) = omega (arith, ap length c.none)
changes-few more p q (inr c) = omega (arith, ap length c.one)

-- the entry that was made is in its range
pub changes-fit : (more : List EntryView) (p q : HostPart) → pos 0 ≤ℤ p.last → Changes more p q → AllFit more
changes-fit more p q from (inl c) = subst AllFit (sym c.none) tt
changes-fit more p q from (inr c) = subst AllFit (sym c.one) (time_ok p.count p.last c.time from c.fits, tt)

-- the time of the last input stays at least 0
pub changes-from : (more : List EntryView) (p q : HostPart) → pos 0 ≤ℤ p.last → Changes more p q → pos 0 ≤ℤ q.last
changes-from more p q from (inl c) = subst (λ (x : HostPart). pos 0 ≤ℤ x.last) (sym c.same) from
changes-from more p q from (inr c) =
    let fits = time_ok p.count p.last c.time from c.fits in
    let low : pos 0 ≤ℤ c.time = grind (arith, ints) in
    subst (λ (t : ℤ). pos 0 ≤ℤ t) (sym c.last) low

-- the time of the last input fits into 64 bits
time-below : (t : ℤ) → pos 0 ≤ℤ t → t ≤ℤ pos (10 ^ 18) → FitsSigned w64 t
time-below (pos n) low high = record { sfits = omega (arith, ints) }
time-below (negsuc n) low high = record { sfits = omega (arith, ints) }

time-fits : (t : ℤ) → is_input_time t ≡ true → FitsSigned w64 t
time-fits t fits =
    let low : pos 0 ≤ℤ t = grind (arith, ints) in
    let high : t ≤ℤ pos (10 ^ 18) = grind (arith, ints) in
    time-below t low high

changes-wide : (more : List EntryView) (p q : HostPart) → pos 0 ≤ℤ p.last → FitsSigned w64 p.last → Changes more p q → FitsSigned w64 q.last
changes-wide more p q from wide (inl c) = subst (λ (x : HostPart). FitsSigned w64 x.last) (sym c.same) wide
changes-wide more p q from wide (inr c) = subst (λ (t : ℤ). FitsSigned w64 t) (sym c.last) (time-fits c.time (time_ok p.count p.last c.time from c.fits))

-- ---- a turn

taken-wide : (mark : List ℕ) (p q : HostPart) (ts : List Taking) (later : List EntryView) → pos 0 ≤ℤ p.last → FitsSigned w64 p.last → AreTaken mark p ts later q → FitsSigned w64 q.last
taken-wide mark p q [] later from wide k = subst (λ (x : HostPart). FitsSigned w64 x.last) (sym k.1) wide
taken-wide mark p q (t ∷ ts) later from wide k =
    let more : List EntryView = read_entries p.last (decoded t.came.bytes) t.answer in
    let changes = read-changes mark p k.0 (decoded t.came.bytes) t.answer k.2 in
    taken-wide mark k.0 q ts k.1 (changes-from more p k.0 from changes) (changes-wide more p k.0 from wide changes) k.4

clock-from : (p q : HostPart) (clock : Option ℤ) (refused : Bool) (first : List EntryView) → pos 0 ≤ℤ p.last → IsClockTaken p clock refused first q → pos 0 ≤ℤ q.last
clock-from p q None refused first from k = subst (λ (x : HostPart). pos 0 ≤ℤ x.last) (sym k.2) from
clock-from p q (Some t) refused first from k = changes-from (clock_entries t k.0) p q from (clock-changes p q t k.0 k.1)

clock-wide : (p q : HostPart) (clock : Option ℤ) (refused : Bool) (first : List EntryView) → pos 0 ≤ℤ p.last → FitsSigned w64 p.last → IsClockTaken p clock refused first q → FitsSigned w64 q.last
clock-wide p q None refused first from wide k = subst (λ (x : HostPart). FitsSigned w64 x.last) (sym k.2) wide
clock-wide p q (Some t) refused first from wide k = changes-wide (clock_entries t k.0) p q from wide (clock-changes p q t k.0 k.1)

pub gathered-wide : (result : Result (Unit {0}) TurnFault) (mark : List ℕ) (clock : Option ℤ) (a b : Option (List Traffic)) (old new : HostPart) (x y : List ℕ) (ts : List Taking) (entries : List EntryView)
    → pos 0 ≤ℤ old.last → FitsSigned w64 old.last → IsGathered result mark clock a b old new x y ts entries → FitsSigned w64 new.last
gathered-wide result mark clock a b old new x y ts entries from wide g =
    taken-wide mark g.begun new ts g.later (clock-from old g.begun clock g.refused g.first from g.clocked) (clock-wide old g.begun clock g.refused g.first from wide g.clocked) g.taken

pub of-clock : (v : ℕ) (es first : List EntryView) (p q : HostPart) (clock : Option ℤ) (refused : Bool) → IsOfLog v es p → IsClockTaken p clock refused first q → IsOfLog v (es ++ first) q
of-clock v es first p q None refused is k = subst (λ (l : List EntryView). IsOfLog v (es ++ l) q) (sym k.0) (of-none v es p q k.2 is)
of-clock v es first p q (Some t) refused is k =
    subst (λ (l : List EntryView). IsOfLog v (es ++ l) q) (sym k.3) (changes-of v es (clock_entries t k.0) p q is (clock-changes p q t k.0 k.1))

pub of-taken : (v : ℕ) (mark : List ℕ) (es later : List EntryView) (p q : HostPart) (ts : List Taking) → IsOfLog v es p → AreTaken mark p ts later q → IsOfLog v (es ++ later) q
of-taken v mark es later p q [] is k = subst (λ (l : List EntryView). IsOfLog v (es ++ l) q) (sym k.0) (of-none v es p q k.1 is)
of-taken v mark es later p q (t ∷ ts) is k =
    let more : List EntryView = read_entries p.last (decoded t.came.bytes) t.answer in
    let mid = changes-of v es more p k.0 is (read-changes mark p k.0 (decoded t.came.bytes) t.answer k.2) in
    let end = of-taken v mark (es ++ more) k.1 k.0 q ts mid k.4 in
    subst (λ (l : List EntryView). IsOfLog v l q) (append_assoc es more k.1 ∙ ap (λ (l : List EntryView). es ++ l) (sym k.3)) end

-- ---- the calls of a turn

-- a clock: its entry is in its range, and the time of the last input goes on
pub clock_fit : (p q : HostPart) (t : ℤ) (answer : Result ℕ NumberFault) → pos 0 ≤ℤ p.last → IsPartClocked p t answer q → AllFit (clock_entries t answer)
clock_fit p q t answer from k = changes-fit (clock_entries t answer) p q from (clock-changes p q t answer k)

pub clock_last : (p q : HostPart) (t : ℤ) (answer : Result ℕ NumberFault) → IsPartClocked p t answer q → last_after p.last (clock_entries t answer) ≡ q.last
clock_last p q t answer k = sym (changes-last (clock_entries t answer) p q (clock-changes p q t answer k))

pub clock_few : (p q : HostPart) (t : ℤ) (answer : Result ℕ NumberFault) → IsPartClocked p t answer q → length (clock_entries t answer) ≤ 1
clock_few p q t answer k = changes-few (clock_entries t answer) p q (clock-changes p q t answer k)

-- a datagram
pub read_fit : (mark : List ℕ) (p q : HostPart) (read : Result Message WireFault) (answer : Result HostReply HostFault) → pos 0 ≤ℤ p.last → IsPartTakeOf mark p read answer q → AllFit (read_entries p.last read answer)
read_fit mark p q read answer from k = changes-fit (read_entries p.last read answer) p q from (read-changes mark p q read answer k)

pub read_last : (mark : List ℕ) (p q : HostPart) (read : Result Message WireFault) (answer : Result HostReply HostFault) → IsPartTakeOf mark p read answer q → last_after p.last (read_entries p.last read answer) ≡ q.last
read_last mark p q read answer k = sym (changes-last (read_entries p.last read answer) p q (read-changes mark p q read answer k))

pub read_count : (mark : List ℕ) (p q : HostPart) (read : Result Message WireFault) (answer : Result HostReply HostFault) → IsPartTakeOf mark p read answer q → p.count ≤ q.count
read_count mark p q read answer k = changes-count (read_entries p.last read answer) p q (read-changes mark p q read answer k)

pub read_few : (mark : List ℕ) (p q : HostPart) (read : Result Message WireFault) (answer : Result HostReply HostFault) → IsPartTakeOf mark p read answer q → length (read_entries p.last read answer) ≤ 1
read_few mark p q read answer k = changes-few (read_entries p.last read answer) p q (read-changes mark p q read answer k)

-- ---- an entry of a log

pub makes-grown : (p q : HostPart) (t : ℤ) (s : Source) → PartMakesOf p t s q → (q.floor ≡ p.floor) × (q.last ≡ t)
makes-grown p q t Clock m =
    let c = clocked-grown p q t m.0 (part_fault p t) refl m.1 m.1 in
    (c.floor, c.last ∙ ap (λ (l : List EntryView). last_after (pos 0) l) (sym c.one))
makes-grown p q t (Offer o) m =
    let c = came-grown p q o m.1.0 (slice_get p.kept o.pointer.who) m.1.1 m.1.1 in
    (c.floor, c.last ∙ ap (λ (l : List EntryView). last_after (pos 0) l) (sym c.one) ∙ sym m.0)
