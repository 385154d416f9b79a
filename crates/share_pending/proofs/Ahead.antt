-- A host stays ahead of its log, and the log grows by what is stored.
use Rattle.std.proofs.Common.{◌≡◌, ℕ, ℤ, ◌+◌, ◌-◌, ◌≤◌, Bool, true, false, cond, inl, inr, List, [], ◌∷◌, ◌++◌, length, length-append, refl, ap, sym, ◌∙◌, subst, arith, append_assoc, append-nil}
use Rattle.std.specs.Prelude.{Option, Some, None, Result, Ok, Err, nat_lt, if◌then◌else◌, drop}
use Rattle.std.proofs.lemmas.Bool.Decides.{nat_tests}
use Rattle.share_entries.specs.Entry.{EntryView}
use Rattle.share_wire.specs.declared.message.Body.{Body}
use Rattle.share_wire.specs.declared.message.Body.TheVariants as body
use Rattle.share_wire.specs.declared.fault.WireFault.{WireFault}
use Rattle.share_wire.specs.declared.message.Message.{Message}
use Rattle.share_law.specs.declared.fault.FloorFault.{FloorFault}
use Rattle.share_law.specs.declared.fault.FloorFault.TheVariants.{FloorAhead, FloorBack}
use Rattle.share_law.specs.declared.fault.HostFault.{HostFault}
use Rattle.share_law.specs.declared.fault.NumberFault.{NumberFault}
use Rattle.share_rules.specs.declared.kept.SeatCount.{SeatCount}
use Rattle.share_law.specs.declared.reply.HostReply.{HostReply}
use Rattle.share_law.specs.Host.{new_host}
use Rattle.share_law.specs.Parts.{HostPart, part_drop_below, part_of}
use Rattle.share_turns.specs.Ends.{floor_for}
use Rattle.share_turns.specs.Heard.{lowest}
use Rattle.laws_hosts.specs.Log.{host_of, inputs_of}
use Rattle.share_logged.specs.Logged.{logged}
use Rattle.share_logged.specs.Making.{IsLogOf, IsOfLog}
use Rattle.share_logged.specs.Turn.{clock_entries, is_numbered, offer_entries, read_entries}
use Rattle.share_logged.proofs.Dropping.{dropped-of}
use Rattle.share_logged.proofs.Keeping.{Changes, changes-of, clock-changes, read-changes}
use Rattle.share_logged.proofs.Making.{logged-inputs}
use Rattle.share_logged.proofs.Resuming.{of-entries}
use Rattle.share_pending.specs.Kept.{kept_with, none_kept}
use Rattle.share_pending.specs.Showing.{dropped_for, stored_drop, stored_keeping}
use Rattle.share_pending.specs.Waiting.{IsClockAdded, IsClockWaiting, IsTakeAdded, IsTakeWaiting, WaitingView, begins, begun, is_awaited, is_offer, offers, stored_by, stored_now, waiting_after, with_append, with_pending}
use Rattle.share_pending.specs.Written.{GrowsByStored, IsAhead, StaysAhead}
use Rattle.share_pending.proofs.Offers.{kept-append, kept-same}

-- ---- one entry more, or none

changes-floor : (more : List EntryView) (p q : HostPart) → Changes more p q → q.floor ≡ p.floor
changes-floor more p q (inl c) = ap (λ (x : HostPart). x.floor) c.same
changes-floor more p q (inr c) = c.floor

stays-more : (p q : HostPart) (w : WaitingView) (more after : List EntryView) → Changes more p q → after ≡ w.pending ++ more → StaysAhead p w q (with_pending w after)
stays-more p q w more after c added = λ v log is.
    let before : List EntryView = log ++ w.appending in
    let floor = changes-floor more p q c in
    let all : (before ++ w.pending) ++ more ≡ before ++ after = append_assoc before w.pending more ∙ ap (λ (l : List EntryView). before ++ l) (sym added) in
    record {
      made = subst (λ (l : List EntryView). IsOfLog v l q) all (changes-of v (before ++ w.pending) more p q is.made c);
      stored = is.stored;
      reached = is.reached;
      kept = is.kept;
      floor = omega (arith, is.floor, floor);
    }

stays-is : (p q : HostPart) (w : WaitingView) (after : List EntryView) → q ≡ p → after ≡ w.pending → StaysAhead p w q (with_pending w after)
stays-is p q w after same is = λ v log ahead.
    subst (λ (l : List EntryView). IsAhead v log q (with_pending w l)) (sym is) (subst (λ (r : HostPart). IsAhead v log r w) (sym same) ahead)

clock-added : (p q : HostPart) (w : WaitingView) (t : ℤ) (r : Result ℕ NumberFault) (after : List EntryView) → IsClockAdded p w.pending t r q after → StaysAhead p w q (with_pending w after)
clock-added p q w t r after (inl k) = stays-more p q w (clock_entries t r) after (clock-changes p q t r k.0) k.1
clock-added p q w t r after (inr k) = stays-is p q w after k.1 k.2

pub clock-stays : (p q : HostPart) (w x : WaitingView) (t : ℤ) (r : Result ℕ NumberFault) → IsClockWaiting p w t r q x → StaysAhead p w q x
clock-stays p q w x t r k = subst (λ (y : WaitingView). StaysAhead p w q y) (sym k.2) (clock-added p q w t r k.0 k.1)

take-added : (mark : List ℕ) (p q : HostPart) (w : WaitingView) (read : Result Message WireFault) (r : Result HostReply HostFault) (after : List EntryView)
    → IsTakeAdded mark w.stored p w.pending read r q after → StaysAhead p w q (with_pending w after)
take-added mark p q w read r after (inl t) = stays-more p q w (read_entries p.last read t.answer) after (read-changes mark p q read t.answer t.took) t.added
take-added mark p q w read r after (inr t) = stays-is p q w after t.part t.same

pub take-stays : (mark : List ℕ) (p q : HostPart) (w x : WaitingView) (read : Result Message WireFault) (r : Result HostReply HostFault) → IsTakeWaiting mark p w read r q x → StaysAhead p w q x
take-stays mark p q w x read r k = subst (λ (y : WaitingView). StaysAhead p w q y) (sym k.2) (take-added mark p q w read r k.0 k.1)

-- a datagram that is no offer adds nothing
either-same : (b : Bool) (x : List EntryView) → cond b x x ≡ x
either-same true x = refl
either-same false x = refl

pub no-entries : (last : ℤ) (read : Result Message WireFault) (answer : Result HostReply HostFault) → is_offer read ≡ false → read_entries last read answer ≡ []
no-entries last (Err fault) answer e = refl
no-entries last (Ok message) answer e = by message.body e where
  by : (b : Body) → offers b ≡ false → cond (is_numbered answer) (offer_entries last b) [] ≡ []
  by (body.Input x) e = either-same (is_numbered answer) []
  by (body.Offer o) e = absurd (cc)
  by (body.Ask a) e = either-same (is_numbered answer) []
  by (body.Ack a) e = either-same (is_numbered answer) []
  by (body.Floor f) e = either-same (is_numbered answer) []
  by (body.Piece x) e = either-same (is_numbered answer) []

-- ---- an append begins

pub none-under : (a p : List EntryView) → begins a p ≡ true → a ≡ []
none-under [] p e = refl
none-under (x ∷ xs) p e = by (nat_lt 0 (length (x ∷ xs))) refl e where
  by : (b : Bool) → nat_lt 0 (length (x ∷ xs)) ≡ b → cond b false (nat_lt 0 (length p)) ≡ true → x ∷ xs ≡ []
  by true t f = let wrong : false ≡ true = f in absurd (cc)
  by false t f = let few : length (x ∷ xs) ≤ 0 = grind (arith, nat_tests) in absurd (omega (arith, few))

-- the number of the host's inputs is that of its entries
all-count : (v : ℕ) (log : List EntryView) (p : HostPart) (w : WaitingView) → IsAhead v log p w → p.count ≡ length log + length w.appending + length w.pending
all-count v log p w is =
    let all : List EntryView = (log ++ w.appending) ++ w.pending in
    let count : p.count ≡ length (inputs_of (logged all)) = ap (λ (x : HostPart). x.count) is.made.same in
    omega (arith, count, logged-inputs all, length-append (log ++ w.appending) w.pending, length-append log w.appending)

begun-by : (p : HostPart) (w : WaitingView) (count : ℕ) (b : Bool) → begins w.appending w.pending ≡ b → count ≡ p.count → StaysAhead p w p (if b then with_append w count else w)
begun-by p w count false e is = λ v log ahead. ahead
begun-by p w count true e is = λ v log ahead.
    let none : w.appending ≡ [] = none-under w.appending w.pending e in
    let before : (log ++ w.appending) ++ w.pending ≡ (log ++ w.pending) ++ [] =
    ap (λ (l : List EntryView). (log ++ l) ++ w.pending) none ∙ ap (λ (l : List EntryView). l ++ w.pending) (append-nil log) ∙ sym (append-nil (log ++ w.pending)) in
    let few : length w.appending ≡ 0 = ap (λ (l : List EntryView). length l) none in
    record {
      made = subst (λ (l : List EntryView). IsOfLog v l p) before ahead.made;
      stored = ahead.stored;
      reached = omega (arith, is, all-count v log p w ahead, few);
      kept = ahead.kept;
      floor = ahead.floor;
    }

pub begun-stays : (p : HostPart) (w : WaitingView) (count : ℕ) → count ≡ p.count → StaysAhead p w p (begun w count)
begun-stays p w count is = begun-by p w count (begins w.appending w.pending) refl is

-- ---- its entries are stored

stored-by : (p : HostPart) (w : WaitingView) (b : Bool) → GrowsByStored p w b (if b then stored_now w else w)
stored-by p w false = λ v log is. is
stored-by p w true = λ v log is.
    let all : List EntryView = log ++ w.appending in
    let many = length-append log w.appending in
    record {
      made = subst (λ (l : List EntryView). IsOfLog v (l ++ w.pending) p) (sym (append-nil all)) is.made;
      stored = is.reached ∙ sym many;
      reached = omega (arith, is.reached, many);
      kept = ap (λ (k : List SeatCount). kept_with k w.appending) (is.kept ∙ kept-same (new_host v).kept 1 log)
          ∙ sym (kept-append (new_host v).kept log w.appending) ∙ sym (kept-same (new_host v).kept 1 all);
      floor = omega (arith, is.floor, many);
    }

pub stored-grows : (p : HostPart) (w : WaitingView) (token : ℕ) → GrowsByStored p w (is_awaited w token) (stored_by w token)
stored-grows p w token = stored-by p w (is_awaited w token)

-- ---- inputs are dropped

below-floor : (p : HostPart) (f most : ℕ) (a b : Bool) → p.floor ≤ most → f ≤ most
    → (let r : Result ℕ FloorFault × HostPart = if a then (Err FloorBack, p) else if b then (Err FloorAhead, p) else (Ok f, record p { floor = f; rest = drop (f - p.floor) p.rest }) in r).1.floor ≤ most
below-floor p f most true b low high = low
below-floor p f most false true low high = low
below-floor p f most false false low high = high

drop-by : (p : HostPart) (w : WaitingView) (f : ℕ) (a : Bool) → nat_lt w.stored (f - 1) ≡ a
    → StaysAhead p w (let r : Result ℕ FloorFault × HostPart = if a then (Err FloorAhead, p) else part_drop_below p f in r).1 w
drop-by p w f true e = λ v log is. is
drop-by p w f false e = λ v log is.
    let within : f ≤ length log + 1 = let low : f - 1 ≤ w.stored = grind (arith, nat_tests) in omega (arith, low, is.stored) in
    record {
      made = dropped-of v ((log ++ w.appending) ++ w.pending) p f is.made;
      stored = is.stored;
      reached = is.reached;
      kept = is.kept;
      floor = below-floor p f (length log + 1) (nat_lt f p.floor) (nat_lt (p.count + 1) f) is.floor within;
    }

pub drop-stays : (p q : HostPart) (w : WaitingView) (f : ℕ) (r : Result ℕ FloorFault) → stored_drop w.stored p f ≡ (r, q) → StaysAhead p w q w
drop-stays p q w f r e =
    subst (λ (x : HostPart). StaysAhead p w x w) (ap (λ (x : Result ℕ FloorFault × HostPart). x.1) e) (drop-by p w f (nat_lt w.stored (f - 1)) refl)

dropped-stays : (p : HostPart) (w : WaitingView) (keep : ℕ) (low : Option ℕ) → StaysAhead p w (dropped_for w.stored keep low p) w
dropped-stays p w keep None = λ v log is. is
dropped-stays p w keep (Some n) = drop-by p w (floor_for keep n p.floor w.stored) (nat_lt w.stored (floor_for keep n p.floor w.stored - 1)) refl

pub keep-stays : (p : HostPart) (w : WaitingView) (keep : ℕ) (heard : List ℕ) → StaysAhead p w (stored_keeping w.stored keep heard p) w
keep-stays p w keep heard = dropped-stays p w keep (lowest heard)

-- ---- it begins

pub begun-ahead : (v : ℕ) (es : List EntryView) (p : HostPart) → IsLogOf v es → p ≡ part_of (host_of v (logged es) 1) → IsAhead v es p (waiting_after v es (length es))
begun-ahead v es p log same =
    let floor : p.floor ≡ 1 = ap (λ (x : HostPart). x.floor) same in
    let all : (es ++ []) ++ [] ≡ es = append-nil (es ++ []) ∙ append-nil es in
    record {
      made = subst (λ (l : List EntryView). IsOfLog v l p) (sym all) (of-entries v es p log same);
      stored = refl;
      reached = omega arith;
      kept = sym (kept-same (none_kept v) 1 es);
      floor = omega (arith, floor);
    }

pub begun-count : (v : ℕ) (es : List EntryView) (p : HostPart) → p ≡ part_of (host_of v (logged es) 1) → p.count ≡ length es
begun-count v es p same = ap (λ (x : HostPart). x.count) same ∙ logged-inputs es
