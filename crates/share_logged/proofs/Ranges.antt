-- What a host numbers is in its ranges, so the host of a log with an entry has a base.
use Rattle.std.proofs.Common.{◌≡◌, ℕ, ◌+◌, ◌<◌, ◌≤◌, ℤ, pos, ◌+ℤ◌, ◌<ℤ◌, ◌≤ℤ◌, ◌^◌, Bool, true, List, [], ◌∷◌, length, length-append, refl, sym, ap, subst, ◌∙◌, arith}
use Rattle.std.specs.Prelude.{Option, Some, None, Result, Ok, Err, ◌&&◌, int_le, is_some, leb, slice_get, if◌then◌else◌}
use Rattle.std.proofs.lemmas.Bool.{and_from, le-leb}
use Rattle.std.proofs.lemmas.Bool.Decides.{nat_tests}
use Rattle.std.proofs.lemmas.Int.{ints}
use Rattle.std.proofs.lemmas.List.{length-replicate}
use Rattle.x3d_values.specs.Ranges.{is_input_time, max_inputs, max_time, max_viewers}
use Rattle.x3d_values.specs.Stamp.{StampedView}
use Rattle.x3d_values.specs.declared.stamped.Cause.{Cause}
use Rattle.x3d_values.specs.declared.stamped.Cause.TheVariants as cause
use Rattle.share_rules.specs.declared.kept.SeatCount.{SeatCount}
use Rattle.share_rules.specs.declared.offers.Standing.{Standing}
use Rattle.share_rules.specs.declared.offers.Standing.TheVariants as turn
use Rattle.share_wire.specs.Messages.{OfferView}
use Rattle.share_entries.specs.Base.{BaseView, is_base_number}
use Rattle.share_entries.specs.Entry.{EntryView}
use Rattle.share_entries.specs.Head.{is_viewer_count}
use Rattle.share_entries.specs.declared.entry.Source.{Source}
use Rattle.share_entries.specs.declared.entry.Source.TheVariants.{Clock, Offer}
use Rattle.share_law.specs.declared.fault.HostFault.{HostFault}
use Rattle.share_law.specs.declared.fault.NumberFault.{NumberFault}
use Rattle.share_law.specs.declared.reply.HostReply.{HostReply}
use Rattle.share_law.specs.declared.reply.HostReply.TheVariants.{Numbered}
use Rattle.share_law.specs.Host.{HostState, clocked, last_time, new_host, number_fault, numbered, offer_answered, offer_came, offer_numbered, reply_of}
use Rattle.share_law.specs.Parts.{HostPart}
use Rattle.share_law.proofs.Worlds.{last_from-append}
use Rattle.laws_hosts.specs.Log.{Entry, host_of, kept_after, kept_by}
use Rattle.share_logged.specs.Bases.{base_of, has_base}
use Rattle.share_logged.specs.Logged.{logged}
use Rattle.share_logged.specs.Making.{AreMade, IsOfLog, MakesOf}
use Rattle.share_logged.proofs.Making.{came-ok, clocked-ok, log-host}
use Rattle.share_logged.proofs.Places.{set_length}

-- ---- what a host numbers

pub record Numbers (list : List StampedView) (t : ℤ) : Type 0 where
  pub few : length list < max_inputs
  pub later : last_time list <ℤ t
  pub most : t ≤ℤ pos max_time

pub numbers_none : (list : List StampedView) (t : ℤ) → number_fault list t ≡ None → Numbers list t
unfolding number_fault
numbers_none list t none = record { few = grind (arith, nat_tests, ints); later = grind (arith, nat_tests, ints); most = grind (arith, nat_tests, ints) }

clock_none : (h new : HostState) (t : ℤ) (n : ℕ) (f : Option NumberFault) → clocked h t f ≡ (Ok n, new) → f ≡ None
clock_none h new t n (Some fault) e = let a : Err fault ≡ Ok n = ap (λ (r : Result ℕ NumberFault × HostState). r.0) e in absurd (cc)
clock_none h new t n None e = refl

offer_none : (h new : HostState) (o : OfferView) (n : ℕ) (f : Option NumberFault) → offer_numbered h o f ≡ (Ok (Numbered n), new) → f ≡ None
offer_none h new o n (Some fault) e = let a = ap (λ (r : Result HostReply HostFault × HostState). r.0) e in absurd (cc)
offer_none h new o n None e = refl

answered_none : (h new : HostState) (o : OfferView) (s : Standing) (n : ℕ) → offer_answered h o (reply_of s) ≡ (Ok (Numbered n), new)
    → number_fault h.list (last_time h.list +ℤ pos 1) ≡ None
answered_none h new o turn.OldBoot n e = let a = ap (λ (r : Result HostReply HostFault × HostState). r.0) e in absurd (cc)
answered_none h new o turn.Repeat n e = let a = ap (λ (r : Result HostReply HostFault × HostState). r.0) e in absurd (cc)
answered_none h new o turn.Ahead n e = let a = ap (λ (r : Result HostReply HostFault × HostState). r.0) e in absurd (cc)
answered_none h new o turn.Next n e = offer_none h new o n (number_fault h.list (last_time h.list +ℤ pos 1)) e

came_none : (h new : HostState) (o : OfferView) (k : Option SeatCount) (n : ℕ) → offer_came h o k ≡ (Ok (Numbered n), new)
    → number_fault h.list (last_time h.list +ℤ pos 1) ≡ None
came_none h new o None n e = let a = ap (λ (r : Result HostReply HostFault × HostState). r.0) e in absurd (cc)
came_none h new o (Some k) n e = answered_none h new o _ n e

pub makes_none : (h new : HostState) (t : ℤ) (s : Source) → MakesOf h t s new → number_fault h.list t ≡ None
makes_none h new t Clock m = clock_none h new t m.0 (number_fault h.list t) m.1
makes_none h new t (Offer o) m =
    ap (λ (u : ℤ). number_fault h.list u) m.0 ∙ came_none h new o (slice_get h.kept o.pointer.who) m.1.0 m.1.1

-- a time after one that is at least 0
pub time_ok : (before t : ℤ) → pos 0 ≤ℤ before → before <ℤ t → t ≤ℤ pos max_time → (is_input_time t ≡ true) × (pos 0 ≤ℤ t)
time_ok before t from later most =
    let low : int_le (pos 1) t ≡ true = grind (arith, ints) in
    let high : int_le t (pos (10 ^ 18)) ≡ true = grind (arith, ints) in
    let next : pos 0 ≤ℤ t = grind (arith, ints) in
    (rw low (rw high refl), next)

-- ---- the inputs of a host

-- there are some, and they are in their ranges
record InRanges (list : List StampedView) : Type 0 where
  some : 1 ≤ length list
  few : length list ≤ max_inputs
  time : is_input_time (last_time list) ≡ true
  from : pos 0 ≤ℤ last_time list

numbered-in : (list : List StampedView) (t : ℤ) (c : Cause) → pos 0 ≤ℤ last_time list → number_fault list t ≡ None → InRanges (numbered list t c)
numbered-in list t c from none =
    let one : List StampedView = record { number = length list + 1; time = t; cause = c } ∷ [] in
    let n = numbers_none list t none in
    let ok = time_ok (last_time list) t from n.later n.most in
    let last : last_time (numbered list t c) ≡ t = last_from-append (pos 0) list one in
    record {
      some = omega (arith, length-append list one);
      few = omega (arith, length-append list one, n.few);
      time = ap is_input_time last ∙ ok.0;
      from = subst (λ (z : ℤ). pos 0 ≤ℤ z) (sym last) ok.1;
    }

-- the inputs after one more
makes-list : (h new : HostState) (t : ℤ) (s : Source) → MakesOf h t s new → (c : Cause) × (new.list ≡ numbered h.list t c)
makes-list h new t Clock m =
    (cause.Clock, ap (λ (x : HostState). x.list) (clocked-ok h t (number_fault h.list t) m.0 new m.1))
makes-list h new t (Offer o) m =
    let c : Cause = cause.Pointer o.pointer in
    (c, ap (λ (x : HostState). x.list) (came-ok h o (slice_get h.kept o.pointer.who) m.1.0 new m.1.1) ∙ ap (λ (u : ℤ). numbered h.list u c) (sym m.0))

makes-in : (h new : HostState) (t : ℤ) (s : Source) → pos 0 ≤ℤ last_time h.list → MakesOf h t s new → InRanges new.list
makes-in h new t s from m =
    let made = makes-list h new t s m in
    subst InRanges (sym made.1) (numbered-in h.list t made.0 from (makes_none h new t s m))

made-in : (h new : HostState) (e : EntryView) (es : List EntryView) → pos 0 ≤ℤ last_time h.list → AreMade h (e ∷ es) new → InRanges new.list
made-in h new e [] from m = subst (λ (x : HostState). InRanges x.list) (sym m.2) (makes-in h m.0 e.time e.source from m.1)
made-in h new e (x ∷ es) from m = made-in m.0 new x es (makes-in h m.0 e.time e.source from m.1).from m.2

-- ---- what it keeps

kept-by : (kept : List SeatCount) (e : Entry) (c : Cause) → length (kept_by kept e c) ≡ length kept
kept-by kept e cause.Clock = refl
kept-by kept e (cause.Pointer p) = set_length kept p.who (record { boot = e.boot; count = e.offer })

kept-length : (kept : List SeatCount) (es : List Entry) → length (kept_after kept es) ≡ length kept
kept-length kept [] = refl
kept-length kept (e ∷ es) = kept-length (kept_by kept e e.input.cause) es ∙ kept-by kept e e.input.cause

host-kept : (v : ℕ) (es : List Entry) → length (host_of v es 1).kept ≡ v
host-kept v es = kept-length (new_host v).kept es ∙ length-replicate v (record { boot = 0; count = 0 })

-- ---- it has a base

within : (low high n : ℕ) → low ≤ n → n ≤ high → (leb low n && leb n high) ≡ true
within low high n from to = and_from (leb low n) (leb n high) (le-leb low n from) (le-leb n high to)

host-based : (v : ℕ) (es : List EntryView) (p : HostPart) → IsOfLog v es p → 1 ≤ v → v ≤ max_viewers → 1 ≤ length es → has_base p ≡ true
host-based v [] p is one most some = absurd (omega (arith, some))
host-based v (e ∷ es) p is one most some =
    let h : HostState = host_of v (logged (e ∷ es)) 1 in
    let from : pos 0 ≤ℤ pos 0 = grind (arith, ints) in
    let ranges : InRanges h.list = made-in (new_host v) h e es from (log-host v (e ∷ es) is.log) in
    let seats : length p.kept ≡ v = ap (λ (x : HostPart). length x.kept) is.same ∙ host-kept v (logged (e ∷ es)) in
    let count : p.count ≡ length h.list = ap (λ (x : HostPart). x.count) is.same in
    let last : p.last ≡ last_time h.list = ap (λ (x : HostPart). x.last) is.same in
    and_from (is_viewer_count (length p.kept) && is_base_number p.count) (is_input_time p.last)
    (and_from (is_viewer_count (length p.kept)) (is_base_number p.count)
    (within 1 max_viewers (length p.kept) (omega (arith, seats, one)) (omega (arith, seats, most)))
    (within 1 max_inputs p.count (omega (arith, count, ranges.some)) (omega (arith, count, ranges.few))))
    (ap is_input_time last ∙ ranges.time)

pub host-has-base : (v : ℕ) (es : List EntryView) (p : HostPart) (chain snapshot : List ℕ) → IsOfLog v es p → 1 ≤ v → v ≤ max_viewers → 1 ≤ length es → is_some (base_of p chain snapshot) ≡ true
host-has-base v es p chain snapshot is one most some =
    let made : BaseView = record { kept = p.kept; number = p.count; time = p.last; chain = chain; snapshot = snapshot } in
    ap (λ (b : Bool). is_some (if b then Some made else None)) (host-based v es p is one most some)
