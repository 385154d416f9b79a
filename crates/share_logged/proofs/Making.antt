-- What a host makes of the entries of a log, one entry after another.
use Rattle.std.proofs.Common.{◌≡◌, ℕ, suc, ℤ, pos, ◌+ℤ◌, ◌+◌, List, [], ◌∷◌, ◌++◌, length, refl, ap, sym, ◌∙◌, subst, arith, append_assoc, append-nil}
use Rattle.std.specs.Prelude.{Option, Some, None, Result, Ok, Err, slice_get, slice_set}
use Rattle.x3d_values.specs.declared.stamped.Cause.TheVariants as cause
use Rattle.x3d_values.specs.Stamp.{StampedView}
use Rattle.share_rules.specs.declared.offers.Standing.{Standing}
use Rattle.share_rules.specs.declared.offers.Standing.TheVariants as turn
use Rattle.share_wire.specs.Messages.{OfferView}
use Rattle.share_entries.specs.Entry.{EntryView}
use Rattle.share_entries.specs.declared.entry.Source.{Source}
use Rattle.share_entries.specs.declared.entry.Source.TheVariants.{Clock, Offer}
use Rattle.share_law.specs.declared.fault.HostFault.{HostFault}
use Rattle.share_law.specs.declared.fault.NumberFault.{NumberFault}
use Rattle.share_rules.specs.declared.kept.SeatCount.{SeatCount}
use Rattle.share_law.specs.declared.reply.HostReply.{HostReply}
use Rattle.share_law.specs.declared.reply.HostReply.TheVariants.{Numbered}
use Rattle.share_law.specs.Host.{HostState, clocked, last_time, new_host, number_fault, numbered, offer_answered, offer_came, offer_numbered, reply_before, reply_of}
use Rattle.laws_hosts.specs.Log.{Entry, host_of, inputs_of, kept_after}
use Rattle.laws_hosts.proofs.Logs.{inputs-append, inputs-length, kept-append}
use Rattle.share_logged.specs.Logged.{entry_at, logged, logged_from}
use Rattle.share_logged.specs.Making.{AreMade, IsLogOf, Makes, MakesOf}

-- ---- one entry more

logged_from-push : (n : ℕ) (es : List EntryView) (e : EntryView) → logged_from n (es ++ e ∷ []) ≡ logged_from n es ++ entry_at (n + length es) e ∷ []
logged_from-push n [] e = ap (λ k. entry_at k e ∷ []) (let same : n ≡ n + 0 = omega arith in same)
logged_from-push n (x ∷ es) e =
    let place : n + 1 + length es ≡ n + suc (length es) = omega arith in
    ap (λ (l : List Entry). entry_at n x ∷ l) (logged_from-push (n + 1) es e ∙ ap (λ k. logged_from (n + 1) es ++ entry_at k e ∷ []) place)

logged_from-length : (n : ℕ) (es : List EntryView) → length (logged_from n es) ≡ length es
logged_from-length n [] = refl
logged_from-length n (e ∷ es) = ap suc (logged_from-length (n + 1) es)

pub logged-inputs : (es : List EntryView) → length (inputs_of (logged es)) ≡ length es
logged-inputs es = inputs-length (logged es) ∙ logged_from-length 1 es

-- the list with one more entry
pub list-push : (es : List EntryView) (e : EntryView) → inputs_of (logged (es ++ e ∷ [])) ≡ numbered (inputs_of (logged es)) e.time (entry_at 0 e).input.cause
list-push es e =
    let place : 1 + length es ≡ length (inputs_of (logged es)) + 1 = omega (arith, logged-inputs es) in
    ap inputs_of (logged_from-push 1 es e)
    ∙ inputs-append (logged es) (entry_at (1 + length es) e ∷ [])
    ∙ ap (λ k. inputs_of (logged es) ++ (entry_at k e).input ∷ []) place

kept-push : (kept : List SeatCount) (es : List EntryView) (e : EntryView)
    → kept_after kept (logged (es ++ e ∷ [])) ≡ kept_after (kept_after kept (logged es)) (entry_at (1 + length es) e ∷ [])
kept-push kept es e = ap (kept_after kept) (logged_from-push 1 es e) ∙ kept-append kept (logged es) (entry_at (1 + length es) e ∷ [])

-- ---- what a host numbers

pub clocked-ok : (h : HostState) (t : ℤ) (f : Option NumberFault) (n : ℕ) (new : HostState) → clocked h t f ≡ (Ok n, new) → new ≡ record h { list = numbered h.list t cause.Clock }
clocked-ok h t (Some fault) n new e =
    let a : Err fault ≡ Ok n = ap (λ (r : Result ℕ NumberFault × HostState). r.0) e in absurd (cc)
clocked-ok h t None n new e = sym (ap (λ (r : Result ℕ NumberFault × HostState). r.1) e)

-- the host after an offer
abbrev offered : HostState → OfferView → HostState
offered h o =
    record {
      list = numbered h.list (last_time h.list +ℤ pos 1) (cause.Pointer o.pointer);
      kept = slice_set h.kept o.pointer.who (record { boot = o.boot; count = o.number });
      floor = h.floor;
    }

numbered-ok : (h : HostState) (o : OfferView) (f : Option NumberFault) (n : ℕ) (new : HostState) → offer_numbered h o f ≡ (Ok (Numbered n), new) → new ≡ offered h o
numbered-ok h o (Some fault) n new e =
    let a = ap (λ (r : Result HostReply HostFault × HostState). r.0) e in absurd (cc)
numbered-ok h o None n new e = sym (ap (λ (r : Result HostReply HostFault × HostState). r.1) e)

answered-ok : (h : HostState) (o : OfferView) (s : Standing) (n : ℕ) (new : HostState) → offer_answered h o (reply_of s) ≡ (Ok (Numbered n), new) → new ≡ offered h o
answered-ok h o turn.OldBoot n new e = let a = ap (λ (r : Result HostReply HostFault × HostState). r.0) e in absurd (cc)
answered-ok h o turn.Repeat n new e = let a = ap (λ (r : Result HostReply HostFault × HostState). r.0) e in absurd (cc)
answered-ok h o turn.Ahead n new e = let a = ap (λ (r : Result HostReply HostFault × HostState). r.0) e in absurd (cc)
answered-ok h o turn.Next n new e = numbered-ok h o (number_fault h.list (last_time h.list +ℤ pos 1)) n new e

pub came-ok : (h : HostState) (o : OfferView) (k : Option SeatCount) (n : ℕ) (new : HostState) → offer_came h o k ≡ (Ok (Numbered n), new) → new ≡ offered h o
came-ok h o None n new e = let a = ap (λ (r : Result HostReply HostFault × HostState). r.0) e in absurd (cc)
came-ok h o (Some k) n new e = answered-ok h o _ n new e

-- the host of a log, after it made an entry
pub makes-next : (v f : ℕ) (es : List EntryView) (t : ℤ) (s : Source) (new : HostState) → MakesOf (host_of v (logged es) f) t s new
    → new ≡ host_of v (logged (es ++ record { time = t; source = s } ∷ [])) f
makes-next v f es t Clock new m =
    let h : HostState = host_of v (logged es) f in
    let e : EntryView = record { time = t; source = Clock } in
    let made : List StampedView → List SeatCount → HostState = λ l k. record { list = l; kept = k; floor = f } in
    clocked-ok h t (number_fault h.list t) m.0 new m.1
    ∙ ap (λ l. made l h.kept) (sym (list-push es e))
    ∙ ap (made (inputs_of (logged (es ++ e ∷ [])))) (sym (kept-push (new_host v).kept es e))
makes-next v f es t (Offer o) new m =
    let h : HostState = host_of v (logged es) f in
    let e : EntryView = record { time = t; source = Offer o } in
    let made : List StampedView → List SeatCount → HostState = λ l k. record { list = l; kept = k; floor = f } in
    let kept : List SeatCount = slice_set h.kept o.pointer.who (record { boot = o.boot; count = o.number }) in
    came-ok h o (slice_get h.kept o.pointer.who) m.1.0 new m.1.1
    ∙ ap (λ u. made (numbered h.list u (cause.Pointer o.pointer)) kept) (sym m.0)
    ∙ ap (λ l. made l kept) (sym (list-push es e))
    ∙ ap (made (inputs_of (logged (es ++ e ∷ [])))) (sym (kept-push (new_host v).kept es e))

-- ---- many entries

pub made-is : (v f : ℕ) (xs es : List EntryView) (new : HostState) → AreMade (host_of v (logged xs) f) es new → new ≡ host_of v (logged (xs ++ es)) f
made-is v f xs [] new e = e ∙ ap (λ l. host_of v (logged l) f) (sym (append-nil xs))
made-is v f xs (e ∷ es) new m =
    let next = makes-next v f xs e.time e.source m.0 m.1 in
    made-is v f (xs ++ e ∷ []) es new (subst (λ (h : HostState). AreMade h es new) next m.2)
    ∙ ap (λ l. host_of v (logged l) f) (append_assoc xs (e ∷ []) es)

pub made-push : (h : HostState) (es : List EntryView) (e : EntryView) (mid new : HostState) → AreMade h es mid → Makes mid e new → AreMade h (es ++ e ∷ []) new
made-push h [] e mid new same m = (new, subst (λ (x : HostState). Makes x e new) same m, refl)
made-push h (x ∷ es) e mid new a m = (a.0, a.1, made-push a.0 es e mid new a.2 m)

pub made-pop : (h : HostState) (es : List EntryView) (e : EntryView) (new : HostState) → AreMade h (es ++ e ∷ []) new → (mid : HostState) × AreMade h es mid × Makes mid e new
made-pop h [] e new a = (h, refl, subst (λ (x : HostState). Makes h e x) (sym a.2) a.1)
made-pop h (x ∷ es) e new a =
    let rest = made-pop a.0 es e new a.2 in
    (rest.0, (a.0, a.1, rest.1), rest.2)

-- ---- logs

pub log-none : (v : ℕ) → IsLogOf v []
log-none v = (new_host v, refl)

pub log-host : (v : ℕ) (es : List EntryView) → IsLogOf v es → AreMade (new_host v) es (host_of v (logged es) 1)
log-host v es log = subst (λ (h : HostState). AreMade (new_host v) es h) (made-is v 1 [] es log.0 log.1) log.1

pub log-push : (v : ℕ) (es : List EntryView) (e : EntryView) (new : HostState) → IsLogOf v es → Makes (host_of v (logged es) 1) e new → IsLogOf v (es ++ e ∷ [])
log-push v es e new log m = (new, made-push (new_host v) es e (host_of v (logged es) 1) new (log-host v es log) m)

-- a log with an entry more is one whose host makes the entry
pub log-pop : (v : ℕ) (es : List EntryView) (e : EntryView) → IsLogOf v (es ++ e ∷ []) → (new : HostState) × Makes (host_of v (logged es) 1) e new
log-pop v es e log =
    let rest = made-pop (new_host v) es e log.0 log.1 in
    (log.0, subst (λ (h : HostState). Makes h e log.0) (made-is v 1 [] es rest.0 rest.1) rest.2)

-- ---- floors

abbrev with_floor : {R : Type 0} → (g : ℕ) → R × HostState → R × HostState
with_floor g r = (r.0, record r.1 { floor = g })

abbrev at_floor : HostState → (g : ℕ) → HostState
at_floor h g = record h { floor = g }

floor-clocked : (h : HostState) (g : ℕ) (t : ℤ) (f : Option NumberFault) → clocked (at_floor h g) t f ≡ with_floor g (clocked h t f)
floor-clocked h g t (Some fault) = refl
floor-clocked h g t None = refl

floor-numbered : (h : HostState) (g : ℕ) (o : OfferView) (f : Option NumberFault) → offer_numbered (at_floor h g) o f ≡ with_floor g (offer_numbered h o f)
floor-numbered h g o (Some fault) = refl
floor-numbered h g o None = refl

floor-answered : (h : HostState) (g : ℕ) (o : OfferView) (reply : Option HostReply) → offer_answered (at_floor h g) o reply ≡ with_floor g (offer_answered h o reply)
floor-answered h g o (Some reply) = refl
floor-answered h g o None = floor-numbered h g o (number_fault h.list (last_time h.list +ℤ pos 1))

floor-came : (h : HostState) (g : ℕ) (o : OfferView) (k : Option SeatCount) → offer_came (at_floor h g) o k ≡ with_floor g (offer_came h o k)
floor-came h g o None = refl
floor-came h g o (Some k) = floor-answered h g o (reply_before k o)

-- what a host makes doesn't depend on its floor
pub makes-floor : (h new : HostState) (g : ℕ) (t : ℤ) (s : Source) → MakesOf h t s new → MakesOf (at_floor h g) t s (at_floor new g)
makes-floor h new g t Clock m =
    (m.0, floor-clocked h g t (number_fault h.list t) ∙ ap (λ (r : Result ℕ NumberFault × HostState). with_floor g r) m.1)
makes-floor h new g t (Offer o) m =
    (m.0, (m.1.0, floor-came h g o (slice_get h.kept o.pointer.who) ∙ ap (λ (r : Result HostReply HostFault × HostState). with_floor g r) m.1.1))
