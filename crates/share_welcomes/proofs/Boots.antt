-- The boots that a base keeps of its viewers are those of the last offers of the log below it.
use Rattle.std.proofs.Common.{◌≡◌, ℕ, zero, suc, ℤ, ◌+◌, ◌<◌, ◌≤◌, List, [], ◌∷◌, ◌++◌, length, take, get_or, map, replicate, pos, ◌+ℤ◌, append-nil, refl, sym, ap, subst, ◌∙◌, arith}
use Rattle.std.specs.Prelude.{Option, Some, None, Result, Ok, Err, slice_get, slice_set}
use Rattle.std.proofs.lemmas.List.{length-map, map-set, set-append_left, take-replicate}
use Rattle.std.proofs.lemmas.Option.{slice_get_within}
use Rattle.share_rules.specs.declared.kept.SeatCount.{SeatCount}
use Rattle.share_rules.specs.declared.offers.Standing.{Standing}
use Rattle.share_rules.specs.declared.offers.Standing.TheVariants as turn
use Rattle.share_rules.specs.Offers.{standing_of}
use Rattle.share_wire.specs.Messages.{OfferView}
use Rattle.share_entries.specs.Base.{BaseView}
use Rattle.share_entries.specs.Entry.{EntryView}
use Rattle.share_entries.specs.declared.entry.Source.{Source}
use Rattle.share_entries.specs.declared.entry.Source.TheVariants.{Clock, Offer}
use Rattle.share_law.specs.declared.fault.HostFault.{HostFault}
use Rattle.share_law.specs.declared.fault.NumberFault.{NumberFault}
use Rattle.share_law.specs.declared.reply.HostReply.{HostReply}
use Rattle.share_law.specs.declared.reply.HostReply.TheVariants.{Numbered}
use Rattle.share_law.specs.Host.{HostState, clocked, count_for, last_time, new_host, number_fault, offer_answered, offer_came, offer_numbered, reply_of}
use Rattle.laws_hosts.specs.Log.{host_of}
use Rattle.share_logged.specs.Bases.{IsBaseOf}
use Rattle.share_logged.specs.Logged.{logged}
use Rattle.share_logged.specs.Making.{AreMade, MakesOf}
use Rattle.share_logged.proofs.Making.{log-host}
use Rattle.share_welcomes.specs.Learned.{LearnedView, base_learned, boots_after, boots_of, learned_more, no_boots, source_noted}
use Rattle.share_welcomes.specs.Laws.{BaseIsOfLog, IsLearnedOf}
use Rattle.share_welcomes.proofs.OfLog.{learns_of_log}

abbrev boots : List SeatCount → List ℕ
boots kept = map (λ (k : SeatCount). k.boot) kept

-- ---- one seat

take-set : (m : ℕ) (xs : List ℕ) (i b : ℕ) → take m (slice_set xs i b) ≡ slice_set (take m xs) i b
take-set zero xs i b = refl
take-set (suc m) [] i b = refl
take-set (suc m) (x ∷ xs) zero b = refl
take-set (suc m) (x ∷ xs) (suc i) b = ap (λ (l : List ℕ). x ∷ l) (take-set m xs i b)

-- a seat within is another
set-within : (kept : List SeatCount) (i : ℕ) (k : SeatCount) → i < length kept → boots_of (slice_set kept i k) ≡ slice_set (boots_of kept) i k.boot
set-within kept i k within =
    let here : i < length (boots kept) = omega (arith, within, length-map kept (λ (k : SeatCount). k.boot)) in
    ap (λ (bs : List ℕ). take 64 (bs ++ no_boots)) (map-set (λ (k : SeatCount). k.boot) kept i k)
    ∙ ap (λ (bs : List ℕ). take 64 bs) (sym (set-append_left (boots kept) no_boots i k.boot here))
    ∙ take-set 64 (boots kept ++ no_boots) i k.boot

-- no boot is kept at all
none-kept : (v m : ℕ) → map (λ (k : SeatCount). k.boot) (replicate v (record { boot = 0; count = 0 })) ++ replicate m 0 ≡ replicate (v + m) 0
none-kept zero m =
    let same : m ≡ 0 + m = omega arith in
    ap (λ (n : ℕ). replicate n 0) same
none-kept (suc v) m =
    let next : suc v + m ≡ suc (v + m) = omega arith in
    ap (λ (l : List ℕ). 0 ∷ l) (none-kept v m) ∙ ap (λ (n : ℕ). replicate n 0) (sym next)

new-boots : (v : ℕ) → boots_of (new_host v).kept ≡ no_boots
new-boots v = ap (λ (l : List ℕ). take 64 l) (none-kept v 64) ∙ take-replicate 64 (v + 64) 0 (omega arith)

-- ---- one entry

clocked-boots : (h : HostState) (t : ℤ) (f : Option NumberFault) (n : ℕ) (new : HostState) → clocked h t f ≡ (Ok n, new) → boots_of new.kept ≡ boots_of h.kept
clocked-boots h t (Some fault) n new e =
    let a : Err fault ≡ Ok n = ap (λ (r : Result ℕ NumberFault × HostState). r.0) e in absurd (cc)
clocked-boots h t None n new e = sym (ap (λ (r : Result ℕ NumberFault × HostState). boots_of r.1.kept) e)

abbrev noted : HostState → OfferView → List ℕ
noted h o = slice_set (boots_of h.kept) o.pointer.who o.boot

numbered-boots : (h : HostState) (o : OfferView) → o.pointer.who < length h.kept → (f : Option NumberFault) (n : ℕ) (new : HostState) → offer_numbered h o f ≡ (Ok (Numbered n), new)
    → boots_of new.kept ≡ noted h o
numbered-boots h o within (Some fault) n new e = let a = ap (λ (r : Result HostReply HostFault × HostState). r.0) e in absurd (cc)
numbered-boots h o within None n new e =
    sym (ap (λ (r : Result HostReply HostFault × HostState). boots_of r.1.kept) e)
    ∙ set-within h.kept o.pointer.who (record { boot = o.boot; count = o.number }) within

answered-boots : (h : HostState) (o : OfferView) → o.pointer.who < length h.kept → (s : Standing) (n : ℕ) (new : HostState) → offer_answered h o (reply_of s) ≡ (Ok (Numbered n), new)
    → boots_of new.kept ≡ noted h o
answered-boots h o within turn.OldBoot n new e = let a = ap (λ (r : Result HostReply HostFault × HostState). r.0) e in absurd (cc)
answered-boots h o within turn.Repeat n new e = let a = ap (λ (r : Result HostReply HostFault × HostState). r.0) e in absurd (cc)
answered-boots h o within turn.Ahead n new e = let a = ap (λ (r : Result HostReply HostFault × HostState). r.0) e in absurd (cc)
answered-boots h o within turn.Next n new e = numbered-boots h o within (number_fault h.list (last_time h.list +ℤ pos 1)) n new e

came-boots : (h : HostState) (o : OfferView) (k : Option SeatCount) → slice_get h.kept o.pointer.who ≡ k → (n : ℕ) (new : HostState) → offer_came h o k ≡ (Ok (Numbered n), new)
    → boots_of new.kept ≡ noted h o
came-boots h o None at n new e = let a = ap (λ (r : Result HostReply HostFault × HostState). r.0) e in absurd (cc)
came-boots h o (Some k) at n new e =
    answered-boots h o (slice_get_within h.kept o.pointer.who k at) (standing_of k.boot (count_for k o.boot) o.boot o.number) n new e

makes-boots : (h : HostState) (t : ℤ) (s : Source) (new : HostState) → MakesOf h t s new → boots_of new.kept ≡ source_noted (boots_of h.kept) s
makes-boots h t Clock new m = clocked-boots h t (number_fault h.list t) m.0 new m.1
makes-boots h t (Offer o) new m = came-boots h o (slice_get h.kept o.pointer.who) refl m.1.0 new m.1.1

-- ---- many entries

made-boots : (h : HostState) (es : List EntryView) (new : HostState) → AreMade h es new → boots_of new.kept ≡ boots_after (boots_of h.kept) es
made-boots h [] new e = ap (λ (x : HostState). boots_of x.kept) e
made-boots h (e ∷ es) new m =
    made-boots m.0 es new m.2 ∙ ap (λ (bs : List ℕ). boots_after bs es) (makes-boots h e.time e.source m.0 m.1)

pub base_of_log : BaseIsOfLog
base_of_log run v below base is = record {
  old = below;
  split = sym (append-nil below);
  many = sym is.number;
  chain = is.chain;
  boots = ap boots_of is.kept ∙ made-boots (new_host v) below (host_of v (logged below) 1) (log-host v below is.log) ∙ ap (λ (bs : List ℕ). boots_after bs below) (new-boots v);
}

-- ---- the boots of a base are copied

-- one seat more
more-boots : (m n i : ℕ) → m ≤ n → i < m → (kept : List SeatCount) (d : SeatCount) → i < length kept
    → slice_set (take m (boots (take i kept) ++ replicate n 0)) i (get_or kept i d).boot ≡ take m (boots (take (suc i) kept) ++ replicate n 0)
more-boots m n i le lt [] d here = absurd (omega (arith, here))
more-boots zero n i le lt (x ∷ xs) d here = absurd (omega (arith, lt))
more-boots (suc m) zero i le lt (x ∷ xs) d here = absurd (omega (arith, le))
more-boots (suc m) (suc n) zero le lt (x ∷ xs) d here =
    ap (λ (l : List ℕ). x.boot ∷ l) (take-replicate m n 0 (omega (arith, le)) ∙ sym (take-replicate m (suc n) 0 (omega (arith, le))))
more-boots (suc m) (suc n) (suc i) le lt (x ∷ xs) d here =
    ap (λ (l : List ℕ). x.boot ∷ l) (more-boots m (suc n) i (omega (arith, le)) (omega (arith, lt)) xs d (omega (arith, here)))

-- one place more is copied
pub copied : (kept : List SeatCount) (d : SeatCount) (bs : List ℕ) (i : ℕ) → length kept ≤ 64 → i < length kept → bs ≡ boots_of (take i kept)
    → slice_set bs i (get_or kept i d).boot ≡ boots_of (take (i + 1) kept)
copied kept d bs i most here is =
    let next : i + 1 ≡ suc i = omega arith in
    ap (λ (l : List ℕ). slice_set l i (get_or kept i d).boot) is
    ∙ more-boots 64 64 i (omega arith) (omega (arith, most, here)) kept d here
    ∙ ap (λ (n : ℕ). boots_of (take n kept)) (sym next)

-- ---- a port that begins

pub is_of_base : (run : List ℕ) (later : List EntryView) (base : BaseView) (l : LearnedView) → l ≡ learned_more (base_learned run base) later
    → (v : ℕ) (below : List EntryView) → IsBaseOf run v below base → IsLearnedOf (below ++ later) l
is_of_base run later base l same v below is =
    let begun = learns_of_log below later (base_learned run base) (base_of_log run v below base is) in
    subst (λ (x : LearnedView). IsLearnedOf (below ++ later) x) (sym same) begun
