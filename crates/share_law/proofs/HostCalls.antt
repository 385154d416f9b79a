-- Each part that a host comes to is that of some host.
use Rattle.std.proofs.Common.{◌≡◌, ℕ, ℤ, pos, ◌+ℤ◌, ◌+◌, ◌≤◌, inl, inr, List, [], ◌∷◌, refl, sym, subst, arith}
use Rattle.std.specs.Prelude.{slice_get, Option, Some, None, Result, Ok, Err, nat_lt}
use Rattle.std.proofs.lemmas.Bool.{cond_both, ltb-false}
use Rattle.share_wire.specs.Messages.{OfferView}
use Rattle.share_wire.specs.declared.message.Body.{Body}
use Rattle.share_wire.specs.declared.message.Body.TheVariants.{Input, Offer, Ask, Ack, Floor, Piece}
use Rattle.share_law.specs.declared.fault.FloorFault.{FloorFault}
use Rattle.share_law.specs.declared.fault.FloorFault.TheVariants.{FloorBack, FloorAhead}
use Rattle.share_law.specs.declared.fault.HostFault.{HostFault}
use Rattle.share_law.specs.declared.fault.NumberFault.{NumberFault}
use Rattle.share_law.specs.declared.reply.HostReply.{HostReply}
use Rattle.share_law.specs.Calls.{IsPartTake}
use Rattle.share_law.specs.Host.{HostState, SeatCount, new_host, reply_before}
use Rattle.share_law.specs.HostCalls.{HostCall, Clock, Take, DropBelow, IsPartCall, IsHostCall, ArePartCalls, AreHostCalls, IsPartOf, HostsAreParts}
use Rattle.share_law.specs.Parts.{HostPart, new_part, part_of, part_fault, part_clocked, part_offer_numbered, part_offer_answered, part_offer_came, part_take, part_drop_below}
use Rattle.share_law.proofs.Parts.{IsPartClocked-host, IsPartTakeOf-host, part_drop-host}

-- ---- the floor of a part is from 1 to the next input

abbrev IsFloored : HostPart → Type 0
IsFloored p = (1 ≤ p.floor) × (p.floor ≤ p.count + 1)

clocked-low : (p : HostPart) (t : ℤ) (f : Option NumberFault) → IsFloored p → IsFloored (part_clocked p t f).1
clocked-low p t (Some fault) low = low
clocked-low p t None low = (low.0, omega (arith, low.1))

numbered-low : (p : HostPart) (o : OfferView) (f : Option NumberFault) → IsFloored p → IsFloored (part_offer_numbered p o f).1
numbered-low p o (Some fault) low = low
numbered-low p o None low = (low.0, omega (arith, low.1))

answered-low : (p : HostPart) (o : OfferView) (reply : Option HostReply) → IsFloored p → IsFloored (part_offer_answered p o reply).1
answered-low p o (Some reply) low = low
answered-low p o None low = numbered-low p o (part_fault p (p.last +ℤ pos 1)) low

came-low : (p : HostPart) (o : OfferView) (kept : Option SeatCount) → IsFloored p → IsFloored (part_offer_came p o kept).1
came-low p o None low = low
came-low p o (Some k) low = answered-low p o (reply_before k o) low

take-low : (p : HostPart) (body : Body) → IsFloored p → IsFloored (part_take p body).1
take-low p (Input x) low = low
take-low p (Offer o) low = came-low p o (slice_get p.kept o.pointer.who) low
take-low p (Ask a) low = low
take-low p (Ack a) low = low
take-low p (Floor f) low = low
take-low p (Piece f) low = low

drop-low : (p : HostPart) (f : ℕ) → IsFloored p → IsFloored (part_drop_below p f).1
drop-low p f low =
    let R : Type 0 = Result ℕ FloorFault × HostPart in
    let Low : R → Type 0 = λ r. IsFloored r.1 in
    cond_both (nat_lt f p.floor) (Err FloorBack, p) _ Low (λ _. low)
    (λ high. cond_both (nat_lt (p.count + 1) f) (Err FloorAhead, p) _ Low (λ _. low)
    (λ within. (omega (arith, low.0, ltb-false f p.floor high), ltb-false (p.count + 1) f within)))

took-low : (p : HostPart) (body : Body) (result : Result HostReply HostFault) (q : HostPart) → IsFloored p → IsPartTake p body result q → IsFloored q
took-low p body result q low (inl e) = subst (λ (r : Result HostReply HostFault × HostPart). IsFloored r.1) e (take-low p body low)
took-low p body result q low (inr k) = subst IsFloored (sym k.2) low

call-low : (mark : List ℕ) (p : HostPart) (call : HostCall) (q : HostPart) → IsFloored p → IsPartCall mark p call q → IsFloored q
call-low mark p (Clock t result) q low (inl e) = subst (λ (r : Result ℕ NumberFault × HostPart). IsFloored r.1) e (clocked-low p t (part_fault p t) low)
call-low mark p (Clock t result) q low (inr k) = subst IsFloored (sym k.2) low
call-low mark p (Take (Err fault) result) q low k = subst IsFloored (sym k.1) low
call-low mark p (Take (Ok message) result) q low (inl k) = took-low p message.body result q low k.1
call-low mark p (Take (Ok message) result) q low (inr k) = subst IsFloored (sym k.2) low
call-low mark p (DropBelow f result) q low e = subst (λ (r : Result ℕ FloorFault × HostPart). IsFloored r.1) e (drop-low p f low)

-- ---- calls

call-host : (mark : List ℕ) (p : HostPart) (h : HostState) (call : HostCall) (q : HostPart) → part_of h ≡ p → IsFloored p → IsPartCall mark p call q
    → (new : HostState) × (part_of new ≡ q) × IsHostCall mark h call new
call-host mark p h (Clock t result) q stands low k = IsPartClocked-host p h t result q stands low.0 low.1 k
call-host mark p h (Take decoded result) q stands low k = IsPartTakeOf-host mark p h decoded result q stands low.0 low.1 k
call-host mark p h (DropBelow f result) q stands low k = part_drop-host p h f result q stands low.0 k

floored : (h : HostState) (p : HostPart) → IsPartOf h p → IsFloored p
floored h p is = subst IsFloored is.same (is.from_one, is.at_most)

is-part : (h : HostState) (p : HostPart) → part_of h ≡ p → IsFloored p → IsPartOf h p
is-part h p same low = let own : IsFloored (part_of h) = subst IsFloored (sym same) low in record { same = same; from_one = own.0; at_most = own.1 }

goes-on : (mark : List ℕ) (h : HostState) (old new : HostPart) (call : HostCall) → IsPartOf h old → IsPartCall mark old call new → (next : HostState) × IsHostCall mark h call next × IsPartOf next new
goes-on mark h old new call is k =
    let low = floored h old is in
    let g = call-host mark old h call new is.same low k in
    (g.0, g.2, is-part g.0 new g.1 (call-low mark old call new low k))

all-calls : (mark : List ℕ) (h : HostState) (old : HostPart) (calls : List HostCall) (part : HostPart) → IsPartOf h old → ArePartCalls mark old calls part → (end : HostState) × AreHostCalls mark h calls end × IsPartOf end part
all-calls mark h old [] part is same = (h, refl, subst (IsPartOf h) (sym same) is)
all-calls mark h old (call ∷ calls) part is k =
    let one = goes-on mark h old k.0 call is k.1 in
    let rest = all-calls mark one.0 k.0 calls part one.2 k.2 in
    (rest.0, (one.0, one.1, rest.1), rest.2)

new-is : (viewers : ℕ) → IsPartOf (new_host viewers) (new_part viewers)
new-is viewers = record { same = refl; from_one = omega arith; at_most = omega arith }

pub hosts_are_parts : (mark : List ℕ) → HostsAreParts mark
hosts_are_parts mark = record {
  begins = new-is;
  goes_on = goes-on mark;
  keeps = λ old new call some k. let g = goes-on mark some.0 old new call some.1 k in (g.0, g.2);
  all = λ viewers calls part k. all-calls mark (new_host viewers) (new_part viewers) calls part (new-is viewers) k;
}
