-- What the host makes of an offer, return by return.
use Rattle.std.proofs.Common.{◌≡◌, ◌+◌, ◌+ℤ◌, ℕ, zero, suc, ℤ, pos, ◌-◌, Bool, true, false, cond, List, refl, ap, sym, ◌∙◌, subst, inl, inr}
use Rattle.std.specs.Prelude.{slice_get, slice_set, nat_lt, IsOk, Option, Some, None, Result, Ok, Err}
use Rattle.x3d_values.specs.declared.stamped.Cause.TheVariants.{Clock, Pointer}
use Rattle.x3d_values.specs.Pointing.{PointerView}
use Rattle.x3d_values.specs.Stamp.{StampedView}
use Rattle.share_wire.specs.Messages.{OfferView}
use Rattle.share_wire.specs.declared.message.Body.TheVariants.{Offer}
use Rattle.share_rules.specs.declared.kept.SeatCount.{SeatCount}
use Rattle.share_law.specs.declared.fault.NumberFault.{NumberFault}
use Rattle.share_law.specs.declared.fault.NumberFault.TheVariants.{Memory}
use Rattle.share_law.specs.declared.fault.HostFault.{HostFault}
use Rattle.share_law.specs.declared.fault.HostFault.TheVariants.{Number}
use Rattle.share_law.specs.declared.reply.HostReply.{HostReply}
use Rattle.share_law.specs.declared.reply.HostReply.TheVariants.{Numbered}
use Rattle.share_law.specs.Host.{input_packet, reply_before}
use Rattle.share_law.specs.Parts.{HostPart, fault_behind, part_clocked, part_offer_answered, part_offer_came, part_offer_numbered, part_packet}
use Rattle.share_law.specs.Calls.{IsPartClocked, IsPartTake}
use Rattle.share_core.specs.Host.{HostInputsView, entry, part_with}
use Rattle.share_core.specs.Steps.{listed, IsListed}

abbrev ErrN : NumberFault → Result ℕ NumberFault
ErrN fault = Err fault

ok-err : (n : ℕ) (fault : NumberFault) → (let z : Result ℕ NumberFault = Ok n in z) ≡ ErrN fault → ⊥
ok-err n fault e = cc

same_Err : (a b : NumberFault) → ErrN a ≡ ErrN b → a ≡ b
same_Err a b e = cc

came : (h : HostPart) (o : OfferView) (k : SeatCount) (reply : Option HostReply) → slice_get h.kept o.pointer.who ≡ Some k → reply_before k o ≡ reply
    → part_offer_came h o (slice_get h.kept o.pointer.who) ≡ part_offer_answered h o reply
came h o k reply at is =
    ap (part_offer_came h o) at ∙ ap (part_offer_answered h o) is

-- an offer that isn't the next one
pub take-answered : (h : HostPart) (o : OfferView) (k : SeatCount) (reply : HostReply) → slice_get h.kept o.pointer.who ≡ Some k → reply_before k o ≡ Some reply
    → IsPartTake h (Offer o) (Ok reply) h
take-answered h o k reply at is = inl (came h o k (Some reply) at is)

-- ---- with the inputs that a call left

-- what the host makes of them
abbrev pub from_entries : List SeatCount → OfferView → Result ℕ NumberFault × HostInputsView → Result HostReply HostFault × HostPart
from_entries kept o (Ok n, e) = (Ok (Numbered n), part_with e (slice_set kept o.pointer.who (record { boot = o.boot; count = o.number })))
from_entries kept o (Err fault, e) = (Err (Number fault), part_with e kept)

from_entries-numbered : (e : HostInputsView) (kept : List SeatCount) (o : OfferView) (fault : Option NumberFault)
    → part_offer_numbered (part_with e kept) o fault ≡ from_entries kept o (listed e (e.last +ℤ pos 1) (Pointer o.pointer) fault)
from_entries-numbered e kept o None = refl
from_entries-numbered e kept o (Some fault) = refl

-- the next offer
pub take-next : (e : HostInputsView) (kept : List SeatCount) (o : OfferView) (k : SeatCount) (result : Result ℕ NumberFault) (new : HostInputsView) → slice_get kept o.pointer.who ≡ Some k → reply_before k o ≡ None
    → IsListed e (e.last +ℤ pos 1) (Pointer o.pointer) result new
    → IsPartTake (part_with e kept) (Offer o) (from_entries kept o (result, new)).0 (from_entries kept o (result, new)).1
take-next e kept o k result new at is (inl l) =
    inl (came (part_with e kept) o k None at is ∙ from_entries-numbered e kept o (fault_behind e.count e.last (e.last +ℤ pos 1))
    ∙ ap (λ (r : Result ℕ NumberFault × HostInputsView). from_entries kept o r) l)
take-next e kept o k (Ok n) new at is (inr m) = absurd (ok-err n Memory m.1)
take-next e kept o k (Err fault) new at is (inr m) =
    let next = came (part_with e kept) o k None at is ∙ ap (part_offer_numbered (part_with e kept) o) m.0 in
    inr (
      (e.count + 1, ap (λ (r : Result HostReply HostFault × HostPart). r.0) next),
      ap Err (ap Number (same_Err fault Memory m.1)),
      ap (λ (x : HostInputsView). part_with x kept) m.2,
    )

-- the same, of what the calls gave
pub take-numbered : (e : HostInputsView) (kept : List SeatCount) (o : OfferView) (k : SeatCount) (p : PointerView) (who boot count n : ℕ) (new : HostInputsView) (kept_new : List SeatCount)
    → p ≡ o.pointer → who ≡ o.pointer.who → boot ≡ o.boot → count ≡ o.number
    → slice_get kept o.pointer.who ≡ Some k → reply_before k o ≡ None
    → IsListed e (e.last +ℤ pos 1) (Pointer p) (Ok n) new
    → kept_new ≡ slice_set kept who (record { boot = boot; count = count })
    → IsPartTake (part_with e kept) (Offer o) (Ok (Numbered n)) (part_with new kept_new)
take-numbered e kept o k p who boot count n new kept_new same_p same_who same_boot same_count at is listed set =
    let state : kept_new ≡ slice_set kept o.pointer.who (record { boot = o.boot; count = o.number }) = cc in
    let whole : IsListed e (e.last +ℤ pos 1) (Pointer o.pointer) (Ok n) new =
    subst (λ (q : PointerView). IsListed e (e.last +ℤ pos 1) (Pointer q) (Ok n) new) same_p listed in
    subst (λ (ks : List SeatCount). IsPartTake (part_with e kept) (Offer o) (Ok (Numbered n)) (part_with new ks)) (sym state) (take-next e kept o k (Ok n) new at is whole)

-- ---- a clock

clock-listed : (e : HostInputsView) (kept : List SeatCount) (t : ℤ) (fault : Option NumberFault)
    → part_clocked (part_with e kept) t fault ≡ (let r = listed e t Clock fault in (r.0, part_with r.1 kept))
clock-listed e kept t None = refl
clock-listed e kept t (Some fault) = refl

pub clocked : (e : HostInputsView) (kept : List SeatCount) (t : ℤ) (result : Result ℕ NumberFault) (new : HostInputsView) → IsListed e t Clock result new
    → IsPartClocked (part_with e kept) t result (part_with new kept)
clocked e kept t result new (inl l) =
    inl (clock-listed e kept t (fault_behind e.count e.last t)
    ∙ ap (λ (r : Result ℕ NumberFault × HostInputsView). let z : Result ℕ NumberFault × HostPart = (r.0, part_with r.1 kept) in z) l)
clocked e kept t result new (inr m) =
    inr (
      subst (λ (f : Option NumberFault). IsOk (part_clocked (part_with e kept) t f).0) (sym m.0) refl,
      m.1,
      ap (λ (x : HostInputsView). part_with x kept) m.2,
    )

-- ---- a packet

choice : (b : Bool) (o : Option StampedView) → input_packet (cond b None o) ≡ cond b None (input_packet o)
choice true o = refl
choice false o = refl

pub packet-entry : (e : HostInputsView) (kept : List SeatCount) (n : ℕ) → input_packet (entry e n) ≡ part_packet (part_with e kept) n
packet-entry e kept zero = refl
packet-entry e kept (suc n) = choice (nat_lt (suc n) e.floor) (slice_get e.rest (suc n - e.floor))
