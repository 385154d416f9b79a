-- What a host holds stays the part of some host.
use Rattle.std.proofs.Common.{◌≡◌, ℕ, ◌+◌, ◌≤◌, ℤ, pos, ◌+ℤ◌, inl, List, [], refl, sym, ◌∙◌, subst}
use Rattle.std.specs.Prelude.{slice_get, nat_lt, if◌then◌else◌, None, Some, Result, Ok, Err}
use Rattle.std.proofs.lemmas.Bool.{le-ltb, cond-false}
use Rattle.x3d_values.specs.declared.stamped.Cause.TheVariants.{Clock, Pointer}
use Rattle.share_wire.specs.Messages.{OfferView}
use Rattle.share_wire.specs.declared.message.Body.TheVariants.{Offer}
use Rattle.share_wire.specs.declared.message.Message.{Message}
use Rattle.share_law.specs.declared.fault.FloorFault.{FloorFault}
use Rattle.share_law.specs.declared.fault.FloorFault.TheVariants.{FloorAhead, FloorBack}
use Rattle.share_law.specs.declared.fault.HostFault.{HostFault}
use Rattle.share_law.specs.declared.fault.NumberFault.{NumberFault}
use Rattle.share_rules.specs.declared.kept.SeatCount.{SeatCount}
use Rattle.share_law.specs.declared.reply.HostReply.{HostReply}
use Rattle.share_law.specs.Calls.{IsPartTake}
use Rattle.share_law.specs.Host.{new_host, reply_before}
use Rattle.share_law.specs.HostCalls.{IsSomePart, DropBelow, Take}
use Rattle.share_law.specs.HostCalls as call
use Rattle.share_law.specs.Parts.{HostPart, new_part, part_drop_below}
use Rattle.share_law.proofs.HostCalls.{hosts_are_parts}
use Rattle.share_core.specs.Host.{HostInputsView, dropped, part_with}
use Rattle.share_core.specs.Steps.{IsListed}
use Rattle.share_core.proofs.Offers.{clocked, from_entries, take-next}

pub some-new : (viewers : ℕ) (p : HostPart) → p ≡ new_part viewers → IsSomePart p
some-new viewers p is = (new_host viewers, subst (call.IsPartOf (new_host viewers)) (sym is) ((hosts_are_parts []).begins viewers))

pub some-clocked : (e new : HostInputsView) (kept : List SeatCount) (t : ℤ) (result : Result ℕ NumberFault) → IsListed e t Clock result new → IsSomePart (part_with e kept) → IsSomePart (part_with new kept)
some-clocked e new kept t result listed some =
    (hosts_are_parts []).keeps (part_with e kept) (part_with new kept) (call.Clock t result) some (clocked e kept t result new listed)

pub some-taken : (p q : HostPart) (o : OfferView) (result : Result HostReply HostFault) → IsPartTake p (Offer o) result q → IsSomePart p → IsSomePart q
some-taken p q o result take some =
    let message : Message = record { mark = []; body = Offer o } in
    (hosts_are_parts []).keeps p q (Take (Ok message) result) some (inl (refl, take))

-- an offer that is refused a number
pub some-refused : (e new : HostInputsView) (kept : List SeatCount) (o : OfferView) (k : SeatCount) (fault : NumberFault) → slice_get kept o.pointer.who ≡ Some k → reply_before k o ≡ None
    → IsListed e (e.last +ℤ pos 1) (Pointer o.pointer) (Err fault) new → IsSomePart (part_with e kept) → IsSomePart (part_with new kept)
some-refused e new kept o k fault at is listed some =
    some-taken (part_with e kept) (part_with new kept) o (from_entries kept o (Err fault, new)).0 (take-next e kept o k (Err fault) new at is listed) some

pub some-dropped : (e : HostInputsView) (kept : List SeatCount) (f : ℕ) → e.floor ≤ f → f ≤ e.count + 1 → IsSomePart (part_with e kept) → IsSomePart (part_with (dropped e f) kept)
some-dropped e kept f from to some =
    let p = part_with e kept in
    let back : Result ℕ FloorFault × HostPart = (Err FloorBack, p) in
    let ahead : Result ℕ FloorFault × HostPart = (Err FloorAhead, p) in
    let good : Result ℕ FloorFault × HostPart = (Ok f, part_with (dropped e f) kept) in
    let is : part_drop_below p f ≡ good =
    cond-false (nat_lt f e.floor) back (if nat_lt (e.count + 1) f then ahead else good) (le-ltb f e.floor from)
    ∙ cond-false (nat_lt (e.count + 1) f) ahead good (le-ltb (e.count + 1) f to) in
    (hosts_are_parts []).keeps p (part_with (dropped e f) kept) (DropBelow f (Ok f)) some is
