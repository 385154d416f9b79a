-- What a host shows is of the entries that are stored.
use Rattle.std.proofs.Common.{◌≡◌, ℕ, suc, zero, ◌+◌, ◌≤◌, ◌<◌, Bool, true, false, List, [], ◌∷◌, ◌++◌, length, refl, ap, sym, ◌∙◌, subst, arith, append_assoc}
use Rattle.std.specs.Prelude.{Option, Some, None, nat_lt, if◌then◌else◌, slice_get}
use Rattle.std.specs.Option.{option_map}
use Rattle.std.proofs.lemmas.Bool.Decides.{nat_tests}
use Rattle.std.proofs.lemmas.Option.{none-some, same_Some}
use Rattle.x3d_values.specs.Stamp.{StampedView}
use Rattle.share_wire.specs.declared.message.Body.{Body}
use Rattle.share_wire.specs.declared.message.Body.TheVariants.{Floor, Input}
use Rattle.share_entries.specs.Entry.{EntryView}
use Rattle.share_rules.specs.declared.kept.SeatCount.{SeatCount}
use Rattle.share_law.specs.Host.{ack_of, host_packet, input_packet}
use Rattle.share_law.specs.Parts.{HostPart, part_packet}
use Rattle.share_law.proofs.Parts.{part_packet-host}
use Rattle.laws_hosts.specs.Log.{host_of, inputs_of}
use Rattle.share_logged.specs.Logged.{logged, logged_from}
use Rattle.share_logged.specs.Shown.{IsOfEntries}
use Rattle.share_turns.specs.HostTurn.{datagram_of}
use Rattle.share_pending.specs.Showing.{ack_bytes, packet_bytes, shown_packet}
use Rattle.share_pending.specs.Waiting.{WaitingView}
use Rattle.share_pending.specs.Written.{IsAhead, ShowsStored}

-- the inputs of the first entries
front-get : (n : ℕ) (a b : List EntryView) (i : ℕ) → i < length a → slice_get (inputs_of (logged_from n (a ++ b))) i ≡ slice_get (inputs_of (logged_from n a)) i
front-get n [] b i lt = absurd (omega (arith, lt))
front-get n (e ∷ a) b zero lt = refl
front-get n (e ∷ a) b (suc i) lt = front-get (n + 1) a b i (omega (arith, lt))

input-of : (v : ℕ) (log : List EntryView) (n : ℕ) (x : Option StampedView) (body : Body) → slice_get (inputs_of (logged log)) n ≡ x → input_packet x ≡ Some body → IsOfEntries v log body
input-of v log n None body e is = absurd (none-some body is)
input-of v log n (Some x) body e is = subst (IsOfEntries v log) (same_Some (Input x) body is) (n, e)

host-of : (v f : ℕ) (log more : List EntryView) (n : ℕ) (body : Body) → n ≤ length log → host_packet (host_of v (logged (log ++ more)) f) n ≡ Some body → IsOfEntries v log body
host-of v f log more zero body low is = absurd (none-some body is)
host-of v f log more (suc n) body low is = by (nat_lt (suc n) f) is where
  front : slice_get (inputs_of (logged (log ++ more))) n ≡ slice_get (inputs_of (logged log)) n
  front = front-get 1 log more n (omega (arith, low))

  by : (b : Bool) → (if b then None else input_packet (slice_get (inputs_of (logged (log ++ more))) n)) ≡ Some body → IsOfEntries v log body
  by true e = absurd (none-some body e)
  by false e = input-of v log n (slice_get (inputs_of (logged log)) n) body refl (ap input_packet (sym front) ∙ e)

packet-of : (v : ℕ) (log : List EntryView) (p : HostPart) (w : WaitingView) (n : ℕ) (body : Body) → IsAhead v log p w → shown_packet w.stored p n ≡ Some body → IsOfEntries v log body
packet-of v log p w n body is e = by (nat_lt w.stored n) refl e where
  by : (b : Bool) → nat_lt w.stored n ≡ b → (if b then None else part_packet p n) ≡ Some body → IsOfEntries v log body
  by true t e = absurd (none-some body e)
  by false t e =
      let all : List EntryView = (log ++ w.appending) ++ w.pending in
      let same : part_packet p n ≡ host_packet (host_of v (logged all) p.floor) n = part_packet-host p (host_of v (logged all) p.floor) n (sym is.made.same) is.made.from_one in
      let low : n ≤ w.stored = grind (arith, nat_tests) in
      let within : n ≤ length log = omega (arith, low, is.stored) in
      let joined : all ≡ log ++ (w.appending ++ w.pending) = append_assoc log w.appending w.pending in
      host-of v p.floor log (w.appending ++ w.pending) n body within
      (ap (λ (l : List EntryView). host_packet (host_of v (logged l) p.floor) n) (sym joined) ∙ sym same ∙ e)

pub packet-shows : (mark : List ℕ) (p : HostPart) (w : WaitingView) (n : ℕ) → ShowsStored mark p w (packet_bytes mark w.stored p n)
packet-shows mark p w n = by (shown_packet w.stored p n) refl where
  by : (o : Option Body) → shown_packet w.stored p n ≡ o → ShowsStored mark p w (option_map (datagram_of mark) o)
  by None e = tt
  by (Some body) e = λ v log is. record { body = body; text = refl; of_entries = packet-of v log p w n body is e }

pub ack-shows : (mark : List ℕ) (p : HostPart) (w : WaitingView) (who : ℕ) → ShowsStored mark p w (ack_bytes mark w.kept who)
ack-shows mark p w who = by (slice_get w.kept who) refl where
  by : (o : Option SeatCount) → slice_get w.kept who ≡ o → ShowsStored mark p w (option_map (λ (k : SeatCount). datagram_of mark (ack_of who k)) o)
  by None e = tt
  by (Some k) e = λ v log is. record { body = ack_of who k; text = refl; of_entries = (k, ap (λ (l : List SeatCount). slice_get l who) (sym is.kept) ∙ e, refl) }

pub floor-shows : (mark : List ℕ) (p : HostPart) (w : WaitingView) → ShowsStored mark p w (Some (datagram_of mark (Floor p.floor)))
floor-shows mark p w = λ v log is. record { body = Floor p.floor; text = refl; of_entries = is.floor }
