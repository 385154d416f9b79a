-- Every call on a host that was resumed keeps it ahead of its log.
use Rattle.std.proofs.Common.{◌≡◌, ℕ, ℤ, Bool, true, false, List, refl, ap, sym, subst}
use Rattle.std.specs.Prelude.{Option, Some, None, Result}
use Rattle.share_entries.specs.Entry.{EntryView}
use Rattle.share_law.specs.Parts.{HostPart}
use Rattle.share_law.specs.declared.fault.FloorFault.{FloorFault}
use Rattle.share_law.specs.declared.fault.HostFault.{HostFault}
use Rattle.share_law.specs.declared.fault.NumberFault.{NumberFault}
use Rattle.share_law.specs.declared.reply.HostReply.{HostReply}
use Rattle.share_pending.specs.Showing.{stored_drop}
use Rattle.share_pending.specs.Waiting.{WaitingView, is_awaited, stored_by}
use Rattle.share_pending.specs.Written.{IsAhead, log_after}
use Rattle.share_pending.specs.declared.answer.AppendAnswer.{AppendAnswer}
use Rattle.share_pending.specs.declared.answer.AppendAnswer.TheVariants.{InDoubt, Stored, Taken}
use Rattle.share_pending.proofs.Ahead.{begun-stays, clock-stays, drop-stays, keep-stays, stored-grows, take-stays}
use Rattle.share_pending.proofs.Shows.{ack-shows, floor-shows, packet-shows}
use Rattle.share_wire.specs.Decoding.{decoded}
use Rattle.share_wire.specs.declared.fault.WireFault.{WireFault}
use Rattle.share_wire.specs.declared.message.Message.{Message}
use Rattle.embed_world.specs.Hosts.{TakesUnless, floor_bytes, is_anothers}
use Rattle.embed_world.specs.Lasting.{AnswersWith, BeginsWith, GrowsBy, IsAheadBy, IsAnsweredIf, IsClockedBy, IsHostAhead, IsTakenBy, KeepsLog, ShowsBy, ack_by, drop_by, keeping_by, log_by, packet_by}
use Rattle.embed_world.specs.WriteAhead as law
use Rattle.embed_world.specs.declared.host.EmbeddedHost.{EmbeddedHost}
use Rattle.embed_world.specs.declared.lasting.Append.{Append}
use Rattle.embed_world.specs.declared.lasting.AppendFault.{AppendFault}

-- the host that a call leaves is the one that it had
same-host : (old new : EmbeddedHost) → new ≡ old → KeepsLog old new
same-host old new same = λ v log is. subst (λ (h : EmbeddedHost). IsHostAhead v log h) (sym same) is

-- ---- numbering

clocked : (v : ℕ) (log : List EntryView) (before after : Option WaitingView) (p q : HostPart) (t : ℤ) (r : Result ℕ NumberFault)
    → IsClockedBy before p t r q after → IsAheadBy before v log p → IsAheadBy after v log q
clocked v log None after p q t r k is = absurd is
clocked v log (Some w) after p q t r k is = subst (λ (o : Option WaitingView). IsAheadBy o v log q) (sym k.2) (clock-stays p q w k.0 t r k.1 v log is)

pub clocks-keep : law.ClocksKeep
clocks-keep old new t r c = λ v log is. clocked v log old.lasting new.lasting old.host.part new.host.part t r c.0 is

taken : (v : ℕ) (log : List EntryView) (mark : List ℕ) (before after : Option WaitingView) (p q : HostPart) (read : Result Message WireFault) (r : Result HostReply HostFault)
    → IsTakenBy mark before p read r q after → IsAheadBy before v log p → IsAheadBy after v log q
taken v log mark None after p q read r k is = absurd is
taken v log mark (Some w) after p q read r k is = subst (λ (o : Option WaitingView). IsAheadBy o v log q) (sym k.2) (take-stays mark p q w k.0 read r k.1 v log is)

pub takes-keep : law.TakesKeep
takes-keep old new bytes r c =
    λ v log is. taken v log old.host.mark old.lasting new.lasting old.host.part new.host.part (decoded bytes) r c.0 is

takes-unless : (b : Bool) (old new : EmbeddedHost) (bytes : List ℕ) (r : Result HostReply HostFault) → TakesUnless b old bytes r new → KeepsLog old new
takes-unless true old new bytes r c = same-host old new c.1
takes-unless false old new bytes r c = takes-keep old new bytes r c

pub takes-from-keep : law.TakesFromKeep
takes-from-keep old new who bytes r c = takes-unless (is_anothers old.host.mark who (decoded bytes)) old new bytes r c

-- ---- dropping

dropped : (v : ℕ) (log : List EntryView) (l : Option WaitingView) (p : HostPart) (floor : ℕ) → IsAheadBy l v log p → IsAheadBy l v log (drop_by l p floor).1
dropped v log None p floor is = absurd is
dropped v log (Some w) p floor is = drop-stays p (stored_drop w.stored p floor).1 w floor (stored_drop w.stored p floor).0 refl v log is

pub drops-keep : law.DropsKeep
drops-keep old new floor r c =
    λ v log is. subst (λ (h : EmbeddedHost). IsHostAhead v log h) (ap (λ (x : Result ℕ FloorFault × EmbeddedHost). x.1) c) (dropped v log old.lasting old.host.part floor is)

kept : (v : ℕ) (log : List EntryView) (l : Option WaitingView) (count : ℕ) (heard : List ℕ) (p : HostPart) → IsAheadBy l v log p → IsAheadBy l v log (keeping_by l count heard p)
kept v log None count heard p is = absurd is
kept v log (Some w) count heard p is = keep-stays p w count heard v log is

pub keeping-keeps : law.KeepingKeeps
keeping-keeps h count = λ v log is. kept v log h.lasting count h.heard h.host.part is

-- ---- appending

begins-by : (v : ℕ) (log : List EntryView) (l : Option WaitingView) (old new : EmbeddedHost) (r : Result Append AppendFault) → BeginsWith l old r new
    → IsAheadBy l v log old.host.part → IsHostAhead v log new
begins-by v log None old new r c is = absurd is
begins-by v log (Some w) old new r c is =
    subst (λ (h : EmbeddedHost). IsHostAhead v log h) (sym c.0) (begun-stays old.host.part w old.host.part.count refl v log is)

pub begins-keep : law.BeginsKeep
begins-keep old new r c = λ v log is. begins-by v log old.lasting old new r c is

-- an answer that isn't awaited makes no log longer
not-awaited : (answer : AppendAnswer) (log : List EntryView) (w : WaitingView) → log_by answer false log w ≡ log
not-awaited Stored log w = refl
not-awaited Taken log w = refl
not-awaited InDoubt log w = refl

answered-if : (v : ℕ) (log : List EntryView) (b : Bool) (w x : WaitingView) (token : ℕ) (answer : AppendAnswer) (r : Result Bool AppendFault) (p : HostPart)
    → is_awaited w token ≡ b → IsAnsweredIf b w token answer r x → IsAhead v log p w → IsAhead v (log_by answer b log w) p x
answered-if v log false w x token answer r p e k is =
    subst (λ (l : List EntryView). IsAhead v l p x) (sym (not-awaited answer log w)) (subst (λ (y : WaitingView). IsAhead v log p y) (sym k.1) is)
answered-if v log true w x token Stored r p e k is =
    subst (λ (y : WaitingView). IsAhead v (log_after true log w) p y) (sym k.1)
    (subst (λ (b : Bool). IsAhead v (log_after b log w) p (stored_by w token)) e (stored-grows p w token v log is))
answered-if v log true w x token Taken r p e k is = subst (λ (y : WaitingView). IsAhead v log p y) (sym k.1) is
answered-if v log true w x token InDoubt r p e k is = subst (λ (y : WaitingView). IsAhead v log p y) (sym k.1) is

answers-by : (l : Option WaitingView) (old new : EmbeddedHost) (token : ℕ) (answer : AppendAnswer) (r : Result Bool AppendFault)
    → AnswersWith l token answer old r new → GrowsBy l answer token old new
answers-by None old new token answer r k = tt
answers-by (Some w) old new token answer r k = λ v log is.
    subst (λ (h : EmbeddedHost). IsHostAhead v (log_by answer (is_awaited w token) log w) h) (sym k.2)
    (answered-if v log (is_awaited w token) w k.0 token answer r old.host.part refl k.1 is)

pub answers-grow : law.AnswersGrow
answers-grow old new token answer r c = answers-by old.lasting old new token answer r c

-- ---- showing

shown-input : (l : Option WaitingView) (mark : List ℕ) (p : HostPart) (n : ℕ) → ShowsBy l mark p (packet_by mark l p n)
shown-input None mark p n = tt
shown-input (Some w) mark p n = packet-shows mark p w n

pub inputs-are-stored : law.InputsAreStored
inputs-are-stored h n = shown-input h.lasting h.host.mark h.host.part n

shown-ack : (l : Option WaitingView) (mark : List ℕ) (p : HostPart) (who : ℕ) → ShowsBy l mark p (ack_by mark l p who)
shown-ack None mark p who = tt
shown-ack (Some w) mark p who = ack-shows mark p w who

pub acks-are-stored : law.AcksAreStored
acks-are-stored h who = shown-ack h.lasting h.host.mark h.host.part who

pub floors-are-stored : law.FloorsAreStored
floors-are-stored h = by h.lasting where
  by : (l : Option WaitingView) → ShowsBy l h.host.mark h.host.part (Some (floor_bytes h))
  by None = tt
  by (Some w) = floor-shows h.host.mark h.host.part w
