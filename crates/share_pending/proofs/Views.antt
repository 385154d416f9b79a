-- What a call on the fields leaves of the whole.
use Rattle.std.proofs.Common.{◌≡◌, ℕ, ℤ, ◌+◌, ◌-◌, Bool, true, false, List, [], refl, ap, sym, ◌∙◌}
use Rattle.std.specs.Prelude.{Result, if◌then◌else◌, ◌^◌, min}
use Rattle.share_entries.specs.Entry.{EntryView}
use Rattle.share_wire.specs.declared.fault.WireFault.{WireFault}
use Rattle.share_wire.specs.declared.message.Message.{Message}
use Rattle.share_law.specs.declared.fault.HostFault.{HostFault}
use Rattle.share_law.specs.declared.fault.NumberFault.{NumberFault}
use Rattle.share_rules.specs.declared.kept.SeatCount.{SeatCount}
use Rattle.share_law.specs.declared.reply.HostReply.{HostReply}
use Rattle.share_law.specs.Parts.{HostPart}
use Rattle.share_pending.specs.Kept.{kept_with}
use Rattle.share_pending.specs.Waiting.{IsClockAdded, IsClockWaiting, IsTakeAdded, IsTakeWaiting, WaitingView, begins, begun, is_awaited, stored_by, stored_now, with_append}

abbrev pub view_with : (stored : ℕ) → (kept : List SeatCount) → (appending : List EntryView) → (reached token : ℕ) → (pending : List EntryView) → WaitingView
view_with stored kept appending reached token pending =
    record { stored = stored; kept = kept; appending = appending; reached = reached; token = token; pending = pending }

module _ (s : ℕ) (k : List SeatCount) (a : List EntryView) (r n : ℕ) (pend : List EntryView) where
  pub clock-view : (p q : HostPart) (t : ℤ) (res : Result ℕ NumberFault) (after : List EntryView) → IsClockAdded p pend t res q after
      → IsClockWaiting p (view_with s k a r n pend) t res q (view_with s k a r n after)
  clock-view p q t res after step = (after, step, refl)

  pub take-view : (mark : List ℕ) (p q : HostPart) (read : Result Message WireFault) (res : Result HostReply HostFault) (after : List EntryView) → IsTakeAdded mark s p pend read res q after
      → IsTakeWaiting mark p (view_with s k a r n pend) read res q (view_with s k a r n after)
  take-view mark p q read res after step = (after, step, refl)

  pub begun-view : (count : ℕ) (b : Bool) (a' p' : List EntryView) → b ≡ true → b ≡ begins a pend → a' ≡ (if b then pend else a) → p' ≡ (if b then [] else pend)
      → view_with s k a' count (min (n + 1) (2 ^ 32 - 1)) p' ≡ begun (view_with s k a r n pend) count
  begun-view count b a' p' is says app rest =
      let w : WaitingView = view_with s k a r n pend in
      ap (λ (l : List EntryView). view_with s k l count (min (n + 1) (2 ^ 32 - 1)) p') (app ∙ ap (λ (c : Bool). if c then pend else a) is)
      ∙ ap (λ (l : List EntryView). view_with s k pend count (min (n + 1) (2 ^ 32 - 1)) l) (rest ∙ ap (λ (c : Bool). let l : List EntryView = [] in if c then l else pend) is)
      ∙ ap (λ (c : Bool). if c then with_append w count else w) (sym is ∙ says)

  pub same-view : (count : ℕ) (b : Bool) (a' p' : List EntryView) → b ≡ false → b ≡ begins a pend → a' ≡ (if b then pend else a) → p' ≡ (if b then [] else pend)
      → view_with s k a' r n p' ≡ begun (view_with s k a r n pend) count
  same-view count b a' p' is says app rest =
      let w : WaitingView = view_with s k a r n pend in
      ap (λ (l : List EntryView). view_with s k l r n p') (app ∙ ap (λ (c : Bool). if c then pend else a) is)
      ∙ ap (λ (l : List EntryView). view_with s k a r n l) (rest ∙ ap (λ (c : Bool). let l : List EntryView = [] in if c then l else pend) is)
      ∙ ap (λ (c : Bool). if c then with_append w count else w) (sym is ∙ says)

  pub stored-view : (token : ℕ) (k' : List SeatCount) (a' : List EntryView) → is_awaited (view_with s k a r n pend) token ≡ true → k' ≡ kept_with k a → a' ≡ []
      → view_with r k' a' r n pend ≡ stored_by (view_with s k a r n pend) token
  stored-view token k' a' is kept none =
      let w : WaitingView = view_with s k a r n pend in
      ap (λ (l : List SeatCount). view_with r l a' r n pend) kept
      ∙ ap (λ (l : List EntryView). view_with r (kept_with k a) l r n pend) none
      ∙ ap (λ (c : Bool). if c then stored_now w else w) (sym is)

  pub unstored-view : (token : ℕ) → is_awaited (view_with s k a r n pend) token ≡ false → view_with s k a r n pend ≡ stored_by (view_with s k a r n pend) token
  unstored-view token is =
      let w : WaitingView = view_with s k a r n pend in
      ap (λ (c : Bool). if c then stored_now w else w) (sym is)
