-- A call at a viewer looks at no host, and a host's call that memory refuses changes nothing.
use Rattle.std.proofs.Common.{◌≡◌, ℕ, true, false, Bool, refl, ap, sym, ◌∙◌}
use Rattle.std.specs.Option.{option_map}
use Rattle.std.specs.Prelude.{slice_get, Option, Some, None, Result, Ok, Err, nat_lt, if◌then◌else◌}
use Rattle.std.proofs.lemmas.Option.{same_Some, none-some}
use Rattle.std.proofs.lemmas.Bool.{true≢false}
use Rattle.share_wire.specs.declared.message.Body.{Body}
use Rattle.share_wire.specs.declared.message.Body.TheVariants.{Piece}
use Rattle.share_law.specs.declared.fault.NumberFault.{NumberFault}
use Rattle.snapshot_core.specs.declared.fault.SnapFault.TheVariants as snap_fault
use Rattle.share_law.specs.declared.fault.TakeFault.TheVariants as take_fault
use Rattle.share_law.specs.declared.fault.JoinFault.TheVariants.{Snap}
use Rattle.share_law.specs.declared.reply.HostReply.TheVariants as host_reply
use Rattle.share_law.specs.declared.step.Step.{Step}
use Rattle.share_law.specs.declared.step.Step.TheVariants.{HostClock, HostPacket, HostAck, HostTake, HostDropBelow, HostFloorPacket, ViewerOffer, ViewerResend, ViewerAsk, ViewerTake, ViewerSave, ViewerRewind, PiecePacket, ViewerGather, ViewerJoin, ViewerForget}
use Rattle.share_law.specs.Machine.{Machine}
use Rattle.share_law.specs.Host.{HostState, host_clock}
use Rattle.share_law.specs.Viewer.{ViewerWorld, Spoiled, Running, Shot, viewer_resend, would_apply, spoiled_at}
use Rattle.share_law.specs.Pieces.{Gathering, shot_piece, shot_with, whole_of}
use Rattle.share_law.specs.Network.{Network, Seat, Answer, HostTook, ViewerTook, Saved, Rewound, Joined, step, viewer_step, refused, refused_clock, refused_numbering, refused_take, refused_save, refused_rewind, refused_begin, refused_gather, refused_load, refused_join, with_seat, with_node, sends, viewer_takes, viewer_saves, viewer_rewinds, viewer_gathers, joins_shot, viewer_joins, piece_sent, with_host}
use Rattle.laws_hosts.specs.Hosts.{Did, is_host_step}
use Rattle.laws_hosts.specs.Steps.{number_told}

-- ---- a call elsewhere looks at no host

abbrev Blind : {W : Type 0} → HostState → Answer × Network W → Answer × Network W → Type 0
Blind host did other = other ≡ (did.0, with_host did.1 host)

sends-blind : {W : Type 0} (net : Network W) (host : HostState) (o : Option Body) → Blind host (sends net o) (sends (with_host net host) o)
sends-blind net host None = refl
sends-blind net host (Some body) = refl

takes-blind : {W : Type 0} (m : Machine W) (net : Network W) (host : HostState) (v : ℕ) (x : Seat W) (o : Option Body) → Blind host (viewer_takes m net v x o) (viewer_takes m (with_host net host) v x o)
takes-blind m net host v x None = refl
takes-blind m net host v x (Some body) = refl

saves-blind : {W : Type 0} (net : Network W) (host : HostState) (v boot : ℕ) (view : ViewerWorld W) → Blind host (viewer_saves net v boot view) (viewer_saves (with_host net host) v boot view)
saves-blind net host v boot (Spoiled count) = refl
saves-blind net host v boot (Running w window) = refl

rewinds-blind : {W : Type 0} (m : Machine W) (net : Network W) (host : HostState) (v boot : ℕ) (x : Seat W) (o : Option (Shot W)) → Blind host (viewer_rewinds m net v x boot o) (viewer_rewinds m (with_host net host) v x boot o)
rewinds-blind m net host v boot x None = refl
rewinds-blind m net host v boot x (Some shot) = refl

gathers-blind : {W : Type 0} (net : Network W) (host : HostState) (v : ℕ) (x : Seat W) (o : Option Body) → Blind host (viewer_gathers net v x o) (viewer_gathers (with_host net host) v x o)
gathers-blind net host v x None = refl
gathers-blind net host v x (Some body) = refl

joins-blind : {W : Type 0} (m : Machine W) (net : Network W) (host : HostState) (v boot : ℕ) (x : Seat W) (o : Option (Shot W)) → Blind host (joins_shot m net v x boot o) (joins_shot m (with_host net host) v x boot o)
joins-blind m net host v boot x None = refl
joins-blind m net host v boot x (Some shot) = refl

whole-blind : {W : Type 0} (m : Machine W) (net : Network W) (host : HostState) (v boot : ℕ) (x : Seat W) (o : Option Gathering) → Blind host (viewer_joins m net v x boot o) (viewer_joins m (with_host net host) v x boot o)
whole-blind m net host v boot x None = refl
whole-blind m net host v boot x (Some g) = joins-blind m net host v boot x (shot_with m net.shots g)

piece-blind : {W : Type 0} (m : Machine W) (net : Network W) (host : HostState) (i : ℕ) (o : Option (Shot W)) → Blind host (piece_sent m net i o) (piece_sent m (with_host net host) i o)
piece-blind m net host i None = refl
piece-blind m net host i (Some shot) = sends-blind net host (shot_piece m shot i)

viewer-blind : {W : Type 0} (m : Machine W) (net : Network W) (host : HostState) (s : Step) (v : ℕ) (o : Option (Seat W)) → Blind host (viewer_step m net s v o) (viewer_step m (with_host net host) s v o)
viewer-blind m net host s v None = refl
viewer-blind m net host (ViewerOffer u point) v (Some x) = refl
viewer-blind m net host (ViewerResend u i) v (Some x) = sends-blind net host (viewer_resend v x.node i)
viewer-blind m net host (ViewerAsk u) v (Some x) = refl
viewer-blind m net host (ViewerTake u p) v (Some x) = takes-blind m net host v x (slice_get net.sent p)
viewer-blind m net host (ViewerSave u) v (Some x) = saves-blind net host v x.node.boot x.node.view
viewer-blind m net host (ViewerRewind u s boot) v (Some x) = rewinds-blind m net host v boot x (slice_get net.shots s)
viewer-blind m net host (ViewerGather u p) v (Some x) = gathers-blind net host v x (slice_get net.sent p)
viewer-blind m net host (ViewerJoin u boot) v (Some x) = whole-blind m net host v boot x (whole_of x.gathering)
viewer-blind m net host (ViewerForget u) v (Some x) = refl
viewer-blind m net host s v (Some x) = refl

pub step-blind : {W : Type 0} (m : Machine W) (net : Network W) (host : HostState) (s : Step) → is_host_step s ≡ false → Blind host (step m net s) (step m (with_host net host) s)
step-blind m net host (PiecePacket s i) is = piece-blind m net host i (slice_get net.shots s)
step-blind m net host (ViewerOffer v point) is = viewer-blind m net host (ViewerOffer v point) v (slice_get net.viewers v)
step-blind m net host (ViewerResend v i) is = viewer-blind m net host (ViewerResend v i) v (slice_get net.viewers v)
step-blind m net host (ViewerAsk v) is = viewer-blind m net host (ViewerAsk v) v (slice_get net.viewers v)
step-blind m net host (ViewerTake v p) is = viewer-blind m net host (ViewerTake v p) v (slice_get net.viewers v)
step-blind m net host (ViewerSave v) is = viewer-blind m net host (ViewerSave v) v (slice_get net.viewers v)
step-blind m net host (ViewerRewind v s boot) is = viewer-blind m net host (ViewerRewind v s boot) v (slice_get net.viewers v)
step-blind m net host (ViewerGather v p) is = viewer-blind m net host (ViewerGather v p) v (slice_get net.viewers v)
step-blind m net host (ViewerJoin v boot) is = viewer-blind m net host (ViewerJoin v boot) v (slice_get net.viewers v)
step-blind m net host (ViewerForget v) is = viewer-blind m net host (ViewerForget v) v (slice_get net.viewers v)
step-blind m net host s is = absurd (true≢false is)

-- ---- where memory is refused, a host's call changes nothing, and tells no number

abbrev Refuses : {W : Type 0} → Network W → Answer → Network W → Type 0
Refuses net answer new = (new ≡ net) × (number_told (Did answer) ≡ None)

clock-refuses : {W : Type 0} (net new : Network W) (r : Result ℕ NumberFault) (answer : Answer) → refused_clock net r ≡ Some (answer, new) → Refuses net answer new
clock-refuses {W} net new (Ok n) answer made = (ap (λ (r : Answer × Network W). r.1) (sym (same_Some _ _ made)), ap (λ (r : Answer × Network W). number_told (Did r.0)) (sym (same_Some _ _ made)))
clock-refuses net new (Err fault) answer made = absurd (none-some _ made)

numbering-refuses : {W : Type 0} (net new : Network W) (a answer : Answer) → refused_numbering net a ≡ Some (answer, new) → Refuses net answer new
numbering-refuses {W} net new (HostTook (Ok (host_reply.Numbered n))) answer made = (ap (λ (r : Answer × Network W). r.1) (sym (same_Some _ _ made)), ap (λ (r : Answer × Network W). number_told (Did r.0)) (sym (same_Some _ _ made)))
numbering-refuses net new a answer made = absurd (none-some _ made)

pub host-refuses : {W : Type 0} (m : Machine W) (net new : Network W) (s : Step) (j : ℕ) (answer : Answer) → is_host_step s ≡ true → refused m net s j ≡ Some (answer, new) → Refuses net answer new
host-refuses m net new (HostClock t) j answer is made = clock-refuses net new (host_clock net.host t).0 answer made
host-refuses m net new (HostTake p) j answer is made = numbering-refuses net new (step m net (HostTake p)).0 answer made
host-refuses m net new (HostPacket n) j answer is made = absurd (none-some _ made)
host-refuses m net new (HostAck v) j answer is made = absurd (none-some _ made)
host-refuses m net new (HostDropBelow f) j answer is made = absurd (none-some _ made)
host-refuses m net new HostFloorPacket j answer is made = absurd (none-some _ made)
host-refuses m net new s j answer is made = absurd (true≢false (sym is))

-- ---- a refusal elsewhere looks at no host

abbrev pub with_this_host : {W : Type 0} → HostState → Answer × Network W → Answer × Network W
with_this_host host r = (r.0, with_host r.1 host)

abbrev BlindRefusal : {W : Type 0} → HostState → Option (Answer × Network W) → Option (Answer × Network W) → Type 0
BlindRefusal host refusal other = other ≡ option_map (with_this_host host) refusal

tested-blind : {W : Type 0} (host : HostState) (b : Bool) (r : Answer × Network W) → BlindRefusal host (if b then Some r else None) (if b then Some (with_this_host host r) else None)
tested-blind host true r = refl
tested-blind host false r = refl

refused_take-blind : {W : Type 0} (m : Machine W) (net : Network W) (host : HostState) (v j : ℕ) (x : Option (Seat W)) (b : Option Body) → BlindRefusal host (refused_take m net v x b j) (refused_take m (with_host net host) v x b j)
refused_take-blind m net host v j (Some x) (Some body) = tested-blind host (nat_lt j (would_apply m x.node.view body)) (ViewerTook (Err take_fault.Memory), with_seat net v (with_node x (spoiled_at m x.node j)))
refused_take-blind m net host v j None b = refl
refused_take-blind m net host v j (Some x) None = refl

refused_rewind-blind : {W : Type 0} (m : Machine W) (net : Network W) (host : HostState) (v boot : ℕ) (x : Option (Seat W)) (o : Option (Shot W)) → BlindRefusal host (refused_rewind m net v boot x o) (refused_rewind m (with_host net host) v boot x o)
refused_rewind-blind m net host v boot (Some x) (Some shot) = tested-blind host (nat_lt x.node.boot boot) (Rewound (Err snap_fault.Memory), with_seat net v (with_node x (spoiled_at m x.node 0)))
refused_rewind-blind m net host v boot None o = refl
refused_rewind-blind m net host v boot (Some x) None = refl

refused_load-blind : {W : Type 0} (m : Machine W) (net : Network W) (host : HostState) (v boot : ℕ) (x : Seat W) (g : Option Gathering) → BlindRefusal host (refused_load m net v boot x g) (refused_load m (with_host net host) v boot x g)
refused_load-blind m net host v boot x None = refl
refused_load-blind m net host v boot x (Some g) = tested-blind host (nat_lt x.node.boot boot) (Joined (Err (Snap snap_fault.Memory)), with_seat net v (with_node x (spoiled_at m x.node 0)))

refused_join-blind : {W : Type 0} (m : Machine W) (net : Network W) (host : HostState) (v boot : ℕ) (x : Option (Seat W)) → BlindRefusal host (refused_join m net v boot x) (refused_join m (with_host net host) v boot x)
refused_join-blind m net host v boot None = refl
refused_join-blind m net host v boot (Some x) = refused_load-blind m net host v boot x (whole_of x.gathering)

refused_save-blind : {W : Type 0} (net : Network W) (host : HostState) (a : Answer) → BlindRefusal host (refused_save net a) (refused_save (with_host net host) a)
refused_save-blind net host (Saved (Ok n)) = refl
refused_save-blind net host a = refl

refused_begin-blind : {W : Type 0} (net : Network W) (host : HostState) (g : Option Gathering) → BlindRefusal host (refused_begin net g) (refused_begin (with_host net host) g)
refused_begin-blind net host None = refl
refused_begin-blind net host (Some g) = refl

refused_gather-blind : {W : Type 0} (net : Network W) (host : HostState) (x : Option (Seat W)) (b : Option Body) → BlindRefusal host (refused_gather net x b) (refused_gather (with_host net host) x b)
refused_gather-blind net host (Some x) (Some (Piece p)) = refused_begin-blind net host x.gathering
refused_gather-blind net host x b = refl

pub refused-blind : {W : Type 0} (m : Machine W) (net : Network W) (host : HostState) (s : Step) (j : ℕ) → is_host_step s ≡ false → BlindRefusal host (refused m net s j) (refused m (with_host net host) s j)
refused-blind m net host (HostClock t) j is = absurd (true≢false is)
refused-blind m net host (HostTake p) j is = absurd (true≢false is)
refused-blind m net host (ViewerTake v p) j is = refused_take-blind m net host v j (slice_get net.viewers v) (slice_get net.sent p)
refused-blind {W} m net host (ViewerSave v) j is =
    ap (λ (r : Answer × Network W). refused_save (with_host net host) r.0) (viewer-blind m net host (ViewerSave v) v (slice_get net.viewers v)) ∙ refused_save-blind net host (step m net (ViewerSave v)).0
refused-blind m net host (ViewerRewind v s boot) j is = refused_rewind-blind m net host v boot (slice_get net.viewers v) (slice_get net.shots s)
refused-blind m net host (ViewerGather v p) j is = refused_gather-blind net host (slice_get net.viewers v) (slice_get net.sent p)
refused-blind m net host (ViewerJoin v boot) j is = refused_join-blind m net host v boot (slice_get net.viewers v)
refused-blind m net host s j is = refl
