-- Each call of a rehearsal is its step of the network, by what `calls` of `steps_law` says.
use Rattle.std.proofs.Common.{◌≡◌, ℕ, ◌^◌, ◌<◌, inl, inr, List, [], ◌∷◌, ◌++◌, length, map, refl, ap, sym, ◌∙◌, subst}
use Rattle.std.specs.Prelude.{slice_get, Option, Some, None, Result, Ok, Err}
use Rattle.std.specs.Option.{option_map}
use Rattle.std.proofs.lemmas.Option.{same_Some, none-some, slice_get-map}
use Rattle.std.proofs.lemmas.List.{map-append, length-map}
use Rattle.x3d_values.specs.declared.pointing.Point.{Point}
use Rattle.scene_core.specs.declared.scene.Route.{Route}
use Rattle.scene_core.specs.Scene.{SceneView}
use Rattle.cascade_core.specs.Course.{Scripted}
use Rattle.share_wire.specs.Datagram.{datagram}
use Rattle.share_wire.specs.Decoding.{decoded}
use Rattle.share_wire.specs.declared.fault.WireFault.{WireFault}
use Rattle.share_wire.specs.declared.message.Body.{Body}
use Rattle.share_wire.specs.declared.message.Message.{Message}
use Rattle.snapshot_core.specs.declared.fault.SaveFault.TheVariants as save_fault
use Rattle.snapshot_core.specs.Shot.{shot}
use Rattle.snapshot_core.specs.declared.head.ShotHead.{ShotHead}
use Rattle.snapshot_core.proofs.ShotHeads.{head_of_shot}
use Rattle.share_rules.specs.declared.kept.SeatCount.{SeatCount}
use Rattle.share_law.specs.declared.step.Step.{Step}
use Rattle.share_law.specs.declared.step.Step.TheVariants.{HostClock, HostPacket, HostAck, HostTake, HostDropBelow, HostFloorPacket, PiecePacket, ViewerOffer, ViewerResend, ViewerAsk, ViewerTake, ViewerSave, ViewerRewind, ViewerGather, ViewerJoin, ViewerForget}
use Rattle.share_law.specs.Calls.{IsPartClocked, IsPartTakeOf}
use Rattle.share_law.specs.CallSteps.{CallsAreSteps, IsPacket, LeavesPart, LeavesSeat, Sends, packet_of}
use Rattle.share_law.specs.Cascade.{cascade}
use Rattle.share_law.specs.Host.{ack_of}
use Rattle.share_law.specs.Parts.{HostPart, part_of, part_drop_below, part_floor_packet, part_packet}
use Rattle.share_law.specs.Pieces.{Gathering, shot_piece}
use Rattle.share_law.specs.Machine.{Machine}
use Rattle.share_law.specs.Network as law
use Rattle.share_law.specs.Network.{Network, Seat, Run, IsStep, step, with_host as net_host, with_seat, with_packet, with_shot, host_acks, host_takes, piece_sent, viewer_step, viewer_takes, viewer_rewinds, viewer_gathers}
use Rattle.share_law.specs.Reached.{Reached}
use Rattle.share_law.specs.Viewer.{ViewerWorld, Spoiled, Running, ViewerState, Shot as LawShot, viewer_offer, viewer_resend, viewer_ask}
use Rattle.share_law.proofs.Calls.{save-step, save-refused-step, save-spoiled-step}
use Rattle.share_law.proofs.CallSteps.{each_call_is_a_step}
use Rattle.share_law.proofs.Elements.{slice_get_push}
use Rattle.share_law.proofs.Machines.{cascade-is}
use Rattle.laws_worlds.proofs.LongTraces.{few-lines}
use Rattle.share_core.specs.Host.{HostView}
use Rattle.share_core.specs.Pieces.{piece_of, piece_with}
use Rattle.share_core.specs.Rewinds.{IsJoined}
use Rattle.share_core.specs.Viewer.{ViewerView, with_gathering, with_state}
use Rattle.share_rehearsal.specs.declared.answer.Answer.{Answer}
use Rattle.share_rehearsal.specs.declared.answer.Answer.TheVariants.{Clocked, HostTook, ViewerTook, Offered, Sent, Saved, Rewound, Dropped, Collected, Joined, Forgot, NoSuch}
use Rattle.share_rehearsal.specs.declared.nodes.Shot.{Shot}
use Rattle.share_rehearsal.specs.Calls.{Seen, with_host, with_viewer, with_packets, with_shots, message, IsUnknown, IsMade, IsAcked, IsHostGiven, IsGiven, IsSaving, IsSaved, IsRewinding, IsCut, IsGathering, IsJoining, IsForgotten, IsOffering, IsCall, AreCalls}
use Rattle.share_rehearsal.specs.Stands.{law_answer, viewer_at, shot_at, StandFor}
use Rattle.share_rehearsal.proofs.Loads.{ShotsLoad}
use Rattle.share_rehearsal.proofs.Places.{set-both}

-- ---- a step, with what stands after it

module _ (mark : List ℕ) (scene : SceneView) (routes : List Route) (loads : ShotsLoad mark scene routes) where
  abbrev pub m : Machine Scripted
  m = cascade mark scene routes

  -- the network was reached, and the real nodes match it; snapshots have boots and bytes of real viewers
  pub record IsAt (net : Network Scripted) (now : Seen) : Type 0 where
    pub reached : Reached m net
    pub stand : StandFor mark scene routes now net
    pub boots : (s : ℕ) (taken : LawShot Scripted) → slice_get net.shots s ≡ Some taken → taken.boot < 2 ^ 32
    pub lines : (s : ℕ) (taken : LawShot Scripted) → slice_get net.shots s ≡ Some taken → length taken.state.world.trace < 2 ^ 64

  pub record Goes (net : Network Scripted) (s : Step) (a : Answer) (new : Seen) : Type 0 where
    pub next : Network Scripted
    pub is : IsStep m net s (law_answer a) next
    pub now : IsAt next new

  calls : (net : Network Scripted) → Reached m net → CallsAreSteps mark m net
  calls = each_call_is_a_step mark m (cascade-is mark scene routes)

  goes : (net next : Network Scripted) (s : Step) (a b : Answer) (old new made : Seen) → IsAt net old → a ≡ b → new ≡ made → IsStep m net s (law_answer b) next → StandFor mark scene routes made next → next.shots ≡ net.shots → Goes net s a new
  goes net next s a b old new made now answers leaves is stand shots = record {
    next = next;
    is = subst (λ (x : Answer). IsStep m net s (law_answer x) next) (sym answers) is;
    now = record {
      reached = (calls net now.reached).goes_on s (law_answer b) next is;
      stand = subst (λ (x : Seen). StandFor mark scene routes x next) (sym leaves) stand;
      boots = subst (λ (all : List (LawShot Scripted)). (n : ℕ) (taken : LawShot Scripted) → slice_get all n ≡ Some taken → taken.boot < 2 ^ 32) (sym shots) now.boots;
      lines = subst (λ (all : List (LawShot Scripted)). (n : ℕ) (taken : LawShot Scripted) → slice_get all n ≡ Some taken → length taken.state.world.trace < 2 ^ 64) (sym shots) now.lines;
    };
  }

  unknown : (net : Network Scripted) (s : Step) (old : Seen) (a : Answer) (new : Seen) → IsAt net old → step m net s ≡ (law.NoSuch, net) → IsUnknown old a new → Goes net s a new
  unknown net s old a new now e call = goes net net s a NoSuch old new old now call.0 call.1 (inl e) now.stand refl

  -- ---- packets that are made

  sent-count : (net : Network Scripted) (old : Seen) → StandFor mark scene routes old net → length old.packets ≡ length net.sent
  sent-count net old stand =
      sym (length-map old.packets decoded) ∙ ap length stand.packets ∙ length-map net.sent (packet_of mark)

  sent-more : (net : Network Scripted) (old : Seen) (bytes : List ℕ) (body : Body) → StandFor mark scene routes old net → decoded bytes ≡ packet_of mark body
      → StandFor mark scene routes (with_packets old (old.packets ++ bytes ∷ [])) (with_packet net body)
  sent-more net old bytes body stand reads = record {
    host = stand.host;
    viewers = stand.viewers;
    packets =
        map-append decoded old.packets (bytes ∷ [])
        ∙ ap (λ (rs : List (Result Message WireFault)). rs ++ decoded bytes ∷ []) stand.packets
        ∙ ap (λ (r : Result Message WireFault). map (packet_of mark) net.sent ++ r ∷ []) reads
        ∙ sym (map-append (packet_of mark) net.sent (body ∷ []));
    shots = stand.shots;
  }

  made : (net : Network Scripted) (s : Step) (old : Seen) (k : List ℕ) (a : Answer) (new : Seen) (body : Option Body) → IsAt net old → k ≡ mark → Sends mark m net s (option_map (packet_of mark) body) → IsMade old k body a new → Goes net s a new
  made net s old k a new None now own is call = goes net net s a (Sent None) old new old now call.0 call.1 is now.stand refl
  made net s old k a new (Some body) now own (sent, same, is) call =
      let bytes = datagram (message k body) in
      let count : Sent (Some (length old.packets)) ≡ Sent (Some (length net.sent)) = ap (λ (n : ℕ). Sent (Some n)) (sent-count net old now.stand) in
      let reads : decoded bytes ≡ packet_of mark sent = call.2 ∙ ap (λ (j : List ℕ). packet_of j body) own ∙ same in
      goes net (with_packet net sent) s a (Sent (Some (length net.sent))) old new (with_packets old (old.packets ++ bytes ∷ [])) now (call.0 ∙ count) call.1 is (sent-more net old bytes sent now.stand reads) refl

  -- the mark of the host
  own-mark : (net : Network Scripted) (old : Seen) → IsAt net old → old.host.mark ≡ mark
  own-mark net old now = ap (λ (h : HostView). h.mark) now.stand.host

  acked : (net : Network Scripted) (v : ℕ) (old : Seen) (a : Answer) (new : Seen) (kept : Option SeatCount) → IsAt net old → slice_get net.host.kept v ≡ kept → IsAcked old v kept a new → Goes net (HostAck v) a new
  acked net v old a new None now at call = unknown net (HostAck v) old a new now (ap (λ (o : Option SeatCount). host_acks net v o) at) call
  acked net v old a new (Some kept) now at call =
      let some : SeatCount → Result Message WireFault = λ k. packet_of mark (ack_of v k) in
      made net (HostAck v) old old.host.mark a new (Some (ack_of v kept)) now (own-mark net old now) ((calls net now.reached).ack v (some kept) (ap (λ (o : Option SeatCount). option_map some o) at)) call

  -- ---- packets that come

  -- what a number stands for: nothing, or the bytes of a packet
  abbrev Came : Network Scripted → ℕ → Option (List ℕ) → Type 0
  Came net p None = slice_get net.sent p ≡ None
  Came net p (Some bytes) = IsPacket mark net p (decoded bytes)

  came-as : (net : Network Scripted) (p : ℕ) (bytes : Option (List ℕ)) (body : Option Body) → option_map decoded bytes ≡ option_map (packet_of mark) body → slice_get net.sent p ≡ body → Came net p bytes
  came-as net p None None e at = at
  came-as net p None (Some body) e at = absurd (none-some (packet_of mark body) e)
  came-as net p (Some bytes) None e at = absurd (none-some (decoded bytes) (sym e))
  came-as net p (Some bytes) (Some body) e at = (body, at, same_Some (decoded bytes) (packet_of mark body) e)

  came : (net : Network Scripted) (old : Seen) (p : ℕ) → IsAt net old → Came net p (slice_get old.packets p)
  came net old p now =
      came-as net p (slice_get old.packets p) (slice_get net.sent p)
      (sym (slice_get-map decoded old.packets p) ∙ ap (λ (rs : List (Result Message WireFault)). slice_get rs p) now.stand.packets ∙ slice_get-map (packet_of mark) net.sent p) refl

  -- ---- the host changes

  host-leads : (net : Network Scripted) (s : Step) (old : Seen) (a b : Answer) (new : Seen) (p : HostPart) → IsAt net old → a ≡ b → new ≡ with_host old p → LeavesPart m net s (law_answer b) p → Goes net s a new
  host-leads net s old a b new p now answers leaves (host, part, is) =
      let view : List ℕ → HostPart → HostView = λ k q. record { mark = k; part = q } in
      let stand : StandFor mark scene routes (with_host old p) (net_host net host) = record {
        host = ap (λ (k : List ℕ). view k p) (own-mark net old now) ∙ ap (view mark) (sym part);
        viewers = now.stand.viewers;
        packets = now.stand.packets;
        shots = now.stand.shots;
      } in
      goes net (net_host net host) s a b old new (with_host old p) now answers leaves is stand refl

  host_given : (net : Network Scripted) (p : ℕ) (old : Seen) (a : Answer) (new : Seen) (bytes : Option (List ℕ)) → IsAt net old → Came net p bytes → IsHostGiven old bytes a new → Goes net (HostTake p) a new
  host_given net p old a new None now packet call = unknown net (HostTake p) old a new now (ap (λ (o : Option Body). host_takes net o) packet) call
  host_given net p old a new (Some bytes) now packet call =
      let take = subst (λ (v : HostView). IsPartTakeOf v.mark v.part (decoded bytes) call.0 call.1) now.stand.host call.4 in
      host-leads net (HostTake p) old a (HostTook call.0) new call.1 now call.2 call.3 ((calls net now.reached).host_take p (decoded bytes) call.0 call.1 packet take)

  -- ---- a viewer changes

  -- the viewer of a seat
  abbrev seated : (v : ℕ) → Option (Seat Scripted) → Option ViewerView
  seated v seat = option_map (viewer_at mark scene routes v) seat

  seat-leads : (net : Network Scripted) (s : Step) (old : Seen) (a b : Answer) (new : Seen) (v : ℕ) (x seat : Seat Scripted) (y : ViewerState Scripted) (held : Option Gathering) → IsAt net old → a ≡ b
      → new ≡ with_viewer old v (with_gathering (with_state (viewer_at mark scene routes v x) y) held) → LeavesSeat m net s (law_answer b) v seat y held → Goes net s a new
  seat-leads net s old a b new v x seat y held now answers leaves (node, gathers, is) =
      let base = viewer_at mark scene routes v x in
      let there = ap (λ (z : ViewerState Scripted). with_viewer old v (with_gathering (with_state base z) held)) (sym node)
      ∙ ap (λ (g : Option Gathering). with_viewer old v (with_gathering (with_state base seat.node) g)) (sym gathers) in
      let stand : StandFor mark scene routes (with_viewer old v (viewer_at mark scene routes v seat)) (with_seat net v seat) = record {
        host = now.stand.host;
        viewers = λ u. set-both (viewer_at mark scene routes) net.viewers old.viewers v seat u now.stand.viewers;
        packets = now.stand.packets;
        shots = now.stand.shots;
      } in
      goes net (with_seat net v seat) s a b old new (with_viewer old v (viewer_at mark scene routes v seat)) now answers (leaves ∙ there) is stand refl

  -- no viewer has this number
  no-viewer : (net : Network Scripted) (s : Step) (v : ℕ) (old : Seen) (a : Answer) (new : Seen) → IsAt net old → step m net s ≡ viewer_step m net s v (slice_get net.viewers v) → slice_get net.viewers v ≡ None → IsUnknown old a new → Goes net s a new
  no-viewer net s v old a new now is at call = unknown net s old a new now (is ∙ ap (λ (o : Option (Seat Scripted)). viewer_step m net s v o) at) call

  given : (net : Network Scripted) (v p : ℕ) (old : Seen) (a : Answer) (new : Seen) (seat : Option (Seat Scripted)) (bytes : Option (List ℕ)) → IsAt net old → slice_get net.viewers v ≡ seat → Came net p bytes → IsGiven old v (seated v seat) bytes a new → Goes net (ViewerTake v p) a new
  given net v p old a new None bytes now at packet call = no-viewer net (ViewerTake v p) v old a new now refl at call
  given net v p old a new (Some x) None now at packet call =
      unknown net (ViewerTake v p) old a new now (ap (λ (o : Option (Seat Scripted)). viewer_step m net (ViewerTake v p) v o) at ∙ ap (λ (o : Option Body). viewer_takes m net v x o) packet) call
  given net v p old a new (Some x) (Some bytes) now at packet call =
      seat-leads net (ViewerTake v p) old a (ViewerTook call.0) new v x _ call.1 x.gathering now call.2 call.3 ((calls net now.reached).take v p x (decoded bytes) call.0 call.1 at packet call.4)

  -- ---- points, and packets of viewers

  offers : (net : Network Scripted) (v : ℕ) (point : Point) (old : Seen) (a : Answer) (new : Seen) (seat : Option (Seat Scripted)) → IsAt net old → slice_get net.viewers v ≡ seat → IsOffering old v (ViewerOffer v point) (seated v seat) a new → Goes net (ViewerOffer v point) a new
  offers net v point old a new None now at call = no-viewer net (ViewerOffer v point) v old a new now refl at call
  offers net v point old a new (Some x) now at call =
      let offered = viewer_offer x.node point in
      seat-leads net (ViewerOffer v point) old a (Offered offered.0) new v x _ offered.1 x.gathering now call.0 call.1 ((calls net now.reached).offer v x point offered.0 offered.1 at refl)

  resends : (net : Network Scripted) (v place : ℕ) (old : Seen) (a : Answer) (new : Seen) (seat : Option (Seat Scripted)) → IsAt net old → slice_get net.viewers v ≡ seat → IsOffering old v (ViewerResend v place) (seated v seat) a new → Goes net (ViewerResend v place) a new
  resends net v place old a new None now at call = no-viewer net (ViewerResend v place) v old a new now refl at call
  resends net v place old a new (Some x) now at call =
      let body = viewer_resend v x.node place in
      made net (ViewerResend v place) old mark a new body now refl ((calls net now.reached).resend v place x (option_map (packet_of mark) body) at refl) call

  asks : (net : Network Scripted) (v : ℕ) (old : Seen) (a : Answer) (new : Seen) (seat : Option (Seat Scripted)) → IsAt net old → slice_get net.viewers v ≡ seat → IsOffering old v (ViewerAsk v) (seated v seat) a new → Goes net (ViewerAsk v) a new
  asks net v old a new None now at call = no-viewer net (ViewerAsk v) v old a new now refl at call
  asks net v old a new (Some x) now at call =
      let body = viewer_ask m v x.node in
      made net (ViewerAsk v) old mark a new (Some body) now refl ((calls net now.reached).ask v x (packet_of mark body) at refl) call

  -- ---- snapshots

  shot-count : (net : Network Scripted) (old : Seen) → StandFor mark scene routes old net → length old.shots ≡ length net.shots
  shot-count net old stand = ap length stand.shots ∙ length-map net.shots (shot_at mark scene)

  -- a step that takes a snapshot
  keeps : (net : Network Scripted) (v : ℕ) (old : Seen) (a : Answer) (new : Seen) (taken : LawShot Scripted) → IsAt net old → taken.boot < 2 ^ 32 → length (shot mark taken.boot scene taken.state) < 2 ^ 64 → a ≡ Saved (Ok (length old.shots)) → new ≡ with_shots old (old.shots ++ shot_at mark scene taken ∷ [])
      → IsStep m net (ViewerSave v) (law.Saved (Ok (length net.shots))) (with_shot net taken) → Goes net (ViewerSave v) a new
  keeps net v old a new taken now few held answers leaves is =
      let count : Saved (Ok (length old.shots)) ≡ Saved (Ok (length net.shots)) = ap (λ (n : ℕ). Saved (Ok n)) (shot-count net old now.stand) in
      let stand : StandFor mark scene routes (with_shots old (old.shots ++ shot_at mark scene taken ∷ [])) (with_shot net taken) = record {
        host = now.stand.host;
        viewers = now.stand.viewers;
        packets = now.stand.packets;
        shots = ap (λ (l : List Shot). l ++ shot_at mark scene taken ∷ []) now.stand.shots ∙ sym (map-append (shot_at mark scene) net.shots (taken ∷ []));
      } in
      record {
        next = with_shot net taken;
        is = subst (λ (x : Answer). IsStep m net (ViewerSave v) (law_answer x) (with_shot net taken)) (sym (answers ∙ count)) is;
        now = record {
          reached = (calls net now.reached).goes_on (ViewerSave v) (law.Saved (Ok (length net.shots))) (with_shot net taken) is;
          stand = subst (λ (x : Seen). StandFor mark scene routes x (with_shot net taken)) (sym leaves) stand;
          boots = λ n other at. elim (slice_get_push net.shots taken n other at) [
            | inl before ↦ now.boots n other before
            | inr last ↦ subst (λ (z : LawShot Scripted). z.boot < 2 ^ 32) last.1 few
          ];
          lines = λ n other at. elim (slice_get_push net.shots taken n other at) [
            | inl before ↦ now.lines n other before
            | inr last ↦ subst (λ (z : LawShot Scripted). length z.state.world.trace < 2 ^ 64) last.1 (few-lines mark taken.boot scene taken.state held)
          ];
        };
      }

  saved-in : (net : Network Scripted) (v : ℕ) (old : Seen) (a : Answer) (new : Seen) (x : Seat Scripted) (view : ViewerWorld Scripted) → IsAt net old → slice_get net.viewers v ≡ Some x → x.node.view ≡ view
      → new ≡ with_shots old new.shots → IsSaving v (viewer_at mark scene routes v x) old.shots view a new.shots → Goes net (ViewerSave v) a new
  saved-in net v old a new x (Spoiled count) now at view leaves call =
      goes net net (ViewerSave v) a (Saved (Err save_fault.Spoiled)) old new old now call.0 (leaves ∙ ap (with_shots old) call.1) (save-spoiled-step m net v x count at view) now.stand refl
  saved-in net v old a new x (Running w window) now at view leaves (inl call) =
      let taken : LawShot Scripted = record { viewer = v; boot = x.node.boot; state = w } in
      keeps net v old a new taken now call.2 call.3 call.0 (leaves ∙ ap (with_shots old) call.1) (save-step m net v x w window at view)
  saved-in net v old a new x (Running w window) now at view leaves (inr call) =
      goes net net (ViewerSave v) a (Saved (Err save_fault.Memory)) old new old now call.0 (leaves ∙ ap (with_shots old) call.1) (save-refused-step m net v x w window at view) now.stand refl

  saves : (net : Network Scripted) (v : ℕ) (old : Seen) (a : Answer) (new : Seen) (seat : Option (Seat Scripted)) → IsAt net old → slice_get net.viewers v ≡ seat → IsSaved old v (seated v seat) a new → Goes net (ViewerSave v) a new
  saves net v old a new None now at call = no-viewer net (ViewerSave v) v old a new now refl at call
  saves net v old a new (Some x) now at call = saved-in net v old a new x x.node.view now at refl call.0 call.1

  rewinds : (net : Network Scripted) (v n boot : ℕ) (old : Seen) (a : Answer) (new : Seen) (seat : Option (Seat Scripted)) (taken : Option (LawShot Scripted)) → IsAt net old → slice_get net.viewers v ≡ seat → slice_get net.shots n ≡ taken
      → IsRewinding old v boot (seated v seat) (option_map (shot_at mark scene) taken) a new → Goes net (ViewerRewind v n boot) a new
  rewinds net v n boot old a new None taken now at shots call = no-viewer net (ViewerRewind v n boot) v old a new now refl at call
  rewinds net v n boot old a new (Some x) None now at shots call =
      unknown net (ViewerRewind v n boot) old a new now (ap (λ (o : Option (Seat Scripted)). viewer_step m net (ViewerRewind v n boot) v o) at ∙ ap (λ (o : Option (LawShot Scripted)). viewer_rewinds m net v x boot o) shots) call
  rewinds net v n boot old a new (Some x) (Some k) now at shots call =
      seat-leads net (ViewerRewind v n boot) old a (Rewound call.0) new v x _ call.1 x.gathering now call.2 call.3
      ((calls net now.reached).rewind v n boot x k (shot mark k.boot scene k.state) call.0 call.1 at (shots, refl) (λ same. call.5 k (now.boots n k shots) (loads net now.reached n k shots (now.lines n k shots)) same))

  -- ---- pieces

  kept-at : (net : Network Scripted) (old : Seen) (n : ℕ) → IsAt net old → slice_get old.shots n ≡ option_map (shot_at mark scene) (slice_get net.shots n)
  kept-at net old n now = ap (λ (l : List Shot). slice_get l n) now.stand.shots ∙ slice_get-map (shot_at mark scene) net.shots n

  cut : (net : Network Scripted) (n i : ℕ) (old : Seen) (a : Answer) (new : Seen) (taken : Option (LawShot Scripted)) → IsAt net old → slice_get net.shots n ≡ taken
      → IsCut old i (option_map (shot_at mark scene) taken) a new → Goes net (PiecePacket n i) a new
  cut net n i old a new None now shots call = unknown net (PiecePacket n i) old a new now (ap (λ (o : Option (LawShot Scripted)). piece_sent m net i o) shots) call
  cut net n i old a new (Some k) now shots call =
      let own = own-mark net old now in
      let bytes = shot mark k.boot scene k.state in
      let head = head_of_shot mark k.boot scene k.state (ap length (sym own) ∙ call.0) (now.boots n k shots) (loads net now.reached n k shots (now.lines n k shots)) in
      let same : piece_of bytes i ≡ shot_piece m k i = ap (λ (h : Option ShotHead). piece_with h bytes i) head in
      made net (PiecePacket n i) old old.host.mark a new (shot_piece m k i) now own ((calls net now.reached).piece_packet n i k bytes (option_map (packet_of mark) (shot_piece m k i)) (shots, refl) refl)
      (subst (λ (b : Option Body). IsMade old old.host.mark b a new) same call.1)

  gathered : (net : Network Scripted) (v p : ℕ) (old : Seen) (a : Answer) (new : Seen) (seat : Option (Seat Scripted)) (bytes : Option (List ℕ)) → IsAt net old → slice_get net.viewers v ≡ seat → Came net p bytes → IsGathering old v (seated v seat) bytes a new → Goes net (ViewerGather v p) a new
  gathered net v p old a new None bytes now at packet call = no-viewer net (ViewerGather v p) v old a new now refl at call
  gathered net v p old a new (Some x) None now at packet call =
      unknown net (ViewerGather v p) old a new now (ap (λ (o : Option (Seat Scripted)). viewer_step m net (ViewerGather v p) v o) at ∙ ap (λ (o : Option Body). viewer_gathers net v x o) packet) call
  gathered net v p old a new (Some x) (Some bytes) now at packet call =
      seat-leads net (ViewerGather v p) old a (Collected call.0) new v x _ x.node call.1 now call.2 call.3 ((calls net now.reached).gather v p x (decoded bytes) call.0 call.1 at packet call.4)

  joins : (net : Network Scripted) (v boot : ℕ) (old : Seen) (a : Answer) (new : Seen) (seat : Option (Seat Scripted)) → IsAt net old → slice_get net.viewers v ≡ seat → IsJoining old v boot (seated v seat) a new → Goes net (ViewerJoin v boot) a new
  joins net v boot old a new None now at call = no-viewer net (ViewerJoin v boot) v old a new now refl at call
  joins net v boot old a new (Some x) now at call =
      seat-leads net (ViewerJoin v boot) old a (Joined call.0) new v x _ call.1 call.2 now call.3 call.4
      ((calls net now.reached).join v boot x call.0 call.1 call.2 at
      (λ none. subst (λ (o : Option Gathering). IsJoined (viewer_at mark scene routes v x) o boot call.0 call.1 call.2) none call.5)
      (λ g whole s from there. call.6 g whole from (now.boots s from there.0) (loads net now.reached s from there.0 (now.lines s from there.0)) there.1))

  forgets : (net : Network Scripted) (v : ℕ) (old : Seen) (a : Answer) (new : Seen) (seat : Option (Seat Scripted)) → IsAt net old → slice_get net.viewers v ≡ seat → IsForgotten old v (seated v seat) a new → Goes net (ViewerForget v) a new
  forgets net v old a new None now at call = no-viewer net (ViewerForget v) v old a new now refl at call
  forgets net v old a new (Some x) now at call = seat-leads net (ViewerForget v) old a Forgot new v x _ x.node None now call.0 call.1 ((calls net now.reached).forget v x None at refl)

  -- ---- any step

  tie : (net : Network Scripted) (old : Seen) (s : Step) (a : Answer) (new : Seen) → IsAt net old → IsCall old s a new → Goes net s a new
  tie net old (HostClock t) a new now call =
      host-leads net (HostClock t) old a (Clocked call.0) new call.1 now call.2 call.3 ((calls net now.reached).clock t call.0 call.1 (subst (λ (v : HostView). IsPartClocked v.part t call.0 call.1) now.stand.host call.4))
  tie net old (HostPacket n) a new now call =
      let body = part_packet (part_of net.host) n in
      made net (HostPacket n) old mark a new body now refl ((calls net now.reached).packet n (option_map (packet_of mark) body) refl) (subst (λ (v : HostView). IsMade old v.mark (part_packet v.part n) a new) now.stand.host call)
  tie net old (HostAck v) a new now call =
      acked net v old a new (slice_get net.host.kept v) now refl (subst (λ (h : HostView). IsAcked old v (slice_get h.part.kept v) a new) now.stand.host call)
  tie net old (HostTake p) a new now call = host_given net p old a new (slice_get old.packets p) now (came net old p now) call
  tie net old (HostDropBelow f) a new now call =
      host-leads net (HostDropBelow f) old a (Dropped call.0) new call.1 now call.2 call.3 ((calls net now.reached).drop_below f call.0 call.1 (subst (λ (v : HostView). part_drop_below v.part f ≡ (call.0, call.1)) now.stand.host call.4))
  tie net old HostFloorPacket a new now call =
      let body = part_floor_packet (part_of net.host) in
      made net HostFloorPacket old mark a new (Some body) now refl ((calls net now.reached).floor_packet (packet_of mark body) refl) (subst (λ (v : HostView). IsMade old v.mark (Some (part_floor_packet v.part)) a new) now.stand.host call)
  tie net old (PiecePacket n i) a new now call =
      cut net n i old a new (slice_get net.shots n) now refl (subst (λ (o : Option Shot). IsCut old i o a new) (kept-at net old n now) call)
  tie net old (ViewerOffer v point) a new now call =
      offers net v point old a new (slice_get net.viewers v) now refl (subst (λ (o : Option ViewerView). IsOffering old v (ViewerOffer v point) o a new) (now.stand.viewers v) call)
  tie net old (ViewerResend v place) a new now call =
      resends net v place old a new (slice_get net.viewers v) now refl (subst (λ (o : Option ViewerView). IsOffering old v (ViewerResend v place) o a new) (now.stand.viewers v) call)
  tie net old (ViewerAsk v) a new now call =
      asks net v old a new (slice_get net.viewers v) now refl (subst (λ (o : Option ViewerView). IsOffering old v (ViewerAsk v) o a new) (now.stand.viewers v) call)
  tie net old (ViewerTake v p) a new now call =
      given net v p old a new (slice_get net.viewers v) (slice_get old.packets p) now refl (came net old p now) (subst (λ (o : Option ViewerView). IsGiven old v o (slice_get old.packets p) a new) (now.stand.viewers v) call)
  tie net old (ViewerSave v) a new now call =
      saves net v old a new (slice_get net.viewers v) now refl (subst (λ (o : Option ViewerView). IsSaved old v o a new) (now.stand.viewers v) call)
  tie net old (ViewerRewind v n boot) a new now call =
      let seats = subst (λ (o : Option ViewerView). IsRewinding old v boot o (slice_get old.shots n) a new) (now.stand.viewers v) call in
      rewinds net v n boot old a new (slice_get net.viewers v) (slice_get net.shots n) now refl refl (subst (λ (o : Option Shot). IsRewinding old v boot (seated v (slice_get net.viewers v)) o a new) (kept-at net old n now) seats)
  tie net old (ViewerGather v p) a new now call =
      gathered net v p old a new (slice_get net.viewers v) (slice_get old.packets p) now refl (came net old p now) (subst (λ (o : Option ViewerView). IsGathering old v o (slice_get old.packets p) a new) (now.stand.viewers v) call)
  tie net old (ViewerJoin v boot) a new now call =
      joins net v boot old a new (slice_get net.viewers v) now refl (subst (λ (o : Option ViewerView). IsJoining old v boot o a new) (now.stand.viewers v) call)
  tie net old (ViewerForget v) a new now call =
      forgets net v old a new (slice_get net.viewers v) now refl (subst (λ (o : Option ViewerView). IsForgotten old v o a new) (now.stand.viewers v) call)

  -- ---- all steps

  pub tied : (net : Network Scripted) (old : Seen) → IsAt net old → (steps : List Step) (answers : List Answer) (new : Seen) → AreCalls old steps answers new → (end : Network Scripted) × Run m net steps (map law_answer answers) end × IsAt end new
  tied net old now [] [] new run = (net, refl, subst (λ (s : Seen). IsAt net s) (sym run) now)
  tied net old now (s ∷ steps) (a ∷ answers) new run =
      let g : Goes net s a run.0 = tie net old s a run.0 now run.1 in
      let rest = tied g.next run.0 g.now steps answers new run.2 in
      (rest.0, (g.next, g.is, rest.1), rest.2)
  tied net old now [] (a ∷ answers) new run = absurd run
  tied net old now (s ∷ steps) [] new run = absurd run
