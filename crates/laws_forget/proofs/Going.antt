-- Each step of a network is a step of one that is like it.
use Rattle.std.proofs.Common.{◌≡◌, inl, inr, ℕ, zero, suc, ◌+◌, Bool, true, false, if◌then◌else◌, List, [], ◌∷◌, length, refl, ap, sym, ◌∙◌, subst, nat_lt}
use Rattle.std.specs.Prelude.{slice_get, Option, Some, None}
use Rattle.std.proofs.lemmas.Option.{same_Some, none-some}
use Rattle.x3d_values.specs.declared.pointing.Point.{Point}
use Rattle.x3d_values.specs.Stamp.{StampedView}
use Rattle.share_wire.specs.Messages.{PieceView, is_piece}
use Rattle.share_wire.specs.declared.message.Body.{Body}
use Rattle.share_wire.specs.declared.message.Body.TheVariants.{Input, Offer, Ask, Ack, Floor, Piece}
use Rattle.share_law.specs.declared.step.Step.{Step}
use Rattle.share_law.specs.declared.step.Step.TheVariants.{HostClock, HostPacket, HostAck, HostDropBelow, HostFloorPacket, HostTake, ViewerOffer, ViewerResend, ViewerAsk, ViewerTake, ViewerSave, ViewerRewind, PiecePacket, ViewerGather, ViewerJoin, ViewerForget}
use Rattle.share_law.specs.Machine.{Machine}
use Rattle.share_rules.specs.declared.kept.SeatCount.{SeatCount}
use Rattle.share_law.specs.Host.{HostState, host_clock, host_take, host_packet, input_packet, ack_of, floor_packet, drop_below}
use Rattle.share_law.specs.Viewer.{ViewerWorld, Spoiled, Running, ViewerState, Shot, offer_packet, take_in, viewer_ask, viewer_resend, viewer_rewind, viewer_take}
use Rattle.share_law.specs.Pieces.{Gathering, fragment_of, gather, shot_text, shot_with, whole_of}
use Rattle.share_law.specs.Network.{Network, Answer, Seat, with_host, with_seat, with_node, with_gathering, sends, host_acks, host_takes, piece_sent, viewer_takes, viewer_saves, rewound_by, viewer_rewinds, viewer_gathers, joined_by, joins_shot, viewer_joins, viewer_step, step, IsStep, Run}
use Rattle.share_law.proofs.Machines.{IsMachine}
use Rattle.share_law.proofs.Shots.{shot_with-at}
use Rattle.laws_forget.specs.Network.{IsForgetting}
use Rattle.laws_forget.specs.Whole.{IsPlain, IsSeatOf, IsViewOf}
use Rattle.laws_forget.proofs.Seats as seats
use Rattle.laws_forget.proofs.Networks as networks

packet-plain : (h : HostState) (n : ℕ) (body : Body) → host_packet h n ≡ Some body → IsPlain body
packet-plain h zero body e = absurd (none-some body e)
packet-plain h (suc n) body e = by (nat_lt (suc n) h.floor) (slice_get h.list n) e
  where
    by : (b : Bool) (o : Option StampedView) → (if b then None else input_packet o) ≡ Some body → IsPlain body
    by true o f = absurd (none-some body f)
    by false None f = absurd (none-some body f)
    by false (Some x) f = subst IsPlain (same_Some (Input x) body f) tt

offer-plain : (who boot number : ℕ) (o : Option Point) (body : Body) → offer_packet who boot number o ≡ Some body → IsPlain body
offer-plain who boot number None body e = absurd (none-some body e)
offer-plain who boot number (Some point) body e = subst IsPlain (same_Some _ body e) tt

module _ {W : Type 0} (m : Machine W) (forget : ℕ → W → W) (machine : IsMachine m) (f : IsForgetting m forget) where
  abbrev View : ViewerWorld W → ViewerWorld W → Type 0
  View = IsViewOf m forget

  abbrev SeatOf : Seat W → Seat W → Type 0
  SeatOf = IsSeatOf m forget

  abbrev HasShot : Network W → Type 0
  HasShot = networks.HasShot m forget machine f

  abbrev SeatIn : Network W → ℕ → Seat W → Type 0
  SeatIn = networks.SeatIn m forget machine f

  abbrev ShotIn : Network W → Shot W → Type 0
  ShotIn = networks.ShotIn m forget machine f

  abbrev SentIn : Network W → Body → Type 0
  SentIn = networks.SentIn m forget machine f

  abbrev Like : Network W → Network W → Type 0
  Like = networks.Like m forget machine f

  -- ---- steps

  -- the whole network goes along to one that is like the new one
  pub record Goes (new whole : Network W) : Type 0 where
    pub next : Network W
    pub steps : List Step
    pub answers : List Answer
    pub run : Run m whole steps answers next
    pub like : Like new next

  pub stays : (new whole : Network W) → Like new whole → Goes new whole
  stays new whole l = record { next = whole; steps = []; answers = []; run = refl; like = l }

  pub goes-by : (new whole : Network W) (s : Step) (r : Answer × Network W) → IsStep m whole s r.0 r.1 → Like new r.1 → Goes new whole
  goes-by new whole s r h l = record { next = r.1; steps = s ∷ []; answers = r.0 ∷ []; run = (r.1, h, refl); like = l }

  pub goes-step : (new whole : Network W) (s : Step) → Like new (step m whole s).1 → Goes new whole
  goes-step new whole s l = goes-by new whole s (step m whole s) (inl refl) l

  pub goes-viewer : (new whole : Network W) (s : Step) (v : ℕ) (y : Seat W) → slice_get whole.viewers v ≡ Some y → step m whole s ≡ viewer_step m whole s v (slice_get whole.viewers v) →
      Like new (viewer_step m whole s v (Some y)).1 → Goes new whole
  goes-viewer new whole s v y at e l =
      goes-by new whole s (viewer_step m whole s v (Some y)) (inl (e ∙ ap (viewer_step m whole s v) at)) l

  pub like-sends : (net whole : Network W) (o u : Option Body) → o ≡ u → ((body : Body) → u ≡ Some body → IsPlain body) → Like net whole → Like (sends net o).1 (sends whole u).1
  like-sends net whole o u e plain l = subst (λ (z : Option Body). Like (sends net z).1 (sends whole u).1) (sym e) (by u plain)
    where
      by : (z : Option Body) → ((body : Body) → z ≡ Some body → IsPlain body) → Like (sends net z).1 (sends whole z).1
      by None p = l
      by (Some body) p = networks.like-packet m forget machine f net whole body (p body refl) l

  pub acks-goes : (net whole : Network W) (v : ℕ) → Like net whole → Goes (host_acks net v (slice_get net.host.kept v)).1 whole
  acks-goes net whole v l =
      goes-step (host_acks net v (slice_get net.host.kept v)).1 whole (HostAck v)
      (subst (λ (h : HostState). Like (host_acks net v (slice_get h.kept v)).1 (host_acks whole v (slice_get whole.host.kept v)).1) (sym l.host) (by (slice_get whole.host.kept v)))
    where
      by : (o : Option SeatCount) → Like (host_acks net v o).1 (host_acks whole v o).1
      by None = l
      by (Some k) = networks.like-packet m forget machine f net whole (ack_of v k) tt l

  pub host_takes-goes : (net whole : Network W) (p : ℕ) (o : Option Body) → slice_get net.sent p ≡ o → Like net whole → Goes (host_takes net o).1 whole
  host_takes-goes net whole p None at l = stays net whole l
  host_takes-goes net whole p (Some body) at l = by (l.sent p body at)
    where
      by : SentIn whole body → Goes (with_host net (host_take net.host body).1) whole
      by (inl h) =
          goes-step (with_host net (host_take net.host body).1) whole (HostTake h.1.0)
          (subst (λ (o : Option Body). Like (with_host net (host_take net.host body).1) (host_takes whole o).1) (sym h.1.1)
          (networks.like-host m forget machine f net whole (host_take net.host body).1 (host_take whole.host body).1 (ap (λ (k : HostState). (host_take k body).1) l.host) l))
      by (inr h) = subst (λ (b : Body). Goes (with_host net (host_take net.host b).1) whole) (sym h.1) (stays net whole l)

  pub piece-goes : (net whole : Network W) (i : ℕ) (o : Option (Shot W)) → ((shot : Shot W) → o ≡ Some shot → HasShot whole) → Like net whole → Goes (piece_sent m net i o).1 whole
  piece-goes net whole i None has l = stays net whole l
  piece-goes net whole i (Some shot) has l = by (is_piece shot.boot (m.applied shot.state) (length (shot_text m shot)) i)
    where
      by : (b : Bool) → Goes (sends net (if b then Some (Piece (fragment_of shot.boot (m.applied shot.state) (shot_text m shot) i)) else None)).1 whole
      by true = stays _ whole (networks.like-piece m forget machine f net whole (fragment_of shot.boot (m.applied shot.state) (shot_text m shot) i) (has shot refl) l)
      by false = stays net whole l

  pub viewer_takes-goes : (net whole : Network W) (v p : ℕ) (x : Seat W) (o : Option Body) → slice_get net.viewers v ≡ Some x → slice_get net.sent p ≡ o → Like net whole →
      Goes (viewer_takes m net v x o).1 whole
  viewer_takes-goes net whole v p x None at sent l = stays net whole l
  viewer_takes-goes net whole v p x (Some body) at sent l = by (l.sent p body sent)
    where
      i : SeatIn whole v x
      i = l.viewers v x at

      new : Body → Network W
      new b = with_seat net v (with_node x (viewer_take m v x.node b).1)

      none : (q : PieceView) (pv : ViewerWorld W) → (take_in m v x.node (Piece q) pv).1 ≡ x.node
      none q (Spoiled a) = refl
      none q (Running w window) = refl

      by : SentIn whole body → Goes (with_seat net v (with_node x (viewer_take m v x.node body).1)) whole
      by (inl h) =
          let i : SeatIn whole v x = l.viewers v x at in
          goes-viewer (with_seat net v (with_node x (viewer_take m v x.node body).1)) whole (ViewerTake v h.1.0) v i.0 i.1 refl
          (subst (λ (o : Option Body). Like (with_seat net v (with_node x (viewer_take m v x.node body).1)) (viewer_takes m whole v i.0 o).1) (sym h.1.1)
          (networks.like-seat m forget machine f net whole v x _ _ l i (seats.seat-take m forget machine f v body x i.0 i.2)))
      by (inr h) =
          subst (λ (b : Body). Goes (with_seat net v (with_node x (viewer_take m v x.node b).1)) whole) (sym h.1)
          (subst (λ (n : ViewerState W). Goes (with_seat net v (with_node x n)) whole) (sym (none h.0 x.node.view))
          (stays _ whole (networks.like-alone m forget machine f net whole v x l (l.viewers v x at))))

  pub saves-goes : (net whole : Network W) (v : ℕ) (x : Seat W) → slice_get net.viewers v ≡ Some x → Like net whole → Goes (viewer_saves net v x.node.boot x.node.view).1 whole
  saves-goes net whole v x at l =
      let i : SeatIn whole v x = l.viewers v x at in
      let boots : x.node.boot ≡ i.0.node.boot = ap (λ (z : Seat W). z.node.boot) i.2.is in
      subst (λ (boot : ℕ). Goes (viewer_saves net v boot x.node.view).1 whole) (sym boots)
      (goes-viewer _ whole (ViewerSave v) v i.0 i.1 refl (by i.0.node.boot x.node.view i.0.node.view i.2.view))
    where
      by : (boot : ℕ) (pv qv : ViewerWorld W) → View pv qv → Like (viewer_saves net v boot pv).1 (viewer_saves whole v boot qv).1
      by boot (Spoiled a) (Spoiled b) h = l
      by boot (Running w window) (Running z other) h =
          networks.like-shot m forget machine f net whole (record { viewer = v; boot = boot; state = w }) (record { viewer = v; boot = boot; state = z }) (record { is = refl; left = h.0 }) l
      by boot (Spoiled a) (Running z other) h = absurd h
      by boot (Running w window) (Spoiled b) h = absurd h

  pub rewinds-goes : (net whole : Network W) (v s boot : ℕ) (x : Seat W) (o : Option (Shot W)) → slice_get net.viewers v ≡ Some x → slice_get net.shots s ≡ o → Like net whole →
      Goes (viewer_rewinds m net v x boot o).1 whole
  rewinds-goes net whole v s boot x None at shots l = stays net whole l
  rewinds-goes net whole v s boot x (Some shot) at shots l =
      let i : SeatIn whole v x = l.viewers v x at in
      let k : ShotIn whole shot = l.shots s shot shots in
      goes-viewer _ whole (ViewerRewind v k.0 boot) v i.0 i.1 refl
      (subst (λ (o : Option (Shot W)). Like (with_seat net v (rewound_by x (viewer_rewind m x.node shot boot))) (viewer_rewinds m whole v i.0 boot o).1) (sym k.2)
      (networks.like-seat m forget machine f net whole v x _ _ l i (seats.seat-rewind m forget machine f boot x i.0 i.2 shot k.1 k.3)))

  pub joins_shot-goes : (net whole : Network W) (v boot : ℕ) (x : Seat W) (o : Option (Shot W)) → slice_get net.viewers v ≡ Some x → ((shot : Shot W) → o ≡ Some shot → ShotIn whole shot) → Like net whole →
      Goes (joins_shot m net v x boot o).1 whole
  joins_shot-goes net whole v boot x None at there l = stays net whole l
  joins_shot-goes net whole v boot x (Some shot) at there l =
      let i : SeatIn whole v x = l.viewers v x at in
      let k : ShotIn whole shot = there shot refl in
      goes-viewer _ whole (ViewerRewind v k.0 boot) v i.0 i.1 refl
      (subst (λ (o : Option (Shot W)). Like (with_seat net v (joined_by x (viewer_rewind m x.node shot boot))) (viewer_rewinds m whole v i.0 boot o).1) (sym k.2)
      (networks.like-seat m forget machine f net whole v x _ _ l i (seats.seat-join m forget machine f boot x i.0 i.2 shot k.1 k.3)))

  pub joins-goes : (net whole : Network W) (v boot : ℕ) (x : Seat W) (o : Option Gathering) → slice_get net.viewers v ≡ Some x → Like net whole → Goes (viewer_joins m net v x boot o).1 whole
  joins-goes net whole v boot x None at l = stays net whole l
  joins-goes net whole v boot x (Some g) at l =
      joins_shot-goes net whole v boot x (shot_with m net.shots g) at
      (λ shot e. let there = shot_with-at m net.shots g shot e in l.shots there.0 shot there.1) l

  pub gathers-goes : (net whole : Network W) (v p : ℕ) (x : Seat W) (o : Option Body) → slice_get net.viewers v ≡ Some x → slice_get net.sent p ≡ o → Like net whole →
      Goes (viewer_gathers net v x o).1 whole
  gathers-goes net whole v p x None at sent l = stays net whole l
  gathers-goes net whole v p x (Some body) at sent l =
      stays _ whole (networks.like-alone m forget machine f net whole v (with_gathering x (gather x.gathering body).1) l
      (let i : SeatIn whole v x = l.viewers v x at in (i.0, i.1, record { is = ap (λ (z : Seat W). with_gathering z (gather x.gathering body).1) i.2.is; view = i.2.view }, by body (l.sent p body sent))))
    where
      by : (b : Body) → SentIn whole b → (g : Gathering) → (gather x.gathering b).1 ≡ Some g → HasShot whole
      by b (inr h) g e = h.2
      by (Input s) (inl h) g e = (l.viewers v x at).3 g e
      by (Offer s) (inl h) g e = (l.viewers v x at).3 g e
      by (Ask s) (inl h) g e = (l.viewers v x at).3 g e
      by (Ack s) (inl h) g e = (l.viewers v x at).3 g e
      by (Floor s) (inl h) g e = (l.viewers v x at).3 g e
      by (Piece s) (inl h) g e = absurd h.0

  pub ask-same : (v : ℕ) (x y : Seat W) → SeatOf x y → viewer_ask m v x.node ≡ viewer_ask m v y.node
  ask-same v x y h = ap (λ (n : ℕ). Ask (record { who = v; next = n + 1 })) (seats.view-applied m forget machine f x.node.view y.node.view h.view)

  pub resend-same : (v i : ℕ) (x y : Seat W) → SeatOf x y → viewer_resend v x.node i ≡ viewer_resend v y.node i
  resend-same v i x y h = ap (λ (z : Seat W). viewer_resend v z.node i) h.is

  pub viewer-goes : (net whole : Network W) (s : Step) (v : ℕ) (o : Option (Seat W)) → step m whole s ≡ viewer_step m whole s v (slice_get whole.viewers v) → slice_get net.viewers v ≡ o → Like net whole →
      Goes (viewer_step m net s v o).1 whole
  viewer-goes net whole s v None e at l = stays net whole l
  viewer-goes net whole (ViewerOffer u point) v (Some x) e at l =
      let i : SeatIn whole v x = l.viewers v x at in
      goes-viewer _ whole (ViewerOffer u point) v i.0 i.1 e (networks.like-seat m forget machine f net whole v x _ _ l i (seats.seat-offer m forget machine f point x i.0 i.2))
  viewer-goes net whole (ViewerResend u k) v (Some x) e at l =
      let i : SeatIn whole v x = l.viewers v x at in
      goes-viewer _ whole (ViewerResend u k) v i.0 i.1 e
      (like-sends net whole (viewer_resend v x.node k) (viewer_resend v i.0.node k) (resend-same v k x i.0 i.2)
      (λ body f. offer-plain v i.0.node.boot _ (slice_get i.0.node.waiting k) body f) l)
  viewer-goes net whole (ViewerAsk u) v (Some x) e at l =
      let i : SeatIn whole v x = l.viewers v x at in
      goes-viewer _ whole (ViewerAsk u) v i.0 i.1 e
      (like-sends net whole (Some (viewer_ask m v x.node)) (Some (viewer_ask m v i.0.node)) (ap Some (ask-same v x i.0 i.2))
      (λ body f. subst IsPlain (same_Some (viewer_ask m v i.0.node) body f) tt) l)
  viewer-goes net whole (ViewerTake u p) v (Some x) e at l = viewer_takes-goes net whole v p x (slice_get net.sent p) at refl l
  viewer-goes net whole (ViewerSave u) v (Some x) e at l = saves-goes net whole v x at l
  viewer-goes net whole (ViewerRewind u s boot) v (Some x) e at l = rewinds-goes net whole v s boot x (slice_get net.shots s) at refl l
  viewer-goes net whole (ViewerGather u p) v (Some x) e at l = gathers-goes net whole v p x (slice_get net.sent p) at refl l
  viewer-goes net whole (ViewerJoin u boot) v (Some x) e at l = joins-goes net whole v boot x (whole_of x.gathering) at l
  viewer-goes net whole (ViewerForget u) v (Some x) e at l =
      let i : SeatIn whole v x = l.viewers v x at in
      stays _ whole (networks.like-alone m forget machine f net whole v (with_gathering x None) l
      (i.0, i.1, record { is = ap (λ (z : Seat W). with_gathering z None) i.2.is; view = i.2.view }, λ g k. absurd (none-some g k)))
  viewer-goes net whole s v (Some x) e at l = stays net whole l

  pub step-goes : (net whole : Network W) (s : Step) → Like net whole → Goes (step m net s).1 whole
  step-goes net whole (HostClock t) l =
      goes-step _ whole (HostClock t) (networks.like-host m forget machine f net whole (host_clock net.host t).1 (host_clock whole.host t).1 (ap (λ (k : HostState). (host_clock k t).1) l.host) l)
  step-goes net whole (HostPacket n) l =
      goes-step _ whole (HostPacket n)
      (like-sends net whole (host_packet net.host n) (host_packet whole.host n) (ap (λ (k : HostState). host_packet k n) l.host) (packet-plain whole.host n) l)
  step-goes net whole (HostAck v) l = acks-goes net whole v l
  step-goes net whole (HostTake p) l = host_takes-goes net whole p (slice_get net.sent p) refl l
  step-goes net whole (HostDropBelow k) l =
      goes-step _ whole (HostDropBelow k) (networks.like-host m forget machine f net whole (drop_below net.host k).1 (drop_below whole.host k).1 (ap (λ (h : HostState). (drop_below h k).1) l.host) l)
  step-goes net whole HostFloorPacket l =
      goes-step _ whole HostFloorPacket
      (like-sends net whole (Some (floor_packet net.host)) (Some (floor_packet whole.host)) (ap (λ (k : HostState). Some (floor_packet k)) l.host)
      (λ body f. subst IsPlain (same_Some (floor_packet whole.host) body f) tt) l)
  step-goes net whole (PiecePacket s i) l =
      piece-goes net whole i (slice_get net.shots s) (λ shot e. let k : ShotIn whole shot = l.shots s shot e in (k.0, k.1, k.2)) l
  step-goes net whole (ViewerOffer v point) l = viewer-goes net whole (ViewerOffer v point) v (slice_get net.viewers v) refl refl l
  step-goes net whole (ViewerResend v i) l = viewer-goes net whole (ViewerResend v i) v (slice_get net.viewers v) refl refl l
  step-goes net whole (ViewerAsk v) l = viewer-goes net whole (ViewerAsk v) v (slice_get net.viewers v) refl refl l
  step-goes net whole (ViewerTake v p) l = viewer-goes net whole (ViewerTake v p) v (slice_get net.viewers v) refl refl l
  step-goes net whole (ViewerSave v) l = viewer-goes net whole (ViewerSave v) v (slice_get net.viewers v) refl refl l
  step-goes net whole (ViewerRewind v s boot) l = viewer-goes net whole (ViewerRewind v s boot) v (slice_get net.viewers v) refl refl l
  step-goes net whole (ViewerGather v p) l = viewer-goes net whole (ViewerGather v p) v (slice_get net.viewers v) refl refl l
  step-goes net whole (ViewerJoin v boot) l = viewer-goes net whole (ViewerJoin v boot) v (slice_get net.viewers v) refl refl l
  step-goes net whole (ViewerForget v) l = viewer-goes net whole (ViewerForget v) v (slice_get net.viewers v) refl refl l
