-- A viewer that forgets, beside one that never does.
use Rattle.std.proofs.Common.{◌≡◌, ℕ, suc, ◌+◌, ◌-◌, ◌≤◌, Bool, true, false, not, if◌then◌else◌, List, [], ◌∷◌, length, refl, ap, sym, ◌∙◌, subst, arith, nat_le, nat_lt, ◌==◌, max}
use Rattle.std.specs.Prelude.{int_lt, Option, Some, None, Result, Ok, Err}
use Rattle.std.proofs.lemmas.Option.{none-some}
use Rattle.x3d_values.specs.declared.pointing.Point.{Point}
use Rattle.x3d_values.specs.Stamp.{StampedView}
use Rattle.share_rules.specs.Window.{window_places}
use Rattle.share_wire.specs.Messages.{PieceView}
use Rattle.share_wire.specs.declared.message.Body.{Body}
use Rattle.share_wire.specs.declared.message.Body.TheVariants.{Input, Offer, Ask, Ack, Floor, Piece}
use Rattle.snapshot_core.specs.declared.fault.SnapFault.{SnapFault}
use Rattle.snapshot_core.specs.declared.fault.SnapFault.TheVariants.{BootNotNew, NotCanonical}
use Rattle.share_law.specs.declared.fault.OfferFault.{OfferFault}
use Rattle.share_law.specs.Machine.{Machine}
use Rattle.share_law.specs.declared.fault.TakeFault.{TakeFault}
use Rattle.share_law.specs.declared.reply.Taken.{Taken}
use Rattle.share_law.specs.Viewer.{ViewerWorld, Spoiled, Running, ViewerState, Shot, Drained, applied_in, begun, drain, drained_by, input_came, keep, offer_in, offer_made, offer_refusal, refilled, spoiled_at, take_in, viewer_offer, viewer_rewind, viewer_take, with_view, would_apply}
use Rattle.share_law.specs.Pieces.{Gathering}
use Rattle.share_law.specs.Network.{Seat, with_node, offered_by, rewound_by, joined_by}
use Rattle.share_law.proofs.Machines.{IsMachine}
use Rattle.laws_forget.specs.Network.{IsForgetting}
use Rattle.laws_forget.specs.Whole.{IsLeftOf, IsSeatOf, IsShotOf, IsViewOf}

if-two : {A : Type 0} (Q : A → A → Type 0) (b : Bool) (p q r s : A) → Q p r → Q q s → Q (if b then p else q) (if b then r else s)
if-two Q true p q r s one two = one
if-two Q false p q r s one two = two

module _ {W : Type 0} (m : Machine W) (forget : ℕ → W → W) (machine : IsMachine m) (f : IsForgetting m forget) where
  abbrev pub Left : W → W → Type 0
  Left = IsLeftOf m forget

  abbrev pub View : ViewerWorld W → ViewerWorld W → Type 0
  View = IsViewOf m forget

  abbrev pub SeatOf : Seat W → Seat W → Type 0
  SeatOf = IsSeatOf m forget

  abbrev pub ShotOf : Shot W → Shot W → Type 0
  ShotOf = IsShotOf m forget

  -- ---- worlds

  pub left-applied : (w z : W) → Left w z → m.applied w ≡ m.applied z
  left-applied w z h = ap m.applied h.is ∙ f.applied h.below z

  pub left-apply : (w z : W) (x : StampedView) → Left w z → Left (m.apply w x) (m.apply z x)
  left-apply w z x h = record {
    below = h.below;
    low = omega (arith, h.low, machine.applied-apply z x);
    is = ap (λ (k : W). m.apply k x) h.is ∙ f.unseen h.below z x h.low;
  }

  pub left-forget : (w z : W) (below : ℕ) → below ≤ m.applied w + 1 → Left w z → Left (forget below w) z
  left-forget w z below low h = record {
    below = max below h.below;
    low = let e : m.applied w ≡ m.applied z = left-applied w z h in omega (arith, low, e, h.low);
    is = ap (forget below) h.is ∙ f.more below h.below z;
  }

  pub left-self : (w : W) → Left w w
  left-self w = record { below = 0; low = omega arith; is = sym (f.nothing w) }

  -- what is drained
  pub record Alike (d e : Drained W) : Type 0 where
    pub left : Left d.state e.state
    pub rest : d.rest ≡ e.rest
    pub count : d.count ≡ e.count

  pub drain-alike : (ws : List (Option StampedView)) (w z : W) → Left w z → Alike (drain m w ws) (drain m z ws)
  drain-alike [] w z h = record { left = h; rest = refl; count = refl }
  drain-alike (None ∷ ws) w z h = record { left = h; rest = refl; count = refl }
  drain-alike (Some x ∷ ws) w z h = by (drain-alike ws (m.apply w x) (m.apply z x) (left-apply w z x h))
    where
      by : Alike (drain m (m.apply w x) ws) (drain m (m.apply z x) ws) → Alike (drain m w (Some x ∷ ws)) (drain m z (Some x ∷ ws))
      by next =
          let same : m.last w ≡ m.last z = ap m.last h.is ∙ f.last h.below z in
          rw same (if-two Alike (int_lt (m.last z) x.time) _ _ _ _
          (record { left = next.left; rest = next.rest; count = ap suc next.count })
          (record { left = h; rest = refl; count = refl }))

  pub drained-alike : (window : List (Option StampedView)) (w z : W) (s : StampedView) → Left w z → Alike (drained_by m w window s) (drained_by m z window s)
  drained-alike window w z s h =
      subst (λ (n : ℕ). Alike (drain m w (keep window (s.number - n - 1) s)) (drained_by m z window s)) (sym (left-applied w z h))
      (drain-alike (keep window (s.number - m.applied z - 1) s) w z h)

  pub view-applied : (a b : ViewerWorld W) → View a b → applied_in m a ≡ applied_in m b
  view-applied (Spoiled a) (Spoiled b) h = h
  view-applied (Running w window) (Running z other) h = left-applied w z h.0
  view-applied (Spoiled a) (Running z other) h = absurd h
  view-applied (Running w window) (Spoiled b) h = absurd h

  -- ---- nodes

  pub record Node (n k : ViewerState W) : Type 0 where
    pub same : n ≡ with_view k n.view
    pub view : View n.view k.view

  pub node-same : (k : ViewerState W) (view : ViewerWorld W) → View view k.view → Node (with_view k view) k
  node-same k view h = record { same = refl; view = h }

  pub came : (k : ViewerState W) (view : ViewerWorld W) → View view k.view → (w z : W) (window : List (Option StampedView)) (s : StampedView) → Left w z →
      Node (input_came m (with_view k view) w window s).1 (input_came m k z window s).1
  came k view v w z window s h =
      let Q : Result Taken TakeFault × ViewerState W → Result Taken TakeFault × ViewerState W → Type 0 = λ a b. Node a.1 b.1 in
      let d : Alike (drain m w (keep window (s.number - m.applied z - 1) s)) (drained_by m z window s) = drain-alike (keep window (s.number - m.applied z - 1) s) w z h in
      let e : m.applied w ≡ m.applied z = left-applied w z h in
      rw e (if-two Q (nat_le s.number (m.applied z)) _ _ _ _ (node-same k view v)
      (if-two Q (nat_lt (m.applied z + window_places) s.number) _ _ _ _ (node-same k view v)
      (record { same = refl; view = (d.left, ap refilled d.rest) })))

  pub running-node : (who : ℕ) (k : ViewerState W) (view : ViewerWorld W) → View view k.view → (w z : W) (window : List (Option StampedView)) (body : Body) → Left w z →
      Node (take_in m who (with_view k view) body (Running w window)).1 (take_in m who k body (Running z window)).1
  running-node who k view v w z window (Input s) h = came k view v w z window s h
  running-node who k view v w z window (Offer o) h = node-same k view v
  running-node who k view v w z window (Ask a) h = node-same k view v
  running-node who k view v w z window (Ack a) h =
      let Q : Result Taken TakeFault × ViewerState W → Result Taken TakeFault × ViewerState W → Type 0 = λ a b. Node a.1 b.1 in
      if-two Q (a.who == who) _ _ _ _ (record { same = refl; view = v }) (node-same k view v)
  running-node who k view v w z window (Floor n) h = node-same k view v
  running-node who k view v w z window (Piece p) h = node-same k view v

  pub take-node : (who : ℕ) (k : ViewerState W) (view : ViewerWorld W) → View view k.view → (body : Body) (pv qv : ViewerWorld W) → View pv qv →
      Node (take_in m who (with_view k view) body pv).1 (take_in m who k body qv).1
  take-node who k view v body (Spoiled a) (Spoiled b) h = node-same k view v
  take-node who k view v body (Running w window) (Running z other) h =
      subst (λ (ws : List (Option StampedView)). Node (take_in m who (with_view k view) body (Running w window)).1 (take_in m who k body (Running z ws)).1) h.1
      (running-node who k view v w z window body h.0)
  take-node who k view v body (Spoiled a) (Running z other) h = absurd h
  take-node who k view v body (Running w window) (Spoiled b) h = absurd h

  pub would-running : (body : Body) (w z : W) (window : List (Option StampedView)) → Left w z → would_apply m (Running w window) body ≡ would_apply m (Running z window) body
  would-running (Input s) w z window h =
      let d : Alike (drain m w (keep window (s.number - m.applied z - 1) s)) (drained_by m z window s) = drain-alike (keep window (s.number - m.applied z - 1) s) w z h in
      let e : m.applied w ≡ m.applied z = left-applied w z h in
      let Q : ℕ → ℕ → Type 0 = λ a b. a ≡ b in
      rw e (if-two Q (nat_le s.number (m.applied z)) _ _ _ _ refl (if-two Q (nat_lt (m.applied z + window_places) s.number) _ _ _ _ refl d.count))
  would-running (Offer o) w z window h = refl
  would-running (Ask a) w z window h = refl
  would-running (Ack a) w z window h = refl
  would-running (Floor n) w z window h = refl
  would-running (Piece p) w z window h = refl

  pub would-same : (body : Body) (pv qv : ViewerWorld W) → View pv qv → would_apply m pv body ≡ would_apply m qv body
  would-same body (Spoiled a) (Spoiled b) h = refl
  would-same body (Running w window) (Running z other) h =
      subst (λ (ws : List (Option StampedView)). would_apply m (Running w window) body ≡ would_apply m (Running z ws) body) h.1 (would-running body w z window h.0)
  would-same body (Spoiled a) (Running z other) h = absurd h
  would-same body (Running w window) (Spoiled b) h = absurd h

  pub would-piece : (view : ViewerWorld W) (p : PieceView) → would_apply m view (Piece p) ≡ 0
  would-piece (Spoiled a) p = refl
  would-piece (Running w window) p = refl

  -- ---- seats

  -- a seat after a call, beside that of the whole world, has gathered no more than before
  abbrev pub Keeps : Seat W → Seat W → Seat W → Type 0
  Keeps x new whole = SeatOf new whole × ((g : Gathering) → new.gathering ≡ Some g → x.gathering ≡ Some g)

  pub from-put : (P : Seat W → Type 0) (x y : Seat W) → SeatOf x y → P (record y { node = with_view y.node x.node.view; gathering = x.gathering }) → P x
  from-put P x y h p = subst P (sym h.is) p

  pub seat-node : (y : Seat W) (view : ViewerWorld W) (g : Option Gathering) (n k : ViewerState W) → Node n k →
      (let x : Seat W = record y { node = with_view y.node view; gathering = g } in Keeps x (with_node x n) (with_node y k))
  seat-node y view g n k h =
      let x : Seat W = record y { node = with_view y.node view; gathering = g } in
      (record { is = ap (λ (z : ViewerState W). with_node x z) h.same; view = h.view }, λ o e. e)

  pub seat-self : (y : Seat W) (view : ViewerWorld W) (g : Option Gathering) → View view y.node.view →
      (let x : Seat W = record y { node = with_view y.node view; gathering = g } in Keeps x x y)
  seat-self y view g v = (record { is = refl; view = v }, λ o e. e)

  pub seat-take : (who : ℕ) (body : Body) (x y : Seat W) → SeatOf x y → Keeps x (with_node x (viewer_take m who x.node body).1) (with_node y (viewer_take m who y.node body).1)
  seat-take who body x y h =
      from-put (λ (z : Seat W). Keeps z (with_node z (viewer_take m who z.node body).1) (with_node y (viewer_take m who y.node body).1)) x y h
      (seat-node y x.node.view x.gathering (viewer_take m who (with_view y.node x.node.view) body).1 (viewer_take m who y.node body).1
      (take-node who y.node x.node.view h.view body x.node.view y.node.view h.view))

  pub seat-spoiled : (j : ℕ) (x y : Seat W) → SeatOf x y → Keeps x (with_node x (spoiled_at m x.node j)) (with_node y (spoiled_at m y.node j))
  seat-spoiled j x y h =
      from-put (λ (z : Seat W). Keeps z (with_node z (spoiled_at m z.node j)) (with_node y (spoiled_at m y.node j))) x y h
      (seat-node y x.node.view x.gathering (spoiled_at m (with_view y.node x.node.view) j) (spoiled_at m y.node j)
      (record { same = refl; view = ap (λ (n : ℕ). n + j) (view-applied x.node.view y.node.view h.view) }))

  pub offer-by : (y : Seat W) (view : ViewerWorld W) (g : Option Gathering) → View view y.node.view → (point : Point) (o : Option OfferFault) →
      (let x : Seat W = record y { node = with_view y.node view; gathering = g } in Keeps x (offered_by x point (offer_made x.node point o)) (offered_by y point (offer_made y.node point o)))
  offer-by y view g v point (Some fault) = seat-self y view g v
  offer-by y view g v point None = (record { is = refl; view = v }, λ o e. e)

  pub offer-in : (y : Seat W) (view : ViewerWorld W) (g : Option Gathering) → View view y.node.view → (point : Point) (pv qv : ViewerWorld W) → View pv qv →
      (let x : Seat W = record y { node = with_view y.node view; gathering = g } in Keeps x (offered_by x point (offer_in x.node point pv)) (offered_by y point (offer_in y.node point qv)))
  offer-in y view g v point (Spoiled a) (Spoiled b) h = seat-self y view g v
  offer-in y view g v point (Running w window) (Running z other) h = offer-by y view g v point (offer_refusal y.node.made (length y.node.waiting) point)
  offer-in y view g v point (Spoiled a) (Running z other) h = absurd h
  offer-in y view g v point (Running w window) (Spoiled b) h = absurd h

  pub seat-offer : (point : Point) (x y : Seat W) → SeatOf x y → Keeps x (offered_by x point (viewer_offer x.node point)) (offered_by y point (viewer_offer y.node point))
  seat-offer point x y h =
      from-put (λ (z : Seat W). Keeps z (offered_by z point (viewer_offer z.node point)) (offered_by y point (viewer_offer y.node point))) x y h
      (offer-in y x.node.view x.gathering h.view point x.node.view y.node.view h.view)

  abbrev pub Rewinding : Type 0
  Rewinding = Result ℕ SnapFault × ViewerState W

  pub three : (Q : Rewinding → Rewinding → Type 0) (a b c : Bool) (old bad new old_whole bad_whole new_whole : Rewinding) → Q old old_whole → Q bad bad_whole → Q new new_whole →
      Q (if a then old else if b then bad else if c then old else new) (if a then old_whole else if b then bad_whole else if c then old_whole else new_whole)
  three Q true b c old bad new old_whole bad_whole new_whole one two last = one
  three Q false true c old bad new old_whole bad_whole new_whole one two last = two
  three Q false false true old bad new old_whole bad_whole new_whole one two last = one
  three Q false false false old bad new old_whole bad_whole new_whole one two last = last

  -- a viewer begins anew, by a step or by another
  pub rewind-put : (y : Seat W) (view : ViewerWorld W) (g : Option Gathering) → View view y.node.view → (other : Shot W) (w : W) → Left w other.state → (boot : ℕ) →
      (let x : Seat W = record y { node = with_view y.node view; gathering = g } in
      let shot : Shot W = record other { state = w } in
      Keeps x (rewound_by x (viewer_rewind m x.node shot boot)) (rewound_by y (viewer_rewind m y.node other boot)))
  rewind-put y view g v other w h boot =
      let x : Seat W = record y { node = with_view y.node view; gathering = g } in
      let Q : Rewinding → Rewinding → Type 0 = λ a b. Keeps x (rewound_by x a) (rewound_by y b) in
      let old : Rewinding = (Err BootNotNew, with_view y.node view) in
      let bad : Rewinding = (Err NotCanonical, with_view y.node view) in
      let new : Rewinding = (Ok (m.applied w), begun boot w) in
      let old_whole : Rewinding = (Err BootNotNew, y.node) in
      let bad_whole : Rewinding = (Err NotCanonical, y.node) in
      let new_whole : Rewinding = (Ok (m.applied other.state), begun boot other.state) in
      let stay : Keeps x x y = seat-self y view g v in
      let fresh : Q new new_whole = (record { is = refl; view = (h, refl) }, λ o k. k) in
      let e : m.fits w ≡ m.fits other.state = ap m.fits h.is ∙ f.fits h.below other.state in
      subst (λ (t : Bool). Q (if nat_le boot y.node.boot then old else if not t then bad else if nat_le boot other.boot then old else new) (viewer_rewind m y.node other boot)) (sym e)
      (three Q (nat_le boot y.node.boot) (not (m.fits other.state)) (nat_le boot other.boot) old bad new old_whole bad_whole new_whole stay stay fresh)

  pub join-put : (y : Seat W) (view : ViewerWorld W) (g : Option Gathering) → View view y.node.view → (other : Shot W) (w : W) → Left w other.state → (boot : ℕ) →
      (let x : Seat W = record y { node = with_view y.node view; gathering = g } in
      let shot : Shot W = record other { state = w } in
      Keeps x (joined_by x (viewer_rewind m x.node shot boot)) (rewound_by y (viewer_rewind m y.node other boot)))
  join-put y view g v other w h boot =
      let x : Seat W = record y { node = with_view y.node view; gathering = g } in
      let Q : Rewinding → Rewinding → Type 0 = λ a b. Keeps x (joined_by x a) (rewound_by y b) in
      let old : Rewinding = (Err BootNotNew, with_view y.node view) in
      let bad : Rewinding = (Err NotCanonical, with_view y.node view) in
      let new : Rewinding = (Ok (m.applied w), begun boot w) in
      let old_whole : Rewinding = (Err BootNotNew, y.node) in
      let bad_whole : Rewinding = (Err NotCanonical, y.node) in
      let new_whole : Rewinding = (Ok (m.applied other.state), begun boot other.state) in
      let stay : Keeps x x y = seat-self y view g v in
      let fresh : Q new new_whole = (record { is = refl; view = (h, refl) }, λ o k. absurd (none-some o k)) in
      let e : m.fits w ≡ m.fits other.state = ap m.fits h.is ∙ f.fits h.below other.state in
      subst (λ (t : Bool). Q (if nat_le boot y.node.boot then old else if not t then bad else if nat_le boot other.boot then old else new) (viewer_rewind m y.node other boot)) (sym e)
      (three Q (nat_le boot y.node.boot) (not (m.fits other.state)) (nat_le boot other.boot) old bad new old_whole bad_whole new_whole stay stay fresh)

  pub seat-rewind : (boot : ℕ) (x y : Seat W) → SeatOf x y → (shot other : Shot W) → ShotOf shot other → Keeps x (rewound_by x (viewer_rewind m x.node shot boot)) (rewound_by y (viewer_rewind m y.node other boot))
  seat-rewind boot x y h shot other s =
      from-put (λ (z : Seat W). Keeps z (rewound_by z (viewer_rewind m z.node shot boot)) (rewound_by y (viewer_rewind m y.node other boot))) x y h
      (let z : Seat W = record y { node = with_view y.node x.node.view; gathering = x.gathering } in
      subst (λ (k : Shot W). Keeps z (rewound_by z (viewer_rewind m z.node k boot)) (rewound_by y (viewer_rewind m y.node other boot))) (sym s.is)
      (rewind-put y x.node.view x.gathering h.view other shot.state s.left boot))

  pub seat-join : (boot : ℕ) (x y : Seat W) → SeatOf x y → (shot other : Shot W) → ShotOf shot other → Keeps x (joined_by x (viewer_rewind m x.node shot boot)) (rewound_by y (viewer_rewind m y.node other boot))
  seat-join boot x y h shot other s =
      from-put (λ (z : Seat W). Keeps z (joined_by z (viewer_rewind m z.node shot boot)) (rewound_by y (viewer_rewind m y.node other boot))) x y h
      (let z : Seat W = record y { node = with_view y.node x.node.view; gathering = x.gathering } in
      subst (λ (k : Shot W). Keeps z (joined_by z (viewer_rewind m z.node k boot)) (rewound_by y (viewer_rewind m y.node other boot))) (sym s.is)
      (join-put y x.node.view x.gathering h.view other shot.state s.left boot))

  pub forget-view : (below : ℕ) (w : W) (window : List (Option StampedView)) (qv : ViewerWorld W) → below ≤ m.applied w + 1 → View (Running w window) qv → View (Running (forget below w) window) qv
  forget-view below w window (Spoiled b) low h = absurd h
  forget-view below w window (Running z other) low h = (left-forget w z below low h.0, h.1)

  pub seat-forget : (below : ℕ) (x y : Seat W) → SeatOf x y → (w : W) (window : List (Option StampedView)) → x.node.view ≡ Running w window → below ≤ m.applied w + 1 →
      Keeps x (with_node x (with_view x.node (Running (forget below w) window))) y
  seat-forget below x y h w window e low =
      let new : ViewerWorld W = Running (forget below w) window in
      let v : View (Running w window) y.node.view = subst (λ (a : ViewerWorld W). View a y.node.view) e h.view in
      (record { is = ap (λ (z : Seat W). with_node z (with_view z.node new)) h.is; view = forget-view below w window y.node.view low v }, λ o k. k)
