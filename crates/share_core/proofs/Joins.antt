-- A viewer that begins again in what it gathered, and one that is told a floor or what an ack covers.
use Rattle.std.proofs.Common.{◌≡◌, ℕ, ◌+◌, false, cond, List, length, refl, ap, sym, ◌∙◌, subst, inl, inr}
use Rattle.std.specs.Prelude.{◌==◌, nat_lt, is_ok, Option, None, Some, Result, Ok, Err, if◌then◌else◌}
use Rattle.std.proofs.lemmas.Bool.{cases_Bool, cond-true, cond-false, eq-eqb, false≢true}
use Rattle.std.proofs.lemmas.Option.{same_Some, none-some}
use Rattle.x3d_values.specs.Stamp.{StampedView}
use Rattle.scene_core.specs.declared.scene.Route.{Route}
use Rattle.scene_core.specs.Scene.{SceneView}
use Rattle.cascade_core.specs.Course.{Scripted}
use Rattle.cascade_core.specs.Held.{Held, applied_of}
use Rattle.cascade_core.specs.Held as held
use Rattle.share_wire.specs.Messages.{AckView}
use Rattle.share_wire.specs.declared.message.Body.TheVariants.{Ack, Floor}
use Rattle.snapshot_core.specs.declared.fault.SnapFault.{SnapFault}
use Rattle.share_law.specs.declared.fault.JoinFault.{JoinFault}
use Rattle.share_law.specs.declared.fault.JoinFault.TheVariants.{NotWhole}
use Rattle.share_law.specs.declared.fault.TakeFault.{TakeFault}
use Rattle.share_law.specs.declared.reply.Taken.{Taken}
use Rattle.share_law.specs.declared.reply.Taken.TheVariants.{Behind, Noted}
use Rattle.share_law.specs.Calls.{IsTake, left_by}
use Rattle.share_law.specs.Cascade.{cascade}
use Rattle.share_law.specs.Machine.{Machine}
use Rattle.share_law.specs.Network.{join_result}
use Rattle.share_law.specs.Pieces.{Gathering, all_there, joined, whole_of}
use Rattle.share_law.specs.Viewer.{ViewerWorld, Running, Spoiled, ViewerState, acked, applied_in, take_in}
use Rattle.share_core.specs.Rewinds.{IsBegunFrom, IsJoined, IsLawfulJoin, IsRewound}
use Rattle.share_core.specs.Viewer.{ViewerView, is_spoiled, view_of, with_gathering}
use Rattle.share_core.proofs.Rewinds.{rewind-step}

-- ---- the bytes

abbrev none : Option (List ℕ)
none = None

-- all that was gathered is there
record Whole (g : Gathering) (bytes : List ℕ) : Type 0 where
  is : whole_of (Some g) ≡ Some g
  bytes_are : bytes ≡ joined g.places

whole_some : (g : Gathering) (bytes : List ℕ) → Some bytes ≡ cond (all_there g.places) (Some (joined g.places)) none → Whole g bytes
whole_some g bytes e = elim (cases_Bool (all_there g.places)) [
  | inl all ↦ record {
    is = cond-true (all_there g.places) (Some g) None all;
    bytes_are = same_Some bytes (joined g.places) (e ∙ cond-true (all_there g.places) (Some (joined g.places)) none all);
  }
  | inr some ↦ absurd (none-some bytes (sym (e ∙ cond-false (all_there g.places) (Some (joined g.places)) none some)))
]

whole_none : (g : Gathering) → none ≡ cond (all_there g.places) (Some (joined g.places)) none → whole_of (Some g) ≡ None
whole_none g e = elim (cases_Bool (all_there g.places)) [
  | inl all ↦ absurd (none-some (joined g.places) (e ∙ cond-true (all_there g.places) (Some (joined g.places)) none all))
  | inr some ↦ cond-false (all_there g.places) (Some g) None some
]

pub begun_from : (v : ViewerView) (g : Gathering) (boot : ℕ) (bytes : List ℕ) (rewound : Result ℕ SnapFault) (result : Result ℕ JoinFault) (new : ViewerState Scripted)
    → Some bytes ≡ cond (all_there g.places) (Some (joined g.places)) none → IsRewound v boot bytes rewound new → result ≡ join_result rewound
    → IsBegunFrom v (whole_of (Some g)) boot result new
begun_from v g boot bytes rewound result new there begun is =
    let w = whole_some g bytes there in
    subst (λ (o : Option Gathering). IsBegunFrom v o boot result new) (sym w.is)
    (rewound, subst (λ (b : List ℕ). IsRewound v boot b rewound new) w.bytes_are begun, is)

pub begun_not : (v : ViewerView) (g : Gathering) (boot : ℕ) (new : ViewerState Scripted) → none ≡ cond (all_there g.places) (Some (joined g.places)) none → new ≡ v.state
    → IsBegunFrom v (whole_of (Some g)) boot (Err NotWhole) new
begun_not v g boot new gone same =
    subst (λ (o : Option Gathering). IsBegunFrom v o boot (Err NotWhole) new) (sym (whole_none g gone)) (refl, same)

-- ---- what stays

-- what is gathered where a join answers so
abbrev pub kept_by : Result ℕ JoinFault → Gathering → Option Gathering
kept_by result g = if is_ok result then None else Some g

left : (g : Gathering) (rewound : Result ℕ SnapFault) → kept_by (join_result rewound) g ≡ left_by (Some g) rewound
left g (Ok n) = refl
left g (Err fault) = refl

joined_by_whole : (v : ViewerView) (g : Gathering) (o : Option Gathering) (boot : ℕ) (result : Result ℕ JoinFault) (new : ViewerState Scripted) → v.gathering ≡ Some g
    → IsBegunFrom (with_gathering v None) o boot result new → IsJoined v o boot result new (kept_by result g)
joined_by_whole v g None boot result new held begun = (begun.0, begun.1, ap (λ (r : Result ℕ JoinFault). kept_by r g) begun.0 ∙ sym held)
joined_by_whole v g (Some h) boot result new held begun = (
  begun.0,
  begun.1,
  begun.2,
  ap (λ (r : Result ℕ JoinFault). kept_by r g) begun.2 ∙ left g begun.0 ∙ ap (λ (o : Option Gathering). left_by o begun.0) (sym held),
)

pub joined_by : (v : ViewerView) (g : Gathering) (boot : ℕ) (result : Result ℕ JoinFault) (new : ViewerState Scripted) (kept : Option Gathering) → v.gathering ≡ Some g
    → IsBegunFrom (with_gathering v None) (whole_of (Some g)) boot result new → kept ≡ kept_by result g → IsJoined v (whole_of v.gathering) boot result new kept
joined_by v g boot result new kept held begun stays =
    subst (λ (k : Option Gathering). IsJoined v (whole_of v.gathering) boot result new k) (sym stays)
    (subst (λ (o : Option Gathering). IsJoined v o boot result new (kept_by result g)) (ap whole_of (sym held))
    (joined_by_whole v g (whole_of (Some g)) boot result new held begun))

-- nothing was gathered
pub joined_none : (v : ViewerView) (boot : ℕ) (new : ViewerState Scripted) (kept : Option Gathering) → v.gathering ≡ None → new ≡ v.state → kept ≡ None
    → IsJoined v (whole_of v.gathering) boot (Err NotWhole) new kept
joined_none v boot new kept held same stays =
    subst (λ (o : Option Gathering). IsJoined v o boot (Err NotWhole) new kept) (ap whole_of (sym held)) (refl, same, stays ∙ sym held)

-- ---- as the law's step

pub join_lawful : (v : ViewerView) (boot : ℕ) (result : Result ℕ JoinFault) (new : ViewerState Scripted) (held : Option Gathering) → length v.mark ≡ 32
    → IsJoined v (whole_of v.gathering) boot result new held → IsLawfulJoin v boot result new held
join_lawful v boot result new held long j g whole from small has is =
    let k = subst (λ (o : Option Gathering). IsJoined v o boot result new held) whole j in
    (k.0, rewind-step v boot (joined g.places) k.0 new long k.1 from small has is, k.2, k.3)

-- ---- a floor

pub applied_same : (mark : List ℕ) (scene : SceneView) (routes : List Route) (h : Held) (window : List (Option StampedView)) → applied_of h ≡ applied_in (cascade mark scene routes) (view_of h window)
applied_same mark scene routes (held.Running w) window = refl
applied_same mark scene routes (held.Spoiled n) window = refl

floor_in : (m : Machine Scripted) (who f : ℕ) (x : ViewerState Scripted) (view : ViewerWorld Scripted) → is_spoiled view ≡ false
    → (let r : Result Taken TakeFault × ViewerState Scripted = (Ok (if nat_lt (applied_in m view + 1) f then Behind else Noted), x) in take_in m who x (Floor f) view ≡ r)
floor_in m who f x (Running w window) runs = refl
floor_in m who f x (Spoiled count) runs = absurd (false≢true (sym runs))

pub floor_taken : (m : Machine Scripted) (who f applied : ℕ) (x : ViewerState Scripted) (result : Taken) → is_spoiled x.view ≡ false → applied ≡ applied_in m x.view
    → result ≡ (if nat_lt (applied + 1) f then Behind else Noted) → IsTake m who x (Floor f) (Ok result) x
floor_taken m who f applied x result runs count is =
    let same : (if nat_lt (applied_in m x.view + 1) f then Behind else Noted) ≡ result =
    ap (λ (n : ℕ). if nat_lt (n + 1) f then Behind else Noted) (sym count) ∙ sym is in
    inl (floor_in m who f x x.view runs ∙ ap (λ (t : Taken). let r : Result Taken TakeFault × ViewerState Scripted = (Ok t, x) in r) same)

-- ---- an ack

ack_in : (m : Machine Scripted) (who : ℕ) (x : ViewerState Scripted) (a : AckView) (view : ViewerWorld Scripted) → is_spoiled view ≡ false → a.who ≡ who
    → (let r : Result Taken TakeFault × ViewerState Scripted = (Ok Noted, acked x a.boot a.count) in take_in m who x (Ack a) view ≡ r)
ack_in m who x a (Running w window) runs mine = cond-true (a.who == who) _ _ (eq-eqb a.who who mine)
ack_in m who x a (Spoiled count) runs mine = absurd (false≢true (sym runs))

pub ack_taken : (m : Machine Scripted) (who : ℕ) (x y : ViewerState Scripted) (a : AckView) → is_spoiled x.view ≡ false → a.who ≡ who → y ≡ acked x a.boot a.count
    → IsTake m who x (Ack a) (Ok Noted) y
ack_taken m who x y a runs mine is =
    inl (ack_in m who x a x.view runs mine ∙ ap (λ (z : ViewerState Scripted). let r : Result Taken TakeFault × ViewerState Scripted = (Ok Noted, z) in r) (sym is))
