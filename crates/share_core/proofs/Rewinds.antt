-- A viewer that begins again in the world of a snapshot.
use Rattle.std.proofs.Common.{◌≡◌, ℕ, ◌^◌, ◌<◌, ◌≤◌, ◌⊎◌, inl, inr, true, cond, List, length, refl, ap, sym, ◌∙◌, subst}
use Rattle.std.specs.Prelude.{◌&&◌, nat_le, not, Result, Ok, Err}
use Rattle.std.proofs.lemmas.Bool.{and_parts, and_from, cond-true, cond-false, cases_lt, leb-true, le-leb, lt-leb}
use Rattle.byte_codec.specs.Exact.{IsBytes}
use Rattle.scene_core.specs.Scene.{SceneView}
use Rattle.cascade_core.specs.Course.{Scripted}
use Rattle.cascade_core.specs.Held.{StageView, Running, holding, applied_of}
use Rattle.snapshot_codec.specs.Trace.{is_moment}
use Rattle.snapshot_core.specs.declared.fault.SnapFault.{SnapFault}
use Rattle.snapshot_core.specs.declared.fault.SnapFault.TheVariants.{BootNotNew, NotCanonical}
use Rattle.snapshot_core.specs.declared.loading.Saved.{Saved}
use Rattle.snapshot_core.specs.Loading.{HasSnapshot, loaded, load_outcome, newest}
use Rattle.snapshot_core.specs.Shot.{shot}
use Rattle.snapshot_core.specs.WorldCodec.{parts_codec, parts_in, world_codec}
use Rattle.snapshot_core.proofs.ShotLaws.{found, loads, refuses}
use Rattle.share_law.specs.Calls.{IsRewind}
use Rattle.share_law.specs.Cascade.{world_fits}
use Rattle.share_law.specs.Viewer.{Shot, ViewerState, begun}
use Rattle.share_core.specs.Rewinds.{IsRewound, rewound_to}
use Rattle.share_core.specs.Viewer.{ViewerView, machine_of}
use Rattle.x3d_values.specs.Ranges.{max_inputs}

-- a world that has a snapshot has had 2^20 inputs at most, and fits for the law
fits-both : (scene : SceneView) (w : Scripted) → (world_codec newest scene).fits w ≡ true → (w.world.applied ≤ max_inputs) × (world_fits w ≡ true)
unfolding world_codec
fits-both scene w fits =
    let parts = and_parts (nat_le w.world.applied max_inputs) (is_moment w.world.last_time && (parts_codec newest scene).fits (parts_in w)) fits in
    let rest = and_parts (is_moment w.world.last_time) ((parts_codec newest scene).fits (parts_in w)) parts.1 in
    (leb-true w.world.applied max_inputs parts.0, and_from (nat_le w.world.applied max_inputs) (is_moment w.world.last_time) parts.0 rest.0)

-- ---- what was loaded

abbrev Outcome : Type 0
Outcome = Result Saved SnapFault × StageView

outcome-most : (old new : StageView) (l : Result (ℕ × Scripted) SnapFault) (saved : Saved) → ((x : ℕ × Scripted) → l ≡ Ok x → x.1.world.applied ≤ max_inputs)
    → (let left : Outcome = (Ok saved, new) in load_outcome old l ≡ left) → applied_of new.held ≤ max_inputs
outcome-most old new (Ok x) saved most e =
    let held : holding old (Running x.1) ≡ new = ap (λ (o : Outcome). o.1) e in
    subst (λ (v : StageView). applied_of v.held ≤ max_inputs) held (most x refl)
outcome-most old new (Err fault) saved most e = absurd (let no : (let r : Result Saved SnapFault = Err fault in r) ≡ Ok saved = ap (λ (o : Outcome). o.0) e in cc)

pub load-most : (old new : StageView) (mark : List ℕ) (boot : ℕ) (bytes : List ℕ) (saved : Saved) (Memory : Type 0) → IsBytes bytes
    → (let left : Outcome = (Ok saved, new) in (load_outcome old (loaded mark old.scene boot bytes) ≡ left) ⊎ Memory) → (Memory → ⊥) → applied_of new.held ≤ max_inputs
load-most old new mark boot bytes saved Memory is (inl e) never =
    outcome-most old new (loaded mark old.scene boot bytes) saved (λ x l. (fits-both old.scene x.1 (found mark old.scene boot bytes x is l).1.fits).0) e
load-most old new mark boot bytes saved Memory is (inr m) never = absurd (never m)

-- ---- as the law's step

abbrev Rewound : Type 0
Rewound = Result ℕ SnapFault × ViewerState Scripted

-- by a boot above the viewer's own
abbrev as_boot : ViewerView → Shot Scripted → (boot : ℕ) → Rewound
as_boot v x boot = cond (nat_le boot x.boot) (Err BootNotNew, v.state) (Ok x.state.world.applied, begun boot x.state)

by_boots : (v : ViewerView) (x : Shot Scripted) (boot : ℕ) (bytes : List ℕ) → length v.mark ≡ 32 → x.boot < 2 ^ 32 → HasSnapshot v.scene x.state
    → bytes ≡ shot v.mark x.boot v.scene x.state → as_boot v x boot ≡ rewound_to v.state boot (loaded v.mark v.scene boot bytes)
by_boots v x boot bytes long small has is =
    let at = ap (λ b. rewound_to v.state boot (loaded v.mark v.scene boot b)) is in
    let old : Rewound = (Err BootNotNew, v.state) in
    let new : Rewound = (Ok x.state.world.applied, begun boot x.state) in
    elim (cases_lt x.boot boot) [
      | inl above ↦
          cond-false (nat_le boot x.boot) old new (lt-leb boot x.boot above)
          ∙ sym (at ∙ ap (rewound_to v.state boot) (loads v.mark v.scene x.boot boot x.state long small has above))
      | inr below ↦
          cond-true (nat_le boot x.boot) old new (le-leb boot x.boot below)
          ∙ sym (at ∙ ap (rewound_to v.state boot) (refuses v.mark v.scene x.boot boot x.state long small has below))
    ]

pub rewind-step : (v : ViewerView) (boot : ℕ) (bytes : List ℕ) (result : Result ℕ SnapFault) (new : ViewerState Scripted) → length v.mark ≡ 32 → IsRewound v boot bytes result new
    → (x : Shot Scripted) → x.boot < 2 ^ 32 → HasSnapshot v.scene x.state → bytes ≡ shot v.mark x.boot v.scene x.state → IsRewind (machine_of v) v.state x boot result new
rewind-step v boot bytes result new long (inl e) x small has is =
    let stays : Rewound = (Err BootNotNew, v.state) in
    let not_canonical : Rewound = (Err NotCanonical, v.state) in
    let found_fits = cond-false (not (world_fits x.state)) not_canonical (as_boot v x boot) (ap not (fits-both v.scene x.state has.fits).1) in
    inl (ap (λ (r : Rewound). cond (nat_le boot v.state.boot) stays r) (found_fits ∙ by_boots v x boot bytes long small has is) ∙ e)
rewind-step v boot bytes result new long (inr m) x small has is = inr (m.0, m.2, m.3)
