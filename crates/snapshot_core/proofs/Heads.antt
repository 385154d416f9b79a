-- What comes of the head of a snapshot.
use Rattle.std.proofs.Common.{◌≡◌, ℕ, List, Option, Some, None, Result, Ok, Err, inl, inr, refl, sym, ap, ◌∙◌}
use Rattle.std.specs.Prelude.{◌⊎◌}
use Rattle.std.specs.Result.{result_map_both}
use Rattle.scene_core.specs.Scene.{SceneView}
use Rattle.cascade_core.specs.Course.{Scripted}
use Rattle.snapshot_codec.specs.declared.head.HeadFault.{HeadFault}
use Rattle.snapshot_codec.specs.Head.{body_or}
use Rattle.snapshot_core.specs.declared.version.Version.{Version}
use Rattle.snapshot_core.specs.Opening.{fault_before, found_body, version_in}
use Rattle.snapshot_core.specs.declared.fault.SnapFault.{SnapFault}
use Rattle.snapshot_core.specs.declared.fault.SnapFault.TheVariants.{Memory}
use Rattle.snapshot_core.specs.declared.world.Found.{Found}
use Rattle.cascade_core.specs.Held.{StageView, spoiled}
use Rattle.snapshot_core.specs.declared.loading.Saved.{Saved}
use Rattle.snapshot_core.specs.Loading.{behind_head, fault_of, load_outcome, loaded, loaded_body, with_states}
use Rattle.snapshot_core.specs.WorldCodec.{booted}

pub none_is : (bytes body : List ℕ) (f : Option HeadFault) → body_or bytes f ≡ Ok body → f ≡ None
none_is bytes body None e = refl
none_is bytes body (Some f) e = absurd cc

-- the head is good
pub behind_body : (version : Version) (scene : SceneView) (boot : ℕ) (mark bytes body : List ℕ) (r : Result Found SnapFault) → Ok body ≡ found_body mark bytes
    → (loaded_body version scene boot body ≡ result_map_both booted (λ fault. fault) r) ⊎ (r ≡ Err Memory)
    → (behind_head version scene boot (found_body mark bytes) ≡ result_map_both booted (λ fault. fault) r) ⊎ ((r ≡ Err Memory) × (fault_before mark bytes ≡ None))
behind_body version scene boot mark bytes body r e (inl h) = inl (ap (behind_head version scene boot) (sym e) ∙ h)
behind_body version scene boot mark bytes body r e (inr h) = inr (h, none_is bytes body (fault_before mark bytes) (sym e))

-- it isn't
pub behind_fault : (version : Version) (scene : SceneView) (boot : ℕ) (mark bytes : List ℕ) (fault : HeadFault) (told : SnapFault) → Err fault ≡ found_body mark bytes → told ≡ fault_of fault → behind_head version scene boot (found_body mark bytes) ≡ Err told
behind_fault version scene boot mark bytes fault told e is = ap (behind_head version scene boot) (sym e) ∙ ap (λ (f : SnapFault). Err f) (sym is)

good_head : (version : Version) (scene : SceneView) (boot : ℕ) (bytes : List ℕ) (x : ℕ × Scripted) (f : Option HeadFault) → behind_head version scene boot (body_or bytes f) ≡ Ok x → f ≡ None
good_head version scene boot bytes x None e = refl
good_head version scene boot bytes x (Some f) e = absurd cc

-- what was read is put into a stage
pub put_in : (stage : StageView) (mark bytes : List ℕ) (boot : ℕ) (found : Found) (r : Result Saved SnapFault) (new : StageView)
    → (behind_head (version_in bytes) stage.scene boot (found_body mark bytes) ≡ Ok (booted found)) ⊎ ((Ok found ≡ Err Memory) × (fault_before mark bytes ≡ None))
    → (load_outcome stage (with_states stage.scene (Ok (booted found))) ≡ (r, new)) ⊎ ((r ≡ Err Memory) × (new ≡ spoiled stage))
    → (load_outcome stage (loaded mark stage.scene boot bytes) ≡ (r, new)) ⊎ ((r ≡ Err Memory) × (new ≡ spoiled stage) × (fault_before mark bytes ≡ None))
unfolding loaded
put_in stage mark bytes boot found r new (inl e) (inl h) = inl (ap (λ (x : Result (ℕ × Scripted) SnapFault). load_outcome stage (with_states stage.scene x)) e ∙ h)
put_in stage mark bytes boot found r new (inl e) (inr h) = inr (h.0, h.1, good_head (version_in bytes) stage.scene boot bytes (booted found) (fault_before mark bytes) e)
put_in stage mark bytes boot found r new (inr e) h = let no_found = e.0 in absurd cc
