-- A world with its boot, as bytes.
use Rattle.std.proofs.Common.{◌≡◌, ℕ, Bool, true, eqb, List, ◌++◌, length, Option, Some, None, refl, sym, ap, subst, ◌∙◌, append_assoc, eq-eqb}
use Rattle.std.specs.Prelude.{ℤ}
use Rattle.std.specs.Int.{w32}
use Rattle.std.proofs.lemmas.Bool.{eqb-true, lt-ltb}
use Rattle.byte_codec.specs.Codec.{◌>>?◌, number, number_text}
use Rattle.byte_codec.specs.Exact.{IsExact}
use Rattle.byte_codec.proofs.Laws.{and_true, both, some_is, refined_exact, named_exact, pair_exact, number_exact, wide32}
use Rattle.scene_core.specs.Scene.{SceneView, shapes_of}
use Rattle.snapshot_codec.specs.declared.fault.PartFault.{PartFault}
use Rattle.snapshot_codec.specs.declared.fault.PartFault.TheVariants as faults
use Rattle.snapshot_codec.specs.declared.head.Progress.{Progress}
use Rattle.snapshot_codec.specs.Head.{progress_codec}
use Rattle.snapshot_codec.specs.Inputs.{applied_codec}
use Rattle.snapshot_codec.specs.Reads.{Fails}
use Rattle.snapshot_codec.specs.Parts.{states_codec, viewer_set_codec}
use Rattle.snapshot_codec.specs.Trace.{moment_codec}
use Rattle.snapshot_codec.proofs.InputLaws.{applied_exact}
use Rattle.snapshot_codec.proofs.PartLaws.{states_exact, viewer_set_exact}
use Rattle.snapshot_codec.proofs.TraceLaws.{moment_exact}
use Rattle.x3d_values.specs.Ranges.{max_viewers}
use Rattle.snapshot_core.specs.declared.version.Version.{Version}
use Rattle.snapshot_core.specs.Opening.{newest, numbers_of, viewers_of}
use Rattle.sensor_core.specs.Parts.{number_of, over_of}
use Rattle.cascade_core.specs.Course.{Scripted}
use Rattle.cascade_core.specs.Scripts.{kinds_in}
use Rattle.snapshot_core.specs.declared.world.WorldParts.{WorldParts}
use Rattle.snapshot_core.specs.Nodes.{nodes_codec}
use Rattle.snapshot_core.specs.Shot.{body_codec}
use Rattle.snapshot_core.specs.WorldCodec.{buttons_codec, lines_codec, lists_in, parts_in, parts_codec, set_has_bytes, world_codec, world_of, world_with}
use Rattle.snapshot_core.proofs.LineLaws.{lines_exact}
use Rattle.snapshot_core.proofs.NodeLaws.{nodes_exact}
use Rattle.snapshot_core.proofs.SetLaws.{few_bits, number_back, over_back, over_length, number_small}

-- ---- reading: how far it had come, and then its parts

abbrev progress_of : ℕ × (ℕ × ℤ) → Progress
progress_of t = record { boot = t.0; applied = t.1.0; last_time = t.1.1 }

-- a value, and one that was read behind it
abbrev paired : {A B : Type 0} → A → B × List ℕ → Option ((A × B) × List ℕ)
paired x y = Some ((x, y.0), y.1)

abbrev made : (ℕ × (ℤ × WorldParts)) × List ℕ → Option (Scripted × List ℕ)
made x = Some (world_of x.0, x.1)

abbrev come : (ℕ × (ℕ × ℤ)) × List ℕ → Option (Progress × List ℕ)
come x = Some (progress_of x.0, x.1)

abbrev found_with : Progress → WorldParts × List ℕ → Option ((ℕ × Scripted) × List ℕ)
found_with progress parts = Some ((progress.boot, world_with progress parts.0), parts.1)

module _ (f : List ℕ → Option (ℕ × List ℕ)) (g : List ℕ → Option (ℤ × List ℕ)) (h : List ℕ → Option (WorldParts × List ℕ)) where
  abbrev behind_time : ℤ × List ℕ → Option ((ℤ × WorldParts) × List ℕ)
  behind_time t = h t.1 >>? paired t.0

  abbrev behind_applied : ℕ × List ℕ → Option ((ℕ × (ℤ × WorldParts)) × List ℕ)
  behind_applied a = (g a.1 >>? behind_time) >>? paired a.0

  abbrev behind_boot : ℕ × List ℕ → Option ((ℕ × Scripted) × List ℕ)
  behind_boot b = ((f b.1 >>? behind_applied) >>? made) >>? paired b.0

  abbrev times : ℕ × List ℕ → Option ((ℕ × ℤ) × List ℕ)
  times a = g a.1 >>? paired a.0

  abbrev numbers : ℕ × List ℕ → Option ((ℕ × (ℕ × ℤ)) × List ℕ)
  numbers b = (f b.1 >>? times) >>? paired b.0

  abbrev parts_behind : Progress × List ℕ → Option ((ℕ × Scripted) × List ℕ)
  parts_behind p = h p.1 >>? found_with p.0

  at_parts : (b a : ℕ) (t : ℤ) (r : Option (WorldParts × List ℕ)) → ((((r >>? paired t) >>? paired a) >>? made) >>? paired b) ≡ (r >>? found_with (progress_of (b, (a, t))))
  at_parts b a t None = refl
  at_parts b a t (Some q) = refl

  at_time : (b a : ℕ) (r : Option (ℤ × List ℕ)) → ((((r >>? behind_time) >>? paired a) >>? made) >>? paired b) ≡ ((((r >>? paired a) >>? paired b) >>? come) >>? parts_behind)
  at_time b a None = refl
  at_time b a (Some t) = at_parts b a t.0 (h t.1)

  at_applied : (b : ℕ) (r : Option (ℕ × List ℕ)) → (((r >>? behind_applied) >>? made) >>? paired b) ≡ ((((r >>? times) >>? paired b) >>? come) >>? parts_behind)
  at_applied b None = refl
  at_applied b (Some a) = at_time b a.0 (g a.1)

  at_boot : (r : Option (ℕ × List ℕ)) → (r >>? behind_boot) ≡ (((r >>? numbers) >>? come) >>? parts_behind)
  at_boot None = refl
  at_boot (Some b) = at_applied b.0 (f b.1)

body_read : (version : Version) (scene : SceneView) (bytes : List ℕ) → (body_codec version scene).read bytes ≡ ((progress_codec (numbers_of version)).read bytes >>? λ p. (parts_codec version scene).read p.1 >>? found_with p.0)
unfolding world_codec progress_codec
body_read version scene bytes = at_boot (applied_codec (numbers_of version)).read moment_codec.read (parts_codec version scene).read ((number w32).read bytes)

pub no_progress : (version : Version) (scene : SceneView) (bytes : List ℕ) → None ≡ (progress_codec (numbers_of version)).read bytes → (body_codec version scene).read bytes ≡ None
no_progress version scene bytes e = body_read version scene bytes ∙ rw (sym e) refl

pub no_parts : (version : Version) (scene : SceneView) (bytes : List ℕ) (p : Progress) (rest : List ℕ) (e : PartFault) → Some (p, rest) ≡ (progress_codec (numbers_of version)).read bytes → Fails e ((parts_codec version scene).read rest) → Fails e ((body_codec version scene).read bytes)
no_parts version scene bytes p rest faults.Memory front h = tt
no_parts version scene bytes p rest faults.NotCanonical front h = body_read version scene bytes ∙ rw (sym front, h) refl

pub whole_body : (version : Version) (scene : SceneView) (bytes : List ℕ) (p : Progress) (rest : List ℕ) (parts : WorldParts) (after : List ℕ) → Some (p, rest) ≡ (progress_codec (numbers_of version)).read bytes → (parts_codec version scene).read rest ≡ Some (parts, after) → (body_codec version scene).read bytes ≡ Some ((p.boot, world_with p parts), after)
whole_body version scene bytes p rest parts after front h = body_read version scene bytes ∙ rw (sym front, h) refl

-- ---- writing

regroup : (old b a t n u s l : List ℕ) → ((((old ++ (b ++ (a ++ t))) ++ n) ++ u) ++ s) ++ l ≡ old ++ (b ++ (a ++ (t ++ (n ++ (u ++ (s ++ l))))))
regroup old b a t n u s l = simp append_assoc refl

pub body_written : (version : Version) (scene : SceneView) (boot : ℕ) (w : Scripted) (old o1 o2 o3 o4 new : List ℕ) → o1 ≡ old ++ (progress_codec (numbers_of version)).write (record { boot = boot; applied = w.world.applied; last_time = w.world.last_time })
    → o2 ≡ o1 ++ (nodes_codec version scene).write (lists_in w.world) → o3 ≡ o2 ++ (buttons_codec version).write w.world.buttons
    → o4 ≡ o3 ++ (states_codec (length (kinds_in scene))).write w.states → new ≡ o4 ++ (lines_codec version (shapes_of scene)).write w.world.trace
    → new ≡ old ++ (body_codec version scene).write (boot, w)
unfolding world_codec parts_codec progress_codec
body_written version scene boot w old o1 o2 o3 o4 new p n u s l =
    let shapes = shapes_of scene in
    rw (l, s, u, n, p) (regroup old (number_text w32 boot) ((applied_codec (numbers_of version)).write w.world.applied) (moment_codec.write w.world.last_time) ((nodes_codec version scene).write (lists_in w.world)) ((buttons_codec version).write w.world.buttons) ((states_codec (length (kinds_in scene))).write w.states) ((lines_codec version shapes).write w.world.trace))

-- ---- exactness

buttons_exact : (version : Version) → IsExact (buttons_codec version)
unfolding buttons_codec
buttons_exact version = refined_exact (λ n. Some (over_of n)) number_of (set_has_bytes version) (viewer_set_codec (viewers_of version)) (record {
  back = λ a b fits e.
      let P : List Bool → Type 0 = λ set. (number_of set ≡ a) × (set_has_bytes version set ≡ true) in
      let same : number_of (over_of a) ≡ a = number_back a (few_bits version a fits) in
      subst P (some_is (over_of a) b e) (same, and_true _ _ (eq-eqb _ _ (over_length a)) (ap (λ (n : ℕ). (viewer_set_codec (viewers_of version)).fits n) same ∙ fits));
  forth = λ b ok.
      let f = both (eqb (length b) max_viewers) ((viewer_set_codec (viewers_of version)).fits (number_of b)) ok in
      (f.1, ap (λ (set : List Bool). Some set) (over_back b (eqb-true _ _ f.0)));
}) (viewer_set_exact (viewers_of version))

-- the newest version has bits for all viewers
pub newest_set : (set : List Bool) → length set ≡ max_viewers → set_has_bytes newest set ≡ true
unfolding viewer_set_codec
newest_set set len = and_true _ _ (eq-eqb _ _ len) (lt-ltb _ _ (number_small set len))

parts_exact : (version : Version) (scene : SceneView) → IsExact (parts_codec version scene)
unfolding parts_codec
parts_exact version scene = named_exact _ _ _ (λ a. refl) (λ b. refl) (pair_exact _ _ (nodes_exact version scene) (pair_exact _ _ (buttons_exact version) (pair_exact _ _ (states_exact (length (kinds_in scene))) (lines_exact version (shapes_of scene)))))

pub world_exact : (version : Version) (scene : SceneView) → IsExact (world_codec version scene)
unfolding world_codec
world_exact version scene = named_exact world_of (λ w. (w.world.applied, (w.world.last_time, parts_in w))) _ (λ a. refl) (λ b. refl) (pair_exact _ _ (applied_exact (numbers_of version)) (pair_exact _ _ moment_exact (parts_exact version scene)))

pub body_exact : (version : Version) (scene : SceneView) → IsExact (body_codec version scene)
body_exact version scene = pair_exact _ _ (number_exact w32 wide32) (world_exact version scene)
