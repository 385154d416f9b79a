-- A snapshot is loaded to its world, and what is loaded is a snapshot.
use Rattle.std.proofs.Common.{◌≡◌, ℕ, zero, suc, ◌^◌, ◌<◌, ◌≤◌, Bool, true, false, cond, eqb, ltb, leb, List, [], ◌∷◌, ◌++◌, length, Option, Some, None, Result, Ok, Err, refl, sym, ap, subst, ◌∙◌, arith}
use Rattle.std.specs.Prelude.{◌&&◌, codes}
use Rattle.std.specs.Int.{w32, w64}
use Rattle.std.proofs.lemmas.Bool.{eqb-true, le-leb, le-ltb, leb-true, lt-ltb, ltb-true}
use Rattle.std.proofs.lemmas.List.{length-append}
use Rattle.byte_codec.specs.Codec.{number, number_text, whole}
use Rattle.byte_codec.specs.Exact.{IsBytes}
use Rattle.byte_codec.proofs.Laws.{IsBytes-rest, both, and_true, whole_again, whole_takes, wide32, wide64}
use Rattle.scene_core.specs.Scene.{SceneView, shapes_of}
use Rattle.x3d_values.specs.Ranges.{max_inputs, max_short_number, max_viewers}
use Rattle.snapshot_codec.specs.declared.head.HeadFault.{HeadFault}
use Rattle.snapshot_codec.specs.Head.{front, opened, snapshot}
use Rattle.snapshot_codec.specs.Inputs.{applied_codec, input_codec, most_inputs}
use Rattle.snapshot_core.specs.declared.version.Version.{Version}
use Rattle.snapshot_core.specs.declared.version.Version.TheVariants.{One, Two, Three}
use Rattle.snapshot_core.specs.Opening.{found_body, newest, numbers_of, version_in, version_number}
use Rattle.snapshot_codec.specs.Parts.{states_codec}
use Rattle.snapshot_codec.specs.Trace.{moment_codec}
use Rattle.snapshot_codec.proofs.HeadLaws.{opened-found, snapshot-opened}
use Rattle.cascade_core.specs.Course.{Scripted}
use Rattle.cascade_world.specs.Fits.{all_lead}
use Rattle.cascade_core.specs.Installing.{StatesFit}
use Rattle.cascade_core.specs.Scripts.{kinds_in}
use Rattle.snapshot_core.specs.declared.fault.SnapFault.{SnapFault}
use Rattle.snapshot_core.specs.declared.fault.SnapFault.TheVariants.{BootNotNew, ScriptState}
use Rattle.snapshot_core.specs.Loading.{HasSnapshot, behind_head, loaded, newer, states_fit, with_states}
use Rattle.snapshot_core.specs.Shot.{body_codec, shot, shot_as}
use Rattle.snapshot_core.specs.Nodes.{lists_codec, lists_fit, nodes_codec}
use Rattle.snapshot_core.specs.WorldCodec.{buttons_codec, lines_codec, lists_in, parts_codec, parts_in, set_has_bytes, world_codec}
use Rattle.snapshot_core.proofs.LineLaws.{newest_lines}
use Rattle.snapshot_core.proofs.NodeLaws.{newest_lists}
use Rattle.snapshot_core.proofs.StateLaws.{all_fit, fitting_all, stated}
use Rattle.snapshot_core.proofs.WorldLaws.{body_exact, newest_set}

-- ---- from a world

length4 : (n : ℕ) → length (number_text w32 n) ≡ 4
unfolding number_text
length4 n = wide32.len n

length8 : (n : ℕ) → length (number_text w64 n) ≡ 8
unfolding number_text
length8 n = wide64.len n

-- how many inputs were applied takes 4 bytes or more
applied_long : (version : Version) (n : ℕ) → 4 ≤ length ((applied_codec (numbers_of version)).write n)
unfolding input_codec
applied_long One n = omega (arith, length4 n)
applied_long Two n = omega (arith, length4 n)
applied_long Three n = omega (arith, length8 n)

long : (boot : ℕ) (applied moment rest : List ℕ) → 4 ≤ length applied → length moment ≡ 8 → 16 ≤ length (number_text w32 boot ++ (applied ++ (moment ++ rest)))
long boot applied moment rest a m = omega (arith, a, m, length4 boot, length-append (number_text w32 boot) (applied ++ (moment ++ rest)), length-append applied (moment ++ rest), length-append moment rest)

some_body : (version : Version) (scene : SceneView) (boot : ℕ) (w : Scripted) → 16 ≤ length ((body_codec version scene).write (boot, w))
unfolding world_codec
some_body version scene boot w = long boot ((applied_codec (numbers_of version)).write w.world.applied) (moment_codec.write w.world.last_time) ((parts_codec version scene).write (parts_in w)) (applied_long version w.world.applied) (length8 _)

read_again : (version : Version) (scene : SceneView) (boot : ℕ) (w : Scripted) → boot < 2 ^ 32 → (world_codec version scene).fits w ≡ true → whole ((body_codec version scene).read ((body_codec version scene).write (boot, w))) ≡ Some (boot, w)
read_again version scene boot w small fits = whole_again (body_codec version scene) (body_exact version scene) (boot, w) (and_true _ _ (lt-ltb boot (2 ^ 32) small) fits)

-- a snapshot names its version, and so is opened to its body
pub named-front : (version : Version) (rest : List ℕ) → version_in (codes "X3DW" ++ version_number version ∷ rest) ≡ version
named-front One rest = refl
named-front Two rest = refl
named-front Three rest = refl

named : (version : Version) (mark body : List ℕ) → version_in (snapshot (version_number version) mark body) ≡ version
named One mark body = refl
named Two mark body = refl
named Three mark body = refl

pub body_again : (version : Version) (mark body : List ℕ) → length mark ≡ 32 → 16 ≤ length body → found_body mark (snapshot (version_number version) mark body) ≡ Ok body
body_again version mark body len some =
    ap (λ (v : Version). opened (version_number v) mark (snapshot (version_number version) mark body)) (named version mark body)
    ∙ snapshot-opened (version_number version) mark body len some

-- what is read of bytes, by the version that they name
abbrev read_of : List ℕ → SceneView → ℕ → List ℕ → Result (ℕ × Scripted) SnapFault
read_of mark scene new bytes = behind_head (version_in bytes) scene new (found_body mark bytes)

shot_read : (version : Version) (mark : List ℕ) (scene : SceneView) (boot new : ℕ) (w : Scripted) → length mark ≡ 32 → boot < 2 ^ 32 → (world_codec version scene).fits w ≡ true → read_of mark scene new (shot_as version mark boot scene w) ≡ newer new (Some (boot, w))
shot_read version mark scene boot new w len small fits =
    let body : List ℕ = (body_codec version scene).write (boot, w) in
    let bytes : List ℕ = shot_as version mark boot scene w in
    ap (λ (v : Version). behind_head v scene new (found_body mark bytes)) (named version mark body)
    ∙ ap (behind_head version scene new) (body_again version mark body len (some_body version scene boot w))
    ∙ ap (newer new) (read_again version scene boot w small fits)

pub loads : (mark : List ℕ) (scene : SceneView) (boot new : ℕ) (w : Scripted) → length mark ≡ 32 → boot < 2 ^ 32 → HasSnapshot scene w → boot < new → loaded mark scene new (shot mark boot scene w) ≡ Ok (boot, w)
unfolding loaded
loads mark scene boot new w len small has above =
    let is_new : newer new (Some (boot, w)) ≡ Ok (boot, w) = (let k : ltb boot new ≡ true = lt-ltb boot new above in rw k refl) in
    ap (with_states scene) (shot_read newest mark scene boot new w len small has.fits ∙ is_new) ∙ stated scene (boot, w) (all_fit scene w.states has.states)

pub refuses : (mark : List ℕ) (scene : SceneView) (boot new : ℕ) (w : Scripted) → length mark ≡ 32 → boot < 2 ^ 32 → HasSnapshot scene w → new ≤ boot → loaded mark scene new (shot mark boot scene w) ≡ Err BootNotNew
unfolding loaded
refuses mark scene boot new w len small has above =
    let not_new : newer new (Some (boot, w)) ≡ Err BootNotNew = (let k : ltb boot new ≡ false = le-ltb boot new above in rw k refl) in
    ap (with_states scene) (shot_read newest mark scene boot new w len small has.fits ∙ not_new)

-- ---- from bytes

IsBytes-front : (a b : List ℕ) → IsBytes (a ++ b) → IsBytes a
IsBytes-front [] b h i = omega arith
IsBytes-front (x ∷ a) b h zero = h 0
IsBytes-front (x ∷ a) b h (suc i) = IsBytes-front a b (λ j. h (suc j)) i

body_bytes : (version : ℕ) (mark bytes body : List ℕ) → IsBytes bytes → bytes ≡ snapshot version mark body → IsBytes body
body_bytes version mark bytes body h e =
    let all : IsBytes (snapshot version mark body) = subst IsBytes e h in
    IsBytes-rest (front version mark) body (IsBytes-front (front version mark ++ body) _ all)

-- what inputs a version has numbers for, the newest has numbers for
more_inputs : (version : Version) (n : ℕ) → leb n (most_inputs (numbers_of version)) ≡ true → leb n (most_inputs (numbers_of newest)) ≡ true
more_inputs One n fits = le-leb n max_inputs (omega (arith, leb-true n max_short_number fits))
more_inputs Two n fits = le-leb n max_inputs (omega (arith, leb-true n max_short_number fits))
more_inputs Three n fits = fits

-- a world that has bytes in a version has bytes in the newest
newest_fits : (version : Version) (scene : SceneView) (w : Scripted) → (world_codec version scene).fits w ≡ true → (world_codec newest scene).fits w ≡ true
unfolding world_codec parts_codec nodes_codec lists_codec buttons_codec
newest_fits version scene w fits =
    let a = both ((applied_codec (numbers_of version)).fits w.world.applied) _ fits in
    let b = both (moment_codec.fits w.world.last_time) _ a.1 in
    let c = both (all_lead scene 0 w.world.pointing && lists_fit version (shapes_of scene) (lists_in w.world)) _ b.1 in
    let n = both (all_lead scene 0 w.world.pointing) (lists_fit version (shapes_of scene) (lists_in w.world)) c.0 in
    let d = both (set_has_bytes version w.world.buttons) _ c.1 in
    let e = both (eqb (length w.world.buttons) max_viewers) _ d.0 in
    let g = both ((states_codec (length (kinds_in scene))).fits w.states) ((lines_codec version (shapes_of scene)).fits w.world.trace) d.1 in
    and_true _ _ (more_inputs version w.world.applied a.0)
    (and_true _ _ b.0
    (and_true _ _ (and_true _ _ n.0 (newest_lists version (shapes_of scene) (lists_in w.world) n.1))
    (and_true _ _ (newest_set w.world.buttons (eqb-true _ _ e.0))
    (and_true _ _ g.0 (newest_lines version (shapes_of scene) w.world.trace g.1)))))

-- what it comes to that this is read of these bytes
abbrev Found : List ℕ → SceneView → ℕ → List ℕ → ℕ × Scripted → Type 0
Found mark scene new bytes x = (bytes ≡ shot_as (version_in bytes) mark x.0 scene x.1) × ((world_codec newest scene).fits x.1 ≡ true) × (x.0 < new)

abbrev fault : SnapFault → Result (ℕ × Scripted) SnapFault
fault f = Err f

ok_is : (a b : ℕ × Scripted) → cond true (Ok a) (fault BootNotNew) ≡ Ok b → a ≡ b
ok_is a b same = cc

by_boot : (new : ℕ) (y x : ℕ × Scripted) (t : Bool) → ltb y.0 new ≡ t → cond t (Ok y) (fault BootNotNew) ≡ Ok x → (y ≡ x) × (y.0 < new)
by_boot new y x true lt e = (ok_is y x e, ltb-true y.0 new lt)
by_boot new y x false lt e = absurd cc

by_body : (mark : List ℕ) (scene : SceneView) (new : ℕ) (bytes body : List ℕ) (x : ℕ × Scripted) (r : Option (ℕ × Scripted)) → IsBytes body → bytes ≡ snapshot (version_number (version_in bytes)) mark body → whole ((body_codec (version_in bytes) scene).read body) ≡ r → newer new r ≡ Ok x → Found mark scene new bytes x
by_body mark scene new bytes body x None h is read e = absurd cc
by_body mark scene new bytes body x (Some y) h is read e =
    let version : Version = version_in bytes in
    let b = by_boot new y x (ltb y.0 new) refl e in
    let t = whole_takes (body_codec version scene) (body_exact version scene) body y h read in
    let f = both ((number w32).fits y.0) ((world_codec version scene).fits y.1) t.1 in
    subst (Found mark scene new bytes) b.0 (is ∙ ap (snapshot (version_number version) mark) t.0, newest_fits version scene y.1 f.1, b.1)

by_head : (mark : List ℕ) (scene : SceneView) (new : ℕ) (bytes : List ℕ) (x : ℕ × Scripted) (r : Result (List ℕ) HeadFault) → IsBytes bytes → found_body mark bytes ≡ r → behind_head (version_in bytes) scene new r ≡ Ok x → Found mark scene new bytes x
by_head mark scene new bytes x (Ok body) h is e =
    let version : ℕ = version_number (version_in bytes) in
    let found : bytes ≡ snapshot version mark body = opened-found (λ b. b) (Ok body) version mark bytes (sym is) in
    by_body mark scene new bytes body x (whole ((body_codec (version_in bytes) scene).read body)) (body_bytes version mark bytes body h found) found refl e
by_head mark scene new bytes x (Err f) h is e = absurd cc

by_states : (scene : SceneView) (y x : ℕ × Scripted) (t : Bool) → states_fit (kinds_in scene) y.1.states ≡ t → cond t (Ok y) (fault ScriptState) ≡ Ok x → (y ≡ x) × (states_fit (kinds_in scene) y.1.states ≡ true)
by_states scene y x true fit e = (ok_is y x e, fit)
by_states scene y x false fit e = absurd cc

by_loaded : (scene : SceneView) (x : ℕ × Scripted) (r : Result (ℕ × Scripted) SnapFault) → with_states scene r ≡ Ok x → (r ≡ Ok x) × StatesFit scene x.1.states
by_loaded scene x (Ok y) e =
    let b = by_states scene y x (states_fit (kinds_in scene) y.1.states) refl e in
    let same : y ≡ x = b.0 in
    (ap (λ (z : ℕ × Scripted). let r : Result (ℕ × Scripted) SnapFault = Ok z in r) same, subst (λ (z : ℕ × Scripted). StatesFit scene z.1.states) same (fitting_all scene y.1.states b.1))
by_loaded scene x (Err f) e = absurd cc

pub found : (mark : List ℕ) (scene : SceneView) (new : ℕ) (bytes : List ℕ) (x : ℕ × Scripted) → IsBytes bytes → loaded mark scene new bytes ≡ Ok x
    → (bytes ≡ shot_as (version_in bytes) mark x.0 scene x.1) × HasSnapshot scene x.1 × (x.0 < new)
unfolding loaded
found mark scene new bytes x h e =
    let s = by_loaded scene x (read_of mark scene new bytes) e in
    let f = by_head mark scene new bytes x (found_body mark bytes) h refl s.0 in
    (f.0, record { fits = f.1; states = s.1 }, f.2)
