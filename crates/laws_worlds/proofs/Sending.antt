-- What is sent fits, and comes along routes to inputs that it fits.
use Rattle.std.proofs.Common.{◌≡◌, ℕ, ◌≤◌, ◌<◌, ◌^◌, Bool, true, false, ◌&&◌, ◌==◌, if◌then◌else◌, nat_lt, List, [], ◌∷◌, length, map, Option, Some, None, slice_get, refl, sym, subst, arith, eqb-true, lt-ltb, le-leb}
use Rattle.std.specs.List.{AllByRecursion, filter, list_all}
use Rattle.std.specs.Option.{option_map_or}
use Rattle.std.proofs.lemmas.Option.{slice_get_within}
use Rattle.byte_codec.proofs.Laws.{both, and_true}
use Rattle.x3d_values.specs.declared.field_type.FieldType.{FieldType}
use Rattle.x3d_values.specs.declared.value.Value.{Value}
use Rattle.x3d_values.specs.Tables.{FieldRowView}
use Rattle.react_core.specs.declared.outbox.SentEvent.{SentEvent}
use Rattle.snapshot_codec.specs.Trace.{typed_fits}
use Rattle.scene_core.specs.declared.scene.End.{End}
use Rattle.scene_core.specs.declared.scene.Route.{Route}
use Rattle.scene_core.specs.Scene.{SceneView, shapes_of}
use Rattle.scene_core.specs.Shape.{Shape, rows_of}
use Rattle.cascade_world.specs.Answers.{NodeAnswer}
use Rattle.cascade_trace.specs.Ends.{same_end, targets_of}
use Rattle.cascade_world.specs.World.{record_event}
use Rattle.cascade_trace.specs.declared.trace.TraceLine.{TraceLine}
use Rattle.cascade_world.specs.declared.world.Live.{Live}
use Rattle.cascade_world.specs.Fits.{sent_type, output_type}
use Rattle.laws_worlds.proofs.Pointers.{all_append}
use Rattle.laws_worlds.proofs.Rows.{then_some}
use Rattle.laws_worlds.specs.Fits.{all_lead, input_type, line_fits, WorldFits, Joins, AllJoin}
use Rattle.laws_worlds.proofs.States.{leave, Answered}
use Rattle.laws_worlds.proofs.Walks.{AllSent, AnswerKeeps}

-- ---- the numbers of an output

-- each has fields that can be numbered in 16 bits
abbrev pub AreShort : List Shape → Type 0
AreShort shapes = (n : ℕ) (s : Shape) → slice_get shapes n ≡ Some s → length (rows_of s) ≤ 65536

typed_has : (o : Option FieldType) (v : Value) → typed_fits o v ≡ true → (t : FieldType) × (o ≡ Some t)
typed_has None v e = absurd cc
typed_has (Some t) v e = (t, refl)

abbrev pub Leaves : List Shape → End → Value → Type 0
Leaves shapes source v = typed_fits (output_type shapes source.node source.field) v ≡ true

-- the event may come to that input
abbrev pub Comes : List Shape → End → Value → Type 0
Comes shapes target v = typed_fits (input_type shapes target.node target.field) v ≡ true

numbers_fit : (shapes : List Shape) (source : End) (v : Value) → length shapes ≤ 2 ^ 32 → AreShort shapes → Leaves shapes source v → (nat_lt source.node (2 ^ 32) && nat_lt source.field (2 ^ 16)) ≡ true
numbers_fit shapes source v few short l =
    let h = typed_has (output_type shapes source.node source.field) v l in
    let b = then_some sent_type (slice_get (option_map_or rows_of (slice_get shapes source.node) []) source.field) h.0 h.1 in
    given (slice_get shapes source.node) refl b.0 b.1
  where
    given : (o : Option Shape) → slice_get shapes source.node ≡ o → (row : FieldRowView) → slice_get (option_map_or rows_of o []) source.field ≡ Some row → (nat_lt source.node (2 ^ 32) && nat_lt source.field (2 ^ 16)) ≡ true
    given None e row f = absurd cc
    given (Some s) e row f =
        let inside : source.node < length shapes = slice_get_within shapes source.node s e in
        let field : source.field < length (rows_of s) = slice_get_within (rows_of s) source.field row f in
        let small : length (rows_of s) ≤ 65536 = short source.node s e in
        let node_small : source.node < 2 ^ 32 = omega (arith, inside, few) in
        let field_small : source.field < 2 ^ 16 = omega (arith, field, small) in
        and_true (nat_lt source.node (2 ^ 32)) (nat_lt source.field (2 ^ 16)) (lt-ltb source.node (2 ^ 32) node_small) (lt-ltb source.field (2 ^ 16) field_small)

-- ---- routes

joined_comes : (shapes : List Shape) (r : Route) (source : End) (v : Value) → Joins shapes r → same_end r.source source ≡ true → Leaves shapes source v → Comes shapes r.target v
joined_comes shapes r source v j same l =
    let b = both (r.source.node == source.node) (r.source.field == source.field) same in
    let node : r.source.node ≡ source.node = eqb-true _ _ b.0 in
    let field : r.source.field ≡ source.field = eqb-true _ _ b.1 in
    let out : output_type shapes source.node source.field ≡ Some j.0 = subst (λ (f : ℕ). output_type shapes source.node f ≡ Some j.0) field (subst (λ (n : ℕ). output_type shapes n r.source.field ≡ Some j.0) node j.1) in
    subst (λ (o : Option FieldType). typed_fits o v ≡ true) (sym j.2) (subst (λ (o : Option FieldType). typed_fits o v ≡ true) out l)

pub targets_fit : (shapes : List Shape) (rs : List Route) (source : End) (v : Value) → AllJoin shapes rs → Leaves shapes source v → AllByRecursion (λ (target : End). Comes shapes target v) (targets_of rs source)
targets_fit shapes [] source v j l = tt
targets_fit shapes (r ∷ rs) source v j l = given (same_end r.source source) refl (targets_fit shapes rs source v j.1 l)
  where
    given : (b : Bool) → same_end r.source source ≡ b → AllByRecursion (λ (target : End). Comes shapes target v) (targets_of rs source) → AllByRecursion (λ (target : End). Comes shapes target v) (map (λ (q : Route). q.target) (if b then r ∷ filter (λ (q : Route). same_end q.source source) rs else filter (λ (q : Route). same_end q.source source) rs))
    given true e rest = (joined_comes shapes r source v j.0 e l, rest)
    given false e rest = rest

-- ---- what is kept

-- what leaves by a node's fields leaves as Q of a walk says
pub all_leave : (shapes : List Shape) (node : ℕ) (rs : List SentEvent) → list_all (leave shapes node) rs ≡ true → AllSent (Leaves shapes) node rs
all_leave shapes node [] a = tt
all_leave shapes node (r ∷ rs) a = let b = both (leave shapes node r) (list_all (leave shapes node) rs) a in (b.0, all_leave shapes node rs b.1)

-- the world fits, and its drags lead to their sensors
pub record Fit (scene : SceneView) (live : Live) : Type 0 where
  pub world : WorldFits (shapes_of scene) live.world
  pub paths : all_lead scene 0 live.world.pointing ≡ true

pub answered_fits : (scene : SceneView) (live : Live) (node : ℕ) (a : NodeAnswer) → Fit scene live → Answered (shapes_of scene) node a → all_lead scene 0 a.pointing ≡ true → AnswerKeeps (Fit scene) (Leaves (shapes_of scene)) node live a
answered_fits scene live node a f k l =
    let p = f.world in (
      record { world = record { count = p.count; last = p.last; nodes = k.nodes; buttons = p.buttons; lines = p.lines }; paths = l },
      all_leave (shapes_of scene) node a.replies k.replies,
    )

pub record_fits : (scene : SceneView) → length (shapes_of scene) ≤ 2 ^ 32 → AreShort (shapes_of scene) → (live : Live) (source : End) (v : Value) → Leaves (shapes_of scene) source v → Fit scene live → Fit scene (record_event live source v)
record_fits scene few short live source v l f =
    let p = f.world in
    let line : TraceLine = record { input = live.world.applied; time = live.world.last_time; source = source; value = v } in
    let fits : line_fits (shapes_of scene) line ≡ true = and_true _ _ (le-leb _ _ p.count) (and_true _ _ p.last (and_true _ _ (numbers_fit (shapes_of scene) source v few short l) l)) in
    record {
      world = record {
        count = p.count;
        last = p.last;
        nodes = p.nodes;
        buttons = p.buttons;
        lines = all_append (line_fits (shapes_of scene)) live.world.trace (line ∷ []) p.lines (and_true _ _ fits refl);
      };
      paths = f.paths;
    }
