-- What nodes send leaves by outputs of the scene.
use Rattle.std.proofs.Common.{◌≡◌, ℕ, ℤ, ◌+◌, ◌<◌, Bool, true, false, ◌&&◌, ◌||◌, List, [], ◌∷◌, ◌++◌, zero, suc, refl, Option, Some, None, arith, map, length, eq-eqb, sym, rules, ◌∙◌, ap}
use Rattle.std.specs.Prelude.{◌==◌, slice_get, if◌then◌else◌}
use Rattle.std.specs.Option.{option_map, option_map_or}
use Rattle.std.specs.List.{list_any, filter, range_with_len, AllByRecursion}
use Rattle.std.proofs.lemmas.List.Folds.{list_any-append}
use Rattle.std.proofs.Math.Nat.{add-zero, zero-add}
use denote.Enum.Bare.{same_true}
use Rattle.x3d_values.specs.contracts.node_type.NodeType.{the_type}
use Rattle.x3d_values.specs.declared.fields.Fields.{Fields}
use Rattle.x3d_values.specs.declared.node_type.NodeType.{NodeType}
use Rattle.x3d_values.specs.declared.node_type.NodeType.TheVariants.{TimeSensor}
use Rattle.x3d_values.specs.declared.value.Value.{Value}
use Rattle.x3d_values.specs.Tables.{FieldRowView, numbered, rows}
use Rattle.x3d_values.specs.declared.table.FieldRow.{FieldRow}
use Rattle.react_core.specs.declared.outbox.SentEvent.{SentEvent}
use Rattle.react_core.specs.Access.{is_sender, leave_by_outputs}
use Rattle.react_core.specs.Access.{is_output as is_output_of_type}
use Rattle.react_core.specs.Reaction.{is_time_sensor}
use Rattle.sensor_core.specs.Timing.{TimeFieldsView, timing_of}
use Rattle.scene_core.specs.declared.scene.End.{End}
use Rattle.cascade_trace.specs.Ends.{has_sent, same_end}
use Rattle.cascade_world.specs.Access.{is_set, is_output}
use Rattle.cascade_core.specs.Outputs.{output_fields, ends_from, is_scene_output}
use Rattle.scene_core.specs.Scene.{SceneView, shapes_of, type_at, types_of}
use Rattle.scene_core.specs.Shape.{Shape, rows_of}
use Rattle.pick_core.specs.Sensors.{is_enabled}
use Rattle.scene_core.specs.Places.{is_pointing}
use Rattle.sensor_plane.specs.declared.meeting.SensorPointer.{SensorPointer}
use Rattle.sensor_plane.specs.declared.pointing.PointingState.{PointingState}
use Rattle.sensor_plane.specs.Pointing.{is_state_of}
use Rattle.cascade_world.specs.Answers.{answer, answer_as, is_met, is_script, keeping, meeting, met, met_as, not_run, nothing, reacting, setting, setting_at, ticked, ticking, ticking_at, touching}
use Rattle.cascade_world.specs.Nodes.{is_clock}
use Rattle.cascade_world.proofs.Shapes.{HasShape, shape_at}
use Rattle.cascade_world.proofs.Senders.{kept-sends, reaction-leaves}
use Rattle.cascade_world.proofs.SensorReplies.{set-leaves, tick-leaves}
use Rattle.cascade_world.proofs.PointingReplies.{meeting-leaves, touching-leaves}
use Rattle.cascade_world.specs.declared.world.WorldData.{WorldData}

-- all of these are sent by outputs of the scene
abbrev pub AllOutputs : List Shape → ℕ → List SentEvent → Type 0
AllOutputs shapes node replies = AllByRecursion (λ (r : SentEvent). is_scene_output shapes (record { node = node; field = r.field }) ≡ true) replies

or_left : (a b : Bool) → a ≡ true → (a || b) ≡ true
or_left a b h = rw h refl

or_right : (a b : Bool) → b ≡ true → (a || b) ≡ true
or_right true b h = refl
or_right false b h = h

either : (a b c : Bool) → (a || b) ≡ true → (b ≡ true → c ≡ true) → (a || c) ≡ true
either true b c h k = refl
either false b c h k = k h

and_both : (a b : Bool) → (a && b) ≡ true → (a ≡ true) × (b ≡ true)
and_both true b h = (refl, h)
and_both false b h = cc

-- a number that passes is among those of the range that pass
filtered-has : (p : ℕ → Bool) (a n field i : ℕ) → field ≡ a + i → i < n → p field ≡ true → list_any (λ g. g == field) (filter p (range_with_len a n)) ≡ true
filtered-has p a zero field i e h q = absurd (omega arith)
filtered-has p a (suc n) field zero e h q =
    let same : a ≡ field = omega arith in
    let passes : p a ≡ true = rw same q in
    rw (passes, eq-eqb a field same) refl
filtered-has p a (suc n) field (suc i) e h q = skip (p a) (filtered-has p (a + 1) n field i (omega arith) (omega arith) q)
  where
    skip : (b : Bool) → list_any (λ g. g == field) (filter p (range_with_len (a + 1) n)) ≡ true →
        list_any (λ g. g == field) (if b then a ∷ filter p (range_with_len (a + 1) n) else filter p (range_with_len (a + 1) n)) ≡ true
    skip true h = or_right (a == field) _ h
    skip false h = h

-- where there is something there is a place
slice_get_some : {X : Type 0} (xs : List X) (i : ℕ) → (slice_get xs i ≡ None → ⊥) → i < length xs
slice_get_some [] i n = absurd (n refl)
slice_get_some (x ∷ xs) zero n = omega arith
slice_get_some (x ∷ xs) (suc i) n = omega (arith, slice_get_some xs i n)

-- a field of a node has a number below the number of its rows
output-below : (shape : Shape) (field : ℕ) → is_output shape field ≡ true → field < length (rows_of shape)
output-below shape field h = within (rows_of shape) h
  where
    within : (es : List FieldRowView) → option_map_or (λ (e : FieldRowView). is_sender e.access) (slice_get es field) false ≡ true → field < length es
    within es h = slice_get_some es field (λ k. let no : option_map_or (λ (e : FieldRowView). is_sender e.access) (slice_get es field) false ≡ false = rw k refl in cc)

output-listed : (shape : Shape) (field : ℕ) → is_output shape field ≡ true → list_any (λ g. g == field) (output_fields shape) ≡ true
unfolding output_fields
output-listed shape field h =
    filtered-has (is_output shape) 0 (length (rows_of shape)) field field (sym (zero-add field)) (output-below shape field h) h

-- a node sends by the outputs of its type, whatever it declares
typed-output : (shape : Shape) (field : ℕ) → is_output_of_type shape.node_type field ≡ true → is_output shape field ≡ true
typed-output shape field h = front (rows shape.node_type) field field h
  where
    front : (es : List FieldRowView) (n i : ℕ) → option_map_or (λ (row : FieldRow). is_sender row.access) (option_map (numbered n) (slice_get es i)) false ≡ true →
        option_map_or (λ (e : FieldRowView). is_sender e.access) (slice_get (es ++ shape.declared) i) false ≡ true
    front [] n i h = cc
    front (e ∷ es) n zero h = h
    front (e ∷ es) n (suc i) h = front es n i h

same_node : (n field : ℕ) (fields : List ℕ) → list_any (λ g. g == field) fields ≡ true →
    list_any (λ e. same_end e (record { node = n; field = field })) (map (λ (g : ℕ). record { node = n; field = g }) fields) ≡ true
same_node n field [] h = h
same_node n field (g ∷ fields) h = rw (eq-eqb n n refl) (either (g == field) _ _ h (λ k. same_node n field fields k))

-- an output of a node is one of the scene's
ends_from-has : (n : ℕ) (shapes : List Shape) (i : ℕ) (shape : Shape) (field : ℕ) → slice_get shapes i ≡ Some shape →
    list_any (λ g. g == field) (output_fields shape) ≡ true → has_sent (ends_from n shapes) (record { node = n + i; field = field }) ≡ true
unfolding ends_from
ends_from-has n [] i shape field h m = cc
ends_from-has n (s ∷ ss) zero shape field h m =
    let e : s ≡ shape = cc in
    let m' : list_any (λ g. g == field) (output_fields s) ≡ true = rw e m in
    rw (add-zero, list_any-append) (or_left _ _ (same_node n field (output_fields s) m'))
ends_from-has n (s ∷ ss) (suc i) shape field h m =
    let e : n + suc i ≡ (n + 1) + i = omega arith in
    rw (e, list_any-append) (or_right _ _ (ends_from-has (n + 1) ss i shape field h m))

-- what a node sends by an output is sent by one of the scene's
pub one_output : (shapes : List Shape) (node : ℕ) (shape : Shape) (field : ℕ) → slice_get shapes node ≡ Some shape → is_output shape field ≡ true →
    is_scene_output shapes (record { node = node; field = field }) ≡ true
one_output shapes node shape field h o = rw (zero-add node) at (ends_from-has 0 shapes node shape field h (output-listed shape field o))

-- the replies of a node of the scene that leave by outputs of its type are sent by outputs of the scene
all_outputs : (shapes : List Shape) (node : ℕ) (shape : Shape) → slice_get shapes node ≡ Some shape → (replies : List SentEvent) → leave_by_outputs shape.node_type replies ≡ true →
    AllOutputs shapes node replies
all_outputs shapes node shape h [] all = tt
all_outputs shapes node shape h (r ∷ replies) all =
    let (one, rest) = and_both (is_output_of_type shape.node_type r.field) (leave_by_outputs shape.node_type replies) all in
    (one_output shapes node shape r.field h (typed-output shape r.field one), all_outputs shapes node shape h replies rest)

-- the same of a node whose type is known
all_by : (shapes : List Shape) (node : ℕ) (shape : Shape) (kind : NodeType) → slice_get shapes node ≡ Some shape → shape.node_type ≡ kind → (replies : List SentEvent) →
    leave_by_outputs kind replies ≡ true → AllOutputs shapes node replies
all_by shapes node shape kind h is replies all = all_outputs shapes node shape h replies (rw is all)

sensor_is : (kind : NodeType) → is_time_sensor kind ≡ true → kind ≡ TimeSensor
sensor_is kind h = same_true the_type (search rules) _ _ h

-- ---- an event

reacting-sends : (shapes : List Shape) (w : WorldData) (target : End) (v : Value) (shape : Shape) (fields : Option Fields) → slice_get shapes target.node ≡ Some shape →
    AllOutputs shapes target.node (reacting w target v shape.node_type fields).replies
reacting-sends shapes w target v shape None h = tt
reacting-sends shapes w target v shape (Some fields) h = all_outputs shapes target.node shape h _ (reaction-leaves shape.node_type fields target.field v w.last_time)

-- a Script that isn't run sends by the field that the event comes to, which is an inputOutput one
not_run-sends : (shapes : List Shape) (w : WorldData) (target : End) (v : Value) (shape : Shape) (fields : Option Fields) → slice_get shapes target.node ≡ Some shape →
    AllOutputs shapes target.node (not_run w target v (slice_get (rows_of shape) target.field) fields).replies
not_run-sends shapes w target v shape None h = tt
not_run-sends shapes w target v shape (Some fields) h = kept (is_set v (slice_get (rows_of shape) target.field)) refl
  where
    kept : (b : Bool) → is_set v (slice_get (rows_of shape) target.field) ≡ b → AllOutputs shapes target.node (if b then keeping w target v fields else nothing w).replies
    kept true is = (one_output shapes target.node shape target.field h (kept-sends v (slice_get (rows_of shape) target.field) is), tt)
    kept false is = tt

setting-sends : (shapes : List Shape) (w : WorldData) (target : End) (v : Value) (shape : Shape) (fields : Fields) (timing : Option TimeFieldsView) (cycle : Option (Option ℕ)) →
    slice_get shapes target.node ≡ Some shape → shape.node_type ≡ TimeSensor → AllOutputs shapes target.node (setting w target v fields timing cycle).replies
setting-sends shapes w target v shape fields None cycle h is = tt
setting-sends shapes w target v shape fields (Some timing) None h is = tt
setting-sends shapes w target v shape fields (Some timing) (Some cycle) h is =
    all_by shapes target.node shape TimeSensor h is _ (set-leaves cycle timing target.field v)

setting_at-sends : (shapes : List Shape) (w : WorldData) (target : End) (v : Value) (shape : Shape) (fields : Option Fields) → slice_get shapes target.node ≡ Some shape →
    shape.node_type ≡ TimeSensor → AllOutputs shapes target.node (setting_at w target v fields).replies
setting_at-sends shapes w target v shape None h is = tt
setting_at-sends shapes w target v shape (Some fields) h is = setting-sends shapes w target v shape fields (timing_of fields) (slice_get w.sensors target.node) h is

-- what a node answers is sent by outputs of the scene
pub answer-sends : (shapes : List Shape) (w : WorldData) (target : End) (v : Value) → AllOutputs shapes target.node (answer shapes w target v).replies
unfolding answer
answer-sends shapes w target v = by_shape (slice_get shapes target.node) refl
  where
    other : (shape : Shape) → slice_get shapes target.node ≡ Some shape → (b : Bool) →
        AllOutputs shapes target.node (if b
        then not_run w target v (slice_get (rows_of shape) target.field) (slice_get w.fields target.node)
        else reacting w target v shape.node_type (slice_get w.fields target.node)).replies
    other shape h true = not_run-sends shapes w target v shape (slice_get w.fields target.node) h
    other shape h false = reacting-sends shapes w target v shape (slice_get w.fields target.node) h

    by_touch : (shape : Shape) → slice_get shapes target.node ≡ Some shape → (b : Bool) →
        AllOutputs shapes target.node (if b
        then touching w target v shape.node_type (slice_get w.fields target.node)
        else (if is_script shape.node_type
        then not_run w target v (slice_get (rows_of shape) target.field) (slice_get w.fields target.node)
        else reacting w target v shape.node_type (slice_get w.fields target.node))).replies
    by_touch shape h true = all_outputs shapes target.node shape h _ (touching-leaves w target v shape.node_type (slice_get w.fields target.node))
    by_touch shape h false = other shape h (is_script shape.node_type)

    by_time : (shape : Shape) → slice_get shapes target.node ≡ Some shape → (b : Bool) → is_time_sensor shape.node_type ≡ b →
        AllOutputs shapes target.node (if b
        then setting_at w target v (slice_get w.fields target.node)
        else (if is_pointing shape.node_type
        then touching w target v shape.node_type (slice_get w.fields target.node)
        else (if is_script shape.node_type
        then not_run w target v (slice_get (rows_of shape) target.field) (slice_get w.fields target.node)
        else reacting w target v shape.node_type (slice_get w.fields target.node)))).replies
    by_time shape h true is = setting_at-sends shapes w target v shape (slice_get w.fields target.node) h (sensor_is shape.node_type is)
    by_time shape h false is = by_touch shape h (is_pointing shape.node_type)

    by_shape : (shape : Option Shape) → slice_get shapes target.node ≡ shape → AllOutputs shapes target.node (answer_as w target v shape).replies
    by_shape None h = tt
    by_shape (Some shape) h = by_time shape h (is_time_sensor shape.node_type) refl

-- ---- a tick

ticking-sends : (scene : SceneView) (w : WorldData) (node : ℕ) (now : ℤ) (timing : Option TimeFieldsView) (cycle : Option (Option ℕ)) →
    HasShape scene node TimeSensor → AllOutputs (shapes_of scene) node (ticking w node now timing cycle).replies
ticking-sends scene w node now None cycle h = tt
ticking-sends scene w node now (Some timing) None h = tt
ticking-sends scene w node now (Some timing) (Some cycle) h = all_by (shapes_of scene) node h.shape TimeSensor h.at h.is _ (tick-leaves cycle timing now)

ticking_at-sends : (scene : SceneView) (w : WorldData) (node : ℕ) (now : ℤ) (fields : Option Fields) →
    HasShape scene node TimeSensor → AllOutputs (shapes_of scene) node (ticking_at w node now fields).replies
ticking_at-sends scene w node now None h = tt
ticking_at-sends scene w node now (Some fields) h = ticking-sends scene w node now (timing_of fields) (slice_get w.sensors node) h

clock_is : (kinds : List NodeType) (node : ℕ) (kind : Option NodeType) → slice_get kinds node ≡ kind → option_map_or is_time_sensor kind false ≡ true → slice_get kinds node ≡ Some TimeSensor
clock_is kinds node None h is = cc
clock_is kinds node (Some kind) h is = h ∙ ap Some (sensor_is kind is)

-- what a time sensor sends at a tick is sent by outputs of the scene
pub ticked-sends : (scene : SceneView) (w : WorldData) (node : ℕ) (now : ℤ) → is_clock (types_of scene) node ≡ true →
    AllOutputs (shapes_of scene) node (ticked w node now).replies
unfolding ticked
ticked-sends scene w node now h =
    ticking_at-sends scene w node now (slice_get w.fields node)
    (shape_at scene node TimeSensor (clock_is (types_of scene) node (slice_get (types_of scene) node) refl h))

-- ---- a pointer

suited : (a b : Bool) → (a && b) ≡ true → b ≡ true
suited true b h = h
suited false b h = absurd cc

-- what a pointing sensor sends at a pointer is sent by outputs of the scene
pub met-sends : (scene : SceneView) (w : WorldData) (node : ℕ) (at : SensorPointer) → AllOutputs (shapes_of scene) node (met scene w node at).replies
unfolding met
met-sends scene w node at = by_state (slice_get w.pointing node)
  where
    by_kind : (state : PointingState) (kind : Option NodeType) → type_at scene node ≡ kind → option_map_or (λ k. is_state_of k state) kind false ≡ true →
        AllOutputs (shapes_of scene) node (meeting w node at state (slice_get w.fields node)).replies
    by_kind state None here is = absurd cc
    by_kind state (Some kind) here is =
        let h = shape_at scene node kind here in
        all_by (shapes_of scene) node h.shape kind h.at h.is _ (meeting-leaves w node at kind state (slice_get w.fields node) is)

    cases : (state : PointingState) (b : Bool) → is_met scene w node state ≡ b →
        AllOutputs (shapes_of scene) node (if b then meeting w node at state (slice_get w.fields node) else nothing w).replies
    cases state true on = by_kind state (type_at scene node) refl (suited (is_enabled scene w.fields node) _ on)
    cases state false off = tt

    by_state : (o : Option PointingState) → AllOutputs (shapes_of scene) node (met_as scene w node at o).replies
    by_state None = tt
    by_state (Some state) = cases state (is_met scene w node state) refl
