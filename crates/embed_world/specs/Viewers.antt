-- What the calls on an embedded viewer answer, and the viewer that they leave.
use Rattle.std.specs.Prelude.{◌≡◌, ◌⊎◌, ℕ, ℤ, List, [], Option, None, Result, Ok, Err, IfErr, IfNone, IfOk, IfSome, IsSomeAnd, OnErr, OnOk, slice_get, unwrap_or}
use Rattle.std.specs.Option.{option_map}
use Rattle.std.specs.Result.{result_map_both}
use Rattle.sha2.specs.Sha256.{sha256}
use Rattle.cascade_core.specs.Apply.{opening}
use Rattle.cascade_core.specs.Course.{Scripted}
use Rattle.cascade_core.specs.Forgetting.{forget, forget_refusal}
use Rattle.cascade_core.specs.Held.{StageView}
use Rattle.cascade_core.specs.Installing.{RefusesBox}
use Rattle.cascade_core.specs.Scripts.{kinds_in, scripts_in}
use Rattle.cascade_core.specs.declared.fault.ForgetFault.{ForgetFault}
use Rattle.cascade_core.specs.declared.fault.PlaceFault.{PlaceFault}
use Rattle.cascade_core.specs.declared.fault.PlaceFault.TheVariants as place
use Rattle.x3d_values.specs.declared.script.Kind.{Kind}
use Rattle.x3d_lists.specs.Answers.{Gives}
use Rattle.x3d_values.specs.declared.pointing.Point.{Point}
use Rattle.app_jobs.specs.declared.fault.JobFault.{JobFault}
use Rattle.app_jobs.specs.declared.fault.JobFault.TheVariants.{Memory}
use Rattle.share_wire.specs.Datagram.{datagram}
use Rattle.share_wire.specs.Decoding.{decoded}
use Rattle.share_wire.specs.declared.message.Body.{Body}
use Rattle.share_law.specs.Calls.{IsGatherOf, IsTakeOf}
use Rattle.share_law.specs.Pieces.{Gathering, whole_of}
use Rattle.share_law.specs.Viewer.{ViewerState, ViewerWorld, Running, Spoiled, begun, with_view, viewer_ask, viewer_offer, viewer_resend}
use Rattle.share_law.specs.declared.fault.GatherFault.{GatherFault}
use Rattle.share_law.specs.declared.fault.JoinFault.{JoinFault}
use Rattle.share_law.specs.declared.fault.OfferFault.{OfferFault}
use Rattle.share_law.specs.declared.fault.TakeFault.{TakeFault}
use Rattle.share_law.specs.declared.reply.Gathered.{Gathered}
use Rattle.share_law.specs.declared.reply.Taken.{Taken}
use Rattle.share_core.specs.Pieces.{count_of, piece_of}
use Rattle.share_core.specs.Rewinds.{IsJoined, IsRewound}
use Rattle.share_core.specs.Viewer.{ViewerView, held_in, machine_of, stage_in, with_gathering, with_state}
use Rattle.snapshot_core.specs.declared.fault.SaveFault.{SaveFault}
use Rattle.snapshot_core.specs.declared.fault.SaveFault.TheVariants as save
use Rattle.snapshot_core.specs.declared.fault.SnapFault.{SnapFault}
use Rattle.embed_changes.specs.Changes.{Listing}
use Rattle.embed_world.specs.Looks.{snapshot_in}
use Rattle.embed_world.specs.declared.fault.LookFault.{LookFault}
use Rattle.embed_world.specs.declared.fault.LookFault.TheVariants as look
use Rattle.embed_world.specs.declared.lists.ListEntry.{ListEntry}
use Rattle.app_program.specs.Stages.{opened_stage}
use Rattle.embed_world.specs.declared.viewer.EmbeddedViewer.{EmbeddedViewer}

-- a viewer that begins with a stage of the scene with this mark
abbrev pub viewer_from : List ℕ → (who boot : ℕ) → StageView → ViewerView
viewer_from mark who boot stage =
    record {
      mark = mark;
      who = who;
      scene = stage.scene;
      routes = stage.routes;
      state = begun boot (opening stage.scene stage.routes);
      gathering = None;
    }

-- the viewer of a text before any input, or why there is none
abbrev pub IsStarted : List ℕ → (who boot : ℕ) → Result EmbeddedViewer JobFault → Type 0
IsStarted text who boot result =
    Gives Memory (λ (v : EmbeddedViewer). v.viewer) result
    (result_map_both (viewer_from (sha256 text) who boot) (λ fault. fault) (opened_stage text))
    × IfOk result (λ v. v.text.items ≡ [])
    × IfOk result (λ v. v.numbers.items ≡ [])
    × IfOk result (λ v. v.changed ≡ [])

-- -- calls

abbrev pub in_state : EmbeddedViewer → ViewerState Scripted → EmbeddedViewer
in_state v state = record v { viewer = with_state v.viewer state }

abbrev pub gathering : EmbeddedViewer → Option Gathering → EmbeddedViewer
gathering v held = record v { viewer = with_gathering v.viewer held }

-- the viewer without what it gathered
abbrev pub forgetting : EmbeddedViewer → EmbeddedViewer
forgetting v = gathering v None

-- bytes are taken, or refused, as share_core's viewer does
abbrev pub Takes : EmbeddedViewer → List ℕ → Result Taken TakeFault → EmbeddedViewer → Type 0
Takes old bytes result new =
    IsTakeOf (machine_of old.viewer) old.viewer.mark old.viewer.who old.viewer.state
    old.viewer.state.view (decoded bytes) result new.viewer.state
    × (new ≡ in_state old new.viewer.state)

-- a point is offered, or refused, as share_core's viewer does
abbrev pub Offers : EmbeddedViewer → Point → Result ℕ OfferFault → EmbeddedViewer → Type 0
Offers old point result new =
    (viewer_offer old.viewer.state point ≡ (result, new.viewer.state))
    × (new ≡ in_state old new.viewer.state)

-- the viewer begins again in a snapshot's world, or not, as share_core's viewer does
abbrev pub Rewinds : EmbeddedViewer → (boot : ℕ) → List ℕ → Result ℕ SnapFault → EmbeddedViewer
    → Type 0
Rewinds old boot bytes result new =
    IsRewound old.viewer boot bytes result new.viewer.state
    × (new ≡ in_state old new.viewer.state)

-- bytes are gathered, or refused, as share_core's viewer does
abbrev pub Gathers : EmbeddedViewer → List ℕ → Result Gathered GatherFault → EmbeddedViewer → Type 0
Gathers old bytes result new =
    IsGatherOf old.viewer.mark old.viewer.gathering (decoded bytes) result new.viewer.gathering
    × (new ≡ gathering old new.viewer.gathering)

-- the viewer begins again in the world that it gathered, or not, as share_core's viewer does
abbrev pub Joins : EmbeddedViewer → (boot : ℕ) → Result ℕ JoinFault → EmbeddedViewer → Type 0
Joins old boot result new =
    IsJoined old.viewer (whole_of old.viewer.gathering) boot result new.viewer.state
    new.viewer.gathering
    × (new ≡ gathering (in_state old new.viewer.state) new.viewer.gathering)

-- the world of a viewer without the lines of its trace of inputs below a number
abbrev pub forgot_below : (below : ℕ) → ViewerWorld Scripted → ViewerWorld Scripted
forgot_below below (Running w window) = Running (forget below w) window
forgot_below below (Spoiled count) = Spoiled count

-- the lines of the trace of inputs below a number were forgotten, and nothing else; or the number
-- is refused, as for a world, and nothing changes
abbrev pub Forgets : EmbeddedViewer → (below : ℕ) → Result (Unit {0}) ForgetFault → EmbeddedViewer
    → Type 0
Forgets old below result new =
    IfNone (forget_refusal below (held_in old.viewer.state.view)) ((result ≡ Ok tt)
    × (new ≡ in_state old
    (with_view old.viewer.state (forgot_below below old.viewer.state.view))))
    × IfSome (forget_refusal below (held_in old.viewer.state.view)) (λ fault.
    (result ≡ Err fault) × (new ≡ old))

-- ---- datagrams

abbrev pub viewer_datagram : EmbeddedViewer → Body → List ℕ
viewer_datagram v body = datagram (record { mark = v.viewer.mark; body = body })

-- the datagram of the offer that waits at a place
abbrev pub offer_bytes : EmbeddedViewer → ℕ → Option (List ℕ)
offer_bytes v place =
    option_map (viewer_datagram v) (viewer_resend v.viewer.who v.viewer.state place)

-- the datagram that asks for the inputs that the viewer lacks
abbrev pub ask_bytes : EmbeddedViewer → List ℕ
ask_bytes v = viewer_datagram v (viewer_ask (machine_of v.viewer) v.viewer.who v.viewer.state)

-- the number of pieces that the bytes of a snapshot have
abbrev pub pieces_in : List ℕ → ℕ
pieces_in bytes = unwrap_or (count_of bytes) 0

-- the datagram of a piece of a snapshot's bytes
abbrev pub piece_bytes : EmbeddedViewer → List ℕ → ℕ → Option (List ℕ)
piece_bytes v bytes index = option_map (viewer_datagram v) (piece_of bytes index)

-- -- what is read of the viewer's world

-- the text was made of the world, which is unchanged
abbrev pub Makes : Result (List ℕ) LookFault → EmbeddedViewer → Result (Unit {0}) LookFault
    → EmbeddedViewer → Type 0
Makes text old result new =
    Gives look.Memory (λ _. new.text.items) result text
    × OnErr result (new.text.items ≡ [])
    × (new ≡ record old { text = new.text })

-- the numbers were listed of the world, which is unchanged
abbrev pub Lists : Result (List ℤ) LookFault → EmbeddedViewer → Result (Unit {0}) LookFault
    → EmbeddedViewer → Type 0
Lists numbers old result new =
    Gives look.Memory (λ _. new.numbers.items) result numbers
    × OnErr result (new.numbers.items ≡ [])
    × (new ≡ record old { numbers = new.numbers })

-- the fields that were set, and the numbers of their values, were listed of the world, which is
-- unchanged
abbrev pub ListsChanged : Result Listing LookFault → EmbeddedViewer → Result (Unit {0}) LookFault
    → EmbeddedViewer → Type 0
ListsChanged listing old result new =
    Gives look.Memory (λ _. (new.changed, new.numbers.items)) result listing
    × OnErr result (new.changed ≡ [])
    × OnErr result (new.numbers.items ≡ [])
    × (new ≡ record old { changed = new.changed; numbers = new.numbers })

-- where a ray enters was returned, and the sensors were listed, of the world, which is unchanged
abbrev pub Meets : Result (Option ListEntry × List ℤ) LookFault → EmbeddedViewer
    → Result (Option ListEntry) LookFault → EmbeddedViewer → Type 0
Meets met old result new =
    Gives look.Memory (λ entry. (entry, new.numbers.items)) result met
    × OnErr result (new.numbers.items ≡ [])
    × (new ≡ record old { numbers = new.numbers })

-- the snapshot of the world, taken as the viewer's boot, was made, and the viewer is unchanged
abbrev pub Saves : EmbeddedViewer → Result (Unit {0}) SaveFault → EmbeddedViewer → Type 0
Saves old result new =
    Gives save.Memory (λ _. new.text.items) result
    (snapshot_in (stage_in old.viewer) old.viewer.mark old.viewer.state.boot)
    × OnErr result (new.text.items ≡ [])
    × (new ≡ record old { text = new.text })

-- a box of this kind replaced script k, or was refused, and the viewer is unchanged
abbrev pub Replaces : EmbeddedViewer → (k : ℕ) → Kind → Result (Unit {0}) PlaceFault
    → EmbeddedViewer → Type 0
Replaces old k kind result new =
    (new ≡ old)
    × OnOk result (IsSomeAnd (slice_get (kinds_in old.viewer.scene) k) (λ own. kind ≡ own))
    × IfErr result (λ fault. (fault ≡ place.Memory)
    ⊎ RefusesBox fault (held_in old.viewer.state.view)
    (slice_get (scripts_in old.viewer.scene) k) kind)
