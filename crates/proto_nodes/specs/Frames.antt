-- The work that is left in the frames. None of this is part of the definition of a flat document.
use Rattle.std.specs.Prelude.{◌≡◌, ◌⊎◌, ℕ, Bool, true, false, is_some, List, [], ◌∷◌, ◌++◌, Option, Some, None, Result, Ok, Err}
use Rattle.std.specs.declared.alloc.AllocError.{AllocError}
use Rattle.classic_tree.specs.declared.tree.RawValue.{RawValue}
use Rattle.classic_tree.specs.declared.tree.RawValue.TheVariants as value
use Rattle.proto_flat.specs.Fault.{memory}
use Rattle.proto_flat.specs.declared.fault.ExpandFault.{ExpandFault}
use Rattle.proto_meaning.specs.Flat as flat
use Rattle.proto_meaning.specs.Flat.{Does, ◌>>=◌, pure, comes}
use Rattle.proto_meaning.specs.Names.{Name, Filled}
use Rattle.proto_meaning.specs.Sight.{Prototype}
use Rattle.proto_parts.specs.Given as table
use Rattle.proto_parts.specs.Inside as inside
use Rattle.proto_parts.specs.Fields.{numbered}
use Rattle.proto_parts.specs.Settled.{State, doing}
use Rattle.proto_parts.specs.Scope as scope
use Rattle.proto_meaning.specs.trees.Meaning.{node, gives}
use Rattle.proto_meaning.specs.trees.Given.{GivenTree}
use Rattle.proto_meaning.specs.declared.tree.NodeTree.{NodeTree}
use Rattle.proto_nodes.specs.Shown as shown
use Rattle.proto_nodes.specs.declared.walker.Walker.{Walker}
use Rattle.proto_nodes.specs.declared.frames.ProtoBody.{ProtoBody}
use Rattle.proto_nodes.specs.declared.frames.Filling.{Filling}
use Rattle.proto_nodes.specs.declared.frames.Frame.{Frame}
use Rattle.proto_nodes.specs.declared.frames.Frame.TheVariants as frame
use Rattle.proto_nodes.specs.declared.frames.Holder.{Holder}
use Rattle.proto_nodes.specs.declared.frames.Holder.TheVariants.{Braces, Defaults}
use Rattle.proto_nodes.specs.declared.frames.WalkState.{WalkState}
use Rattle.proto_nodes.specs.declared.frames.Next.{Next}
use Rattle.proto_nodes.specs.declared.frames.Next.TheVariants as next
use Rattle.proto_nodes.specs.declared.frames.Open.{Open}
use Rattle.proto_nodes.specs.declared.frames.FieldAt.{FieldAt}
use Rattle.proto_nodes.specs.declared.frames.NodeTask.{NodeTask}
use Rattle.proto_nodes.specs.declared.frames.NodeTask.TheVariants as task
use Rattle.proto_nodes.specs.Does.{Comes, after, done, nodes_do, open_does, inside_now, with_value, first_of, body_comes, filling_comes, filled_now, default_value}

-- ---- the results

-- the result of a holder as it is, and with one value more
unfoldable pub holder_comes : List Prototype → Holder → State → Comes ℕ
holder_comes ps (Braces o) s = doing (open_does ps o (inside_now ps o)) s
holder_comes ps (Defaults f) s =
    filling_comes ps f.around.value f.rest.now (filled_now f) s

unfoldable pub value_comes : List Prototype → Holder → FieldAt → RawValue ℕ → State → Comes ℕ
value_comes ps (Braces o) p v s = doing (open_does ps o (with_value ps o p v)) s
value_comes ps (Defaults f) p v s =
    filling_comes ps f.around.value f.rest.now
    (filled_now f ++ default_value p v ∷ []) s

unfoldable pub list_comes : List Prototype → Holder → FieldAt → List NodeTree → List ℕ → State
    → Comes ℕ
list_comes ps h p rest numbers s =
    after (doing (nodes_do ps rest numbers) s) (λ ns. value_comes ps h p (value.NodeList ns))

-- a body has one node more
abbrev pub held : Option ℕ → ℕ → Does (List ℕ)
held None n = pure (n ∷ [])
held (Some first) n =
    λ w. comes (Ok (
      first ∷ [],
      record w { put = record w.put { helpers = w.put.helpers ++ n ∷ [] } },
    ))

-- the result of a frame with the number that it waits for
unfoldable pub frame_comes : List Prototype → Frame → ℕ → State → Comes ℕ
frame_comes ps (frame.One h p) n s = value_comes ps h p (value.Node n) s
frame_comes ps (frame.List h l) n s =
    list_comes ps h l.place l.rest.now (l.numbers ++ n ∷ []) s
frame_comes ps (frame.Body b) n s =
    after (doing (held b.first n) s) (body_comes ps b.around.value b.rest.now)

-- the results of the frames, the last first
unfoldable pub frames_come : List Prototype → List Frame → ℕ → State → Comes ℕ
frames_come ps [] n s = done n s
frames_come ps (f ∷ fs) n s = after (frames_come ps fs n s) (frame_comes ps f)

unfoldable pub task_comes : List Prototype → NodeTask → State → Comes ℕ
task_comes ps (task.On h) s = holder_comes ps h s
task_comes ps (task.List h l) s = list_comes ps h l.place l.rest.now l.numbers s
task_comes ps (task.Body b) s = body_comes ps b.around.value b.rest.now (first_of b.first) s
task_comes ps (task.NodeFor f n) s = after (doing (node ps n.now).does s) (frame_comes ps f)
task_comes ps (task.Number n) s = done n s

-- the result of the task, and then of the frames
abbrev pub all_comes : List Prototype → NodeTask → WalkState → Comes ℕ
all_comes ps t m = after (task_comes ps t (shown.shown m.walker)) (frames_come ps m.frames.items)

-- the result by what comes next: the next step, a field whose value is a node or a list of nodes,
-- or nothing. `on` is the result of the rest as it is, `more` with one value more
abbrev pub next_by : List Prototype → (State → Comes ℕ) → (FieldAt → RawValue ℕ → State → Comes ℕ)
    → Next → State → Comes ℕ
next_by ps on more next.On s = on s
next_by ps on more (next.One p n) s =
    after (doing (node ps n.now).does s) (λ number. more p (value.Node number))
next_by ps on more (next.List p nodes) s =
    after (doing (nodes_do ps nodes.now []) s) (λ ns. more p (value.NodeList ns))
next_by ps on more next.Closed s = on s

abbrev pub open_next : List Prototype → Open → Next → State → Comes ℕ
open_next ps o =
    next_by ps (doing (open_does ps o (inside_now ps o)))
    (λ p v. doing (open_does ps o (with_value ps o p v)))

abbrev pub filling_next : List Prototype → Filling → Next → State → Comes ℕ
filling_next ps f =
    next_by ps (filling_comes ps f.around.value f.rest.now (filled_now f))
    (λ p v. filling_comes ps f.around.value f.rest.now (filled_now f ++ default_value p v ∷ []))

abbrev pub holder_next : List Prototype → Holder → Next → State → Comes ℕ
holder_next ps h = next_by ps (holder_comes ps h) (value_comes ps h)

-- ---- the tables agree with what they stand for

-- each of these fields has a value
abbrev pub AllValued : List Filled → Type 0
AllValued [] = Unit
AllValued (f ∷ fs) = (is_some f.value ≡ true) × AllValued fs

pub record FillingSound (f : Filling) : Type 0 where
  pub given : table.IsHeld f.given
  pub defaults : table.IsHeld f.defaults
  pub valued : AllValued (table.shown f.defaults)
  pub around : scope.Sound f.around.value.scope

abbrev pub HolderSound : Holder → Type 0
HolderSound (Braces o) = inside.Sound o.inside
HolderSound (Defaults f) = FillingSound f

-- the field has no value yet
abbrev pub IsFree : Holder → Name → Type 0
IsFree (Braces o) name = table.has_name name (inside.filled_in o.inside) ≡ false
IsFree (Defaults f) name = table.has_name name (table.shown f.defaults) ≡ false

abbrev pub BodySound : ProtoBody → Type 0
BodySound b = scope.Sound b.around.value.scope

abbrev pub FrameSound : Frame → Type 0
FrameSound (frame.One h p) = HolderSound h × IsFree h p.name.now
FrameSound (frame.List h l) = HolderSound h × IsFree h l.place.name.now
FrameSound (frame.Body b) = BodySound b

abbrev pub FramesSound : List Frame → Type 0
FramesSound [] = Unit
FramesSound (f ∷ fs) = FrameSound f × FramesSound fs

abbrev pub TaskSound : NodeTask → Type 0
TaskSound (task.On h) = HolderSound h
TaskSound (task.List h l) = HolderSound h × IsFree h l.place.name.now
TaskSound (task.Body b) = BodySound b
TaskSound (task.NodeFor f n) = FrameSound f
TaskSound (task.Number n) = Unit

abbrev pub OpenFits : Open → Next → Type 0
OpenFits o next.On = Unit
OpenFits o (next.One p n) =
    table.has_name p.name.now (inside.filled_in o.inside) ≡ false
OpenFits o (next.List p nodes) =
    table.has_name p.name.now (inside.filled_in o.inside) ≡ false
OpenFits o next.Closed = o.rest.now ≡ []

abbrev pub FillingFits : Filling → Next → Type 0
FillingFits f next.On = Unit
FillingFits f (next.One p n) = table.has_name p.name.now (table.shown f.defaults) ≡ false
FillingFits f (next.List p nodes) = table.has_name p.name.now (table.shown f.defaults) ≡ false
FillingFits f next.Closed = f.rest.now ≡ []

abbrev pub HolderFits : Holder → Next → Type 0
HolderFits (Braces o) n = OpenFits o n
HolderFits (Defaults f) n = FillingFits f n

pub record MachineSound (m : WalkState) : Type 0 where
  pub walker : shown.Sound m.walker
  pub frames : FramesSound m.frames.items

-- ---- a step

-- the result of what is to be done next is the same, unless memory runs out
abbrev pub Goes : List Prototype → Comes ℕ → Result NodeTask ExpandFault → State → Type 0
Goes ps outcome (Ok t) s = outcome ≡ task_comes ps t s
Goes ps outcome (Err e) s = (e ≡ memory) ⊎ (outcome ≡ Err e)

-- like `Goes`, for the result of all
abbrev pub AllGoes : List Prototype → Comes ℕ → Result NodeTask ExpandFault → WalkState → Type 0
AllGoes ps outcome (Ok t) m = outcome ≡ all_comes ps t m
AllGoes ps outcome (Err e) m = (e ≡ memory) ⊎ (outcome ≡ Err e)

-- like `AllGoes`, with what comes next in place of the task
abbrev pub StepsOn : List Prototype → Comes ℕ → Result (Unit {0}) ExpandFault → NodeTask → WalkState
    → Type 0
StepsOn ps outcome (Ok u) t m = outcome ≡ all_comes ps t m
StepsOn ps outcome (Err e) t m = (e ≡ memory) ⊎ (outcome ≡ Err e)

-- the result of all the work
abbrev pub Ends : {A X : Type 0} → (A → X) → Comes X → Result A ExpandFault → State → Type 0
Ends view outcome (Ok a) s = outcome ≡ Ok (view a, s)
Ends view outcome (Err e) s = (e ≡ memory) ⊎ (outcome ≡ Err e)

-- something is done between braces, and then the rest there
abbrev pub item_comes : List Prototype → (flat.Inside → Does flat.Inside) → Open → State → Comes ℕ
item_comes ps m o s = doing (m (inside_now ps o) >>= open_does ps o) s

abbrev pub given_at : FieldAt → Bool → GivenTree flat.Node → flat.Inside → Does flat.Inside
given_at p twice g i = gives p.line (numbered p.name.now p.field) twice g i

-- like `Goes`, for a step between braces, and for one in a holder
abbrev pub OpenGoes : List Prototype → Comes ℕ → Result Next ExpandFault → Walker → Open → Type 0
OpenGoes ps outcome (Ok n) walker o = outcome ≡ open_next ps o n (shown.shown walker)
OpenGoes ps outcome (Err e) walker o = (e ≡ memory) ⊎ (outcome ≡ Err e)

abbrev pub OpenSound : Result Next ExpandFault → Walker → Open → Type 0
OpenSound (Ok n) walker o = shown.Sound walker × inside.Sound o.inside × OpenFits o n
OpenSound (Err e) walker o = Unit

abbrev pub HolderGoes : List Prototype → Comes ℕ → Result Next ExpandFault → Walker → Holder
    → Type 0
HolderGoes ps outcome (Ok n) walker h = outcome ≡ holder_next ps h n (shown.shown walker)
HolderGoes ps outcome (Err e) walker h = (e ≡ memory) ⊎ (outcome ≡ Err e)

abbrev pub HolderGoesSound : Result Next ExpandFault → Walker → Holder → Type 0
HolderGoesSound (Ok n) walker h = shown.Sound walker × HolderSound h × HolderFits h n
HolderGoesSound (Err e) walker h = Unit

-- like `Goes`, for a step on default values, which leaves the walk unchanged
abbrev pub DefaultGoes : List Prototype → Comes ℕ → Result Next AllocError → Filling → State
    → Type 0
DefaultGoes ps outcome (Ok n) f s = outcome ≡ filling_next ps f n s
DefaultGoes ps outcome (Err e) f s = Unit

abbrev pub DefaultSound : Result Next AllocError → Filling → Type 0
DefaultSound (Ok n) f = FillingSound f × FillingFits f n
DefaultSound (Err e) f = Unit

-- one value more, after the others
pub record HasFilled (old : Filling) (value : Filled) (new : Filling) : Type 0 where
  pub filled : filled_now new ≡ filled_now old ++ value ∷ []
  pub rest : new.rest ≡ old.rest
  pub around : new.around ≡ old.around
  pub sound : FillingSound new

-- the next step, if the step before succeeded
abbrev pub on_or : Result (Unit {0}) ExpandFault → Result Next ExpandFault
on_or (Ok u) = Ok next.On
on_or (Err e) = Err e

-- the rest of a body, if the step before succeeded
abbrev pub body_or : ProtoBody → Result (Unit {0}) ExpandFault → Result NodeTask ExpandFault
body_or b (Ok u) = Ok (task.Body b)
body_or b (Err e) = Err e

-- the first of these, and the rest
abbrev pub IsSplit : {A : Type 0} → List A → Option (A × List A) → Type 0
IsSplit all None = all ≡ []
IsSplit all (Some p) = all ≡ p.0 ∷ p.1

abbrev pub next_or : Result Next AllocError → Result Next ExpandFault
next_or (Ok n) = Ok n
next_or (Err e) = Err memory
