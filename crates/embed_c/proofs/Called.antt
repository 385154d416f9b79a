-- What a handle has behind a call.
use Rattle.std.proofs.Common.{◌≡◌, ℕ, List, Option, Some, Result, subst}
use Rattle.x3d_values.specs.Stamp.{StampedView}
use Rattle.x3d_values.specs.Pointing.{RayView}
use Rattle.cascade_core.specs.declared.fault.ApplyFault.{ApplyFault}
use Rattle.cascade_core.specs.declared.work.Work.{Work}
use Rattle.snapshot_core.specs.declared.fault.SnapFault.{SnapFault}
use Rattle.snapshot_core.specs.declared.loading.Saved.{Saved}
use Rattle.embed_world.specs.Calls.{Applies, Loads, Meets}
use Rattle.embed_world.specs.Looks.{meeting_in}
use Rattle.embed_world.specs.declared.fault.LookFault.{LookFault}
use Rattle.embed_world.specs.declared.lists.ListEntry.{ListEntry}
use Rattle.embed_world.specs.declared.world.EmbeddedWorld.{EmbeddedWorld}
use Rattle.embed_c.specs.Answers.{AppliesAt, LoadsAt, MeetsAt, Meeting, counted, saved_as, status_of_load, status_of_meet, status_of_work, told}
use Rattle.embed_world.specs.Status.{Calls, CallsOut, HandsOut, IsHandedOut}
use Rattle.embed_c.specs.declared.inputs.WorkCount.{WorkCount}
use Rattle.embed_c.specs.declared.lists.Met.{Met}
use Rattle.embed_c.specs.declared.shots.SavedAs.{SavedAs}

pub called : {H A : Type 0} (does : H → A → H → Type 0) (status_of : A → ℕ) (before after : Option H) (status : ℕ) (w next : H) (answer : A)
    → Some w ≡ before → does w answer next → status ≡ status_of answer → after ≡ Some next → Calls does status_of before status after
called {H} does status_of before after status w next answer is done says left =
    subst (λ (o : Option H). Calls does status_of o status after) is (answer, next, done, says, left)

pub called_out : {H A O : Type 0} (does : H → A → H → Type 0) (status_of : A → ℕ) (told : O → A → O) (before after : Option H) (status : ℕ) (old new : O) (w next : H) (answer : A)
    → Some w ≡ before → does w answer next → status ≡ status_of answer → after ≡ Some next → new ≡ told old answer → CallsOut does status_of told before status after old new
called_out {H} does status_of told before after status old new w next answer is done says left tells =
    subst (λ (o : Option H). CallsOut does status_of told o status after old new) is (answer, next, done, says, left, tells)

pub hands_out : {H : Type 0} (none : ℕ) (made : H → Option (List ℕ)) (before : Option H) (status : ℕ) (old : List ℕ) (wanted_old wanted : ℕ) (new : List ℕ) (h : H) (packet : Option (List ℕ))
    → Some h ≡ before → packet ≡ made h → IsHandedOut none packet old status wanted_old wanted new → HandsOut none made before status old wanted_old wanted new
hands_out {H} none made before status old wanted_old wanted new h packet is same handed =
    subst (λ (o : Option H). HandsOut none made o status old wanted_old wanted new) is
    (subst (λ (p : Option (List ℕ)). IsHandedOut none p old status wanted_old wanted new) same handed)

pub applied : (input : StampedView) (before after : Option EmbeddedWorld) (status : ℕ) (old new : WorkCount) (w next : EmbeddedWorld) (answer : Result Work ApplyFault)
    → Some w ≡ before → Applies w input answer next → status ≡ status_of_work answer → after ≡ Some next → new ≡ counted old answer → AppliesAt input before status after old new
applied input before after status old new w next answer is done says left count =
    subst (λ (o : Option EmbeddedWorld). AppliesAt input o status after old new) is (answer, next, done, says, left, count)

pub loads : (boot : ℕ) (bytes : List ℕ) (before after : Option EmbeddedWorld) (status : ℕ) (old new : SavedAs) (w next : EmbeddedWorld) (answer : Result Saved SnapFault)
    → Some w ≡ before → Loads w boot bytes answer next → status ≡ status_of_load answer → after ≡ Some next → new ≡ saved_as old answer → LoadsAt boot bytes before status after old new
loads boot bytes before after status old new w next answer is done says left told =
    subst (λ (o : Option EmbeddedWorld). LoadsAt boot bytes o status after old new) is (answer, next, done, says, left, told)

meets_at : (ray : RayView) (before after : Option EmbeddedWorld) (status : ℕ) (old new : Met) (w next : EmbeddedWorld) (answer : Result (Option ListEntry) LookFault)
    → Some w ≡ before → Meets (meeting_in w.stage ray) w answer next → status ≡ status_of_meet answer → after ≡ Some next → new ≡ told old answer → MeetsAt ray before status after old new
meets_at ray before after status old new w next answer is done says left tells =
    subst (λ (o : Option EmbeddedWorld). MeetsAt ray o status after old new) is (answer, next, done, says, left, tells)

pub meets : (asked : Option RayView) (ray : RayView) (before after : Option EmbeddedWorld) (status : ℕ) (old new : Met) (w next : EmbeddedWorld) (answer : Result (Option ListEntry) LookFault)
    → Some ray ≡ asked → Some w ≡ before → Meets (meeting_in w.stage ray) w answer next → status ≡ status_of_meet answer → after ≡ Some next → new ≡ told old answer → Meeting asked before status after old new
meets asked ray before after status old new w next answer of is done says left tells =
    subst (λ (o : Option RayView). Meeting o before status after old new) of (meets_at ray before after status old new w next answer is done says left tells)
