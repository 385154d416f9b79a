-- Frames that wait for a number.
use Rattle.std.proofs.Common.{◌≡◌, ℕ, List, [], ◌∷◌, ◌++◌, Bor, Result, Ok, Err, refl, ap, sym, subst, ◌∙◌, inl, inr}
use Rattle.std.specs.Prelude.{◌⊎◌, IfOk}
use Rattle.classic_tree.specs.declared.tree.RawValue.{RawValue}
use Rattle.classic_tree.specs.declared.tree.RawValue.TheVariants as value
use Rattle.proto_flat.specs.Fault.{memory}
use Rattle.proto_flat.specs.declared.fault.ExpandFault.{ExpandFault}
use Rattle.proto_meaning.specs.Flat.{pure}
use Rattle.proto_meaning.specs.Sight.{Prototype}
use Rattle.proto_parts.specs.Settled.{State, doing}
use Rattle.proto_nodes.specs.Shown.{shown, Sound}
use Rattle.proto_nodes.specs.declared.walker.Walker.{Walker}
use Rattle.proto_meaning.specs.trees.Meaning.{node}
use Rattle.std.specs.declared.alloc.AllocError.{AllocError}
use Rattle.proto_meaning.specs.declared.tree.DefaultTree.{DefaultTree}
use Rattle.proto_meaning.specs.declared.tree.NodeTree.{NodeTree}
use Rattle.proto_nodes.specs.declared.frames.ProtoBody.{ProtoBody}
use Rattle.proto_nodes.specs.declared.frames.Filling.{Filling}
use Rattle.proto_nodes.specs.declared.frames.Open.{Open}
use Rattle.proto_nodes.specs.declared.frames.Frame.{Frame}
use Rattle.proto_nodes.specs.declared.frames.Frame.TheVariants as frame
use Rattle.proto_nodes.specs.declared.frames.Holder.{Holder}
use Rattle.proto_nodes.specs.declared.frames.Holder.TheVariants as holder
use Rattle.proto_nodes.specs.declared.frames.Listing.{Listing}
use Rattle.proto_nodes.specs.declared.frames.WalkState.{WalkState}
use Rattle.proto_nodes.specs.declared.frames.Next.{Next}
use Rattle.proto_nodes.specs.declared.frames.Next.TheVariants as next
use Rattle.proto_nodes.specs.declared.frames.FieldAt.{FieldAt}
use Rattle.proto_nodes.specs.declared.frames.NodeTask.{NodeTask}
use Rattle.proto_nodes.specs.declared.frames.NodeTask.TheVariants as task
use Rattle.proto_nodes.specs.declared.frames.Proto.{Proto}
use Rattle.proto_nodes.specs.Protos.{Knows}
use Rattle.proto_nodes.specs.Does.{Comes, after, nodes_do, body_comes, first_of, default_value, filled_now, filling_comes, inside_now, open_does, with_value}
use Rattle.proto_nodes.specs.Frames.{AllGoes, BodySound, DefaultGoes, DefaultSound, Ends, FrameSound, FramesSound, Goes, HasFilled, HolderFits, HolderGoes, HolderGoesSound, HolderSound, OpenGoes, OpenSound, next_or, IsFree, MachineSound, TaskSound, all_comes, frame_comes, frames_come, holder_comes, holder_next, list_comes, task_comes, value_comes}
use Rattle.proto_nodes.proofs.NodeSteps.{goes-as, same-stop, then-assoc, then-same, then-done, then-stop, doing-assoc}

-- ---- the frames

pub frames-push : (ps : List Prototype) (fs : List Frame) (f : Frame) (n : ℕ) (s : State) → frames_come ps (fs ++ f ∷ []) n s ≡ after (frame_comes ps f n s) (frames_come ps fs)
unfolding frames_come
frames-push ps [] f n s = sym (then-done (frame_comes ps f n s))
frames-push ps (g ∷ gs) f n s =
    ap (λ o. after o (frame_comes ps g)) (frames-push ps gs f n s) ∙ then-assoc (frame_comes ps f n s) (frames_come ps gs) (frame_comes ps g)

pub no-frames : (ps : List Prototype) (fs : List Frame) (o : Comes ℕ) → fs ≡ [] → after o (frames_come ps fs) ≡ o
unfolding frames_come
no-frames ps fs o is = ap (λ xs. after o (frames_come ps xs)) is ∙ then-done o

pub sound-push : (fs : List Frame) (f : Frame) → FramesSound fs → FrameSound f → FramesSound (fs ++ f ∷ [])
sound-push [] f k h = (h, tt)
sound-push (g ∷ gs) f k h = (k.0, sound-push gs f k.1 h)

pub sound-pop : (fs : List Frame) (f : Frame) → FramesSound (fs ++ f ∷ []) → FramesSound fs × FrameSound f
sound-pop [] f k = (tt, k.0)
sound-pop (g ∷ gs) f k = let rest = sound-pop gs f k.1 in ((k.0, rest.0), rest.1)

-- ---- one step

-- the task alone, where the frames stay
pub wholly : (ps : List Prototype) (t : NodeTask) (o : Comes ℕ) (m new : WalkState) (r : Result NodeTask ExpandFault) → task_comes ps t (shown m.walker) ≡ o → new.frames.items ≡ m.frames.items → Goes ps o r (shown new.walker) →
    AllGoes ps (all_comes ps t m) r new
wholly ps t o m new (Ok u) is frames k =
    ap (λ x. after x (frames_come ps m.frames.items)) (is ∙ k) ∙ ap (λ fs. after (task_comes ps u (shown new.walker)) (frames_come ps fs)) (sym frames)
wholly ps t o m new (Err e) is frames (inl k) = inl k
wholly ps t o m new (Err e) is frames (inr k) = inr (ap (λ x. after x (frames_come ps m.frames.items)) (is ∙ k))

-- a frame more, which waits for what the task gives
pub waits : (ps : List Prototype) (o : Comes ℕ) (f : Frame) (fs : List Frame) (new : WalkState) (r : Result NodeTask ExpandFault) → new.frames.items ≡ fs ++ f ∷ [] → Goes ps o r (shown new.walker) →
    AllGoes ps (after (after o (frame_comes ps f)) (frames_come ps fs)) r new
waits ps o f fs new (Ok u) frames k =
    then-assoc o (frame_comes ps f) (frames_come ps fs)
    ∙ then-same o (λ n s. after (frame_comes ps f n s) (frames_come ps fs)) (frames_come ps (fs ++ f ∷ [])) (λ n s. sym (frames-push ps fs f n s))
    ∙ ap (λ xs. after o (frames_come ps xs)) (sym frames)
    ∙ ap (λ x. after x (frames_come ps new.frames.items)) k
waits ps o f fs new (Err e) frames k = then-stop (after o (frame_comes ps f)) (frames_come ps fs) e (then-stop o (frame_comes ps f) e k)

-- the last frame has the number
pub given : (ps : List Prototype) (n : ℕ) (m : WalkState) (fs : List Frame) (f : Frame) (new : WalkState) (r : Result NodeTask ExpandFault) → m.frames.items ≡ fs ++ f ∷ [] → new.frames.items ≡ fs → Goes ps (frame_comes ps f n (shown m.walker)) r (shown new.walker) →
    AllGoes ps (all_comes ps (task.Number n) m) r new
unfolding task_comes
given ps n m fs f new (Ok u) frames left k =
    ap (λ xs. frames_come ps xs n (shown m.walker)) frames ∙ frames-push ps fs f n (shown m.walker)
    ∙ ap (λ x. after x (frames_come ps fs)) k ∙ ap (λ xs. after (task_comes ps u (shown new.walker)) (frames_come ps xs)) (sym left)
given ps n m fs f new (Err e) frames left (inl k) = inl k
given ps n m fs f new (Err e) frames left (inr k) =
    inr (ap (λ xs. frames_come ps xs n (shown m.walker)) frames ∙ frames-push ps fs f n (shown m.walker) ∙ ap (λ x. after x (frames_come ps fs)) k)

-- all that was to be done is done
pub all-done : (ps : List Prototype) (t : NodeTask) (n : ℕ) (m : WalkState) → t ≡ task.Number n → m.frames.items ≡ [] → all_comes ps t m ≡ Ok (n, shown m.walker)
unfolding task_comes
all-done ps t n m is idle = no-frames ps m.frames.items (task_comes ps t (shown m.walker)) idle ∙ ap (λ x. task_comes ps x (shown m.walker)) is

-- ---- what is to be done, by its variant

pub on-task : (ps : List Prototype) (h : Holder) (s : State) → task_comes ps (task.On h) s ≡ holder_comes ps h s
unfolding task_comes
on-task ps h s = refl

pub list-task : (ps : List Prototype) (h : Holder) (l : Listing) (s : State) → task_comes ps (task.List h l) s ≡ list_comes ps h l.place l.rest.now l.numbers s
unfolding task_comes
list-task ps h l s = refl

pub one-task : (ps : List Prototype) (h : Holder) (p : FieldAt) (n : Bor NodeTree) (s : State) → task_comes ps (task.NodeFor (frame.One h p) n) s ≡ holder_next ps h (next.One p n) s
unfolding task_comes frame_comes
one-task ps h p n s = refl

pub listing-task : (ps : List Prototype) (h : Holder) (p : FieldAt) (nodes : Bor (List NodeTree)) (l : Listing) (s : State) → l.place ≡ p → l.rest ≡ nodes → l.numbers ≡ [] → task_comes ps (task.List h l) s ≡ holder_next ps h (next.List p nodes) s
unfolding task_comes list_comes
listing-task ps h p nodes l s place rest numbers =
    ap (λ x. list_comes ps h x l.rest.now l.numbers s) place ∙ ap (λ (x : Bor (List NodeTree)). list_comes ps h p x.now l.numbers s) rest ∙ ap (λ x. list_comes ps h p nodes.now x s) numbers

-- ---- lists

pub list-done : (ps : List Prototype) (h : Holder) (p : FieldAt) (nodes : List NodeTree) (numbers : List ℕ) (s : State) → nodes ≡ [] → list_comes ps h p nodes numbers s ≡ value_comes ps h p (value.NodeList numbers) s
unfolding list_comes
list-done ps h p nodes numbers s is = ap (λ xs. after (doing (nodes_do ps xs numbers) s) (λ ns. value_comes ps h p (value.NodeList ns))) is

pub list-next : (ps : List Prototype) (h : Holder) (l k : Listing) (n : Bor NodeTree) (rest : Bor (List NodeTree)) (s : State) → l.rest.now ≡ n.now ∷ rest.now → k ≡ record l { rest = rest } →
    list_comes ps h l.place l.rest.now l.numbers s ≡ task_comes ps (task.NodeFor (frame.List h k) n) s
unfolding list_comes task_comes frame_comes
list-next ps h l k n rest s is same =
    ap (λ xs. after (doing (nodes_do ps xs l.numbers) s) (λ ns. value_comes ps h l.place (value.NodeList ns))) is
    ∙ ap (λ o. after o (λ ns. value_comes ps h l.place (value.NodeList ns))) (doing-assoc (node ps n.now).does (λ number. pure (l.numbers ++ number ∷ [])) (nodes_do ps rest.now) s)
    ∙ then-assoc (doing (node ps n.now).does s) (λ number. doing (nodes_do ps rest.now (l.numbers ++ number ∷ []))) (λ ns. value_comes ps h l.place (value.NodeList ns))
    ∙ ap (λ (x : Listing). after (doing (node ps n.now).does s) (λ number. list_comes ps h x.place x.rest.now (x.numbers ++ number ∷ []))) (sym same)

-- ---- what is next in a holder

pub braces-come : (ps : List Prototype) (o : Open) (s : State) → holder_comes ps (holder.Braces o) s ≡ doing (open_does ps o (inside_now ps o)) s
unfolding holder_comes
braces-come ps o s = refl

pub defaults-come : (ps : List Prototype) (f : Filling) (s : State) → holder_comes ps (holder.Defaults f) s ≡ filling_comes ps f.around.value f.rest.now (filled_now f) s
unfolding holder_comes
defaults-come ps f s = refl

pub braces-next : (ps : List Prototype) (o n : Open) (s : State) (r : Result Next ExpandFault) (walker : Walker) → OpenGoes ps (doing (open_does ps o (inside_now ps o)) s) r walker n → HolderGoes ps (holder_comes ps (holder.Braces o) s) r walker (holder.Braces n)
unfolding holder_comes value_comes
braces-next ps o n s (Ok next.On) walker k = k
braces-next ps o n s (Ok (next.One p x)) walker k = k
braces-next ps o n s (Ok (next.List p xs)) walker k = k
braces-next ps o n s (Ok next.Closed) walker k = k
braces-next ps o n s (Err e) walker k = k

pub braces-next-sound : (n : Open) (r : Result Next ExpandFault) (walker : Walker) → OpenSound r walker n → HolderGoesSound r walker (holder.Braces n)
braces-next-sound n (Ok x) walker k = k
braces-next-sound n (Err e) walker k = tt

pub defaults-next : (ps : List Prototype) (f g : Filling) (r : Result Next AllocError) (q : Result Next ExpandFault) (walker : Walker) → q ≡ next_or r → DefaultGoes ps (filling_comes ps f.around.value f.rest.now (filled_now f) (shown walker)) r g (shown walker) →
    HolderGoes ps (holder_comes ps (holder.Defaults f) (shown walker)) q walker (holder.Defaults g)
unfolding holder_comes value_comes
defaults-next ps f g (Ok next.On) q walker is k = subst (λ x. HolderGoes ps (holder_comes ps (holder.Defaults f) (shown walker)) x walker (holder.Defaults g)) (sym is) k
defaults-next ps f g (Ok (next.One p n)) q walker is k = subst (λ x. HolderGoes ps (holder_comes ps (holder.Defaults f) (shown walker)) x walker (holder.Defaults g)) (sym is) k
defaults-next ps f g (Ok (next.List p ns)) q walker is k = subst (λ x. HolderGoes ps (holder_comes ps (holder.Defaults f) (shown walker)) x walker (holder.Defaults g)) (sym is) k
defaults-next ps f g (Ok next.Closed) q walker is k = subst (λ x. HolderGoes ps (holder_comes ps (holder.Defaults f) (shown walker)) x walker (holder.Defaults g)) (sym is) k
defaults-next ps f g (Err e) q walker is k = subst (λ x. HolderGoes ps (holder_comes ps (holder.Defaults f) (shown walker)) x walker (holder.Defaults g)) (sym is) (inl refl)

pub defaults-next-sound : (g : Filling) (r : Result Next AllocError) (q : Result Next ExpandFault) (walker : Walker) → q ≡ next_or r → Sound walker → DefaultSound r g → HolderGoesSound q walker (holder.Defaults g)
defaults-next-sound g (Ok n) q walker is sound k = subst (λ x. HolderGoesSound x walker (holder.Defaults g)) (sym is) (sound, k.0, k.1)
defaults-next-sound g (Err e) q walker is sound k = subst (λ x. HolderGoesSound x walker (holder.Defaults g)) (sym is) tt

-- ---- what is to be done by what is next

pub next-on : (ps : List Prototype) (o : Comes ℕ) (h : Holder) (n : Next) (s : State) → n ≡ next.On → o ≡ holder_next ps h n s → o ≡ task_comes ps (task.On h) s
unfolding task_comes
next-on ps o h n s is k = k ∙ ap (λ x. holder_next ps h x s) is

pub next-one : (ps : List Prototype) (o : Comes ℕ) (h : Holder) (p : FieldAt) (x : Bor NodeTree) (n : Next) (s : State) → n ≡ next.One p x → o ≡ holder_next ps h n s → o ≡ task_comes ps (task.NodeFor (frame.One h p) x) s
unfolding task_comes frame_comes
next-one ps o h p x n s is k = k ∙ ap (λ y. holder_next ps h y s) is

pub next-list : (ps : List Prototype) (o : Comes ℕ) (h : Holder) (p : FieldAt) (ns : Bor (List NodeTree)) (l : Listing) (n : Next) (s : State) → n ≡ next.List p ns → o ≡ holder_next ps h n s → l.place ≡ p → l.rest.now ≡ ns.now → l.numbers ≡ [] → o ≡ task_comes ps (task.List h l) s
unfolding task_comes list_comes
next-list ps o h p ns l n s is k place rest numbers =
    k ∙ ap (λ y. holder_next ps h y s) is
    ∙ sym (ap (λ x. list_comes ps h x l.rest.now l.numbers s) place ∙ ap (λ x. list_comes ps h p x l.numbers s) rest ∙ ap (λ x. list_comes ps h p ns.now x s) numbers)

pub next-closed : (ps : List Prototype) (o : Comes ℕ) (h : Holder) (n : Next) (q : Result NodeTask ExpandFault) (s t : State) → n ≡ next.Closed → o ≡ holder_next ps h n s → Goes ps (holder_comes ps h s) q t → Goes ps o q t
next-closed ps o h n q s t is k goes = goes-as ps o (holder_comes ps h s) q t (k ∙ ap (λ y. holder_next ps h y s) is) goes

pub fits-closed : (h : Holder) (n : Next) → n ≡ next.Closed → HolderFits h n → HolderFits h next.Closed
fits-closed h n is k = subst (λ x. HolderFits h x) is k

pub fits-one : (h : Holder) (n : Next) (p : FieldAt) (x : Bor NodeTree) → n ≡ next.One p x → HolderSound h → HolderFits h n → HolderSound h × IsFree h p.name.now
fits-one (holder.Braces o) n p x is sound k = (sound, subst (λ y. HolderFits (holder.Braces o) y) is k)
fits-one (holder.Defaults f) n p x is sound k = (sound, subst (λ y. HolderFits (holder.Defaults f) y) is k)

pub fits-list : (h : Holder) (n : Next) (p : FieldAt) (ns : Bor (List NodeTree)) (l : Listing) → n ≡ next.List p ns → l.place ≡ p → HolderSound h → HolderFits h n → HolderSound h × IsFree h l.place.name.now
fits-list (holder.Braces o) n p ns l is place sound k = (sound, subst (λ q. IsFree (holder.Braces o) q.name.now) (sym place) (subst (λ y. HolderFits (holder.Braces o) y) is k))
fits-list (holder.Defaults f) n p ns l is place sound k = (sound, subst (λ q. IsFree (holder.Defaults f) q.name.now) (sym place) (subst (λ y. HolderFits (holder.Defaults f) y) is k))

pub next-goes : (ps : List Prototype) (o : Comes ℕ) (h : Holder) (r : Result Next ExpandFault) (n : Next) (walker : Walker) → r ≡ Ok n → HolderGoes ps o r walker h → o ≡ holder_next ps h n (shown walker)
next-goes ps o h r n walker is k = subst (λ x. HolderGoes ps o x walker h) is k

pub next-err : (ps : List Prototype) (o : Comes ℕ) (h : Holder) (r : Result Next ExpandFault) (e : ExpandFault) (walker : Walker) → r ≡ Err e → HolderGoes ps o r walker h → (e ≡ memory) ⊎ (o ≡ Err e)
next-err ps o h r e walker is k = subst (λ x. HolderGoes ps o x walker h) is k

pub sound-at : (h : Holder) (n : Next) (r : Result Next ExpandFault) (walker : Walker) → r ≡ Ok n → HolderGoesSound r walker h → Sound walker × HolderSound h × HolderFits h n
sound-at h n r walker is k = subst (λ x. HolderGoesSound x walker h) is k

-- ---- a value is kept

pub braces-kept : (ps : List Prototype) (o n : Open) (p : FieldAt) (v : RawValue ℕ) (s : State) → doing (open_does ps o (with_value ps o p v)) s ≡ doing (open_does ps n (inside_now ps n)) s → value_comes ps (holder.Braces o) p v s ≡ task_comes ps (task.On (holder.Braces n)) s
unfolding task_comes holder_comes value_comes
braces-kept ps o n p v s is = is

pub defaults-kept : (ps : List Prototype) (f g : Filling) (p : FieldAt) (v : RawValue ℕ) (s : State) → HasFilled f (default_value p v) g → value_comes ps (holder.Defaults f) p v s ≡ task_comes ps (task.On (holder.Defaults g)) s
unfolding task_comes holder_comes value_comes
defaults-kept ps f g p v s k =
    ap (λ all. filling_comes ps f.around.value f.rest.now all s) (sym k.filled)
    ∙ ap (λ (xs : Bor (List DefaultTree)). filling_comes ps f.around.value xs.now (filled_now g) s) (sym k.rest)
    ∙ ap (λ a. filling_comes ps a.value g.rest.now (filled_now g) s) (sym k.around)

pub value-as : (ps : List Prototype) (h k : Holder) (p : FieldAt) (v : RawValue ℕ) (s : State) (r : Result NodeTask ExpandFault) → h ≡ k → Goes ps (value_comes ps k p v s) r s → Goes ps (value_comes ps h p v s) r s
value-as ps h k p v s r is goes = goes-as ps (value_comes ps h p v s) (value_comes ps k p v s) r s (ap (λ x. value_comes ps x p v s) is) goes

pub holder-as : (ps : List Prototype) (h k : Holder) (s t : State) (r : Result NodeTask ExpandFault) → h ≡ k → Goes ps (holder_comes ps k s) r t → Goes ps (holder_comes ps h s) r t
holder-as ps h k s t r is goes = goes-as ps (holder_comes ps h s) (holder_comes ps k s) r t (ap (λ x. holder_comes ps x s) is) goes

pub list-more : (ps : List Prototype) (h : Holder) (l k : Listing) (n : ℕ) (s : State) → k ≡ record l { numbers = l.numbers ++ n ∷ [] } → list_comes ps h l.place l.rest.now (l.numbers ++ n ∷ []) s ≡ task_comes ps (task.List h k) s
unfolding task_comes
list-more ps h l k n s is = ap (λ (x : Listing). list_comes ps h x.place x.rest.now x.numbers s) (sym is)

-- ---- the tables are those of what they stand for, by the variant

pub one-sound : (f : Frame) (h : Holder) (p : FieldAt) → f ≡ frame.One h p → FrameSound f → HolderSound h × IsFree h p.name.now
one-sound f h p is k = subst FrameSound is k

pub list-sound : (f : Frame) (h : Holder) (l : Listing) → f ≡ frame.List h l → FrameSound f → HolderSound h × IsFree h l.place.name.now
list-sound f h l is k = subst FrameSound is k

pub body-sound : (f : Frame) (b : ProtoBody) → f ≡ frame.Body b → FrameSound f → BodySound b
body-sound f b is k = subst FrameSound is k

pub on-sound : (t : NodeTask) (h : Holder) → t ≡ task.On h → TaskSound t → HolderSound h
on-sound t h is k = subst TaskSound is k

pub listing-sound : (t : NodeTask) (h : Holder) (l : Listing) → t ≡ task.List h l → TaskSound t → HolderSound h × IsFree h l.place.name.now
listing-sound t h l is k = subst TaskSound is k

pub statements-sound : (t : NodeTask) (b : ProtoBody) → t ≡ task.Body b → TaskSound t → BodySound b
statements-sound t b is k = subst TaskSound is k

pub waiting-sound : (t : NodeTask) (f : Frame) (n : Bor NodeTree) → t ≡ task.NodeFor f n → TaskSound t → FrameSound f
waiting-sound t f n is k = subst TaskSound is k

pub machine-walks : {A : Type 0} (r : Result A ExpandFault) (m : WalkState) (w : Walker) → IfOk r (λ _. Sound w) → MachineSound m → IfOk r (λ _. MachineSound (record m { walker = w }))
machine-walks (Ok a) m w k h = record { walker = k; frames = h.frames }
machine-walks (Err e) m w k h = tt

pub machine-pushed : {A : Type 0} (r : Result A ExpandFault) (m new : WalkState) (f : Frame) → new.frames.items ≡ m.frames.items ++ f ∷ [] → IfOk r (λ _. Sound new.walker) → MachineSound m → FrameSound f → IfOk r (λ _. MachineSound new)
machine-pushed (Ok a) m new f is k h sound = record { walker = k; frames = subst FramesSound (sym is) (sound-push m.frames.items f h.frames sound) }
machine-pushed (Err e) m new f is k h sound = tt

pub machine-popped : (m new : WalkState) (f : Frame) → m.frames.items ≡ new.frames.items ++ f ∷ [] → new.walker ≡ m.walker → MachineSound m → MachineSound new × FrameSound f
machine-popped m new f is same h =
    let both = sound-pop new.frames.items f (subst FramesSound is h.frames) in (record { walker = subst (λ w. Sound w) (sym same) h.walker; frames = both.0 }, both.1)

pub machine-kept : (m new : WalkState) → new.frames.items ≡ m.frames.items → new.walker ≡ m.walker → MachineSound m → MachineSound new
machine-kept m new is same h = record { walker = subst (λ w. Sound w) (sym same) h.walker; frames = subst FramesSound (sym is) h.frames }

-- ---- what a frame does, by its variant

pub frame-one : (ps : List Prototype) (f : Frame) (h : Holder) (p : FieldAt) (n : ℕ) (s t : State) (r : Result NodeTask ExpandFault) → f ≡ frame.One h p → Goes ps (value_comes ps h p (value.Node n) s) r t → Goes ps (frame_comes ps f n s) r t
unfolding frame_comes
frame-one ps f h p n s t r is k = goes-as ps (frame_comes ps f n s) (value_comes ps h p (value.Node n) s) r t (ap (λ x. frame_comes ps x n s) is) k

pub frame-list : (ps : List Prototype) (f : Frame) (h : Holder) (l : Listing) (n : ℕ) (s t : State) (r : Result NodeTask ExpandFault) → f ≡ frame.List h l → Goes ps (list_comes ps h l.place l.rest.now (l.numbers ++ n ∷ []) s) r t → Goes ps (frame_comes ps f n s) r t
unfolding frame_comes
frame-list ps f h l n s t r is k = goes-as ps (frame_comes ps f n s) (list_comes ps h l.place l.rest.now (l.numbers ++ n ∷ []) s) r t (ap (λ x. frame_comes ps x n s) is) k

pub frame-body : (ps : List Prototype) (f : Frame) (b : ProtoBody) (n : ℕ) (s t : State) (r : Result NodeTask ExpandFault) → f ≡ frame.Body b → Goes ps (frame_comes ps (frame.Body b) n s) r t → Goes ps (frame_comes ps f n s) r t
frame-body ps f b n s t r is k = goes-as ps (frame_comes ps f n s) (frame_comes ps (frame.Body b) n s) r t (ap (λ x. frame_comes ps x n s) is) k

-- ---- what a task comes to, by its variant

pub on-comes : (ps : List Prototype) (t : NodeTask) (h : Holder) (s : State) → t ≡ task.On h → task_comes ps t s ≡ holder_comes ps h s
on-comes ps t h s is = ap (λ x. task_comes ps x s) is ∙ on-task ps h s

pub list-comes : (ps : List Prototype) (t : NodeTask) (h : Holder) (l : Listing) (s : State) → t ≡ task.List h l → task_comes ps t s ≡ list_comes ps h l.place l.rest.now l.numbers s
list-comes ps t h l s is = ap (λ x. task_comes ps x s) is ∙ list-task ps h l s

pub body-task-comes : (ps : List Prototype) (t : NodeTask) (b : ProtoBody) (s : State) → t ≡ task.Body b → task_comes ps t s ≡ body_comes ps b.around.value b.rest.now (first_of b.first) s
unfolding task_comes
body-task-comes ps t b s is = ap (λ x. task_comes ps x s) is

pub waiting-comes : (ps : List Prototype) (t : NodeTask) (f : Frame) (n : Bor NodeTree) (m : WalkState) → t ≡ task.NodeFor f n →
    all_comes ps t m ≡ after (after (doing (node ps n.now).does (shown m.walker)) (frame_comes ps f)) (frames_come ps m.frames.items)
unfolding task_comes
waiting-comes ps t f n m is = ap (λ x. after (task_comes ps x (shown m.walker)) (frames_come ps m.frames.items)) is

pub all-goes-as : (ps : List Prototype) (o q : Comes ℕ) (r : Result NodeTask ExpandFault) (m : WalkState) → o ≡ q → AllGoes ps q r m → AllGoes ps o r m
all-goes-as ps o q (Ok t) m is k = is ∙ k
all-goes-as ps o q (Err e) m is k = same-stop o q e is k

pub number-stays : (ps : List Prototype) (t : NodeTask) (n : ℕ) (m new : WalkState) → t ≡ task.Number n → new.frames.items ≡ m.frames.items → new.walker ≡ m.walker → all_comes ps t m ≡ all_comes ps (task.Number n) new
number-stays ps t n m new is frames walker =
    ap (λ x. after (task_comes ps x (shown m.walker)) (frames_come ps m.frames.items)) is
    ∙ ap (λ w. after (task_comes ps (task.Number n) (shown w)) (frames_come ps m.frames.items)) (sym walker)
    ∙ ap (λ fs. after (task_comes ps (task.Number n) (shown new.walker)) (frames_come ps fs)) (sym frames)

pub number-given : (ps : List Prototype) (t : NodeTask) (n : ℕ) (m popped : WalkState) (f : Frame) (new : WalkState) (r : Result NodeTask ExpandFault) → t ≡ task.Number n → m.frames.items ≡ popped.frames.items ++ f ∷ [] → popped.walker ≡ m.walker → new.frames ≡ popped.frames →
    Goes ps (frame_comes ps f n (shown popped.walker)) r (shown new.walker) → AllGoes ps (all_comes ps t m) r new
number-given ps t n m popped f new r is frames walker left k =
    all-goes-as ps (all_comes ps t m) (all_comes ps (task.Number n) m) r new (ap (λ x. all_comes ps x m) is)
    (given ps n m popped.frames.items f new r frames (ap (λ v. v.items) left)
    (goes-as ps (frame_comes ps f n (shown m.walker)) (frame_comes ps f n (shown popped.walker)) r (shown new.walker) (ap (λ w. frame_comes ps f n (shown w)) (sym walker)) k))

-- ---- all steps

pub steps-on : (ps : List Prototype) (o : Comes ℕ) (t u : NodeTask) (m : WalkState) → t ≡ u → o ≡ all_comes ps u m → o ≡ all_comes ps t m
steps-on ps o t u m is k = k ∙ ap (λ x. all_comes ps x m) (sym is)

pub ends-as : (o q : Comes ℕ) (r : Result ℕ ExpandFault) (s : State) → o ≡ q → Ends (λ (n : ℕ). n) q r s → Ends (λ (n : ℕ). n) o r s
ends-as o q (Ok n) s is k = is ∙ k
ends-as o q (Err e) s is k = same-stop o q e is k

pub known-as : (ps : List Prototype) (a b : Bor (List Proto)) → a ≡ b → Knows ps b.now → Knows ps a.now
known-as ps a b is k = subst (λ (x : Bor (List Proto)). Knows ps x.now) (sym is) k
