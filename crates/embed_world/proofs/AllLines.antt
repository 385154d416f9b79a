-- A viewer that forgets the lines of inputs below 0 stays as it is.
use Rattle.std.proofs.Common.{◌≡◌, ℕ, ◌+◌, Bool, true, false, cond, List, [], ◌∷◌, refl, sym, ap, subst, ◌∙◌, arith, ltb-true}
use Rattle.std.specs.Prelude.{IfNone, IfSome, None, Option, Ok, Err, Result, Some, nat_lt, if◌then◌else◌}
use Rattle.std.proofs.lemmas.Bool.{le-leb}
use Rattle.cascade_trace.specs.declared.trace.TraceLine.{TraceLine}
use Rattle.cascade_trace.specs.Forgetting.{lines_from}
use Rattle.cascade_core.specs.Course.{Scripted}
use Rattle.cascade_core.specs.Forgetting.{forget_refusal, with_trace}
use Rattle.cascade_core.specs.declared.fault.ForgetFault.{ForgetFault}
use Rattle.cascade_core.specs.declared.fault.ForgetFault.TheVariants.{Ahead}
use Rattle.share_law.specs.Viewer.{ViewerWorld, Running, Spoiled, with_view}
use Rattle.share_core.specs.Viewer.{held_in, is_spoiled}
use Rattle.embed_world.specs.declared.viewer.EmbeddedViewer.{EmbeddedViewer}
use Rattle.embed_world.specs.Viewers.{Forgets, forgot_below, in_state}

all-lines : (lines : List TraceLine) → lines_from 0 lines ≡ lines
all-lines [] = refl
all-lines (l ∷ lines) =
    ap (λ (stays : Bool). cond stays (l ∷ lines_from 0 lines) (lines_from 0 lines)) (le-leb 0 l.input (omega arith))
    ∙ ap (λ (ls : List TraceLine). l ∷ ls) (all-lines lines)

same-world : (view : ViewerWorld Scripted) → forgot_below 0 view ≡ view
same-world (Running w window) = ap (λ (ls : List TraceLine). Running (with_trace w ls) window) (all-lines w.world.trace)
same-world (Spoiled n) = refl

-- no number is below 0
none-below : (n below : ℕ) → below ≡ 0 → (b : Bool) → nat_lt n below ≡ b → b ≡ false
none-below n below is true h = absurd (omega (arith, ltb-true n below h, is))
none-below n below is false h = refl

abbrev done : Result (Unit {0}) ForgetFault
done = Ok tt

-- what is answered, and left, by this refusal of a viewer that holds this world
abbrev Leaves : EmbeddedViewer → (below : ℕ) → ViewerWorld Scripted → Option ForgetFault → Type 0
Leaves old below view refusal =
    IfNone refusal ((done ≡ done) × (old ≡ in_state old (with_view old.viewer.state (forgot_below below view))))
    × IfSome refusal (λ fault. (done ≡ Err fault) × (old ≡ old))

leaves : (old : EmbeddedViewer) (view : ViewerWorld Scripted) → old.viewer.state.view ≡ view → is_spoiled view ≡ false
    → (below : ℕ) → below ≡ 0 → Leaves old below view (forget_refusal below (held_in view))
leaves old (Running w window) at runs below none =
    let no : nat_lt (w.world.applied + 1) below ≡ false = none-below (w.world.applied + 1) below none (nat_lt (w.world.applied + 1) below) refl in
    let all : Running w window ≡ forgot_below below (Running w window) =
    sym (ap (λ (n : ℕ). forgot_below n (Running w window)) none ∙ same-world (Running w window)) in
    let same : old ≡ in_state old (with_view old.viewer.state (forgot_below below (Running w window))) =
    ap (λ (v : ViewerWorld Scripted). in_state old (with_view old.viewer.state v)) (at ∙ all) in
    subst (λ (is : Bool). Leaves old below (Running w window) (if is then Some Ahead else None)) (sym no) ((refl, same), tt)
leaves old (Spoiled n) at runs below none = cc

pub forgets_none : (old : EmbeddedViewer) (below : ℕ) → below ≡ 0 → is_spoiled old.viewer.state.view ≡ false → Forgets old below done old
forgets_none old below none runs = leaves old old.viewer.state.view refl runs below none
