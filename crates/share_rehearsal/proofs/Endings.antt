-- What a viewer is left with, part by part.
use Rattle.std.proofs.Common.{◌≡◌, ℕ, true, false, List, [], ◌∷◌, ◌++◌, refl, ap, sym, ◌∙◌, append_assoc}
use Rattle.std.specs.Prelude.{codes, decimal, OnOk, Result, Ok, Err}
use Rattle.std.proofs.lemmas.Bool.{false≢true}
use Rattle.cascade_core.specs.Texts.{texts}
use Rattle.cascade_core.specs.Course.{Scripted}
use Rattle.share_law.specs.Viewer.{ViewerWorld, Spoiled, Running, applied_in}
use Rattle.share_core.specs.Viewer.{ViewerView, IfRunning, is_spoiled, machine_of}
use Rattle.share_rehearsal.specs.Log.{ending_in}

in-a-row : (o a n b m c k s : List ℕ) → o ++ a ++ n ++ b ++ m ++ c ++ k ++ 10 ∷ [] ++ s ≡ o ++ (a ++ n ++ b ++ m ++ c ++ k ++ 10 ∷ s)
in-a-row o a n b m c k s = simp (append_assoc) refl

pub running-told : {T E : Type 0} (number : ℕ) (v : ViewerView) (view : ViewerWorld Scripted) (applied boot : ℕ) (a b c d : List ℕ) (q : Result T E) → is_spoiled view ≡ false → applied ≡ applied_in (machine_of v) view → boot ≡ v.state.boot
    → b ≡ a ++ codes "viewer " ++ decimal number ++ codes " at " ++ decimal applied → c ≡ b ++ codes " boot " ++ decimal boot ++ 10 ∷ []
    → IfRunning view (λ w. OnOk q (d ≡ c ++ texts v.scene v.routes w)) → OnOk q (d ≡ a ++ ending_in number v view)
running-told number v (Spoiled count) applied boot a b c d q running is own first second appended = absurd (false≢true (sym running))
running-told number v (Running w window) applied boot a b c d (Err e) running is own first second appended = tt
running-told number v (Running w window) applied boot a b c d (Ok x) running is own first second appended =
    let s = texts v.scene v.routes w in
    appended ∙ ap (λ (l : List ℕ). l ++ s) second
    ∙ ap (λ (l : List ℕ). l ++ codes " boot " ++ decimal boot ++ 10 ∷ [] ++ s) first
    ∙ ap (λ (n : ℕ). a ++ codes "viewer " ++ decimal number ++ codes " at " ++ decimal n ++ codes " boot " ++ decimal boot ++ 10 ∷ [] ++ s) is
    ∙ ap (λ (n : ℕ). a ++ codes "viewer " ++ decimal number ++ codes " at " ++ decimal w.world.applied ++ codes " boot " ++ decimal n ++ 10 ∷ [] ++ s) own
    ∙ in-a-row a (codes "viewer ") (decimal number) (codes " at ") (decimal w.world.applied) (codes " boot ") (decimal v.state.boot) s

pub spoiled-told : {T E : Type 0} (number : ℕ) (v : ViewerView) (view : ViewerWorld Scripted) (a b : List ℕ) (q : Result T E) → is_spoiled view ≡ true
    → OnOk q (b ≡ a ++ codes "viewer " ++ decimal number ++ codes " spoiled" ++ 10 ∷ []) → OnOk q (b ≡ a ++ ending_in number v view)
spoiled-told number v (Running w window) a b q spoiled line = absurd (false≢true spoiled)
spoiled-told number v (Spoiled count) a b (Err e) spoiled line = tt
spoiled-told number v (Spoiled count) a b (Ok x) spoiled line = line ∙ simp (append_assoc) refl
