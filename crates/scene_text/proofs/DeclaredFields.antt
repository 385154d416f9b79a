-- The declared fields of a node that stand in the text, one field more.
use Rattle.std.proofs.Common.{◌≡◌, ℕ, ◌+◌, ◌<◌, List, [], ◌∷◌, ◌++◌, Option, length, get_or, drop, map, ap, sym, ◌∙◌, append_assoc, arith}
use Rattle.std.proofs.lemmas.Grind.{common_steps}
use Rattle.std.proofs.lemmas.List.{drop_more, map-append}
use Rattle.x3d_values.specs.declared.value.Value.{Value}
use Rattle.scene_core.specs.declared.row.DeclaredField.{DeclaredField}
use Rattle.scene_text.specs.declared.plan.ShownField.{ShownField}
use Rattle.scene_text.specs.Tree.{PlanView, Shown, Declared, declared_from, held_value}
use Rattle.scene_text.specs.Views.{shown_of}

declared-cons : (p : PlanView) (n number next : ℕ) (d : DeclaredField) (ds : List DeclaredField) → number + 1 ≡ next
    → declared_from p n number (d ∷ ds) ≡ Declared d (held_value p n number d) ∷ declared_from p n next ds
declared-cons p n number next d ds e = ap (λ k. Declared d (held_value p n number d) ∷ declared_from p n k ds) e

declared-step : (p : PlanView) (n first i : ℕ) (ds : List DeclaredField) (d : DeclaredField) → i < length ds
    → declared_from p n (first + i) (drop i ds) ≡ Declared (get_or ds i d) (held_value p n (first + i) (get_or ds i d)) ∷ declared_from p n (first + (i + 1)) (drop (i + 1) ds)
declared-step p n first i ds d h =
    ap (λ xs. declared_from p n (first + i) xs) (drop_more ds i d h)
    ∙ declared-cons p n (first + i) (first + (i + 1)) (get_or ds i d) (drop (i + 1) ds) (omega arith)

pub declared-more : (p : PlanView) (n first i : ℕ) (ds : List DeclaredField) (d x : DeclaredField) (held : Option Value) (items : List ShownField) (f : ShownField) (all : List Shown)
    → i < length ds → x ≡ get_or ds i d → shown_of f ≡ Declared x held → held ≡ held_value p n (first + i) x
    → map shown_of items ++ declared_from p n (first + i) (drop i ds) ≡ all
    → map shown_of (items ++ f ∷ []) ++ declared_from p n (first + (i + 1)) (drop (i + 1) ds) ≡ all
declared-more p n first i ds d x held items f all h same shown is so_far =
    let rest : List Shown = declared_from p n (first + (i + 1)) (drop (i + 1) ds) in
    let here : shown_of f ≡ Declared (get_or ds i d) (held_value p n (first + i) (get_or ds i d)) =
    shown ∙ ap (λ v. Declared x v) is ∙ ap (λ y. Declared y (held_value p n (first + i) y)) same in
    ap (λ l. l ++ rest) (map-append shown_of items (f ∷ []))
    ∙ append_assoc (map shown_of items) (shown_of f ∷ []) rest
    ∙ ap (λ s. map shown_of items ++ (s ∷ rest)) here
    ∙ ap (λ l. map shown_of items ++ l) (sym (declared-step p n first i ds d h)) ∙ so_far

pub ruleset declaring = (common_steps, declared-more)
