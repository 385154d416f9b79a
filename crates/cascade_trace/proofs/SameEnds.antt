-- Two ends that are the same.
use Rattle.std.proofs.Common.{◌≡◌, ℕ, Bool, true, false, ◌&&◌, ◌∙◌, ap, refl, eq-eqb, eqb-true}
use Rattle.std.specs.Prelude.{◌==◌}
use Rattle.scene_core.specs.declared.scene.End.{End}
use Rattle.cascade_trace.specs.Ends.{same_end}

both : (x y : Bool) → (x && y) ≡ true → (x ≡ true) × (y ≡ true)
both true true h = (refl, refl)
both true false h = (refl, h)
both false y h = cc

abbrev made : ℕ → ℕ → End
made node field = record { node = node; field = field }

pub same_end-is : (a b : End) → same_end a b ≡ true → a ≡ b
same_end-is a b h =
    let (p, q) = both (a.node == b.node) (a.field == b.field) h in
    let node : a.node ≡ b.node = eqb-true a.node b.node p in
    let field : a.field ≡ b.field = eqb-true a.field b.field q in
    ap (λ (n : ℕ). made n a.field) node ∙ ap (λ (f : ℕ). made b.node f) field

pub same_end-self : (a : End) → same_end a a ≡ true
same_end-self a = rw (eq-eqb a.node a.node refl, eq-eqb a.field a.field refl) refl
