-- Scripts that were attached are those that the scene asks for.
use Rattle.std.proofs.Common.{◌≡◌, ◌∙◌, ℤ, suc, List, [], ◌∷◌, Some, false, length, map, refl, sym, ap, subst, arith}
use Rattle.std.specs.List.{filter_map}
use Rattle.std.proofs.lemmas.List.{length-map}
use Rattle.x3d_values.specs.declared.script.Kind.{Kind}
use Rattle.x3d_values.specs.declared.script.ScriptSpec.{ScriptSpec}
use Rattle.script_host.specs.Attaching.{Fits, Meets}
use Rattle.script_host.specs.Hosting.{SlotView, fresh_record}
use Rattle.script_host.specs.Pairs.{PairsBelow}
use Rattle.cascade_core.specs.Scripts.{script_for}

module _ {X : Type 0} (kind_of : X → Kind) (numbers : X → List ℤ) where
  abbrev fresh : X → SlotView
  fresh = fresh_record kind_of numbers

  -- a box that meets its script is the script that is asked for
  asked : (s : ScriptSpec) (b : X) → Meets s (fresh b) → script_for s ≡ Some (fresh b)
  asked s b m =
      rw m.kind (ap (λ (state : List ℤ). Some (record { kind = kind_of b; state = state; initialized = false })) (sym m.start))

  all_asked : (specs : List ScriptSpec) (boxes : List X) → length specs ≡ length boxes
      → PairsBelow Meets specs (map fresh boxes) (length specs) → map fresh boxes ≡ filter_map script_for specs
  all_asked [] [] count meet = refl
  all_asked [] (b ∷ bs) count meet = cc
  all_asked (s ∷ ss) [] count meet = cc
  all_asked (s ∷ ss) (b ∷ bs) count meet =
      let here : Meets s (fresh b) = meet 0 (omega arith) in
      rw (asked s b here)
      (ap (λ (rs : List SlotView). fresh b ∷ rs) (all_asked ss bs (omega (arith, count)) (λ j h. meet (suc j) (omega (arith, h)))))

-- boxes that fit are, before they are initialized, all that is asked for
pub attached : {X : Type 0} (kind_of : X → Kind) (numbers : X → List ℤ) (specs : List ScriptSpec) (rs : List SlotView) (boxes : List X)
    → Fits specs rs → rs ≡ map (fresh_record kind_of numbers) boxes → rs ≡ filter_map script_for specs
attached kind_of numbers specs rs boxes fit are =
    let own = subst (Fits specs) are fit in
    are ∙ all_asked kind_of numbers specs boxes (own.count ∙ length-map boxes (fresh_record kind_of numbers)) own.meet
