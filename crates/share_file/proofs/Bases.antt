-- A head and a base, and nothing after them.
use Rattle.std.proofs.Common.{◌≡◌, ℕ, Bool, true, eqb, List, [], ◌∷◌, ◌++◌, length, Option, Some, None, Result, Ok, Err, refl, ap, ◌∙◌, eq-eqb}
use Rattle.std.specs.Prelude.{if◌then◌else◌}
use Rattle.share_entries.specs.declared.head.Head.{Head}
use Rattle.share_entries.specs.declared.head.HeadFault.{HeadFault}
use Rattle.share_entries.specs.Base.{BaseView, base_in, base_text, begins_base}
use Rattle.share_entries.proofs.BaseLaws.{text_begins}
use Rattle.share_entries.specs.declared.start.Start.{Start}
use Rattle.share_entries.specs.Start.{start_of}
use Rattle.share_file.specs.Entries.{entries_among, seated, start_among, start_by}
use Rattle.share_file.specs.Keeping.{IsNew, IsNewWithBase}
use Rattle.share_file.proofs.Parts.{Started}

if_true : {A : Type 0} (b : Bool) (x y : A) → b ≡ true → (if b then x else y) ≡ x
if_true b x y e = rw e refl

module _ (head : Head) (base : BaseView) (payload : List ℕ) (text : payload ≡ base_text base) (again : base_in payload ≡ Some base) (old new : List (List ℕ)) (made : IsNew head old) (more : new ≡ old ++ payload ∷ []) where
  two : new ≡ made.0 ∷ payload ∷ []
  two = more ∙ ap (λ (fs : List (List ℕ)). fs ++ payload ∷ []) made.2

  begins : begins_base payload ≡ true
  begins = ap (λ (p : List ℕ). begins_base p) text ∙ text_begins base

  pub new_with_base : IsNewWithBase head base new
  new_with_base = (made.0, payload, made.1, again, two)

  pub starts_at_base : length base.kept ≡ head.viewers → start_among new ≡ Ok (start_of head (Some base))
  starts_at_base seats =
      ap (λ (fs : List (List ℕ)). start_among fs) two
      ∙ ap (λ (r : Result Head HeadFault). Started (payload ∷ []) r) made.1
      ∙ ap (λ (r : Result (Option BaseView) ℕ). start_by head r)
      (if_true (begins_base payload) (seated head (base_in payload)) (Ok None) begins
      ∙ ap (λ (b : Option BaseView). seated head b) again
      ∙ if_true (eqb (length base.kept) head.viewers) (Ok (Some base)) (Err 1) (eq-eqb (length base.kept) head.viewers seats))

  pub none_behind : (start : Start) → entries_among start new ≡ Ok []
  none_behind start = ap (λ (fs : List (List ℕ)). entries_among start fs) two ∙ rw begins refl
