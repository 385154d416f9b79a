-- Lists that are not empty.
use Rattle.std.proofs.Common.{◌≡◌, ◌≢◌, ℕ, ℤ, Bool, List, [], ◌∷◌, refl}
use Rattle.std.proofs.lemmas.Grind.{common_steps}
use Rattle.classic_tree.specs.declared.tree.RawValue.TheVariants as raw
use Rattle.scene_text.specs.Raw.{truth_list, string_list, number_list}

pub number_list_full : {N : Type 0} (numbers : List ℤ) → numbers ≢ [] → number_list {N = N} numbers ≡ raw.NumberList numbers
number_list_full [] isnt = absurd (isnt refl)
number_list_full (number ∷ numbers) _ = refl

pub truth_list_full : {N : Type 0} (truths : List Bool) → truths ≢ [] → truth_list {N = N} truths ≡ raw.TruthList truths
truth_list_full [] isnt = absurd (isnt refl)
truth_list_full (truth ∷ truths) _ = refl

pub string_list_full : {N : Type 0} (texts : List (List ℕ)) → texts ≢ [] → string_list {N = N} texts ≡ raw.StringList texts
string_list_full [] isnt = absurd (isnt refl)
string_list_full (text ∷ texts) _ = refl

pub ruleset number_list_is = (common_steps, number_list_full)

pub ruleset truth_list_is = (common_steps, truth_list_full)

pub ruleset string_list_is = (common_steps, string_list_full)
