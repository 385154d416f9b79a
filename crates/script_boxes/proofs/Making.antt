-- Boxes that are made one by one.
use Rattle.std.proofs.Common.{◌≡◌, ◌<◌, ◌∙◌, ℕ, ◌+◌, ◌++◌, List, [], ◌∷◌, length, take, get_or, sym, ap}
use Rattle.std.specs.List.{cons_option, filter_map}
use Rattle.std.proofs.lemmas.List.{take_more}
use Rattle.std.proofs.lemmas.List.Elements.{filter_map-append}
use Rattle.x3d_values.specs.declared.script.ScriptSpec.{ScriptSpec}
use Rattle.script_host.specs.Hosting.{SlotView}
use Rattle.script_boxes.specs.Boxes.{made_for}

pub one_more_box : (asked : List ScriptSpec) (i : ℕ) (s : ScriptSpec) (before after : List SlotView) → i < length asked → s ≡ get_or asked i s
    → before ≡ filter_map made_for (take i asked) → after ≡ before ++ cons_option (made_for s) [] → after ≡ filter_map made_for (take (i + 1) asked)
one_more_box asked i s before after within is so_far more =
    more ∙ ap (λ (b : List SlotView). b ++ cons_option (made_for s) []) so_far
    ∙ sym (filter_map-append made_for (take i asked) (s ∷ []))
    ∙ ap (λ (x : ScriptSpec). filter_map made_for (take i asked ++ x ∷ [])) is
    ∙ ap (filter_map made_for) (sym (take_more asked i s within))
