use Rattle.std.proofs.Common.{◌≡◌, ℕ, List, Bool, true, false, Option, None, ap, ◌∙◌, refl}
use Rattle.std.specs.Prelude.{IsUtf8, if◌then◌else◌}
use Rattle.std.specs.Option.{option_map}
use Rattle.std.specs.Str.{is_utf8}
use Rattle.std.proofs.lemmas.Str.{is_utf8-from_IsUtf8, IsUtf8-from_is_utf8}
use Rattle.scene_core.specs.Scene.{rows_at}
use Rattle.x3d_values.specs.Tables.{row_named}
use Rattle.x3d_values.specs.declared.table.FieldRow.{FieldRow}
use Rattle.embed_world.proofs.named.number_named.Goals as goal

tested : (name : List ℕ) (b : Bool) → is_utf8 name ≡ b → ¬ (IsUtf8 name) → is_utf8 name ≡ false
tested name true e u = absurd (u (IsUtf8-from_is_utf8 name e))
tested name false e u = e

named : {A : Type 0} (name : List ℕ) (found : Option A) → IsUtf8 name → found ≡ (if is_utf8 name then found else None)
named name found u = let k : is_utf8 name ≡ true = is_utf8-from_IsUtf8 name u in rw k refl

unnamed : {A : Type 0} (name : List ℕ) (found : Option A) → ¬ (IsUtf8 name) → None ≡ (if is_utf8 name then found else None)
unnamed name found u = let k : is_utf8 name ≡ false = tested name (is_utf8 name) refl u in rw k refl

pub returns-in_default : goal.returns-in_default
returns-in_default c = unnamed c.args.name.now _ c.in_default.ensures.cases.0

pub returns : goal.returns
returns c =
    ap (λ (found : Option FieldRow). option_map (λ (row : FieldRow). row.number) found)
    (c.in-Some.ensures ∙ ap (λ (name : List ℕ). row_named 0 name (rows_at c.args.scene.now c.args.node)) c.in-Ok.ensures.cases.0)
    ∙ named c.args.name.now _ c.in-Ok.ensures.cases.1
