-- A field that a route names is a field of its node.
use Rattle.std.proofs.Common.{◌≡◌, ℕ, ◌+◌, ◌-◌, ◌^◌, ◌<◌, Bool, zero, suc, List, [], ◌∷◌, ◌++◌, Option, Some, None, length, map, take, get_or, codes, nat_eq, ap, sym, ◌∙◌, arith, refl, inl, inr, ⊎_elim}
use Rattle.std.specs.Prelude.{◌⊎◌, slice_get, slice_index, if◌then◌else◌}
use Rattle.std.specs.Option.{option_and_then, option_map_or, option_or}
use Rattle.std.specs.List.{ends_with}
use Rattle.std.specs.Cmp.Lexicographic.{pointwise}
use Rattle.std.proofs.lemmas.Bool.{cond_both}
use Rattle.std.proofs.lemmas.List.{length-map, take_more}
use denote.Enum.Bare.{sameb}
use Rattle.x3d_values.specs.contracts.field_type.FieldType as types
use Rattle.x3d_values.specs.declared.field_type.FieldType.TheVariants.{SFRotation}
use Rattle.x3d_values.specs.declared.table.FieldRow.{FieldRow}
use Rattle.x3d_values.specs.Tables.{FieldRowView, row_named, numbered}
use Rattle.x3d_values.specs.Access.{is_exposed}
use Rattle.x3d_values.specs.Aliases.{changed_alias}
use Rattle.scene_core.specs.Scene.{SceneView, rows_at, shape_of, shapes_of}
use Rattle.scene_core.specs.Shape.{Shape, rows_of}
use Rattle.scene_core.specs.declared.scene.End.{End}
use Rattle.route_core.specs.Ends.{IsKnown, field_counts}
use Rattle.route_core.specs.Names.{exact, exposed, source_field}

row-below : (n : ℕ) (name : List ℕ) (es : List FieldRowView) (row : FieldRow) → row_named n name es ≡ Some row → row.number < n + length es
row-below n name [] row e = cc
row-below n name (x ∷ xs) row e =
    cond_both (pointwise nat_eq name x.name) (Some (numbered n x)) (row_named (n + 1) name xs) (λ o. o ≡ Some row → row.number < n + length (x ∷ xs))
    (λ _ here. let same : numbered n x ≡ row = cc in omega (arith, ap (λ (r : FieldRow). r.number) same))
    (λ _ later. omega (arith, row-below (n + 1) name xs row later))
    e

unless : (p : FieldRow → Bool) (o : Option FieldRow) (row : FieldRow) → option_and_then (λ r. if p r then None else Some r) o ≡ Some row → o ≡ Some row
unless p None row e = e
unless p (Some r) row e = cond_both (p r) None (Some r) (λ x. x ≡ Some row → Some r ≡ Some row) (λ _ none. cc) (λ _ same. same) e

when : (p : FieldRow → Bool) (o : Option FieldRow) (row : FieldRow) → option_and_then (λ r. if p r then Some r else None) o ≡ Some row → o ≡ Some row
when p None row e = e
when p (Some r) row e = cond_both (p r) (Some r) None (λ x. x ≡ Some row → Some r ≡ Some row) (λ _ same. same) (λ _ none. cc) e

exact-below : (es : List FieldRowView) (name : List ℕ) (row : FieldRow) → exact es name ≡ Some row → row.number < length es
exact-below es name row e = omega (arith, row-below 0 name es row (unless (λ r. sameb types.the_type r.field_type SFRotation) (row_named 0 name es) row e))

exposed-below : (es : List FieldRowView) (name : List ℕ) (row : FieldRow) → exposed es name ≡ Some row → row.number < length es
exposed-below es name row e = exact-below es name row (when (λ (r : FieldRow). is_exposed r.access) (exact es name) row e)

changed-below : (es : List FieldRowView) (name : List ℕ) (row : FieldRow) → changed_alias (exposed es) name ≡ Some row → row.number < length es
changed-below es name row e =
    let front : List ℕ = take (length name - length (codes "_changed")) name in
    cond_both (ends_with nat_eq name (codes "_changed")) (exposed es front) None (λ x. x ≡ Some row → row.number < length es)
    (λ _ here. exposed-below es front row here)
    (λ _ none. cc)
    e

either : (a b : Option FieldRow) (row : FieldRow) → option_or a b ≡ Some row → (a ≡ Some row) ⊎ (b ≡ Some row)
either None b row e = inr e
either (Some x) b row e = inl e

pub source-below : (es : List FieldRowView) (name : List ℕ) (row : FieldRow) → source_field es name ≡ Some row → row.number < length es
unfolding source_field
source-below es name row e = ⊎_elim (exact-below es name row) (changed-below es name row) (either (exact es name) (changed_alias (exposed es) name) row e)

count-at : (shapes : List Shape) (n : ℕ) → slice_index (map (λ (s : Shape). length (rows_of s)) shapes) n ≡ length (option_map_or rows_of (slice_get shapes n) [])
count-at [] zero = refl
count-at [] (suc n) = refl
count-at (s ∷ rest) zero = refl
count-at (s ∷ rest) (suc n) = count-at rest n

-- the field of a source is known
pub source-known : (scene : SceneView) (n : ℕ) (name : List ℕ) (row : FieldRow) (e : End) → n < 2 ^ 32
    → source_field (rows_at scene n) name ≡ Some row → e.node ≡ n → e.field ≡ row.number → IsKnown scene e
source-known scene n name row e small is node field = record {
  numbered = omega arith;
  field = omega (arith, source-below (rows_at scene n) name row is, count-at (shapes_of scene) n, ap (λ m. slice_index (field_counts scene) m) node, field);
}

-- the counts of one node more
pub counts-more : (scene : SceneView) (counts : List ℕ) (n m count : ℕ) → n < length scene.nodes → count ≡ length (rows_at scene m) → m ≡ n
    → counts ≡ take n (field_counts scene) → counts ++ count ∷ [] ≡ take (n + 1) (field_counts scene)
counts-more scene counts n m count h is same so_far =
    let all : List ℕ = field_counts scene in
    let short : n < length all = omega (arith, h, length-map (shapes_of scene) (λ (s : Shape). length (rows_of s)), length-map scene.nodes shape_of) in
    let here : count ≡ get_or all n 0 = is ∙ ap (λ k. length (rows_at scene k)) same ∙ sym (count-at (shapes_of scene) n) in
    ap (λ l. l ++ count ∷ []) so_far ∙ ap (λ k. take n all ++ k ∷ []) here ∙ sym (take_more all n 0 short)
