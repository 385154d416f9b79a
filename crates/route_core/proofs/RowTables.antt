-- A table of fields by name grows from the last field to the first; nodes with tables.
use Rattle.std.proofs.Common.{◌≡◌, ◌≤◌, ◌<◌, ◌+◌, ◌==◌, ℕ, Bool, true, false, cond, List, ◌∷◌, Option, Some, drop, get_or, length, ap, sym, subst, refl, ◌∙◌, arith, ⊎_elim}
use Rattle.std.specs.Prelude.{slice_get}
use Rattle.std.specs.Ordering.{is_eq, nat_cmp}
use Rattle.std.proofs.Math.Path.{fun_ext}
use Rattle.std.proofs.lemmas.Bool.{eqb-true}
use Rattle.std.proofs.lemmas.Bool.Decides.{nat_tests}
use Rattle.std.proofs.lemmas.List.{drop_all, drop_more}
use Rattle.std.proofs.lemmas.Option.{slice_get_cases}
use Rattle.x3d_values.specs.Tables.{FieldRowView, row_named}
use Rattle.scene_core.specs.Scene.{SceneView, rows_at}
use Rattle.route_core.specs.declared.named.RowTable.{RowTable}
use Rattle.route_core.specs.declared.named.RowTables.{RowTables}
use Rattle.route_core.specs.Named.{AreTables, Rows, no_rows, rows_from, rows_in, table_at, with_entry}

pub numbers : (a b : ℕ) → is_eq (nat_cmp a b) ≡ (a == b)
numbers a b = grind (arith, nat_tests)

never : (a b : ℕ) → a < b → b ≤ a → ⊥
never a b less more = omega (arith, less, more)

grown-by : (entries : List FieldRowView) (k : ℕ) (e : FieldRowView) → k < length entries → slice_get entries k ≡ Some e → get_or entries k e ≡ e
    → with_entry k (slice_get entries k) (rows_from (k + 1) entries) ≡ rows_from k entries
grown-by entries k e within at got =
    ap (λ o. with_entry k o (rows_from (k + 1) entries)) at
    ∙ fun_ext (λ name. ap (row_named k name) (sym (drop_more entries k e within ∙ ap (λ y. y ∷ drop (k + 1) entries) got)))

-- one field more, before those behind it
grown : (entries : List FieldRowView) (k : ℕ) → k < length entries → with_entry k (slice_get entries k) (rows_from (k + 1) entries) ≡ rows_from k entries
grown entries k within =
    ⊎_elim (λ found. grown-by entries k found.0 found.1 found.2 found.3) (λ past. absurd (never k (length entries) within past.0)) (slice_get_cases entries k).1

pub one_more : (entries : List FieldRowView) (k n : ℕ) (old new : Rows) → n ≡ k + 1 → n ≤ length entries → old ≡ rows_from n entries
    → new ≡ with_entry k (slice_get entries k) old → new ≡ rows_from k entries
one_more entries k n old new next within held put =
    put ∙ ap (with_entry k (slice_get entries k)) (held ∙ ap (λ m. rows_from m entries) next) ∙ grown entries k (omega (arith, next, within))

pub none_yet : (entries : List FieldRowView) (n : ℕ) → n ≡ length entries → no_rows ≡ rows_from n entries
none_yet entries n all = fun_ext (λ name. ap (row_named n name) (sym (drop_all n entries (omega (arith, all)))))

-- ---- nodes with tables

one-of : (R : ℕ → Rows) (node n : ℕ) (table t : RowTable) (o : Option RowTable) (b : Bool) → (node == n) ≡ b → cond b (Some table) o ≡ Some t
    → (o ≡ Some t → rows_in t ≡ R n) → rows_in table ≡ R node → rows_in t ≡ R n
one-of R node n table t o true same some before here =
    let is : table ≡ t = cc in
    subst (λ k. rows_in t ≡ R k) (eqb-true node n same) (ap rows_in (sym is) ∙ here)
one-of R node n table t o false same some before here = before some

pub tables_grown : (scene : SceneView) (old new : RowTables) (node : ℕ) (table : RowTable)
    → ((n : ℕ) → table_at new n ≡ cond (is_eq (nat_cmp node n)) (Some table) (table_at old n))
    → AreTables scene old → rows_in table ≡ rows_from 0 (rows_at scene node) → AreTables scene new
unfolding AreTables
tables_grown scene old new node table updates known here = λ n t e.
    one-of (λ k. rows_from 0 (rows_at scene k)) node n table t (table_at old n) (node == n) refl
    (sym (updates n ∙ ap (λ (b : Bool). cond b (Some table) (table_at old n)) (numbers node n)) ∙ e) (known n t) here

pub in_table : (scene : SceneView) (tables : RowTables) (n : ℕ) (t : RowTable) (name : List ℕ) → AreTables scene tables → table_at tables n ≡ Some t
    → rows_in t name ≡ row_named 0 name (rows_at scene n)
unfolding AreTables
in_table scene tables n t name known at = ap (λ (rows : Rows). rows name) (known n t at)
