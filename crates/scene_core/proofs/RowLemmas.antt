-- The fields that a node declares stand behind those of its type.
use Rattle.std.proofs.Common.{◌≡◌, Bool, true, false, ℕ, zero, suc, ◌+◌, ◌-◌, ◌<◌, ◌≤◌, List, [], ◌∷◌, ◌++◌, Option, Some, None, length, map, take, drop, get_or, nat_eq, ap, sym, refl, ◌∙◌, arith, length-append, drop-cons}
use Rattle.std.specs.Prelude.{slice_get, if◌then◌else◌}
use Rattle.std.specs.Option.{option_map, option_or}
use Rattle.std.specs.Cmp.Lexicographic.{pointwise}
use Rattle.std.proofs.lemmas.Grind.{common_steps}
use Rattle.std.proofs.lemmas.List.{length-map, length-take}
use Rattle.std.proofs.lemmas.Option.{slice_get-get_or, slice_get-map}
use Rattle.x3d_values.specs.declared.node_type.NodeType.{NodeType}
use Rattle.x3d_values.specs.declared.rows.Field.{Field}
use Rattle.x3d_values.specs.declared.table.FieldRow.{FieldRow}
use Rattle.x3d_values.specs.Tables.{FieldRowView, entry, numbered, row_named, rows}
use Rattle.scene_core.specs.declared.row.DeclaredField.{DeclaredField}
use Rattle.scene_core.specs.Shape.{declared_entry, numbered_fields, most_declared, rows_of, shape_by}

-- ---- lists

pub drop-step : {A : Type 0} (xs : List A) (i : ℕ) (d : A) → i < length xs → drop i xs ≡ get_or xs i d ∷ drop (i + 1) xs
drop-step xs i d h = let e : i + 1 ≡ suc i = omega arith in rw e (drop-cons xs i d h)

get-front : {A : Type 0} (xs ys : List A) (n : ℕ) (x : A) → slice_get xs n ≡ Some x → slice_get (xs ++ ys) n ≡ Some x
get-front [] ys n x e = cc
get-front (y ∷ xs) ys zero x e = e
get-front (y ∷ xs) ys (suc n) x e = get-front xs ys n x e

get-behind : {A : Type 0} (xs ys : List A) (n k : ℕ) → n ≡ length xs + k → slice_get (xs ++ ys) n ≡ slice_get ys k
get-behind [] ys n k e = let same : n ≡ k = omega (arith, e) in ap (λ m. slice_get ys m) same
get-behind (x ∷ xs) ys zero k e = absurd (omega (arith, e))
get-behind (x ∷ xs) ys (suc n) k e = get-behind xs ys n k (omega (arith, e))

get-taken : {A : Type 0} (k : ℕ) (xs : List A) (n : ℕ) → n < k → slice_get (take k xs) n ≡ slice_get xs n
get-taken zero xs n h = absurd (omega (arith, h))
get-taken (suc k) [] n h = refl
get-taken (suc k) (x ∷ xs) zero h = refl
get-taken (suc k) (x ∷ xs) (suc n) h = get-taken k xs n (omega (arith, h))

-- ---- by number

pub own-row : (t : NodeType) (declared : List DeclaredField) (own : List Field) (n : ℕ) (f : Field) → map entry own ≡ rows t → slice_get own n ≡ Some f
    → slice_get (rows_of (shape_by t declared)) n ≡ Some (entry f)
own-row t declared own n f e is =
    let here : slice_get (rows t) n ≡ Some (entry f) = ap (λ (es : List FieldRowView). slice_get es n) (sym e) ∙ slice_get-map entry own n ∙ ap (λ o. option_map entry o) is in
    get-front (rows t) (map declared_entry (numbered_fields t declared)) n (entry f) here

pub own-row-at : (t : NodeType) (declared : List DeclaredField) (own : List Field) (n : ℕ) (d : Field) → map entry own ≡ rows t → n < length own
    → slice_get (rows_of (shape_by t declared)) n ≡ Some (entry (get_or own n d))
own-row-at t declared own n d e h = own-row t declared own n (get_or own n d) e (slice_get-get_or own n d h)

pub own-length : (t : NodeType) (own : List Field) → map entry own ≡ rows t → length (rows t) ≡ length own
own-length t own e = ap (λ (es : List FieldRowView). length es) (sym e) ∙ length-map own entry

pub declared-row : (t : NodeType) (declared : List DeclaredField) (own : List Field) (n : ℕ) → map entry own ≡ rows t → length own ≤ n → n < 65536
    → slice_get (rows_of (shape_by t declared)) n ≡ option_map declared_entry (slice_get declared (n - length own))
declared-row t declared own n e behind small =
    let own_is = own-length t own e in
    let k : ℕ = n - length own in
    get-behind (rows t) (map declared_entry (numbered_fields t declared)) n k (omega (arith, own_is, behind))
    ∙ slice_get-map declared_entry (numbered_fields t declared) k
    ∙ ap (λ o. option_map declared_entry o) (get-taken (most_declared t) declared k (omega (arith, own_is, behind, small)))

pub rows-count : (t : NodeType) (declared : List DeclaredField) (own : List Field) (some : List DeclaredField) → map entry own ≡ rows t → some ≡ numbered_fields t declared
    → length own + length some ≡ length (rows_of (shape_by t declared))
rows-count t declared own some e is =
    let own_is = own-length t own e in
    let all = length-append (rows t) (map declared_entry (numbered_fields t declared)) in
    let behind = length-map (numbered_fields t declared) declared_entry in
    let same = ap (λ (ds : List DeclaredField). length ds) is in
    omega (arith, own_is, all, behind, same)

pub rows-few : (t : NodeType) (own : List Field) (declared some : List DeclaredField) → map entry own ≡ rows t → length own ≤ 65536 → some ≡ numbered_fields t declared
    → length own + length some ≤ 65536
rows-few t own declared some e small is =
    let own_is = own-length t own e in
    let same = ap (λ (ds : List DeclaredField). length ds) is in
    omega (arith, own_is, small, same, length-take (most_declared t) declared)

-- ---- by name

or-if : {A : Type 0} (b : Bool) (x : A) (r s t : Option A) → s ≡ option_or r t → (if b then Some x else s) ≡ option_or (if b then Some x else r) t
or-if true x r s t e = refl
or-if false x r s t e = e

pub named-append : (n : ℕ) (name : List ℕ) (xs ys : List FieldRowView) → row_named n name (xs ++ ys) ≡ option_or (row_named n name xs) (row_named (n + length xs) name ys)
named-append n name [] ys = let e : n ≡ n + 0 = omega arith in ap (λ k. row_named k name ys) e
named-append n name (x ∷ xs) ys =
    let k : ℕ = n + length (x ∷ xs) in
    let same : n + 1 + length xs ≡ k = omega arith in
    let later : row_named (n + 1) name (xs ++ ys) ≡ option_or (row_named (n + 1) name xs) (row_named k name ys) =
    named-append (n + 1) name xs ys ∙ ap (λ i. option_or (row_named (n + 1) name xs) (row_named i name ys)) same in
    or-if (pointwise nat_eq name x.name) (numbered n x) (row_named (n + 1) name xs) (row_named (n + 1) name (xs ++ ys)) (row_named k name ys) later

named-cons : (first next : ℕ) (name : List ℕ) (d : DeclaredField) (ds : List DeclaredField) → first + 1 ≡ next → row_named first name (map declared_entry (d ∷ ds))
    ≡ (if pointwise nat_eq name d.name then Some (numbered first (declared_entry d)) else row_named next name (map declared_entry ds))
named-cons first next name d ds e = ap (λ k. if pointwise nat_eq name d.name then Some (numbered first (declared_entry d)) else row_named k name (map declared_entry ds)) e

pub named-step : (first : ℕ) (name : List ℕ) (ds : List DeclaredField) (i : ℕ) (d : DeclaredField) → i < length ds → row_named (first + i) name (map declared_entry (drop i ds))
    ≡ (if pointwise nat_eq name (get_or ds i d).name then Some (numbered (first + i) (declared_entry (get_or ds i d)))
    else row_named (first + (i + 1)) name (map declared_entry (drop (i + 1) ds)))
named-step first name ds i d h =
    ap (λ xs. row_named (first + i) name (map declared_entry xs)) (drop-step ds i d h)
    ∙ named-cons (first + i) (first + (i + 1)) name (get_or ds i d) (drop (i + 1) ds) (omega arith)

-- the row of the type, where one has the name
pub named-own : (t : NodeType) (declared : List DeclaredField) (name : List ℕ) (row : FieldRow) → Some row ≡ row_named 0 name (rows t)
    → Some row ≡ row_named 0 name (rows_of (shape_by t declared))
named-own t declared name row e =
    ap (λ o. option_or o (row_named (0 + length (rows t)) name (map declared_entry (numbered_fields t declared)))) e
    ∙ sym (named-append 0 name (rows t) (map declared_entry (numbered_fields t declared)))

-- or else that of a declared field
pub named-declared : (t : NodeType) (declared some : List DeclaredField) (own : List Field) (name : List ℕ) (row : Option FieldRow) → None ≡ row_named 0 name (rows t)
    → map entry own ≡ rows t → some ≡ numbered_fields t declared → row ≡ row_named (length own) name (map declared_entry some)
    → row ≡ row_named 0 name (rows_of (shape_by t declared))
named-declared t declared some own name row none e same is =
    let first : length own ≡ 0 + length (rows t) = omega (arith, own-length t own e) in
    is
    ∙ ap (λ n. row_named n name (map declared_entry some)) first
    ∙ ap (λ ds. row_named (0 + length (rows t)) name (map declared_entry ds)) same
    ∙ ap (λ o. option_or o (row_named (0 + length (rows t)) name (map declared_entry (numbered_fields t declared)))) none
    ∙ sym (named-append 0 name (rows t) (map declared_entry (numbered_fields t declared)))

pub ruleset by_number = (common_steps, own-row-at, declared-row, rows-count, rows-few)

pub ruleset by_name = (common_steps, named-step, own-length)
