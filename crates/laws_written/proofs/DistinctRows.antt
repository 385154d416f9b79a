-- Rows with distinct names, and rows put behind them.
use Rattle.std.proofs.Common.{◌≡◌, ℕ, ◌+◌, Bool, true, false, ◌&&◌, if◌then◌else◌, List, [], ◌∷◌, ◌++◌, Option, Some, nat_eq, refl, sym, ◌∙◌, true≢false}
use Rattle.std.specs.Prelude.{is_none}
use Rattle.std.specs.List.{AllByRecursion}
use Rattle.std.specs.Cmp.Lexicographic.{pointwise}
use Rattle.std.proofs.lemmas.Slice.Eq.{bytes_eq-Decides}
use Rattle.x3d_values.specs.declared.table.FieldRow.{FieldRow}
use Rattle.x3d_values.specs.Tables.{FieldRowView, are_distinct, numbered, row_named}
use Rattle.laws_documents.proofs.Lists.{all_append, all_weaker}

both : (a b : Bool) → (a && b) ≡ true → (a ≡ true) × (b ≡ true)
both true true h = (refl, refl)
both true false h = absurd cc
both false b h = absurd cc

and_true : (a b : Bool) → a ≡ true → b ≡ true → (a && b) ≡ true
and_true true b h k = k
and_true false b h k = absurd cc

-- the row has another name
abbrev pub IsApart : List ℕ → FieldRowView → Type 0
IsApart name e = name ≡ e.name → ⊥

abbrev pub AreApart : List ℕ → List FieldRowView → Type 0
AreApart name es = AllByRecursion (IsApart name) es

-- ---- a name that no row has

if_none : (b : Bool) (r : FieldRow) (o : Option FieldRow) → is_none (if b then Some r else o) ≡ true → (b ≡ false) × (is_none o ≡ true)
if_none true r o h = absurd cc
if_none false r o h = (refl, h)

none_if : (b : Bool) (r : FieldRow) (o : Option FieldRow) → (b ≡ true → ⊥) → is_none o ≡ true → is_none (if b then Some r else o) ≡ true
none_if true r o h k = absurd (h refl)
none_if false r o h k = k

pub apart : (k : ℕ) (name : List ℕ) (es : List FieldRowView) → is_none (row_named k name es) ≡ true → AreApart name es
apart k name [] h = tt
apart k name (e ∷ es) h =
    let p = if_none (pointwise nat_eq name e.name) (numbered k e) (row_named (k + 1) name es) h in
    (λ same. true≢false (sym ((bytes_eq-Decides name e.name).1 same) ∙ p.0), apart (k + 1) name es p.1)

unnamed : (k : ℕ) (name : List ℕ) (es : List FieldRowView) → AreApart name es → is_none (row_named k name es) ≡ true
unnamed k name [] h = refl
unnamed k name (e ∷ es) h =
    none_if (pointwise nat_eq name e.name) (numbered k e) (row_named (k + 1) name es) (λ same. h.0 ((bytes_eq-Decides name e.name).0 same)) (unnamed (k + 1) name es h.1)

-- ---- rows behind others

-- none of these has the name of one of those
abbrev pub HaveOtherNames : List FieldRowView → List FieldRowView → Type 0
HaveOtherNames es fs = AllByRecursion (λ (f : FieldRowView). AreApart f.name es) fs

pub distinct_append : (es fs : List FieldRowView) → are_distinct es ≡ true → are_distinct fs ≡ true → HaveOtherNames es fs → are_distinct (es ++ fs) ≡ true
distinct_append [] fs h k l = k
distinct_append (e ∷ es) fs h k l =
    let p = both (is_none (row_named 0 e.name es)) (are_distinct es) h in
    let here : AreApart e.name fs = all_weaker (λ (f : FieldRowView). AreApart f.name (e ∷ es)) (IsApart e.name) (λ f q same. q.0 (sym same)) fs l in
    let others : HaveOtherNames es fs = all_weaker (λ (f : FieldRowView). AreApart f.name (e ∷ es)) (λ (f : FieldRowView). AreApart f.name es) (λ f q. q.1) fs l in
    and_true (is_none (row_named 0 e.name (es ++ fs))) (are_distinct (es ++ fs))
    (unnamed 0 e.name (es ++ fs) (all_append (IsApart e.name) es fs (apart 0 e.name es p.0) here))
    (distinct_append es fs p.1 k others)

front : {A : Type 0} (P : A → Type 0) (xs ys : List A) → AllByRecursion P (xs ++ ys) → AllByRecursion P xs
front P [] ys h = tt
front P (x ∷ xs) ys h = (h.0, front P xs ys h.1)

-- and the first of them
pub distinct_front : (es fs : List FieldRowView) → are_distinct (es ++ fs) ≡ true → are_distinct es ≡ true
distinct_front [] fs h = refl
distinct_front (e ∷ es) fs h =
    let p = both (is_none (row_named 0 e.name (es ++ fs))) (are_distinct (es ++ fs)) h in
    and_true (is_none (row_named 0 e.name es)) (are_distinct es)
    (unnamed 0 e.name es (front (IsApart e.name) es fs (apart 0 e.name (es ++ fs) p.0)))
    (distinct_front es fs p.1)
