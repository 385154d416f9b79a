-- Fields of a type, and behind them those that are declared.
use Rattle.std.proofs.Common.{◌≡◌, ℕ, ◌+◌, Bool, true, false, if◌then◌else◌, List, [], ◌∷◌, ◌++◌, length, map, Option, Some, None, refl, ap, sym, subst, ◌∙◌, arith}
use Rattle.std.specs.Prelude.{option_map}
use Rattle.std.specs.Option.{option_or}
use Rattle.std.specs.Str.{bytes_eq}
use Rattle.std.specs.Borrow.{Bor}
use Rattle.std.proofs.lemmas.List.{append_assoc, map-append, length-append, length-map}
use Rattle.std.proofs.lemmas.Slice.Eq.{bytes_eq-Decides}
use Rattle.x3d_values.specs.Tables as tables
use Rattle.x3d_values.specs.Tables.{FieldRowView, row_named}
use Rattle.x3d_values.specs.declared.table.FieldRow.{FieldRow}
use Rattle.classic_tree.specs.declared.tree.Declaration.{Declaration}
use Rattle.classic_tree.specs.declared.tree.NodeText.{NodeText}
use Rattle.proto_meaning.specs.Names.{Name, Field}
use Rattle.proto_meaning.specs.Flat.{field, field_with, numbered_from}
use Rattle.proto_parts.specs.declared.fields.Fields.{Fields}
use Rattle.proto_parts.specs.declared.fields.KnownField.{KnownField}
use Rattle.proto_parts.specs.Fields.{AreFieldsNamed, numbered}
use Rattle.proto_parts.specs.Inside.{declared_fields}

same-truth : (p q : Bool) → (p ≡ true → q ≡ true) → (q ≡ true → p ≡ true) → p ≡ q
same-truth true q k l = sym (k refl)
same-truth false true k l = l refl
same-truth false false k l = refl

turned : (a b : Name) → bytes_eq a b ≡ bytes_eq b a
turned a b =
    same-truth (bytes_eq a b) (bytes_eq b a) (λ h. (bytes_eq-Decides b a).1 (sym ((bytes_eq-Decides a b).0 h)))
    (λ h. (bytes_eq-Decides a b).1 (sym ((bytes_eq-Decides b a).0 h)))

-- ---- fields of a type

abbrev row_known : FieldRow → KnownField
row_known row = record { line = 0; number = row.number; access = row.access; field_type = row.field_type }

abbrev row_field : FieldRowView → Field
row_field row = field_with 0 row.access row.field_type row.name

row-by : (b : Bool) (n : ℕ) (name : Name) (e : FieldRowView) (o : Option FieldRow) (rest : Option (ℕ × Field)) → bytes_eq name e.name ≡ b →
    option_map (numbered name) (option_map row_known o) ≡ rest →
    option_map (numbered name) (option_map row_known (if b then Some (tables.numbered n e) else o)) ≡ (if b then Some (n, row_field e) else rest)
row-by true n name e o rest same is = ap (λ given. Some (n, field_with 0 e.access e.field_type given)) ((bytes_eq-Decides name e.name).0 same)
row-by false n name e o rest same is = is

pub rows-known : (n : ℕ) (name : Name) (es : List FieldRowView) → option_map (numbered name) (option_map row_known (row_named n name es)) ≡ numbered_from n name (map (λ (row : FieldRowView). field_with 0 row.access row.field_type row.name) es)
rows-known n name [] = refl
rows-known n name (e ∷ es) =
    row-by (bytes_eq name e.name) n name e (row_named (n + 1) name es) (numbered_from (n + 1) name (map row_field es)) refl (rows-known (n + 1) name es)
    ∙ ap (λ b. if b then Some (n, row_field e) else numbered_from (n + 1) name (map row_field es)) (turned name e.name)

pub type-known : (name given : Name) (es : List FieldRowView) (o : Option FieldRow) → o ≡ row_named 0 given es → given ≡ name →
    option_map (numbered name) (option_map row_known o) ≡ numbered_from 0 name (map (λ (row : FieldRowView). field_with 0 row.access row.field_type row.name) es)
type-known name given es o is same =
    ap (λ (p : Option FieldRow). option_map (numbered name) (option_map row_known p)) (is ∙ ap (λ n. row_named 0 n es) same) ∙ rows-known 0 name es

-- ---- one list behind another

both-by : {A : Type 0} (b : Bool) (x : A) (o p last : Option A) → p ≡ option_or o last → (if b then Some x else p) ≡ option_or (if b then Some x else o) last
both-by true x o p last is = refl
both-by false x o p last is = is

numbered-append : (n m : ℕ) (name : Name) (xs ys : List Field) → m ≡ n + length xs → numbered_from n name (xs ++ ys) ≡ option_or (numbered_from n name xs) (numbered_from m name ys)
numbered-append n m name [] ys is =
    let same : n ≡ m = omega (arith, is) in
    ap (λ k. numbered_from k name ys) same
numbered-append n m name (x ∷ xs) ys is =
    let next : m ≡ n + 1 + length xs = omega (arith, is) in
    both-by (bytes_eq x.name name) (n, x) (numbered_from (n + 1) name xs) (numbered_from (n + 1) name (xs ++ ys)) (numbered_from m name ys) (numbered-append (n + 1) m name xs ys next)

first-is : (name : Name) (k : KnownField) (o p : Option (ℕ × Field)) → Some (numbered name k) ≡ o → Some (numbered name k) ≡ option_or o p
first-is name k o p is = ap (λ r. option_or r p) is

-- a field of the type, or of the interface
pub own-field : (name : Name) (k : KnownField) (xs ys : List Field) → Some (numbered name k) ≡ numbered_from 0 name xs → Some (numbered name k) ≡ numbered_from 0 name (xs ++ ys)
own-field name k xs ys is =
    first-is name k (numbered_from 0 name xs) (numbered_from (length xs) name ys) is
    ∙ sym (numbered-append 0 (length xs) name xs ys (omega arith))

-- a declared one
pub more-field : (name : Name) (o : Option KnownField) (xs ys : List Field) → None ≡ numbered_from 0 name xs → option_map (numbered name) o ≡ numbered_from (length xs) name ys →
    option_map (numbered name) o ≡ numbered_from 0 name (xs ++ ys)
more-field name o xs ys none is =
    is ∙ ap (λ r. option_or r (numbered_from (length xs) name ys)) none ∙ sym (numbered-append 0 (length xs) name xs ys (omega arith))

-- ---- one declaration more

pub declared-more : (old new : List (Bor (Declaration NodeText))) (d : Bor (Declaration NodeText)) → new ≡ old ++ d ∷ [] → declared_fields new ≡ declared_fields old ++ field d.now ∷ []
declared-more old new d is = ap declared_fields is ∙ map-append (λ (b : Bor (Declaration NodeText)). field b.now) old (d ∷ [])

pub fields-more : (xs : List Field) (old new : List (Bor (Declaration NodeText))) (d : Bor (Declaration NodeText)) → new ≡ old ++ d ∷ [] →
    xs ++ declared_fields new ≡ (xs ++ declared_fields old) ++ field d.now ∷ []
fields-more xs old new d is = ap (λ ys. xs ++ ys) (declared-more old new d is) ∙ sym (append_assoc xs (declared_fields old) (field d.now ∷ []))

pub count-is : (xs : List Field) (ds : List (Bor (Declaration NodeText))) (m n number : ℕ) → m ≡ length xs → n ≡ length ds → number ≡ m + n → number ≡ length xs + length (declared_fields ds)
count-is xs ds m n number e f is =
    let many : length (declared_fields ds) ≡ length ds = length-map ds (λ (b : Bor (Declaration NodeText)). field b.now) in
    omega (arith, e, f, is, many)

pub whole-count : (xs : List Field) (ds : List (Bor (Declaration NodeText))) (number : ℕ) → number ≡ length xs + length (declared_fields ds) → number ≡ length (xs ++ declared_fields ds)
whole-count xs ds number is = is ∙ sym (length-append xs (declared_fields ds))

-- a declaration more, in the table of those that were declared
pub table-more : (table : Fields) (first : ℕ) (old new : List (Bor (Declaration NodeText))) (d : Bor (Declaration NodeText)) → new ≡ old ++ d ∷ [] →
    AreFieldsNamed table first (declared_fields old ++ field d.now ∷ []) → AreFieldsNamed table first (declared_fields new)
table-more table first old new d is has = subst (λ fs. AreFieldsNamed table first fs) (sym (declared-more old new d is)) has
