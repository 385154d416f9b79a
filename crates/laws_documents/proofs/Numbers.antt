-- The number by which a field between braces is found is that which is read.
use Rattle.std.proofs.Common.{◌≡◌, ℕ, ◌+◌, Bool, true, false, if◌then◌else◌, List, [], ◌∷◌, ◌++◌, length, Option, Some, None, option_map, map, bytes_eq, refl, ap, sym, ◌∙◌, arith}
use Rattle.std.specs.Prelude.{is_some}
use Rattle.std.specs.Option.{option_or}
use Rattle.std.proofs.lemmas.List.{length-map}
use Rattle.std.proofs.lemmas.Option.{none-some}
use Rattle.std.proofs.lemmas.Slice.Eq.{bytes_eq-Decides}
use denote.Enum.Bare.{sameb}
use Rattle.x3d_values.specs.Tables.{FieldRowView, numbered, row_named, rows}
use Rattle.x3d_values.specs.declared.table.FieldRow.{FieldRow}
use Rattle.x3d_values.specs.contracts.node_type.NodeType as node_types
use Rattle.x3d_values.specs.declared.node_type.NodeType.{NodeType}
use Rattle.x3d_values.specs.declared.node_type.NodeType.TheVariants.{Script}
use Rattle.laws_documents.specs.Signatures.{Signature, of_declared, of_row, of_signature, of_type, signature, signatures}
use Rattle.laws_documents.specs.Signatures as known
use Rattle.proto_meaning.specs.Names.{Name, Field}
use Rattle.proto_meaning.specs.Flat.{field_with, fields_of, numbered_from}
use Rattle.laws_documents.specs.Fields.{interface_of, number_of, numbering}
use Rattle.laws_documents.proofs.Names.{turned}

abbrev pub is_script : NodeType → Bool
is_script t = sameb node_types.the_type t Script

-- only a Script declares fields
abbrev pub OwnsBy : Bool → List Field → Type 0
OwnsBy true ds = Unit {0}
OwnsBy false ds = ds ≡ []

abbrev pub Owns : NodeType → List Field → Type 0
Owns t ds = OwnsBy (is_script t) ds

-- ---- numbers in lists

abbrev pub first : ℕ × Field → ℕ
first f = f.0

or_assoc : {X : Type 0} (a b c : Option X) → option_or a (option_or b c) ≡ option_or (option_or a b) c
or_assoc (Some x) b c = refl
or_assoc None b c = refl

or_if : {X : Type 0} (b : Bool) (x : X) (m n : Option X) → (if b then Some x else option_or m n) ≡ option_or (if b then Some x else m) n
or_if true x m n = refl
or_if false x m n = refl

or_mapped : {X Y : Type 0} (f : X → Y) (a b : Option X) → option_map f (option_or a b) ≡ option_or (option_map f a) (option_map f b)
or_mapped f (Some x) b = refl
or_mapped f None b = refl

if_mapped : {X Y Z : Type 0} (f : X → Z) (g : Y → Z) (b : Bool) (x : X) (y : Y) (m : Option X) (n : Option Y) → f x ≡ g y → option_map f m ≡ option_map g n → option_map f (if b then Some x else m) ≡ option_map g (if b then Some y else n)
if_mapped f g true x y m n e k = ap (λ z. Some z) e
if_mapped f g false x y m n e k = k

pub numbered_append : (n : ℕ) (name : Name) (xs ys : List Field) → numbered_from n name (xs ++ ys) ≡ option_or (numbered_from n name xs) (numbered_from (n + length xs) name ys)
numbered_append n name [] ys =
    let here : n ≡ n + 0 = omega arith in
    ap (λ k. numbered_from k name ys) here
numbered_append n name (x ∷ xs) ys =
    let there : n + 1 + length xs ≡ n + length (x ∷ xs) = omega arith in
    ap (λ o. if bytes_eq x.name name then Some (n, x) else o) (numbered_append (n + 1) name xs ys)
    ∙ or_if (bytes_eq x.name name) (n, x) (numbered_from (n + 1) name xs) (numbered_from (n + 1 + length xs) name ys)
    ∙ ap (λ k. option_or (numbered_from n name (x ∷ xs)) (numbered_from k name ys)) there

known_append : (n : ℕ) (name : Name) (xs ys : List Signature) → known.numbered_from n name (xs ++ ys) ≡ option_or (known.numbered_from n name xs) (known.numbered_from (n + length xs) name ys)
known_append n name [] ys =
    let here : n ≡ n + 0 = omega arith in
    ap (λ k. known.numbered_from k name ys) here
known_append n name (x ∷ xs) ys =
    let there : n + 1 + length xs ≡ n + length (x ∷ xs) = omega arith in
    ap (λ o. if bytes_eq x.name name then Some (of_signature n x) else o) (known_append (n + 1) name xs ys)
    ∙ or_if (bytes_eq x.name name) (of_signature n x) (known.numbered_from (n + 1) name xs) (known.numbered_from (n + 1 + length xs) name ys)
    ∙ ap (λ k. option_or (known.numbered_from n name (x ∷ xs)) (known.numbered_from k name ys)) there

abbrev row_field : FieldRowView → Field
row_field row = field_with 0 row.access row.field_type row.name

row_mapped : (b : Bool) (row : FieldRow) (m : Option FieldRow) → option_map of_row (if b then Some row else m) ≡ (if b then Some (of_row row) else option_map of_row m)
row_mapped true row m = refl
row_mapped false row m = refl

-- a field of the type has the number of its row
pub rows_number : (n : ℕ) (name : Name) (es : List FieldRowView) → option_map number_of (option_map of_row (row_named n name es)) ≡ option_map first (numbered_from n name (map row_field es))
rows_number n name [] = refl
rows_number n name (e ∷ es) =
    ap (λ b. option_map number_of (option_map of_row (if b then Some (numbered n e) else row_named (n + 1) name es))) (turned name e.name)
    ∙ ap (option_map number_of) (row_mapped (bytes_eq e.name name) (numbered n e) (row_named (n + 1) name es))
    ∙ if_mapped number_of first (bytes_eq e.name name) (of_row (numbered n e)) (n, row_field e) (option_map of_row (row_named (n + 1) name es)) (numbered_from (n + 1) name (map row_field es)) refl (rows_number (n + 1) name es)

-- and a declared one that of its declaration
declared_number : (n : ℕ) (name : Name) (ds : List Field) → option_map number_of (known.numbered_from n name (signatures ds)) ≡ option_map first (numbered_from n name ds)
declared_number n name [] = refl
declared_number n name (d ∷ ds) =
    if_mapped number_of first (bytes_eq d.name name) (of_signature n (signature d)) (n, d) (known.numbered_from (n + 1) name (signatures ds)) (numbered_from (n + 1) name ds) refl (declared_number (n + 1) name ds)

-- ---- a field that is found

or_told : (a b c : Option ℕ) (k : ℕ) → ((j : ℕ) → b ≡ Some j → c ≡ Some j) → option_or a b ≡ Some k → option_or a c ≡ Some k
or_told (Some x) b c k h e = e
or_told None b c k h e = h k e

pub or_first : (a b : Option ℕ) (j : ℕ) → a ≡ Some j → option_or a b ≡ Some j
or_first (Some x) b j e = e
or_first None b j e = absurd (none-some j e)

declared_told : (s : Bool) (n : ℕ) (name : Name) (ds : List Field) (rest : List Signature) → OwnsBy s ds → (j : ℕ) → option_map first (numbered_from n name ds) ≡ Some j
    → option_map number_of (known.numbered_from n name (if s then signatures ds ++ rest else [])) ≡ Some j
declared_told true n name ds rest h j e =
    ap (option_map number_of) (known_append n name (signatures ds) rest)
    ∙ or_mapped number_of (known.numbered_from n name (signatures ds)) (known.numbered_from (n + length (signatures ds)) name rest)
    ∙ or_first (option_map number_of (known.numbered_from n name (signatures ds))) (option_map number_of (known.numbered_from (n + length (signatures ds)) name rest)) j (declared_number n name ds ∙ e)
declared_told false n name ds rest h j e = absurd (none-some j (sym (ap (λ xs. option_map first (numbered_from n name xs)) h) ∙ e))

pub number_is : (t : NodeType) (ds : List Field) (rest : List Signature) (name : Name) (k : ℕ) (f : Field) → Owns t ds → numbered_from 0 name (fields_of t ++ ds) ≡ Some (k, f)
    → numbering (Some t) (signatures ds ++ rest) name ≡ Some k
number_is t ds rest name k f h e =
    let rows_are : 0 + length (fields_of t) ≡ length (rows t) = omega (arith, length-map (rows t) row_field) in
    let found = sym (or_mapped first (numbered_from 0 name (fields_of t)) (numbered_from (0 + length (fields_of t)) name ds)) ∙ ap (option_map first) (sym (numbered_append 0 name (fields_of t) ds) ∙ e) in
    or_mapped number_of (of_type t name) (of_declared t (signatures ds ++ rest) name)
    ∙ ap (λ o. option_or o (option_map number_of (of_declared t (signatures ds ++ rest) name))) (rows_number 0 name (rows t))
    ∙ or_told (option_map first (numbered_from 0 name (fields_of t))) (option_map first (numbered_from (0 + length (fields_of t)) name ds)) (option_map number_of (of_declared t (signatures ds ++ rest) name)) k
    (λ j i. declared_told (is_script t) (length (rows t)) name ds rest h j (ap (λ m. option_map first (numbered_from m name ds)) (sym rows_are) ∙ i)) found

none_first : (o : Option (ℕ × Field)) (p : Option (ℕ × Field)) → is_some o ≡ false → option_or o p ≡ p
none_first None p e = refl
none_first (Some x) p e = absurd cc

if_same : (b : Bool) (x : ℕ × Field) → b ≡ true → (if b then Some x else None) ≡ Some x
if_same true x e = refl
if_same false x e = absurd cc

-- a declaration of a new name is the next field
pub declared_next : (fs : List Field) (d : Field) → is_some (numbered_from 0 d.name fs) ≡ false → numbered_from 0 d.name (fs ++ d ∷ []) ≡ Some (length fs, d)
declared_next fs d e =
    let here : 0 + length fs ≡ length fs = omega arith in
    numbered_append 0 d.name fs (d ∷ [])
    ∙ none_first (numbered_from 0 d.name fs) (numbered_from (0 + length fs) d.name (d ∷ [])) e
    ∙ if_same (bytes_eq d.name d.name) (0 + length fs, d) ((bytes_eq-Decides d.name d.name).1 refl)
    ∙ ap (λ (k : ℕ). Some (k, d)) here

-- what a Script declares is its interface
pub interface_told : (t : NodeType) (ds : List Field) → Owns t ds → signatures ds ≡ interface_of (Some t) (signatures ds)
interface_told t ds h = by_script (is_script t) h where
  by_script : (s : Bool) → OwnsBy s ds → signatures ds ≡ (if s then signatures ds else [])
  by_script true k = refl
  by_script false k = ap signatures k
