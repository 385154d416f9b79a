-- Where names are distinct, each field is found by its name at its own number.
use Rattle.std.proofs.Common.{◌≡◌, ℕ, zero, suc, ◌+◌, Bool, true, false, ◌&&◌, if◌then◌else◌, ◌⊎◌, inl, inr, List, [], ◌∷◌, ◌++◌, length, map, take, Option, Some, None, nat_eq, refl, sym, ap, subst, ◌∙◌, arith, append_assoc}
use Rattle.std.specs.Prelude.{is_none, option_map}
use Rattle.std.specs.Option.{option_or}
use Rattle.std.specs.Str.{bytes_eq}
use Rattle.std.specs.Cmp.Lexicographic.{pointwise}
use Rattle.std.proofs.lemmas.List.{length-append}
use Rattle.std.proofs.lemmas.Slice.Eq.{bytes_eq-Decides}
use denote.Enum.Bare.{sameb}
use Rattle.x3d_values.specs.contracts.node_type.NodeType as node_types
use Rattle.x3d_values.specs.declared.node_type.NodeType.{NodeType}
use Rattle.x3d_values.specs.declared.node_type.NodeType.TheVariants.{Script}
use Rattle.x3d_values.specs.declared.table.FieldRow.{FieldRow}
use Rattle.x3d_values.specs.Tables.{FieldRowView, are_distinct, numbered, row_named, rows}
use Rattle.laws_documents.specs.Signatures.{KnownField}
use Rattle.laws_documents.specs.Signatures.{Signature, numbered_from, of_row, of_signature, of_type, own_interface}
use Rattle.laws_documents.specs.Fields.{Numbering, number_of, numbering}
use Rattle.scene_core.specs.declared.row.DeclaredField.{DeclaredField}
use Rattle.scene_core.specs.Shape.{declared_entry, most_declared, numbered_fields}
use Rattle.scene_core.proofs.RowLemmas.{named-append}
use Rattle.laws_written.specs.Fields.{declared_signature}

-- ---- names

same_truth : (p q : Bool) → (p ≡ true → q ≡ true) → (q ≡ true → p ≡ true) → p ≡ q
same_truth true q k l = sym (k refl)
same_truth false true k l = l refl
same_truth false false k l = refl

same_name : (a b : List ℕ) → bytes_eq a b ≡ pointwise nat_eq b a
same_name a b =
    same_truth (bytes_eq a b) (pointwise nat_eq b a)
    (λ h. (bytes_eq-Decides b a).1 (sym ((bytes_eq-Decides a b).0 h)))
    (λ h. (bytes_eq-Decides a b).1 (sym ((bytes_eq-Decides b a).0 h)))

itself : (a : List ℕ) → pointwise nat_eq a a ≡ true
itself a = (bytes_eq-Decides a a).1 refl

both : (a b : Bool) → (a && b) ≡ true → (a ≡ true) × (b ≡ true)
both true true h = (refl, refl)
both true false h = absurd cc
both false b h = absurd cc

-- ---- a row by its name

some_or : (b : Bool) (r : FieldRow) (o : Option FieldRow) → is_none o ≡ false → is_none (if b then Some r else o) ≡ false
some_or true r o h = refl
some_or false r o h = h

named_there : (k : ℕ) (before after : List FieldRowView) (e : FieldRowView) → is_none (row_named k e.name (before ++ e ∷ after)) ≡ false
named_there k [] after e = ap (λ (b : Bool). is_none (if b then Some (numbered k e) else row_named (k + 1) e.name after)) (itself e.name)
named_there k (b ∷ before) after e =
    some_or (pointwise nat_eq e.name b.name) (numbered k b) (row_named (k + 1) e.name (before ++ e ∷ after)) (named_there (k + 1) before after e)

differ : (before after : List FieldRowView) (e b : FieldRowView) → is_none (row_named 0 b.name (before ++ e ∷ after)) ≡ true → pointwise nat_eq e.name b.name ≡ false
differ before after e b h = by_test (pointwise nat_eq e.name b.name) refl where
  by_test : (t : Bool) → pointwise nat_eq e.name b.name ≡ t → t ≡ false
  by_test false same = refl
  by_test true same =
      let name : e.name ≡ b.name = (bytes_eq-Decides e.name b.name).0 same in
      sym h ∙ (sym (ap (λ (t : List ℕ). is_none (row_named 0 t (before ++ e ∷ after))) name) ∙ named_there 0 before after e)

row_is : (k : ℕ) (before after : List FieldRowView) (e : FieldRowView) → are_distinct (before ++ e ∷ after) ≡ true
    → row_named k e.name (before ++ e ∷ after) ≡ Some (numbered (k + length before) e)
row_is k [] after e h =
    let here : k ≡ k + 0 = omega arith in
    ap (λ (b : Bool). if b then Some (numbered k e) else row_named (k + 1) e.name after) (itself e.name) ∙ ap (λ (i : ℕ). Some (numbered i e)) here
row_is k (b ∷ before) after e h =
    let parts = both (is_none (row_named 0 b.name (before ++ e ∷ after))) (are_distinct (before ++ e ∷ after)) h in
    let here : k + 1 + length before ≡ k + length (b ∷ before) = omega arith in
    ap (λ (t : Bool). if t then Some (numbered k b) else row_named (k + 1) e.name (before ++ e ∷ after)) (differ before after e b parts.0)
    ∙ (row_is (k + 1) before after e parts.1 ∙ ap (λ (i : ℕ). Some (numbered i e)) here)

-- ---- rows that are found at their numbers, the first at that

abbrev pub AreNumbered : Numbering → ℕ → List FieldRowView → Type 0
AreNumbered numbers number [] = Unit {0}
AreNumbered numbers number (e ∷ others) = (numbers e.name ≡ Some number) × AreNumbered numbers (number + 1) others

abbrev row_number : FieldRow → ℕ
row_number row = row.number

abbrev by_row : List FieldRowView → Numbering
by_row all name = option_map row_number (row_named 0 name all)

all_numbered : (before after : List FieldRowView) → are_distinct (before ++ after) ≡ true → AreNumbered (by_row (before ++ after)) (length before) after
all_numbered before [] h = tt
all_numbered before (e ∷ after) h =
    let apart : (before ++ e ∷ []) ++ after ≡ before ++ e ∷ after = append_assoc before (e ∷ []) after in
    let here : 0 + length before ≡ length before = omega arith in
    let others = all_numbered (before ++ e ∷ []) after (subst (λ (all : List FieldRowView). are_distinct all ≡ true) (sym apart) h) in (
      ap (λ (o : Option FieldRow). option_map row_number o) (row_is 0 before after e h) ∙ ap (λ (i : ℕ). Some i) here,
      subst (λ (all : List FieldRowView). AreNumbered (by_row all) (length before + 1) after) apart
          (subst (λ (i : ℕ). AreNumbered (by_row ((before ++ e ∷ []) ++ after)) i after) (length-append before (e ∷ [])) others),
    )

-- by another numbering
renumbered : (f g : Numbering) → ((name : List ℕ) → f name ≡ g name) → (number : ℕ) (es : List FieldRowView) → AreNumbered f number es → AreNumbered g number es
renumbered f g k number [] h = tt
renumbered f g k number (e ∷ es) h = (sym (k e.name) ∙ h.0, renumbered f g k (number + 1) es h.1)

parted : (f : Numbering) (number : ℕ) (xs ys : List FieldRowView) → AreNumbered f number (xs ++ ys) → AreNumbered f number xs × AreNumbered f (number + length xs) ys
parted f number [] ys h = let here : number ≡ number + 0 = omega arith in (tt, subst (λ (i : ℕ). AreNumbered f i ys) here h)
parted f number (x ∷ xs) ys h =
    let p = parted f (number + 1) xs ys h.1 in
    let here : number + 1 + length xs ≡ number + length (x ∷ xs) = omega arith in
    ((h.0, p.0), subst (λ (i : ℕ). AreNumbered f i ys) here p.1)

-- ---- of a node type, and the fields that are declared

abbrev pub signed : List DeclaredField → List Signature
signed ds = map declared_signature ds

if_same : (b : Bool) (k : ℕ) (d : DeclaredField) (x : Option KnownField) (y : Option FieldRow) → option_map number_of x ≡ option_map row_number y
    → option_map number_of (if b then Some (of_signature k (declared_signature d)) else x) ≡ option_map row_number (if b then Some (numbered k (declared_entry d)) else y)
if_same true k d x y h = refl
if_same false k d x y h = h

declared_same : (k : ℕ) (name : List ℕ) (ds : List DeclaredField)
    → option_map number_of (numbered_from k name (signed ds)) ≡ option_map row_number (row_named k name (map declared_entry ds))
declared_same k name [] = refl
declared_same k name (d ∷ ds) =
    ap (λ (b : Bool). option_map number_of (if b then Some (of_signature k (declared_signature d)) else numbered_from (k + 1) name (signed ds))) (same_name d.name name)
    ∙ if_same (pointwise nat_eq name d.name) k d (numbered_from (k + 1) name (signed ds)) (row_named (k + 1) name (map declared_entry ds)) (declared_same (k + 1) name ds)

own_first : (own : Option FieldRow) (x : Option KnownField) (y : Option FieldRow) → option_map number_of x ≡ option_map row_number y
    → option_map number_of (option_or (option_map of_row own) x) ≡ option_map row_number (option_or own y)
own_first None x y h = h
own_first (Some row) x y h = refl

module _ (t : NodeType) (ds : List DeclaredField) (scripted : own_interface t (signed ds) ≡ signed ds) where
  abbrev all : List FieldRowView
  all = rows t ++ map declared_entry ds

  numbering_is : (name : List ℕ) → numbering (Some t) (signed ds) name ≡ by_row all name
  numbering_is name =
      let start : 0 + length (rows t) ≡ length (rows t) = omega arith in
      let apart : row_named 0 name all ≡ option_or (row_named 0 name (rows t)) (row_named (length (rows t)) name (map declared_entry ds)) =
      named-append 0 name (rows t) (map declared_entry ds)
      ∙ ap (λ (i : ℕ). option_or (row_named 0 name (rows t)) (row_named i name (map declared_entry ds))) start in
      ap (λ (ss : List Signature). option_map number_of (option_or (of_type t name) (numbered_from (length (rows t)) name ss))) scripted
      ∙ (own_first (row_named 0 name (rows t)) (numbered_from (length (rows t)) name (signed ds)) (row_named (length (rows t)) name (map declared_entry ds))
      (declared_same (length (rows t)) name ds)
      ∙ ap (λ (o : Option FieldRow). option_map row_number o) (sym apart))

  pub fields_numbered : are_distinct all ≡ true
      → AreNumbered (numbering (Some t) (signed ds)) 0 (rows t) × AreNumbered (numbering (Some t) (signed ds)) (length (rows t)) (map declared_entry ds)
  fields_numbered h =
      let start : 0 + length (rows t) ≡ length (rows t) = omega arith in
      let f : Numbering = numbering (Some t) (signed ds) in
      let p = parted f 0 (rows t) (map declared_entry ds) (renumbered (by_row all) f (λ name. sym (numbering_is name)) 0 all (all_numbered [] all h)) in
      (p.0, subst (λ (i : ℕ). AreNumbered f i (map declared_entry ds)) start p.1)

-- ---- only a Script declares fields

abbrev no_fields : List DeclaredField
no_fields = []

none_taken : (k : ℕ) → take k no_fields ≡ no_fields
none_taken zero = refl
none_taken (suc k) = refl

none_owned : (b : Bool) → (if b then signed no_fields else []) ≡ signed no_fields
none_owned true = refl
none_owned false = refl

pub owned : (t : NodeType) (ds : List DeclaredField) → (t ≡ Script) ⊎ (ds ≡ []) → own_interface t (signed (numbered_fields t ds)) ≡ signed (numbered_fields t ds)
owned t ds (inl e) = ap (λ (k : NodeType). own_interface k (signed (numbered_fields t ds))) e
owned t ds (inr e) =
    let none : numbered_fields t ds ≡ no_fields = ap (λ (l : List DeclaredField). numbered_fields t l) e ∙ none_taken (most_declared t) in
    ap (λ (l : List DeclaredField). own_interface t (signed l)) none
    ∙ (none_owned (sameb node_types.the_type t Script) ∙ ap (λ (l : List DeclaredField). signed l) (sym none))
