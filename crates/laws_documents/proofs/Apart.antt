-- Names that are apart, as rows of a table are: for what is said of the fields of a node elsewhere.
use Rattle.std.proofs.Common.{◌≡◌, ℕ, ◌+◌, Bool, true, false, if◌then◌else◌, List, [], ◌∷◌, ◌++◌, length, Option, Some, None, option_map, map, bytes_eq, refl, ap, sym, ◌∙◌, subst}
use Rattle.std.specs.Prelude.{◌&&◌, is_none}
use Rattle.std.specs.List.{AllByRecursion}
use Rattle.std.specs.Option.{option_or}
use Rattle.std.proofs.lemmas.List.{append-nil, append_assoc}
use Rattle.std.proofs.lemmas.Option.{none-some}
use Rattle.x3d_values.specs.Tables.{FieldRowView, are_distinct, numbered, row_named, rows}
use Rattle.x3d_values.specs.declared.node_type.NodeType.{NodeType}
use Rattle.x3d_values.specs.declared.table.FieldRow.{FieldRow}
use Rattle.laws_documents.specs.Signatures.{of_type}
use Rattle.laws_documents.specs.Signatures.{KnownField}
use Rattle.proto_meaning.specs.Names.{Name, Field}
use Rattle.proto_meaning.specs.Flat.{fields_of, numbered_from}
use Rattle.laws_documents.specs.Fields.{number_of}
use Rattle.laws_documents.proofs.Lists.{all_split}
use Rattle.laws_documents.specs.PlainLaws.{AreApart}
use Rattle.laws_documents.proofs.Numbers.{first, numbered_append, rows_number}

-- ---- a name that isn't found

abbrev Other : Name → Field → Type 0
Other name x = bytes_eq x.name name ≡ false

front_none : (o p : Option (ℕ × Field)) → option_or o p ≡ None → o ≡ None
front_none None p e = refl
front_none (Some x) p e = e

other_by : (b : Bool) (x : ℕ × Field) (o : Option (ℕ × Field)) → (if b then Some x else o) ≡ None → (b ≡ false) × (o ≡ None)
other_by true x o e = absurd (none-some x (sym e))
other_by false x o e = (refl, e)

all_other : (n : ℕ) (name : Name) (fs : List Field) → numbered_from n name fs ≡ None → AllByRecursion (Other name) fs
all_other n name [] e = tt
all_other n name (f ∷ fs) e = let both = other_by (bytes_eq f.name name) (n, f) (numbered_from (n + 1) name fs) e in (both.0, all_other (n + 1) name fs both.1)

-- each of the first is apart from each of the others
abbrev Apart : List Field → Field → Type 0
Apart ds x = AllByRecursion (λ (d : Field). Other d.name x) ds

both_apart : (d : Field) (ds fs : List Field) → AllByRecursion (Other d.name) fs → AllByRecursion (Apart ds) fs → AllByRecursion (Apart (d ∷ ds)) fs
both_apart d ds [] h k = tt
both_apart d ds (f ∷ fs) h k = ((h.0, k.0), both_apart d ds fs h.1 k.1)

no_others : (fs : List Field) → AllByRecursion (Apart []) fs
no_others [] = tt
no_others (f ∷ fs) = (tt, no_others fs)

apart_from : (fs ds : List Field) → AreApart fs ds → AllByRecursion (Apart ds) fs
apart_from fs [] h = no_others fs
apart_from fs (d ∷ ds) h = both_apart d ds fs (all_other 0 d.name fs h.0) (all_split (Apart ds) fs (d ∷ []) (apart_from (fs ++ d ∷ []) ds h.1)).0

-- ---- as rows

row_none : (b : Bool) (row : FieldRow) (o : Option FieldRow) → b ≡ false → o ≡ None → (if b then Some row else o) ≡ None
row_none true row o e k = absurd cc
row_none false row o e k = k

module _ (of : Field → FieldRowView) (named : (d : Field) → (of d).name ≡ d.name) where
  not_row : (n : ℕ) (x : Field) (ds : List Field) → Apart ds x → row_named n x.name (map of ds) ≡ None
  not_row n x [] h = refl
  not_row n x (d ∷ ds) h =
      row_none (bytes_eq x.name (of d).name) (numbered n (of d)) (row_named (n + 1) x.name (map of ds)) (ap (bytes_eq x.name) (named d) ∙ h.0) (not_row (n + 1) x ds h.1)

  both_true : (a b : Bool) → a ≡ true → b ≡ true → a && b ≡ true
  both_true true b e k = k
  both_true false b e k = absurd cc

  -- the fields that a node declares have distinct names
  pub apart_distinct : (fs ds : List Field) → AreApart fs ds → are_distinct (map of ds) ≡ true
  apart_distinct fs [] h = refl
  apart_distinct fs (d ∷ ds) h =
      let mine = (all_split (Apart ds) fs (d ∷ []) (apart_from (fs ++ d ∷ []) ds h.1)).1.0 in
      both_true (is_none (row_named 0 (of d).name (map of ds))) (are_distinct (map of ds)) (ap is_none (ap (λ name. row_named 0 name (map of ds)) (named d) ∙ not_row 0 d ds mine)) (apart_distinct (fs ++ d ∷ []) ds h.1)

none_of : (o : Option KnownField) → option_map number_of o ≡ None → o ≡ None
none_of None e = refl
none_of (Some f) e = absurd (none-some f.number (sym e))

own_none : (t : NodeType) (more ds : List Field) → AreApart (fields_of t ++ more) ds → AllByRecursion (λ (d : Field). of_type t d.name ≡ None) ds
own_none t more [] h = tt
own_none t more (d ∷ ds) h =
    let none = front_none (numbered_from 0 d.name (fields_of t)) (numbered_from (0 + length (fields_of t)) d.name more) (sym (numbered_append 0 d.name (fields_of t) more) ∙ h.0) in (
      none_of (of_type t d.name) (rows_number 0 d.name (rows t) ∙ ap (option_map first) none),
      own_none t (more ++ d ∷ []) ds (subst (λ fs. AreApart fs ds) (append_assoc (fields_of t) more (d ∷ [])) h.1),
    )

-- and none that of a field of the type
pub apart_none_own : (t : NodeType) (ds : List Field) → AreApart (fields_of t) ds → AllByRecursion (λ (d : Field). of_type t d.name ≡ None) ds
apart_none_own t ds h = own_none t [] ds (subst (λ fs. AreApart fs ds) (sym (append-nil (fields_of t))) h)
