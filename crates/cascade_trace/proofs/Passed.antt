-- The lines of a trace that pass a test.
use Rattle.std.proofs.Common.{◌≤◌, ◌<◌, ◌+◌, get_or, length, drop, ◌≡◌, ◌≢◌, Bool, true, false, ◌&&◌, cond, ℕ, List, [], ◌∷◌, ◌∙◌, ap, sym, refl, Option, Some, None}
use Rattle.std.specs.Prelude.{ℤ, slice_get}
use Rattle.std.specs.List.{list_all}
use Rattle.std.specs.Option.{option_map, option_map_or}
use Rattle.std.proofs.lemmas.List.{at_drop_all, at_drop_more}
use Rattle.x3d_values.specs.declared.value.Value.{Value}
use Rattle.cascade_trace.specs.declared.trace.Entry.{Entry}
use Rattle.cascade_trace.specs.declared.trace.EntryKind.{EntryKind}
use Rattle.cascade_trace.specs.declared.trace.EntryKind.TheVariants as entry_kind
use Rattle.cascade_trace.specs.declared.trace.TraceLine.{TraceLine}
use Rattle.cascade_trace.specs.Trace.{lines_of, lines_by, line, end_of, plain_value, taking}
use Rattle.cascade_trace.proofs.Told.{other-left}

module _ (passing : TraceLine → Bool) where
  plain-by : (e : Entry) (es : List Entry) (i : ℕ) (t : ℤ) (vs : List Value) (k : EntryKind) → k ≢ entry_kind.Input → k ≢ entry_kind.Other →
      list_all passing (lines_by (lines_of es) i t vs e k)
      ≡ (option_map_or (λ v. passing (line i t (end_of e) v)) (plain_value k e.word) true && list_all passing (lines_of es i t vs))
  plain-by e es i t vs entry_kind.Input h g = absurd (h refl)
  plain-by e es i t vs entry_kind.True h g = refl
  plain-by e es i t vs entry_kind.False h g = refl
  plain-by e es i t vs entry_kind.Whole h g = refl
  plain-by e es i t vs entry_kind.Number h g = refl
  plain-by e es i t vs entry_kind.Time h g = refl
  plain-by e es i t vs entry_kind.Other h g = absurd (g refl)

  -- an entry with its value, which passes or not
  pub plain-next : (e : Entry) (es : List Entry) (i : ℕ) (t : ℤ) (vs : List Value) → e.kind ≢ entry_kind.Input → e.kind ≢ entry_kind.Other → (passed : Bool) →
      passed ≡ option_map_or (λ v. passing (line i t (end_of e) v)) (plain_value e.kind e.word) true →
      (passed && list_all passing (lines_of es i t vs)) ≡ list_all passing (lines_of (e ∷ es) i t vs)
  unfolding lines_of
  plain-next e es i t vs h g passed is =
      ap (λ (b : Bool). b && list_all passing (lines_of es i t vs)) is ∙ sym (plain-by e es i t vs e.kind h g)

  taking-next : (e : Entry) (es : List Entry) (i : ℕ) (t : ℤ) (vs : List Value) →
      option_map_or (λ us. list_all passing (lines_of es i t us))
      (cond (option_map_or (λ v. passing (line i t (end_of e) v)) (slice_get vs 0) true) (Some (drop 1 vs)) None) false
      ≡ list_all passing (taking (lines_of es i t) i t (end_of e) vs)
  taking-next e es i t [] = refl
  taking-next e es i t (v ∷ vs) = by-test (passing (line i t (end_of e) v))
    where
      by-test : (b : Bool) → option_map_or (λ us. list_all passing (lines_of es i t us)) (cond b (Some vs) None) false ≡ (b && list_all passing (lines_of es i t vs))
      by-test true = refl
      by-test false = refl

  -- an entry whose value stands aside
  pub other-next : {A : Type 0} (now : A → List Value) (r : Option A) (e : Entry) (es : List Entry) (i : ℕ) (t : ℤ) (vs : List Value) → e.kind ≡ entry_kind.Other →
      option_map now r ≡ cond (option_map_or (λ v. passing (line i t (end_of e) v)) (slice_get vs 0) true) (Some (drop 1 vs)) None →
      option_map_or (λ left. list_all passing (lines_of es i t (now left))) r false ≡ list_all passing (lines_of (e ∷ es) i t vs)
  other-next {A} now r e es i t vs h is =
      mapped r ∙ ap (λ (o : Option (List Value)). option_map_or (λ us. list_all passing (lines_of es i t us)) o false) is
      ∙ taking-next e es i t vs ∙ sym (ap (list_all passing) (other-left e es i t vs h))
    where
      mapped : (o : Option A) → option_map_or (λ left. list_all passing (lines_of es i t (now left))) o false
          ≡ option_map_or (λ us. list_all passing (lines_of es i t us)) (option_map now o) false
      mapped (Some x) = refl
      mapped None = refl

  -- those that are left decide, where one entry more was gone through
  pub passed-next : (entries : List Entry) (n : ℕ) (d : Entry) (i : ℕ) (t : ℤ) (vs : List Value) (b all : Bool) → n < length entries →
      b ≡ list_all passing (lines_of (get_or entries n d ∷ drop (n + 1) entries) i t vs) →
      list_all passing (lines_of (drop n entries) i t vs) ≡ all → b ≡ all
  passed-next entries n d i t vs b all below one before =
      one ∙ sym (at_drop_more (λ (es : List Entry). list_all passing (lines_of es i t vs)) entries n d below) ∙ before

  -- and where all were
  pub passed-all : (entries : List Entry) (n i : ℕ) (t : ℤ) (vs : List Value) (all : Bool) → length entries ≤ n →
      list_all passing (lines_of (drop n entries) i t vs) ≡ all → true ≡ all
  unfolding lines_of
  passed-all entries n i t vs all past before =
      sym (at_drop_all (λ (es : List Entry). list_all passing (lines_of es i t vs)) entries n past) ∙ before
