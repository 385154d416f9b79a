-- Entries and values that stay move to the front, one after another.
use Rattle.std.proofs.Common.{arith, ◌≡◌, ◌≤◌, ◌<◌, ◌+◌, Bool, true, false, cond, if◌then◌else◌, ℕ, ℤ, List, [], ◌∷◌, ◌++◌, ◌∙◌, ap, sym, refl, length, take, drop, get_or, ltb-false, ltb-true}
use Rattle.std.specs.Prelude.{count_by, nat_le, nat_lt, slice_index_or, slice_set}
use Rattle.std.proofs.lemmas.List.{append_assoc, append-nil, at_drop_more, drop-set-lt, drop_all, drop_more, get_or_default, length-set, take-set, take-set-le, take_more_set}
use Rattle.x3d_values.specs.declared.value.Value.{Value}
use Rattle.cascade_trace.specs.declared.trace.Entry.{Entry}
use Rattle.cascade_trace.specs.Staying.{entries_from, input_after, last_input, last_time, time_after, value_from, values_from}
use Rattle.cascade_trace.specs.Since.{takes_value}
use Rattle.cascade_trace.proofs.Forgets.{count-one, one_if}

module _ (below : ℕ) (items : List Entry) (kept place input : ℕ) (e : Entry) (all : List Entry) (inside : place < length items) (is : e ≡ get_or items place e)
    (before : take kept items ++ entries_from below (drop place items) input ≡ all) where
  -- the entry at the place, and those after it
  here : (stays : Bool) → nat_le below (input_after input e) ≡ stays → entries_from below (drop place items) input
      ≡ (if stays then e ∷ entries_from below (drop (place + 1) items) (input_after input e) else entries_from below (drop (place + 1) items) (input_after input e))
  unfolding entries_from
  here stays h =
      at_drop_more (λ (es : List Entry). entries_from below es input) items place e inside
      ∙ ap (λ (x : Entry). entries_from below (x ∷ drop (place + 1) items) input) (sym is)
      ∙ ap (λ (b : Bool). if b then e ∷ entries_from below (drop (place + 1) items) (input_after input e) else entries_from below (drop (place + 1) items) (input_after input e)) h

  pub entry-stays : kept ≤ place → nat_le below (input_after input e) ≡ true →
      take (kept + 1) (slice_set items kept e) ++ entries_from below (drop (place + 1) (slice_set items kept e)) (input_after input e) ≡ all
  entry-stays low up =
      ap (λ (es : List Entry). es ++ entries_from below (drop (place + 1) (slice_set items kept e)) (input_after input e)) (take_more_set items kept e (omega (arith, low, inside)))
      ∙ ap (λ (es : List Entry). (take kept items ++ e ∷ []) ++ entries_from below es (input_after input e)) (drop-set-lt (place + 1) items kept e (omega (arith, low)))
      ∙ append_assoc (take kept items) (e ∷ []) (entries_from below (drop (place + 1) items) (input_after input e))
      ∙ ap (λ (es : List Entry). take kept items ++ es) (sym (here true up))
      ∙ before

  pub entry-goes : nat_le below (input_after input e) ≡ false → take kept items ++ entries_from below (drop (place + 1) items) (input_after input e) ≡ all
  entry-goes low-one = ap (λ (es : List Entry). take kept items ++ es) (sym (here false low-one)) ∙ before

-- where no entry is left
pub entries-all : (below : ℕ) (items : List Entry) (kept place input : ℕ) (all : List Entry) → length items ≤ place →
    take kept items ++ entries_from below (drop place items) input ≡ all → take kept items ≡ all
unfolding entries_from
entries-all below items kept place input all past before =
    sym (append-nil (take kept items)) ∙ ap (λ (es : List Entry). take kept items ++ entries_from below es input) (sym (drop_all place items past)) ∙ before

-- ---- values

-- the value at the front of those that are left
pub first-left : (values : List Value) (passed : ℕ) (v : Value) → passed < length values → v ≡ get_or values passed v → drop passed values ≡ v ∷ drop (passed + 1) values
first-left values passed v inside is = drop_more values passed v inside ∙ ap (λ (x : Value). x ∷ drop (passed + 1) values) (sym is)

-- what stays of the values that are left, once an entry is passed
module _ (below : ℕ) (entries : List Entry) (n input : ℕ) (d : Entry) (inside : n < length entries) where
  abbrev e : Entry
  e = get_or entries n d

  abbrev rest_from : List Value → List Value
  rest_from values = values_from below (drop (n + 1) entries) (input_after input e) values

  next-entry : (values : List Value) → values_from below (drop n entries) input values ≡ values_from below (e ∷ drop (n + 1) entries) input values
  next-entry values =
      at_drop_more (λ (es : List Entry). values_from below es input values) entries n d inside

  pub without-value : (values : List Value) → takes_value e ≡ false → values_from below (drop n entries) input values ≡ rest_from values
  unfolding values_from
  without-value values low-one =
      next-entry values
      ∙ ap (λ (b : Bool). if b then value_from (nat_le below (input_after input e)) rest_from values else rest_from values) low-one

  pub with-value : (v : Value) (values : List Value) (stays : Bool) → takes_value e ≡ true → nat_le below (input_after input e) ≡ stays →
      values_from below (drop n entries) input (v ∷ values) ≡ (if stays then v ∷ rest_from values else rest_from values)
  unfolding values_from
  with-value v values stays up h =
      next-entry (v ∷ values)
      ∙ ap (λ (b : Bool). if b then value_from (nat_le below (input_after input e)) rest_from (v ∷ values) else rest_from (v ∷ values)) up
      ∙ ap (λ (b : Bool). value_from b rest_from (v ∷ values)) h

  -- how many values are left
  pub counted-left : count_by takes_value (drop n entries) ≡ cond (takes_value e) 1 0 + count_by takes_value (drop (n + 1) entries)
  counted-left =
      at_drop_more (count_by takes_value) entries n d inside ∙ count-one e (drop (n + 1) entries)

pub values-all : (below : ℕ) (entries : List Entry) (n input kept passed : ℕ) (values all : List Value) → length entries ≤ n →
    take kept values ++ values_from below (drop n entries) input (drop passed values) ≡ all → take kept values ≡ all
unfolding values_from
values-all below entries n input kept passed values all past before =
    sym (append-nil (take kept values)) ∙ ap (λ (es : List Entry). take kept values ++ values_from below es input (drop passed values)) (sym (drop_all n entries past)) ∙ before

-- a value that moves to the front of those that are left
pub value-moves : (values moved : List Value) (kept passed : ℕ) (v : Value) → kept ≤ passed → passed < length values → v ≡ get_or values passed v →
    moved ≡ slice_set (slice_set values kept v) passed (slice_index_or values kept v) →
    (take (kept + 1) moved ≡ take kept values ++ v ∷ []) × (drop (passed + 1) moved ≡ drop (passed + 1) values)
value-moves values moved kept passed v low inside is moves = (ap (take (kept + 1)) moves ∙ front (nat_lt kept passed) refl, rest)
  where
    -- the value moves to another place, or stays in its own
    front : (b : Bool) → nat_lt kept passed ≡ b → take (kept + 1) (slice_set (slice_set values kept v) passed (slice_index_or values kept v)) ≡ take kept values ++ v ∷ []
    front true less =
        take-set-le (kept + 1) (slice_set values kept v) passed (slice_index_or values kept v) (omega (arith, ltb-true kept passed less))
        ∙ take_more_set values kept v (omega (arith, low, inside))
    front false more =
        let same : passed ≡ kept = omega (arith, low, ltb-false kept passed more) in
        let here : slice_index_or values kept v ≡ v = ap (λ (k : ℕ). slice_index_or values k v) (sym same) ∙ sym is in
        ap (λ (k : ℕ). take (kept + 1) (slice_set (slice_set values kept v) k (slice_index_or values kept v))) same
        ∙ take_more_set (slice_set values kept v) kept (slice_index_or values kept v) (omega (arith, length-set values kept v, low, inside))
        ∙ ap (λ (vs : List Value). vs ++ slice_index_or values kept v ∷ []) (take-set values kept v)
        ∙ ap (λ (x : Value). take kept values ++ x ∷ []) here

    rest : drop (passed + 1) moved ≡ drop (passed + 1) values
    rest =
        ap (drop (passed + 1)) moves ∙ drop-set-lt (passed + 1) (slice_set values kept v) passed (slice_index_or values kept v) (omega arith)
        ∙ drop-set-lt (passed + 1) values kept v (omega (arith, low))

-- ---- the last input

pub input-next : (entries : List Entry) (n input : ℕ) (d : Entry) → n < length entries → last_input (drop (n + 1) entries) (input_after input (get_or entries n d)) ≡ last_input (drop n entries) input
unfolding last_input
input-next entries n input d inside = sym (at_drop_more (λ (es : List Entry). last_input es input) entries n d inside)

pub time-next : (entries : List Entry) (n : ℕ) (time : ℤ) (d : Entry) → n < length entries → last_time (drop (n + 1) entries) (time_after time (get_or entries n d)) ≡ last_time (drop n entries) time
unfolding last_time
time-next entries n time d inside = sym (at_drop_more (λ (es : List Entry). last_time es time) entries n d inside)

pub input-all : (entries : List Entry) (n input : ℕ) → length entries ≤ n → input ≡ last_input (drop n entries) input
unfolding last_input
input-all entries n input past = sym (ap (λ (es : List Entry). last_input es input) (drop_all n entries past))

pub time-all : (entries : List Entry) (n : ℕ) (time : ℤ) → length entries ≤ n → time ≡ last_time (drop n entries) time
unfolding last_time
time-all entries n time past = sym (ap (λ (es : List Entry). last_time es time) (drop_all n entries past))

-- ---- one step through the values

-- what stays so far, with what is left, at an entry that takes a value or not
module _ (below : ℕ) (entries : List Entry) (n input : ℕ) (d : Entry) (inside : n < length entries)
    (values : List Value) (kept passed many : ℕ) (all : List Value)
    (before : take kept values ++ values_from below (drop n entries) input (drop passed values) ≡ all)
    (left : passed + count_by takes_value (drop n entries) ≡ length values) where
  -- a value is left for an entry that takes one
  pub one-left : takes_value (get_or entries n d) ≡ true → passed < length values
  one-left up = omega (arith, left, counted-left below entries n input d inside, ap one_if up)

  pub fewer-left : takes_value (get_or entries n d) ≡ true → passed + 1 + count_by takes_value (drop (n + 1) entries) ≡ length values
  fewer-left up = omega (arith, left, counted-left below entries n input d inside, ap one_if up)

  pub as-many-left : takes_value (get_or entries n d) ≡ false → passed + count_by takes_value (drop (n + 1) entries) ≡ length values
  as-many-left low-one = omega (arith, left, counted-left below entries n input d inside, ap one_if low-one)

  pub skipped-on : takes_value (get_or entries n d) ≡ false → take kept values ++ values_from below (drop (n + 1) entries) (input_after input (get_or entries n d)) (drop passed values) ≡ all
  skipped-on low-one = ap (λ (vs : List Value). take kept values ++ vs) (sym (without-value below entries n input d inside (drop passed values) low-one)) ∙ before

  -- the first value that is left
  first : takes_value (get_or entries n d) ≡ true → (v : Value) × (drop passed values ≡ v ∷ drop (passed + 1) values) × (v ≡ get_or values passed v)
  first up = found values passed (one-left up)
    where
      found : (vs : List Value) (k : ℕ) → k < length vs → (v : Value) × (drop k vs ≡ v ∷ drop (k + 1) vs) × (v ≡ get_or vs k v)
      found [] k h = absurd (omega (arith, h))
      found (v ∷ vs) k h =
          (get_or (v ∷ vs) k v, drop_more (v ∷ vs) k v h, get_or_default (v ∷ vs) k v (get_or (v ∷ vs) k v) h)

  pub passed-on : takes_value (get_or entries n d) ≡ true → nat_le below (input_after input (get_or entries n d)) ≡ false →
      take kept values ++ values_from below (drop (n + 1) entries) (input_after input (get_or entries n d)) (drop (passed + 1) values) ≡ all
  passed-on up gone =
      let (v, is-first, at) = first up in
      ap (λ (vs : List Value). take kept values ++ vs)
      (sym (ap (values_from below (drop n entries) input) is-first ∙ with-value below entries n input d inside v (drop (passed + 1) values) false up gone))
      ∙ before

  pub moved-on : (moved : List Value) → takes_value (get_or entries n d) ≡ true → nat_le below (input_after input (get_or entries n d)) ≡ true → kept ≤ passed →
      ((d : Value) → moved ≡ slice_set (slice_set values kept (slice_index_or values passed d)) passed (slice_index_or values kept d)) →
      take (kept + 1) moved ++ values_from below (drop (n + 1) entries) (input_after input (get_or entries n d)) (drop (passed + 1) moved) ≡ all
  moved-on moved up stays low moves =
      let (v, is-first, at) = first up in
      let here : moved ≡ slice_set (slice_set values kept v) passed (slice_index_or values kept v) =
      moves v ∙ ap (λ (x : Value). slice_set (slice_set values kept x) passed (slice_index_or values kept v)) (sym at) in
      let (front, rest) = value-moves values moved kept passed v low (one-left up) at here in
      ap (λ (vs : List Value). vs ++ values_from below (drop (n + 1) entries) (input_after input (get_or entries n d)) (drop (passed + 1) moved)) front
      ∙ ap (λ (vs : List Value). (take kept values ++ v ∷ []) ++ values_from below (drop (n + 1) entries) (input_after input (get_or entries n d)) vs) rest
      ∙ append_assoc (take kept values) (v ∷ []) (values_from below (drop (n + 1) entries) (input_after input (get_or entries n d)) (drop (passed + 1) values))
      ∙ ap (λ (vs : List Value). take kept values ++ vs)
      (sym (ap (values_from below (drop n entries) input) is-first ∙ with-value below entries n input d inside v (drop (passed + 1) values) true up stays))
      ∙ before

  pub as-long : (moved : List Value) → takes_value (get_or entries n d) ≡ true →
      ((w : Value) → moved ≡ slice_set (slice_set values kept (slice_index_or values passed w)) passed (slice_index_or values kept w)) →
      length moved ≡ length values
  as-long moved up moves =
      let (v, is-first, at) = first up in
      ap length (moves v) ∙ length-set (slice_set values kept (slice_index_or values passed v)) passed (slice_index_or values kept v)
      ∙ length-set values kept (slice_index_or values passed v)
