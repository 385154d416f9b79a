-- What stays of a trace as it is kept, where the lines of inputs below a number are dropped.
use Rattle.std.proofs.Common.{arith, ◌≡◌, ◌≤◌, ◌+◌, Bool, true, false, cond, if◌then◌else◌, ℕ, ℤ, List, [], ◌∷◌, ◌++◌, ◌∙◌, ap, sym, refl, Option, Some, None, length, ltb-true, lt-ltb}
use Rattle.std.specs.Prelude.{count_by, pos, nat_lt, nat_le}
use Rattle.std.proofs.lemmas.List.Sums.{sum_by-cons}
use Rattle.x3d_values.specs.declared.value.Value.{Value}
use Rattle.x3d_values.specs.declared.value.Value.TheVariants.{SFBool, SFInt32, SFFloat, SFTime}
use Rattle.cascade_trace.specs.declared.trace.Entry.{Entry}
use Rattle.cascade_trace.specs.declared.trace.EntryKind.{EntryKind}
use Rattle.cascade_trace.specs.declared.trace.EntryKind.TheVariants as entry_kind
use Rattle.cascade_trace.specs.declared.trace.TraceLine.{TraceLine}
use Rattle.cascade_trace.specs.Forgetting.{lines_from}
use Rattle.cascade_trace.specs.Staying.{entries_from, input_after, input_by, last_input, last_time, time_by, value_from, values_from}
use Rattle.cascade_trace.specs.Since.{is_aside, risen, risen_by, takes_value}
use Rattle.cascade_trace.specs.Trace.{lines_of, lines_by, line, end_of, whole_of}

abbrev pub one_if : Bool → ℕ
one_if b = cond b 1 0

pub count-one : (e : Entry) (es : List Entry) → count_by takes_value (e ∷ es) ≡ cond (takes_value e) 1 0 + count_by takes_value es
count-one e es = sum_by-cons (λ (x : Entry). cond (takes_value x) 1 0) e es

-- ---- whatever is appended gives lines of the last input

module _ (fs : List Entry) (ws : List Value) where
  open-by : (e : Entry) (es : List Entry) (i : ℕ) (t : ℤ) (vs : List Value) (k : EntryKind) → cond (is_aside k) 1 0 + count_by takes_value es ≡ length vs →
      ((j : ℕ) (s : ℤ) (us : List Value) → count_by takes_value es ≡ length us →
      lines_of (es ++ fs) j s (us ++ ws) ≡ lines_of es j s us ++ lines_of fs (last_input es j) (last_time es s) ws) →
      lines_by (lines_of (es ++ fs)) i t (vs ++ ws) e k
      ≡ lines_by (lines_of es) i t vs e k ++ lines_of fs (last_input es (input_by i e k)) (last_time es (time_by t e k)) ws
  open-by e es i t vs entry_kind.Input n more = more e.input e.word vs (omega (arith, n))
  open-by e es i t vs entry_kind.True n more = ap (λ (ls : List TraceLine). line i t (end_of e) (SFBool true) ∷ ls) (more i t vs (omega (arith, n)))
  open-by e es i t vs entry_kind.False n more = ap (λ (ls : List TraceLine). line i t (end_of e) (SFBool false) ∷ ls) (more i t vs (omega (arith, n)))
  open-by e es i t vs entry_kind.Whole n more = ap (λ (ls : List TraceLine). line i t (end_of e) (SFInt32 (whole_of e.word)) ∷ ls) (more i t vs (omega (arith, n)))
  open-by e es i t vs entry_kind.Number n more = ap (λ (ls : List TraceLine). line i t (end_of e) (SFFloat e.word) ∷ ls) (more i t vs (omega (arith, n)))
  open-by e es i t vs entry_kind.Time n more = ap (λ (ls : List TraceLine). line i t (end_of e) (SFTime e.word) ∷ ls) (more i t vs (omega (arith, n)))
  open-by e es i t [] entry_kind.Other n more = absurd (omega (arith, n))
  open-by e es i t (v ∷ vs) entry_kind.Other n more = ap (λ (ls : List TraceLine). line i t (end_of e) v ∷ ls) (more i t vs (omega (arith, n)))

  pub open-after : (es : List Entry) (i : ℕ) (t : ℤ) (vs : List Value) → count_by takes_value es ≡ length vs →
      lines_of (es ++ fs) i t (vs ++ ws) ≡ lines_of es i t vs ++ lines_of fs (last_input es i) (last_time es t) ws
  unfolding lines_of last_input last_time
  open-after [] i t [] n = refl
  open-after [] i t (v ∷ vs) n = absurd (omega (arith, n))
  open-after (e ∷ es) i t vs n =
      open-by e es i t vs e.kind (sym (count-one e es) ∙ n) (λ j s us m. open-after es j s us m)

module _ (below : ℕ) where
  -- ---- a value for each entry that takes one

  counted-by : (e : Entry) (stay : List Entry) (rest : List Value → List Value) (vs : List Value) (stays takes : Bool) (many : ℕ) → takes_value e ≡ takes →
      cond takes 1 0 + many ≡ length vs → ((us : List Value) → many ≡ length us → count_by takes_value stay ≡ length (rest us)) →
      count_by takes_value (if stays then e ∷ stay else stay) ≡ length (if takes then value_from stays rest vs else rest vs)
  counted-by e stay rest vs true false many is n more =
      omega (arith, count-one e stay, ap one_if is, more vs (omega (arith, n)))
  counted-by e stay rest vs false false many is n more = more vs (omega (arith, n))
  counted-by e stay rest [] stays true many is n more = absurd (omega (arith, n))
  counted-by e stay rest (v ∷ vs) true true many is n more =
      omega (arith, count-one e stay, ap one_if is, more vs (omega (arith, n)))
  counted-by e stay rest (v ∷ vs) false true many is n more = more vs (omega (arith, n))

  pub counted-from : (es : List Entry) (i : ℕ) (vs : List Value) → count_by takes_value es ≡ length vs →
      count_by takes_value (entries_from below es i) ≡ length (values_from below es i vs)
  unfolding entries_from values_from
  counted-from [] i vs n = refl
  counted-from (e ∷ es) i vs n =
      counted-by e (entries_from below es (input_after i e)) (values_from below es (input_after i e)) vs (nat_le below (input_after i e)) (takes_value e)
      (count_by takes_value es) refl (sym (count-one e es) ∙ n) (λ us m. counted-from es (input_after i e) us m)

  -- ---- their lines are those of inputs from the number on

  -- the input that the kept entries are at, if it stays
  abbrev IsAt : ℕ → ℤ → ℕ → ℤ → Type 0
  IsAt i t j s = nat_le below i ≡ true → (j ≡ i) × (s ≡ t)

  none-at : (i j : ℕ) (t s : ℤ) → nat_le below i ≡ false → IsAt i t j s
  none-at i j t s low-one up = cc

  one-from : (e : Entry) (v : Value) (es stay : List Entry) (i j : ℕ) (t s : ℤ) (vs us : List Value) → nat_le below i ≡ true → IsAt i t j s →
      lines_of stay j s us ≡ lines_from below (lines_of es i t vs) →
      line j s (end_of e) v ∷ lines_of stay j s us ≡ lines_from below (line i t (end_of e) v ∷ lines_of es i t vs)
  one-from e v es stay i j t s vs us up at more =
      let (a, b) = at up in
      let first : line j s (end_of e) v ≡ line i t (end_of e) v = rw (a, b) refl in
      ap (λ (ls : List TraceLine). line j s (end_of e) v ∷ ls) more
      ∙ ap (λ (l : TraceLine). l ∷ lines_from below (lines_of es i t vs)) first
      ∙ sym (ap (λ (x : Bool). if x then line i t (end_of e) v ∷ lines_from below (lines_of es i t vs) else lines_from below (lines_of es i t vs)) up)

  none-from : (l : TraceLine) (ls : List TraceLine) → nat_le below l.input ≡ false → lines_from below ls ≡ lines_from below (l ∷ ls)
  none-from l ls low-one = sym (ap (λ (x : Bool). if x then l ∷ lines_from below ls else lines_from below ls) low-one)

  from-by : (e : Entry) (es stay : List Entry) (rest : List Value → List Value) (i j : ℕ) (t s : ℤ) (vs : List Value) (k : EntryKind) (stays : Bool) →
      e.kind ≡ k → nat_le below (input_by i e k) ≡ stays → IsAt i t j s → cond (is_aside k) 1 0 + count_by takes_value es ≡ length vs →
      ((m : ℕ) (u w : ℤ) (us : List Value) → count_by takes_value es ≡ length us → IsAt (input_by i e k) u m w →
      lines_of stay m w (rest us) ≡ lines_from below (lines_of es (input_by i e k) u us)) →
      lines_of (if stays then e ∷ stay else stay) j s (if is_aside k then value_from stays rest vs else rest vs)
      ≡ lines_from below (lines_by (lines_of es) i t vs e k)
  unfolding lines_of
  from-by e es stay rest i j t s vs entry_kind.Input true is up at n more =
      ap (lines_by (lines_of stay) j s (rest vs) e) is ∙ more e.input e.word e.word vs (omega (arith, n)) (λ h. (refl, refl))
  from-by e es stay rest i j t s vs entry_kind.Input false is low-one at n more =
      more j e.word s vs (omega (arith, n)) (none-at e.input j e.word s low-one)
  from-by e es stay rest i j t s vs entry_kind.True true is up at n more =
      ap (lines_by (lines_of stay) j s (rest vs) e) is ∙ one-from e (SFBool true) es stay i j t s vs (rest vs) up at (more j t s vs (omega (arith, n)) at)
  from-by e es stay rest i j t s vs entry_kind.False true is up at n more =
      ap (lines_by (lines_of stay) j s (rest vs) e) is ∙ one-from e (SFBool false) es stay i j t s vs (rest vs) up at (more j t s vs (omega (arith, n)) at)
  from-by e es stay rest i j t s vs entry_kind.Whole true is up at n more =
      ap (lines_by (lines_of stay) j s (rest vs) e) is ∙ one-from e (SFInt32 (whole_of e.word)) es stay i j t s vs (rest vs) up at (more j t s vs (omega (arith, n)) at)
  from-by e es stay rest i j t s vs entry_kind.Number true is up at n more =
      ap (lines_by (lines_of stay) j s (rest vs) e) is ∙ one-from e (SFFloat e.word) es stay i j t s vs (rest vs) up at (more j t s vs (omega (arith, n)) at)
  from-by e es stay rest i j t s vs entry_kind.Time true is up at n more =
      ap (lines_by (lines_of stay) j s (rest vs) e) is ∙ one-from e (SFTime e.word) es stay i j t s vs (rest vs) up at (more j t s vs (omega (arith, n)) at)
  from-by e es stay rest i j t s vs entry_kind.True false is low-one at n more =
      more j t s vs (omega (arith, n)) at ∙ none-from (line i t (end_of e) (SFBool true)) (lines_of es i t vs) low-one
  from-by e es stay rest i j t s vs entry_kind.False false is low-one at n more =
      more j t s vs (omega (arith, n)) at ∙ none-from (line i t (end_of e) (SFBool false)) (lines_of es i t vs) low-one
  from-by e es stay rest i j t s vs entry_kind.Whole false is low-one at n more =
      more j t s vs (omega (arith, n)) at ∙ none-from (line i t (end_of e) (SFInt32 (whole_of e.word))) (lines_of es i t vs) low-one
  from-by e es stay rest i j t s vs entry_kind.Number false is low-one at n more =
      more j t s vs (omega (arith, n)) at ∙ none-from (line i t (end_of e) (SFFloat e.word)) (lines_of es i t vs) low-one
  from-by e es stay rest i j t s vs entry_kind.Time false is low-one at n more =
      more j t s vs (omega (arith, n)) at ∙ none-from (line i t (end_of e) (SFTime e.word)) (lines_of es i t vs) low-one
  from-by e es stay rest i j t s [] entry_kind.Other stays is has at n more = absurd (omega (arith, n))
  from-by e es stay rest i j t s (v ∷ vs) entry_kind.Other true is up at n more =
      ap (lines_by (lines_of stay) j s (v ∷ rest vs) e) is ∙ one-from e v es stay i j t s vs (rest vs) up at (more j t s vs (omega (arith, n)) at)
  from-by e es stay rest i j t s (v ∷ vs) entry_kind.Other false is low-one at n more =
      more j t s vs (omega (arith, n)) at ∙ none-from (line i t (end_of e) v) (lines_of es i t vs) low-one

  pub lines-from : (es : List Entry) (i j : ℕ) (t s : ℤ) (vs : List Value) → IsAt i t j s → count_by takes_value es ≡ length vs →
      lines_of (entries_from below es i) j s (values_from below es i vs) ≡ lines_from below (lines_of es i t vs)
  unfolding entries_from values_from lines_of
  lines-from [] i j t s vs at n = refl
  lines-from (e ∷ es) i j t s vs at n =
      from-by e es (entries_from below es (input_after i e)) (values_from below es (input_after i e)) i j t s vs e.kind (nat_le below (input_after i e))
      refl refl at (sym (count-one e es) ∙ n) (λ m u w us l a. lines-from es (input_after i e) m u w us a l)

  -- ---- inputs that rise

  after-input : (b : Bool) (o : Option ℕ) (n : ℕ) → (if b then o else None) ≡ Some n → (b ≡ true) × (o ≡ Some n)
  after-input true o n h = (refl, h)
  after-input false o n h = cc

  -- the inputs of the entries that stay rise from a lower number too, up to the last one
  abbrev Rises : List Entry → ℕ → Type 0
  Rises es l = risen l es ≡ Some (last_input es l)

  rises-by : (e : Entry) (es stay : List Entry) (l m n : ℕ) (k : EntryKind) (stays : Bool) → e.kind ≡ k → m ≤ l →
      risen_by (λ j. risen j es) l e k ≡ Some n → ((j o : ℕ) → o ≤ j → risen j es ≡ Some n → Rises stay o) → Rises (if stays then e ∷ stay else stay) m
  unfolding risen last_input
  rises-by e es stay l m n entry_kind.Input true is low h more =
      let (above, r) = after-input (nat_lt l e.input) (risen e.input es) n h in
      let over : nat_lt m e.input ≡ true = lt-ltb m e.input (omega (arith, low, ltb-true l e.input above)) in
      ap (risen_by (λ j. risen j stay) m e) is ∙ ap (λ (x : Bool). if x then risen e.input stay else None) over ∙ more e.input e.input (omega arith) r
      ∙ sym (ap (λ (k : EntryKind). Some (last_input stay (input_by m e k))) is)
  rises-by e es stay l m n entry_kind.Input false is low h more =
      let (above, r) = after-input (nat_lt l e.input) (risen e.input es) n h in
      more e.input m (omega (arith, low, ltb-true l e.input above)) r
  rises-by e es stay l m n entry_kind.True true is low h more =
      ap (risen_by (λ j. risen j stay) m e) is ∙ more l m low h ∙ sym (ap (λ (k : EntryKind). Some (last_input stay (input_by m e k))) is)
  rises-by e es stay l m n entry_kind.False true is low h more =
      ap (risen_by (λ j. risen j stay) m e) is ∙ more l m low h ∙ sym (ap (λ (k : EntryKind). Some (last_input stay (input_by m e k))) is)
  rises-by e es stay l m n entry_kind.Whole true is low h more =
      ap (risen_by (λ j. risen j stay) m e) is ∙ more l m low h ∙ sym (ap (λ (k : EntryKind). Some (last_input stay (input_by m e k))) is)
  rises-by e es stay l m n entry_kind.Number true is low h more =
      ap (risen_by (λ j. risen j stay) m e) is ∙ more l m low h ∙ sym (ap (λ (k : EntryKind). Some (last_input stay (input_by m e k))) is)
  rises-by e es stay l m n entry_kind.Time true is low h more =
      ap (risen_by (λ j. risen j stay) m e) is ∙ more l m low h ∙ sym (ap (λ (k : EntryKind). Some (last_input stay (input_by m e k))) is)
  rises-by e es stay l m n entry_kind.Other true is low h more =
      ap (risen_by (λ j. risen j stay) m e) is ∙ more l m low h ∙ sym (ap (λ (k : EntryKind). Some (last_input stay (input_by m e k))) is)
  rises-by e es stay l m n entry_kind.True false is low h more = more l m low h
  rises-by e es stay l m n entry_kind.False false is low h more = more l m low h
  rises-by e es stay l m n entry_kind.Whole false is low h more = more l m low h
  rises-by e es stay l m n entry_kind.Number false is low h more = more l m low h
  rises-by e es stay l m n entry_kind.Time false is low h more = more l m low h
  rises-by e es stay l m n entry_kind.Other false is low h more = more l m low h

  pub rises-from : (es : List Entry) (i l m n : ℕ) → m ≤ l → risen l es ≡ Some n → Rises (entries_from below es i) m
  unfolding risen last_input entries_from
  rises-from [] i l m n low h = refl
  rises-from (e ∷ es) i l m n low h =
      rises-by e es (entries_from below es (input_after i e)) l m n e.kind (nat_le below (input_after i e)) refl low h
      (λ j o a r. rises-from es (input_after i e) j o n a r)

-- ---- all of it: entries and values that stay, and the input that they end with

module _ (below : ℕ) (es kept : List Entry) (vs left : List Value) (i : ℕ) (t : ℤ) (entries : kept ≡ entries_from below es 0) (values : left ≡ values_from below es 0 vs)
    (counted : count_by takes_value es ≡ length vs) where
  pub counted-all : count_by takes_value kept ≡ length left
  counted-all = ap (count_by takes_value) entries ∙ counted-from below es 0 vs counted ∙ sym (ap length values)

  pub opens-all : i ≡ last_input kept 0 → t ≡ last_time kept (pos 0) → (fs : List Entry) (ws : List Value) →
      lines_of (kept ++ fs) 0 (pos 0) (left ++ ws) ≡ lines_of kept 0 (pos 0) left ++ lines_of fs i t ws
  opens-all input time fs ws =
      open-after fs ws kept 0 (pos 0) left counted-all
      ∙ ap (λ (j : ℕ). lines_of kept 0 (pos 0) left ++ lines_of fs j (last_time kept (pos 0)) ws) (sym input)
      ∙ ap (λ (s : ℤ). lines_of kept 0 (pos 0) left ++ lines_of fs i s ws) (sym time)

  pub lines-all : lines_of kept 0 (pos 0) left ≡ lines_from below (lines_of es 0 (pos 0) vs)
  lines-all =
      ap (λ (ds : List Entry). lines_of ds 0 (pos 0) left) entries ∙ ap (lines_of (entries_from below es 0) 0 (pos 0)) values
      ∙ lines-from below es 0 0 (pos 0) (pos 0) vs (λ h. (refl, refl)) counted

pub rises-all : (below : ℕ) (es kept : List Entry) (i n : ℕ) → kept ≡ entries_from below es 0 → i ≡ last_input kept 0 → risen 0 es ≡ Some n → risen 0 kept ≡ Some i
rises-all below es kept i n entries input rising =
    ap (risen 0) entries ∙ rises-from below es 0 0 0 n (omega arith) rising ∙ sym (ap (λ (ds : List Entry). Some (last_input ds 0)) entries) ∙ sym (ap Some input)
