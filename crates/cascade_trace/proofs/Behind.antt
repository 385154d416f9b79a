-- The lines of the inputs from a number on, where the numbers of the inputs rise.
use Rattle.std.proofs.Common.{arith, ◌≤◌, ◌<◌, ◌+◌, ◌-◌, ◌&&◌, length, take, drop, zero, suc, ◌≡◌, Bool, true, false, cond, if◌then◌else◌, ℕ, ℤ, List, [], ◌∷◌, ◌++◌, ◌∙◌, ap, sym, subst, refl, Option, Some, None, lt-ltb, ltb-true, leb-true, take-append-drop}
use Rattle.std.specs.Prelude.{count_by, pos, slice_get, nat_lt}
use Rattle.std.specs.List.{flat_map}
use Rattle.std.specs.Option.{option_map_or}
use Rattle.std.proofs.Math.Seq.{drop-nil}
use Rattle.std.proofs.lemmas.List.Sums.{sum_by-append, sum_by-cons}
use Rattle.x3d_values.specs.declared.value.Value.{Value}
use Rattle.x3d_values.specs.declared.value.Value.TheVariants.{SFBool, SFInt32, SFFloat, SFTime, SFString, SFVec2f, SFVec3f, SFColor, SFNode, MFBool, MFInt32, MFFloat, MFTime, MFString, MFVec2f, MFVec3f, MFColor, MFNode}
use Rattle.scene_core.specs.declared.scene.End.{End}
use Rattle.cascade_trace.specs.declared.trace.Entry.{Entry}
use Rattle.cascade_trace.specs.declared.trace.EntryKind.{EntryKind}
use Rattle.cascade_trace.specs.declared.trace.EntryKind.TheVariants as entry_kind
use Rattle.cascade_trace.specs.declared.trace.TraceLine.{TraceLine}
use Rattle.cascade_trace.specs.Trace.{lines_of, lines_by, line, end_of, whole_of, is_event, plain_entry}
use Rattle.cascade_trace.specs.Since.{IsSilent, begins_by, is_aside, kind_begins, risen, risen_by, takes_value}
use Rattle.cascade_trace.proofs.Told.{input-left}

-- ---- inputs that rise

risen-input : (b : Bool) (o : Option ℕ) (n : ℕ) → (if b then o else None) ≡ Some n → (b ≡ true) × (o ≡ Some n)
risen-input true o n h = (refl, h)
risen-input false o n h = cc

above-by : (e : Entry) (es : List Entry) (i n : ℕ) (k : EntryKind) → ((j : ℕ) → risen j es ≡ Some n → j ≤ n) →
    risen_by (λ m. risen m es) i e k ≡ Some n → i ≤ n
above-by e es i n entry_kind.Input more h =
    let (b, r) = risen-input (nat_lt i e.input) (risen e.input es) n h in
    omega (arith, ltb-true i e.input b, more e.input r)
above-by e es i n entry_kind.True more h = more i h
above-by e es i n entry_kind.False more h = more i h
above-by e es i n entry_kind.Whole more h = more i h
above-by e es i n entry_kind.Number more h = more i h
above-by e es i n entry_kind.Time more h = more i h
above-by e es i n entry_kind.Other more h = more i h

-- the last number is not below the first
risen-above : (es : List Entry) (i n : ℕ) → risen i es ≡ Some n → i ≤ n
unfolding risen
risen-above [] i n h = let same : i ≡ n = cc in omega (arith, same)
risen-above (e ∷ es) i n h = above-by e es i n e.kind (λ j r. risen-above es j n r) h

more-by : (e : Entry) (es fs : List Entry) (i n : ℕ) (k : EntryKind) → ((j : ℕ) → risen j es ≡ Some n → risen j (es ++ fs) ≡ risen n fs) →
    risen_by (λ m. risen m es) i e k ≡ Some n → risen_by (λ m. risen m (es ++ fs)) i e k ≡ risen n fs
more-by e es fs i n entry_kind.Input more h =
    let (b, r) = risen-input (nat_lt i e.input) (risen e.input es) n h in
    ap (λ (t : Bool). if t then risen e.input (es ++ fs) else None) b ∙ more e.input r
more-by e es fs i n entry_kind.True more h = more i h
more-by e es fs i n entry_kind.False more h = more i h
more-by e es fs i n entry_kind.Whole more h = more i h
more-by e es fs i n entry_kind.Number more h = more i h
more-by e es fs i n entry_kind.Time more h = more i h
more-by e es fs i n entry_kind.Other more h = more i h

-- what is appended goes on from the last number
pub risen-more : (es fs : List Entry) (i n : ℕ) → risen i es ≡ Some n → risen i (es ++ fs) ≡ risen n fs
unfolding risen
risen-more [] fs i n h = let same : i ≡ n = cc in ap (λ (m : ℕ). risen m fs) same
risen-more (e ∷ es) fs i n h = more-by e es fs i n e.kind (λ j r. risen-more es fs j n r) h

both : (a b : Bool) → (a && b) ≡ true → (a ≡ true) × (b ≡ true)
both true b h = (refl, h)
both false b h = cc

next-by : (e : Entry) (last input : ℕ) (k : EntryKind) → k ≡ entry_kind.Input → e.input ≡ input → nat_lt last input ≡ true →
    risen_by (λ n. risen n []) last e k ≡ Some input
unfolding risen
next-by e last input entry_kind.Input is named above =
    ap (λ (n : ℕ). if nat_lt last n then Some n else None) named ∙ ap (λ (t : Bool). if t then Some input else None) above
next-by e last input entry_kind.True is named above = cc
next-by e last input entry_kind.False is named above = cc
next-by e last input entry_kind.Whole is named above = cc
next-by e last input entry_kind.Number is named above = cc
next-by e last input entry_kind.Time is named above = cc
next-by e last input entry_kind.Other is named above = cc

-- an input above the last one
pub in-order-next : (es : List Entry) (e : Entry) (last input : ℕ) (turn follows : Bool) → (turn ≡ true → risen 0 es ≡ Some last) →
    e.kind ≡ entry_kind.Input → e.input ≡ input → follows ≡ (turn && nat_lt last input) → follows ≡ true → risen 0 (es ++ e ∷ []) ≡ Some input
unfolding risen
in-order-next es e last input turn follows before is named said h =
    let (still, above) = both turn (nat_lt last input) (sym said ∙ h) in
    risen-more es (e ∷ []) 0 last (before still) ∙ next-by e last input e.kind is named above

on-by : (e : Entry) (last : ℕ) (k : EntryKind) → is_event k ≡ true → risen_by (λ n. risen n []) last e k ≡ Some last
unfolding risen
on-by e last entry_kind.Input is = cc
on-by e last entry_kind.True is = refl
on-by e last entry_kind.False is = refl
on-by e last entry_kind.Whole is = refl
on-by e last entry_kind.Number is = refl
on-by e last entry_kind.Time is = refl
on-by e last entry_kind.Other is = refl

-- an event of the last input
pub in-order-on : (es : List Entry) (e : Entry) (last : ℕ) → risen 0 es ≡ Some last → is_event e.kind ≡ true → risen 0 (es ++ e ∷ []) ≡ Some last
unfolding risen
in-order-on es e last before is = risen-more es (e ∷ []) 0 last before ∙ on-by e last e.kind is

event-one : (f e : Entry) → is_event f.kind ≡ true → Some f ≡ Some e → is_event e.kind ≡ true
event-one f e is h = let same : f ≡ e = cc in subst (λ (x : Entry). is_event x.kind ≡ true) same is

-- a value that stands in its entry is that of an event
pub plain-event : (source : End) (v : Value) (e : Entry) → plain_entry source v ≡ Some e → is_event e.kind ≡ true
plain-event source (SFBool true) e h = event-one _ e refl h
plain-event source (SFBool false) e h = event-one _ e refl h
plain-event source (SFInt32 x) e h = event-one _ e refl h
plain-event source (SFFloat x) e h = event-one _ e refl h
plain-event source (SFTime x) e h = event-one _ e refl h
plain-event source (SFString x) e h = cc
plain-event source (SFVec2f x) e h = cc
plain-event source (SFVec3f x) e h = cc
plain-event source (SFColor x) e h = cc
plain-event source (SFNode x) e h = cc
plain-event source (MFBool x) e h = cc
plain-event source (MFInt32 x) e h = cc
plain-event source (MFFloat x) e h = cc
plain-event source (MFTime x) e h = cc
plain-event source (MFString x) e h = cc
plain-event source (MFVec2f x) e h = cc
plain-event source (MFVec3f x) e h = cc
plain-event source (MFColor x) e h = cc
plain-event source (MFNode x) e h = cc

-- ---- entries that take a value

counted-split : (es : List Entry) (at : ℕ) → count_by takes_value es ≡ count_by takes_value (take at es) + count_by takes_value (drop at es)
counted-split es at =
    ap (count_by takes_value) (sym (take-append-drop at es)) ∙ sum_by-append (λ (x : Entry). cond (takes_value x) 1 0) (take at es) (drop at es)

-- those behind a place take no more values than there are
pub few-behind : (es : List Entry) (at many left : ℕ) → count_by takes_value es ≡ many → left ≡ count_by takes_value (drop at es) → left ≤ many
few-behind es at many left all is = omega (arith, counted-split es at, all, is)

-- and those before it take the others
pub many-before : (es : List Entry) (at many left : ℕ) → count_by takes_value es ≡ many → left ≡ count_by takes_value (drop at es) →
    many - left ≡ count_by takes_value (take at es)
many-before es at many left all is = omega (arith, counted-split es at, all, is)

-- what holds of these entries and values holds of those that are the same
pub alike : (P : List Entry → List Value → Type 0) (es fs : List Entry) (vs ws : List Value) → es ≡ fs → vs ≡ ws → P es vs → P fs ws
alike P es fs vs ws one other h = subst (λ (us : List Value). P fs us) other (subst (λ (ds : List Entry). P ds vs) one h)

-- ---- where the lines begin

begins-input : (first : ℕ) (e : Entry) (k : EntryKind) → kind_begins first e k ≡ true → (k ≡ entry_kind.Input) × (e.input ≤ first)
begins-input first e entry_kind.Input h = (refl, leb-true e.input first h)
begins-input first e entry_kind.True h = cc
begins-input first e entry_kind.False h = cc
begins-input first e entry_kind.Whole h = cc
begins-input first e entry_kind.Number h = cc
begins-input first e entry_kind.Time h = cc
begins-input first e entry_kind.Other h = cc

below-by : (first : ℕ) (e : Entry) (es : List Entry) (i n : ℕ) (k : EntryKind) → ((j : ℕ) → risen j es ≡ Some n → j < first) →
    risen_by (λ m. risen m es) i e k ≡ Some n → i < first
below-by first e es i n entry_kind.Input more h =
    let (b, r) = risen-input (nat_lt i e.input) (risen e.input es) n h in
    omega (arith, ltb-true i e.input b, more e.input r)
below-by first e es i n entry_kind.True more h = more i h
below-by first e es i n entry_kind.False more h = more i h
below-by first e es i n entry_kind.Whole more h = more i h
below-by first e es i n entry_kind.Number more h = more i h
below-by first e es i n entry_kind.Time more h = more i h
below-by first e es i n entry_kind.Other more h = more i h

below-first : (first : ℕ) (e : Entry) (es : List Entry) (i n : ℕ) → (k : EntryKind) → k ≡ entry_kind.Input → e.input ≤ first →
    risen_by (λ m. risen m es) i e k ≡ Some n → i < first
below-first first e es i n entry_kind.Input is low h =
    omega (arith, low, ltb-true i e.input (risen-input (nat_lt i e.input) (risen e.input es) n h).0)
below-first first e es i n entry_kind.True is low h = cc
below-first first e es i n entry_kind.False is low h = cc
below-first first e es i n entry_kind.Whole is low h = cc
below-first first e es i n entry_kind.Number is low h = cc
below-first first e es i n entry_kind.Time is low h = cc
below-first first e es i n entry_kind.Other is low h = cc

-- the inputs before that place are below the first
below : (first : ℕ) (es : List Entry) (at i n : ℕ) → option_map_or (begins_by first) (slice_get es at) false ≡ true → risen i es ≡ Some n → i < first
unfolding risen
below first [] at i n here h = cc
below first (e ∷ es) zero i n here h =
    let (is, low) = begins-input first e e.kind here in
    below-first first e es i n e.kind is low h
below first (e ∷ es) (suc at) i n here h = below-by first e es i n e.kind (λ j r. below first es at j n here r) h

-- there is such a place
pub inside : (first : ℕ) (es : List Entry) (at : ℕ) → option_map_or (begins_by first) (slice_get es at) false ≡ true → at ≤ length es
inside first [] at here = cc
inside first (e ∷ es) zero here = omega arith
inside first (e ∷ es) (suc at) here = let more = inside first es at here in omega (arith, more)

drop-one : (c : ℕ) (v : Value) (vs : List Value) → drop (1 + c) (v ∷ vs) ≡ drop c vs
drop-one c v vs = let e : 1 + c ≡ suc c = omega arith in ap (λ (n : ℕ). drop n (v ∷ vs)) e

drop-zero : (c : ℕ) (vs : List Value) → drop (0 + c) vs ≡ drop c vs
drop-zero c vs = let e : 0 + c ≡ c = omega arith in ap (λ (n : ℕ). drop n vs) e

module _ (text : TraceLine → List ℕ) (first : ℕ) (silent : IsSilent text first) where
  one-silent : (i : ℕ) (t : ℤ) (source : End) (v : Value) → i < first → text (line i t source v) ≡ []
  one-silent i t source v h = silent (line i t source v) (lt-ltb i first h)

  -- the bytes of the lines of entries
  abbrev pub told : List Entry → ℕ → ℤ → List Value → List ℕ
  told es i t vs = flat_map text (lines_of es i t vs)

  skipped : (es : List Entry) (i : ℕ) (t : ℤ) (source : End) (v : Value) (vs : List Value) → i < first →
      flat_map text (line i t source v ∷ lines_of es i t vs) ≡ told es i t vs
  skipped es i t source v vs h = ap (λ (b : List ℕ). b ++ told es i t vs) (one-silent i t source v h)

  -- ---- nothing, where the last input is below the first

  none-by : (e : Entry) (es : List Entry) (i n : ℕ) (t : ℤ) (vs : List Value) (k : EntryKind) → i < first →
      ((j : ℕ) (s : ℤ) (us : List Value) → risen j es ≡ Some n → told es j s us ≡ []) →
      risen_by (λ m. risen m es) i e k ≡ Some n → flat_map text (lines_by (lines_of es) i t vs e k) ≡ []
  none-by e es i n t vs entry_kind.Input low more h = more e.input e.word vs (risen-input (nat_lt i e.input) (risen e.input es) n h).1
  none-by e es i n t vs entry_kind.True low more h = skipped es i t (end_of e) (SFBool true) vs low ∙ more i t vs h
  none-by e es i n t vs entry_kind.False low more h = skipped es i t (end_of e) (SFBool false) vs low ∙ more i t vs h
  none-by e es i n t vs entry_kind.Whole low more h = skipped es i t (end_of e) (SFInt32 (whole_of e.word)) vs low ∙ more i t vs h
  none-by e es i n t vs entry_kind.Number low more h = skipped es i t (end_of e) (SFFloat e.word) vs low ∙ more i t vs h
  none-by e es i n t vs entry_kind.Time low more h = skipped es i t (end_of e) (SFTime e.word) vs low ∙ more i t vs h
  none-by e es i n t [] entry_kind.Other low more h = more i t [] h
  none-by e es i n t (v ∷ vs) entry_kind.Other low more h = skipped es i t (end_of e) v vs low ∙ more i t vs h

  pub none-told : (es : List Entry) (i n : ℕ) (t : ℤ) (vs : List Value) → n < first → risen i es ≡ Some n → told es i t vs ≡ []
  unfolding lines_of risen
  none-told [] i n t vs low h = refl
  none-told (e ∷ es) i n t vs low h =
      none-by e es i n t vs e.kind (omega (arith, low, risen-above (e ∷ es) i n h)) (λ j s us r. none-told es j n s us low r) h

  -- ---- from a place on

  -- what is told behind a place
  abbrev pub behind : List Entry → ℕ → List Value → List ℕ
  behind es at vs = told (drop at es) 0 (pos 0) vs

  since-by : (e : Entry) (es : List Entry) (at i n : ℕ) (t : ℤ) (vs : List Value) (k : EntryKind) → i < first →
      ((j : ℕ) (s : ℤ) (us : List Value) → risen j es ≡ Some n → told es j s us ≡ behind es at (drop (count_by takes_value (take at es)) us)) →
      risen_by (λ m. risen m es) i e k ≡ Some n →
      flat_map text (lines_by (lines_of es) i t vs e k) ≡ behind es at (drop (cond (is_aside k) 1 0 + count_by takes_value (take at es)) vs)
  since-by e es at i n t vs entry_kind.Input low more h =
      more e.input e.word vs (risen-input (nat_lt i e.input) (risen e.input es) n h).1 ∙ ap (behind es at) (sym (drop-zero (count_by takes_value (take at es)) vs))
  since-by e es at i n t vs entry_kind.True low more h =
      skipped es i t (end_of e) (SFBool true) vs low ∙ more i t vs h ∙ ap (behind es at) (sym (drop-zero (count_by takes_value (take at es)) vs))
  since-by e es at i n t vs entry_kind.False low more h =
      skipped es i t (end_of e) (SFBool false) vs low ∙ more i t vs h ∙ ap (behind es at) (sym (drop-zero (count_by takes_value (take at es)) vs))
  since-by e es at i n t vs entry_kind.Whole low more h =
      skipped es i t (end_of e) (SFInt32 (whole_of e.word)) vs low ∙ more i t vs h ∙ ap (behind es at) (sym (drop-zero (count_by takes_value (take at es)) vs))
  since-by e es at i n t vs entry_kind.Number low more h =
      skipped es i t (end_of e) (SFFloat e.word) vs low ∙ more i t vs h ∙ ap (behind es at) (sym (drop-zero (count_by takes_value (take at es)) vs))
  since-by e es at i n t vs entry_kind.Time low more h =
      skipped es i t (end_of e) (SFTime e.word) vs low ∙ more i t vs h ∙ ap (behind es at) (sym (drop-zero (count_by takes_value (take at es)) vs))
  since-by e es at i n t [] entry_kind.Other low more h =
      more i t [] h ∙ ap (behind es at) (drop-nil (count_by takes_value (take at es)) ∙ sym (drop-nil (1 + count_by takes_value (take at es))))
  since-by e es at i n t (v ∷ vs) entry_kind.Other low more h =
      skipped es i t (end_of e) v vs low ∙ more i t vs h ∙ ap (behind es at) (sym (drop-one (count_by takes_value (take at es)) v vs))

  -- the lines behind an input up to the first are all that is told
  pub since : (es : List Entry) (at i n : ℕ) (t : ℤ) (vs : List Value) → option_map_or (begins_by first) (slice_get es at) false ≡ true → risen i es ≡ Some n →
      told es i t vs ≡ behind es at (drop (count_by takes_value (take at es)) vs)
  unfolding lines_of risen
  since [] at i n t vs here h = cc
  since (e ∷ es) zero i n t vs here h =
      let is : e.kind ≡ entry_kind.Input = (begins-input first e e.kind here).0 in
      ap (flat_map text) (input-left e es i t vs is ∙ sym (input-left e es 0 (pos 0) vs is))
  since (e ∷ es) (suc at) i n t vs here h =
      since-by e es at i n t vs e.kind (below first (e ∷ es) (suc at) i n here h) (λ j s us r. since es at j n s us here r) h
      ∙ ap (λ (c : ℕ). behind es at (drop c vs)) (sym (sum_by-cons (λ (x : Entry). cond (takes_value x) 1 0) e (take at es)))
