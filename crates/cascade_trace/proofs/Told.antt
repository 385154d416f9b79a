-- The lines of a trace, one after the other.
use Rattle.std.proofs.Common.{arith, ◌≤◌, ◌<◌, ◌+◌, get_or, length, drop, ◌≡◌, ◌≢◌, true, cond, ℕ, ℤ, List, [], ◌∷◌, ◌++◌, ◌∙◌, ap, sym, subst, refl, Result, Ok, Err}
use Rattle.std.specs.Prelude.{count_by, pos, replicate, slice_get, OnOk, IfOk}
use Rattle.std.specs.List.{flat_map}
use Rattle.std.specs.Option.{option_map_or}
use Rattle.std.proofs.lemmas.List.{at_drop_all, at_drop_more, append-nil, append_assoc, length-append, length-replicate}
use Rattle.std.proofs.lemmas.List.Sums.{sum_by-cons}
use Rattle.x3d_lists.specs.Extends.{Extends}
use Rattle.x3d_values.specs.declared.value.Value.{Value}
use Rattle.x3d_values.specs.declared.value.Value.TheVariants.{SFBool}
use Rattle.cascade_trace.specs.declared.trace.Entry.{Entry}
use Rattle.cascade_trace.specs.declared.trace.EntryList.{EntryList}
use Rattle.cascade_trace.specs.declared.trace.EntryKind.{EntryKind}
use Rattle.cascade_trace.specs.declared.trace.EntryKind.TheVariants as entry_kind
use Rattle.cascade_trace.specs.declared.trace.TraceLine.{TraceLine}
use Rattle.cascade_trace.specs.Trace.{lines_of, lines_by, line, end_of, plain_value, is_event, tells_line, kept_lines, taking, IsOpen}

-- the entry of an input
pub input-left : (e : Entry) (es : List Entry) (i : ℕ) (t : ℤ) (vs : List Value) → e.kind ≡ entry_kind.Input → lines_of (e ∷ es) i t vs ≡ lines_of es e.input e.word vs
unfolding lines_of
input-left e es i t vs h = ap (lines_by (lines_of es) i t vs e) h

-- the entry of a value that stands aside
pub other-left : (e : Entry) (es : List Entry) (i : ℕ) (t : ℤ) (vs : List Value) → e.kind ≡ entry_kind.Other →
    lines_of (e ∷ es) i t vs ≡ taking (lines_of es i t) i t (end_of e) vs
unfolding lines_of
other-left e es i t vs h = ap (lines_by (lines_of es) i t vs e) h

module _ (text : TraceLine → List ℕ) where
  plain-by : (e : Entry) (es : List Entry) (i : ℕ) (t : ℤ) (vs : List Value) (k : EntryKind) → k ≢ entry_kind.Input → k ≢ entry_kind.Other →
      flat_map text (lines_by (lines_of es) i t vs e k)
      ≡ option_map_or (λ v. text (line i t (end_of e) v)) (plain_value k e.word) [] ++ flat_map text (lines_of es i t vs)
  plain-by e es i t vs entry_kind.Input h g = absurd (h refl)
  plain-by e es i t vs entry_kind.True h g = refl
  plain-by e es i t vs entry_kind.False h g = refl
  plain-by e es i t vs entry_kind.Whole h g = refl
  plain-by e es i t vs entry_kind.Number h g = refl
  plain-by e es i t vs entry_kind.Time h g = refl
  plain-by e es i t vs entry_kind.Other h g = absurd (g refl)

  plain-left : (e : Entry) (es : List Entry) (i : ℕ) (t : ℤ) (vs : List Value) → e.kind ≢ entry_kind.Input → e.kind ≢ entry_kind.Other →
      flat_map text (lines_of (e ∷ es) i t vs)
      ≡ option_map_or (λ v. text (line i t (end_of e) v)) (plain_value e.kind e.word) [] ++ flat_map text (lines_of es i t vs)
  unfolding lines_of
  plain-left e es i t vs h g = plain-by e es i t vs e.kind h g

  -- what is written so far, with the lines that are left
  pub told-plain : (e : Entry) (es : List Entry) (i : ℕ) (t : ℤ) (vs : List Value) (out : List ℕ) → e.kind ≢ entry_kind.Input → e.kind ≢ entry_kind.Other →
      (out ++ option_map_or (λ v. text (line i t (end_of e) v)) (plain_value e.kind e.word) []) ++ flat_map text (lines_of es i t vs)
      ≡ out ++ flat_map text (lines_of (e ∷ es) i t vs)
  told-plain e es i t vs out h g =
      rw (plain-left e es i t vs h g) (append_assoc out (option_map_or (λ v. text (line i t (end_of e) v)) (plain_value e.kind e.word) []) (flat_map text (lines_of es i t vs)))

  told-taking : (e : Entry) (es : List Entry) (i : ℕ) (t : ℤ) (vs : List Value) (out : List ℕ) →
      (out ++ option_map_or (λ v. text (line i t (end_of e) v)) (slice_get vs 0) []) ++ flat_map text (lines_of es i t (drop 1 vs))
      ≡ out ++ flat_map text (taking (lines_of es i t) i t (end_of e) vs)
  told-taking e es i t [] out = rw append-nil refl
  told-taking e es i t (v ∷ vs) out = append_assoc out (text (line i t (end_of e) v)) (flat_map text (lines_of es i t vs))

  pub told-other : (e : Entry) (es : List Entry) (i : ℕ) (t : ℤ) (vs : List Value) (out : List ℕ) → e.kind ≡ entry_kind.Other →
      (out ++ option_map_or (λ v. text (line i t (end_of e) v)) (slice_get vs 0) []) ++ flat_map text (lines_of es i t (drop 1 vs))
      ≡ out ++ flat_map text (lines_of (e ∷ es) i t vs)
  told-other e es i t vs out h = rw (other-left e es i t vs h) (told-taking e es i t vs out)

-- a fact about what an answer gives, if it gives something
pub answer-told : {A E : Type 0} (r : Result A E) (f : A → List Value) (d : List Value) (P : Type 0) (Q : List Value → Type 0) →
    OnOk r P → IfOk r (λ x. f x ≡ d) → (P → Q d) → IfOk r (λ x. Q (f x))
answer-told (Ok x) f d P Q p e h = subst Q (sym e) (h p)
answer-told (Err x) f d P Q p e h = tt

-- what is written so far, with the lines that are left, where one entry more was gone through
pub told-next : (text now : TraceLine → List ℕ) (entries : List Entry) (n : ℕ) (d : Entry) (i j : ℕ) (t s : ℤ) (vs us : List Value) (out new all : List ℕ) → n < length entries → now ≡ text →
    ((es : List Entry) → new ++ flat_map text (lines_of es j s us) ≡ out ++ flat_map text (lines_of (get_or entries n d ∷ es) i t vs)) →
    out ++ flat_map text (lines_of (drop n entries) i t vs) ≡ all →
    new ++ flat_map now (lines_of (drop (n + 1) entries) j s us) ≡ all
told-next text now entries n d i j t s vs us out new all below same one before =
    ap (λ (f : TraceLine → List ℕ). new ++ flat_map f (lines_of (drop (n + 1) entries) j s us)) same
    ∙ one (drop (n + 1) entries)
    ∙ sym (at_drop_more (λ (es : List Entry). out ++ flat_map text (lines_of es i t vs)) entries n d below)
    ∙ before

-- and where all were
pub told-all : (text : TraceLine → List ℕ) (entries : List Entry) (n i : ℕ) (t : ℤ) (vs : List Value) (out all : List ℕ) → length entries ≤ n →
    out ++ flat_map text (lines_of (drop n entries) i t vs) ≡ all → out ≡ all
unfolding lines_of
told-all text entries n i t vs out all past before =
    sym (append-nil out)
    ∙ sym (at_drop_all (λ (es : List Entry). out ++ flat_map text (lines_of es i t vs)) entries n past)
    ∙ before

-- what has grown twice has grown
pub kept-on : (a b c : List ℕ) → Extends a b → Extends b c → Extends a c
kept-on a b c h k = record { more = h.more ++ k.more; is = k.is ∙ ap (λ (xs : List ℕ). xs ++ k.more) h.is ∙ append_assoc a h.more k.more }

-- ---- how many lines there are

-- with enough values each entry of an event has its line
many-by : (e : Entry) (es : List Entry) (i : ℕ) (t : ℤ) (vs : List Value) (k : EntryKind) →
    ((j : ℕ) (s : ℤ) (us : List Value) → length es ≤ length us → length (lines_of es j s us) ≡ count_by tells_line es) →
    length es + 1 ≤ length vs →
    length (lines_by (lines_of es) i t vs e k) ≡ cond (is_event k) 1 0 + count_by tells_line es
many-by e es i t vs entry_kind.Input more n = omega (arith, more e.input e.word vs (omega (arith, n)))
many-by e es i t vs entry_kind.True more n = omega (arith, more i t vs (omega (arith, n)))
many-by e es i t vs entry_kind.False more n = omega (arith, more i t vs (omega (arith, n)))
many-by e es i t vs entry_kind.Whole more n = omega (arith, more i t vs (omega (arith, n)))
many-by e es i t vs entry_kind.Number more n = omega (arith, more i t vs (omega (arith, n)))
many-by e es i t vs entry_kind.Time more n = omega (arith, more i t vs (omega (arith, n)))
many-by e es i t [] entry_kind.Other more n = absurd (omega (arith, n))
many-by e es i t (v ∷ vs) entry_kind.Other more n = omega (arith, more i t vs (omega (arith, n)))

many-lines : (es : List Entry) (i : ℕ) (t : ℤ) (vs : List Value) → length es ≤ length vs → length (lines_of es i t vs) ≡ count_by tells_line es
unfolding lines_of
many-lines [] i t vs n = refl
many-lines (e ∷ es) i t vs n =
    many-by e es i t vs e.kind (λ j s us k. many-lines es j s us k) (omega (arith, n)) ∙ sym (sum_by-cons (λ (x : Entry). cond (tells_line x) 1 0) e es)

none-told : (i : ℕ) (t : ℤ) (vs : List Value) → lines_of [] i t vs ≡ []
unfolding lines_of
none-told i t vs = refl

-- the lines that are kept are those that the entries tell: no line lacks its value
pub many-kept : (k : EntryList) → IsOpen k → length (kept_lines k) ≡ count_by tells_line k.entries.items
many-kept k opens =
    let more : List Value = replicate (length k.entries.items) (SFBool true) in
    let same : lines_of (k.entries.items ++ []) 0 (pos 0) (k.values.items ++ more) ≡ kept_lines k ++ lines_of [] k.input k.time more = opens [] more in
    let shown : lines_of k.entries.items 0 (pos 0) (k.values.items ++ more) ≡ kept_lines k =
    rw (append-nil k.entries.items, none-told k.input k.time more, append-nil (kept_lines k)) at same in
    let enough : length k.entries.items ≤ length (k.values.items ++ more) =
    omega (arith, length-append k.values.items more, length-replicate (length k.entries.items) (SFBool true)) in
    sym (ap length shown) ∙ many-lines k.entries.items 0 (pos 0) (k.values.items ++ more) enough
