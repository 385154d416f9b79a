-- The outputs that a trace writes are read again.
use Rattle.std.proofs.Common.{◌≡◌, ◌∙◌, ap, sym, refl, arith, ℕ, ◌<◌, Bool, true, false, List, [], ◌∷◌, ◌++◌, map, Option, Some, None, if◌then◌else◌, ltb-true}
use Rattle.std.specs.Prelude.{nat_lt}
use Rattle.std.specs.Int.{w16, w32}
use Rattle.std.specs.List.{filter, flat_map, fold}
use Rattle.std.specs.Option.{option_map}
use Rattle.byte_codec.specs.Exact.{IsExact}
use Rattle.byte_codec.proofs.Laws.{number_exact, pair_exact, some_is, wide16, wide32}
use Rattle.scene_core.specs.declared.scene.End.{End}
use Rattle.cascade_trace.specs.declared.trace.TraceLine.{TraceLine}
use Rattle.embed_changes.specs.OutputBytes.{bytes_after, end_with, output_at, output_bytes, places}
use Rattle.embed_changes.specs.Outputs.{is_after, noted}

-- ---- what is written

silent_by : (since : ℕ) (l : TraceLine) (b : Bool) → nat_lt since l.input ≡ b → l.input < since → (if b then output_bytes l.source else []) ≡ []
silent_by since l true is before = absurd (omega (arith, ltb-true since l.input is, before))
silent_by since l false is before = refl

pub silent : (since : ℕ) (l : TraceLine) → nat_lt l.input since ≡ true → bytes_after since l ≡ []
silent since l before = silent_by since l (nat_lt since l.input) refl (ltb-true l.input since before)

-- the bytes of the lines are those of the outputs of later lines
pub written : (since : ℕ) (lines : List TraceLine) → flat_map (bytes_after since) lines ≡ flat_map output_bytes (map (λ l. l.source) (filter (is_after since) lines))
written since [] = refl
written since (l ∷ ls) = by (is_after since l) (written since ls)
  where
    by : (b : Bool) → flat_map (bytes_after since) ls ≡ flat_map output_bytes (map (λ m. m.source) (filter (is_after since) ls))
        → (if b then output_bytes l.source else []) ++ flat_map (bytes_after since) ls
        ≡ flat_map output_bytes (map (λ m. m.source) (if b then l ∷ filter (is_after since) ls else filter (is_after since) ls))
    by true same = ap (λ bytes. output_bytes l.source ++ bytes) same
    by false same = same

-- ---- what is read

exact : IsExact places
exact = pair_exact _ _ (number_exact w32 wide32) (number_exact w16 wide16)

abbrev bytes_if : Bool → End → List ℕ
bytes_if b e = if b then 1 ∷ places.write (e.node, e.field) else 0 ∷ []

abbrev read_if : Bool → End → List ℕ → Option (End × List ℕ)
read_if b e rest = if b then Some (e, rest) else None

read_by : (e : End) (rest : List ℕ) (b : Bool) → places.fits (e.node, e.field) ≡ b → output_at (bytes_if b e ++ rest) ≡ read_if b e rest
read_by e rest true fits = ap (option_map end_with) (exact.again (e.node, e.field) rest fits)
read_by e rest false fits = refl

-- the outputs of the bytes that are not read yet
pub record Rest (start all now : List End) (rest : List ℕ) : Type 0 where
  pub outputs : List End
  pub bytes : rest ≡ flat_map output_bytes outputs
  pub left : fold noted start all ≡ fold noted now outputs

pub rest_all : (start all : List End) (rest : List ℕ) → rest ≡ flat_map output_bytes all → Rest start all start rest
rest_all start all rest is = record { outputs = all; bytes = is; left = refl }

next_by : (start all now next : List End) (after : List ℕ) (e o : End) (os : List End) (b : Bool) → fold noted start all ≡ fold noted (noted now o) os
    → read_if b o (flat_map output_bytes os) ≡ Some (e, after) → next ≡ noted now e → Rest start all next after
next_by start all now next after e o os true left read is =
    let both : (o, flat_map output_bytes os) ≡ (e, after) = some_is (o, flat_map output_bytes os) (e, after) read in
    let same : o ≡ e = ap (λ (p : End × List ℕ). p.0) both in
    let bytes : after ≡ flat_map output_bytes os = sym (ap (λ (p : End × List ℕ). p.1) both) in
    record { outputs = os; bytes = bytes; left = left ∙ ap (λ (x : End). fold noted (noted now x) os) same ∙ ap (λ (n : List End). fold noted n os) (sym is) }
next_by start all now next after e o os false left read is = absurd cc

next_in : (start all now next : List End) (rest after : List ℕ) (e : End) (outputs : List End) → rest ≡ flat_map output_bytes outputs → fold noted start all ≡ fold noted now outputs
    → output_at rest ≡ Some (e, after) → next ≡ noted now e → Rest start all next after
next_in start all now next rest after e [] bytes left read is =
    let none : output_at [] ≡ Some (e, after) = ap output_at (sym bytes) ∙ read in absurd cc
next_in start all now next rest after e (o ∷ os) bytes left read is =
    let again : output_at (output_bytes o ++ flat_map output_bytes os) ≡ read_if (places.fits (o.node, o.field)) o (flat_map output_bytes os) = read_by o (flat_map output_bytes os) (places.fits (o.node, o.field)) refl in
    next_by start all now next after e o os (places.fits (o.node, o.field)) left (sym again ∙ ap output_at (sym bytes) ∙ read) is

pub rest_next : (start all now next : List End) (rest after : List ℕ) (e : End) → Rest start all now rest → output_at rest ≡ Some (e, after) → next ≡ noted now e → Rest start all next after
rest_next start all now next rest after e r read is = next_in start all now next rest after e r.outputs r.bytes r.left read is

some_bytes : (e : End) (rest : List ℕ) (b : Bool) → bytes_if b e ++ rest ≡ [] → ⊥
some_bytes e rest true h = cc
some_bytes e rest false h = cc

done_by : (start all now : List End) (outputs : List End) → [] ≡ flat_map output_bytes outputs → fold noted start all ≡ fold noted now outputs → now ≡ fold noted start all
done_by start all now [] bytes left = sym left
done_by start all now (o ∷ os) bytes left = absurd (some_bytes o (flat_map output_bytes os) (places.fits (o.node, o.field)) (sym bytes))

pub rest_done : (start all now : List End) (rest : List ℕ) → Rest start all now rest → rest ≡ [] → now ≡ fold noted start all
rest_done start all now rest r is = done_by start all now r.outputs (sym is ∙ r.bytes) r.left
