-- What is read of a node's fields was written so, and what is written so is read.
use Rattle.std.proofs.Common.{◌≡◌, ℕ, true, List, ◌++◌, Option, Some, None, refl, sym, ap, subst, ◌∙◌}
use Rattle.std.specs.List.{flat_map}
use Rattle.byte_codec.specs.Codec.{◌>>?◌, only_if, rows}
use Rattle.byte_codec.specs.Exact.{IsBytes, IsExact, Took}
use Rattle.byte_codec.proofs.Laws.{bind_some, some_is, both, and_true}
use Rattle.byte_codec.proofs.LawsOfLists.{rows_exact, rows_text-flat_map}
use Rattle.x3d_values.specs.declared.field_type.FieldType.TheVariants as types
use Rattle.x3d_values.specs.declared.value.Value.{Value}
use Rattle.snapshot_codec.specs.declared.kept.KeptField.{KeptField}
use Rattle.snapshot_codec.specs.declared.kept.KeptField.TheVariants.{Absent, Interval, Typed}
use Rattle.snapshot_codec.specs.Values.{value_at, value_text, value_codec}
use Rattle.snapshot_codec.specs.Fields.{kept_text, is_positive, kept_at, kept_fits, kept_codec, fields_codec}
use Rattle.snapshot_codec.proofs.ValueLaws.{chosen, value_exact}

kept_takes : (k : KeptField) (bytes : List ℕ) (x : Option Value) (rest : List ℕ) → IsBytes bytes → kept_at k bytes ≡ Some (x, rest) → Took (kept_codec k) bytes x rest
unfolding kept_at kept_fits
kept_takes Absent bytes x rest h e =
    let made : Option Value × List ℕ = (None, bytes) in
    let P : Option Value × List ℕ → Type 0 = λ z. Took (kept_codec Absent) bytes z.0 z.1 in
    subst P {x = made} (some_is made (x, rest) e) (record { parts = refl; valid = refl })
kept_takes Interval bytes x rest h e =
    let a = bind_some (value_at types.SFTime bytes) (λ y. only_if is_positive y.0 >>? λ v. Some (Some v, y.1)) (x, rest) e in
    let b = bind_some (only_if is_positive a.0.0) (λ v. Some (Some v, a.0.1)) (x, rest) a.2 in
    let k = chosen is_positive a.0.0 b.0 (is_positive a.0.0) refl b.1 in
    let t = (value_exact types.SFTime).takes bytes a.0.0 a.0.1 h a.1 in
    let made : Option Value × List ℕ = (Some b.0, a.0.1) in
    let P : Option Value × List ℕ → Type 0 = λ z. Took (kept_codec Interval) bytes z.0 z.1 in
    subst P {x = made} (some_is made (x, rest) b.2) (record {
      parts = t.parts ∙ ap (λ (v : Value). value_text v ++ a.0.1) (sym k.0);
      valid = and_true _ _ (ap (value_codec types.SFTime).fits k.0 ∙ t.valid) k.1;
    })
kept_takes (Typed t) bytes x rest h e =
    let a = bind_some (value_at t bytes) (λ y. Some (Some y.0, y.1)) (x, rest) e in
    let took = (value_exact t).takes bytes a.0.0 a.0.1 h a.1 in
    let made : Option Value × List ℕ = (Some a.0.0, a.0.1) in
    let P : Option Value × List ℕ → Type 0 = λ z. Took (kept_codec (Typed t)) bytes z.0 z.1 in
    subst P {x = made} (some_is made (x, rest) a.2) (record { parts = took.parts; valid = took.valid })

kept_again : (k : KeptField) (x : Option Value) (rest : List ℕ) → kept_fits k x ≡ true → kept_at k (kept_text x ++ rest) ≡ Some (x, rest)
unfolding kept_at kept_fits
kept_again Absent None rest fits = refl
kept_again Absent (Some v) rest fits = absurd cc
kept_again Interval None rest fits = absurd cc
kept_again Interval (Some v) rest fits =
    let f = both ((value_codec types.SFTime).fits v) (is_positive v) fits in
    rw ((value_exact types.SFTime).again v rest f.0, f.1) refl
kept_again (Typed t) None rest fits = absurd cc
kept_again (Typed t) (Some v) rest fits = rw ((value_exact t).again v rest fits) refl

pub kept_exact : (k : KeptField) → IsExact (kept_codec k)
kept_exact k = record { takes = kept_takes k; again = kept_again k }

pub fields_exact : (fields : List KeptField) → IsExact (fields_codec fields)
fields_exact fields =
    let r = rows_exact kept_codec kept_exact fields in
    let same : (xs : List (Option Value)) → (rows kept_codec fields).fits xs ≡ true → (rows kept_codec fields).write xs ≡ flat_map kept_text xs = λ xs ok. rows_text-flat_map kept_codec kept_text (λ k x. refl) fields xs ok in
    record {
      takes = λ bytes xs rest h e. let t = r.takes bytes xs rest h e in record { parts = t.parts ∙ ap (λ (s : List ℕ). s ++ rest) (same xs t.valid); valid = t.valid };
      again = λ xs rest fits. ap (λ (s : List ℕ). (rows kept_codec fields).read (s ++ rest)) (sym (same xs fits)) ∙ r.again xs rest fits;
    }
