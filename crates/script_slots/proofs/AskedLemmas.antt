-- Which kinds are known, from one script to the next.
use Rattle.std.proofs.Common.{◌≡◌, ◌≢◌, sym, refl, subst, ℕ, ◌+◌, ◌<◌, false, List, length, slice_get, slice_index_or, Option, Some, None, inl, inr, arith}
use Rattle.std.specs.Prelude.{IsSomeAnd, is_none}
use Rattle.std.proofs.lemmas.Bool.{cases_lt}
use Rattle.std.proofs.lemmas.Option.{slice_get_read}
use Rattle.x3d_values.specs.declared.script.ScriptSpec.{ScriptSpec}
use Rattle.script_slots.specs.Asked.{KnownBelow}

is_known : {X : Type 0} (o : Option X) → is_none o ≡ false → o ≢ None
is_known None e none = cc e
is_known (Some x) e none = cc none

pub one_more_known : (specs : List ScriptSpec) (k : ℕ) (s : ScriptSpec) → KnownBelow specs k → k < length specs → s ≡ slice_index_or specs k s → is_none s.kind ≡ false → KnownBelow specs (k + 1)
one_more_known specs k s known there is some j below =
    elim (cases_lt j k) [
      | inl h ↦ known j h
      | inr h ↦
          let same : k ≡ j = omega arith in
          subst (λ i. IsSomeAnd (slice_get specs i) (λ s. s.kind ≢ None)) same
          (subst (λ o. IsSomeAnd o (λ s. s.kind ≢ None)) (sym (slice_get_read specs (length specs) k s refl there is)) (is_known s.kind some))
    ]
