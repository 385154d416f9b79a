-- What is written of a text that was made, or that nothing was where it was refused.
use Rattle.std.proofs.Common.{◌≡◌, ◌⊎◌, ℕ, List, Option, Result, Ok, Err, IfOk, IfErr, OnOk, sym, subst, inl, inr}
use Rattle.std.specs.Prelude.{MatchResult}
use Rattle.std.specs.Io.KnownBytes.{Appends, Keeps}
use Rattle.app_jobs.specs.declared.fault.JobFault.{JobFault}
use Rattle.app_jobs.specs.declared.fault.JobFault.TheVariants.{Device}

not_both : {U E : Type 0} (u : U) (f : E) → Ok u ≡ Err f → ⊥
not_both u f e = cc

module _ {V U : Type 0} (items : V → List ℕ) where
  -- what `write_made` says
  abbrev pub Writes : Result V JobFault → Result U JobFault → Option (List ℕ) → Option (List ℕ) → Type 0
  Writes made result old new =
      MatchResult made (λ v. MatchResult result (λ u. Appends old new (items v)) (λ f. f ≡ Device)) (λ f. (result ≡ Err f) × Keeps old new)

  pub on_written : (made : Result V JobFault) (result : Result U JobFault) (old new : Option (List ℕ)) (P : V → Type 0) (Q : Type 0)
      → Writes made result old new → IfOk made P → ((v : V) → P v → Appends old new (items v) → Q) → OnOk result Q
  on_written (Ok v) (Ok u) old new P Q w p q = q v p w
  on_written (Ok v) (Err f) old new P Q w p q = tt
  on_written (Err f) (Ok u) old new P Q w p q = absurd (not_both u f w.0)
  on_written (Err f) (Err e) old new P Q w p q = tt

  pub if_refused : (made : Result V JobFault) (result : Result U JobFault) (old new : Option (List ℕ)) (P : JobFault → Type 0)
      → Writes made result old new → IfErr made P → P Device → IfErr result P
  if_refused (Ok v) (Ok u) old new P w p d = tt
  if_refused (Ok v) (Err f) old new P w p d = subst P (sym w) d
  if_refused (Err f) (Ok u) old new P w p d = tt
  if_refused (Err f) (Err e) old new P w p d = subst (λ (r : Result U JobFault). IfErr r P) (sym w.0) p

  pub if_nothing : (made : Result V JobFault) (result : Result U JobFault) (old new : Option (List ℕ)) (P : V → Type 0) (Q : Type 0)
      → Writes made result old new → IfOk made P → ((v : V) → P v → Q) → IfErr result (λ f. Keeps old new ⊎ ((f ≡ Device) × Q))
  if_nothing (Ok v) (Ok u) old new P Q w p q = tt
  if_nothing (Ok v) (Err f) old new P Q w p q = inr (w, q v p)
  if_nothing (Err f) (Ok u) old new P Q w p q = tt
  if_nothing (Err f) (Err e) old new P Q w p q = inl w.1
