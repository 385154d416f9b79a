-- Walks that a map of what they change, and of what they give, makes of each other.
use Rattle.std.proofs.Common.{◌≡◌, Bool, true, false, if◌then◌else◌, List, Option, Some, None, Result, Ok, Err, refl, ap, ◌∙◌}
use Rattle.std.specs.Option.{option_map_or}
use Rattle.proto_flat.specs.declared.fault.ExpandFault.{ExpandFault}
use Rattle.proto_meaning.specs.Limits.{Met, Outcome, behind, follow, and_then}

abbrev pub Runs : Type 0 → Type 0 → Type 0
Runs S A = S → Outcome (A × S)

module _ {S T : Type 0} (h : S → T) where
  abbrev pub came : {A B : Type 0} → (A → B) → Result (A × S) ExpandFault → Result (B × T) ExpandFault
  came a (Ok p) = Ok (a p.0, h p.1)
  came a (Err e) = Err e

  abbrev pub mapped : {A B : Type 0} → (A → B) → Outcome (A × S) → Outcome (B × T)
  mapped a o = record { met = o.met; comes = came a o.comes }

  abbrev pub Maps : {A B : Type 0} → (A → B) → Runs S A → Runs T B → Type 0
  Maps a m n = (s : S) → n (h s) ≡ mapped a (m s)

  then_came : {A B C D : Type 0} (a : A → B) (c : C → D) (f : A → Runs S C) (g : B → Runs T D) (met : List Met) (r : Result (A × S) ExpandFault)
      → ((x : A) → Maps c (f x) (g (a x))) → follow met (came a r) (λ p. g p.0 p.1) ≡ mapped c (follow met r (λ p. f p.0 p.1))
  then_came a c f g met (Ok p) k = ap (behind met) (k p.0 p.1)
  then_came a c f g met (Err e) k = refl

  pub maps_then : {A B C D : Type 0} (a : A → B) (c : C → D) (m : Runs S A) (n : Runs T B) (f : A → Runs S C) (g : B → Runs T D) → Maps a m n → ((x : A) → Maps c (f x) (g (a x)))
      → Maps c (λ s. and_then (m s) (λ p. f p.0 p.1)) (λ t. and_then (n t) (λ p. g p.0 p.1))
  maps_then a c m n f g e k s = ap (λ o. and_then o (λ p. g p.0 p.1)) (e s) ∙ then_came a c f g (m s).met (m s).comes k

  pub maps_if : {A B : Type 0} (a : A → B) (b : Bool) (m k : Runs S A) (n l : Runs T B) → Maps a m n → Maps a k l → Maps a (if b then m else k) (if b then n else l)
  maps_if a true m k n l e f = e
  maps_if a false m k n l e f = f

  pub maps_option : {X A B : Type 0} (a : A → B) (o : Option X) (f : X → Runs S A) (g : X → Runs T B) (m : Runs S A) (n : Runs T B) → ((x : X) → Maps a (f x) (g x)) → Maps a m n → Maps a (option_map_or f o m) (option_map_or g o n)
  maps_option a None f g m n e k = k
  maps_option a (Some x) f g m n e k = e x
