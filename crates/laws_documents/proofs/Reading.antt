-- What holds where a plain reading comes to its end.
use Rattle.std.proofs.Common.{Bool, true, false, if◌then◌else◌, List, Option, Some, None, Result, Ok, Err}
use Rattle.std.specs.Option.{option_map_or}
use Rattle.proto_flat.specs.declared.fault.ExpandFault.{ExpandFault}
use Rattle.proto_meaning.specs.Limits.{Met, Outcome, follow, and_then}
use Rattle.laws_documents.specs.Plain.{Reading, PlainRead}

abbrev Comes : {A : Type 0} → (A → Reading → Type 0) → Result (A × Reading) ExpandFault → Type 0
Comes P (Ok p) = P p.0 p.1
Comes P (Err e) = Unit {0}

abbrev pub Ends : {A : Type 0} → (A → Reading → Type 0) → Outcome (A × Reading) → Type 0
Ends P o = Comes P o.comes

module _ {A B : Type 0} (P : A → Reading → Type 0) (Q : B → Reading → Type 0) (f : A → PlainRead B) where
  then_comes : (met : List Met) (c : Result (A × Reading) ExpandFault) → Comes P c → ((a : A) (r : Reading) → P a r → Ends Q (f a r)) → Ends Q (follow met c (λ p. f p.0 p.1))
  then_comes met (Ok p) h k = k p.0 p.1 h
  then_comes met (Err e) h k = tt

  pub ends_then : (o : Outcome (A × Reading)) → Ends P o → ((a : A) (r : Reading) → P a r → Ends Q (f a r)) → Ends Q (and_then o (λ p. f p.0 p.1))
  ends_then o h k = then_comes o.met o.comes h k

weaker_comes : {A : Type 0} (P Q : A → Reading → Type 0) (c : Result (A × Reading) ExpandFault) → Comes P c → ((a : A) (r : Reading) → P a r → Q a r) → Comes Q c
weaker_comes P Q (Ok p) h k = k p.0 p.1 h
weaker_comes P Q (Err e) h k = tt

pub ends_weaker : {A : Type 0} (P Q : A → Reading → Type 0) (o : Outcome (A × Reading)) → Ends P o → ((a : A) (r : Reading) → P a r → Q a r) → Ends Q o
ends_weaker P Q o h k = weaker_comes P Q o.comes h k

module _ {A : Type 0} (P : A → Reading → Type 0) (r : Reading) where
  pub ends_if : (b : Bool) (m k : PlainRead A) → Ends P (m r) → Ends P (k r) → Ends P ((if b then m else k) r)
  ends_if true m k h g = h
  ends_if false m k h g = g

  pub ends_option : {X : Type 0} (o : Option X) (f : X → PlainRead A) (m : PlainRead A) → ((x : X) → Ends P (f x r)) → Ends P (m r) → Ends P (option_map_or f o m r)
  ends_option None f m h k = k
  ends_option (Some x) f m h k = h x
