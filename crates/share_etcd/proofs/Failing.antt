-- What a part that isn't there means for the whole.
use Rattle.std.proofs.Common.{◌≡◌, ◌⊎◌, inl, inr, Option, Some, None, Result, Ok, Err, refl, ap, ◌∙◌}
use Rattle.std.specs.Option.{ok_or}
use Rattle.share_etcd.specs.declared.fault.AnswerFault.{AnswerFault}
use Rattle.share_etcd.specs.declared.fault.AnswerFault.TheVariants.{Malformed, Memory}

pub some_of : {A : Type 0} (o : Option A) (x : A) → ok_or o Malformed ≡ Ok x → o ≡ Some x
some_of None x is = absurd cc
some_of (Some y) x is = let same : y ≡ x = cc in ap Some same

none_of : {A : Type 0} (o : Option A) (e : AnswerFault) → ok_or o Malformed ≡ Err e → (o ≡ None) × (Malformed ≡ e)
none_of None e is = (refl, cc)
none_of (Some y) e is = absurd cc

abbrev err : {A : Type 0} → AnswerFault → Result A AnswerFault
err e = Err e

-- a part failed, and the whole isn't there without it
pub fails_on : {A B : Type 0} (part : Option A) (whole : Option B) (e : AnswerFault) → (part ≡ None → whole ≡ None) → (e ≡ Memory) ⊎ (ok_or part Malformed ≡ Err e) → (e ≡ Memory) ⊎ (ok_or whole Malformed ≡ Err e)
fails_on part whole e leads (inl memory) = inl memory
fails_on {A} {B} part whole e leads (inr bad) =
    let gone = none_of part e bad in
    inr (ap (λ (o : Option B). ok_or o Malformed) (leads gone.0) ∙ ap (λ f. err {A = B} f) gone.1)
