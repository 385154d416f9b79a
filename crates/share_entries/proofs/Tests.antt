-- What an answer without a fault says of the tests before it.
use Rattle.std.proofs.Common.{◌≡◌, Bool, true, false, cond, Result, Ok, Err, refl}

abbrev pub done : {A E : Type 0} → A → Result A E
done x = Ok x

pub ok_is : {A E : Type 0} (x y : A) → done {A = A} {E = E} x ≡ done y → x ≡ y
ok_is x y e = cc

pub tested : {A E : Type 0} (b : Bool) (r : Result A E) (f : E) (y : A) → cond b r (Err f) ≡ Ok y → (b ≡ true) × (r ≡ Ok y)
tested true r f y e = (refl, e)
tested false r f y e = absurd cc
