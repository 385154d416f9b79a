-- One number more that doesn't pass.
use Rattle.std.proofs.Common.{◌≡◌, ◌<◌, ◌+◌, ℕ, Bool, true, false, ltb, refl, sym, subst, arith}
use Rattle.std.proofs.lemmas.Bool.{ltb-false, ltb-true}
use Rattle.embed_scene.specs.Named.{Misses}

at : (passes : ℕ → Bool) (count n : ℕ) (below : Bool) → ltb n count ≡ below → Misses passes count
    → passes count ≡ false → n < count + 1 → passes n ≡ false
at passes count n true e misses this within = misses n (ltb-true _ _ e)
at passes count n false e misses this within =
    let same : n ≡ count = omega (arith, ltb-false _ _ e, within) in
    subst (λ k. passes k ≡ false) (sym same) this

pub one_more : (passes : ℕ → Bool) (count : ℕ) → Misses passes count → passes count ≡ false
    → Misses passes (count + 1)
one_more passes count misses this = λ n within. at passes count n (ltb n count) refl misses this within
