-- A number of 64 bits that 32 bits hold.
use Rattle.std.proofs.Common.{◌≡◌, ◌∙◌, ℤ, subst, sym}
use Rattle.std.proofs.lemmas.Int.{to_z-of_z}
use mir.Syntax.{w32, w64}
use mir.Val.{SFits, of_z, to_z}

pub held : (x n : ℤ) → SFits w64 x → SFits w32 (to_z w64 (of_z w64 x)) → n ≡ to_z w64 (of_z w64 x) → to_z w32 (of_z w32 n) ≡ x
held x n wide fits is = to_z-of_z w32 n (subst (SFits w32) (sym is) fits) ∙ is ∙ to_z-of_z w64 x wide
