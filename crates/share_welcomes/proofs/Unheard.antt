-- Before any datagram came no peer is answered in version 2.
use Rattle.std.proofs.Common.{◌≡◌, ℕ, zero, suc, Bool, false, List, replicate, get_or, refl, ap, ◌∙◌}

none_in : (n peer : ℕ) → get_or (replicate n false) peer false ≡ false
none_in zero zero = refl
none_in zero (suc peer) = refl
none_in (suc n) zero = refl
none_in (suc n) (suc peer) = none_in n peer

pub unheard : (n : ℕ) (items : List Bool) → items ≡ replicate n false → (peer : ℕ) → get_or items peer false ≡ false
unheard n items e peer = ap (λ (l : List Bool). get_or l peer false) e ∙ none_in n peer
