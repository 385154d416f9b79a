-- Before any datagram came no peer was heard.
use Rattle.std.proofs.Common.{◌≡◌, ℕ, zero, suc, List, Option, None, replicate, get_or, refl, ap, ◌∙◌}

none_in : (n peer : ℕ) → get_or (replicate {A = Option ℕ} n None) peer None ≡ None
none_in zero zero = refl
none_in zero (suc peer) = refl
none_in (suc n) zero = refl
none_in (suc n) (suc peer) = none_in n peer

pub unheard : (n : ℕ) (items : List (Option ℕ)) → items ≡ replicate n None → (peer : ℕ) → get_or items peer None ≡ None
unheard n items e peer = ap (λ (l : List (Option ℕ)). get_or l peer None) e ∙ none_in n peer
