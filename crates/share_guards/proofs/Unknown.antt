-- Before any cookie came back no address is known.
use Rattle.std.proofs.Common.{◌≡◌, ℕ, zero, suc, List, Option, None, replicate, refl, ap, ◌∙◌}
use Rattle.std.specs.declared.net.socket_addr.SocketAddr.{SocketAddr}
use Rattle.share_guards.specs.Places.{known_at}

none_in : (n peer : ℕ) → known_at (replicate {A = Option SocketAddr} n None) peer ≡ None
none_in zero zero = refl
none_in zero (suc peer) = refl
none_in (suc n) zero = refl
none_in (suc n) (suc peer) = none_in n peer

pub unknown : (n : ℕ) (items : List (Option SocketAddr)) → items ≡ replicate n None → (peer : ℕ) → known_at items peer ≡ None
unknown n items e peer = ap (λ (l : List (Option SocketAddr)). known_at l peer) e ∙ none_in n peer
