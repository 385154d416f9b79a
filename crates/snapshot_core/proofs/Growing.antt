-- Buffers that grow at their end.
use Rattle.std.proofs.Common.{◌≡◌, ℕ, List, [], ◌++◌, sym, ap, ◌∙◌, append_assoc}
use Rattle.std.proofs.lemmas.List.{append-nil}
use Rattle.x3d_lists.specs.Extends.{Extends}

pub extends_on : (old now new : List ℕ) → Extends old now → Extends now new → Extends old new
extends_on old now new p q = record { more = p.more ++ q.more; is = q.is ∙ ap (λ (z : List ℕ). z ++ q.more) p.is ∙ append_assoc old p.more q.more }

pub grown : (old part now : List ℕ) → now ≡ old ++ part → Extends old now
grown old part now is = record { more = part; is = is }

pub same_on : (old now new : List ℕ) → Extends old now → new ≡ now → Extends old new
same_on old now new p is = record { more = p.more; is = is ∙ p.is }

pub stays : (old : List ℕ) → Extends old old
stays old = record { more = []; is = sym (append-nil old) }
