-- An output that sends, or that has sent before.
use Rattle.std.proofs.Common.{◌≡◌, ◌∙◌, Bool, true, false, not, ap, sym, refl}
use Rattle.std.specs.Prelude.{if◌then◌else◌}

pub is_first : (sent sends : Bool) → sends ≡ not sent → sends ≡ true → sent ≡ false
is_first true sends is so = sym so ∙ is
is_first false sends is so = refl

pub was_sent : (sent sends : Bool) → sends ≡ not sent → sends ≡ false → sent ≡ true
was_sent true sends is none = refl
was_sent false sends is none = sym none ∙ is

module _ {X : Type 0} (sent : Bool) (now before after : X) where
  pub stands : now ≡ (if sent then before else after) → sent ≡ true → now ≡ before
  stands is h = is ∙ ap (λ (b : Bool). if b then before else after) h

  pub moves : now ≡ (if sent then before else after) → sent ≡ false → now ≡ after
  moves is h = is ∙ ap (λ (b : Bool). if b then before else after) h
