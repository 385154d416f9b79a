-- The offers that wait, as a queue in a ring: made - covered of them, from place covered % 64 on.
use Rattle.std.proofs.Common.{◌≡◌, ℕ, ◌+◌, ◌-◌, ◌%◌, ◌<◌, ◌≤◌, List, [], ◌∷◌, ◌++◌, length, map, get_or, take, drop, sym, ap, ◌∙◌, arith}
use native.Mathlib.Nat.{mod-add-mod}
use Rattle.std.specs.Prelude.{slice_get, slice_set, Some}
use Rattle.std.proofs.lemmas.List.{map-set, get_or-map, length-map}
use Rattle.x3d_values.specs.declared.pointing.Point.{Point}
use Rattle.share_rules.specs.declared.acks.Tally.{Tally}
use Rattle.share_rules.specs.Acks.{covered_after}
use Rattle.share_rules.specs.Offers.{most_waiting}
use Rattle.share_wire.specs.declared.message.Body.TheVariants.{Offer}
use Rattle.share_law.specs.Viewer.{ViewerWorld, ViewerState, offer_packet, acked, viewer_resend}
use Rattle.share_core.specs.declared.waiting.OfferedPoint.{OfferedPoint}
use Rattle.share_rules.specs.Rings.{in_order}
use Rattle.share_core.specs.Steps.{point_aimed}
use Rattle.share_core.specs.Waiting.{Offers, with_offers}
use Rattle.share_rules.proofs.Covers.{covers_least, covers_most}
use Rattle.share_rules.proofs.Rings.{length-queue, slice_get-queue, queue-pushed, queue-dropped}

abbrev pub shown : (covered made : ℕ) → List OfferedPoint → List Point
shown covered made places = take (made - covered) (in_order (covered % most_waiting) (map point_aimed places))

module _ (covered made : ℕ) (places : List OfferedPoint) (less : covered ≤ made) (few : made ≤ covered + most_waiting) (long : length places ≡ most_waiting) where
  pub length-shown : length (shown covered made places) ≡ made - covered
  length-shown = length-queue most_waiting (covered % most_waiting) (made - covered) (map point_aimed places) (omega arith) (omega arith) (length-map places point_aimed ∙ long)

  pub shown-read : (i : ℕ) (a : OfferedPoint) → i < made - covered → a ≡ get_or places ((covered + i) % most_waiting) a → slice_get (shown covered made places) i ≡ Some (point_aimed a)
  shown-read i a h is =
      slice_get-queue most_waiting (covered % most_waiting) (made - covered) (map point_aimed places) (omega arith) (omega arith) (length-map places point_aimed ∙ long) i (point_aimed a) h
      ∙ ap Some (ap (λ p. get_or (map point_aimed places) p (point_aimed a)) (mod-add-mod covered most_waiting i)
      ∙ get_or-map point_aimed places ((covered + i) % most_waiting) a (point_aimed a) (omega arith)
      ∙ ap point_aimed (sym is))

  pub shown-pushed : (a : OfferedPoint) → made < covered + most_waiting → shown covered (made + 1) (slice_set places (made % most_waiting) a) ≡ shown covered made places ++ point_aimed a ∷ []
  shown-pushed a room =
      let count : made + 1 - covered ≡ made - covered + 1 = omega arith in
      let place : (covered % most_waiting + (made - covered)) % most_waiting ≡ made % most_waiting = mod-add-mod covered most_waiting (made - covered) ∙ ap (λ p. p % most_waiting) (omega arith) in
      ap (λ (ps : List Point). take (made + 1 - covered) (in_order (covered % most_waiting) ps)) (map-set point_aimed places (made % most_waiting) a)
      ∙ ap (λ n. take n (in_order (covered % most_waiting) (slice_set (map point_aimed places) (made % most_waiting) (point_aimed a)))) count
      ∙ ap (λ p. take (made - covered + 1) (in_order (covered % most_waiting) (slice_set (map point_aimed places) p (point_aimed a)))) (sym place)
      ∙ queue-pushed most_waiting (covered % most_waiting) (made - covered) (map point_aimed places) (omega arith) (omega arith) (length-map places point_aimed ∙ long) (point_aimed a) (omega arith)

  dropped : (d : ℕ) → d ≤ made - covered → shown (covered + d) made places ≡ drop d (shown covered made places)
  dropped d h =
      ap (λ n. take n (in_order ((covered + d) % most_waiting) (map point_aimed places))) (omega arith)
      ∙ ap (λ p. take (made - covered - d) (in_order p (map point_aimed places))) (sym (mod-add-mod covered most_waiting d))
      ∙ queue-dropped most_waiting (covered % most_waiting) (made - covered) (map point_aimed places) (omega arith) (omega arith) (length-map places point_aimed ∙ long) d h

  -- those up to number n, of which more wait no more than before
  pub shown-covered : (n : ℕ) → covered ≤ n → n ≤ made → shown n made places ≡ drop (n - covered) (shown covered made places)
  shown-covered n least most =
      let some : n ≡ covered + (n - covered) = omega (arith, least) in
      ap (λ s. shown s made places) some ∙ dropped (n - covered) (omega (arith, most))

-- ---- the steps of a viewer

pub offers-pushed : (who boot covered made : ℕ) (places : List OfferedPoint) (a : OfferedPoint) → covered ≤ made → made ≤ covered + most_waiting → length places ≡ most_waiting
    → length (shown covered made places) < most_waiting
    → (let new : Offers = record { who = who; boot = boot; made = made + 1; waiting = shown covered (made + 1) (slice_set places (made % most_waiting) a) } in new)
    ≡ record { who = who; boot = boot; made = made + 1; waiting = shown covered made places ++ point_aimed a ∷ [] }
offers-pushed who boot covered made places a less few long room =
    ap (λ (xs : List Point). let z : Offers = record { who = who; boot = boot; made = made + 1; waiting = xs } in z)
    (shown-pushed covered made places less few long a (omega (arith, length-shown covered made places less few long)))

pub resend-packet : {W : Type 0} (o : Offers) (view : ViewerWorld W) (i number : ℕ) (a : OfferedPoint) → slice_get o.waiting i ≡ Some (point_aimed a) → number ≡ o.made - length o.waiting + i + 1
    → Some (Offer (record { boot = o.boot; number = number; pointer = record { who = o.who; down = a.down; ray = a.ray } })) ≡ viewer_resend o.who (with_offers o view) i
resend-packet o view i number a at is =
    ap (λ n. offer_packet o.who o.boot n (Some (point_aimed a))) is ∙ ap (offer_packet o.who o.boot (o.made - length o.waiting + i + 1)) (sym at)

-- an ack
pub acks-heeded : {W : Type 0} (who boot covered made : ℕ) (places : List OfferedPoint) → covered ≤ made → made ≤ covered + most_waiting → length places ≡ most_waiting
    → (view : ViewerWorld W) (other count latest : ℕ) → latest ≡ covered_after (record { boot = boot; made = made; covered = covered }) other count
    → (let o : Offers = record { who = who; boot = boot; made = made; waiting = shown covered made places } in
    let new : Offers = record { who = who; boot = boot; made = made; waiting = shown latest made places } in
    with_offers new view ≡ acked (with_offers o view) other count)
acks-heeded {W} who boot covered made places less few long view other count latest is =
    let before : List Point = shown covered made places in
    let state : List Point → ViewerState W = λ xs. record { boot = boot; made = made; waiting = xs; view = view } in
    let t : ℕ → Tally = λ c. record { boot = boot; made = made; covered = c } in
    let left : made - length before ≡ covered = omega (arith, length-shown covered made places less few long) in
    ap (λ n. state (shown n made places)) is
    ∙ ap state (shown-covered covered made places less few long (covered_after (t covered) other count) (covers_least (t covered) other count) (covers_most (t covered) other count less))
    ∙ ap (λ c. state (drop (covered_after (t c) other count - c) before)) (sym left)
