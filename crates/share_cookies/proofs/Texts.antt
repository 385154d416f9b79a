-- The text of a cookie tells what it is of.
use Rattle.std.proofs.Common.{◌≡◌, ℕ, ◌/◌, ◌%◌, List, [], ◌∷◌, length, take, drop, get_or, refl, sym, ap, ◌∙◌, arith, length-append}
use Rattle.std.proofs.lemmas.List.{take_at, drop_at}
use Rattle.share_cookies.specs.Cookies.{TextsTell}

abbrev tail : (port who : ℕ) → List ℕ
tail port who = port / 256 ∷ port % 256 ∷ who ∷ []

pub texts_tell : TextsTell
texts_tell a b p q v w e =
    let len : length a ≡ length b = omega (arith, ap length e, length-append a (tail p v), length-append b (tail q w)) in
    let front : a ≡ b = sym (take_at a (tail p v) (length a) refl) ∙ ap (take (length a)) e ∙ take_at b (tail q w) (length a) (sym len) in
    let back : tail p v ≡ tail q w = sym (drop_at a (tail p v) (length a) refl) ∙ ap (drop (length a)) e ∙ drop_at b (tail q w) (length a) (sym len) in
    let high : p / 256 ≡ q / 256 = ap (λ l. get_or l 0 0) back in
    let low : p % 256 ≡ q % 256 = ap (λ l. get_or l 1 0) back in
    let who : v ≡ w = ap (λ l. get_or l 2 0) back in
    (front, omega (arith, high, low), who)
