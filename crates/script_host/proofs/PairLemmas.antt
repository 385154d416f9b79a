-- Two lists, place by place.
use Rattle.std.proofs.Common.{◌≡◌, ◌<◌, ℕ, List, length, map, slice_get, get_or, Some, refl, sym}
use Rattle.std.proofs.lemmas.Option.{slice_get_read, slice_get-map}
use Rattle.script_host.specs.Pairs.{PairAt}

-- what holds of the elements at a place holds of the pair
pub PairAt-here : {X Y : Type 0} (P : X → Y → Type 0) (xs : List X) (ys : List Y) (k : ℕ) (x : X) (y : Y)
    → k < length xs → k < length ys → x ≡ get_or xs k x → y ≡ get_or ys k y → P x y → PairAt P xs ys k
PairAt-here P xs ys k x y in_xs in_ys at_x at_y h =
    let x_here : slice_get xs k ≡ Some x = slice_get_read xs (length xs) k x refl in_xs at_x in
    let y_here : slice_get ys k ≡ Some y = slice_get_read ys (length ys) k y refl in_ys at_y in
    rw (x_here, y_here) h

-- what holds of one element at a place and of what the other there means holds of the pair
pub PairAt-map : {X Y Z : Type 0} (P : X → Z → Type 0) (f : Y → Z) (xs : List X) (ys : List Y) (k : ℕ) (x : X) (y : Y)
    → k < length xs → k < length ys → x ≡ get_or xs k x → y ≡ get_or ys k y → P x (f y) → PairAt P xs (map f ys) k
PairAt-map P f xs ys k x y in_xs in_ys at_x at_y h =
    let x_here : slice_get xs k ≡ Some x = slice_get_read xs (length xs) k x refl in_xs at_x in
    let y_here : slice_get ys k ≡ Some y = slice_get_read ys (length ys) k y refl in_ys at_y in
    rw x_here (rw (slice_get-map, y_here) h)

-- what the element at a place means stands at that place of what all of them mean
pub meaning_at : {X Y : Type 0} (f : X → Y) (xs : List X) (ys : List Y) (k : ℕ) (x : X) →
    map f xs ≡ ys → k < length xs → x ≡ get_or xs k x → slice_get ys k ≡ Some (f x)
meaning_at f xs ys k x are in_xs at_x =
    let x_here : slice_get xs k ≡ Some x = slice_get_read xs (length xs) k x refl in_xs at_x in
    rw (sym are, slice_get-map, x_here) refl
