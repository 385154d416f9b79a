-- Entries of a table, by the fields that they are made of.
use Rattle.std.proofs.Common.{◌≡◌, ◌<◌, ℕ, List, length, map, get_or, slice_get, Some, refl, sym}
use Rattle.std.proofs.lemmas.Option.{slice_get_read, slice_get-map}

-- the field at a place makes the entry there
pub entry_at : {A B : Type 0} (f : A → B) (xs : List A) (ys : List B) (k : ℕ) (x : A) →
    map f xs ≡ ys → k < length xs → x ≡ get_or xs k x → slice_get ys k ≡ Some (f x)
entry_at f xs ys k x are here is =
    let at : slice_get xs k ≡ Some x = slice_get_read xs (length xs) k x refl here is in
    rw (sym are, slice_get-map, at) refl
