-- Paths of at most 64 positions, each in 32 bits.
use Rattle.std.proofs.Common.{◌≡◌, ◌∙◌, refl, sym, ap, ℕ, suc, ◌+◌, ◌-◌, ◌≤◌, ◌<◌, ◌^◌, true, List, [], ◌∷◌, ◌++◌, length, take, get_or, nat_lt, Fits, w32, Some, None, replicate, slice_set, arith}
use Rattle.std.specs.List.{list_all}
use Rattle.std.proofs.lemmas.Bool.{and_from, cond-true, le-leb, lt-ltb}
use Rattle.std.proofs.lemmas.List.{append_assoc, length-take-le, take_more}
use Rattle.std.proofs.Math.Seq.{set-append_seam}
use Rattle.sensor_plane.specs.Paths.{list_path, padded, path_fits}

-- numbers of 32 bits
are_short : (ps : List ℕ) → ((i : ℕ) → Fits w32 (get_or ps i 0)) → list_all (λ p. nat_lt p (2 ^ 32)) ps ≡ true
are_short [] h = refl
are_short (p ∷ ps) h =
    let small : Fits w32 p = h 0 in
    and_from _ _ (lt-ltb p (2 ^ 32) (omega arith)) (are_short ps (λ i. h (suc i)))

pub short_fits : (ps : List ℕ) → length ps ≤ 64 → ((i : ℕ) → Fits w32 (get_or ps i 0)) → path_fits ps ≡ true
short_fits ps few h = and_from _ _ (le-leb (length ps) 64 few) (are_short ps h)

pub is_list_path : (ps : List ℕ) → length ps ≤ 64 → ((i : ℕ) → Fits w32 (get_or ps i 0)) → Some ps ≡ list_path ps
is_list_path ps few h = sym (cond-true (path_fits ps) (Some ps) None (short_fits ps few h))

-- the front of the positions with zeros behind them
taken_from : (ps zeros : List ℕ) → take (length ps) (ps ++ zeros) ≡ ps
taken_from [] zeros = refl
taken_from (p ∷ ps) zeros = ap (λ (l : List ℕ). p ∷ l) (taken_from ps zeros)

pub taken : (ps : List ℕ) → take (length ps) (padded ps) ≡ ps
taken ps = taken_from ps (replicate (64 - length ps) 0)

-- one position more is put behind those before it
pub one_more : (all ps : List ℕ) (at : ℕ) → at < length ps → length ps ≤ 64 → all ≡ take at ps ++ replicate (64 - at) 0
    → slice_set all at (get_or ps at 0) ≡ take (at + 1) ps ++ replicate (64 - (at + 1)) 0
one_more all ps at within few h =
    let p = get_or ps at 0 in
    let rest = 64 - (at + 1) in
    let next : 64 - at ≡ suc rest = omega (arith, within, few) in
    let zero : ℕ = 0 in
    let behind : all ≡ take at ps ++ zero ∷ replicate rest zero = h ∙ ap (λ n. take at ps ++ replicate n zero) next in
    let long : length (take at ps) ≡ at = length-take-le at ps (omega (arith, within)) in
    ap (λ (l : List ℕ). slice_set l at p) behind
    ∙ (ap (λ n. slice_set (take at ps ++ zero ∷ replicate rest zero) n p) (sym long)
    ∙ (set-append_seam (take at ps) zero (replicate rest zero) p
    ∙ (sym (append_assoc (take at ps) (p ∷ []) (replicate rest zero)) ∙ ap (λ (l : List ℕ). l ++ replicate rest zero) (sym (take_more ps at 0 within)))))
