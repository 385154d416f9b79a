-- Reading one after the other, as a loop does.
use Rattle.std.proofs.Common.{◌≡◌, ℕ, suc, ◌-◌, ◌+◌, ◌≤◌, ◌<◌, List, [], ◌∷◌, ◌++◌, length, get_or, drop, Option, Some, None, refl, sym, ap, ◌∙◌, append_assoc, arith, add-one, drop-cons, length-drop}
use Rattle.std.proofs.lemmas.List.{append-nil, nil_from_length}
use Rattle.byte_codec.specs.Codec.{Codec, ◌>>?◌, many_at, rows_at}
use Rattle.snapshot_codec.specs.Reads.{Fails, behind}
use Rattle.snapshot_codec.specs.declared.fault.PartFault.{PartFault}
use Rattle.snapshot_codec.specs.declared.fault.PartFault.TheVariants as faults

regroup : {A : Type 0} (front : List A) (y : A) (r : Option (List A × List ℕ)) → behind front (r >>? λ x. Some (y ∷ x.0, x.1)) ≡ behind (front ++ y ∷ []) r
regroup {A} front y (Some x) = ap (λ (ys : List A). Some (ys, x.1)) (sym (append_assoc front (y ∷ []) x.0))
regroup front y None = refl

pub goes_on : {A : Type 0} (c : Codec A) (front : List A) (count i : ℕ) (bytes : List ℕ) (y : A) (after : List ℕ) (total : Option (List A × List ℕ)) → i < count → c.read bytes ≡ Some (y, after)
    → behind front (many_at c (count - i) bytes) ≡ total → behind (front ++ y ∷ []) (many_at c (count - (i + 1)) after) ≡ total
unfolding many_at
goes_on c front count i bytes y after total lt h so_far =
    let k : count - i ≡ suc (count - (i + 1)) = omega arith in
    let one : behind front (many_at c (count - i) bytes) ≡ behind (front ++ y ∷ []) (many_at c (count - (i + 1)) after) = rw (k, h) (regroup front y (many_at c (count - (i + 1)) after)) in
    sym one ∙ so_far

pub ends : {A : Type 0} (c : Codec A) (e : PartFault) (front : List A) (count i : ℕ) (bytes : List ℕ) (total : Option (List A × List ℕ)) → i < count → Fails e (c.read bytes)
    → behind front (many_at c (count - i) bytes) ≡ total → Fails e total
unfolding many_at
ends c faults.Memory front count i bytes total lt h so_far = tt
ends c faults.NotCanonical front count i bytes total lt h so_far =
    let k : count - i ≡ suc (count - (i + 1)) = omega arith in
    let one : behind front (many_at c (count - i) bytes) ≡ None = rw (k, h) refl in
    sym so_far ∙ one

pub is_done : {A : Type 0} (c : Codec A) (front : List A) (count i : ℕ) (bytes : List ℕ) (total : Option (List A × List ℕ)) → count ≤ i → behind front (many_at c (count - i) bytes) ≡ total → total ≡ Some (front, bytes)
unfolding many_at
is_done {A} c front count i bytes total le so_far =
    let k : count - i ≡ 0 = omega arith in
    let one : behind front (many_at c (count - i) bytes) ≡ Some (front, bytes) = rw k (ap (λ (ys : List A). Some (ys, bytes)) (append-nil front)) in
    sym so_far ∙ one

-- ---- the same for rows

pub row_goes_on : {K A : Type 0} (codec_of : K → Codec A) (front : List A) (ks : List K) (i : ℕ) (d : K) (bytes : List ℕ) (y : A) (after : List ℕ) (total : Option (List A × List ℕ)) → i < length ks → (codec_of (get_or ks i d)).read bytes ≡ Some (y, after)
    → behind front (rows_at codec_of (drop i ks) bytes) ≡ total → behind (front ++ y ∷ []) (rows_at codec_of (drop (i + 1) ks) after) ≡ total
unfolding rows_at
row_goes_on codec_of front ks i d bytes y after total lt h so_far =
    let e : drop i ks ≡ get_or ks i d ∷ drop (i + 1) ks = rw (add-one, drop-cons ks i d) refl in
    let one : behind front (rows_at codec_of (drop i ks) bytes) ≡ behind (front ++ y ∷ []) (rows_at codec_of (drop (i + 1) ks) after) = rw (e, h) (regroup front y (rows_at codec_of (drop (i + 1) ks) after)) in
    sym one ∙ so_far

pub row_ends : {K A : Type 0} (codec_of : K → Codec A) (e : PartFault) (front : List A) (ks : List K) (i : ℕ) (d : K) (bytes : List ℕ) (total : Option (List A × List ℕ)) → i < length ks → Fails e ((codec_of (get_or ks i d)).read bytes)
    → behind front (rows_at codec_of (drop i ks) bytes) ≡ total → Fails e total
unfolding rows_at
row_ends codec_of faults.Memory front ks i d bytes total lt h so_far = tt
row_ends codec_of faults.NotCanonical front ks i d bytes total lt h so_far =
    let e : drop i ks ≡ get_or ks i d ∷ drop (i + 1) ks = rw (add-one, drop-cons ks i d) refl in
    let one : behind front (rows_at codec_of (drop i ks) bytes) ≡ None = rw (e, h) refl in
    sym so_far ∙ one

pub rows_done : {K A : Type 0} (codec_of : K → Codec A) (front : List A) (ks : List K) (i : ℕ) (bytes : List ℕ) (total : Option (List A × List ℕ)) → length ks ≤ i
    → behind front (rows_at codec_of (drop i ks) bytes) ≡ total → total ≡ Some (front, bytes)
unfolding rows_at
rows_done {K} {A} codec_of front ks i bytes total le so_far =
    let e : drop i ks ≡ [] = nil_from_length (drop i ks) (omega (arith, length-drop i ks)) in
    let one : behind front (rows_at codec_of (drop i ks) bytes) ≡ Some (front, bytes) = rw e (ap (λ (ys : List A). Some (ys, bytes)) (append-nil front)) in
    sym so_far ∙ one
