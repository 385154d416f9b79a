-- Pieces that come to their places among the bytes of all.
use Rattle.std.proofs.Common.{◌≡◌, ℕ, zero, suc, ◌+◌, ◌-◌, ◌*◌, ◌<◌, ◌≤◌, ◌⊎◌, inl, inr, min, Bool, true, false, cond, List, [], ◌∷◌, ◌++◌, length, take, drop, replicate, refl, ap, sym, ◌∙◌, arith, ◌^◌, length-append, length-set}
use Rattle.std.specs.Prelude.{slice_get, slice_set, Option, Some, None, nat_le, nat_lt, ◌==◌, if◌then◌else◌}
use Rattle.std.proofs.lemmas.Option.{same_Some, none-some}
use Rattle.std.proofs.lemmas.Bool.{false≢true, cases_Bool, cond-true, cond-false, eqb-true, ne_eqb, leb-true, leb-false, ltb-true, ltb-false}
use Rattle.std.proofs.lemmas.List.{append-nil, take_all, take_at, take-take, drop-take, drop_all, drop_at, take-append-le, drop-append-le, drop-drop, length-take-le, length-drop, length-replicate}
use Rattle.std.proofs.Math.Seq.{drop-append-add}
use Rattle.share_wire.specs.Messages.{PieceView, piece_count, piece_size}
use Rattle.share_law.specs.declared.reply.Gathered.{Gathered}
use Rattle.share_law.specs.declared.reply.Gathered.TheVariants as gathered
use Rattle.share_law.specs.Pieces.{Gathering, all_there, joined, piece_bytes, placed, put}
use Rattle.share_core.specs.Stored.{places_at, missing_in, written}
use Rattle.share_law.proofs.Pieces.{joined-is}

-- ---- which are there

pub missing-replicate : (n : ℕ) → missing_in (replicate n false) ≡ n
missing-replicate zero = refl
missing-replicate (suc n) = ap suc (missing-replicate n)

pub missing-set : (bs : List Bool) (i : ℕ) → slice_get bs i ≡ Some false → suc (missing_in (slice_set bs i true)) ≡ missing_in bs
missing-set [] i h = absurd (none-some false h)
missing-set (true ∷ bs) zero h = absurd (false≢true (sym (same_Some true false h)))
missing-set (false ∷ bs) zero h = refl
missing-set (true ∷ bs) (suc i) h = missing-set bs i h
missing-set (false ∷ bs) (suc i) h = ap suc (missing-set bs i h)

pub all-there : (k : ℕ) (bs : List Bool) (bytes : List ℕ) → missing_in bs ≡ 0 → all_there (places_at k bs bytes) ≡ true
all-there k [] bytes h = refl
all-there k (true ∷ bs) bytes h = all-there (suc k) bs bytes h
all-there k (false ∷ bs) bytes h = absurd (omega (arith, h))

pub not-all : (k : ℕ) (bs : List Bool) (bytes : List ℕ) → 1 ≤ missing_in bs → all_there (places_at k bs bytes) ≡ false
not-all k [] bytes h = absurd (omega (arith, h))
not-all k (true ∷ bs) bytes h = not-all (suc k) bs bytes h
not-all k (false ∷ bs) bytes h = refl

pub places-none : (k n : ℕ) (bytes : List ℕ) → places_at k (replicate n false) bytes ≡ replicate n None
places-none k zero bytes = refl
places-none k (suc n) bytes = ap (λ l. None ∷ l) (places-none (suc k) n bytes)

pub place-there : (k : ℕ) (bs : List Bool) (bytes : List ℕ) (i : ℕ) → slice_get bs i ≡ Some true → slice_get (places_at k bs bytes) i ≡ Some (Some (piece_bytes bytes (k + i)))
place-there k [] bytes i h = absurd (none-some true h)
place-there k (b ∷ bs) bytes zero h = ap (λ c. Some (cond c (Some (piece_bytes bytes k)) None)) (same_Some b true h) ∙ ap (λ n. Some (Some (piece_bytes bytes n))) (omega arith)
place-there k (b ∷ bs) bytes (suc i) h = place-there (suc k) bs bytes i h ∙ ap (λ n. Some (Some (piece_bytes bytes n))) (omega arith)

pub place-empty : (k : ℕ) (bs : List Bool) (bytes : List ℕ) (i : ℕ) → slice_get bs i ≡ Some false → slice_get (places_at k bs bytes) i ≡ Some None
place-empty k [] bytes i h = absurd (none-some false h)
place-empty k (b ∷ bs) bytes zero h = ap (λ c. Some (cond c (Some (piece_bytes bytes k)) None)) (same_Some b false h)
place-empty k (b ∷ bs) bytes (suc i) h = place-empty (suc k) bs bytes i h

-- ---- a piece is written

short-or-full : (n m : ℕ) → n ≡ min 192 m → (n ≡ 192) ⊎ (m ≡ n)
short-or-full n m h = elim (cases_Bool (nat_le 192 m)) [
  | inl full ↦ inl (let le : 192 ≤ m = leb-true 192 m full in omega (arith, h, le))
  | inr short ↦ inr (let lt : m < 192 = leb-false 192 m short in omega (arith, h, lt))
]

-- the piece that was written
pub written-here : (i : ℕ) (bytes piece : List ℕ) → 192 * i < length bytes → length piece ≡ min 192 (length bytes - 192 * i) → piece_bytes (written (192 * i) bytes piece) i ≡ piece
written-here i bytes piece within size =
    let a : ℕ = 192 * i in
    let front : length (take a bytes) ≡ a = length-take-le a bytes (omega (arith, within)) in
    let tail : List ℕ = drop (length piece) (drop a bytes) in
    let from : drop a (written a bytes piece) ≡ piece ++ tail = drop_at (take a bytes) (piece ++ tail) a front in
    ap (take 192) from ∙ elim (short-or-full (length piece) (length bytes - a) size) [
      | inl full ↦ take_at piece tail 192 full
      | inr short ↦ (let none : tail ≡ [] = drop_all (length piece) (drop a bytes) (omega (arith, length-drop a bytes, short)) in
          ap (λ l. take 192 (piece ++ l)) none ∙ ap (take 192) (append-nil piece) ∙ take_all 192 piece (omega (arith, size)))
    ]

-- the pieces before it and behind it are as they were
written-before : (i j : ℕ) (bytes piece : List ℕ) → 192 * i < length bytes → j < i → piece_bytes (written (192 * i) bytes piece) j ≡ piece_bytes bytes j
written-before i j bytes piece within below =
    let a : ℕ = 192 * i in
    let n : ℕ = 192 * j in
    let front : length (take a bytes) ≡ a = length-take-le a bytes (omega (arith, within)) in
    let rest : List ℕ = piece ++ drop (length piece) (drop a bytes) in
    let size : length (drop n (take a bytes)) ≡ a - n = length-drop n (take a bytes) ∙ ap (λ k. k - n) front in
    let cut : drop n (take a bytes) ≡ take (a - n) (drop n bytes) = ap (λ k. drop n (take k bytes)) (let e : a ≡ n + (a - n) = omega (arith, below) in e) ∙ drop-take n (a - n) bytes in
    ap (take 192) (drop-append-le n (take a bytes) rest (omega (arith, front, below)))
    ∙ take-append-le 192 (drop n (take a bytes)) rest (omega (arith, size, below))
    ∙ ap (take 192) cut
    ∙ take-take 192 (a - n) (drop n bytes) (omega (arith, below))

written-behind : (i j : ℕ) (bytes piece : List ℕ) → 192 * i < length bytes → length piece ≤ 192 → i < j → piece_bytes (written (192 * i) bytes piece) j ≡ piece_bytes bytes j
written-behind i j bytes piece within size above =
    let a : ℕ = 192 * i in
    let n : ℕ = length piece in
    let r : ℕ = 192 * j - a - n in
    let front : length (take a bytes) ≡ a = length-take-le a bytes (omega (arith, within)) in
    let tail : List ℕ = drop n (drop a bytes) in
    let far : 192 * j ≡ length (take a bytes) + (n + r) = omega (arith, front, size, above) in
    let back : a + (n + r) ≡ 192 * j = omega (arith, size, above) in
    ap (take 192) (
    ap (λ k. drop k (written a bytes piece)) far
    ∙ drop-append-add (take a bytes) (piece ++ tail) (n + r)
    ∙ drop-append-add piece tail r
    ∙ drop-drop r n (drop a bytes)
    ∙ drop-drop (n + r) a bytes
    ∙ ap (λ k. drop k bytes) back)

pub written-other : (i j : ℕ) (bytes piece : List ℕ) → 192 * i < length bytes → length piece ≤ 192 → (j ≡ i → ⊥) → piece_bytes (written (192 * i) bytes piece) j ≡ piece_bytes bytes j
written-other i j bytes piece within size ne = elim (cases_Bool (nat_lt j i)) [
  | inl below ↦ written-before i j bytes piece within (ltb-true j i below)
  | inr high ↦ written-behind i j bytes piece within size (let le : i ≤ j = ltb-false j i high in omega (arith, le, ne))
]

-- ---- the places after a piece was written

places-same : (k : ℕ) (bs : List Bool) (bytes new : List ℕ) → ((j : ℕ) → k ≤ j → piece_bytes new j ≡ piece_bytes bytes j) → places_at k bs new ≡ places_at k bs bytes
places-same k [] bytes new same = refl
places-same k (b ∷ bs) bytes new same =
    let none : Option (List ℕ) = None in
    ap (λ p. cond b (Some p) none ∷ places_at (suc k) bs new) (same k (omega arith))
    ∙ ap (λ l. cond b (Some (piece_bytes bytes k)) none ∷ l) (places-same (suc k) bs bytes new (λ j le. same j (omega (arith, le))))

places-put : (k : ℕ) (bs : List Bool) (bytes new piece : List ℕ) (i : ℕ) → i < length bs → piece_bytes new (k + i) ≡ piece → ((j : ℕ) → (j ≡ k + i → ⊥) → piece_bytes new j ≡ piece_bytes bytes j)
    → places_at k (slice_set bs i true) new ≡ slice_set (places_at k bs bytes) i (Some piece)
places-put k [] bytes new piece i within here others = absurd (omega (arith, within))
places-put k (b ∷ bs) bytes new piece zero within here others =
    let at : piece_bytes new k ≡ piece = ap (piece_bytes new) (omega arith) ∙ here in
    ap (λ p. Some p ∷ places_at (suc k) bs new) at
    ∙ ap (λ l. Some piece ∷ l) (places-same (suc k) bs bytes new (λ j le. others j (λ e. omega (arith, le, e))))
places-put k (b ∷ bs) bytes new piece (suc i) within here others =
    let none : Option (List ℕ) = None in
    ap (λ p. cond b (Some p) none ∷ places_at (suc k) (slice_set bs i true) new) (others k (λ e. omega (arith, e)))
    ∙ ap (λ l. cond b (Some (piece_bytes bytes k)) none ∷ l)
    (places-put (suc k) bs bytes new piece i (omega (arith, within)) (ap (piece_bytes new) (omega arith) ∙ here) (λ j ne. others j (λ e. ne (omega (arith, e)))))

pub places-written : (bs : List Bool) (bytes piece : List ℕ) (i : ℕ) → i < length bs → 192 * i < length bytes → length piece ≡ min 192 (length bytes - 192 * i)
    → places_at 0 (slice_set bs i true) (written (192 * i) bytes piece) ≡ slice_set (places_at 0 bs bytes) i (Some piece)
places-written bs bytes piece i place within size =
    places-put 0 bs bytes (written (192 * i) bytes piece) piece i place
    (ap (piece_bytes (written (192 * i) bytes piece)) (omega arith) ∙ written-here i bytes piece within size)
    (λ j ne. written-other i j bytes piece within (omega (arith, size)) (λ e. ne (omega (arith, e))))

-- ---- all are there

length-places : (k : ℕ) (bs : List Bool) (bytes : List ℕ) → length (places_at k bs bytes) ≡ length bs
length-places k [] bytes = refl
length-places k (b ∷ bs) bytes = ap suc (length-places (suc k) bs bytes)

head-is : (b : Bool) (bytes piece : List ℕ) → cond b (Some bytes) None ≡ Some piece → bytes ≡ piece
head-is true bytes piece h = same_Some bytes piece h
head-is false bytes piece h = absurd (none-some piece h)

place-is : (k : ℕ) (bs : List Bool) (bytes : List ℕ) (i : ℕ) (piece : List ℕ) → slice_get (places_at k bs bytes) i ≡ Some (Some piece) → piece ≡ piece_bytes bytes (k + i)
place-is k [] bytes i piece h = absurd (none-some (Some piece) h)
place-is k (b ∷ bs) bytes zero piece h = sym (head-is b (piece_bytes bytes k) piece (same_Some _ (Some piece) h)) ∙ ap (piece_bytes bytes) (omega arith)
place-is k (b ∷ bs) bytes (suc i) piece h = place-is (suc k) bs bytes i piece h ∙ ap (piece_bytes bytes) (omega arith)

pub joined-whole : (bs : List Bool) (bytes : List ℕ) → missing_in bs ≡ 0 → length bytes ≤ 192 * length bs → joined (places_at 0 bs bytes) ≡ bytes
joined-whole bs bytes none fits =
    joined-is (places_at 0 bs bytes) bytes 0 (all-there 0 bs bytes none) (place-is 0 bs bytes)
    ∙ take_all (192 * length (places_at 0 bs bytes)) bytes (omega (arith, fits, length-places 0 bs bytes))

-- ---- the calls

pub all-there-is : (k : ℕ) (bs : List Bool) (bytes : List ℕ) → all_there (places_at k bs bytes) ≡ (missing_in bs == 0)
all-there-is k [] bytes = refl
all-there-is k (true ∷ bs) bytes = all-there-is (suc k) bs bytes
all-there-is k (false ∷ bs) bytes = sym (ne_eqb (suc (missing_in bs)) 0 (λ e. omega (arith, e)))

pub begin-invariant : (size : ℕ) (bytes : List ℕ) (there : List Bool) → bytes ≡ replicate size 0 → there ≡ replicate (piece_count size) false → size ≤ 2 ^ 26
    → (length bytes ≡ size) × (length there ≡ piece_count size) × (piece_count size ≡ missing_in there) × (size ≤ 2 ^ 26)
begin-invariant size bytes there b t small =
    let nothing : ℕ = 0 in
    (ap length b ∙ length-replicate size nothing, ap length t ∙ length-replicate (piece_count size) false, sym (ap missing_in t ∙ missing-replicate (piece_count size)), small)

pub begin-places : (size : ℕ) (bytes : List ℕ) (there : List Bool) → there ≡ replicate (piece_count size) false → places_at 0 there bytes ≡ replicate (piece_count size) None
begin-places size bytes there t = ap (λ b. places_at 0 b bytes) t ∙ places-none 0 (piece_count size) bytes

pub there-below : (size index count : ℕ) → count ≡ piece_count size → 192 * index < size → index < count
there-below size index count c within = omega (arith, c, within)

pub put-again : (g : Gathering) (p : PieceView) (piece : List ℕ) → slice_get g.places p.index ≡ Some (Some piece) → (let r : Gathered × Gathering = (gathered.Again, g) in r) ≡ put g p
put-again g p piece h = sym (ap (placed g p) h)

pub put-stored : (boot applied size missing index : ℕ) (bytes : List ℕ) (there : List Bool) (piece : List ℕ) → slice_get there index ≡ Some false → length bytes ≡ size → length there ≡ piece_count size → missing ≡ missing_in there
    → 192 * index < size → length piece ≡ piece_size size index
    → (let r : Gathered × Gathering = (
      if (missing - 1) == 0 then gathered.Whole else gathered.New,
      record { boot = boot; applied = applied; length = size; places = places_at 0 (slice_set there index true) (written (192 * index) bytes piece) },
    ) in r)
    ≡ put (record { boot = boot; applied = applied; length = size; places = places_at 0 there bytes }) (record { boot = boot; applied = applied; length = size; index = index; bytes = piece })
put-stored boot applied size missing index bytes there piece gone b t m within whole =
    let g : Gathering = record { boot = boot; applied = applied; length = size; places = places_at 0 there bytes } in
    let p : PieceView = record { boot = boot; applied = applied; length = size; index = index; bytes = piece } in
    let made : Bool → List (Option (List ℕ)) → Gathered × Gathering = λ all places. (if all then gathered.Whole else gathered.New, record g { places = places }) in
    let left : List Bool = slice_set there index true in
    let count : missing - 1 ≡ missing_in left = omega (arith, m, missing-set there index gone) in
    let same : places_at 0 left (written (192 * index) bytes piece) ≡ slice_set (places_at 0 there bytes) index (Some piece) =
    places-written there bytes piece index (there-below size index (length there) t within) (omega (arith, within, b)) (whole ∙ ap (λ n. piece_size n index) (sym b)) in
    let all : ((missing - 1) == 0) ≡ all_there (slice_set (places_at 0 there bytes) index (Some piece)) =
    ap (λ n. n == 0) count ∙ sym (all-there-is 0 left (written (192 * index) bytes piece)) ∙ ap all_there same in
    ap (λ q. made q (places_at 0 left (written (192 * index) bytes piece))) all
    ∙ ap (made (all_there (slice_set (places_at 0 there bytes) index (Some piece)))) same
    ∙ sym (ap (placed g p) (place-empty 0 there bytes index gone))

pub put-invariant : (size missing index : ℕ) (bytes : List ℕ) (there : List Bool) (piece : List ℕ) → slice_get there index ≡ Some false → length bytes ≡ size → length there ≡ piece_count size → missing ≡ missing_in there → size ≤ 2 ^ 26
    → 192 * index < size → length piece ≡ piece_size size index
    → (length (written (192 * index) bytes piece) ≡ size) × (length (slice_set there index true) ≡ piece_count size) × (missing - 1 ≡ missing_in (slice_set there index true)) × (size ≤ 2 ^ 26)
put-invariant size missing index bytes there piece gone b t m small within whole =
    let a : ℕ = 192 * index in
    let front : length (take a bytes) ≡ a = length-take-le a bytes (omega (arith, within, b)) in
    let tail : List ℕ = drop (length piece) (drop a bytes) in (
      omega (arith, length-append (take a bytes) (piece ++ tail), length-append piece tail, front, length-drop (length piece) (drop a bytes), length-drop a bytes, b, within, whole),
      length-set there index true ∙ t,
      omega (arith, m, missing-set there index gone),
      small,
    )

pub whole-is : (size missing : ℕ) (bytes : List ℕ) (there : List Bool) → length bytes ≡ size → length there ≡ piece_count size → missing ≡ missing_in there
    → (if missing == 0 then Some bytes else None) ≡ (if all_there (places_at 0 there bytes) then Some (joined (places_at 0 there bytes)) else None)
whole-is size missing bytes there b t m =
    let none : Option (List ℕ) = None in
    let all : all_there (places_at 0 there bytes) ≡ (missing == 0) = all-there-is 0 there bytes ∙ ap (λ n. n == 0) (sym m) in
    elim (cases_Bool (missing == 0)) [
      | inl yes0 ↦
          let zero0 : missing ≡ 0 = eqb-true missing 0 yes0 in
          let same : joined (places_at 0 there bytes) ≡ bytes = joined-whole there bytes (sym m ∙ zero0) (omega (arith, b, t)) in
          cond-true (missing == 0) (Some bytes) none yes0 ∙ ap Some (sym same) ∙ sym (cond-true (all_there (places_at 0 there bytes)) (Some (joined (places_at 0 there bytes))) none (all ∙ yes0))
      | inr no0 ↦ cond-false (missing == 0) (Some bytes) none no0 ∙ sym (cond-false (all_there (places_at 0 there bytes)) (Some (joined (places_at 0 there bytes))) none (all ∙ no0))
    ]
