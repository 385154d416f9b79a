-- A base is read from its own bytes and from no others.
use Rattle.std.proofs.Common.{◌≡◌, ℕ, ◌-◌, ◌^◌, Bool, true, false, cond, eqb, ltb, List, [], ◌∷◌, ◌++◌, length, take, Option, Some, None, Ok, Err, refl, sym, ap, subst, ◌∙◌, arith, length-append, eq-eqb}
use Rattle.std.specs.Prelude.{◌&&◌, ℤ, nat_eq, nat_le, IfSome, IsTrue}
use Rattle.std.specs.Int.{w16, w32, w64}
use Rattle.std.specs.Cmp.Lexicographic.{pointwise, bytes_decides}
use Rattle.std.proofs.lemmas.Bool.{eqb-true, leb-true, lt-ltb}
use Rattle.std.proofs.lemmas.List.{take_at, length-take-le}
use Rattle.sha2.specs.Sha256.{sha256}
use Rattle.sha2.proofs.Facts256.{length-sha256}
use Rattle.byte_codec.specs.Codec.{Codec, ◌>>?◌, all_fit, byte, fixed, many_at, number, pair}
use Rattle.byte_codec.specs.Exact.{IsBytes, IsExact}
use Rattle.byte_codec.proofs.Laws.{both, and_true, some_is, byte_exact, depends_exact, fixed_exact, named_exact, number_exact, pair_exact, wide32, wide64}
use Rattle.byte_codec.proofs.LawsOfLists.{times_exact}
use Rattle.x3d_values.specs.Ranges.{is_input_time, max_inputs}
use Rattle.share_rules.specs.declared.kept.SeatCount.{SeatCount}
use Rattle.share_wire.proofs.FieldLaws.{time-signed}
use Rattle.share_entries.specs.declared.frame.FrameFault.TheVariants.{BadKind}
use Rattle.share_entries.specs.Entry.{EntryView, time_codec}
use Rattle.share_entries.specs.Frame.{frame_in, framed, front_codec}
use Rattle.share_entries.specs.Head.{is_viewer_count, sum_of}
use Rattle.share_entries.specs.Base.{BaseView, BaseParts, seat_codec, base_fields, parts_of, base_text, is_base_number, in_ranges, base_fits, base_with, base_of, base_in, begins_base}
use Rattle.share_entries.proofs.EntryLaws.{time_exact}

seat_exact : IsExact seat_codec
unfolding seat_codec
seat_exact = named_exact (λ (t : ℕ × ℕ). let k : SeatCount = record { boot = t.0; count = t.1 } in k) (λ k. (k.boot, k.count)) _ (λ a. refl) (λ b. refl) (pair_exact _ _ (number_exact w32 wide32) (number_exact w32 wide32))

fields_exact : IsExact base_fields
unfolding base_fields
fields_exact = pair_exact _ _ byte_exact (pair_exact _ _ (depends_exact _ _ byte_exact (λ n. times_exact n seat_codec seat_exact)) (pair_exact _ _ (number_exact w64 wide64) (pair_exact _ _ time_exact (pair_exact _ _ (fixed_exact 16) (fixed_exact 32)))))

abbrev pub PartsRead : Type 0
PartsRead = Option (BaseParts × List ℕ)

abbrev pub some : {A : Type 0} → A → Option A
some x = Some x

-- ---- what is read was written so

some_if : {A : Type 0} (b : Bool) (x y : A) → cond b (some x) None ≡ some y → (b ≡ true) × (x ≡ y)
some_if true x y e = (refl, some_is x y e)
some_if false x y e = absurd cc

-- what the tests of a base say of the parts
record Passed (bytes : List ℕ) (r : PartsRead) (b : BaseView) : Type 0 where
  pub parts : BaseParts
  pub sum : List ℕ
  pub read : r ≡ Some (parts, sum)
  pub ranges : in_ranges parts ≡ true
  pub summed : sum ≡ sum_of (take (length bytes - 8) bytes)
  pub made : base_with parts ≡ b

passed : (bytes : List ℕ) (r : PartsRead) (b : BaseView) → base_of bytes r ≡ Some b → Passed bytes r b
passed bytes None b e = absurd cc
passed bytes (Some x) b e =
    let sum = sum_of (take (length bytes - 8) bytes) in
    let t = some_if (in_ranges x.0 && pointwise nat_eq x.1 sum) (base_with x.0) b e in
    let s = both (in_ranges x.0) (pointwise nat_eq x.1 sum) t.0 in
    record {
      parts = x.0;
      sum = x.1;
      read = refl;
      ranges = s.0;
      summed = (bytes_decides x.1 sum).0 s.1;
      made = t.1;
    }

abbrev Ends : Type 0
Ends = ℕ × (ℤ × (List ℕ × List ℕ))

abbrev parts_with : ℕ → ℕ → List SeatCount → Ends → BaseParts
parts_with kind n kept ends = (kind, ((n, kept), ends))

plain : (p : BaseParts) → in_ranges p ≡ true → base_fields.fits p ≡ true → p ≡ parts_of (base_with p)
unfolding base_fields
plain p ranges fits =
    let r = both (eqb p.0 1 && is_viewer_count p.1.0.0) (is_base_number p.1.1.0) ranges in
    let k = both (eqb p.0 1) (is_viewer_count p.1.0.0) r.0 in
    let f = both (ltb p.0 256) _ fits in
    let g = both (ltb p.1.0.0 256 && (eqb (length p.1.0.1) p.1.0.0 && all_fit seat_codec p.1.0.1)) _ f.1 in
    let h = both (ltb p.1.0.0 256) (eqb (length p.1.0.1) p.1.0.0 && all_fit seat_codec p.1.0.1) g.0 in
    let l = both (eqb (length p.1.0.1) p.1.0.0) (all_fit seat_codec p.1.0.1) h.1 in
    ap (λ (z : ℕ). parts_with z p.1.0.0 p.1.0.1 p.1.1) (eqb-true p.0 1 k.0)
    ∙ ap (λ (z : ℕ). parts_with 1 z p.1.0.1 p.1.1) (sym (eqb-true (length p.1.0.1) p.1.0.0 l.0))

sum_len : (bytes : List ℕ) → length (sum_of bytes) ≡ 8
sum_len bytes = length-take-le 8 (sha256 bytes) (omega (arith, length-sha256 bytes))

front_is : (front sum : List ℕ) → length sum ≡ 8 → take (length (front ++ sum) - 8) (front ++ sum) ≡ front
front_is front sum eight = take_at front sum (length (front ++ sum) - 8) (omega (arith, eight, length-append front sum))

pub base_takes : (bytes : List ℕ) (b : BaseView) → IsBytes bytes → base_in bytes ≡ Some b → (bytes ≡ base_text b) × (base_fits b ≡ true)
unfolding base_in
base_takes bytes b is e =
    let p = passed bytes (base_fields.read bytes) b e in
    let t = fields_exact.takes bytes p.parts p.sum is p.read in
    let front = base_fields.write p.parts in
    let same : p.parts ≡ parts_of b = plain p.parts p.ranges t.valid ∙ ap (λ (z : BaseView). parts_of z) p.made in
    let eight : length p.sum ≡ 8 = ap length p.summed ∙ sum_len (take (length bytes - 8) bytes) in
    let before : take (length bytes - 8) bytes ≡ front = ap (λ (z : List ℕ). take (length z - 8) z) t.parts ∙ front_is front p.sum eight in
    let sum : p.sum ≡ sum_of front = p.summed ∙ ap (λ (z : List ℕ). sum_of z) before in (
      t.parts ∙ ap (λ (s : List ℕ). front ++ s) sum ∙ ap (λ (q : BaseParts). base_fields.write q ++ sum_of (base_fields.write q)) same,
      and_true _ _ (subst (λ (q : BaseParts). base_fields.fits q ≡ true) same t.valid) (subst (λ (q : BaseParts). in_ranges q ≡ true) same p.ranges),
    )

pub base_found : (bytes : List ℕ) (r : Option BaseView) → IsBytes bytes → r ≡ base_in bytes → IfSome r (λ b. (bytes ≡ base_text b) × IsTrue (base_fits b))
base_found bytes None is e = tt
base_found bytes (Some b) is e = base_takes bytes b is (sym e)

-- ---- what is written is read again

taken : {A : Type 0} (b : Bool) (x : A) → b ≡ true → cond b (some x) None ≡ some x
taken b x e = rw e refl

pub base_again : (b : BaseView) → base_fits b ≡ true → base_in (base_text b) ≡ Some b
unfolding base_in
base_again b fits =
    let a = both (base_fields.fits (parts_of b)) (in_ranges (parts_of b)) fits in
    let front = base_fields.write (parts_of b) in
    let sum = sum_of front in
    let bytes = base_text b in
    let summed : sum ≡ sum_of (take (length bytes - 8) bytes) = ap (λ (z : List ℕ). sum_of z) (sym (front_is front sum (sum_len front))) in
    ap (λ (r : PartsRead). base_of bytes r) (fields_exact.again (parts_of b) sum a.0)
    ∙ taken (in_ranges (parts_of b) && pointwise nat_eq sum (sum_of (take (length bytes - 8) bytes))) b
    (and_true _ _ a.1 ((bytes_decides sum (sum_of (take (length bytes - 8) bytes))).1 summed))

-- a base whose parts are in their ranges
pub whole_base : (b : BaseView) → is_viewer_count (length b.kept) ≡ true → all_fit seat_codec b.kept ≡ true → is_base_number b.number ≡ true → is_input_time b.time ≡ true → length b.chain ≡ 16 → length b.snapshot ≡ 32 → base_fits b ≡ true
unfolding base_fields time_codec
whole_base b viewers fit number time chain snapshot =
    let n = length b.kept in
    let v = both (nat_le 1 n) (nat_le n 64) viewers in
    let m = both (nat_le 1 b.number) (nat_le b.number max_inputs) number in
    let few : ltb n 256 ≡ true = lt-ltb n 256 (omega (arith, leb-true n 64 v.1)) in
    let low : ltb b.number (2 ^ 64) ≡ true = lt-ltb b.number (2 ^ 64) (omega (arith, leb-true b.number 281474976710655 m.1)) in
    let kept : (ltb n 256 && (eqb n n && all_fit seat_codec b.kept)) ≡ true = and_true _ _ few (and_true _ _ (eq-eqb n n refl) fit) in
    let ends = and_true _ _ low (and_true _ _ (and_true _ _ time (time-signed b.time time)) (and_true _ _ (eq-eqb (length b.chain) 16 chain) (eq-eqb (length b.snapshot) 32 snapshot))) in
    and_true _ _ (and_true _ _ kept ends) (and_true _ _ viewers number)

-- ---- the parts, one after the other

abbrev pub ends_codec : Codec Ends
ends_codec = pair (number w64) (pair time_codec (pair (fixed 16) (fixed 32)))

abbrev with_ends : ℕ → ℕ → List SeatCount → Option (Ends × List ℕ) → PartsRead
with_ends kind n kept None = None
with_ends kind n kept (Some e) = Some ((kind, ((n, kept), e.0)), e.1)

abbrev with_seats : ℕ → ℕ → Option (List SeatCount × List ℕ) → PartsRead
with_seats kind n None = None
with_seats kind n (Some k) = with_ends kind n k.0 (ends_codec.read k.1)

abbrev with_count : ℕ → Option (ℕ × List ℕ) → PartsRead
with_count kind None = None
with_count kind (Some c) = with_seats kind c.0 (many_at seat_codec c.0 c.1)

abbrev with_kind : Option (ℕ × List ℕ) → PartsRead
with_kind None = None
with_kind (Some k) = with_count k.0 (byte.read k.1)

abbrev put_kind : ℕ → ((ℕ × List SeatCount) × Ends) × List ℕ → PartsRead
put_kind kind y = Some ((kind, y.0), y.1)

abbrev put_ends : ℕ × List SeatCount → Ends × List ℕ → Option (((ℕ × List SeatCount) × Ends) × List ℕ)
put_ends k y = Some ((k, y.0), y.1)

abbrev put_seats : ℕ → List SeatCount × List ℕ → Option ((ℕ × List SeatCount) × List ℕ)
put_seats n y = Some ((n, y.0), y.1)

abbrev behind_seats : (ℕ × List SeatCount) × List ℕ → Option (((ℕ × List SeatCount) × Ends) × List ℕ)
behind_seats x = ends_codec.read x.1 >>? put_ends x.0

ends_same : (kind n : ℕ) (kept : List SeatCount) (o : Option (Ends × List ℕ)) → ((o >>? put_ends (n, kept)) >>? put_kind kind) ≡ with_ends kind n kept o
ends_same kind n kept None = refl
ends_same kind n kept (Some e) = refl

seats_same : (kind n : ℕ) (o : Option (List SeatCount × List ℕ)) → (((o >>? put_seats n) >>? behind_seats) >>? put_kind kind) ≡ with_seats kind n o
seats_same kind n None = refl
seats_same kind n (Some k) = ends_same kind n k.0 (ends_codec.read k.1)

read_is : (bytes : List ℕ) → base_fields.read bytes ≡ with_kind (byte.read bytes)
unfolding base_fields
read_is [] = refl
read_is (kind ∷ []) = refl
read_is (kind ∷ n ∷ rest) = seats_same kind n (many_at seat_codec n rest)

base_is : (bytes : List ℕ) → base_in bytes ≡ base_of bytes (with_kind (byte.read bytes))
unfolding base_in
base_is bytes = ap (λ (r : PartsRead). base_of bytes r) (read_is bytes)

pub no_kind : (bytes : List ℕ) → byte.read bytes ≡ None → base_in bytes ≡ None
no_kind bytes e = base_is bytes ∙ ap (λ (o : Option (ℕ × List ℕ)). base_of bytes (with_kind o)) e

refused : (b c d : Bool) (x : BaseView) → b ≡ false → cond ((b && c) && d) (some x) None ≡ None
refused b c d x e = rw e refl

refused_ends : (bytes : List ℕ) (kind n : ℕ) (kept : List SeatCount) (o : Option (Ends × List ℕ)) → (eqb kind 1 && is_viewer_count n) ≡ false → base_of bytes (with_ends kind n kept o) ≡ None
refused_ends bytes kind n kept None e = refl
refused_ends bytes kind n kept (Some x) e = refused (eqb kind 1 && is_viewer_count n) (is_base_number x.0.0) (pointwise nat_eq x.1 (sum_of (take (length bytes - 8) bytes))) (base_with (kind, ((n, kept), x.0))) e

refused_seats : (bytes : List ℕ) (kind n : ℕ) (o : Option (List SeatCount × List ℕ)) → (eqb kind 1 && is_viewer_count n) ≡ false → base_of bytes (with_seats kind n o) ≡ None
refused_seats bytes kind n None e = refl
refused_seats bytes kind n (Some k) e = refused_ends bytes kind n k.0 (ends_codec.read k.1) e

and_step : (a b c : Bool) (x : BaseView) → a ≡ true → cond ((a && b) && c) (some x) None ≡ cond (b && c) (some x) None
and_step a b c x e = rw e refl

module _ (bytes behind : List ℕ) (kind : ℕ) (kinded : byte.read bytes ≡ Some (kind, behind)) where
  at_kind : base_in bytes ≡ base_of bytes (with_count kind (byte.read behind))
  at_kind = base_is bytes ∙ ap (λ (o : Option (ℕ × List ℕ)). base_of bytes (with_kind o)) kinded

  pub no_count : byte.read behind ≡ None → base_in bytes ≡ None
  no_count e = at_kind ∙ ap (λ (o : Option (ℕ × List ℕ)). base_of bytes (with_count kind o)) e

  module _ (n : ℕ) (rest : List ℕ) (counted : byte.read behind ≡ Some (n, rest)) where
    at_count : base_in bytes ≡ base_of bytes (with_seats kind n (many_at seat_codec n rest))
    at_count = at_kind ∙ ap (λ (o : Option (ℕ × List ℕ)). base_of bytes (with_count kind o)) counted

    pub other_kind : (eqb kind 1 && is_viewer_count n) ≡ false → base_in bytes ≡ None
    other_kind e = at_count ∙ refused_seats bytes kind n (many_at seat_codec n rest) e

    pub no_seats : many_at seat_codec n rest ≡ None → base_in bytes ≡ None
    no_seats e = at_count ∙ ap (λ (o : Option (List SeatCount × List ℕ)). base_of bytes (with_seats kind n o)) e

    module _ (kept : List SeatCount) (after : List ℕ) (seated : many_at seat_codec n rest ≡ Some (kept, after)) where
      at_seats : base_in bytes ≡ base_of bytes (with_ends kind n kept (ends_codec.read after))
      at_seats = at_count ∙ ap (λ (o : Option (List SeatCount × List ℕ)). base_of bytes (with_seats kind n o)) seated

      pub no_ends : ends_codec.read after ≡ None → base_in bytes ≡ None
      no_ends e = at_seats ∙ ap (λ (o : Option (Ends × List ℕ)). base_of bytes (with_ends kind n kept o)) e

      module _ (ends : Ends) (sum : List ℕ) (ended : ends_codec.read after ≡ Some (ends, sum)) (begins : (eqb kind 1 && is_viewer_count n) ≡ true) where
        at_ends : base_in bytes ≡ cond (is_base_number ends.0 && pointwise nat_eq sum (sum_of (take (length bytes - 8) bytes))) (some (base_with (kind, ((n, kept), ends)))) None
        at_ends = at_seats ∙ ap (λ (o : Option (Ends × List ℕ)). base_of bytes (with_ends kind n kept o)) ended
            ∙ and_step (eqb kind 1 && is_viewer_count n) (is_base_number ends.0) (pointwise nat_eq sum (sum_of (take (length bytes - 8) bytes))) (base_with (kind, ((n, kept), ends))) begins

        pub unsealed : (is_base_number ends.0 && pointwise nat_eq sum (sum_of (take (length bytes - 8) bytes))) ≡ false → base_in bytes ≡ None
        unsealed e = at_ends ∙ ap (λ (b : Bool). cond b (some (base_with (kind, ((n, kept), ends)))) None) e

        pub sealed : (is_base_number ends.0 && pointwise nat_eq sum (sum_of (take (length bytes - 8) bytes))) ≡ true → base_in bytes ≡ Some (base_with (kind, ((n, kept), ends)))
        sealed e = at_ends ∙ ap (λ (b : Bool). cond b (some (base_with (kind, ((n, kept), ends)))) None) e

-- ---- a payload that begins as a base does is no frame

abbrev put_front : ℕ → (ℕ × ℕ) × List ℕ → Option ((ℕ × (ℕ × ℕ)) × List ℕ)
put_front kind y = Some ((kind, y.0), y.1)

other_front : (before : List ℕ) (first : ℕ) (kind : ℕ) (o : Option ((ℕ × ℕ) × List ℕ)) (es : List EntryView) → eqb kind 1 ≡ true → framed before first (o >>? put_front kind) ≡ Ok es → ⊥
other_front before first kind None es e is = cc
other_front before first kind (Some x) es e is =
    let one : kind ≡ 1 = eqb-true kind 1 e in
    let wrong : Err BadKind ≡ Ok es = subst (λ (k : ℕ). framed before first (Some ((k, x.0), x.1)) ≡ Ok es) one is in
    cc

pub not_framed : (before : List ℕ) (first : ℕ) (payload : List ℕ) (es : List EntryView) → begins_base payload ≡ true → frame_in before first payload ≡ Ok es → ⊥
unfolding frame_in front_codec
not_framed before first [] es e is = cc
not_framed before first (kind ∷ rest) es e is = other_front before first kind ((pair (number w16) (number w64)).read rest) es e is

pub text_begins : (b : BaseView) → begins_base (base_text b) ≡ true
unfolding base_fields
text_begins b = refl
