-- A head is read from its own bytes and from no others.
use Rattle.std.proofs.Common.{◌≡◌, ℕ, true, eqb, ltb, List, [], ◌∷◌, ◌++◌, length, take, Option, Some, None, Result, Ok, Err, refl, sym, ap, subst, ◌∙◌, arith, length-append}
use Rattle.std.specs.Prelude.{◌≤◌, ◌&&◌, nat_eq, nat_le, codes, IfOk, IfSome, IsTrue}
use Rattle.std.specs.Option.{option_map}
use Rattle.std.specs.Cmp.Lexicographic.{pointwise, bytes_decides}
use Rattle.std.proofs.lemmas.Bool.{eqb-true, leb-true, lt-ltb}
use Rattle.std.proofs.lemmas.List.{take_at}
use Rattle.byte_codec.specs.Exact.{IsBytes, IsExact}
use Rattle.byte_codec.proofs.Laws.{both, and_true, byte_exact, fixed_exact, pair_exact}
use Rattle.share_entries.specs.declared.head.Head.{Head}
use Rattle.share_entries.specs.declared.head.HeadFault.{HeadFault}
use Rattle.share_entries.specs.declared.head.HeadFault.TheVariants.{BadMagic, BadVersion, BadSum, BadViewers}
use Rattle.share_entries.specs.Head.{HeadParts, head_fields, parts_of, sum_of, head_text, is_viewer_count, has_viewers, head_with, head_of, head_in, head_fits}
use Rattle.share_entries.proofs.Tests.{ok_is, tested}

fields_exact : IsExact head_fields
unfolding head_fields
fields_exact = pair_exact _ _ (fixed_exact 4) (pair_exact _ _ byte_exact (pair_exact _ _ byte_exact (pair_exact _ _ (fixed_exact 2) (pair_exact _ _ (fixed_exact 32) (fixed_exact 16)))))

abbrev PartsRead : Type 0
PartsRead = Option (HeadParts × List ℕ)

abbrev parts_with : List ℕ → ℕ → ℕ → List ℕ → List ℕ → List ℕ → HeadParts
parts_with magic version viewers pad mark run = (magic, (version, (viewers, (pad, (mark, run)))))

-- what the tests of a head say of the parts
record Passed (bytes : List ℕ) (r : PartsRead) (h : Head) : Type 0 where
  pub sum : List ℕ
  pub read : r ≡ Some (parts_of h, sum)
  pub summed : sum ≡ sum_of (take 56 bytes)
  pub viewers : is_viewer_count h.viewers ≡ true

passed : (bytes : List ℕ) (r : PartsRead) (h : Head) → head_of bytes r ≡ Ok h → Passed bytes r h
passed bytes None h e = absurd cc
passed bytes (Some x) h e =
    let p = x.0 in
    let m = tested (pointwise nat_eq p.0 (codes "X3DL")) _ BadMagic h e in
    let v = tested (eqb p.1.0 1) _ BadVersion h m.1 in
    let s = tested (pointwise nat_eq x.1 (sum_of (take 56 bytes))) _ BadSum h v.1 in
    let w = tested (has_viewers p) (Ok (head_with p)) BadViewers h s.1 in
    let n = both (is_viewer_count p.1.1.0) (pointwise nat_eq p.1.1.1.0 (0 ∷ 0 ∷ [])) w.0 in
    let magic : p.0 ≡ codes "X3DL" = (bytes_decides p.0 (codes "X3DL")).0 m.0 in
    let version : p.1.0 ≡ 1 = eqb-true p.1.0 1 v.0 in
    let pad : p.1.1.1.0 ≡ 0 ∷ 0 ∷ [] = (bytes_decides p.1.1.1.0 (0 ∷ 0 ∷ [])).0 n.1 in
    let same : head_with p ≡ h = ok_is (head_with p) h w.1 in
    let plain : p ≡ parts_of (head_with p) =
    ap (λ (z : List ℕ). parts_with z p.1.0 p.1.1.0 p.1.1.1.0 p.1.1.1.1.0 p.1.1.1.1.1) magic
    ∙ ap (λ (z : ℕ). parts_with (codes "X3DL") z p.1.1.0 p.1.1.1.0 p.1.1.1.1.0 p.1.1.1.1.1) version
    ∙ ap (λ (z : List ℕ). parts_with (codes "X3DL") 1 p.1.1.0 z p.1.1.1.1.0 p.1.1.1.1.1) pad in
    let P : Head → Type 0 = λ z. is_viewer_count z.viewers ≡ true in
    record {
      sum = x.1;
      read = ap (λ (z : HeadParts). let r : PartsRead = Some (z, x.1) in r) (plain ∙ ap (λ (z : Head). parts_of z) same);
      summed = (bytes_decides x.1 (sum_of (take 56 bytes))).0 s.0;
      viewers = subst P same n.0;
    }

fits_len : (p : HeadParts) → head_fields.fits p ≡ true → length (head_fields.write p) ≡ 56
unfolding head_fields
fits_len p e =
    let a = both (eqb (length p.0) 4) _ e in
    let b = both (ltb p.1.0 256) _ a.1 in
    let c = both (ltb p.1.1.0 256) _ b.1 in
    let d = both (eqb (length p.1.1.1.0) 2) _ c.1 in
    let f = both (eqb (length p.1.1.1.1.0) 32) (eqb (length p.1.1.1.1.1) 16) d.1 in
    let mark = p.1.1.1.1.0 in
    let run = p.1.1.1.1.1 in
    let pad = p.1.1.1.0 in
    omega (
      arith,
      eqb-true _ _ a.0,
      eqb-true _ _ d.0,
      eqb-true _ _ f.0,
      eqb-true _ _ f.1,
      length-append p.0 (p.1.0 ∷ p.1.1.0 ∷ (pad ++ (mark ++ run))),
      length-append pad (mark ++ run),
      length-append mark run,
    )

-- parts that were read take 56 bytes
pub parts_long : {B : Type 0} (r : Option B) (view : B → HeadParts × List ℕ) (bytes : List ℕ) → IsBytes bytes → option_map view r ≡ head_fields.read bytes → IfSome r (λ x. 56 ≤ length bytes)
parts_long None view bytes h e = tt
parts_long (Some x) view bytes h e =
    let p = (view x).0 in
    let rest = (view x).1 in
    let t = fields_exact.takes bytes p rest h (sym e) in
    let len : length bytes ≡ length (head_fields.write p ++ rest) = ap (λ (b : List ℕ). length b) t.parts in
    omega (arith, len, length-append (head_fields.write p) rest, fits_len p t.valid)

parts_lens : (h : Head) → head_fields.fits (parts_of h) ≡ true → (eqb (length h.mark) 32 ≡ true) × (eqb (length h.run) 16 ≡ true)
unfolding head_fields
parts_lens h e =
    let c = both (ltb h.viewers 256) (eqb (length h.mark) 32 && eqb (length h.run) 16) e in
    both (eqb (length h.mark) 32) (eqb (length h.run) 16) c.1

parts_fit : (h : Head) → head_fits h ≡ true → head_fields.fits (parts_of h) ≡ true
unfolding head_fields
parts_fit h e =
    let a = both (is_viewer_count h.viewers && eqb (length h.mark) 32) (eqb (length h.run) 16) e in
    let b = both (is_viewer_count h.viewers) (eqb (length h.mark) 32) a.0 in
    let c = both (nat_le 1 h.viewers) (nat_le h.viewers 64) b.0 in
    let small : ltb h.viewers 256 ≡ true = lt-ltb h.viewers 256 (omega (arith, leb-true h.viewers 64 c.1)) in
    and_true _ _ small (and_true _ _ b.1 a.1)

front_is : (h : Head) → head_fields.fits (parts_of h) ≡ true → (sum : List ℕ) → take 56 (head_fields.write (parts_of h) ++ sum) ≡ head_fields.write (parts_of h)
front_is h fits sum = take_at (head_fields.write (parts_of h)) sum 56 (fits_len (parts_of h) fits)

pub head_takes : (bytes : List ℕ) (h : Head) → IsBytes bytes → head_in bytes ≡ Ok h → (bytes ≡ head_text h) × (head_fits h ≡ true)
unfolding head_in
head_takes bytes h is e =
    let p = passed bytes (head_fields.read bytes) h e in
    let t = fields_exact.takes bytes (parts_of h) p.sum is p.read in
    let front : take 56 bytes ≡ head_fields.write (parts_of h) = ap (λ (b : List ℕ). take 56 b) t.parts ∙ front_is h t.valid p.sum in
    let sum : p.sum ≡ sum_of (head_fields.write (parts_of h)) = p.summed ∙ ap (λ (b : List ℕ). sum_of b) front in
    let l = parts_lens h t.valid in
    (t.parts ∙ ap (λ (s : List ℕ). head_fields.write (parts_of h) ++ s) sum, and_true _ _ (and_true _ _ p.viewers l.0) l.1)

head_of_again : (bytes : List ℕ) (h : Head) (sum : List ℕ) → is_viewer_count h.viewers ≡ true → sum ≡ sum_of (take 56 bytes) → head_of bytes (Some (parts_of h, sum)) ≡ Ok h
head_of_again bytes h sum viewers e =
    rw ((bytes_decides sum (sum_of (take 56 bytes))).1 e, viewers) refl

pub head_again : (h : Head) → head_fits h ≡ true → head_in (head_text h) ≡ Ok h
unfolding head_in
head_again h fits =
    let a = both (is_viewer_count h.viewers && eqb (length h.mark) 32) (eqb (length h.run) 16) fits in
    let b = both (is_viewer_count h.viewers) (eqb (length h.mark) 32) a.0 in
    let front = head_fields.write (parts_of h) in
    let whole = parts_fit h fits in
    let bytes = head_text h in
    ap (λ (r : PartsRead). head_of bytes r) (fields_exact.again (parts_of h) (sum_of front) whole)
    ∙ head_of_again bytes h (sum_of front) b.0 (ap (λ (f : List ℕ). sum_of f) (sym (front_is h whole (sum_of front))))

pub head_found : (bytes : List ℕ) (r : Result Head HeadFault) → IsBytes bytes → r ≡ head_in bytes → IfOk r (λ h. (bytes ≡ head_text h) × IsTrue (head_fits h))
head_found bytes (Ok h) is e = head_takes bytes h is (sym e)
head_found bytes (Err f) is e = tt
