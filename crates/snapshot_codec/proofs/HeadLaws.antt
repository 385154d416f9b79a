-- A snapshot is opened to its body, and what is opened is a snapshot with that body.
use Rattle.std.proofs.Common.{◌≡◌, ℕ, suc, ◌+◌, ◌-◌, ◌≤◌, Bool, true, false, cond, eqb, ltb, List, [], ◌∷◌, ◌++◌, length, take, drop, Option, Some, None, Result, Ok, Err, refl, sym, ap, ◌∙◌, append_assoc, arith, eq-eqb}
use Rattle.std.specs.Prelude.{IfOk, ℤ, codes, nat_eq, slice_range, slice_index}
use Rattle.std.specs.Int.{w32}
use Rattle.std.specs.Result.{result_map_both}
use Rattle.std.specs.Cmp.Lexicographic.{pointwise, bytes_decides}
use Rattle.std.proofs.lemmas.Bool.{eqb-true, ltb-false, le-ltb}
use Rattle.std.proofs.lemmas.List.{take_at, drop_at, take-append-drop, take-take, drop-take, length-append}
use Rattle.sha2.specs.Sha256.{sha256}
use Rattle.sha2.proofs.Facts256.{length-sha256}
use Rattle.byte_codec.specs.Exact.{IsExact}
use Rattle.byte_codec.proofs.Laws.{named_exact, pair_exact, number_exact, wide32}
use Rattle.snapshot_codec.specs.declared.head.HeadFault.{HeadFault}
use Rattle.snapshot_codec.specs.declared.head.HeadFault.TheVariants.{Short, BadMagic, BadVersion, WrongScene, BadDigest}
use Rattle.snapshot_codec.specs.declared.head.Progress.{Progress}
use Rattle.snapshot_codec.specs.declared.input_number.Numbers.{Numbers}
use Rattle.snapshot_codec.specs.Head.{progress_codec, front, sealed, snapshot, unsealed, head_fault, body_or, opened}
use Rattle.snapshot_codec.proofs.InputLaws.{applied_exact}
use Rattle.snapshot_codec.proofs.TraceLaws.{moment_exact}

pub progress_exact : (numbers : Numbers) → IsExact (progress_codec numbers)
unfolding progress_codec
progress_exact numbers = named_exact (λ (t : ℕ × (ℕ × ℤ)). let p : Progress = record { boot = t.0; applied = t.1.0; last_time = t.1.1 } in p) (λ p. (p.boot, (p.applied, p.last_time))) _ (λ a. refl) (λ b. refl)
    (pair_exact _ _ (number_exact w32 wide32) (pair_exact _ _ (applied_exact numbers) moment_exact))

-- ---- the tests, one after the other

abbrev verdict : Bool → Bool → Bool → Bool → Bool → Option HeadFault
verdict short magic version scene digest =
    cond short (Some Short) (cond magic (cond version (cond scene (cond digest None (Some BadDigest)) (Some WrongScene)) (Some BadVersion)) (Some BadMagic))

passed : (a b c d e : Bool) → verdict a b c d e ≡ None → (a ≡ false) × (b ≡ true) × (c ≡ true) × (d ≡ true) × (e ≡ true)
passed true b c d e h = absurd cc
passed false false c d e h = absurd cc
passed false true false d e h = absurd cc
passed false true true false e h = absurd cc
passed false true true true false h = absurd cc
passed false true true true true h = (refl, refl, refl, refl, refl)

passes : (a b c d e : Bool) → a ≡ false → b ≡ true → c ≡ true → d ≡ true → e ≡ true → verdict a b c d e ≡ None
passes a b c d e p q r s t = rw (p, q, r, s, t) refl

-- ---- what is opened

cut : (a b : ℕ) (xs : List ℕ) → take (a + b) xs ≡ take a xs ++ take b (drop a xs)
cut a b xs = sym (take-append-drop a (take (a + b) xs)) ∙ rw (take-take a (a + b) xs (omega arith), drop-take a b xs) refl

front_is : (b0 b1 b2 b3 b4 : ℕ) (rest : List ℕ) (version : ℕ) (mark : List ℕ) (n j : ℕ) → (b0 ∷ b1 ∷ b2 ∷ b3 ∷ []) ≡ codes "X3DW" → b4 ≡ version → take 32 rest ≡ mark → n ≡ suc (suc (suc (suc (suc (32 + j))))) → take n (b0 ∷ b1 ∷ b2 ∷ b3 ∷ b4 ∷ rest) ≡ front version mark ++ take j (drop 32 rest)
front_is b0 b1 b2 b3 b4 rest version mark n j m v k e =
    ap (λ (i : ℕ). take i (b0 ∷ b1 ∷ b2 ∷ b3 ∷ b4 ∷ rest)) e
    ∙ ap (λ (t : List ℕ). b0 ∷ b1 ∷ b2 ∷ b3 ∷ b4 ∷ t) (cut 32 j rest)
    ∙ ap (λ (h : List ℕ). h ++ b4 ∷ (take 32 rest ++ take j (drop 32 rest))) m
    ∙ ap (λ (i : ℕ). codes "X3DW" ++ i ∷ (take 32 rest ++ take j (drop 32 rest))) v
    ∙ ap (λ (h : List ℕ). codes "X3DW" ++ version ∷ (h ++ take j (drop 32 rest))) k

body-found : (version : ℕ) (mark bytes : List ℕ) → 85 ≤ length bytes → slice_range bytes 0 4 ≡ codes "X3DW" → slice_index bytes 4 ≡ version → slice_range bytes 5 37 ≡ mark → unsealed bytes ≡ front version mark ++ slice_range bytes 37 (length bytes - 32)
body-found version mark (b0 ∷ b1 ∷ b2 ∷ b3 ∷ b4 ∷ rest) long m v k =
    let bytes : List ℕ = b0 ∷ b1 ∷ b2 ∷ b3 ∷ b4 ∷ rest in
    front_is b0 b1 b2 b3 b4 rest version mark (length bytes - 32) (length bytes - 32 - 37) m v k (omega arith)
body-found version mark [] long m v k = absurd (omega arith)
body-found version mark (b0 ∷ []) long m v k = absurd (omega arith)
body-found version mark (b0 ∷ b1 ∷ []) long m v k = absurd (omega arith)
body-found version mark (b0 ∷ b1 ∷ b2 ∷ []) long m v k = absurd (omega arith)
body-found version mark (b0 ∷ b1 ∷ b2 ∷ b3 ∷ []) long m v k = absurd (omega arith)

opens : (version : ℕ) (mark bytes : List ℕ) → head_fault version mark bytes ≡ None → bytes ≡ snapshot version mark (slice_range bytes 37 (length bytes - 32))
opens version mark bytes h =
    let n = length bytes - 32 in
    let p = passed (ltb (length bytes) 85) (pointwise nat_eq (slice_range bytes 0 4) (codes "X3DW")) (eqb (slice_index bytes 4) version) (pointwise nat_eq (slice_range bytes 5 37) mark) (pointwise nat_eq (drop n bytes) (sha256 (unsealed bytes))) h in
    let m = (bytes_decides (slice_range bytes 0 4) (codes "X3DW")).0 p.1 in
    let v = eqb-true (slice_index bytes 4) version p.2 in
    let k = (bytes_decides (slice_range bytes 5 37) mark).0 p.3 in
    let d = (bytes_decides (drop n bytes) (sha256 (unsealed bytes))).0 p.4 in
    let u = body-found version mark bytes (ltb-false _ _ p.0) m v k in
    sym (take-append-drop n bytes) ∙ ap (λ (t : List ℕ). unsealed bytes ++ t) d ∙ ap sealed u

found_by : (version : ℕ) (mark bytes body : List ℕ) (f : Option HeadFault) → head_fault version mark bytes ≡ f → body_or bytes f ≡ Ok body → bytes ≡ snapshot version mark body
found_by version mark bytes body None h e =
    opens version mark bytes h ∙ ap (λ (b : List ℕ). snapshot version mark b) (ok_is (slice_range bytes 37 (length bytes - 32)) body e)
  where
    ok_is : (a b : List ℕ) → body_or bytes None ≡ Ok b → slice_range bytes 37 (length bytes - 32) ≡ b
    ok_is a b same = cc
found_by version mark bytes body (Some f) h e = absurd cc

pub opened-found : {X : Type 0} (view : X → List ℕ) (r : Result X HeadFault) (version : ℕ) (mark bytes : List ℕ) → result_map_both view (λ e. e) r ≡ opened version mark bytes → IfOk r (λ x. bytes ≡ snapshot version mark (view x))
opened-found view (Ok x) version mark bytes e = found_by version mark bytes (view x) (head_fault version mark bytes) refl (sym e)
opened-found view (Err f) version mark bytes e = tt

-- ---- what a snapshot is opened to

module _ (version : ℕ) (mark body : List ℕ) (len : length mark ≡ 32) (some_body : 16 ≤ length body) where
  abbrev pub whole : List ℕ
  whole = front version mark ++ body

  whole-length : length whole ≡ 37 + length body
  whole-length = omega (arith, length-append mark body)

  abbrev pub all : List ℕ
  all = snapshot version mark body

  all-length : length all ≡ 69 + length body
  all-length = omega (arith, length-append whole (sha256 whole), length-sha256 whole, whole-length)

  body-ends : length all - 32 ≡ length whole
  body-ends = omega (arith, all-length, whole-length)

  digest-behind : drop (length all - 32) all ≡ sha256 whole
  digest-behind = drop_at whole (sha256 whole) (length all - 32) (sym body-ends)

  all-unsealed : unsealed all ≡ whole
  all-unsealed = take_at whole (sha256 whole) (length all - 32) (sym body-ends)

  mark-there : slice_range all 5 37 ≡ mark
  mark-there = ap (take 32) (append_assoc mark body (sha256 whole)) ∙ take_at mark (body ++ sha256 whole) 32 len

  body-there : slice_range all 37 (length all - 32) ≡ body
  body-there =
      let cut_off : drop 37 all ≡ body ++ sha256 whole = ap (drop 32) (append_assoc mark body (sha256 whole)) ∙ drop_at mark (body ++ sha256 whole) 32 len in
      ap (take (length all - 32 - 37)) cut_off ∙ take_at body (sha256 whole) (length all - 32 - 37) (omega (arith, all-length))

  no-fault : head_fault version mark all ≡ None
  no-fault = passes (ltb (length all) 85) (pointwise nat_eq (slice_range all 0 4) (codes "X3DW")) (eqb (slice_index all 4) version) (pointwise nat_eq (slice_range all 5 37) mark) (pointwise nat_eq (drop (length all - 32) all) (sha256 (unsealed all)))
      (le-ltb _ _ (omega (arith, all-length)))
      refl
      (eq-eqb version version refl)
      ((bytes_decides _ _).1 mark-there)
      ((bytes_decides _ _).1 (digest-behind ∙ ap sha256 (sym all-unsealed)))

  pub snapshot-opened : opened version mark all ≡ Ok body
  snapshot-opened = rw no-fault (ap (λ (b : List ℕ). Ok b) body-there)
