-- Two logs with one chain are one log, or a hash collides.
use Rattle.std.proofs.Common.{◌≡◌, ℕ, true, List, [], ◌∷◌, ◌++◌, length, take, drop, inl, inr, refl, sym, ap, ◌∙◌, arith}
use Rattle.std.specs.Prelude.{◌⊎◌, nat_eq}
use Rattle.std.specs.Cmp.Lexicographic.{pointwise, bytes_decides}
use Rattle.std.proofs.lemmas.Bool.{cases_Bool}
use Rattle.std.proofs.lemmas.List.{take_at, drop_at, length-take-le}
use Rattle.sha2.specs.Sha256.{sha256}
use Rattle.sha2.proofs.Facts256.{length-sha256}
use Rattle.byte_codec.specs.Codec.{all_fit}
use Rattle.byte_codec.proofs.Laws.{both, some_is}
use Rattle.share_entries.specs.Entry.{EntryView, entry_codec}
use Rattle.share_entries.specs.Chain.{link, Collide, ChainsTell}
use Rattle.share_entries.proofs.EntryLaws.{entry_exact}

link_len : (chain : List ℕ) (x : EntryView) → length (link chain x) ≡ 16
link_len chain x =
    let text = chain ++ entry_codec.write x in
    length-take-le 16 (sha256 text) (omega (arith, length-sha256 text))

one_entry : (x y : EntryView) → entry_codec.fits x ≡ true → entry_codec.fits y ≡ true → entry_codec.write x ≡ entry_codec.write y → x ≡ y
one_entry x y fx fy e =
    let none : List ℕ = [] in
    let same = some_is (x, none) (y, none) (sym (entry_exact.again x [] fx) ∙ ap (λ (t : List ℕ). entry_codec.read (t ++ [])) e ∙ entry_exact.again y [] fy) in
    ap (λ (p : EntryView × List ℕ). p.0) same

one_link : (run other : List ℕ) (x y : EntryView) → length run ≡ 16 → length other ≡ 16 → entry_codec.fits x ≡ true → entry_codec.fits y ≡ true → link run x ≡ link other y → ((run ≡ other) × (x ≡ y)) ⊎ Collide
one_link run other x y lr lo fx fy e =
    let one = run ++ entry_codec.write x in
    let two = other ++ entry_codec.write y in
    elim (cases_Bool (pointwise nat_eq one two)) [
      | inl t ↦
          let same : one ≡ two = (bytes_decides one two).0 t in
          let runs : run ≡ other = sym (take_at run (entry_codec.write x) 16 lr) ∙ ap (λ (l : List ℕ). take 16 l) same ∙ take_at other (entry_codec.write y) 16 lo in
          let texts : entry_codec.write x ≡ entry_codec.write y = sym (drop_at run (entry_codec.write x) 16 lr) ∙ ap (λ (l : List ℕ). drop 16 l) same ∙ drop_at other (entry_codec.write y) 16 lo in
          inl (runs, one_entry x y fx fy texts)
      | inr f ↦ inr (one, two, (λ same. absurd (let bad : true ≡ pointwise nat_eq one two = sym ((bytes_decides one two).1 same) in cc)), e)
    ]

pub chains_tell : ChainsTell
chains_tell run other [] [] lr lo fx fy n e = inl (e, refl)
chains_tell run other [] (y ∷ ys) lr lo fx fy n e = absurd (omega (arith, n))
chains_tell run other (x ∷ xs) [] lr lo fx fy n e = absurd (omega (arith, n))
chains_tell run other (x ∷ xs) (y ∷ ys) lr lo fx fy n e =
    let a = both (entry_codec.fits x) (all_fit entry_codec xs) fx in
    let b = both (entry_codec.fits y) (all_fit entry_codec ys) fy in
    elim (chains_tell (link run x) (link other y) xs ys (link_len run x) (link_len other y) a.1 b.1 (omega (arith, n)) e) [
      | inr hit ↦ inr hit
      | inl same ↦ elim (one_link run other x y lr lo a.0 b.0 same.0) [
        | inr hit ↦ inr hit
        | inl first ↦ inl (first.0, ap (λ (z : EntryView). z ∷ xs) first.1 ∙ ap (λ (l : List EntryView). y ∷ l) same.1)
      ]
    ]
