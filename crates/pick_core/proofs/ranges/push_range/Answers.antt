use Rattle.std.proofs.Common.{◌≡◌, ℕ, suc, ◌+◌, ◌∙◌, ◌++◌, inl, inr, List, [], ◌∷◌, length, refl, ap, sym, subst, arith, rules, Some}
use Rattle.std.specs.Prelude.{slice_get}
use Rattle.std.proofs.lemmas.List.{length_push}
use Rattle.std.proofs.lemmas.Option.{same_Some}
use Rattle.pick_core.specs.declared.ranges.RowRange.{RowRange}
use Rattle.pick_core.specs.Ranges.{IsAmong}
use Rattle.pick_core.proofs.Growing.{get-put, get-last, get-either, grown-pushed, among-grown}
use Rattle.pick_core.proofs.ranges.push_range.Goals as goal

one-more : (n : ℕ) → n + 1 ≡ suc n
one-more n = omega arith

-- the ranges with one more, and what they have at its place
module _ (rs now : List RowRange) (r : RowRange) (made : now ≡ rs ++ r ∷ []) where
  many : length now ≡ suc (length rs)
  many = ap length made ∙ (length_push rs r ∙ one-more (length rs))

  there : (last : ℕ) → last ≡ length rs → slice_get now last ≡ Some r
  there last e = ap (λ xs. slice_get xs last) made ∙ (ap (slice_get (rs ++ r ∷ [])) e ∙ get-last rs r)

  older : (place row : ℕ) → IsAmong rs (length rs) place row → IsAmong now (length rs) place row
  older place row a = subst (λ xs. IsAmong xs (length rs) place row) (sym made) (among-grown rs (rs ++ r ∷ []) (grown-pushed rs r) (length rs) (length rs) (omega arith) place row a)

  on : (place row : ℕ) → IsAmong rs (length rs) place row → IsAmong now (length now) place row
  on place row a = subst (λ xs. IsAmong xs (length xs) place row) (sym made) (among-grown rs (rs ++ r ∷ []) (grown-pushed rs r) (length rs) (length (rs ++ r ∷ [])) (omega (arith, length_push rs r)) place row a)

  front : (last row : ℕ) → last ≡ length rs → r.first ≡ row → r.last ≡ row → IsAmong now (length now) last row
  front last row e f l = subst (λ most. IsAmong now most last row) (sym many) (r, there last e, inl (omega arith, omega arith))

  behind : (last place row : ℕ) → last ≡ length rs → r.next ≡ place → IsAmong rs (length rs) place row → IsAmong now (length now) last row
  behind last place row e n a = subst (λ most. IsAmong now most last row) (sym many) (r, there last e, inr (subst (λ p. IsAmong now (length rs) p row) (sym n) (older place row a)))

pub returns-clause-added : goal.returns-clause-added
returns-clause-added c =
    let rs = c.args.ranges.now.ranges.items in
    let now = c.push.new.self.items in
    let r : RowRange = record { first = c.args.row; last = c.args.row; next = c.args.place } in
    (c.len-last.result, get-put c.args.ranges.now.firsts.items c.args.node c.len-last.result c.requires.room, front rs now r c.in_ok-push.ensures.items c.len-last.result c.args.row (search rules) refl refl)

pub returns-clause-kept : goal.returns-clause-kept
returns-clause-kept c n k has =
    let rs = c.args.ranges.now.ranges.items in
    let firsts = c.args.ranges.now.firsts.items in
    let now = c.push.new.self.items in
    let last = c.len-last.result in
    let r : RowRange = record { first = c.args.row; last = c.args.row; next = c.args.place } in
    let made : now ≡ rs ++ r ∷ [] = c.in_ok-push.ensures.items in
    let long : last ≡ length rs = search rules in
    elim (get-either firsts c.args.node last n has.0 has.1) [
      | inl both ↦
          let same : has.0 ≡ c.args.place = same_Some has.0 c.args.place (sym has.1 ∙ (ap (slice_get firsts) both.0 ∙ c.requires.place)) in
          (last, both.1, behind rs now r made last has.0 k long (sym same) has.2)
      | inr kept ↦ (has.0, kept, on rs now r made has.0 k has.2)
    ]
