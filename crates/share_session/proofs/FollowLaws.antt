-- The test of the chain over one log, and of two viewers with one chain.
use Rattle.std.proofs.Common.{◌≡◌, ℕ, suc, ◌+◌, Bool, true, false, cond, eqb, List, [], ◌∷◌, ◌++◌, length, take, Option, Some, None, inl, inr, refl, sym, ap, ◌∙◌, append_assoc, length-append, arith}
use Rattle.std.specs.Prelude.{◌≤◌, nat_eq}
use Rattle.std.specs.List.{AllByRecursion}
use Rattle.std.specs.Cmp.Lexicographic.{pointwise, bytes_decides}
use Rattle.std.proofs.lemmas.Bool.{cases_Bool, eqb-true}
use Rattle.std.proofs.lemmas.List.{take_at}
use Rattle.std.proofs.lemmas.List.Sums.{fold_push}
use Rattle.byte_codec.specs.Codec.{◌>>?◌, all_fit}
use Rattle.byte_codec.proofs.Laws.{and_true, bind_some, some_is}
use Rattle.share_entries.specs.Entry.{EntryView, entry_codec}
use Rattle.share_entries.specs.Chain.{link, chain_after}
use Rattle.share_entries.proofs.ChainLaws.{chains_tell}
use Rattle.share_session.specs.declared.message.Input2.{Input2}
use Rattle.share_session.specs.declared.prefix.Prefix.{Prefix}
use Rattle.share_session.specs.Follows.{follows, is_next, extended, taken, all_taken, applied_of, first_of, IsOfLog, NeverFails, ChainsAgree}

abbrev at : ℕ → List ℕ → Prefix
at n chain = record { applied = n; chain = chain }

abbrev some_prefix : Prefix → Option Prefix
some_prefix p = Some p

-- ---- over one log

module _ (run : List ℕ) (log : List EntryView) where
  record Goes (n : ℕ) (i : Input2) : Type 0 where
    pub to : ℕ
    pub within : to ≤ length log
    pub is : taken (first_of run log n) i ≡ Some (first_of run log to)

  next_goes : (n : ℕ) (i : Input2) → IsOfLog run log i → eqb (suc n) i.number ≡ true → Goes n i
  next_goes n i its hit =
      let number : suc n ≡ i.number = eqb-true (suc n) i.number hit in
      let count : length its.before ≡ n = omega (arith, number, its.number) in
      let front : take n log ≡ its.before = ap (λ (l : List EntryView). take n l) its.log_is ∙ take_at its.before (i.entry ∷ its.after) n count in
      let c : List ℕ = chain_after run (take n log) in
      let chain : i.chain ≡ c = its.chain ∙ ap (λ (l : List EntryView). chain_after run l) (sym front) in
      let same : pointwise nat_eq i.chain c ≡ true = (bytes_decides i.chain c).1 chain in
      let grown : List EntryView = its.before ++ i.entry ∷ [] in
      let split : log ≡ grown ++ its.after = its.log_is ∙ sym (append_assoc its.before (i.entry ∷ []) its.after) in
      let long : length grown ≡ suc n = omega (arith, count, length-append its.before (i.entry ∷ [])) in
      let more : take (suc n) log ≡ grown = ap (λ (l : List EntryView). take (suc n) l) split ∙ take_at grown its.after (suc n) long in
      let next : chain_after run (take (suc n) log) ≡ link c i.entry =
      ap (λ (l : List EntryView). chain_after run l) more ∙ fold_push link run its.before i.entry
      ∙ ap (λ (l : List EntryView). link (chain_after run l) i.entry) (sym front) in
      record {
        to = suc n;
        within = omega (arith, ap length split, length-append grown its.after, long);
        is = ap (λ (b : Bool). cond b (cond (pointwise nat_eq i.chain c) (some_prefix (at i.number (link c i.entry))) None) (some_prefix (at n c))) hit
            ∙ ap (λ (b : Bool). cond b (some_prefix (at i.number (link c i.entry))) None) same
            ∙ ap (λ (z : ℕ). some_prefix (at z (link c i.entry))) (sym number)
            ∙ ap (λ (z : List ℕ). some_prefix (at (suc n) z)) (sym next);
      }

  goes : (n : ℕ) (i : Input2) → n ≤ length log → IsOfLog run log i → Goes n i
  goes n i within its =
      let c : List ℕ = chain_after run (take n log) in
      elim (cases_Bool (eqb (suc n) i.number)) [
        | inl hit ↦ next_goes n i its hit
        | inr miss ↦ record {
          to = n;
          within = within;
          is = ap (λ (b : Bool). cond b (cond (pointwise nat_eq i.chain c) (some_prefix (at i.number (link c i.entry))) None) (some_prefix (at n c))) miss;
        }
      ]

pub never_fails : NeverFails
never_fails run log [] all n within = (n, within, refl)
never_fails run log (i ∷ is) all n within =
    let a = goes run log n i within all.0 in
    let b = never_fails run log is all.1 a.to a.within in
    (b.0, b.1, ap (λ (r : Option Prefix). r >>? λ q. all_taken q is) a.is ∙ b.2)

-- ---- two viewers

record Went (p : Prefix) (is : List Input2) (q : Prefix) : Type 0 where
  pub chain : q.chain ≡ chain_after p.chain (applied_of p is)
  pub count : q.applied ≡ p.applied + length (applied_of p is)
  pub fit : all_fit entry_codec (applied_of p is) ≡ true

went_by : (p : Prefix) (is : List Input2) (q : Prefix) (es : List EntryView) → applied_of p is ≡ es → q.chain ≡ chain_after p.chain es → q.applied ≡ p.applied + length es → all_fit entry_codec es ≡ true → Went p is q
went_by p is q es e chain count fit = record {
  chain = chain ∙ ap (λ (l : List EntryView). chain_after p.chain l) (sym e);
  count = count ∙ ap (λ (l : List EntryView). p.applied + length l) (sym e);
  fit = ap (λ (l : List EntryView). all_fit entry_codec l) e ∙ fit;
}

passed : (b : Bool) (p q : Prefix) → cond b (some_prefix p) None ≡ Some q → p ≡ q
passed true p q e = some_is p q e
passed false p q e = absurd cc

abbrev AllFit : List Input2 → Type 0
AllFit is = AllByRecursion (λ (i : Input2). entry_codec.fits i.entry ≡ true) is

went : (is : List Input2) (p q : Prefix) → AllFit is → all_taken p is ≡ Some q → Went p is q
went [] p q all e =
    let same : p ≡ q = some_is p q e in
    record {
      chain = ap (λ (z : Prefix). z.chain) (sym same);
      count = omega (arith, ap (λ (z : Prefix). z.applied) same);
      fit = refl;
    }
went (i ∷ is) p q all e =
    let s = bind_some (taken p i) (λ r. all_taken r is) q e in
    let stays : List EntryView = applied_of p is in
    let grows : List EntryView = i.entry ∷ applied_of (extended p i) is in
    let step : Option Prefix = cond (follows p.chain i) (some_prefix (extended p i)) None in
    elim (cases_Bool (is_next p i)) [
      | inr miss ↦
          let same : p ≡ s.0 = some_is p s.0 (sym (ap (λ (b : Bool). cond b step (some_prefix p)) miss) ∙ s.1) in
          let w = went is p q all.1 (ap (λ (r : Prefix). all_taken r is) same ∙ s.2) in
          went_by p (i ∷ is) q stays (ap (λ (b : Bool). cond b grows stays) miss) w.chain w.count w.fit
      | inl hit ↦
          let same : extended p i ≡ s.0 = passed (follows p.chain i) (extended p i) s.0 (sym (ap (λ (b : Bool). cond b step (some_prefix p)) hit) ∙ s.1) in
          let w = went is (extended p i) q all.1 (ap (λ (r : Prefix). all_taken r is) same ∙ s.2) in
          let number : suc p.applied ≡ i.number = eqb-true (suc p.applied) i.number hit in
          went_by p (i ∷ is) q grows (ap (λ (b : Bool). cond b grows stays) hit) w.chain (omega (arith, w.count, number)) (and_true _ _ all.0 w.fit)
    ]

pub chains_agree : ChainsAgree
chains_agree run other is js p q hp hq n c =
    let a = went is (at 0 run) p hp.fit hp.applied in
    let b = went js (at 0 other) q hq.fit hq.applied in
    let xs : List EntryView = applied_of (at 0 run) is in
    let ys : List EntryView = applied_of (at 0 other) js in
    let count : length xs ≡ length ys = omega (arith, a.count, b.count, n) in
    chains_tell run other xs ys hp.len hq.len a.fit b.fit count (sym a.chain ∙ c ∙ b.chain)
