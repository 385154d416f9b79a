-- The list that a viewer knows.
use Rattle.std.proofs.Common.{◌≡◌, ℕ, suc, ◌-◌, Bool, true, false, cond, List, [], ◌∷◌, ◌++◌, length, take, Option, Some, None, inl, inr, refl, sym, ap, ◌∙◌, arith, append_assoc, length-append}
use Rattle.std.specs.Prelude.{nat_eq}
use Rattle.std.specs.Cmp.Lexicographic.{pointwise, bytes_decides}
use Rattle.std.proofs.lemmas.List.{take_at}
use Rattle.std.proofs.lemmas.List.Sums.{fold_push}
use Rattle.std.proofs.lemmas.Option.{same_Some}
use Rattle.byte_codec.specs.Codec.{all_fit}
use Rattle.byte_codec.proofs.Laws.{and_true}
use Rattle.share_entries.specs.Chain.{chain_after, link}
use Rattle.share_entries.specs.Entry.{EntryView, entry_codec}
use Rattle.share_entries.proofs.ChainLaws.{chains_tell}
use Rattle.share_session.specs.declared.message.Input2.{Input2}
use Rattle.share_session.specs.Follows.{IsOfLog}
use Rattle.share_runs.specs.declared.step.RunStep.TheVariants as step
use Rattle.share_runs.specs.Known.{chain_in, is_early}
use Rattle.share_runs.specs.Steps.{after_step, input_step}
use Rattle.share_runs.specs.Laws.{OneList, NeverOther}

one_fits : (e : EntryView) → entry_codec.fits e ≡ true → all_fit entry_codec (e ∷ []) ≡ true
one_fits e f = and_true _ _ f refl

abbrev first : EntryView → List EntryView → EntryView
first d [] = d
first d (e ∷ es) = e

pub one_list : OneList
one_list from chains i j fi fj a b n =
    let back : chain_in from chains (i.number - 1) ≡ Some j.chain = ap (λ (z : ℕ). chain_in from chains (z - 1)) n ∙ b.before in
    let here : chain_in from chains i.number ≡ Some (link j.chain j.entry) = ap (λ (z : ℕ). chain_in from chains z) n ∙ b.after in
    let after : link i.chain i.entry ≡ link j.chain j.entry = same_Some (link i.chain i.entry) (link j.chain j.entry) (sym a.after ∙ here) in
    elim (chains_tell i.chain j.chain (i.entry ∷ []) (j.entry ∷ []) fi.chain fj.chain (one_fits i.entry fi.entry) (one_fits j.entry fj.entry) refl after) [
      | inl same ↦ inl (same_Some i.chain j.chain (sym a.before ∙ back), ap (λ (l : List EntryView). first i.entry l) same.1)
      | inr hit ↦ inr hit
    ]

-- ---- over one log

module _ (run : List ℕ) (log : List EntryView) (i : Input2) (its : IsOfLog run log i) where
  here : i.number ≡ suc (length its.before)
  here = its.number

  front : take (i.number - 1) log ≡ its.before
  front =
      let n : i.number - 1 ≡ length its.before = omega (arith, here) in
      ap (λ (l : List EntryView). take (i.number - 1) l) its.log_is ∙ take_at its.before (i.entry ∷ its.after) (i.number - 1) (sym n)

  whole : take i.number log ≡ its.before ++ i.entry ∷ []
  whole =
      let grown : List EntryView = its.before ++ i.entry ∷ [] in
      let long : length grown ≡ i.number = omega (arith, here, length-append its.before (i.entry ∷ [])) in
      let split : log ≡ grown ++ its.after = its.log_is ∙ sym (append_assoc its.before (i.entry ∷ []) its.after) in
      ap (λ (l : List EntryView). take i.number l) split ∙ take_at grown its.after i.number long

  follows_log : (c : List ℕ) → c ≡ chain_after run (take (i.number - 1) log) → pointwise nat_eq i.chain c ≡ true
  follows_log c e = (bytes_decides i.chain c).1 (its.chain ∙ sym (e ∙ ap (λ (l : List EntryView). chain_after run l) front))

  link_of_log : (d : List ℕ) → d ≡ chain_after run (take i.number log) → pointwise nat_eq (link i.chain i.entry) d ≡ true
  link_of_log d e =
      (bytes_decides (link i.chain i.entry) d).1
      (ap (λ (c : List ℕ). link c i.entry) its.chain ∙ sym (e ∙ ap (λ (l : List EntryView). chain_after run l) whole ∙ fold_push link run its.before i.entry))

  after_log : (a : Option (List ℕ)) → ((d : List ℕ) → a ≡ Some d → d ≡ chain_after run (take i.number log)) → after_step (link i.chain i.entry) a ≡ step.OtherList → ⊥
  after_log None known e = absurd cc
  after_log (Some d) known e =
      let hit = link_of_log d (known d refl) in
      let made : after_step (link i.chain i.entry) (Some d) ≡ step.HandOn = ap (λ (z : Bool). cond z step.HandOn step.OtherList) hit in
      absurd (let bad : step.HandOn ≡ step.OtherList = sym made ∙ e in cc)

  input_log : (early : Bool) (b a : Option (List ℕ)) → ((c : List ℕ) → b ≡ Some c → c ≡ chain_after run (take (i.number - 1) log)) → ((d : List ℕ) → a ≡ Some d → d ≡ chain_after run (take i.number log)) → input_step early b a i ≡ step.OtherList → ⊥
  input_log true None a kb ka e = absurd cc
  input_log false None a kb ka e = absurd cc
  input_log early (Some c) a kb ka e =
      let hit = follows_log c (kb c refl) in
      let made : input_step early (Some c) a i ≡ after_step (link i.chain i.entry) a = ap (λ (z : Bool). cond z (after_step (link i.chain i.entry) a) step.OtherList) hit in
      after_log a ka (sym made ∙ e)

pub never_other : NeverOther
never_other run log k i known its e =
    input_log run log i its (is_early k.from k.chains.items i.number) (chain_in k.from k.chains.items (i.number - 1)) (chain_in k.from k.chains.items i.number) (λ c. known (i.number - 1) c) (λ d. known i.number d) e
