-- A file is read line by line.
use Rattle.std.proofs.Common.{◌≡◌, ℕ, suc, ◌<◌, List, [], ◌∷◌, length, Option, None, Some, Result, Ok, Err, refl, sym, ap, ◌∙◌, arith}
use Rattle.std.specs.Result.{result_map_both}
use Rattle.std.specs.Str.Lines.{lines}
use Rattle.share_rules.specs.Lines.{first_line, behind_line}
use Rattle.share_key_files.specs.Files.{fault_at, key_from, line_of, next_line, with_only}
use Rattle.share_keys.specs.declared.keys.ViewerKey.{ViewerKey}
use Rattle.share_key_files.specs.declared.fault.KeyFault.{KeyFault}
use Rattle.share_key_files.specs.declared.fault.KeyFileFault.{KeyFileFault}
use Rattle.share_key_files.specs.declared.line.KeyLine.{KeyLine}
use Rattle.share_key_files.proofs.Cuts.{cut}

module _ {A B : Type 0} (step : A → KeyLine → Result A KeyFault) (from : ℕ → A → List (List ℕ) → Result B KeyFileFault)
    (onward : (n : ℕ) (a : A) (line : List ℕ) (more : List (List ℕ)) → from n a (line ∷ more) ≡ next_line n (step a (line_of line)) (λ b. from (suc n) b more)) where
  abbrev then_by : (n : ℕ) → List ℕ → Result A KeyFault → Result B KeyFileFault
  then_by n behind r = next_line n r (λ b. from (suc n) b (lines behind))

  next_of : (n : ℕ) (a : A) (rest text behind : List ℕ) → 0 < length rest → text ≡ first_line rest → behind ≡ behind_line rest
      → from n a (lines rest) ≡ then_by n behind (step a (line_of text))
  next_of n a rest text behind some is after =
      ap (from n a) (cut rest some) ∙ onward n a (first_line rest) (lines (behind_line rest))
      ∙ ap (λ t. then_by n (behind_line rest) (step a (line_of t))) (sym is)
      ∙ ap (λ w. then_by n w (step a (line_of text))) (sym after)

  pub taken : (n m : ℕ) (a b : A) (all : Result B KeyFileFault) (rest text behind : List ℕ) (said : KeyLine) → all ≡ from n a (lines rest)
      → 0 < length rest → text ≡ first_line rest → behind ≡ behind_line rest → said ≡ line_of text → step a said ≡ Ok b → m ≡ suc n
      → all ≡ from m b (lines behind)
  taken n m a b all rest text behind said before some is after line ok next =
      before ∙ next_of n a rest text behind some is after
      ∙ ap (λ s. then_by n behind (step a s)) (sym line)
      ∙ ap (then_by n behind) ok
      ∙ ap (λ k. from k b (lines behind)) (sym next)

  pub refused : (n m : ℕ) (a : A) (kind : KeyFault) (all : Result B KeyFileFault) (rest text behind : List ℕ) (said : KeyLine) → all ≡ from n a (lines rest)
      → 0 < length rest → text ≡ first_line rest → behind ≡ behind_line rest → said ≡ line_of text → step a said ≡ Err kind → m ≡ suc n
      → Err (fault_at m kind) ≡ all
  refused n m a kind all rest text behind said before some is after line err next =
      ap (λ k. Err (fault_at k kind)) next
      ∙ sym (ap (then_by n behind) err)
      ∙ ap (λ s. then_by n behind (step a s)) line
      ∙ sym (next_of n a rest text behind some is after)
      ∙ sym before

  pub at_end : (n : ℕ) (a : A) (all : Result B KeyFileFault) (rest : List ℕ) → all ≡ from n a (lines rest) → length rest ≡ 0 → from n a [] ≡ all
  at_end n a all [] before none = sym before
  at_end n a all (b ∷ bs) before none = absurd (omega (arith, none))

pub only_onward : (n : ℕ) (found : Option ViewerKey) (line : List ℕ) (more : List (List ℕ)) → key_from n found (line ∷ more) ≡ next_line n (with_only found (line_of line)) (λ one. key_from (suc n) one more)
only_onward n None line more = refl
only_onward n (Some key) line more = refl

-- ---- what is put in place, or the fault

pub mapped_ok : {A B E : Type 0} (r : Result A E) (x : A) (b : B) (w : Result B E) → r ≡ Ok x → result_map_both (λ _. b) (λ e. e) r ≡ w → w ≡ Ok b
mapped_ok r x b w is told = sym told ∙ ap (result_map_both (λ _. b) (λ e. e)) is

pub mapped_err : {A B E : Type 0} (r : Result A E) (x : E) (b : B) (w : Result B E) → r ≡ Err x → result_map_both (λ _. b) (λ e. e) r ≡ w → w ≡ Err x
mapped_err r x b w is told = sym told ∙ ap (result_map_both (λ _. b) (λ e. e)) is
