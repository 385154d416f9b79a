-- The keys that are read of a host's file are those of its lines.
use Rattle.std.proofs.Common.{◌≡◌, ◌≢◌, ℕ, suc, ◌<◌, Bool, true, false, cond, List, [], ◌∷◌, ◌++◌, length, get_or, Option, None, Some, Result, Ok, Err, refl, sym, ap, subst, ◌∙◌, inl, inr, arith, append-nil, append_assoc, length-set, replicate, zero, eqb}
use Rattle.std.specs.Prelude.{is_some, IfOk}
use Rattle.std.specs.List.{AllByRecursion}
use Rattle.std.specs.Option.{option_to_list}
use Rattle.std.specs.Str.Lines.{lines}
use Rattle.std.proofs.lemmas.Bool.{cases_Bool, eq-eqb, eqb-true}
use Rattle.std.proofs.lemmas.List.{get_or-set_same, get_or-set_other}
use Rattle.share_keys.specs.Keys.{line_key}
use Rattle.share_keys.specs.Table.{has_any, key_at, no_keys, with_key}
use Rattle.share_keys.specs.declared.sealing.Key.{Key as AKey}
use Rattle.share_keys.specs.declared.keys.ViewerKey.{ViewerKey}
use Rattle.share_keys.proofs.Lines.{found as line_found}
use Rattle.share_key_files.specs.declared.fault.KeyFault.{KeyFault}
use Rattle.share_key_files.specs.declared.fault.KeyFault.TheVariants.{ViewerTwice, NoKeys}
use Rattle.share_key_files.specs.declared.fault.KeyFileFault.{KeyFileFault}
use Rattle.share_key_files.specs.declared.line.KeyLine.{KeyLine}
use Rattle.share_key_files.specs.declared.line.KeyLine.TheVariants.{Skipped, Key, Bad}
use Rattle.share_key_files.specs.Files.{IsKeyFile, IsRight, fault_at, is_skipped, key_said, keys_from, keys_said, line_of, next_line, said_by, with_line}

-- ---- a viewer of a line is one of 64

seat_in : (line : List ℕ) (read : Option ViewerKey) (k : ViewerKey) → line_key line ≡ read → said_by read ≡ Key k → k.who < 64
seat_in line None k is e = absurd cc
seat_in line (Some key) k is e =
    let same : key ≡ k = cc in
    let low : key.who < 64 = (line_found key line is).3 in
    subst (λ (z : ViewerKey). z.who < 64) same low

seat_of : (line : List ℕ) (k : ViewerKey) → line_of line ≡ Key k → k.who < 64
seat_of line k e = by (is_skipped line) refl e where
  by : (b : Bool) → is_skipped line ≡ b → cond b Skipped (said_by (line_key line)) ≡ Key k → k.who < 64
  by true is e = absurd cc
  by false is e = seat_in line (line_key line) k refl e

-- ---- one key more

none_of : {A : Type 0} (o : Option A) → is_some o ≡ false → o ≡ None
none_of None h = refl
none_of (Some a) h = absurd cc

module _ (keys : List (Option AKey)) (k : ViewerKey) (long : length keys ≡ 64) (low : k.who < 64) (new : is_some (key_at keys k.who) ≡ false) where
  own : (who : ℕ) → eqb k.who who ≡ true → option_to_list (key_at keys who) ++ key_said who (Key k) ≡ option_to_list (key_at (with_key keys k.who k.key) who)
  own who same =
      let is : k.who ≡ who = eqb-true k.who who same in
      let none : key_at keys who ≡ None = subst (λ z. key_at keys z ≡ None) is (none_of (key_at keys k.who) new) in
      let some : key_at (with_key keys k.who k.key) who ≡ Some k.key = subst (λ z. key_at (with_key keys k.who k.key) z ≡ Some k.key) is (get_or-set_same keys k.who (Some k.key) None (omega (arith, low, long))) in
      rw (none, some, same) refl

  other : (who : ℕ) → eqb k.who who ≡ false → option_to_list (key_at keys who) ++ key_said who (Key k) ≡ option_to_list (key_at (with_key keys k.who k.key) who)
  other who differs =
      let apart : who ≢ k.who = λ e. absurd (let bad : true ≡ false = sym (eq-eqb k.who k.who refl) ∙ subst (λ z. eqb k.who z ≡ false) e differs in cc) in
      let stays : key_at (with_key keys k.who k.key) who ≡ key_at keys who = get_or-set_other keys k.who who (Some k.key) None apart in
      rw (stays, differs) (append-nil (option_to_list (key_at keys who)))

  pub one_more : (who : ℕ) → option_to_list (key_at keys who) ++ key_said who (Key k) ≡ option_to_list (key_at (with_key keys k.who k.key) who)
  one_more who = elim (cases_Bool (eqb k.who who)) [
    | inl same ↦ own who same
    | inr differs ↦ other who differs
  ]

none_there : (n who : ℕ) → get_or (replicate {A = Option AKey} n None) who None ≡ None
none_there zero zero = refl
none_there zero (suc who) = refl
none_there (suc n) zero = refl
none_there (suc n) (suc who) = none_there n who

-- ---- line by line

abbrev AreRight : List (List ℕ) → Type 0
AreRight ls = AllByRecursion (λ line. IsRight (line_of line)) ls

abbrev AreSaid : (keys new : List (Option AKey)) → List (List ℕ) → Type 0
AreSaid keys new ls = (who : ℕ) → option_to_list (key_at keys who) ++ keys_said who ls ≡ option_to_list (key_at new who)

abbrev Reads : (keys new : List (Option AKey)) → List (List ℕ) → Type 0
Reads keys new ls = AreRight ls × AreSaid keys new ls

at_end : (n : ℕ) (keys new : List (Option AKey)) (b : Bool) → cond b (let o : Result (List (Option AKey)) KeyFileFault = Ok keys in o) (Err (fault_at n NoKeys)) ≡ Ok new → Reads keys new []
at_end n keys new false e = absurd cc
at_end n keys new true e =
    let same : keys ≡ new = cc in
    (tt, λ who. append-nil (option_to_list (key_at keys who)) ∙ ap (λ (z : List (Option AKey)). option_to_list (key_at z who)) same)

module _ (n : ℕ) (keys new : List (Option AKey)) (line : List ℕ) (more : List (List ℕ)) (long : length keys ≡ 64)
    (later : (ks : List (Option AKey)) → length ks ≡ 64 → keys_from (suc n) ks more ≡ Ok new → Reads ks new more) where
  abbrev rest_of : Result (List (Option AKey)) KeyFault → Result (List (Option AKey)) KeyFileFault
  rest_of r = next_line n r (λ all. keys_from (suc n) all more)

  abbrev Goal : KeyLine → Type 0
  Goal said = IsRight said × AreRight more × ((who : ℕ) → option_to_list (key_at keys who) ++ (key_said who said ++ keys_said who more) ≡ option_to_list (key_at new who))

  key_read : (k : ViewerKey) → k.who < 64 → (b : Bool) → is_some (key_at keys k.who) ≡ b → rest_of (cond b (Err ViewerTwice) (Ok (with_key keys k.who k.key))) ≡ Ok new → Goal (Key k)
  key_read k low true is e = absurd cc
  key_read k low false is e =
      let r = later (with_key keys k.who k.key) (omega (arith, long, length-set keys k.who (Some k.key))) e in (
        tt,
        r.0,
        λ who.
            sym (append_assoc (option_to_list (key_at keys who)) (key_said who (Key k)) (keys_said who more))
            ∙ ap (λ (z : List AKey). z ++ keys_said who more) (one_more keys k long low is who)
            ∙ r.1 who,
      )

  line_read : (said : KeyLine) → line_of line ≡ said → rest_of (with_line keys said) ≡ Ok new → Goal said
  line_read Skipped is e = let r = later keys long e in (tt, r.0, r.1)
  line_read Bad is e = absurd cc
  line_read (Key k) is e = key_read k (seat_of line k is) (is_some (key_at keys k.who)) refl e

  pub reads_line : rest_of (with_line keys (line_of line)) ≡ Ok new → Reads keys new (line ∷ more)
  reads_line e =
      let g = line_read (line_of line) refl e in
      ((g.0, g.1), g.2)

reads : (n : ℕ) (keys new : List (Option AKey)) (ls : List (List ℕ)) → length keys ≡ 64 → keys_from n keys ls ≡ Ok new → Reads keys new ls
reads n keys new [] long e = at_end n keys new (has_any keys) e
reads n keys new (line ∷ more) long e = reads_line n keys new line more long (λ ks h read. reads (suc n) ks new more h read) e

pub has_key : (n : ℕ) (keys : List (Option AKey)) → has_any keys ≡ true → keys_from n keys [] ≡ Ok keys
has_key n keys has = rw has refl

pub are_said : (bytes : List ℕ) (r : Result (List (Option AKey)) KeyFileFault) → r ≡ keys_from 0 no_keys (lines bytes) → IfOk r (λ keys. IsKeyFile bytes keys)
are_said bytes (Err fault) e = tt
are_said bytes (Ok keys) e =
    let r = reads 0 no_keys keys (lines bytes) refl (sym e) in
    record {
      right = r.0;
      each = λ who. ap (λ (z : Option AKey). option_to_list z ++ keys_said who (lines bytes)) (sym (none_there 64 who)) ∙ r.1 who;
    }
