-- The statements of the head: what is read is spelled so, and what is spelled so is read.
use Rattle.std.proofs.Common.{◌≡◌, ℕ, zero, suc, ◌<◌, ◌≤◌, List, [], ◌∷◌, ◌++◌, length, true, ◌&&◌, Option, Some, None, Ok, refl, sym, ap, ◌∙◌, subst, ⊎_elim, arith, append_assoc}
use Rattle.std.specs.Prelude.{codes}
use Rattle.std.specs.Str.{bytes_eq}
use Rattle.std.proofs.lemmas.Bool.{and_parts}
use Rattle.std.proofs.lemmas.List.{append-nil}
use Rattle.classic_lex.specs.Lexed.{Tok}
use Rattle.classic_tree.specs.declared.tree.Meta.{Meta}
use Rattle.classic_text.specs.declared.terminal.Terminal.TheVariants as t
use Rattle.classic_text.specs.Levels.{HasLevel, has_level}
use Rattle.classic_text.specs.Input.{Parser, and_then, kind, next, spelling, sees, sees_word, refusal, expect_word, name, component_name, string}
use Rattle.classic_text.specs.Head.{profile, component, meta, each_from, each}
use Rattle.classic_text.specs.Spells.{IsWord, IsProfile, IsComponent, IsMeta, AreEach, IsSuch}
use Rattle.classic_text.proofs.LevelLemmas.{HasLevel-has_level, has_level-HasLevel}
use Rattle.classic_text.proofs.Seen.{seen, see, same_word, word_same, IsSome, not_word_ahead, word_not_ahead}
use Rattle.classic_text.proofs.Steps.{ok_is, both, guarded, chosen, IsSuch-shorter, found_name, only_name, found_string, only_string}
use Rattle.classic_text.proofs.Values.{Knows, IsString-shorter}

-- ---- words

found_word : (w : List ℕ) (ts rest : List Tok) → IsSome w → expect_word w ts ≡ Ok (tt, rest) → IsWord w ts rest
unfolding expect_word sees_word spelling next
found_word [] [] rest some h = absurd some
found_word (b ∷ w) [] rest some h =
    let g = guarded (bytes_eq [] (b ∷ w)) (tt, []) (tt, rest) (refusal []) h in
    let e : [] ≡ b ∷ w = same_word [] (b ∷ w) g.0 in cc
found_word w (x ∷ ts) rest some h =
    let g = guarded (bytes_eq x.text w) (tt, ts) (tt, rest) (refusal (x ∷ ts)) h in
    (same_word x.text w g.0, ap (λ p. p.1) (sym g.1))

only_word : (w : List ℕ) (ts rest : List Tok) → IsWord w ts rest → expect_word w ts ≡ Ok (tt, rest)
unfolding expect_word sees_word spelling next
only_word w [] rest h = absurd h
only_word w (x ∷ ts) rest h = rw (word_same x.text w h.0, h.1) refl

IsWord-seen : (w : List ℕ) (ts rest : List Tok) → IsWord w ts rest → sees_word w ts ≡ true
unfolding sees_word spelling
IsWord-seen w [] rest h = absurd h
IsWord-seen w (x ∷ ts) rest h = word_same x.text w h.0

IsWord-shorter : (w : List ℕ) (ts rest : List Tok) → IsWord w ts rest → length rest < length ts
IsWord-shorter w [] rest h = absurd h
IsWord-shorter w (x ∷ ts) rest h = rw h.1 (omega arith)

-- ---- PROFILE

pub found_profile : (p : Option (List ℕ)) (ts rest : List Tok) → profile ts ≡ Ok (p, rest) → IsProfile p ts rest
unfolding profile
found_profile p ts rest h =
    ⊎_elim (λ c. both (expect_word (codes "PROFILE") ts) _ (p, rest) c.1 (λ u a e h. both (name a) _ (p, rest) h (λ n b f h.
    subst (λ (y : Option (List ℕ) × List Tok). IsProfile y.0 ts y.1) (ok_is (Some n, b) (p, rest) h) (a, found_word (codes "PROFILE") ts a tt e, found_name n a b f))))
    (λ c. subst (λ (y : Option (List ℕ) × List Tok). IsProfile y.0 ts y.1) (ok_is (None, ts) (p, rest) c.1) (not_word_ahead (codes "PROFILE") ts c.0, refl))
    (chosen (sees_word (codes "PROFILE") ts) (and_then (expect_word (codes "PROFILE") ts) (λ u a. and_then (name a) (λ n b. Ok (Some n, b)))) (Ok (None, ts)) (Ok (p, rest)) h)

pub only_profile : (p : Option (List ℕ)) (ts rest : List Tok) → IsProfile p ts rest → profile ts ≡ Ok (p, rest)
unfolding profile
only_profile None ts rest h = rw (word_not_ahead (codes "PROFILE") ts tt h.0, h.1) refl
only_profile (Some n) ts rest h = rw (IsWord-seen (codes "PROFILE") ts h.0 h.1, only_word (codes "PROFILE") ts h.0 h.1, only_name n h.0 rest h.2) refl

-- ---- COMPONENT and META

found_component_name : (c : List ℕ) (ts rest : List Tok) → component_name ts ≡ Ok (c, rest) → IsSuch t.Name (λ text. (text ≡ c) × HasLevel text) ts rest
unfolding component_name kind next spelling
found_component_name c [] rest h =
    let g = guarded (sees t.Name [] && has_level []) ([], []) (c, rest) (refusal []) h in
    let p = and_parts (sees t.Name []) (has_level []) g.0 in
    let e : t.End ≡ t.Name = seen t.Name [] p.0 in cc
found_component_name c (x ∷ ts) rest h =
    let g = guarded (sees t.Name (x ∷ ts) && has_level x.text) (x.text, ts) (c, rest) (refusal (x ∷ ts)) h in
    let p = and_parts (sees t.Name (x ∷ ts)) (has_level x.text) g.0 in
    (seen t.Name (x ∷ ts) p.0, (ap (λ q. q.0) g.1, HasLevel-has_level x.text p.1), ap (λ q. q.1) (sym g.1))

only_component_name : (c : List ℕ) (ts rest : List Tok) → IsSuch t.Name (λ text. (text ≡ c) × HasLevel text) ts rest → component_name ts ≡ Ok (c, rest)
unfolding component_name kind next spelling
only_component_name c [] rest h = absurd h
only_component_name c (x ∷ ts) rest h = rw (see t.Name (x ∷ ts) h.0, has_level-HasLevel x.text h.1.1, h.1.0, h.2) refl

pub known_component : Knows component IsComponent
unfolding component
known_component = record {
  found = λ c ts rest h. both (expect_word (codes "COMPONENT") ts) _ (c, rest) h (λ u a e h. (a, found_word (codes "COMPONENT") ts a tt e, found_component_name c a rest h));
  only = λ c ts rest h. rw (only_word (codes "COMPONENT") ts h.0 h.1) (only_component_name c h.0 rest h.2);
  shorter = λ c ts rest h. omega (arith, IsWord-shorter (codes "COMPONENT") ts h.0 h.1, IsSuch-shorter t.Name (λ text. (text ≡ c) × HasLevel text) h.0 rest h.2);
}

pub known_meta : Knows meta IsMeta
unfolding meta
known_meta = record {
  found = λ m ts rest h. both (expect_word (codes "META") ts) _ (m, rest) h (λ u a e h. both (string a) _ (m, rest) h (λ k b f h. both (string b) _ (m, rest) h (λ c d g h.
      subst (λ (y : Meta × List Tok). IsMeta y.0 ts y.1) (ok_is (record { key = k; content = c }, d) (m, rest) h) (a, b, found_word (codes "META") ts a tt e, found_string k a b f, found_string c b d g))));
  only = λ m ts rest h. rw (only_word (codes "META") ts h.0 h.2, only_string m.key h.0 h.1 h.3, only_string m.content h.1 rest h.4) refl;
  shorter = λ m ts rest h. omega (arith, IsWord-shorter (codes "META") ts h.0 h.2, IsString-shorter m.key h.0 h.1 h.3, IsString-shorter m.content h.1 rest h.4);
}

-- ---- each of them

module _ {A : Type 0} (w : List ℕ) (item : Parser A) (Item : A → List Tok → List Tok → Type 0) (known : Knows item Item) (begins : (x : A) (ts rest : List Tok) → Item x ts rest → sees_word w ts ≡ true) (some : IsSome w) where
  found_each_from : (n : ℕ) (found xs : List A) (ts rest : List Tok) → length ts ≤ n → each_from w item n found ts ≡ Ok (xs, rest) → (more : List A) × (xs ≡ found ++ more) × AreEach w Item more ts rest
  unfolding each_from
  found_each_from zero found xs [] rest fits h =
      let e = ok_is (found, []) (xs, rest) h in
      ([], ap (λ p. p.0) (sym e) ∙ sym (append-nil found), (tt, ap (λ p. p.1) (sym e)))
  found_each_from zero found xs (x ∷ ts) rest fits h = absurd (omega arith)
  found_each_from (suc n) found xs ts rest fits h =
      ⊎_elim (λ c. both (item ts) (λ x. each_from w item n (found ++ x ∷ [])) (xs, rest) c.1 (λ x a e r.
      let is = known.found x ts a e in
      let m = found_each_from n (found ++ x ∷ []) xs a rest (omega (arith, known.shorter x ts a is)) r in
      (x ∷ m.0, m.1 ∙ append_assoc found (x ∷ []) m.0, (a, is, m.2))))
      (λ c. let e = ok_is (found, ts) (xs, rest) c.1 in ([], ap (λ p. p.0) (sym e) ∙ sym (append-nil found), (not_word_ahead w ts c.0, ap (λ p. p.1) (sym e))))
      (chosen (sees_word w ts) (and_then (item ts) (λ x. each_from w item n (found ++ x ∷ []))) (Ok (found, ts)) (Ok (xs, rest)) h)

  only_each_from : (n : ℕ) (found more : List A) (ts rest : List Tok) → length ts ≤ n → AreEach w Item more ts rest → each_from w item n found ts ≡ Ok (found ++ more, rest)
  unfolding each_from
  only_each_from zero found [] ts rest fits h = rw (append-nil found, h.1) refl
  only_each_from (suc n) found [] ts rest fits h = rw (word_not_ahead w ts some h.0, append-nil found, h.1) refl
  only_each_from zero found (m ∷ more) ts rest fits h = absurd (omega (arith, known.shorter m ts h.0 h.1))
  only_each_from (suc n) found (m ∷ more) ts rest fits h =
      rw (begins m ts h.0 h.1, known.only m ts h.0 h.1)
      (only_each_from n (found ++ m ∷ []) more h.0 rest (omega (arith, known.shorter m ts h.0 h.1)) h.2 ∙ ap (λ (xs : List A). Ok (xs, rest)) (append_assoc found (m ∷ []) more))

  pub found_each : (xs : List A) (ts rest : List Tok) → each w item ts ≡ Ok (xs, rest) → AreEach w Item xs ts rest
  unfolding each
  found_each xs ts rest h = let r = found_each_from (length ts) [] xs ts rest (omega arith) h in rw r.1 r.2

  pub only_each : (xs : List A) (ts rest : List Tok) → AreEach w Item xs ts rest → each w item ts ≡ Ok (xs, rest)
  unfolding each
  only_each xs ts rest h = only_each_from (length ts) [] xs ts rest (omega arith) h

pub component_begins : (c : List ℕ) (ts rest : List Tok) → IsComponent c ts rest → sees_word (codes "COMPONENT") ts ≡ true
component_begins c ts rest h = IsWord-seen (codes "COMPONENT") ts h.0 h.1

pub meta_begins : (m : Meta) (ts rest : List Tok) → IsMeta m ts rest → sees_word (codes "META") ts ≡ true
meta_begins m ts rest h = IsWord-seen (codes "META") ts h.0 h.2
