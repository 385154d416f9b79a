-- What a text spells is spellable.
use Rattle.std.proofs.Common.{◌≡◌, ℕ, List, [], ◌∷◌, ◌++◌, Option, Some, None, sym, subst, ◌≤◌, length}
use Rattle.std.specs.Prelude.{codes}
use Rattle.std.specs.List.{AllByRecursion}
use Rattle.classic_lex.specs.Header.{max_len}
use Rattle.classic_lex.specs.Lexed.{Tok}
use Rattle.classic_tree.specs.declared.tree.Statement.{Statement}
use Rattle.classic_tree.specs.declared.tree.Meta.{Meta}
use Rattle.classic_tree.specs.declared.tree.Document.{Document}
use Rattle.classic_tree.specs.Writing.{document_text}
use Rattle.classic_text.specs.Terminal.{word, name_or_access, is_access}
use Rattle.classic_text.specs.Levels.{HasLevel}
use Rattle.classic_text.specs.Spells.{max_depth}
use Rattle.classic_text.specs.Spells.{NotWordAhead, IsSuch, IsName, IsWord, IsProfile, IsComponent, IsMeta, AreEach, IsNode, IsProto, IsTopStatement, AreStatements, IsSpelling, IsSpelled, SpellsButLines}
use Rattle.classic_round_trip.specs.AnyLength.{SpellsAtAnyLength}
use Rattle.classic_round_trip.specs.Spellable.{IsNameOrNone, IsSpellableComponent, IsSpellableMeta, IsSpellableNode, IsSpellableProto, IsSpellableTopStatement, AreSpellableStatements, IsSpellable, unread_words, head_words}
use Rattle.classic_round_trip.proofs.Documents.{spelled_by_text, within_limit}
use Rattle.classic_round_trip.proofs.Routes.{Any}
use Rattle.classic_round_trip.proofs.Tokens.{SeesNoneOf}
use Rattle.classic_round_trip.proofs.Told.{AllGood, good_tokens, Told, told_name, told_string, told_statement, proto_at, told_at}

-- ---- the head

word_left : (w : List ℕ) (ts rest : List Tok) → IsWord w ts rest → AllGood ts → AllGood rest
word_left w [] rest h g = absurd h
word_left w (x ∷ ts) rest h g = subst AllGood (sym h.1) g.1

told_profile : (p : Option (List ℕ)) (ts rest : List Tok) → IsProfile p ts rest → AllGood ts → Told (IsNameOrNone p) rest
told_profile None ts rest h g = record { fact = tt; left = subst AllGood (sym h.1) g }
told_profile (Some n) ts rest h g = told_name n h.0 rest h.2 (word_left (codes "PROFILE") ts h.0 h.1 g)

-- a name with a level is a name
level_of : (c : List ℕ) (ts rest : List Tok) → IsSuch (word []) (λ text. (text ≡ c) × HasLevel text) ts rest → IsName c ts rest × HasLevel c
unfolding word name_or_access is_access
level_of c [] rest h = absurd h
level_of c (x ∷ ts) rest h = ((h.0, h.1.0, h.2), subst HasLevel h.1.0 h.1.1)

told_component : (c : List ℕ) (ts rest : List Tok) → IsComponent c ts rest → AllGood ts → Told (IsSpellableComponent c) rest
unfolding word name_or_access is_access
told_component c ts rest h g =
    let l = level_of c h.0 rest h.2 in
    let m = told_name c h.0 rest l.0 (word_left (codes "COMPONENT") ts h.0 h.1 g) in
    record { fact = (m.fact, l.1); left = m.left }

told_meta : (m : Meta) (ts rest : List Tok) → IsMeta m ts rest → AllGood ts → Told (IsSpellableMeta m) rest
told_meta m ts rest h g =
    let k = told_string m.key h.0 h.1 h.3 (word_left (codes "META") ts h.0 h.2 g) in
    let c = told_string m.content h.1 rest h.4 k.left in
    record { fact = (k.fact, c.fact); left = c.left }

module _ {A : Type 0} (w : List ℕ) (Item : A → List Tok → List Tok → Type 0) where
  told_each : (Fact : A → Type 0) → ((x : A) (ts rest : List Tok) → Item x ts rest → AllGood ts → Told (Fact x) rest)
      → (xs : List A) (ts rest : List Tok) → AreEach w Item xs ts rest → AllGood ts → Told (AllByRecursion Fact xs) rest
  told_each Fact told [] ts rest h g = record { fact = tt; left = subst AllGood (sym h.1) g }
  told_each Fact told (x ∷ xs) ts rest h g =
      let d = told x ts h.0 h.1 g in
      let m = told_each Fact told xs h.0 rest h.2 d.left in
      record { fact = (d.fact, m.fact); left = m.left }

  -- the word stands no more
  each_ends : (xs : List A) (ts rest : List Tok) → AreEach w Item xs ts rest → NotWordAhead w rest
  each_ends [] ts rest h = subst (λ (b : List Tok). NotWordAhead w b) (sym h.1) h.0
  each_ends (x ∷ xs) ts rest h = each_ends xs h.0 rest h.2

-- the words that would go on with the head stand no more
head_ends : (metas : List Meta) (cs : List (List ℕ)) (p : Option (List ℕ)) (ts a b rest : List Tok) → IsProfile p ts a
    → AreEach (codes "COMPONENT") IsComponent cs a b → AreEach (codes "META") IsMeta metas b rest → SeesNoneOf (head_words metas cs p) rest
head_ends (m ∷ metas) cs p ts a b rest h k l = (each_ends (codes "META") IsMeta (m ∷ metas) b rest l, tt)
head_ends [] (c ∷ cs) p ts a b rest h k l = (
  each_ends (codes "META") IsMeta [] b rest l,
  (
    subst (λ (x : List Tok). NotWordAhead (codes "COMPONENT") x) (sym l.1)
        (each_ends (codes "COMPONENT") IsComponent (c ∷ cs) a b k),
    tt,
  ),
)
head_ends [] [] (Some n) ts a b rest h k l = (
  each_ends (codes "META") IsMeta [] b rest l,
  (
    subst (λ (x : List Tok). NotWordAhead (codes "COMPONENT") x) (sym l.1)
        (each_ends (codes "COMPONENT") IsComponent [] a b k),
    tt,
  ),
)
head_ends [] [] None ts a b rest h k l =
    let P : List Tok → Type 0 = λ x. NotWordAhead (codes "PROFILE") x in (
      each_ends (codes "META") IsMeta [] b rest l,
      (
        subst (λ (x : List Tok). NotWordAhead (codes "COMPONENT") x) (sym l.1) (each_ends (codes "COMPONENT") IsComponent [] a b k),
        (subst P (sym l.1) (subst P (sym k.1) (subst P (sym h.1) h.0)), tt),
      ),
    )

-- ---- statements

module _ (At : ℕ → ℕ → Type 0) where
  told_top : (words : List (List ℕ)) (s : Statement) (ts rest : List Tok) → IsTopStatement At s ts rest → SeesNoneOf words ts → AllGood ts
      → Told (IsSpellableTopStatement (words ++ unread_words) s) rest
  told_top words s ts rest h w g =
      told_statement At (IsNode At max_depth) (IsProto At max_depth) words (IsSpellableNode max_depth (words ++ unread_words))
      (IsSpellableProto max_depth) ((told_at At max_depth).node (words ++ unread_words)) (proto_at At max_depth (told_at At max_depth))
      s ts rest h w g

  told_more : (ss : List Statement) (ts : List Tok) → AreStatements At ss ts → AllGood ts → AllByRecursion (IsSpellableTopStatement unread_words) ss
  told_more [] ts h g = tt
  told_more (s ∷ ss) ts h g = let d = told_top [] s ts h.0 h.1 tt g in (d.fact, told_more ss h.0 h.2 d.left)

  told_statements : (words : List (List ℕ)) (ss : List Statement) (ts : List Tok) → AreStatements At ss ts → SeesNoneOf words ts → AllGood ts
      → AreSpellableStatements words ss
  told_statements words [] ts h w g = tt
  told_statements words (s ∷ ss) ts h w g = let d = told_top words s ts h.0 h.1 w g in (d.fact, told_more ss h.0 h.2 d.left)

  -- ---- a document

  told_document : (d : Document) (tokens : List Tok) → IsSpelling At tokens d → AllGood tokens → IsSpellable d
  told_document d tokens h g =
      let p = told_profile d.profile tokens h.behind_profile h.profile g in
      let c = told_each (codes "COMPONENT") IsComponent IsSpellableComponent told_component d.components h.behind_profile h.behind_components h.components
      p.left in
      let m = told_each (codes "META") IsMeta IsSpellableMeta told_meta d.metas h.behind_components h.behind_metas h.metas c.left in
      let w = head_ends d.metas d.components d.profile tokens h.behind_profile h.behind_components h.behind_metas h.profile h.components h.metas in
      record {
        profile = p.fact;
        components = c.fact;
        metas = m.fact;
        statements = told_statements (head_words d.metas d.components d.profile) d.statements h.behind_metas h.statements w m.left;
      }

  pub spellable : (text : List ℕ) (d : Document) → IsSpelled At text d → IsSpellable d
  spellable text d h = told_document d h.tokens h.spelling (good_tokens text h.tokens h.has)

-- what is written of a document that some text spells
pub written : (text : List ℕ) (d : Document) → SpellsButLines text d → SpellsAtAnyLength (document_text d) d
written text d h = spelled_by_text d (spellable Any text d h)

pub written_within : (text : List ℕ) (d : Document) → SpellsButLines text d → length (document_text d) ≤ max_len → SpellsButLines (document_text d) d
written_within text d h size = within_limit (document_text d) d (written text d h) size
