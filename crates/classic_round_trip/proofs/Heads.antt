-- The head of a document is found as that head.
use Rattle.std.proofs.Common.{◌≡◌, ℕ, List, [], ◌∷◌, ◌++◌, Option, Some, None, refl, sym, ◌∙◌, subst, append_assoc, false}
use Rattle.std.specs.Prelude.{codes}
use Rattle.std.specs.Str.{bytes_eq}
use Rattle.std.specs.List.{AllByRecursion, flat_map}
use Rattle.std.proofs.lemmas.Str.{IsUtf8-nil}
use Rattle.x3d_values.specs.ValueText.{string_text}
use Rattle.classic_lex.specs.Lexed.{Tok}
use Rattle.classic_tree.specs.declared.tree.Meta.{Meta}
use Rattle.classic_tree.specs.Writing.{profile_line, component_line, meta_line}
use Rattle.classic_text.specs.Terminal.{word, name_or_access, is_access}
use Rattle.classic_text.specs.Levels.{HasLevel}
use Rattle.classic_text.specs.Spells.{NotWordAhead, IsSuch, IsName, IsWord, IsProfile, IsComponent, IsMeta, AreEach}
use Rattle.classic_round_trip.specs.Spellable.{IsNameOrNone, IsSpellableComponent, IsSpellableMeta, head_words}
use Rattle.classic_round_trip.proofs.Tokens.{SeesNoneOf, other_than}
use Rattle.classic_round_trip.proofs.Pieces.{Found, Always, with, retext, always, join}
use Rattle.classic_round_trip.proofs.Strings.{found_string}
use Rattle.classic_round_trip.proofs.Words.{ending_line, spaced, lined, found_name, found_profile_word, found_component_word, found_meta_word}

-- ---- COMPONENT

abbrev pub NoComponent : List Tok → Type 0
NoComponent ms = NotWordAhead (codes "COMPONENT") ms

levelled : (c : List ℕ) (ts ms : List Tok) → HasLevel c → IsName c ts ms → IsSuch (word []) (λ text. (text ≡ c) × HasLevel text) ts ms
unfolding word name_or_access is_access
levelled c [] ms l h = absurd h
levelled c (x ∷ ts) ms l h = (h.0, (h.1, subst HasLevel (sym h.1) l), h.2)

found_component : (c : List ℕ) (rest : List ℕ) → IsSpellableComponent c → Found (codes "COMPONENT" ++ (32 ∷ c)) (10 ∷ rest) Always (IsComponent c)
unfolding word name_or_access is_access
found_component c rest h =
    join (found_component_word (c ++ 10 ∷ rest)) (spaced
    (with (IsSuch (word []) (λ text. (text ≡ c) × HasLevel text)) (λ ts ms j. levelled c ts ms h.1 j)
    (found_name c (10 ∷ rest) h.0 (ending_line rest).0))) (λ ts ms j. tt)

component_parts : (c more : List ℕ) → (codes "COMPONENT " ++ c ++ 10 ∷ []) ++ more ≡ (codes "COMPONENT" ++ (32 ∷ c)) ++ (10 ∷ more)
component_parts c more = simp append_assoc

pub found_components : (cs : List (List ℕ)) → AllByRecursion IsSpellableComponent cs → (rest : List ℕ)
    → Found (flat_map component_line cs) rest NoComponent (AreEach (codes "COMPONENT") IsComponent cs)
found_components [] h rest = record { pieces = []; spelled = refl; cut = tt; utf8 = IsUtf8-nil; fits = λ line ms q. (q, refl) }
found_components (c ∷ cs) h rest =
    retext _ (component_parts c (flat_map component_line cs))
    (join (found_component c (flat_map component_line cs ++ rest) h.0) (lined (found_components cs h.1 rest)) (λ ts ms j. tt))

-- ---- META

abbrev pub NoMeta : List Tok → Type 0
NoMeta ms = NotWordAhead (codes "META") ms

found_meta : (m : Meta) (rest : List ℕ) → IsSpellableMeta m
    → Found (codes "META" ++ (32 ∷ (string_text m.key ++ (32 ∷ string_text m.content)))) (10 ∷ rest) Always (IsMeta m)
found_meta m rest h =
    with (IsMeta m) (λ ts ms j. (j.0, j.2.0, j.1, j.2.1, j.2.2))
    (join (found_meta_word ((string_text m.key ++ (32 ∷ string_text m.content)) ++ 10 ∷ rest)) (spaced
    (join (found_string m.key (32 ∷ string_text m.content ++ 10 ∷ rest) h.0) (spaced (found_string m.content (10 ∷ rest) h.1)) (λ ts ms j. tt)))
    (λ ts ms j. tt))

meta_parts : (k c more : List ℕ) → (codes "META " ++ k ++ 32 ∷ c ++ 10 ∷ []) ++ more ≡ (codes "META" ++ (32 ∷ (k ++ (32 ∷ c)))) ++ (10 ∷ more)
meta_parts k c more = simp append_assoc

pub found_metas : (metas : List Meta) → AllByRecursion IsSpellableMeta metas → (rest : List ℕ)
    → Found (flat_map meta_line metas) rest NoMeta (AreEach (codes "META") IsMeta metas)
found_metas [] h rest = record { pieces = []; spelled = refl; cut = tt; utf8 = IsUtf8-nil; fits = λ line ms q. (q, refl) }
found_metas (m ∷ metas) h rest =
    retext _ (meta_parts (string_text m.key) (string_text m.content) (flat_map meta_line metas))
    (join (found_meta m (flat_map meta_line metas ++ rest) h.0) (lined (found_metas metas h.1 rest)) (λ ts ms j. tt))

-- ---- PROFILE

abbrev pub NoProfile : Option (List ℕ) → List Tok → Type 0
NoProfile None ms = NotWordAhead (codes "PROFILE") ms
NoProfile (Some n) ms = Unit {0}

profile_parts : (n : List ℕ) → codes "PROFILE " ++ n ++ 10 ∷ [] ≡ (codes "PROFILE" ++ (32 ∷ n)) ++ (10 ∷ [])
profile_parts n = simp append_assoc

-- the line's end
line_end : (rest : List ℕ) → Found (10 ∷ []) rest Always (λ ts ms. ms ≡ ts)
line_end rest = lined (record { pieces = []; spelled = refl; cut = tt; utf8 = IsUtf8-nil; fits = λ line ms q. refl })

pub found_profile : (p : Option (List ℕ)) → IsNameOrNone p → (rest : List ℕ) → Found (profile_line p) rest (NoProfile p) (IsProfile p)
found_profile None h rest = record { pieces = []; spelled = refl; cut = tt; utf8 = IsUtf8-nil; fits = λ line ms q. (q, refl) }
found_profile (Some n) h rest =
    retext _ (profile_parts n)
    (always (with (IsProfile (Some n)) (λ ts ms j. subst (λ (b : List Tok). IsProfile (Some n) ts b) (sym j.2) j.1)
    (join (with (IsProfile (Some n)) (λ ts ms j. j)
    (join (found_profile_word (n ++ 10 ∷ rest)) (spaced (found_name n (10 ∷ rest) h (ending_line rest).0)) (λ ts ms j. tt))) (line_end rest)
    (λ ts ms j. tt))))

-- ---- where one part of the head goes over into another

begins_other : (w other : List ℕ) (ts ms : List Tok) → IsWord w ts ms → bytes_eq w other ≡ false → NotWordAhead other ts
begins_other w other [] ms h e = absurd h
begins_other w other (x ∷ ts) ms h e = λ q. other_than w other e (sym h.0 ∙ q)

-- what stands behind the components: METAs, or statements that begin with none of the words of the head
pub no_component : (metas : List Meta) (cs : List (List ℕ)) (p : Option (List ℕ)) (ts ms : List Tok) → AreEach (codes "META") IsMeta metas ts ms
    → SeesNoneOf (head_words metas cs p) ms → NoComponent ts
no_component [] [] None ts ms h w = subst NoComponent h.1 w.1.0
no_component [] [] (Some n) ts ms h w = subst NoComponent h.1 w.1.0
no_component [] (c ∷ cs) p ts ms h w = subst NoComponent h.1 w.1.0
no_component (m ∷ metas) cs p ts ms h w = begins_other (codes "META") (codes "COMPONENT") ts h.1.0 h.1.2 refl

-- and the same behind no profile
pub no_profile : (metas : List Meta) (cs : List (List ℕ)) (p : Option (List ℕ)) (ts b ms : List Tok) → AreEach (codes "COMPONENT") IsComponent cs ts b
    → AreEach (codes "META") IsMeta metas b ms → SeesNoneOf (head_words metas cs p) ms → NoProfile p ts
no_profile metas cs (Some n) ts b ms h k w = tt
no_profile metas (c ∷ cs) None ts b ms h k w = begins_other (codes "COMPONENT") (codes "PROFILE") ts h.1.0 h.1.1 refl
no_profile [] [] None ts b ms h k w = subst (NoProfile None) h.1 (subst (NoProfile None) k.1 w.1.1.0)
no_profile (m ∷ metas) [] None ts b ms h k w = subst (NoProfile None) h.1 (begins_other (codes "META") (codes "PROFILE") b k.1.0 k.1.2 refl)

-- the words of the head begin with META
pub no_meta : (metas : List Meta) (cs : List (List ℕ)) (p : Option (List ℕ)) (ms : List Tok) → SeesNoneOf (head_words metas cs p) ms → NoMeta ms
no_meta [] [] None ms w = w.0
no_meta [] [] (Some n) ms w = w.0
no_meta [] (c ∷ cs) p ms w = w.0
no_meta (m ∷ metas) cs p ms w = w.0
