-- Which fields are listed: each output of a later line once, if it holds a value.
use Rattle.std.proofs.Common.{◌≡◌, ◌∙◌, ap, sym, refl, ℕ, Bool, true, false, not, ◌&&◌, ◌||◌, List, [], ◌∷◌, ◌++◌, map, Option, Some, None, if◌then◌else◌, append-nil, append_assoc, eq-eqb, eqb-true}
use Rattle.std.specs.Prelude.{◌==◌, is_some}
use Rattle.std.specs.List.{filter, fold, list_any}
use Rattle.std.proofs.lemmas.List.{map-append}
use Rattle.std.proofs.lemmas.List.Folds.{list_any-append}
use Rattle.cascade_trace.specs.Ends.{all_differ, has_sent, same_end}
use Rattle.cascade_trace.specs.declared.trace.TraceLine.{TraceLine}
use Rattle.embed_changes.specs.Changes.{Listing, listed, with_value}
use Rattle.embed_changes.specs.Laws.{AreNamed, AreOnce, AreThoseThatHold, holds_value, place_of}
use Rattle.embed_changes.specs.Outputs.{is_after, noted}
use Rattle.embed_changes.specs.Values.{value_now}
use Rattle.scene_core.specs.Scene.{SceneView}
use Rattle.scene_core.specs.declared.scene.End.{End}
use Rattle.x3d_values.specs.declared.fields.Fields.{Fields}
use Rattle.x3d_values.specs.declared.value.Value.{Value}

-- ---- outputs that are the same

both : (a b : Bool) → (a && b) ≡ true → (a ≡ true) × (b ≡ true)
both true true h = (refl, refl)
both true false h = (refl, h)
both false b h = cc

neither : (a b : Bool) → (a || b) ≡ false → (a ≡ false) × (b ≡ false)
neither true b h = cc
neither false b h = (refl, h)

split : (a b : Bool) → (not a && b) ≡ true → (a ≡ false) × (b ≡ true)
split true b h = cc
split false b h = (refl, h)

or_false : (a : Bool) → (a || false) ≡ a
or_false true = refl
or_false false = refl

or_true : (a : Bool) → (a || true) ≡ true
or_true true = refl
or_true false = refl

or_assoc : (a b c : Bool) → ((a || b) || c) ≡ (a || (b || c))
or_assoc true b c = refl
or_assoc false b c = refl

abbrev made : ℕ → ℕ → End
made node field = record { node = node; field = field }

same_is : (a b : End) → same_end a b ≡ true → a ≡ b
same_is a b h =
    let (p, q) = both (a.node == b.node) (a.field == b.field) h in
    let node : a.node ≡ b.node = eqb-true a.node b.node p in
    let field : a.field ≡ b.field = eqb-true a.field b.field q in
    ap (λ (n : ℕ). made n a.field) node ∙ ap (λ (f : ℕ). made b.node f) field

same_self : (a : End) → same_end a a ≡ true
same_self a = rw (eq-eqb a.node a.node refl, eq-eqb a.field a.field refl) refl

other_way : (a b : End) → same_end a b ≡ false → same_end b a ≡ false
other_way a b h = cases (same_end b a) refl
  where
    cases : (t : Bool) → same_end b a ≡ t → same_end b a ≡ false
    cases false e = e
    cases true e =
        let same : b ≡ a = same_is b a e in
        let no : same_end a b ≡ true = rw same (same_self a) in
        cc

-- ---- an output that is noted

one_more : (outputs : List End) (o e : End) → has_sent (outputs ++ o ∷ []) e ≡ (has_sent outputs e || same_end o e)
one_more outputs o e = list_any-append (λ x. same_end x e) outputs (o ∷ []) ∙ ap (λ b. has_sent outputs e || b) (or_false (same_end o e))

noted_by : (outputs : List End) (o e : End) (b : Bool) → has_sent outputs o ≡ b → has_sent (if b then outputs else outputs ++ o ∷ []) e ≡ (has_sent outputs e || same_end o e)
noted_by outputs o e false is = one_more outputs o e
noted_by outputs o e true is = by (same_end o e) refl
  where
    by : (t : Bool) → same_end o e ≡ t → has_sent outputs e ≡ (has_sent outputs e || t)
    by false d = sym (or_false (has_sent outputs e))
    by true d =
        let same : o ≡ e = same_is o e d in
        let there : has_sent outputs e ≡ true = ap (has_sent outputs) (sym same) ∙ is in
        there ∙ sym (or_true (has_sent outputs e))

noted_has : (outputs : List End) (o e : End) → has_sent (noted outputs o) e ≡ (has_sent outputs e || same_end o e)
noted_has outputs o e = noted_by outputs o e (has_sent outputs o) refl

-- ---- each once

differ_more : (outputs : List End) (o : End) → all_differ outputs ≡ true → has_sent outputs o ≡ false → all_differ (outputs ++ o ∷ []) ≡ true
differ_more [] o differ fresh = refl
differ_more (x ∷ xs) o differ fresh =
    let (first, rest) = split (has_sent xs x) (all_differ xs) differ in
    let (apart, later) = neither (same_end x o) (has_sent xs o) fresh in
    rw (one_more xs o x, first, other_way x o apart, differ_more xs o rest later) refl

noted_differ : (outputs : List End) (o : End) (b : Bool) → has_sent outputs o ≡ b → all_differ outputs ≡ true → all_differ (if b then outputs else outputs ++ o ∷ []) ≡ true
noted_differ outputs o true is differ = differ
noted_differ outputs o false is differ = differ_more outputs o differ is

all_once : (outputs others : List End) → all_differ outputs ≡ true → all_differ (fold noted outputs others) ≡ true
all_once outputs [] differ = differ
all_once outputs (o ∷ os) differ = all_once (noted outputs o) os (noted_differ outputs o (has_sent outputs o) refl differ)

pub once : AreOnce
once since lines = all_once [] (map (λ l. l.source) (filter (is_after since) lines)) refl

-- ---- those that a later line names

abbrev sources : ℕ → List TraceLine → List End
sources since lines = map (λ l. l.source) (filter (is_after since) lines)

abbrev names : ℕ → End → TraceLine → Bool
names since e l = is_after since l && same_end l.source e

named_all : (since : ℕ) (lines : List TraceLine) (outputs : List End) (e : End) → has_sent (fold noted outputs (sources since lines)) e ≡ (has_sent outputs e || list_any (names since e) lines)
named_all since [] outputs e = sym (or_false (has_sent outputs e))
named_all since (l ∷ ls) outputs e = by (is_after since l) (λ before. named_all since ls before e)
  where
    by : (b : Bool) → ((before : List End) → has_sent (fold noted before (sources since ls)) e ≡ (has_sent before e || list_any (names since e) ls))
        → has_sent (fold noted outputs (map (λ m. m.source) (if b then l ∷ filter (is_after since) ls else filter (is_after since) ls))) e
        ≡ (has_sent outputs e || ((b && same_end l.source e) || list_any (names since e) ls))
    by false rest = rest outputs
    by true rest =
        rest (noted outputs l.source)
        ∙ ap (λ (t : Bool). t || list_any (names since e) ls) (noted_has outputs l.source e)
        ∙ or_assoc (has_sent outputs e) (same_end l.source e) (list_any (names since e) ls)

pub named : AreNamed
named since lines e = named_all since lines [] e

-- ---- those that hold a value

module _ (scene : SceneView) (state : List Fields) where
  value_more : (l : Listing) (e : End) (rest : List End) (v : Option Value) → map place_of l.0 ++ (if is_some v then e ∷ rest else rest) ≡ map place_of (with_value l e v).0 ++ rest
  value_more l e rest None = refl
  value_more l e rest (Some v) =
      sym (ap (λ (xs : List End). xs ++ rest) (map-append place_of l.0 (_ ∷ [])) ∙ append_assoc (map place_of l.0) (e ∷ []) rest)

  held_all : (l : Listing) (outputs : List End) → map place_of (fold (listed scene state) l outputs).0 ≡ map place_of l.0 ++ filter (holds_value scene state) outputs
  held_all l [] = sym (append-nil (map place_of l.0))
  held_all l (e ∷ es) =
      held_all (listed scene state l e) es
      ∙ sym (value_more l e (filter (holds_value scene state) es) (value_now scene state e.node e.field))

pub held : AreThoseThatHold
held scene state lines since = held_all scene state ([], []) _
