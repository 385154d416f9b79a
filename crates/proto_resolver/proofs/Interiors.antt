-- What the walk does by proto_meaning's rules: default values, what stands in a prototype, and a whole
-- text.
use Rattle.std.proofs.Common.{◌≡◌, ℕ, Bool, true, false, List, [], ◌∷◌, cond, length, Option, Some, None, Ok, Err, refl, ap, sym, ◌∙◌, subst, true≢false}
use Rattle.std.specs.Borrow.{Bor}
use Rattle.std.specs.Prelude.{is_some, ◌&&◌, slice_get}
use Rattle.classic_tree.specs.declared.tree.Declaration.{Declaration}
use Rattle.classic_tree.specs.declared.tree.NodeText.{NodeText}
use Rattle.classic_tree.specs.declared.tree.ProtoText.{ProtoText, out-ProtoText}
use Rattle.classic_tree.specs.declared.tree.Statement.{Statement}
use Rattle.proto_flat.specs.declared.fault.ExpandFault.{ExpandFault}
use Rattle.proto_meaning.specs.Sight.{Names, Prototype, Sight, Look, no_names, and_see, each}
use Rattle.proto_meaning.specs.Flat as flat
use Rattle.proto_meaning.specs.Texts as texts
use Rattle.proto_meaning.specs.Texts.{sees_inside}
use Rattle.proto_meaning.specs.trees.Given.{GivenTree}
use Rattle.proto_meaning.specs.declared.tree.NodeTree.{NodeTree}
use Rattle.proto_meaning.specs.declared.tree.BodyTree.{BodyTree}
use Rattle.proto_meaning.specs.declared.tree.DefaultTree.{DefaultTree}
use Rattle.proto_meaning.specs.trees.Resolved as rule
use Rattle.proto_meaning.specs.trees.Resolved.{Seen, wrong_in, is_value, IsGiven, AreStatements, AreDefaults}
use Rattle.proto_meaning.proofs.Same.{in_bared, never}
use Rattle.proto_resolver.specs.declared.scopes.TakenNames.{TakenNames}
use Rattle.proto_resolver.specs.declared.resolver.Resolver.{Resolver}
use Rattle.proto_resolver.specs.declared.scopes.Table.{Table}
use Rattle.proto_meaning.specs.declared.tree.ProtoTree.{ProtoTree}
use Rattle.proto_resolver.specs.Held.{Entries, no_entries, names_of, found, seen}
use Rattle.proto_resolver.specs.Standing.{Means, Resolves}
use Rattle.proto_resolver.specs.Steps.{IsAside, IsBack, defaults_taken}
use Rattle.proto_resolver.specs.Parts.{Before, AreAllDefaults, AreDefaultsAside, IsInterior, IsResolved}
use Rattle.proto_resolver.proofs.Standing.{weaker, behind, extends_none}
use Rattle.proto_resolver.proofs.Steps.{given_seen, given_left, statements_seen, taken_again, set_aside}

-- ---- default values

abbrev default_sees : Declaration NodeText → Look
default_sees d = texts.sees_given d.given

pub no_defaults : (ps : List Prototype) (s : Sight) → AreAllDefaults ps [] [] s (Ok s)
no_defaults ps s = record {
  sees = refl;
  are = λ u e takes. subst (λ v. AreDefaults ps takes [] [] s v) (in_bared s u e) (rule.no_defaults s);
}

one_default : (ps : List Prototype) (takes : Names) (d : Bor (Declaration NodeText)) (t : GivenTree NodeTree) (rest : List (Declaration NodeText)) (trees : List DefaultTree) (s u v : Sight) (b : Bool) → takes d.now.name ≡ b
    → IsGiven ps true d.now.given t s (Ok u) → AreDefaults ps takes rest (defaults_taken takes trees) u v
    → AreDefaults ps takes (d.now ∷ rest) (cond b (record { declaration = d; value = t } ∷ defaults_taken takes trees) (defaults_taken takes trees)) s v
one_default ps takes d t rest trees s u v true e g h = rule.kept d t rest (defaults_taken takes trees) s u v e g h
one_default ps takes d t rest trees s u v false e g h =
    rule.left d.now rest (defaults_taken takes trees) s u v (ap (λ b. b && is_value d.now.given) e) (given_left ps d.now.given t s (Ok u) g) h

before_default : (ps : List Prototype) (d : Bor (Declaration NodeText)) (t : GivenTree NodeTree) (rest : List (Declaration NodeText)) (s : Sight) (r : Seen) → IsGiven ps true d.now.given t s r
    → Before (AreAllDefaults ps) (d.now ∷ rest) rest (record { declaration = d; value = t } ∷ []) s r
before_default ps d t rest s (Ok u) g trees q h = record {
  sees = ap (λ x. and_see x (each default_sees rest)) (given_seen ps d.now.given t s (Ok u) g) ∙ h.sees;
  are = λ v e takes. one_default ps takes d t rest trees s u v (takes d.now.name) refl g (h.are v e takes);
}
before_default ps d t rest s (Err e) g trees q h = record {
  sees = ap (λ x. and_see x (each default_sees rest)) (given_seen ps d.now.given t s (Err e) g) ∙ sym h.1;
  are = λ v k takes. never v e (sym h.1 ∙ k);
}

pub default_row : (old new : Resolver) (wrong : Option ExpandFault) (d : Bor (Declaration NodeText)) (t : GivenTree NodeTree) (rest : List (Declaration NodeText))
    → Resolves old new wrong (λ ps s r. IsGiven ps true d.now.given t s r)
    → Resolves old new wrong (λ ps s r. Before (AreAllDefaults ps) (d.now ∷ rest) rest (record { declaration = d; value = t } ∷ []) s r)
default_row old new wrong d t rest =
    weaker old new wrong (λ ps s r. IsGiven ps true d.now.given t s r) (λ ps s r. Before (AreAllDefaults ps) (d.now ∷ rest) rest (record { declaration = d; value = t } ∷ []) s r)
    (λ ps all s r shows x e h. before_default all d t rest s r h)

defaults_aside : (ps : List Prototype) (ds : List (Declaration NodeText)) (ts : List DefaultTree) (s : Sight) (q : Seen) → AreAllDefaults ps ds ts (record s { taken = no_names }) q
    → AreDefaultsAside ps ds ts s (taken_again s.taken q)
defaults_aside ps ds ts s (Ok b) h = record {
  sees = ap (taken_again s.taken) h.sees;
  are = λ u e. (b, sym (in_bared (record b { taken = s.taken }) u e), λ takes. h.are b refl takes);
}
defaults_aside ps ds ts s (Err x) h = record {
  sees = ap (taken_again s.taken) h.sees;
  are = λ u e. never u x e;
}

pub interface_aside : (old start inner new : Resolver) (before : TakenNames) (wrong : Option ExpandFault) (ds : List (Declaration NodeText)) (ts : List DefaultTree)
    → IsAside old before start → Resolves start inner wrong (λ ps s r. AreAllDefaults ps ds ts s r) → IsBack inner before new
    → Resolves old new wrong (λ ps s r. AreDefaultsAside ps ds ts s r)
interface_aside old start inner new before wrong ds ts =
    set_aside old start inner new before wrong (λ ps s r. AreAllDefaults ps ds ts s r) (λ ps s r. AreDefaultsAside ps ds ts s r) (λ all s q e h. defaults_aside all ds ts s q h)

-- ---- what stands between the brackets and the braces of a prototype

inside_wrong : (ps : List Prototype) (p : ProtoText) (defaults : List DefaultTree) (s : Sight) (r : Seen) → is_some (wrong_in r) ≡ true → AreDefaultsAside ps (out-ProtoText p).interface defaults s r → IsInterior ps p defaults [] s r
unfolding sees_inside
inside_wrong ps p defaults s (Ok u) is h = absurd (true≢false (sym is))
inside_wrong ps p defaults s (Err e) is h = record {
  sees = ap (λ x. and_see x (each (λ x. (flat.statement x).1.sees) (out-ProtoText p).body)) h.sees;
  are = λ u k. never u e k;
}

pub wrong_inside : (old new : Resolver) (wrong : Option ExpandFault) (p : ProtoText) (defaults : List DefaultTree) → is_some wrong ≡ true
    → Resolves old new wrong (λ ps s r. AreDefaultsAside ps (out-ProtoText p).interface defaults s r)
    → Resolves old new wrong (λ ps s r. IsInterior ps p defaults [] s r)
wrong_inside old new wrong p defaults is =
    weaker old new wrong (λ ps s r. AreDefaultsAside ps (out-ProtoText p).interface defaults s r) (λ ps s r. IsInterior ps p defaults [] s r)
    (λ ps all s r shows x e h. inside_wrong all p defaults s r (sym (ap is_some e) ∙ is) h)

inside_both : (ps : List Prototype) (p : ProtoText) (defaults : List DefaultTree) (trees : List BodyTree) (s u : Sight) (r : Seen) → AreDefaultsAside ps (out-ProtoText p).interface defaults s (Ok u)
    → AreStatements ps (out-ProtoText p).body trees u r → IsInterior ps p defaults trees s r
unfolding sees_inside
inside_both ps p defaults trees s u r h k = record {
  sees = ap (λ x. and_see x (each (λ x. (flat.statement x).1.sees) (out-ProtoText p).body)) h.sees ∙ statements_seen ps (out-ProtoText p).body trees u r k;
  are = λ v e. (
    (h.are u refl).0,
    (h.are u refl).2 v.taken,
    subst (λ (x : Sight). AreStatements ps (out-ProtoText p).body trees x (Ok v)) (h.are u refl).1 (subst (AreStatements ps (out-ProtoText p).body trees u) e k),
  );
}

pub whole_inside : (old mid new : Resolver) (wrong : Option ExpandFault) (p : ProtoText) (defaults : List DefaultTree) (trees : List BodyTree)
    → Resolves old mid None (λ ps s r. AreDefaultsAside ps (out-ProtoText p).interface defaults s r)
    → Resolves mid new wrong (λ ps s r. AreStatements ps (out-ProtoText p).body trees s r)
    → Resolves old new wrong (λ ps s r. IsInterior ps p defaults trees s r)
whole_inside old mid new wrong p defaults trees =
    behind old mid new wrong (λ ps s r. AreDefaultsAside ps (out-ProtoText p).interface defaults s r) (λ ps s r. AreStatements ps (out-ProtoText p).body trees s r) (λ ps s r. IsInterior ps p defaults trees s r)
    (λ all s u r h k. inside_both all p defaults trees s u r h k)

-- ---- a whole text

pub whole_text : (old new : Resolver) (wrong : Option ExpandFault) (text : List Statement) (trees : List BodyTree) → old.protos ≡ [] → found old.scopes.here ≡ no_entries → old.scopes.outside.items ≡ [] → names_of old.scopes.takes ≡ no_names
    → Resolves old new wrong (λ ps s r. AreStatements ps text trees s r) → IsResolved text new.protos trees
whole_text old new wrong text trees none here outside takes does =
    let d = does [] (record { here = []; outside = []; taken = no_names })
    (record { count = sym (ap length none); each = λ n t e. absurd (nothing_there n t (subst (λ ts. slice_get ts n ≡ Some t) none e)) })
    (record {
      here = λ name. subst (λ (f : Entries). Means [] (f name) None) (sym here) tt;
      outside = λ name. subst (λ (ts : List Table). Means [] (seen ts name) None) (sym outside) tt;
      taken = takes;
    }) in
    record { prototypes = d.more; seen = d.seen; stand = d.stands; are = d.is d.more (extends_none d.more) } where
      nothing_there : (n : ℕ) (t : ProtoTree) → slice_get [] n ≡ Some t → ⊥
      nothing_there n t e = subst (λ (o : Option ProtoTree). cond (is_some o) ⊥ (Unit {0})) e tt
