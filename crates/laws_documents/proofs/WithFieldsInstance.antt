-- What an instance comes to, up to where its body is put in.
use Rattle.std.proofs.Common.{◌≡◌, ℕ, Bool, true, false, if◌then◌else◌, length, List, [], ◌∷◌, ◌++◌, Option, Some, None, Ok, map, refl, sym, ◌∙◌, subst}
use Rattle.std.specs.List.{find, list_all}
use Rattle.std.specs.Str.{bytes_eq}
use Rattle.classic_tree.specs.declared.tree.BodyItem.{BodyItem}
use Rattle.classic_tree.specs.declared.tree.Declaration.{Declaration}
use Rattle.classic_tree.specs.declared.tree.Given.TheVariants as given
use Rattle.classic_tree.specs.declared.tree.NodeText.{NodeText}
use Rattle.classic_tree.proofs.Mapped.{given_mapped}
use Rattle.proto_flat.specs.declared.fault.ExpandFaultKind.TheVariants.{FieldTwice}
use Rattle.proto_meaning.specs.Limits.{AnInstance, Outcome, and_then}
use Rattle.proto_meaning.specs.Names.{Name, Field, Filled, value_of}
use Rattle.proto_meaning.specs.Sight.{Put, Instance, Prototype, Names, OfProto}
use Rattle.proto_meaning.specs.Flat.{Walk, Does, ◌>>=◌, refuse, note, through, field, close, close_instance, Inside, inside, is_one, unless_twice, default, in_body, begin, made, renamed, full_node}
use Rattle.proto_meaning.specs.Flat.{item as item_part, node as node_part}
use Rattle.laws_documents.specs.WithFields.{Braces, is_plain, Quiet, quiet_item, replaced, those_there, written_item, found, given_by, finds_nothing}
use Rattle.laws_documents.proofs.WithFieldsSound.{parts, one_body, the_prototype, its_names}
use Rattle.laws_documents.proofs.WithFieldsWalks.{FoundAs}
use Rattle.laws_documents.proofs.WithFieldsSteps.{then_then}
use Rattle.laws_documents.proofs.WithFieldsGiven.{Leads, Knows, find_name, defaults_known}
use Rattle.laws_documents.proofs.WithFieldsItems.{within, Holds, items_hold}

module _ (line : ℕ) (proto : Name) (ds : List (Declaration NodeText)) (nodes : List NodeText) where
  abbrev pub its : Names
  its = its_names line proto ds nodes

  abbrev pub the : Prototype
  the = the_prototype line proto ds nodes its

  abbrev pub fields_there : List Field
  fields_there = map field (parts line proto ds nodes)

  abbrev pub inner : Put → List Filled → Walk
  inner put all = record (begin [] put) { scope = record (begin [] put).scope { interface = fields_there; given = all } }

  pub found_there : (all : List Filled) (items : List BodyItem) → Knows its all (found ds items) → (x : Name) → its x ≡ true → (o : Field) → find (λ (f : Field). bytes_eq f.name x) fields_there ≡ Some o
      → FoundAs (value_of o.name all) (given_mapped node_part (replaced (found ds items) (given.Is x)))
  found_there all items known x t o e = subst (λ n. FoundAs (value_of n all) (given_mapped node_part (replaced (found ds items) (given.Is x)))) (sym (find_name x fields_there o e)) (known x t)

  unless_leads : (seen : List Name) (fs : List Field) (w : Walk) → Leads (unless_twice seen fs w) (λ q. q.1 ≡ w)
  unless_leads seen [] w = refl
  unless_leads seen (f ∷ fs) w = on (is_one f.name seen) (unless_leads (f.name ∷ seen) fs w) where
    on : (b : Bool) → Leads (unless_twice (f.name ∷ seen) fs w) (λ q. q.1 ≡ w) → Leads ((if b then refuse FieldTwice f.line else unless_twice (f.name ∷ seen) fs) w) (λ q. q.1 ≡ w)
    on true h = tt
    on false h = h

  abbrev pub begun : Option Name → Walk → Walk
  begun name w = record w { scope = record w.scope { braces = w.scope.braces ++ record { name = name; stands = None } ∷ [] } }

  abbrev pub closed : Option Name → Walk → Instance → Outcome (ℕ × Walk)
  closed name w m =
      close name (length w.scope.braces) (record { node = m.node; interface = Some fields_there; ends = m.ends }) (record m.put { nodes = renamed name m.node m.put.nodes })
      (record (begun name w) { scope = record (begun name w).scope { routes = λ all. w.scope.routes all ++ m.routes } })

  abbrev pub puts_body : List Filled → Does (List ℕ)
  puts_body all = note (tt {0}) (λ s. record s { interface = fields_there; given = all }) >>= λ _. through in_body (one_body line proto ds nodes) []

  -- the body with what is known, and what becomes of its nodes
  abbrev pub body_in : Option Name → Walk → List Filled → Outcome (ℕ × Walk)
  body_in name w all = and_then (puts_body all (begin [] w.put)) (λ r. and_then (made line r.0 r.1) (closed name w))

  module _ (braces : Braces) where
    abbrev between : ℕ → List Filled → Inside
    between at filled = within the proto true finds_nothing braces at filled

    abbrev pub writes : List BodyItem → List BodyItem
    writes is = those_there (map (written_item finds_nothing braces) is)

    instance_is : (name : Option Name) (filled : List Filled) (w : Walk)
        → close_instance name the (between (length w.scope.braces) filled) (begun name w)
        ≡ and_then (through (default its) (parts line proto ds nodes) filled (begin [] w.put)) (λ q. and_then (puts_body q.0 q.1) (λ r. and_then (made line r.0 r.1) (closed name w)))
    instance_is name filled w =
        then_then ((through (default its) (parts line proto ds nodes) filled >>= puts_body) (begin [] w.put)) (λ q. made line q.0 q.1) (closed name w)
        ∙ then_then (through (default its) (parts line proto ds nodes) filled (begin [] w.put)) (λ q. puts_body q.0 q.1) (λ q. and_then (made line q.0 q.1) (closed name w))

    -- what holds of an outcome where it holds of what follows
    module _ (plain : list_all (λ (d : Declaration NodeText). is_plain d.given) ds ≡ true) (X : Outcome (ℕ × Walk) → Type 0)
        (after : (A : Type 0) (P : A → Type 0) (o : Outcome A) (f : A → Outcome (ℕ × Walk)) → Leads o P → ((a : A) → P a → X (f a)) → X (and_then o f)) where
      closed_instance : (name : Option Name) (is : List BodyItem) (w : Walk) (filled : List Filled) → Knows its filled (given_by (writes is))
          → ((all : List Filled) → Knows its all (found ds (writes is)) → X (body_in name w all)) → X (close_instance name the (between (length w.scope.braces) filled) (begun name w))
      closed_instance name is w filled known goal =
          subst (λ (o : Outcome (ℕ × Walk)). X o) (sym (instance_is name filled w))
          (after (List Filled × Walk) (λ q. (q.1 ≡ begin [] w.put) × Knows its q.0 (found ds (writes is)))
          (through (default its) (parts line proto ds nodes) filled (begin [] w.put)) (λ q. and_then (puts_body q.0 q.1) (λ r. and_then (made line r.0 r.1) (closed name w)))
          (defaults_known its ds filled (given_by (writes is)) (begin [] w.put) plain known)
          (λ q k. subst (λ u. X (and_then (puts_body q.0 u) (λ r. and_then (made line r.0 r.1) (closed name w)))) (sym k.0) (goal q.0 k.1)))

      given_instance : (name : Option Name) (is : List BodyItem) → list_all (λ (q : Quiet). q.in_instance) (map (quiet_item proto true) is) ≡ true → (w : Walk) → w.scope.interface ≡ []
          → ((all : List Filled) → Knows its all (found ds (writes is)) → X (body_in name w all)) → X ((inside name (OfProto the) the.interface (map item_part is) >>= close_instance name the) w)
      given_instance name is e w none goal =
          after (Inside × Walk) (Holds the proto true finds_nothing braces (length w.scope.braces) (given_by (writes is)) (begun name w))
          (inside name (OfProto the) the.interface (map item_part is) w) (λ q. close_instance name the q.0 q.1)
          (items_hold the proto true finds_nothing braces is e (length w.scope.braces) [] finds_nothing (begun name w) none (λ x t. tt))
          (λ q k. subst (λ u. X (close_instance name the q.0 u)) (sym k.walk)
          (subst (λ i. X (close_instance name the i (begun name w))) (sym k.is) (closed_instance name is w k.filled k.knows goal)))

      pub its_instance : (l : ℕ) (name : Option Name) (is : List BodyItem) → list_all (λ (q : Quiet). q.in_instance) (map (quiet_item proto true) is) ≡ true → (w : Walk) → w.scope.interface ≡ []
          → ((all : List Filled) → Knows its all (found ds (writes is)) → X (body_in name w all)) → X (full_node l name (map item_part is) (Some (OfProto the)) w)
      its_instance l name is e w none goal =
          after (Unit {0} × Walk) (λ q. q.1 ≡ w)
          (record { met = AnInstance ∷ []; comes = Ok (tt {0}, w) }) (λ q. (unless_twice [] the.interface >>= λ _. (inside name (OfProto the) the.interface (map item_part is) >>= close_instance name the)) q.1)
          refl
          (λ q k. subst (λ u. X ((unless_twice [] the.interface >>= λ _. (inside name (OfProto the) the.interface (map item_part is) >>= close_instance name the)) u)) (sym k)
          (after (Unit {0} × Walk) (λ r. r.1 ≡ w)
          (unless_twice [] the.interface w) (λ r. (inside name (OfProto the) the.interface (map item_part is) >>= close_instance name the) r.1)
          (unless_leads [] the.interface w)
          (λ r j. subst (λ u. X ((inside name (OfProto the) the.interface (map item_part is) >>= close_instance name the) u)) (sym j) (given_instance name is e w none goal))))
