-- A default value that an instance gives is written where the default would be.
use Rattle.std.proofs.Common.{◌≡◌, ℕ, Bool, true, false, ◌&&◌, if◌then◌else◌, List, [], ◌∷◌, ◌++◌, map, Option, Some, None, Result, Ok, Err, refl, ap, sym, ◌∙◌, subst}
use Rattle.std.proofs.Math.Path.{fun_ext}
use Rattle.std.proofs.lemmas.List.{map-append}
use Rattle.std.proofs.lemmas.List.Elements.{filter_map-append}
use Rattle.std.proofs.lemmas.List.Folds.{list_all-append}
use Rattle.std.proofs.lemmas.Option.{same_Some}
use Rattle.std.proofs.lemmas.Slice.Eq.{bytes_eq-Decides}
use Rattle.std.specs.List.{list_all}
use Rattle.std.specs.Option.{option_or}
use Rattle.std.specs.Str.{bytes_eq}
use Rattle.classic_tree.specs.declared.tree.BodyItem.{BodyItem, out-BodyItem}
use Rattle.classic_tree.specs.declared.tree.BodyItem.TheVariants as item
use Rattle.classic_tree.specs.declared.tree.Declaration.{Declaration}
use Rattle.classic_tree.specs.declared.tree.Given.{Given}
use Rattle.classic_tree.specs.declared.tree.Given.TheVariants as given
use Rattle.classic_tree.specs.declared.tree.NodeText.{NodeText}
use Rattle.classic_tree.specs.declared.tree.NodeText.TheVariants as node
use Rattle.classic_tree.specs.declared.tree.RawValue.{RawValue}
use Rattle.classic_tree.specs.declared.tree.Statement.{Statement}
use Rattle.classic_tree.specs.declared.tree.Statement.TheVariants as statement
use Rattle.proto_flat.specs.declared.fault.ExpandFault.{ExpandFault}
use Rattle.proto_flat.specs.declared.flat.Flat.{Flat}
use Rattle.proto_meaning.specs.Names.{Name}
use Rattle.proto_meaning.specs.Flat.{flat}
use Rattle.laws_documents.specs.GivenDefaults.{DefaultsMayBeGiven, and_given, instance}
use Rattle.laws_documents.specs.WithFields.{Braces, Finds, Quiet, as_written, body_for, default_of, field_of, finds_nothing, found, given_by, gives, in_place, is_plain, is_quiet_statement, named, quiet_item, replaced, those_there, value_in, written_item, written_node, written_statement}
use Rattle.laws_documents.proofs.InPlaceParts.{both_true}
use Rattle.laws_documents.proofs.WithFieldsGiven.{or_assoc, or_none, plain_stays}
use Rattle.laws_documents.proofs.WithFieldsItems.{out_field}
use Rattle.laws_documents.proofs.WithFieldsTexts as texts
use Rattle.laws_documents.proofs.WithFieldsWhole.{instances_with_fields_are_their_bodies}

-- ---- what an instance gives, or the default

abbrev value_if : Bool → RawValue NodeText → Option (RawValue NodeText)
value_if b v = if b then Some v else None

default_plain : (ds : List (Declaration NodeText)) (field : Name) (v : RawValue NodeText) → list_all (λ (i : Declaration NodeText). is_plain i.given) ds ≡ true
    → default_of ds field ≡ Some v → is_plain (given.Value v) ≡ true
default_plain [] field v all e = absurd cc
default_plain (d ∷ ds) field v all e =
    let both = both_true (is_plain d.given) (list_all (λ (i : Declaration NodeText). is_plain i.given) ds) all in
    on (bytes_eq d.name field) d.given both.0 (default_plain ds field v both.1) e where
      on : (b : Bool) (g : Given NodeText) → is_plain g ≡ true → (default_of ds field ≡ Some v → is_plain (given.Value v) ≡ true)
          → option_or (if b then value_in g else None) (default_of ds field) ≡ Some v → is_plain (given.Value v) ≡ true
      on false g p rest h = rest h
      on true given.Nothing p rest h = rest h
      on true (given.Is name) p rest h = rest h
      on true (given.Value u) p rest h = subst (λ (z : RawValue NodeText). is_plain (given.Value z) ≡ true) (same_Some u v h) p

given_pushed : (xs : List BodyItem) (i : BodyItem) (name : Name) → given_by (xs ++ i ∷ []) name ≡ option_or (given_by xs name) (gives name (out-BodyItem i))
given_pushed [] i name = or_none (gives name (out-BodyItem i))
given_pushed (x ∷ xs) i name =
    ap (option_or (gives name (out-BodyItem x))) (given_pushed xs i name)
    ∙ sym (or_assoc (gives name (out-BodyItem x)) (given_by xs name) (gives name (out-BodyItem i)))

default_again : (ds : List (Declaration NodeText)) (field : Name) (v : RawValue NodeText) → default_of ds field ≡ Some v → (name : Name)
    → option_or (value_if (bytes_eq field name) v) (default_of ds name) ≡ default_of ds name
default_again ds field v e name = on (bytes_eq field name) refl where
  on : (b : Bool) → bytes_eq field name ≡ b → option_or (value_if b v) (default_of ds name) ≡ default_of ds name
  on false h = refl
  on true h = sym e ∙ ap (default_of ds) ((bytes_eq-Decides field name).0 h)

found_same : (ds : List (Declaration NodeText)) (xs : List BodyItem) (below : ℕ) (field : Name) (v : RawValue NodeText) → default_of ds field ≡ Some v → (name : Name)
    → found ds (and_given xs below field v) name ≡ found ds xs name
found_same ds xs below field v e name =
    ap (λ o. option_or o (default_of ds name))
    (given_pushed xs (item.Field below field (given.Value v)) name
    ∙ ap (λ y. option_or (given_by xs name) (gives name y)) (out_field below field (given.Value v)))
    ∙ (or_assoc (given_by xs name) (value_if (bytes_eq field name) v) (default_of ds name)
    ∙ ap (option_or (given_by xs name)) (default_again ds field v e name))

-- ---- the text

abbrev flat_or : Flat → Result Flat ExpandFault → Flat
flat_or f (Ok g) = g
flat_or f (Err e) = f

module _ (proto : Name) (interface : List (Declaration NodeText)) (body : NodeText) (at : ℕ) (name : Option Name) (items : List BodyItem) (below : ℕ) (field : Name) (v : RawValue NodeText)
    (plain : is_plain (given.Value v) ≡ true) (default : default_of interface field ≡ Some v) where
  abbrev braces : Braces
  braces = in_place proto interface body

  abbrev new : BodyItem → Option BodyItem
  new = written_item finds_nothing braces

  abbrev its : BodyItem
  its = item.Field below field (given.Value v)

  is_proto : bytes_eq proto proto ≡ true
  is_proto = (bytes_eq-Decides proto proto).1 refl

  its_same : new its ≡ Some its
  its_same =
      texts.written-field finds_nothing braces below field (given.Value v)
      ∙ ap (λ g. field_of below field (replaced finds_nothing g)) (plain_stays (written_node finds_nothing braces) v plain)

  items_pushed : those_there (map new (items ++ its ∷ [])) ≡ those_there (map new items) ++ its ∷ []
  items_pushed =
      ap those_there (map-append new items (its ∷ []))
      ∙ (filter_map-append (λ (i : Option BodyItem). i) (map new items) (new its ∷ [])
      ∙ ap (λ (o : Option BodyItem). those_there (map new items) ++ those_there (o ∷ [])) its_same)

  body_same : (xs : List BodyItem) → body_for interface body name (xs ++ its ∷ []) ≡ body_for interface body name xs
  body_same xs = ap (λ (f : Finds). named name (written_node f as_written body)) (fun_ext (found_same interface xs below field v default))

  braces_same : (xs : List BodyItem) → braces at name proto (xs ++ its ∷ []) ≡ braces at name proto xs
  braces_same xs =
      ap (λ (b : Bool). if b then body_for interface body name (xs ++ its ∷ []) else as_written at name proto (xs ++ its ∷ [])) is_proto
      ∙ (body_same xs
      ∙ sym (ap (λ (b : Bool). if b then body_for interface body name xs else as_written at name proto xs) is_proto))

  node_same : written_node finds_nothing braces (node.Full at name proto (items ++ its ∷ [])) ≡ written_node finds_nothing braces (node.Full at name proto items)
  node_same =
      texts.written-full finds_nothing braces at name proto (items ++ its ∷ [])
      ∙ (ap (braces at name proto) items_pushed
      ∙ (braces_same (those_there (map new items))
      ∙ sym (texts.written-full finds_nothing braces at name proto items)))

  abbrev write : Statement → Statement
  write = written_statement finds_nothing braces

  one_same : write (instance at name proto (items ++ its ∷ [])) ≡ write (instance at name proto items)
  one_same =
      texts.written-node finds_nothing braces (node.Full at name proto (items ++ its ∷ []))
      ∙ (ap (λ n. statement.Node n) node_same
      ∙ sym (texts.written-node finds_nothing braces (node.Full at name proto items)))

  pub all_same : (before after : List Statement)
      → map write (before ++ instance at name proto (items ++ its ∷ []) ∷ after) ≡ map write (before ++ instance at name proto items ∷ after)
  all_same before after =
      map-append write before (instance at name proto (items ++ its ∷ []) ∷ after)
      ∙ (ap (λ (s : Statement). map write before ++ s ∷ map write after) one_same
      ∙ sym (map-append write before (instance at name proto items ∷ after)))

  -- ---- without the field it is of the class too

  abbrev may : Statement → Bool
  may = is_quiet_statement proto true

  abbrev all_may : List BodyItem → Bool
  all_may is = list_all (λ (q : Quiet). q.in_instance) (map (quiet_item proto true) is)

  quiet_is : (is : List BodyItem) → may (instance at name proto is) ≡ all_may is
  quiet_is is =
      texts.quiet-node proto true (node.Full at name proto is)
      ∙ (texts.quiet-full proto true at name proto is
      ∙ ap (λ (b : Bool). if b then true && all_may is else list_all (λ (q : Quiet). q.anywhere) (map (quiet_item proto true) is)) is_proto)

  fewer_may : all_may (items ++ its ∷ []) ≡ true → all_may items ≡ true
  fewer_may h =
      (both_true (all_may items) (all_may (its ∷ []))
      (sym (list_all-append (λ (q : Quiet). q.in_instance) (map (quiet_item proto true) items) (map (quiet_item proto true) (its ∷ [])))
      ∙ (sym (ap (list_all (λ (q : Quiet). q.in_instance)) (map-append (quiet_item proto true) items (its ∷ []))) ∙ h))).0

  pub still_quiet : (before after : List Statement) → list_all may (before ++ instance at name proto (items ++ its ∷ []) ∷ after) ≡ true
      → list_all may (before ++ instance at name proto items ∷ after) ≡ true
  still_quiet before after h =
      let parts = both_true (list_all may before) (list_all may (instance at name proto (items ++ its ∷ []) ∷ after))
      (sym (list_all-append may before (instance at name proto (items ++ its ∷ []) ∷ after)) ∙ h) in
      let there = both_true (may (instance at name proto (items ++ its ∷ []))) (list_all may after) parts.1 in
      let one : may (instance at name proto items) ≡ true = quiet_is items ∙ fewer_may (sym (quiet_is (items ++ its ∷ [])) ∙ there.0) in
      list_all-append may before (instance at name proto items ∷ after)
      ∙ (ap (λ (b : Bool). b && (may (instance at name proto items) && list_all may after)) parts.0
      ∙ (ap (λ (b : Bool). b && list_all may after) one ∙ there.1))

pub defaults_may_be_given : DefaultsMayBeGiven
defaults_may_be_given d line proto interface body before after at name items below field v f g all_plain quiet all_quiet default one two =
    let plain = default_plain interface field v all_plain default in
    let first = instances_with_fields_are_their_bodies d line proto interface body (before ++ instance at name proto items ∷ after) f all_plain quiet
    (still_quiet proto interface body at name items below field v plain default before after all_quiet) one in
    let second = instances_with_fields_are_their_bodies d line proto interface body (before ++ instance at name proto (and_given items below field v) ∷ after) g all_plain quiet all_quiet two in
    let same : map (written_statement finds_nothing (in_place proto interface body)) (before ++ instance at name proto (and_given items below field v) ∷ after)
    ≡ map (written_statement finds_nothing (in_place proto interface body)) (before ++ instance at name proto items ∷ after) =
    all_same proto interface body at name items below field v plain default before after in
    ap (flat_or f) (sym first ∙ (sym (ap (λ (ss : List Statement). flat (record d { statements = ss })) same) ∙ second))
