-- A declaration in which nothing is wrong: what is in sight behind it.
use Rattle.std.proofs.Common.{◌≡◌, ℕ, Bool, true, false, ◌||◌, if◌then◌else◌, List, [], ◌∷◌, Option, Some, None, option_map, Result, Ok, Err, map, refl, ap, sym, ◌∙◌, subst}
use Rattle.std.specs.Prelude.{is_some}
use Rattle.std.specs.List.{list_all, list_any}
use Rattle.std.specs.Option.{option_or}
use Rattle.std.specs.Str.{bytes_eq}
use Rattle.std.proofs.lemmas.Slice.Eq.{bytes_eq-Decides}
use Rattle.x3d_values.specs.Names.{node_type_named}
use Rattle.x3d_values.specs.declared.node_type.NodeType.{NodeType}
use Rattle.classic_tree.specs.declared.tree.BodyItem.TheOpen.{Statement-F}
use Rattle.classic_tree.specs.declared.tree.Declaration.{Declaration}
use Rattle.classic_tree.specs.declared.tree.Given.{Given}
use Rattle.classic_tree.specs.declared.tree.Given.TheVariants as given
use Rattle.classic_tree.specs.declared.tree.NodeText.{NodeText}
use Rattle.classic_tree.specs.declared.tree.ProtoText.{roll-ProtoText}
use Rattle.classic_tree.specs.declared.tree.RawValue.TheVariants as value
use Rattle.classic_tree.specs.declared.tree.Statement.TheVariants as statement_text
use Rattle.classic_tree.proofs.Mapped.{given_mapped, interface_mapped}
use Rattle.proto_flat.specs.Fault.{fault}
use Rattle.proto_flat.specs.declared.fault.ExpandFaultKind.TheVariants.{EmptyBody, ProtoTwice, ProtoItself}
use Rattle.proto_meaning.specs.Names.{Name}
use Rattle.proto_meaning.specs.Sight.{Prototype, Sight, Names, no_names, and_see, each, taking, Owner, OfType, OfProto, declared, meant}
use Rattle.proto_meaning.specs.Flat.{Node, Stated, given_sees, prototype, body_finds, body_sees, declare_body, declare, statement_step}
use Rattle.proto_meaning.specs.Flat.{node as node_part, statement as stated}
use Rattle.proto_meaning.proofs.Trees.{statement-node, statement-proto, proto-is, proto_of}
use Rattle.proto_meaning.proofs.SightLaw.{Seen}
use Rattle.laws_documents.specs.InPlace.{nothing_in_sight}
use Rattle.laws_documents.specs.WithFields.{is_plain, is_quiet_node}
use Rattle.laws_documents.proofs.InPlaceParts.{never, both_true}
use Rattle.laws_documents.proofs.WithFieldsTexts as texts
use Rattle.laws_documents.proofs.WithFieldsTexts.{joined, asked_by}
use Rattle.laws_documents.proofs.WithFieldsSeen.{bare, adds, adds_append, statement_takes}
use Rattle.laws_documents.proofs.WithFieldsGiven.{EndsIn}

-- ---- a declaration

none_is : (t : Option NodeType) → (is_some t || false) ≡ false → t ≡ None
none_is None e = refl
none_is (Some t) e = never (sym e)

same_test : (a b : Bool) → (b ≡ true → a ≡ true) → a ≡ false → b ≡ false
same_test a true h e = sym (h refl) ∙ e
same_test a false h e = refl

meant_or_none : (o : Option Owner) → option_or o None ≡ o
meant_or_none (Some o) = refl
meant_or_none None = refl

pub all_of_all : (xs : List Name) → list_all (λ (x : Name). true) xs ≡ true
all_of_all [] = refl
all_of_all (x ∷ xs) = all_of_all xs

module _ (line : ℕ) (proto : Name) (ds : List (Declaration NodeText)) (nodes : List NodeText) where
  abbrev pub parts : List (Declaration Node)
  parts = map (interface_mapped node_part) ds

  abbrev pub as_stated : NodeText → Stated
  as_stated n = statement_step (Statement-F.Node (node_part n))

  abbrev pub one_body : List Stated
  one_body = map as_stated nodes

  abbrev pub the_prototype : Names → Prototype
  the_prototype taken = prototype line proto parts one_body [] taken

  abbrev pub sight_with : Names → Sight
  sight_with taken = record { here = the_prototype taken ∷ []; outside = []; taken = no_names }

  abbrev pub its_names : Names
  its_names = adds (joined (map asked_by nodes)) no_names

  abbrev pub Sound : Sight → Type 0
  Sound sight = (sight ≡ sight_with its_names) × (node_type_named proto ≡ None)

  abbrev pub all_plain : Bool
  all_plain = list_all (λ (d : Declaration NodeText). is_plain d.given) ds

  plain_sees : (g : Given NodeText) → is_plain g ≡ true → (s : Sight) → given_sees (given_mapped node_part g) s ≡ Ok (record s { taken = taking (given_mapped node_part g) s.taken })
  plain_sees given.Nothing e s = refl
  plain_sees (given.Is name) e s = refl
  plain_sees (given.Value value.Null) e s = refl
  plain_sees (given.Value (value.Truth truth)) e s = refl
  plain_sees (given.Value (value.String text)) e s = refl
  plain_sees (given.Value (value.Numbers numbers)) e s = refl
  plain_sees (given.Value (value.Node n)) e s = never e
  plain_sees (given.Value value.EmptyList) e s = refl
  plain_sees (given.Value (value.TruthList truths)) e s = refl
  plain_sees (given.Value (value.StringList texts)) e s = refl
  plain_sees (given.Value (value.NumberList numbers)) e s = refl
  plain_sees (given.Value (value.NodeList ns)) e s = never e

  abbrev Declares : List (Declaration NodeText) → Sight → Type 0
  Declares cs s = (taken : Names) × (each (λ (d : Declaration Node). given_sees d.given) (map (interface_mapped node_part) cs) s ≡ Ok (record s { taken = taken }))

  pub defaults_see : (cs : List (Declaration NodeText)) → list_all (λ (d : Declaration NodeText). is_plain d.given) cs ≡ true → (s : Sight) → Declares cs s
  defaults_see [] e s = (s.taken, refl)
  defaults_see (c ∷ cs) e s =
      let both = both_true (is_plain c.given) (list_all (λ (d : Declaration NodeText). is_plain d.given) cs) e in
      let rest = defaults_see cs both.1 (record s { taken = taking (given_mapped node_part c.given) s.taken }) in
      (rest.0, ap (λ r. and_see r (each (λ (d : Declaration Node). given_sees d.given) (map (interface_mapped node_part) cs))) (plain_sees c.given both.0 s) ∙ rest.1)

  abbrev pub all_quiet : Bool
  all_quiet = list_all (is_quiet_node proto false) nodes

  one_takes : (n : NodeText) → is_quiet_node proto false n ≡ true → (taken : Names) → (as_stated n).1.sees (bare taken) ≡ Ok (bare (adds (asked_by n) taken))
  one_takes n quiet taken =
      sym (ap (λ (x : Stated). x.1.sees (bare taken)) (statement-node n refl))
      ∙ statement_takes proto (statement_text.Node n) (texts.quiet-node proto false n ∙ quiet) taken
      ∙ ap (λ names. Ok (bare (adds names taken))) (texts.asked-node n)

  nodes_take : (ns : List NodeText) → list_all (is_quiet_node proto false) ns ≡ true → (taken : Names) → each (λ (s : Stated). s.1.sees) (map as_stated ns) (bare taken) ≡ Ok (bare (adds (joined (map asked_by ns)) taken))
  nodes_take [] e taken = refl
  nodes_take (n ∷ ns) e taken =
      let both = both_true (is_quiet_node proto false n) (list_all (is_quiet_node proto false) ns) e in
      ap (λ r. and_see r (each (λ (s : Stated). s.1.sees) (map as_stated ns))) (one_takes n both.0 taken)
      ∙ nodes_take ns both.1 (adds (asked_by n) taken) ∙ ap (λ x. Ok (bare x)) (sym (adds_append (asked_by n) (joined (map asked_by ns)) taken))

  pub body_takes : all_plain ≡ true → all_quiet ≡ true → body_sees line proto parts one_body nothing_in_sight ≡ Ok (bare its_names)
  body_takes plain quiet =
      let defaults = defaults_see ds plain nothing_in_sight in
      ap (λ r. and_see (and_see r (λ (t : Sight). Ok (record t { taken = no_names }))) (each (λ (s : Stated). s.1.sees) one_body)) defaults.1
      ∙ nodes_take nodes quiet no_names

  -- by the search for an instance of itself, and whether a node stands in the body
  abbrev declared_by : Result Bool ℕ → Bool → Seen
  declared_by (Err itself) c = Err (fault ProtoItself itself)
  declared_by (Ok hidden) c =
      if c then and_see (body_sees line proto parts one_body nothing_in_sight) (λ (t : Sight). Ok (record nothing_in_sight { here = the_prototype t.taken ∷ [] })) else Err (fault EmptyBody line)

  declared_is : (r : Result Bool ℕ) → declare_body line proto parts one_body r nothing_in_sight ≡ declared_by r (list_any (λ (x : Stated). x.0) one_body)
  declared_is (Err itself) = refl
  declared_is (Ok hidden) = refl

  pub declare_sound : all_plain ≡ true → all_quiet ≡ true → EndsIn Sound (declare line proto parts one_body nothing_in_sight)
  declare_sound plain quiet =
      subst (λ r. EndsIn Sound (if is_some (node_type_named proto) || false then Err (fault ProtoTwice line) else r)) (sym (declared_is (body_finds line proto parts one_body proto false)))
      (on (is_some (node_type_named proto) || false) (body_finds line proto parts one_body proto false) (list_any (λ (x : Stated). x.0) one_body) refl) where
        found_in : (c : Bool) → node_type_named proto ≡ None → EndsIn Sound (if c then and_see (body_sees line proto parts one_body nothing_in_sight) (λ (t : Sight). Ok (record nothing_in_sight { here = the_prototype t.taken ∷ [] })) else Err (fault EmptyBody line))
        found_in true word = subst (λ r. EndsIn Sound (and_see r (λ (t : Sight). Ok (record nothing_in_sight { here = the_prototype t.taken ∷ [] })))) (sym (body_takes plain quiet)) (refl, word)
        found_in false word = tt

        on : (b : Bool) (r : Result Bool ℕ) (c : Bool) → (is_some (node_type_named proto) || false) ≡ b
            → EndsIn Sound (if b then Err (fault ProtoTwice line) else declared_by r c)
        on true r c e = tt
        on false (Err itself) c e = tt
        on false (Ok hidden) c e = found_in c (none_is (node_type_named proto) e)

  pub all_stated : (ns : List NodeText) → map stated (map (λ n. statement_text.Node n) ns) ≡ map as_stated ns
  all_stated [] = refl
  all_stated (n ∷ ns) = ap (λ (x : Stated). x ∷ map stated (map (λ m. statement_text.Node m) ns)) (statement-node n refl) ∙ ap (λ xs. as_stated n ∷ xs) (all_stated ns)

  abbrev pub declares : Stated
  declares = statement_step (Statement-F.Statement::Proto (proto_of line proto parts one_body))

  pub declaration_is : stated (statement_text.Proto (roll-ProtoText (record { line = line; name = proto; interface = ds; body = map (λ n. statement_text.Node n) nodes }))) ≡ declares
  declaration_is =
      statement-proto _ refl ∙ ap (λ q. statement_step (Statement-F.Statement::Proto q)) (proto-is line proto ds (map (λ n. statement_text.Node n) nodes) refl (all_stated nodes))

  -- ---- what words mean

  one_declared : (word : Name) (taken : Names) (b : Bool) → bytes_eq word proto ≡ b → declared word (the_prototype taken ∷ []) ≡ (if b then Some (the_prototype taken) else None)
  one_declared word taken b e = ap (λ c. if c then Some (the_prototype taken) else None) e

  pub other_words : (taken : Names) (word : Name) → bytes_eq proto word ≡ false → meant word (sight_with taken) ≡ option_map OfType (node_type_named word)
  other_words taken word e =
      ap (λ p. option_or (option_map OfType (node_type_named word)) (option_map OfProto p))
      (one_declared word taken false (same_test (bytes_eq proto word) (bytes_eq word proto) (λ h. (bytes_eq-Decides proto word).1 (sym ((bytes_eq-Decides word proto).0 h))) e))
      ∙ meant_or_none (option_map OfType (node_type_named word))

  pub its_word : (taken : Names) → node_type_named proto ≡ None → meant proto (sight_with taken) ≡ Some (OfProto (the_prototype taken))
  its_word taken word =
      ap (λ t. option_or (option_map OfType t) (option_map OfProto (declared proto (the_prototype taken ∷ [])))) word
      ∙ ap (λ p. option_map OfProto p) (one_declared proto taken true ((bytes_eq-Decides proto proto).1 refl))

  pub nothing_meant : (word : Name) → bytes_eq proto word ≡ false → meant word nothing_in_sight ≡ option_map OfType (node_type_named word)
  nothing_meant word e = meant_or_none (option_map OfType (node_type_named word))
