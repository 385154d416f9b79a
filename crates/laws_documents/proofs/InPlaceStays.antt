-- A text without the prototype's name stays where the body is written in the place of instances.
use Rattle.std.proofs.Common.{◌≡◌, ℕ, Bool, true, false, if◌then◌else◌, List, [], ◌∷◌, Option, map, refl, ap, sym, ◌∙◌}
use Rattle.std.specs.List.{AllByRecursion, list_all}
use Rattle.std.specs.Str.{bytes_eq}
use Rattle.classic_tree.specs.declared.tree.BodyItem.{BodyItem}
use Rattle.classic_tree.specs.declared.tree.BodyItem.TheVariants as item_text
use Rattle.classic_tree.specs.declared.tree.Given.{Given}
use Rattle.classic_tree.specs.declared.tree.Given.TheVariants as given
use Rattle.classic_tree.specs.declared.tree.NodeText.{NodeText}
use Rattle.classic_tree.specs.declared.tree.NodeText.TheVariants as node_text
use Rattle.classic_tree.specs.declared.tree.ProtoText.{ProtoText}
use Rattle.classic_tree.specs.declared.tree.RawValue.TheVariants as value
use Rattle.classic_tree.specs.declared.tree.Statement.{Statement}
use Rattle.classic_tree.specs.declared.tree.Statement.TheVariants as statement_text
use Rattle.classic_tree.proofs.Mapped.{given_mapped}
use Rattle.proto_meaning.specs.Names.{Name}
use Rattle.proto_meaning.proofs.Induction.{OfGiven, Layers, every_statement}
use Rattle.laws_documents.specs.InPlace.{is_quiet_item, is_quiet_node, is_quiet_statement, written_item, written_node, written_statement}
use Rattle.laws_documents.specs.Steps.{is_true, all_in}
use Rattle.laws_documents.proofs.InPlaceTexts as texts
use Rattle.laws_documents.proofs.InPlaceParts.{never, both_true}

module _ (proto : Name) (body : NodeText) where
  abbrev Stays : NodeText → Type 0
  Stays n = is_quiet_node proto false n ≡ true → written_node proto body n ≡ n

  abbrev ItemStays : BodyItem → Type 0
  ItemStays i = is_quiet_item proto false i ≡ true → written_item proto body i ≡ i

  abbrev StatementStays : Statement → Type 0
  StatementStays s = is_quiet_statement proto false s ≡ true → written_statement proto body s ≡ s

  abbrev ProtoStays : ProtoText → Type 0
  ProtoStays p = Unit {0}

  nodes_stay : (ns : List NodeText) → AllByRecursion Stays ns → list_all is_true (map (is_quiet_node proto false) ns) ≡ true → map (written_node proto body) ns ≡ ns
  nodes_stay [] h e = refl
  nodes_stay (n ∷ ns) h e =
      let both = both_true (is_quiet_node proto false n) (list_all is_true (map (is_quiet_node proto false) ns)) e in
      ap (λ x. x ∷ map (written_node proto body) ns) (h.0 both.0) ∙ ap (λ xs. n ∷ xs) (nodes_stay ns h.1 both.1)

  given_stays : (g : Given NodeText) → OfGiven Stays g → all_in (given_mapped (is_quiet_node proto false) g) ≡ true → given_mapped (written_node proto body) g ≡ g
  given_stays given.Nothing h e = refl
  given_stays (given.Is name) h e = refl
  given_stays (given.Value value.Null) h e = refl
  given_stays (given.Value (value.Truth truth)) h e = refl
  given_stays (given.Value (value.String text)) h e = refl
  given_stays (given.Value (value.Numbers numbers)) h e = refl
  given_stays (given.Value (value.Node n)) h e = ap (λ x. given.Value (value.Node x)) (h e)
  given_stays (given.Value value.EmptyList) h e = refl
  given_stays (given.Value (value.TruthList truths)) h e = refl
  given_stays (given.Value (value.StringList texts)) h e = refl
  given_stays (given.Value (value.NumberList numbers)) h e = refl
  given_stays (given.Value (value.NodeList ns)) h e = ap (λ xs. given.Value (value.NodeList xs)) (nodes_stay ns h e)

  items_stay : (is : List BodyItem) → AllByRecursion ItemStays is → list_all is_true (map (is_quiet_item proto false) is) ≡ true → map (written_item proto body) is ≡ is
  items_stay [] h e = refl
  items_stay (i ∷ is) h e =
      let both = both_true (is_quiet_item proto false i) (list_all is_true (map (is_quiet_item proto false) is)) e in
      ap (λ x. x ∷ map (written_item proto body) is) (h.0 both.0) ∙ ap (λ xs. i ∷ xs) (items_stay is h.1 both.1)

  full_stays : (line : ℕ) (name : Option Name) (word : Name) (is : List BodyItem) → AllByRecursion ItemStays is → (b : Bool)
      → (if b then false else list_all is_true (map (is_quiet_item proto false) is)) ≡ true
      → (if b then body else node_text.Full line name word (map (written_item proto body) is)) ≡ node_text.Full line name word is
  full_stays line name word is h true e = never e
  full_stays line name word is h false e = ap (λ xs. node_text.Full line name word xs) (items_stay is h e)

  layers : Layers ItemStays Stays StatementStays ProtoStays
  layers = record {
    field = λ line name g h e. texts.written-field proto body line name g ∙ ap (λ x. item_text.Field line name x) (given_stays g h (sym (texts.quiet-field proto false line name g) ∙ e));
    declaration = λ d h e. texts.written-declaration proto body d ∙ ap (λ x. item_text.Declaration (record d { given = x })) (given_stays d.given h (sym (texts.quiet-declaration proto false d) ∙ e));
    item_route = λ r e. never (sym (texts.quiet-item-route proto false r) ∙ e);
    item_proto = λ p h e. never (sym (texts.quiet-item-proto proto false p) ∙ e);
    used = λ line name e. never (sym (texts.quiet-use proto false line name) ∙ e);
    full = λ line name word is h e. texts.written-full proto body line name word is ∙ full_stays line name word is h (bytes_eq proto word) (sym (texts.quiet-full proto false line name word is) ∙ e);
    node = λ n h e. texts.written-node proto body n ∙ ap (λ x. statement_text.Node x) (h (sym (texts.quiet-node proto false n) ∙ e));
    route = λ r e. never (sym (texts.quiet-route proto false r) ∙ e);
    proto = λ p h e. never (sym (texts.quiet-proto proto false p) ∙ e);
    prototype = λ p hd hs. tt;
  }

  pub statement_stays : (s : Statement) → StatementStays s
  statement_stays = every_statement ItemStays Stays StatementStays ProtoStays layers
