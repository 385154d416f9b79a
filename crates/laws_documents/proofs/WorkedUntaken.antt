-- What `with_untaken` does to an instance with one field: a value that no IS takes is changed, one that
-- some IS takes stays, and so does a value of a node.
use Rattle.std.proofs.Common.{◌≡◌, ℕ, Bool, true, false, List, [], ◌∷◌, Option, Some, None, ap, ◌∙◌}
use Rattle.classic_tree.specs.declared.tree.BodyItem.{BodyItem}
use Rattle.classic_tree.specs.declared.tree.BodyItem.TheVariants as item
use Rattle.classic_tree.specs.declared.tree.Given.TheVariants as given
use Rattle.classic_tree.specs.declared.tree.NodeText.{NodeText}
use Rattle.classic_tree.specs.declared.tree.NodeText.TheVariants as node
use Rattle.classic_tree.specs.declared.tree.RawValue.TheVariants as value
use Rattle.proto_meaning.specs.Names.{Name}
use Rattle.proto_meaning.specs.Sight.{Sight, Prototype, Owner, OfProto, meant, taken_by, is_kept}
use Rattle.laws_documents.specs.Untaken.{unless_kept, blanked, node_at}
use Rattle.laws_documents.proofs.UntakenTexts.{at-field, at-full}

-- an instance or a node, with a string in a field
abbrev with_string : ℕ → Name → Name → List ℕ → NodeText
with_string line word field text =
    node.Full line None word (item.Field line field (given.Value (value.String text)) ∷ [])

abbrev with_null : ℕ → Name → Name → NodeText
with_null line word field =
    node.Full line None word (item.Field line field (given.Value value.Null) ∷ [])

one_item : (line : ℕ) (word field : Name) (text : List ℕ) (s : Sight) (o : Option Owner) (kept : Bool) → meant word s ≡ o → is_kept (taken_by o) field ≡ kept
    → node_at blanked (with_string line word field text) s ≡ node.Full line None word (item.Field line field (unless_kept blanked kept line field (given.Value (value.String text))) ∷ [])
one_item line word field text s o kept e k =
    at-full blanked line None word (item.Field line field (given.Value (value.String text)) ∷ []) s
    ∙ ap (λ (i : BodyItem). node.Full line None word (i ∷ [])) (at-field blanked line field (given.Value (value.String text)) (taken_by (meant word s)) s
    ∙ ap (λ b. item.Field line field (unless_kept blanked b line field (given.Value (value.String text)))) (ap (λ x. is_kept (taken_by x) field) e ∙ k))

pub untaken_is_blanked : (line : ℕ) (word field : Name) (text : List ℕ) (s : Sight) (p : Prototype) → meant word s ≡ Some (OfProto p) → p.takes field ≡ false → node_at blanked (with_string line word field text) s ≡ with_null line word field
untaken_is_blanked line word field text s p e k = one_item line word field text s (Some (OfProto p)) false e k

pub taken_stays : (line : ℕ) (word field : Name) (text : List ℕ) (s : Sight) (p : Prototype) → meant word s ≡ Some (OfProto p) → p.takes field ≡ true → node_at blanked (with_string line word field text) s ≡ with_string line word field text
taken_stays line word field text s p e k = one_item line word field text s (Some (OfProto p)) true e k
