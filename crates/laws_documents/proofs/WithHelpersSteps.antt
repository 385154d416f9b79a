-- An instance is all nodes of its prototype's body written in its place: statements.
use Rattle.std.proofs.Common.{◌≡◌, inl, inr, ℕ, List, [], ◌∷◌, ◌++◌, Option, refl, ap, sym, ◌∙◌, subst}
use Rattle.std.proofs.Math.Path.{fun_ext}
use Rattle.classic_tree.specs.declared.tree.BodyItem.{BodyItem}
use Rattle.classic_tree.specs.declared.tree.BodyItem.TheOpen.{NodeText-F, Statement-F}
use Rattle.classic_tree.specs.declared.tree.NodeText.{NodeText, out-NodeText, roll-NodeText, out-roll-NodeText, roll-out-NodeText}
use Rattle.classic_tree.specs.declared.tree.NodeText.TheVariants as node_text
use Rattle.classic_tree.specs.declared.tree.ProtoText.{ProtoText}
use Rattle.classic_tree.specs.declared.tree.RouteText.{RouteText}
use Rattle.classic_tree.specs.declared.tree.Statement.{Statement, out-Statement, roll-Statement, roll-out-Statement}
use Rattle.classic_tree.specs.declared.tree.Statement.TheVariants as statement_text
use Rattle.proto_meaning.specs.Limits.{Outcome, and_then}
use Rattle.proto_meaning.specs.Names.{Name}
use Rattle.proto_meaning.specs.Flat.{Walk, Does, ◌>>=◌, pure, through, Stated}
use Rattle.laws_documents.specs.WithHelpers.{Shuffled}
use Rattle.laws_documents.proofs.WithFieldsSteps.{then_then}

-- ---- shuffled lists

pub shuffled_more : (a b c xs ys zs : List ℕ) → Shuffled a b c → Shuffled xs ys zs → Shuffled (a ++ xs) (b ++ ys) (c ++ zs)
shuffled_more a b [] xs ys zs h k = subst (λ l. Shuffled (l ++ xs) (b ++ ys) zs) (sym h.0) (subst (λ l. Shuffled xs (l ++ ys) zs) (sym h.1) k)
shuffled_more a b (z ∷ c) xs ys zs (inl h) k = inl (h.0 ++ xs, ap (λ l. l ++ xs) h.1, shuffled_more h.0 b c xs ys zs h.2 k)
shuffled_more a b (z ∷ c) xs ys zs (inr h) k = inr (h.0 ++ ys, ap (λ l. l ++ ys) h.1, shuffled_more a h.0 c xs ys zs h.2 k)

pub first_alone : (xs : List ℕ) → Shuffled xs [] xs
first_alone [] = (refl, refl)
first_alone (x ∷ xs) = inl (xs, refl, first_alone xs)

pub second_alone : (ys : List ℕ) → Shuffled [] ys ys
second_alone [] = (refl, refl)
second_alone (y ∷ ys) = inr (ys, refl, second_alone ys)

-- ---- statements, by their variants

pub each_node : (P : NodeText → Type 0) → ((l : ℕ) (name : Option Name) (word : Name) (is : List BodyItem) → P (node_text.Full l name word is)) → ((l : ℕ) (name : Name) → P (node_text.Use l name)) → (n : NodeText) → P n
each_node P full used n = subst P (roll-out-NodeText n) (on (out-NodeText n)) where
  on : (x : NodeText-F BodyItem NodeText Statement ProtoText) → P (roll-NodeText x)
  on (NodeText-F.Full l name word is) = subst P (sym (node_text.rolls-Full l name word is)) (full l name word is)
  on (NodeText-F.Use l name) = subst P (sym (node_text.rolls-Use l name)) (used l name)

pub each_statement : (P : Statement → Type 0) → ((l : ℕ) (name : Option Name) (word : Name) (is : List BodyItem) → P (statement_text.Node (node_text.Full l name word is))) → ((l : ℕ) (name : Name) → P (statement_text.Node (node_text.Use l name)))
    → ((r : RouteText) → P (statement_text.Route r)) → ((p : ProtoText) → P (statement_text.Proto p)) → (s : Statement) → P s
each_statement P full used route proto s = subst P (roll-out-Statement s) (on (out-Statement s)) where
  on : (x : Statement-F BodyItem NodeText Statement ProtoText) → P (roll-Statement x)
  on (Statement-F.Node n) = subst P (sym (statement_text.rolls-Node n)) (each_node (λ m. P (statement_text.Node m)) full used n)
  on (Statement-F.Statement::Route r) = subst P (sym (statement_text.rolls-Route r)) (route r)
  on (Statement-F.Statement::Proto p) = subst P (sym (statement_text.rolls-Proto p)) (proto p)

pub out_full : (l : ℕ) (name : Option Name) (word : Name) (is : List BodyItem) → out-NodeText (node_text.Full l name word is) ≡ NodeText-F.Full l name word is
out_full l name word is = ap out-NodeText (sym (node_text.rolls-Full l name word is)) ∙ out-roll-NodeText (NodeText-F.Full l name word is)

abbrev pub root : Stated → List ℕ → Does (List ℕ)
root s roots = s.1.does >>= λ ns. pure (roots ++ ns)

-- one part after the other
pub through_more : (xs ys : List Stated) (roots : List ℕ) (w : Walk) → through root (xs ++ ys) roots w ≡ and_then (through root xs roots w) (λ q. through root ys q.0 q.1)
through_more [] ys roots w = refl
through_more (x ∷ xs) ys roots w =
    ap (λ (f : List ℕ × Walk → Outcome (List ℕ × Walk)). and_then (root x roots w) f) (fun_ext (λ q. through_more xs ys q.0 q.1))
    ∙ sym (then_then (root x roots w) (λ q. through root xs q.0 q.1) (λ q. through root ys q.0 q.1))
