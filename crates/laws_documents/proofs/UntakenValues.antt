-- Values come to the same with other values where no IS takes them, and declare the same.
use Rattle.std.proofs.Common.{◌≡◌, ℕ, Bool, suc, List, [], ◌∷◌, ◌++◌, length, Option, Some, None, Result, Ok, map, refl, ap, sym, ◌∙◌}
use Rattle.x3d_values.specs.Names.{node_type_named}
use Rattle.classic_tree.specs.declared.tree.BodyItem.{BodyItem}
use Rattle.classic_tree.specs.declared.tree.Given.{Given}
use Rattle.classic_tree.specs.declared.tree.Given.TheVariants as given
use Rattle.classic_tree.specs.declared.tree.NodeText.{NodeText}
use Rattle.classic_tree.specs.declared.tree.RawValue.{RawValue}
use Rattle.classic_tree.specs.declared.tree.RawValue.TheVariants as value
use Rattle.classic_tree.proofs.Mapped.{given_mapped}
use Rattle.proto_meaning.specs.Names.{Name}
use Rattle.proto_meaning.specs.Sight.{Sight, Look, Names, Search, and_see, each, aside, taken_by}
use Rattle.proto_meaning.specs.Flat.{Walk, pure, through, Node, Item, Proto, Inside, given_finds, given_sees, put_in}
use Rattle.proto_meaning.specs.Flat.{item as item_part, node as node_part}
use Rattle.proto_meaning.proofs.Induction.{OfGiven}
use Rattle.proto_meaning.proofs.SightLaw.{bare, Free, Follows, Any, GoodNode, GoodItem, then_follows, then_still}
use Rattle.laws_documents.specs.Untaken.{Change, KeepsDeclarations, NodeAt, given_declares, given_holds, past, in_turn, given_at, item_at, node_at}
use Rattle.laws_documents.proofs.Same.{Alike, through_same, each_same, steady_free, through_follows, steady_in_turn, finds_in_turn, same_then}
use Rattle.laws_documents.proofs.UntakenGiven.{node_sees, put_next, SteadyNode, SteadyNodes, value_sees, SameValue, SameGiven, DeclaresSame}

-- ---- nodes

pub record SameNode (s : Sight) (m n : Node) : Type 0 where
  pub finds : (own : Name) → node_type_named own ≡ None → (hidden : Bool) → n.finds own hidden ≡ m.finds own hidden
  pub seen : (t : Sight) → Alike s t → n.sees t ≡ m.sees t
  pub done : (w : Walk) → Alike s w.sight → n.does w ≡ m.does w

-- where these braces take that
pub record SameItem (taken : Option Names) (s : Sight) (m n : Item) : Type 0 where
  pub finds : (own : Name) → node_type_named own ≡ None → (hidden : Bool) → n.finds own hidden ≡ m.finds own hidden
  pub seen : (t : Sight) → Alike s t → n.sees taken t ≡ m.sees taken t
  pub done : (b : Inside) → taken_by (Some b.owner) ≡ taken → (w : Walk) → Alike s w.sight → n.does b w ≡ m.does b w

pub record SameProto (s : Sight) (m n : Proto) : Type 0 where
  pub finds : (own : Name) → node_type_named own ≡ None → (hidden : Bool) → n.finds own hidden ≡ m.finds own hidden
  pub seen : (t : Sight) → Alike s t → n.sees t ≡ m.sees t
  pub done : (w : Walk) → Alike s w.sight → n.does w ≡ m.does w

steady_node : (s : Sight) (m n : Node) → GoodNode m → SameNode s m n → SteadyNode s m n
steady_node s m n good same =
    record {
      free = good.free;
      follows = λ ns _. then_still Any Any m.does (λ k. pure (ns ++ k ∷ [])) m.sees good.follows (λ k _ w. (tt, refl));
      seen = same.seen;
      done = λ ns _ w e. same_then m.does n.does (λ k. pure (ns ++ k ∷ [])) w (same.done w e);
    }

-- ---- values

plain_value : (s : Sight) (v : RawValue Node) → Follows Any (put_in v) (value_sees v) → Free (value_sees v) → SameValue s v v
plain_value s v follows free = record { count = refl; seen = λ t e. refl; put = λ w e. refl; free = free; follows = follows }

one_node : (s : Sight) (m n : Node) → GoodNode m → SameNode s m n → SameValue s (value.Node m) (value.Node n)
one_node s m n good same =
    let one : SteadyNodes s (m ∷ []) (n ∷ []) = (steady_node s m n good same, tt) in
    record {
      count = refl;
      seen = each_same node_sees put_next Any s (m ∷ []) (n ∷ []) one;
      put = λ w e. same_then m.does n.does (λ k. pure (value.Node k)) w (same.done w e);
      free = steady_free node_sees put_next Any s (m ∷ []) (n ∷ []) one;
      follows = then_follows Any Any m.does (λ k. pure (value.Node k)) m.sees (each node_sees []) (λ t. refl) good.follows (λ k _ w. (tt, refl));
    }

steady_length : (s : Sight) (ms ns : List Node) → SteadyNodes s ms ns → length ns ≡ length ms
steady_length s [] [] h = refl
steady_length s [] (n ∷ ns) h = absurd h
steady_length s (m ∷ ms) [] h = absurd h
steady_length s (m ∷ ms) (n ∷ ns) h = ap suc (steady_length (past (node_sees n) s) ms ns h.1)

node_list : (s : Sight) (ms ns : List Node) → SteadyNodes s ms ns → SameValue s (value.NodeList ms) (value.NodeList ns)
node_list s ms ns h =
    record {
      count = steady_length s ms ns h;
      seen = each_same node_sees put_next Any s ms ns h;
      put = λ w e. same_then (through put_next ms []) (through put_next ns []) (λ ks. pure (value.NodeList ks)) w (through_same node_sees put_next Any s ms ns h [] tt w e);
      free = steady_free node_sees put_next Any s ms ns h;
      follows = then_still Any Any (through put_next ms []) (λ ks. pure (value.NodeList ks)) (each node_sees ms) (through_follows node_sees put_next Any s ms ns h [] tt) (λ ks _ w. (tt, refl));
    }

module _ (change : Change) (keeps : KeepsDeclarations change) where
  abbrev pub OfNode : NodeText → Type 0
  OfNode n = GoodNode (node_part n) × ((s : Sight) → SameNode s (node_part n) (node_part (node_at change n s)))

  abbrev pub OfItem : BodyItem → Type 0
  OfItem i = GoodItem (item_part i) × ((taken : Option Names) (s : Sight) → SameItem taken s (item_part i) (item_part (item_at change i taken s)))

  one_by_one : (n : NodeText) → OfNode n → (s : Sight) → SteadyNode s (node_part n) (node_part (node_at change n s))
  one_by_one n h s = steady_node s (node_part n) (node_part (node_at change n s)) h.0 (h.1 s)

  abbrev pub given_then : Given NodeText → Sight → Given NodeText
  given_then g s = given_at (given_mapped (node_at change) g) s

  pub given_steady : (g : Given NodeText) → OfGiven OfNode g → (s : Sight) → SameGiven s (given_mapped node_part g) (given_mapped node_part (given_then g s))
  given_steady given.Nothing h s = tt
  given_steady (given.Is name) h s = refl
  given_steady (given.Value value.Null) h s = plain_value s value.Null (λ w. (tt, refl)) (λ t. refl)
  given_steady (given.Value (value.Truth truth)) h s = plain_value s (value.Truth truth) (λ w. (tt, refl)) (λ t. refl)
  given_steady (given.Value (value.String text)) h s = plain_value s (value.String text) (λ w. (tt, refl)) (λ t. refl)
  given_steady (given.Value (value.Numbers numbers)) h s = plain_value s (value.Numbers numbers) (λ w. (tt, refl)) (λ t. refl)
  given_steady (given.Value (value.Node n)) h s = one_node s (node_part n) (node_part (node_at change n s)) h.0 (h.1 s)
  given_steady (given.Value value.EmptyList) h s = plain_value s value.EmptyList (λ w. (tt, refl)) (λ t. refl)
  given_steady (given.Value (value.TruthList truths)) h s = plain_value s (value.TruthList truths) (λ w. (tt, refl)) (λ t. refl)
  given_steady (given.Value (value.StringList texts)) h s = plain_value s (value.StringList texts) (λ w. (tt, refl)) (λ t. refl)
  given_steady (given.Value (value.NumberList numbers)) h s = plain_value s (value.NumberList numbers) (λ w. (tt, refl)) (λ t. refl)
  given_steady (given.Value (value.NodeList ns)) h s =
      node_list s (map node_part ns) (map node_part (in_turn (λ (n : NodeAt). n) (λ n. (node_part n).sees) (map (node_at change) ns) s))
      (steady_in_turn node_sees put_next Any node_part (node_at change) (λ (n : NodeAt). n) OfNode one_by_one ns h s)

  pub given_found : (g : Given NodeText) → OfGiven OfNode g → (s : Sight) (own : Name) → node_type_named own ≡ None → (hidden : Bool) → given_finds (given_mapped node_part (given_then g s)) own hidden ≡ given_finds (given_mapped node_part g) own hidden
  given_found given.Nothing h s own free hidden = refl
  given_found (given.Is name) h s own free hidden = refl
  given_found (given.Value value.Null) h s own free hidden = refl
  given_found (given.Value (value.Truth truth)) h s own free hidden = refl
  given_found (given.Value (value.String text)) h s own free hidden = refl
  given_found (given.Value (value.Numbers numbers)) h s own free hidden = refl
  given_found (given.Value (value.Node n)) h s own free hidden = ap (λ r. and_see r (λ x. Ok x)) ((h.1 s).finds own free hidden)
  given_found (given.Value value.EmptyList) h s own free hidden = refl
  given_found (given.Value (value.TruthList truths)) h s own free hidden = refl
  given_found (given.Value (value.StringList texts)) h s own free hidden = refl
  given_found (given.Value (value.NumberList numbers)) h s own free hidden = refl
  given_found (given.Value (value.NodeList ns)) h s own free hidden =
      finds_in_turn (λ (n : Node). n.finds own) (λ n. (node_part n).sees) node_part (node_at change) (λ (n : NodeAt). n) OfNode (λ n k t b. (k.1 t).finds own free b) ns h s hidden

  -- ---- what values declare, by their trees

  pub each_map : {X Y S E : Type 0} (f : Y → S → Result S E) (g : X → Y) (xs : List X) → each f (map g xs) ≡ each (λ x. f (g x)) xs
  each_map f g [] = refl
  each_map f g (x ∷ xs) = ap (λ (q : _). λ s. and_see (f (g x) s) q) (each_map f g xs)

  pub declares_is : (g : Given NodeText) (s : Sight) → given_sees (given_mapped node_part g) s ≡ given_declares g s
  declares_is given.Nothing s = refl
  declares_is (given.Is name) s = refl
  declares_is (given.Value value.Null) s = refl
  declares_is (given.Value (value.Truth truth)) s = refl
  declares_is (given.Value (value.String text)) s = refl
  declares_is (given.Value (value.Numbers numbers)) s = refl
  declares_is (given.Value (value.Node n)) s = refl
  declares_is (given.Value value.EmptyList) s = refl
  declares_is (given.Value (value.TruthList truths)) s = refl
  declares_is (given.Value (value.StringList texts)) s = refl
  declares_is (given.Value (value.NumberList numbers)) s = refl
  declares_is (given.Value (value.NodeList ns)) s = ap (λ (q : Look). q s) (each_map node_sees node_part ns)

  holds_is : (v : RawValue NodeText) (own : Name) (hidden : Bool) → given_finds (given_mapped node_part (given.Value v)) own hidden ≡ given_holds (given.Value v) own hidden
  holds_is value.Null own hidden = refl
  holds_is (value.Truth truth) own hidden = refl
  holds_is (value.String text) own hidden = refl
  holds_is (value.Numbers numbers) own hidden = refl
  holds_is (value.Node n) own hidden = refl
  holds_is value.EmptyList own hidden = refl
  holds_is (value.TruthList truths) own hidden = refl
  holds_is (value.StringList texts) own hidden = refl
  holds_is (value.NumberList numbers) own hidden = refl
  holds_is (value.NodeList ns) own hidden = ap (λ (q : Search). q hidden) (each_map (λ (n : Node). n.finds own) node_part ns)

  aside_by : (g : Given NodeText) (s : Sight) → aside (given_sees (given_mapped node_part g)) s ≡ aside (given_declares g) s
  aside_by g s = ap (λ r. and_see {Y = Sight} r (λ u. Ok (record u { taken = s.taken }))) (declares_is g (bare s))

  abbrev pub changed : ℕ → Name → RawValue NodeText → Given NodeText
  changed line name v = given.Value (change line name v)

  pub changed_declares : (line : ℕ) (name : Name) (v : RawValue NodeText) → DeclaresSame (given_mapped node_part (given.Value v)) (given_mapped node_part (changed line name v))
  changed_declares line name v s = aside_by (changed line name v) s ∙ keeps.declares line name v s ∙ sym (aside_by (given.Value v) s)

  pub changed_found : (line : ℕ) (name : Name) (v : RawValue NodeText) (own : Name) → node_type_named own ≡ None → (hidden : Bool)
      → given_finds (given_mapped node_part (changed line name v)) own hidden ≡ given_finds (given_mapped node_part (given.Value v)) own hidden
  changed_found line name v own free hidden = holds_is (change line name v) own hidden ∙ keeps.holds line name v own free hidden ∙ sym (holds_is v own hidden)
