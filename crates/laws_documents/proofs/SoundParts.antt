-- A part of a text is read, where its words, fields and names are right.
use Rattle.std.proofs.Common.{◌≡◌, ℕ, false, List, [], ◌∷◌, ◌++◌, Option, Some, None, Result, Ok, Err, map, refl, sym, subst}
use Rattle.std.specs.List.{AllByRecursion, flat_map}
use Rattle.std.proofs.lemmas.List.{append-nil, append_assoc}
use Rattle.x3d_values.specs.declared.node_type.NodeType.{NodeType}
use Rattle.classic_tree.specs.declared.tree.BodyItem.{BodyItem}
use Rattle.classic_tree.specs.declared.tree.Given.{Given}
use Rattle.classic_tree.specs.declared.tree.Given.TheVariants as given
use Rattle.classic_tree.specs.declared.tree.NodeText.{NodeText}
use Rattle.classic_tree.specs.declared.tree.RawValue.{RawValue}
use Rattle.classic_tree.specs.declared.tree.RawValue.TheVariants as value
use Rattle.classic_tree.proofs.Mapped.{given_mapped}
use Rattle.proto_flat.specs.declared.fault.ExpandFault.{ExpandFault}
use Rattle.laws_documents.specs.Signatures.{Signature}
use Rattle.proto_meaning.specs.Limits.{Met, Outcome, follow, and_then}
use Rattle.proto_meaning.specs.Names.{Field}
use Rattle.proto_meaning.proofs.Induction.{OfGiven}
use Rattle.laws_documents.specs.Plain.{Reading, PlainRead, ◌>>=◌, pure, in_turn, read_value, Between, fill, give, read_item, read_text}
use Rattle.laws_documents.specs.Uses.{steps}
use Rattle.laws_documents.specs.Uses as uses
use Rattle.laws_documents.specs.Readings.{each, read_given, read_node}
use Rattle.laws_documents.specs.Readings as steps_of
use Rattle.laws_documents.proofs.Lists.{all_split}
use Rattle.laws_documents.specs.Parts.{BraceField, TreePart, entries, in_given, in_item, in_node}
use Rattle.laws_documents.specs.Sound.{AllNamed, AreOnce, IsSound}
use Rattle.laws_documents.proofs.Keeping.{ItemKeeps, NodeKeeps, held_in}
use Rattle.laws_documents.proofs.Reading.{Ends, ends_then}
use Rattle.laws_documents.proofs.SoundFields.{State}
use Rattle.laws_documents.proofs.SoundNames.{ItemBacks, NodeBacks, each_backs}
use Rattle.laws_documents.proofs.Uses.{law}
use Rattle.laws_documents.proofs.Uses as kept

-- ---- outcomes

abbrev pub IsOk : {A : Type 0} → Result A ExpandFault → Type 0
IsOk (Ok a) = Unit {0}
IsOk (Err e) = ⊥

abbrev pub Comes : {A : Type 0} → Outcome A → Type 0
Comes o = IsOk o.comes

module _ {A B : Type 0} (P : A → Reading → Type 0) (f : A → PlainRead B) where
  then_ok : (met : List Met) (c : Result (A × Reading) ExpandFault) → IsOk c → Ends P (record { met = met; comes = c }) → ((a : A) (r : Reading) → P a r → Comes (f a r)) → Comes (follow met c (λ p. f p.0 p.1))
  then_ok met (Ok p) h e k = k p.0 p.1 e
  then_ok met (Err x) h e k = absurd h

  pub comes_then : (o : Outcome (A × Reading)) → Comes o → Ends P o → ((a : A) (r : Reading) → P a r → Comes (f a r)) → Comes (and_then o (λ p. f p.0 p.1))
  comes_then o h e k = then_ok o.met o.comes h e k

both_end : {A : Type 0} (P Q : A → Reading → Type 0) (met : List Met) (c : Result (A × Reading) ExpandFault) → Ends P (record { met = met; comes = c }) → Ends Q (record { met = met; comes = c }) → Ends (λ a r. P a r × Q a r) (record { met = met; comes = c })
both_end P Q met (Ok p) h k = (h, k)
both_end P Q met (Err e) h k = tt

pub ends_both : {A : Type 0} (P Q : A → Reading → Type 0) (o : Outcome (A × Reading)) → Ends P o → Ends Q o → Ends (λ a r. P a r × Q a r) o
ends_both P Q o h k = both_end P Q o.met o.comes h k

any_end : {A : Type 0} (met : List Met) (c : Result (A × Reading) ExpandFault) → Ends (λ a r. Unit {0}) (record { met = met; comes = c })
any_end met (Ok p) = tt
any_end met (Err e) = tt

pub ends_any : {A : Type 0} (o : Outcome (A × Reading)) → Ends (λ a r. Unit {0}) o
ends_any o = any_end o.met o.comes

-- ---- parts of the text

abbrev pub AreSound : List TreePart → Type 0
AreSound ps = AllByRecursion IsSound ps

abbrev pub NodeOk : NodeText → Type 0
NodeOk n = AreSound (in_node n) → (here : List ℕ) (r : Reading) (x : uses.Reading) → kept.Reads here r x → AllNamed (read_node steps n x) → Comes (read_text n r)

pub record OfNode (n : NodeText) : Type 0 where
  pub keeps : NodeKeeps kept.Reads law n
  pub backs : NodeBacks n
  pub comes : NodeOk n

-- the fields so far, and those that come
pub record After (t : NodeType) (all : List Signature) (rest : List BraceField) (b : Between) (r : Reading) : Type 0 where
  pub before : List ℕ
  pub state : State t all before b
  pub once : AreOnce t all before rest

abbrev pub ItemOk : BodyItem → Type 0
ItemOk i =
    AreSound (in_item i) → (t : NodeType) (all : List Signature) (rest : List BraceField) (b : Between) (r : Reading) (x : uses.Reading) → After t all (entries i ++ rest) b r → kept.Reads (held_in b.filled) r x → AllNamed (steps_of.read_item steps i x)
    → Comes (read_item i t b r) × Ends (After t all rest) (read_item i t b r)

pub record OfItem (i : BodyItem) : Type 0 where
  pub keeps : ItemKeeps kept.Reads law i
  pub backs : ItemBacks i
  pub comes : ItemOk i

-- ---- values

abbrev next_node : PlainRead ℕ → List ℕ → PlainRead (List ℕ)
next_node node ns = node >>= λ n. pure (ns ++ n ∷ [])

backs_of : (ns : List NodeText) → AllByRecursion OfNode ns → AllByRecursion NodeBacks ns
backs_of [] h = tt
backs_of (n ∷ ns) h = (h.0.backs, backs_of ns h.1)

nodes_come : (ns : List NodeText) → AllByRecursion OfNode ns → AreSound (flat_map in_node ns) → (here ks : List ℕ) (r : Reading) (x : uses.Reading) → kept.Reads (here ++ ks) r x → AllNamed (each (read_node steps) ns x) → Comes (in_turn next_node (map read_text ns) ks r)
nodes_come [] h k here ks r x i a = tt
nodes_come (n ∷ ns) h k here ks r x i a =
    let sound = all_split IsSound (in_node n) (flat_map in_node ns) k in
    let first = h.0.comes sound.0 (here ++ ks) r x i (each_backs (read_node steps) ns (backs_of ns h.1) (read_node steps n x) a) in
    comes_then (λ ls q. kept.Reads (here ++ ls) q (read_node steps n x)) (in_turn next_node (map read_text ns)) (next_node (read_text n) ks r)
    (comes_then (λ m q. Unit {0}) (λ m. pure (ks ++ m ∷ [])) (read_text n r) first (ends_any (read_text n r)) (λ m q p. tt))
    (ends_then (λ m q. kept.Reads ((here ++ ks) ++ m ∷ []) q (read_node steps n x)) (λ ls q. kept.Reads (here ++ ls) q (read_node steps n x)) (λ m. pure (ks ++ m ∷ [])) (read_text n r) (h.0.keeps (here ++ ks) r x i)
    (λ m q j. subst (λ ms. kept.Reads ms q (read_node steps n x)) (append_assoc here ks (m ∷ [])) j))
    (λ ls q j. nodes_come ns h.1 sound.1 here ls q (read_node steps n x) j a)

abbrev pub GivenComes : Given (PlainRead ℕ) → Given NodeText → Type 0
GivenComes given.Nothing given.Nothing = Unit {0}
GivenComes (given.Value u) (given.Value v) = (here : List ℕ) (r : Reading) (x : uses.Reading) → kept.Reads here r x → AllNamed (read_given (read_node steps) (given.Value v) x) → Comes (read_value u r)
GivenComes _ _ = ⊥

pub given_comes : (g : Given NodeText) → OfGiven OfNode g → AreSound (in_given in_node g) → GivenComes (given_mapped read_text g) g
given_comes given.Nothing h k = tt
given_comes (given.Is name) h k = absurd k.0
given_comes (given.Value value.Null) h k = λ here r x i a. tt
given_comes (given.Value (value.Truth truth)) h k = λ here r x i a. tt
given_comes (given.Value (value.String text)) h k = λ here r x i a. tt
given_comes (given.Value (value.Numbers numbers)) h k = λ here r x i a. tt
given_comes (given.Value (value.Node n)) h k = λ here r x i a. comes_then (λ m q. Unit {0}) (λ m. pure (value.Node m)) (read_text n r) (h.comes k here r x i a) (ends_any (read_text n r)) (λ m q p. tt)
given_comes (given.Value value.EmptyList) h k = λ here r x i a. tt
given_comes (given.Value (value.TruthList truths)) h k = λ here r x i a. tt
given_comes (given.Value (value.StringList texts)) h k = λ here r x i a. tt
given_comes (given.Value (value.NumberList numbers)) h k = λ here r x i a. tt
given_comes (given.Value (value.NodeList ns)) h k = λ here r x i a.
    comes_then (λ ms q. Unit {0}) (λ ms. pure (value.NodeList ms)) (in_turn next_node (map read_text ns) [] r)
    (nodes_come ns h k here [] r x (subst (λ ms. kept.Reads ms r x) (sym (append-nil here)) i) a) (ends_any (in_turn next_node (map read_text ns) [] r)) (λ ms q p. tt)

-- ---- a field that is given

abbrev pub IsFilledBy : ℕ → ℕ × Field → Between → Between → Reading → Type 0
IsFilledBy line f b c q = (v : Option (RawValue ℕ)) × (c ≡ fill line f b v)

pub filled_ends : (line : ℕ) (f : ℕ × Field) (g : Given (PlainRead ℕ)) (h : Given NodeText) → GivenComes g h → (b : Between) (r : Reading) → Ends (IsFilledBy line f b) (give line f false g b r)
filled_ends line f given.Nothing given.Nothing k b r = (None, refl)
filled_ends line f (given.Value u) (given.Value v) k b r =
    ends_then (λ m q. Unit {0}) (IsFilledBy line f b) (λ m. pure (fill line f b (Some m))) (read_value u r) (ends_any (read_value u r)) (λ m q p. (Some m, refl))
filled_ends line f given.Nothing (given.Is a) k b r = absurd k
filled_ends line f given.Nothing (given.Value v) k b r = absurd k
filled_ends line f (given.Is a) h k b r = tt
filled_ends line f (given.Value u) given.Nothing k b r = absurd k
filled_ends line f (given.Value u) (given.Is a) k b r = absurd k

pub give_comes : (line : ℕ) (f : ℕ × Field) (g : Given (PlainRead ℕ)) (h : Given NodeText) → GivenComes g h → (b : Between) (here : List ℕ) (r : Reading) (x : uses.Reading) → kept.Reads here r x → AllNamed (read_given (read_node steps) h x) → Comes (give line f false g b r)
give_comes line f given.Nothing given.Nothing k b here r x i a = tt
give_comes line f (given.Value u) (given.Value v) k b here r x i a =
    comes_then (λ m q. Unit {0}) (λ m. pure (fill line f b (Some m))) (read_value u r) (k here r x i a) (ends_any (read_value u r)) (λ m q p. tt)
give_comes line f given.Nothing (given.Is a) k b here r x i n = absurd k
give_comes line f given.Nothing (given.Value v) k b here r x i n = absurd k
give_comes line f (given.Is a) given.Nothing k b here r x i n = absurd k
give_comes line f (given.Is a) (given.Is c) k b here r x i n = absurd k
give_comes line f (given.Is a) (given.Value v) k b here r x i n = absurd k
give_comes line f (given.Value u) given.Nothing k b here r x i n = absurd k
give_comes line f (given.Value u) (given.Is a) k b here r x i n = absurd k
