-- Values and fields with other values where no IS takes them.
use Rattle.std.proofs.Common.{◌≡◌, ℕ, ◌+◌, Bool, true, false, if◌then◌else◌, List, [], ◌∷◌, ◌++◌, Option, Some, None, Result, Ok, Err, refl, ap, sym, ◌∙◌, subst}
use Rattle.std.specs.Prelude.{◌||◌}
use Rattle.std.specs.Option.{option_map_or}
use Rattle.std.specs.Str.{bytes_eq}
use Rattle.std.proofs.lemmas.Slice.Eq.{bytes_eq-Decides}
use Rattle.x3d_values.specs.Access.{is_initial}
use Rattle.classic_tree.specs.declared.tree.Given.{Given}
use Rattle.classic_tree.specs.declared.tree.Given.TheVariants as given
use Rattle.classic_tree.specs.declared.tree.RawValue.{RawValue}
use Rattle.classic_tree.specs.declared.tree.RawValue.TheVariants as value
use Rattle.proto_flat.specs.declared.fault.ExpandFault.{ExpandFault}
use Rattle.proto_flat.specs.declared.fault.ExpandFaultKind.TheVariants.{UnknownField, FieldTwice}
use Rattle.proto_meaning.specs.Limits.{AField, AnItem, item_count, behind, follow}
use Rattle.proto_meaning.specs.Names.{Name, Field}
use Rattle.proto_meaning.specs.Sight.{Sight, Look, and_see, each, aside, nodes_in, Owner, OfType, OfProto, taken_by, is_kept}
use Rattle.proto_meaning.specs.Flat.{Walk, Does, ◌>>=◌, comes, pure, refuse, Node, Inside, given_sees, leave_out, put_in, met_field, is_node, fill, give_value, give, numbered_from}
use Rattle.proto_meaning.proofs.SightLaw.{Seen, bare, bared, Free, After, Follows, Any, see_follows}
use Rattle.laws_documents.proofs.Same.{Alike, AllSteady, Steady, same_then}

-- ---- nodes in a value

abbrev pub node_sees : Node → Look
node_sees n = n.sees

abbrev pub put_next : Node → List ℕ → Does (List ℕ)
put_next node ns = node.does >>= λ n. pure (ns ++ n ∷ [])

abbrev pub SteadyNode : Sight → Node → Node → Type 0
SteadyNode = Steady node_sees put_next Any

abbrev pub SteadyNodes : Sight → List Node → List Node → Type 0
SteadyNodes = AllSteady node_sees put_next Any

abbrev pub value_sees : RawValue Node → Look
value_sees v = each node_sees (nodes_in (given.Value v))

-- a value and another that comes to the same, where that is in sight
pub record SameValue (s : Sight) (v u : RawValue Node) : Type 0 where
  pub count : item_count u ≡ item_count v
  pub seen : (t : Sight) → Alike s t → value_sees u t ≡ value_sees v t
  pub put : (w : Walk) → Alike s w.sight → put_in u w ≡ put_in v w
  pub free : Free (value_sees v)
  pub follows : Follows Any (put_in v) (value_sees v)

abbrev pub SameGiven : Sight → Given Node → Given Node → Type 0
SameGiven s given.Nothing given.Nothing = Unit {0}
SameGiven s (given.Is a) (given.Is b) = b ≡ a
SameGiven s (given.Value v) (given.Value u) = SameValue s v u
SameGiven s _ _ = ⊥

pub seen_given : (s : Sight) (g h : Given Node) → SameGiven s g h → (t : Sight) → Alike s t → given_sees h t ≡ given_sees g t
seen_given s given.Nothing given.Nothing same t e = refl
seen_given s given.Nothing (given.Value u) same t e = absurd same
seen_given s given.Nothing (given.Is b) same t e = absurd same
seen_given s (given.Value v) given.Nothing same t e = absurd same
seen_given s (given.Value v) (given.Value u) same t e = same.seen t e
seen_given s (given.Value v) (given.Is b) same t e = absurd same
seen_given s (given.Is a) given.Nothing same t e = absurd same
seen_given s (given.Is a) (given.Value u) same t e = absurd same
seen_given s (given.Is a) (given.Is b) same t e = ap (λ name. given_sees (given.Is name) t) same

pub free_given : (s : Sight) (g h : Given Node) → SameGiven s g h → Free (given_sees g)
free_given s given.Nothing h same t = refl
free_given s (given.Is a) h same t = refl
free_given s (given.Value v) given.Nothing same t = absurd same
free_given s (given.Value v) (given.Value u) same t = same.free t
free_given s (given.Value v) (given.Is b) same t = absurd same

-- ---- what is left out

pub leave_same : (g h : Given Node) (w : Walk) → aside (given_sees h) w.sight ≡ aside (given_sees g) w.sight → leave_out h w ≡ leave_out g w
leave_same g h w same = ap (λ r. follow [] r (λ s. comes (Ok (tt {0}, record w { sight = s })))) same

pub aside_given : (s : Sight) (g h : Given Node) → SameGiven s g h → (t : Sight) → Alike s t → aside (given_sees h) t ≡ aside (given_sees g) t
aside_given s g h same t e = ap (λ r. and_see {Y = Sight} r (λ u. Ok (record u { taken = t.taken }))) (seen_given s g h same (bare t) e)

pub left_same : (s : Sight) (g h : Given Node) → SameGiven s g h → (w : Walk) → Alike s w.sight → leave_out h w ≡ leave_out g w
left_same s g h same w e = leave_same g h w (aside_given s g h same w.sight e)

aside_is : (r : Seen) (s : Sight) → bared (and_see r (λ t. Ok (record t { taken = s.taken }))) ≡ bared r
aside_is (Ok t) s = refl
aside_is (Err e) s = refl

pub aside_declares : (step : Look) → Free step → (s : Sight) → bared (aside step s) ≡ bared (step s)
aside_declares step free s = aside_is (step (bare s)) s ∙ sym (free s)

pub same_after : {A : Type 0} (P : A → Type 0) (c : Result (A × Walk) ExpandFault) (x y : Seen) → bared x ≡ bared y → After P c x → After P c y
same_after P (Ok p) x y e h = (h.0, sym e ∙ h.1)
same_after P (Err f) x y e h = tt

pub left_follows : (g : Given Node) → Free (given_sees g) → Follows Any (leave_out g) (given_sees g)
left_follows g free w = same_after Any (leave_out g w).comes (aside (given_sees g) w.sight) (given_sees g w.sight) (aside_declares (given_sees g) free w.sight) (see_follows (aside (given_sees g)) w)

-- what a value declares, whatever ISs take in it
abbrev pub DeclaresSame : Given Node → Given Node → Type 0
DeclaresSame g h = (t : Sight) → aside (given_sees h) t ≡ aside (given_sees g) t

-- ---- what a field is given

if_at : {A : Type 0} (c : Bool) (m n p q : Does A) (w : Walk) → m w ≡ p w → n w ≡ q w → (if c then m else n) w ≡ (if c then p else q) w
if_at true m n p q w e f = e
if_at false m n p q w e f = f

abbrev Only : Bool → Type 0 → Type 0
Only true G = G
Only false G = Unit {0}

pub never : {G : Type 0} → true ≡ false → G
never {G} e = subst (λ b. Only b G) (sym e) tt

else_at : {A : Type 0} (c : Bool) (m n p q : Does A) (w : Walk) → c ≡ false → n w ≡ q w → (if c then m else n) w ≡ (if c then p else q) w
else_at true m n p q w is e = never is
else_at false m n p q w is e = e

abbrev put_or_leave : ℕ → ℕ × Field → Inside → RawValue Node → Does Inside
put_or_leave line f i v =
    if is_kept (taken_by (Some i.owner)) f.1.name then (put_in v >>= λ r. pure (fill line f i (Some r)))
    else leave_out (given.Value v) >>= λ _. pure (fill line f i None)

value_same : (s : Sight) (line : ℕ) (f : ℕ × Field) (i : Inside) (v u : RawValue Node) → SameValue s v u → (w : Walk) → Alike s w.sight → give_value line f i u w ≡ give_value line f i v w
value_same s line f i v u same w e =
    ap (λ n. (met_field i.owner f.0 n >>= λ _. put_or_leave line f i u) w) same.count
    ∙ ap (behind ((if is_node i.owner then AField f.0 (item_count v) else AnItem) ∷ []))
    (if_at (is_kept (taken_by (Some i.owner)) f.1.name)
    (put_in u >>= λ r. pure (fill line f i (Some r))) (leave_out (given.Value u) >>= λ _. pure (fill line f i None))
    (put_in v >>= λ r. pure (fill line f i (Some r))) (leave_out (given.Value v) >>= λ _. pure (fill line f i None)) w
    (same_then (put_in v) (put_in u) (λ r. pure (fill line f i (Some r))) w (same.put w e))
    (same_then (leave_out (given.Value v)) (leave_out (given.Value u)) (λ _. pure (fill line f i None)) w (left_same s (given.Value v) (given.Value u) same w e)))

if_given : (line : ℕ) (f : ℕ × Field) (twice : Bool) (i : Inside) (v u : RawValue Node) (w : Walk) → give_value line f i u w ≡ give_value line f i v w
    → give line f twice (given.Value u) i w ≡ give line f twice (given.Value v) i w
if_given line f twice i v u w same =
    if_at (is_node i.owner || is_initial f.1.access)
    (if twice then refuse FieldTwice line else give_value line f i u) (refuse UnknownField line)
    (if twice then refuse FieldTwice line else give_value line f i v) (refuse UnknownField line) w
    (if_at twice (refuse FieldTwice line) (give_value line f i u) (refuse FieldTwice line) (give_value line f i v) w refl same) refl

pub give_same : (s : Sight) (line : ℕ) (f : ℕ × Field) (twice : Bool) (g h : Given Node) (i : Inside) → SameGiven s g h → (w : Walk) → Alike s w.sight → give line f twice h i w ≡ give line f twice g i w
give_same s line f twice given.Nothing given.Nothing i same w e = refl
give_same s line f twice given.Nothing (given.Value u) i same w e = absurd same
give_same s line f twice given.Nothing (given.Is b) i same w e = absurd same
give_same s line f twice (given.Value v) given.Nothing i same w e = absurd same
give_same s line f twice (given.Value v) (given.Value u) i same w e = if_given line f twice i v u w (value_same s line f i v u same w e)
give_same s line f twice (given.Value v) (given.Is b) i same w e = absurd same
give_same s line f twice (given.Is a) given.Nothing i same w e = absurd same
give_same s line f twice (given.Is a) (given.Value u) i same w e = absurd same
give_same s line f twice (given.Is a) (given.Is b) i same w e = ap (λ name. give line f twice (given.Is name) i w) same

-- ---- a value that no IS takes

met_same : (owner : Owner) (name : Name) (number m n : ℕ) → is_kept (taken_by (Some owner)) name ≡ false → (if is_node owner then AField number m else AnItem) ≡ (if is_node owner then AField number n else AnItem)
met_same (OfType t) name number m n is = never is
met_same (OfProto p) name number m n is = refl

pub give_left : (line : ℕ) (f : ℕ × Field) (twice : Bool) (v u : RawValue Node) (i : Inside) → is_kept (taken_by (Some i.owner)) f.1.name ≡ false → DeclaresSame (given.Value v) (given.Value u) → (w : Walk)
    → give line f twice (given.Value u) i w ≡ give line f twice (given.Value v) i w
give_left line f twice v u i is same w =
    if_given line f twice i v u w
    (ap (λ met. behind (met ∷ []) (put_or_leave line f i u w)) (met_same i.owner f.1.name f.0 (item_count u) (item_count v) is)
    ∙ ap (behind ((if is_node i.owner then AField f.0 (item_count v) else AnItem) ∷ []))
    (else_at (is_kept (taken_by (Some i.owner)) f.1.name)
    (put_in u >>= λ r. pure (fill line f i (Some r))) (leave_out (given.Value u) >>= λ _. pure (fill line f i None))
    (put_in v >>= λ r. pure (fill line f i (Some r))) (leave_out (given.Value v) >>= λ _. pure (fill line f i None)) w is
    (same_then (leave_out (given.Value v)) (leave_out (given.Value u)) (λ _. pure (fill line f i None)) w (leave_same (given.Value v) (given.Value u) w (same w.sight)))))

abbrev pub raw_in : Given Node → RawValue Node
raw_in (given.Value v) = v
raw_in _ = value.Null

-- ---- the field of a name

abbrev pub InOption : {X : Type 0} → (X → Type 0) → Option X → Type 0
InOption P None = Unit {0}
InOption P (Some x) = P x

named_if : (name : Name) (number : ℕ) (f : Field) (b : Bool) (rest : Option (ℕ × Field)) → (b ≡ true → f.name ≡ name) → InOption (λ (g : ℕ × Field). g.1.name ≡ name) rest
    → InOption (λ (g : ℕ × Field). g.1.name ≡ name) (if b then Some (number, f) else rest)
named_if name number f true rest is h = is refl
named_if name number f false rest is h = h

pub named_from : (number : ℕ) (name : Name) (fields : List Field) → InOption (λ (f : ℕ × Field). f.1.name ≡ name) (numbered_from number name fields)
named_from number name [] = tt
named_from number name (f ∷ fs) =
    named_if name number f (bytes_eq f.name name) (numbered_from (number + 1) name fs) (λ e. (bytes_eq-Decides f.name name).0 e) (named_from (number + 1) name fs)

pub option_at : {X A : Type 0} (P : X → Type 0) (o : Option X) (k l : X → Does A) (m : Does A) (w : Walk) → InOption P o → ((x : X) → P x → k x w ≡ l x w) → option_map_or k o m w ≡ option_map_or l o m w
option_at P None k l m w h same = refl
option_at P (Some x) k l m w h same = same x h
