-- What an instance is given, and its defaults: what ISs of its body find.
use Rattle.std.proofs.Common.{◌≡◌, ℕ, ◌+◌, Bool, true, false, ◌&&◌, if◌then◌else◌, List, [], ◌∷◌, ◌++◌, Option, Some, None, Result, Ok, Err, map, refl, ap, sym, ◌∙◌, subst}
use Rattle.std.specs.Prelude.{is_none}
use Rattle.std.specs.List.{find, list_all}
use Rattle.std.specs.Option.{option_map_or, option_or}
use Rattle.std.specs.Str.{bytes_eq}
use Rattle.std.proofs.lemmas.Slice.Eq.{bytes_eq-Decides}
use Rattle.x3d_values.specs.declared.field_type.Access.{Access}
use Rattle.x3d_values.specs.declared.field_type.FieldType.{FieldType}
use Rattle.classic_tree.specs.declared.tree.Declaration.{Declaration}
use Rattle.classic_tree.specs.declared.tree.Given.{Given}
use Rattle.classic_tree.specs.declared.tree.Given.TheVariants as given
use Rattle.classic_tree.specs.declared.tree.NodeText.{NodeText}
use Rattle.classic_tree.specs.declared.tree.RawValue.{RawValue}
use Rattle.classic_tree.specs.declared.tree.RawValue.TheVariants as value
use Rattle.classic_tree.proofs.Mapped.{given_mapped, interface_mapped}
use Rattle.proto_flat.specs.declared.fault.ExpandFault.{ExpandFault}
use Rattle.proto_meaning.specs.Limits.{Met, Outcome, and_then, follow}
use Rattle.proto_meaning.specs.Names.{Name, Field, Filled, value_of}
use Rattle.proto_meaning.specs.Sight.{Names}
use Rattle.proto_meaning.specs.Flat.{Walk, ◌>>=◌, pure, through, leave_out, numbered_from, default, put_default}
use Rattle.proto_meaning.specs.Flat.{node as node_part}
use Rattle.laws_documents.specs.WithFields.{is_plain, Finds, value_in, default_of}
use Rattle.laws_documents.proofs.InPlaceParts.{never, both_true}
use Rattle.laws_documents.proofs.WithFieldsWalks.{FoundAs}

-- ---- what it leads to, unless it is refused

abbrev pub EndsIn : {A : Type 0} → (A → Type 0) → Result A ExpandFault → Type 0
EndsIn P (Ok a) = P a
EndsIn P (Err e) = Unit {0}

abbrev pub Leads : {A : Type 0} → Outcome A → (A → Type 0) → Type 0
Leads o P = EndsIn P o.comes

pub leads_then : {A B : Type 0} (P : A → Type 0) (Q : B → Type 0) (o : Outcome A) (f : A → Outcome B) → Leads o P → ((a : A) → P a → Leads (f a) Q) → Leads (and_then o f) Q
leads_then {A} P Q o f h k = on o.met o.comes h where
  on : (met : List Met) (c : Result A ExpandFault) → EndsIn P c → EndsIn Q (follow met c f).comes
  on met (Ok a) e = k a e
  on met (Err x) e = tt

-- ---- what is found

abbrev pub as_given : Option (RawValue NodeText) → Given NodeText
as_given o = option_map_or (λ v. given.Value v) o given.Nothing

abbrev pub Found : Option (RawValue ℕ) → Option (RawValue NodeText) → Type 0
Found r f = FoundAs r (given_mapped node_part (as_given f))

pub found_or : (a b : Option (RawValue ℕ)) (f g : Option (RawValue NodeText)) → Found a f → Found b g → Found (option_or a b) (option_or f g)
found_or None b None g h k = k
found_or None b (Some v) g h k = absurd h
found_or (Some r) b None g h k = absurd h
found_or (Some r) b (Some v) g h k = h

-- where a value is found, one was given
found_there : (y : RawValue ℕ) (f g : Option (RawValue NodeText)) → Found (Some y) f → Found (Some y) (option_or f g)
found_there y None g h = absurd h
found_there y (Some v) g h = h

-- a value in which no nodes stand is put in as it is
abbrev pub plain_of : {N : Type 0} → RawValue N → RawValue ℕ
plain_of value.Null = value.Null
plain_of (value.Truth truth) = value.Truth truth
plain_of (value.String text) = value.String text
plain_of (value.Numbers numbers) = value.Numbers numbers
plain_of (value.Node n) = value.Null
plain_of value.EmptyList = value.EmptyList
plain_of (value.TruthList truths) = value.TruthList truths
plain_of (value.StringList texts) = value.StringList texts
plain_of (value.NumberList numbers) = value.NumberList numbers
plain_of (value.NodeList ns) = value.Null

pub plain_found : (v : RawValue NodeText) → is_plain (given.Value v) ≡ true → Found (Some (plain_of v)) (Some v)
plain_found value.Null e = (refl, λ w. refl)
plain_found (value.Truth truth) e = (refl, λ w. refl)
plain_found (value.String text) e = (refl, λ w. refl)
plain_found (value.Numbers numbers) e = (refl, λ w. refl)
plain_found (value.Node n) e = never e
plain_found value.EmptyList e = (refl, λ w. refl)
plain_found (value.TruthList truths) e = (refl, λ w. refl)
plain_found (value.StringList texts) e = (refl, λ w. refl)
plain_found (value.NumberList numbers) e = (refl, λ w. refl)
plain_found (value.NodeList ns) e = never e

pub plain_left : (g : Given NodeText) → is_plain g ≡ true → (w : Walk) → leave_out (given_mapped node_part g) w ≡ pure tt w
plain_left given.Nothing e w = refl
plain_left (given.Is name) e w = refl
plain_left (given.Value value.Null) e w = refl
plain_left (given.Value (value.Truth truth)) e w = refl
plain_left (given.Value (value.String text)) e w = refl
plain_left (given.Value (value.Numbers numbers)) e w = refl
plain_left (given.Value (value.Node n)) e w = never e
plain_left (given.Value value.EmptyList) e w = refl
plain_left (given.Value (value.TruthList truths)) e w = refl
plain_left (given.Value (value.StringList texts)) e w = refl
plain_left (given.Value (value.NumberList numbers)) e w = refl
plain_left (given.Value (value.NodeList ns)) e w = never e

pub plain_stays : (f : NodeText → NodeText) (v : RawValue NodeText) → is_plain (given.Value v) ≡ true → given_mapped f (given.Value v) ≡ given.Value v
plain_stays f value.Null e = refl
plain_stays f (value.Truth truth) e = refl
plain_stays f (value.String text) e = refl
plain_stays f (value.Numbers numbers) e = refl
plain_stays f (value.Node n) e = never e
plain_stays f value.EmptyList e = refl
plain_stays f (value.TruthList truths) e = refl
plain_stays f (value.StringList texts) e = refl
plain_stays f (value.NumberList numbers) e = refl
plain_stays f (value.NodeList ns) e = never e

pub plain_mapped : {N : Type 0} (f : NodeText → N) (g : Given NodeText) → is_plain (given_mapped f g) ≡ true → is_plain g ≡ true
plain_mapped f given.Nothing e = refl
plain_mapped f (given.Is name) e = refl
plain_mapped f (given.Value value.Null) e = refl
plain_mapped f (given.Value (value.Truth truth)) e = refl
plain_mapped f (given.Value (value.String text)) e = refl
plain_mapped f (given.Value (value.Numbers numbers)) e = refl
plain_mapped f (given.Value (value.Node n)) e = e
plain_mapped f (given.Value value.EmptyList) e = refl
plain_mapped f (given.Value (value.TruthList truths)) e = refl
plain_mapped f (given.Value (value.StringList texts)) e = refl
plain_mapped f (given.Value (value.NumberList numbers)) e = refl
plain_mapped f (given.Value (value.NodeList ns)) e = e

-- ---- options and look-ups

pub or_assoc : {A : Type 0} (a b c : Option A) → option_or (option_or a b) c ≡ option_or a (option_or b c)
or_assoc None b c = refl
or_assoc (Some x) b c = refl

pub or_none : {A : Type 0} (a : Option A) → option_or a None ≡ a
or_none None = refl
or_none (Some x) = refl

abbrev nothing_found : {A : Type 0} → Option A
nothing_found = None

if_none : {A : Type 0} (b : Bool) → (if b then nothing_found {A = A} else None) ≡ None
if_none true = refl
if_none false = refl

value_pushed : (x : Name) (fs : List Filled) (e : Filled) → value_of x (fs ++ e ∷ []) ≡ option_or (value_of x fs) (if bytes_eq e.name x then e.value else None)
value_pushed x [] e = or_none (if bytes_eq e.name x then e.value else None)
value_pushed x (f ∷ fs) e =
    ap (λ o. option_or (if bytes_eq f.name x then f.value else None) o) (value_pushed x fs e)
    ∙ sym (or_assoc (if bytes_eq f.name x then f.value else None) (value_of x fs) (if bytes_eq e.name x then e.value else None))

abbrev some_is : {A : Type 0} → A → Option A → A
some_is a None = a
some_is a (Some b) = b

abbrev is_there : {A : Type 0} → Option A → Bool
is_there None = false
is_there (Some a) = true

pub numbered_name : (k : ℕ) (name : Name) (fs : List Field) (f : ℕ × Field) → numbered_from k name fs ≡ Some f → f.1.name ≡ name
numbered_name k name [] f e = never (ap is_there e)
numbered_name k name (g ∷ gs) f e = on (bytes_eq g.name name) refl e (numbered_name (k + 1) name gs f) where
  on : (b : Bool) → bytes_eq g.name name ≡ b → (if b then Some (k, g) else numbered_from (k + 1) name gs) ≡ Some f → (numbered_from (k + 1) name gs ≡ Some f → f.1.name ≡ name) → f.1.name ≡ name
  on true is x h = sym (ap (λ (o : Option (ℕ × Field)). (some_is {A = ℕ × Field} (k, g) o).1.name) x) ∙ (bytes_eq-Decides g.name name).0 is
  on false is x h = h x

pub find_name : (name : Name) (fs : List Field) (f : Field) → find (λ (g : Field). bytes_eq g.name name) fs ≡ Some f → f.name ≡ name
find_name name [] f e = never (ap is_there e)
find_name name (g ∷ gs) f e = on (bytes_eq g.name name) refl e (find_name name gs f) where
  on : (b : Bool) → bytes_eq g.name name ≡ b → (if b then Some g else find (λ (h : Field). bytes_eq h.name name) gs) ≡ Some f → (find (λ (h : Field). bytes_eq h.name name) gs ≡ Some f → f.name ≡ name) → f.name ≡ name
  on true is x h = sym (ap (λ (o : Option Field). (some_is {A = Field} g o).name) x) ∙ (bytes_eq-Decides g.name name).0 is
  on false is x h = h x

-- ---- what is known of what was given

module _ (takes : Names) where
  abbrev pub Knows : List Filled → Finds → Type 0
  Knows filled finds = (x : Name) → takes x ≡ true → Found (value_of x filled) (finds x)

  pub knows_by : (filled : List Filled) (f g : Finds) → ((x : Name) → f x ≡ g x) → Knows filled f → Knows filled g
  knows_by filled f g e h x t = subst (λ o. Found (value_of x filled) o) (e x) (h x t)

  pub know_more : (filled : List Filled) (finds : Finds) (e : Filled) (v : Option (RawValue NodeText)) → Knows filled finds → (takes e.name ≡ true → Found e.value v)
      → Knows (filled ++ e ∷ []) (λ x. option_or (finds x) (if bytes_eq e.name x then v else None))
  know_more filled finds e v h k x t =
      subst (λ o. Found o (option_or (finds x) (if bytes_eq e.name x then v else None))) (sym (value_pushed x filled e))
      (found_or (value_of x filled) (if bytes_eq e.name x then e.value else None) (finds x) (if bytes_eq e.name x then v else None) (h x t) (on (bytes_eq e.name x) refl)) where
        on : (b : Bool) → bytes_eq e.name x ≡ b → Found (if b then e.value else None) (if b then v else None)
        on true is = k (ap takes ((bytes_eq-Decides e.name x).0 is) ∙ t)
        on false is = tt

  -- nothing is added, where there is a value or no IS takes it
  know_same : (filled : List Filled) (finds : Finds) (name : Name) (v : Option (RawValue NodeText)) → Knows filled finds → (takes name ≡ true → is_none (value_of name filled) ≡ false)
      → Knows filled (λ x. option_or (finds x) (if bytes_eq name x then v else None))
  know_same filled finds name v h k x t = on (bytes_eq name x) refl where
    there : (o : Option (RawValue ℕ)) → is_none o ≡ false → Found o (finds x) → Found o (option_or (finds x) v)
    there None e f = never (sym e)
    there (Some y) e f = found_there y (finds x) v f

    on : (b : Bool) → bytes_eq name x ≡ b → Found (value_of x filled) (option_or (finds x) (if b then v else None))
    on true is =
        let same = (bytes_eq-Decides name x).0 is in
        there (value_of x filled) (ap (λ n. is_none (value_of n filled)) (sym same) ∙ k (ap takes same ∙ t)) (h x t)
    on false is = subst (λ o. Found (value_of x filled) o) (sym (or_none (finds x))) (h x t)

  pub know_nothing : (filled : List Filled) (finds : Finds) (name : Name) → Knows filled finds → Knows filled (λ x. option_or (finds x) (if bytes_eq name x then None else None))
  know_nothing filled finds name h = knows_by filled finds (λ x. option_or (finds x) (if bytes_eq name x then None else None)) (λ x. sym (ap (option_or (finds x)) (if_none (bytes_eq name x)) ∙ or_none (finds x))) h

  -- ---- defaults

  abbrev Default : List Filled → Finds → Walk → List Filled × Walk → Type 0
  Default filled finds w q = (q.1 ≡ w) × Knows q.0 finds

  left_same : (g : Given NodeText) (filled : List Filled) (finds : Finds) (w : Walk) → is_plain g ≡ true → Knows filled finds → Leads ((leave_out (given_mapped node_part g) >>= λ _. pure filled) w) (Default filled finds w)
  left_same g filled finds w e h = subst (λ (o : Outcome (Unit {0} × Walk)). Leads (and_then o (λ p. pure filled p.1)) (Default filled finds w)) (sym (plain_left g e w)) (refl, h)

  one_default : (line : ℕ) (access : Access) (field_type : FieldType) (name : Name) (g : Given NodeText) (filled : List Filled) (finds : Finds) (w : Walk) → is_plain g ≡ true → Knows filled finds
      → Leads (default takes (record { line = line; access = access; field_type = field_type; name = name; given = given_mapped node_part g }) filled w) (Default filled (λ x. option_or (finds x) (if bytes_eq name x then value_in g else None)) w)
  one_default line access field_type name g filled finds w e h = on (takes name) (is_none (value_of name filled)) refl refl where
    put : (whole g : Given NodeText) → is_plain g ≡ true → Leads (put_default (record { line = line; access = access; field_type = field_type; name = name; given = given_mapped node_part whole }) filled (given_mapped node_part g) w) (Default filled (λ x. option_or (finds x) (if bytes_eq name x then value_in g else None)) w)
    put whole given.Nothing e = (refl, know_nothing filled finds name h)
    put whole (given.Is x) e = (refl, know_nothing filled finds name h)
    put whole (given.Value v) e =
        subst (λ (o : Outcome (RawValue ℕ × Walk)). Leads (and_then o (λ p. pure (filled ++ record { line = line; name = name; number = 0; value = Some p.0 } ∷ []) p.1)) (Default filled (λ x. option_or (finds x) (if bytes_eq name x then Some v else None)) w))
        (sym ((plain_found v e).1 w))
        (refl, know_more filled finds (record { line = line; name = name; number = 0; value = Some (plain_of v) }) (Some v) h (λ _. plain_found v e))

    on : (b c : Bool) → takes name ≡ b → is_none (value_of name filled) ≡ c → Leads ((if b && c then put_default (record { line = line; access = access; field_type = field_type; name = name; given = given_mapped node_part g }) filled (given_mapped node_part g) else leave_out (given_mapped node_part g) >>= λ _. pure filled) w)
        (Default filled (λ x. option_or (finds x) (if bytes_eq name x then value_in g else None)) w)
    on true true t n = put g g e
    on true false t n = left_same g filled (λ x. option_or (finds x) (if bytes_eq name x then value_in g else None)) w e (know_same filled finds name (value_in g) h (λ _. n))
    on false c t n = left_same g filled (λ x. option_or (finds x) (if bytes_eq name x then value_in g else None)) w e (know_same filled finds name (value_in g) h (λ k. never (sym t ∙ k)))

  pub defaults_known : (ds : List (Declaration NodeText)) (filled : List Filled) (finds : Finds) (w : Walk) → list_all (λ (d : Declaration NodeText). is_plain d.given) ds ≡ true → Knows filled finds
      → Leads (through (default takes) (map (interface_mapped node_part) ds) filled w) (Default filled (λ x. option_or (finds x) (default_of ds x)) w)
  defaults_known [] filled finds w e h = (refl, knows_by filled finds (λ x. option_or (finds x) None) (λ x. sym (or_none (finds x))) h)
  defaults_known (d ∷ ds) filled finds w e h =
      let both = both_true (is_plain d.given) (list_all (λ (c : Declaration NodeText). is_plain c.given) ds) e in
      leads_then (Default filled (λ x. option_or (finds x) (if bytes_eq d.name x then value_in d.given else None)) w) (Default filled (λ x. option_or (finds x) (default_of (d ∷ ds) x)) w)
      (default takes (interface_mapped node_part d) filled w) (λ q. through (default takes) (map (interface_mapped node_part) ds) q.0 q.1)
      (one_default d.line d.access d.field_type d.name d.given filled finds w both.0 h)
      (λ q k. subst (λ v. Leads (through (default takes) (map (interface_mapped node_part) ds) q.0 v) (Default filled (λ x. option_or (finds x) (default_of (d ∷ ds) x)) w)) (sym k.0)
      (weaker (through (default takes) (map (interface_mapped node_part) ds) q.0 w).comes
      (defaults_known ds q.0 (λ x. option_or (finds x) (if bytes_eq d.name x then value_in d.given else None)) w both.1 k.1))) where
        weaker : (c : Result (List Filled × Walk) ExpandFault) → EndsIn (Default filled (λ x. option_or (option_or (finds x) (if bytes_eq d.name x then value_in d.given else None)) (default_of ds x)) w) c → EndsIn (Default filled (λ x. option_or (finds x) (default_of (d ∷ ds) x)) w) c
        weaker (Ok q) k = (k.0, knows_by q.0 (λ x. option_or (option_or (finds x) (if bytes_eq d.name x then value_in d.given else None)) (default_of ds x)) (λ x. option_or (finds x) (default_of (d ∷ ds) x)) (λ x. or_assoc (finds x) (if bytes_eq d.name x then value_in d.given else None) (default_of ds x)) k.1)
        weaker (Err f) k = tt
