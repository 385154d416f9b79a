-- Which fields stand between braces so far, by their numbers: those that come are known, and new.
use Rattle.std.proofs.Common.{◌≡◌, ℕ, ◌+◌, Bool, true, false, if◌then◌else◌, List, [], ◌∷◌, ◌++◌, length, Option, Some, None, option_map, bytes_eq, refl, ap, sym, ◌∙◌, subst, arith}
use Rattle.std.specs.Prelude.{◌==◌, ◌||◌, is_some}
use Rattle.std.specs.List.{AllByRecursion, list_any}
use Rattle.std.specs.Option.{option_or}
use Rattle.std.proofs.lemmas.List.{append_assoc}
use Rattle.std.proofs.lemmas.List.Folds.{list_any-append}
use Rattle.std.proofs.lemmas.Option.{none-some}
use Rattle.std.proofs.lemmas.Slice.Eq.{bytes_eq-Decides}
use Rattle.x3d_values.specs.Tables.{rows}
use Rattle.x3d_values.specs.declared.node_type.NodeType.{NodeType}
use Rattle.laws_documents.specs.Signatures.{Signature, of_declared, of_type}
use Rattle.laws_documents.specs.Signatures as known
use Rattle.laws_documents.specs.Signatures.{KnownField}
use Rattle.proto_meaning.specs.Names.{Name, Field, Filled}
use Rattle.proto_meaning.specs.Flat.{fields_of, numbered_from}
use Rattle.laws_documents.specs.Plain.{Between, is_filled}
use Rattle.laws_documents.specs.Fields.{number_of, numbering}
use Rattle.laws_documents.proofs.Lists.{all_push, all_weaker}
use Rattle.laws_documents.specs.Sound.{IsNext, is_among, unless_own}
use Rattle.laws_documents.proofs.Numbers.{first, is_script, numbered_append, rows_number}

-- ---- numbers before

among_more : (j n : ℕ) (before : List ℕ) → is_among j before ≡ true → is_among j (before ++ n ∷ []) ≡ true
among_more j n before e = list_any-append (λ k. k == j) before (n ∷ []) ∙ ap (λ b. b || list_any (λ k. k == j) (n ∷ [])) e

true_or : (a b : Bool) → b ≡ true → a || b ≡ true
true_or true b e = refl
true_or false b e = e

same_number : (n : ℕ) → (n == n) ≡ true
same_number n = grind arith

among_last : (n : ℕ) (before : List ℕ) → is_among n (before ++ n ∷ []) ≡ true
among_last n before = list_any-append (λ k. k == n) before (n ∷ []) ∙ true_or (is_among n before) (list_any (λ k. k == n) (n ∷ [])) (true_first (n == n) (same_number n)) where
  true_first : (b : Bool) → b ≡ true → b || false ≡ true
  true_first true e = refl
  true_first false e = e

-- ---- what is known of the fields so far

-- the name has a number, which is one of these
pub record HasNumber (t : NodeType) (all : List Signature) (before : List ℕ) (name : Name) : Type 0 where
  pub number : ℕ
  pub read : numbering (Some t) all name ≡ Some number
  pub among : is_among number before ≡ true

pub record State (t : NodeType) (all : List Signature) (before : List ℕ) (b : Between) : Type 0 where
  pub more : List Field
  pub known : b.fields ≡ fields_of t ++ more
  pub declared : AllByRecursion (λ (f : Field). HasNumber t all before f.name) more
  pub filled : AllByRecursion (λ (f : Filled). HasNumber t all before f.name) b.filled

some_is : (a b : ℕ) → Some a ≡ Some b → a ≡ b
some_is a b e = cc

clash : (b : Bool) → b ≡ true → b ≡ false → ⊥
clash true h k = absurd cc
clash false h k = absurd cc

-- it isn't one of those before
not_before : (t : NodeType) (all : List Signature) (before : List ℕ) (name : Name) (k : ℕ) → numbering (Some t) all name ≡ Some k → is_among k before ≡ false → HasNumber t all before name → ⊥
not_before t all before name k e new h = clash (is_among h.number before) h.among (ap (λ n. is_among n before) (some_is h.number k (sym h.read ∙ e)) ∙ new)

or_false : (a b : Bool) → a ≡ false → b ≡ false → a || b ≡ false
or_false true b e k = e
or_false false b e k = k

other_name : (b : Bool) → (b ≡ true → ⊥) → b ≡ false
other_name true h = absurd (h refl)
other_name false h = refl

-- no name so far is a name that is new
none_named : {X : Type 0} (t : NodeType) (all : List Signature) (before : List ℕ) (of : X → Name) (name : Name) (k : ℕ) → numbering (Some t) all name ≡ Some k → is_among k before ≡ false → (xs : List X) → AllByRecursion (λ (x : X). HasNumber t all before (of x)) xs
    → list_any (λ x. bytes_eq (of x) name) xs ≡ false
none_named t all before of name k e new [] h = refl
none_named t all before of name k e new (x ∷ xs) h =
    or_false (bytes_eq (of x) name) (list_any (λ x. bytes_eq (of x) name) xs)
    (other_name (bytes_eq (of x) name) (λ same. not_before t all before name k e new (subst (HasNumber t all before) ((bytes_eq-Decides (of x) name).0 same) h.0)))
    (none_named t all before of name k e new xs h.1)

none_if : (b : Bool) (x : ℕ × Field) (o : Option (ℕ × Field)) → b ≡ false → o ≡ None → (if b then Some x else o) ≡ None
none_if true x o e k = absurd cc
none_if false x o e k = k

both_false : (a b : Bool) → a || b ≡ false → (a ≡ false) × (b ≡ false)
both_false true b e = absurd cc
both_false false b e = (refl, e)

none_numbered : (n : ℕ) (name : Name) (fs : List Field) → list_any (λ f. bytes_eq f.name name) fs ≡ false → numbered_from n name fs ≡ None
none_numbered n name [] e = refl
none_numbered n name (f ∷ fs) e =
    let both = both_false (bytes_eq f.name name) (list_any (λ f. bytes_eq f.name name) fs) e in
    none_if (bytes_eq f.name name) (n, f) (numbered_from (n + 1) name fs) both.0 (none_numbered (n + 1) name fs both.1)

-- ---- a field that is found

abbrev field_or : Field → Option (ℕ × Field) → Field
field_or f None = f
field_or f (Some p) = p.1

name_by : (b : Bool) (n : ℕ) (name : Name) (x : Field) (o : Option (ℕ × Field)) (k : ℕ) (f : Field) → bytes_eq x.name name ≡ b → (if b then Some (n, x) else o) ≡ Some (k, f) → (o ≡ Some (k, f) → f.name ≡ name) → f.name ≡ name
name_by true n name x o k f e is rest = ap (λ p. (field_or x p).name) (sym is) ∙ (bytes_eq-Decides x.name name).0 e
name_by false n name x o k f e is rest = rest is

found_name : (n : ℕ) (name : Name) (fs : List Field) (k : ℕ) (f : Field) → numbered_from n name fs ≡ Some (k, f) → f.name ≡ name
found_name n name [] k f e = absurd (none-some (k, f) e)
found_name n name (x ∷ xs) k f e = name_by (bytes_eq x.name name) n name x (numbered_from (n + 1) name xs) k f refl e (found_name (n + 1) name xs k f)

pub record Found (o : Option (ℕ × Field)) (k : ℕ) : Type 0 where
  pub field : Field
  pub is : o ≡ Some (k, field)

found_of : (o : Option (ℕ × Field)) (k : ℕ) → option_map first o ≡ Some k → Found o k
found_of None k e = absurd (none-some k e)
found_of (Some p) k e = record { field = p.1; is = ap (λ n. Some (n, p.1)) (some_is p.0 k e) }

none_first : (o : Option (ℕ × Field)) → option_map first o ≡ None → o ≡ None
none_first None e = refl
none_first (Some p) e = absurd (none-some p.0 (sym e))

-- ---- what comes next

pub record NextNumber (before : List ℕ) (o : Option ℕ) : Type 0 where
  pub number : ℕ
  pub is : o ≡ Some number
  pub new : is_among number before ≡ false

pub next_number : (before : List ℕ) (o : Option ℕ) → IsNext before o → NextNumber before o
next_number before None h = absurd h
next_number before (Some k) h = record { number = k; is = refl; new = h }

type_numbering : (o p : Option KnownField) (k : ℕ) → option_map number_of o ≡ Some k → option_map number_of (option_or o p) ≡ Some k
type_numbering None p k e = absurd (none-some k e)
type_numbering (Some x) p k e = e

module _ (t : NodeType) (all : List Signature) (before : List ℕ) (b : Between) (s : State t all before b) (name : Name) where
  -- a field of the type
  module _ (n : NextNumber before (option_map number_of (of_type t name))) where
    pub given_read : numbering (Some t) all name ≡ Some n.number
    given_read = type_numbering (of_type t name) (of_declared t all name) n.number n.is

    in_rows : Found (numbered_from 0 name (fields_of t)) n.number
    in_rows = found_of (numbered_from 0 name (fields_of t)) n.number (sym (rows_number 0 name (rows t)) ∙ n.is)

    pub given_found : Found (numbered_from 0 name b.fields) n.number
    given_found = record {
      field = in_rows.field;
      is = ap (numbered_from 0 name) s.known ∙ numbered_append 0 name (fields_of t) s.more ∙ ap (λ o. option_or o (numbered_from (0 + length (fields_of t)) name s.more)) in_rows.is;
    }

    pub given_name : given_found.field.name ≡ name
    given_name = found_name 0 name b.fields n.number given_found.field given_found.is

    pub given_once : is_filled name b ≡ false
    given_once = none_named t all before (λ (f : Filled). f.name) name n.number given_read n.new b.filled s.filled

  own_by : (o : Option KnownField) (p : Option ℕ) → IsNext before (unless_own o p) → (o ≡ None) × IsNext before p
  own_by None p h = (refl, h)
  own_by (Some x) p h = absurd h

  -- a field that is declared
  module _ (h : IsNext before (unless_own (of_type t name) (option_map number_of (of_declared t all name)))) where
    both : (of_type t name ≡ None) × IsNext before (option_map number_of (of_declared t all name))
    both = own_by (of_type t name) (option_map number_of (of_declared t all name)) h

    pub declared_next : NextNumber before (option_map number_of (of_declared t all name))
    declared_next = next_number before (option_map number_of (of_declared t all name)) both.1

    pub declared_read : numbering (Some t) all name ≡ Some declared_next.number
    declared_read = ap (λ o. option_map number_of (option_or o (of_declared t all name))) both.0 ∙ declared_next.is

    pub declared_own : unless_own (of_type t name) (option_map number_of (of_declared t all name)) ≡ Some declared_next.number
    declared_own = ap (λ o. unless_own o (option_map number_of (of_declared t all name))) both.0 ∙ declared_next.is

    pub declared_script : is_script t ≡ true
    declared_script = by_script (is_script t) both.1 where
      by_script : (b : Bool) → IsNext before (option_map number_of (known.numbered_from (length (rows t)) name (if b then all else []))) → b ≡ true
      by_script true k = refl
      by_script false k = absurd k

    pub declared_once : is_some (numbered_from 0 name b.fields) ≡ false
    declared_once =
        let in_type = none_first (numbered_from 0 name (fields_of t)) (sym (rows_number 0 name (rows t)) ∙ ap (option_map number_of) both.0) in
        let in_more = none_numbered (0 + length (fields_of t)) name s.more (none_named t all before (λ (f : Field). f.name) name declared_next.number declared_read declared_next.new s.more s.declared) in
        ap is_some (ap (numbered_from 0 name) s.known ∙ numbered_append 0 name (fields_of t) s.more ∙ ap (λ o. option_or o (numbered_from (0 + length (fields_of t)) name s.more)) in_type ∙ in_more)

  -- ---- the fields then

  grown : (k : ℕ) (other : Name) → HasNumber t all before other → HasNumber t all (before ++ k ∷ []) other
  grown k other h = record { number = h.number; read = h.read; among = among_more h.number k before h.among }

  named_now : (k : ℕ) (other : Name) → numbering (Some t) all name ≡ Some k → other ≡ name → HasNumber t all (before ++ k ∷ []) other
  named_now k other e same = record { number = k; read = ap (numbering (Some t) all) same ∙ e; among = among_last k before }

  pub given_state : (k : ℕ) (f : Filled) → numbering (Some t) all name ≡ Some k → f.name ≡ name → State t all (before ++ k ∷ []) (record b { filled = b.filled ++ f ∷ [] })
  given_state k f e same = record {
    more = s.more;
    known = s.known;
    declared = all_weaker (λ (x : Field). HasNumber t all before x.name) (λ (x : Field). HasNumber t all (before ++ k ∷ []) x.name) (λ x h. grown k x.name h) s.more s.declared;
    filled = all_push (λ (x : Filled). HasNumber t all (before ++ k ∷ []) x.name) b.filled f
        (all_weaker (λ (x : Filled). HasNumber t all before x.name) (λ (x : Filled). HasNumber t all (before ++ k ∷ []) x.name) (λ x h. grown k x.name h) b.filled s.filled) (named_now k f.name e same);
  }

  pub declared_state : (k : ℕ) (d : Field) (f : Filled) → numbering (Some t) all name ≡ Some k → d.name ≡ name → f.name ≡ name → State t all (before ++ k ∷ []) (record { fields = b.fields ++ d ∷ []; filled = b.filled ++ f ∷ [] })
  unfolding given_state
  declared_state k d f e same named =
      let after = given_state k f e named in
      record {
        more = s.more ++ d ∷ [];
        known = ap (λ fs. fs ++ d ∷ []) s.known ∙ append_assoc (fields_of t) s.more (d ∷ []);
        declared = all_push (λ (x : Field). HasNumber t all (before ++ k ∷ []) x.name) s.more d after.declared (named_now k d.name e same);
        filled = after.filled;
      }
