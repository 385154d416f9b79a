-- Values between braces, step by step.
use Rattle.std.proofs.Common.{◌≡◌, ℕ, Bool, true, false, ◌||◌, if◌then◌else◌, [], ◌∷◌, ◌++◌, length, Option, Some, None, Result, Ok, Err, ap, sym, ◌∙◌, inl, inr}
use Rattle.std.specs.Prelude.{◌⊎◌, option_map, is_some}
use Rattle.x3d_values.specs.Access.{is_initial}
use Rattle.classic_tree.specs.declared.tree.Declaration.{Declaration}
use Rattle.classic_tree.specs.declared.tree.NodeText.{NodeText}
use Rattle.proto_flat.specs.Fault.{fault, memory}
use Rattle.proto_flat.specs.declared.fault.ExpandFault.{ExpandFault}
use Rattle.proto_flat.specs.declared.fault.ExpandFaultKind.TheVariants.{FieldTwice, UnknownField}
use Rattle.proto_meaning.specs.Flat as flat
use Rattle.proto_meaning.specs.Flat.{◌>>=◌, met_field, refuse, fill, field, numbered_from}
use Rattle.proto_meaning.specs.Names.{Name, Field}
use Rattle.proto_meaning.specs.Sight.{Owner, and_see}
use Rattle.proto_parts.specs.Inside.{fields_in, filled_in}
use Rattle.proto_parts.specs.declared.inside.Inside.{Inside}
use Rattle.proto_parts.specs.declared.fields.KnownField.{KnownField}
use Rattle.proto_parts.specs.Fields.{known, numbered}
use Rattle.proto_parts.specs.Settled.{State, settle, onward, doing}
use Rattle.proto_nodes.specs.declared.walker.Walker.{Walker}
use Rattle.proto_nodes.specs.Shown.{Steps, shown}
use Rattle.proto_nodes.proofs.Stepping.{in-turn}
use Rattle.proto_nodes.specs.Scripts.{declares}
use Rattle.proto_meaning.specs.trees.Values.{value_at}
use Rattle.proto_nodes.specs.Giving.{MayHold, aside, inside_of, is_type}
use Rattle.proto_nodes.proofs.GivingGiven.{any-owner, stops}

-- ---- where a value may stand

module _ (line : ℕ) (name : Name) (known_field : KnownField) (twice : Bool) (at : ℕ) (o : Owner) (items : ℕ) (rest : flat.Does flat.Inside) (i : Inside) (s : State) where
  abbrev value_comes : Bool → Bool → Result (flat.Inside × State) ExpandFault
  value_comes may again = and_see (settle ((if may
      then (if again then refuse FieldTwice line else met_field o known_field.number items >>= λ _. rest)
      else refuse UnknownField line) s.walk) s.room) onward

  abbrev value_whole : Result (flat.Inside × State) ExpandFault
  value_whole = doing (value_at line (numbered name known_field) twice items (inside_of at o i) rest) s

  pub value-refused : (b : Bool) → flat.is_node o ≡ b → b || is_initial known_field.access ≡ false → value_whole ≡ Err (fault UnknownField line)
  value-refused b is none = ap (λ c. value_comes (c || is_initial known_field.access) twice) is ∙ ap (λ c. value_comes c twice) none

  pub value-twice : (b : Bool) → flat.is_node o ≡ b → b || is_initial known_field.access ≡ true → twice ≡ true → value_whole ≡ Err (fault FieldTwice line)
  value-twice b is may again =
      ap (λ c. value_comes (c || is_initial known_field.access) twice) is ∙ ap (λ c. value_comes c twice) may ∙ ap (λ c. value_comes true c) again

  pub value-stands : (b : Bool) → flat.is_node o ≡ b → b || is_initial known_field.access ≡ true → twice ≡ false →
      value_whole ≡ doing (met_field o known_field.number items >>= λ _. rest) s
  value-stands b is may once =
      ap (λ c. value_comes (c || is_initial known_field.access) twice) is ∙ ap (λ c. value_comes c twice) may ∙ ap (λ c. value_comes true c) once

-- ---- a value that is met

held-by : (whole : Result (flat.Inside × State) ExpandFault) (o : Owner) (number items : ℕ) (rest : flat.Does flat.Inside) (s : State) (e : ExpandFault) →
    whole ≡ doing (met_field o number items >>= λ _. rest) s → (e ≡ memory) ⊎ (doing (met_field o number items) s ≡ Err e) → (e ≡ memory) ⊎ (whole ≡ Err e)
held-by whole o number items rest s e is (inl m) = inl m
held-by whole o number items rest s e is (inr k) = inr (is ∙ stops (met_field o number items) (λ _. rest) s e k)

pub holds-by : (line : ℕ) (name : Name) (known_field : KnownField) (twice : Bool) (items : ℕ) (i : Inside) (s : State) (r : Result (Unit {0}) ExpandFault) (new : Walker) → twice ≡ false →
    ((at : ℕ) (o : Owner) (items : ℕ) (rest : flat.Does flat.Inside) (t : State) → flat.is_node o ≡ is_type i.owner →
    doing (value_at line (numbered name known_field) twice items (inside_of at o i) rest) t ≡ doing (met_field o known_field.number items >>= λ _. rest) t) →
    ((o : Owner) → flat.is_node o ≡ is_type i.owner → Steps (λ (a : Unit {0}). a) (doing (met_field o known_field.number items) s) r new) → MayHold line name known_field twice items i s r new
holds-by line name known_field twice items i s (Ok u) new once stands met =
    let any = any-owner i.owner in (
      once,
      (met any.0 any.1).1,
      λ at o rest is. stands at o items rest s is ∙ in-turn (met_field o known_field.number items) (λ _. rest) s (shown new) tt (met o is).0,
    )
holds-by line name known_field twice items i s (Err e) new once stands met =
    λ at o rest is. held-by (doing (value_at line (numbered name known_field) twice items (inside_of at o i) rest) s) o known_field.number items rest s e (stands at o items rest s is) (met o is)

-- ---- a value that goes nowhere

pub aside-wrong : (line : ℕ) (f : ℕ × Field) (i : flat.Inside) (s : State) (wrong : Option ExpandFault) (e : ExpandFault) → wrong ≡ Some e → doing (aside line f i wrong) s ≡ Err e
aside-wrong line f i s wrong e is = ap (λ w. doing (aside line f i w) s) is

pub aside-put : (line : ℕ) (f : ℕ × Field) (i j : flat.Inside) (s : State) (wrong : Option ExpandFault) → wrong ≡ None → fill line f i None ≡ j → doing (aside line f i wrong) s ≡ Ok (j, s)
aside-put line f i j s wrong is filled = ap (λ w. doing (aside line f i w) s) is ∙ ap (λ k. Ok (k, s)) filled

-- ---- a Script's declarations

pub mapped : {A B : Type 0} (f : A → B) (o : Option A) (p : Option B) → option_map f o ≡ p → is_some o ≡ is_some p
mapped f None p is = ap is_some is
mapped f (Some a) p is = ap is_some is

module _ (d : Declaration NodeText) (at : ℕ) (o : Owner) (old : Inside) (rest : ℕ × Field → Bool → flat.Inside → flat.Does flat.Inside) (s : State) where
  abbrev longer : flat.Inside
  longer = record (inside_of at o old) { fields = fields_in old ++ field d ∷ [] }

  abbrev declare_comes : Bool → Result (flat.Inside × State) ExpandFault
  declare_comes script = and_see (settle ((if script
      then rest (length (fields_in old), field d) (is_some (numbered_from 0 d.name (fields_in old))) longer
      else refuse UnknownField d.line) s.walk) s.room) onward

  abbrev declare_whole : Result (flat.Inside × State) ExpandFault
  declare_whole = doing (declares d rest (inside_of at o old)) s

  pub no-script : flat.is_script o ≡ false → declare_whole ≡ Err (fault UnknownField d.line)
  no-script is = ap declare_comes is

  pub declared : (new : Inside) (k : KnownField) (twice : Bool) → flat.is_script o ≡ true → twice ≡ is_some (numbered_from 0 d.name (fields_in old)) → k ≡ known (length (fields_in old)) d →
      fields_in new ≡ fields_in old ++ field d ∷ [] → filled_in new ≡ filled_in old → declare_whole ≡ doing (rest (numbered d.name k) twice (inside_of at o new)) s
  declared new k twice script again is fields filled =
      ap declare_comes script
      ∙ ap (λ b. doing (rest (length (fields_in old), field d) b longer) s) (sym again)
      ∙ ap (λ n. doing (rest (numbered d.name n) twice longer) s) (sym is)
      ∙ ap (λ fs. doing (rest (numbered d.name k) twice (record (inside_of at o old) { fields = fs })) s) (sym fields)
      ∙ ap (λ fs. doing (rest (numbered d.name k) twice (record (inside_of at o new) { filled = fs })) s) (sym filled)
