-- What a field is given, step by step.
use Rattle.std.proofs.Common.{◌≡◌, ℕ, Bool, true, false, if◌then◌else◌, [], ◌∷◌, ◌++◌, Option, Some, None, Result, Ok, Err, refl, ap, sym, subst, ◌∙◌, inl, inr}
use Rattle.std.specs.Prelude.{◌⊎◌}
use Rattle.std.specs.List.{find}
use Rattle.std.specs.Option.{option_map_or}
use Rattle.std.specs.Str.{bytes_eq}
use Rattle.classic_tree.specs.declared.tree.Given.TheVariants as text
use Rattle.classic_tree.specs.declared.tree.RawValue.{RawValue}
use Rattle.proto_flat.specs.Fault.{fault, memory}
use Rattle.proto_flat.specs.declared.fault.ExpandFault.{ExpandFault}
use Rattle.proto_flat.specs.declared.fault.ExpandFaultKind.TheVariants.{BadIs, FieldTwice}
use Rattle.proto_meaning.specs.Flat as flat
use Rattle.proto_meaning.specs.Flat.{◌>>=◌, meet, met_field, pure, note, refuse, fill, fits, give, give_is}
use Rattle.proto_meaning.specs.Limits.{AField, AnItem, item_count}
use Rattle.proto_meaning.specs.Names.{Name, Field, value_of}
use Rattle.proto_meaning.specs.Sight.{Owner, OfType, OfProto, and_see, no_names}
use Rattle.proto_parts.specs.Inside.{fields_in, filled_in}
use Rattle.proto_parts.specs.declared.inside.Inside.{Inside}
use Rattle.proto_parts.specs.declared.inside.Owner as holder
use Rattle.proto_parts.specs.declared.inside.Owner.TheVariants as held
use Rattle.proto_parts.specs.declared.fields.KnownField.{KnownField}
use Rattle.proto_parts.specs.Fields.{field_named, numbered}
use Rattle.proto_parts.specs.Settled.{State, settle, onward, doing}
use Rattle.proto_parts.proofs.Settling.{parts_settle_in_turn}
use Rattle.proto_parts.specs.Scope.{with_join}
use Rattle.proto_nodes.specs.declared.walker.Walker.{Walker}
use Rattle.proto_nodes.specs.Shown.{Steps}
use Rattle.proto_nodes.proofs.Stepping.{in-turn}
use Rattle.proto_nodes.specs.Giving.{Gives, inside_of, is_type}

pub stops : {A B : Type 0} (m : flat.Does A) (f : A → flat.Does B) (s : State) (e : ExpandFault) → doing m s ≡ Err e → doing (m >>= f) s ≡ Err e
stops m f s e is = parts_settle_in_turn m f s ∙ ap (λ r. and_see r (λ p. doing (f p.0) p.1)) is

-- ---- a field is met

steps-same : (o q : Result (Unit {0} × State) ExpandFault) (r : Result (Unit {0}) ExpandFault) (new : Walker) → o ≡ q → Steps (λ (a : Unit {0}). a) q r new → Steps (λ (a : Unit {0}). a) o r new
steps-same o q r new is k = subst (λ x. Steps (λ (a : Unit {0}). a) x r new) (sym is) k

-- of a node, or of an instance
pub met-there : (o : Owner) (b : Bool) (number items : ℕ) (s : State) (r : Result (Unit {0}) ExpandFault) (new : Walker) → flat.is_node o ≡ b →
    Steps (λ (a : Unit {0}). a) (doing (meet (if b then AField number items else AnItem)) s) r new → Steps (λ (a : Unit {0}). a) (doing (met_field o number items) s) r new
met-there o b number items s r new is k =
    steps-same (doing (met_field o number items) s) (doing (meet (if b then AField number items else AnItem)) s) r new (ap (λ c. doing (meet (if c then AField number items else AnItem)) s) is) k

-- ---- what stands between braces afterwards

pub filled-inside : (at : ℕ) (o : Owner) (old new : Inside) (line : ℕ) (name : Name) (field : KnownField) (v : Option (RawValue ℕ)) → fields_in new ≡ fields_in old →
    filled_in new ≡ filled_in old ++ record { line = line; name = name; number = field.number; value = v } ∷ [] → fill line (numbered name field) (inside_of at o old) v ≡ inside_of at o new
filled-inside at o old new line name field v fields filled = sym (
    ap (λ fs. record (inside_of at o new) { fields = fs }) fields
    ∙ ap (λ fs. record (inside_of at o old) { filled = fs }) filled)

pub nothing-kept : (at : ℕ) (o : Owner) (old new : Inside) (line : ℕ) (name : Name) (field : KnownField) (s t : State) → doing (met_field o field.number 0) s ≡ Ok (tt, t) →
    fill line (numbered name field) (inside_of at o old) None ≡ inside_of at o new → doing (give line (numbered name field) false text.Nothing (inside_of at o old)) s ≡ Ok (inside_of at o new, t)
nothing-kept at o old new line name field s t met is =
    in-turn (met_field o field.number 0) (λ _. pure (fill line (numbered name field) (inside_of at o old) None)) s t tt met ∙ ap (λ i. Ok (i, t)) is

pub nothing-ends : (at : ℕ) (o : Owner) (old : Inside) (line : ℕ) (name : Name) (field : KnownField) (s : State) (e : ExpandFault) → (e ≡ memory) ⊎ (doing (met_field o field.number 0) s ≡ Err e) →
    (e ≡ memory) ⊎ (doing (give line (numbered name field) false text.Nothing (inside_of at o old)) s ≡ Err e)
nothing-ends at o old line name field s e (inl m) = inl m
nothing-ends at o old line name field s e (inr k) =
    inr (stops (met_field o field.number 0) (λ _. pure (fill line (numbered name field) (inside_of at o old) None)) s e k)

-- ---- results

-- an answer of another outcome that is the same
pub gives-same : (at : ℕ) (o : Owner) (p q : Result (flat.Inside × State) ExpandFault) (r : Result (Unit {0}) ExpandFault) (walker : Walker) (old new : Inside) → p ≡ q → Gives at o q r walker old new →
    Gives at o p r walker old new
gives-same at o p q r walker old new is k = subst (λ x. Gives at o x r walker old new) (sym is) k

pub gives-refused : (at : ℕ) (o : Owner) (p : Result (flat.Inside × State) ExpandFault) (r : Result (Unit {0}) ExpandFault) (walker : Walker) (old new : Inside) (e : ExpandFault) → r ≡ Err e →
    (e ≡ memory) ⊎ (p ≡ Err e) → Gives at o p r walker old new
gives-refused at o p r walker old new e is k = subst (λ x. Gives at o p x walker old new) (sym is) k

pub nothing-twice : (at : ℕ) (o : Owner) (i : Inside) (line : ℕ) (name : Name) (field : KnownField) (twice : Bool) (s : State) → twice ≡ true →
    doing (give line (numbered name field) twice text.Nothing (inside_of at o i)) s ≡ Err (fault FieldTwice line)
nothing-twice at o i line name field twice s is = ap (λ b. doing (give line (numbered name field) b text.Nothing (inside_of at o i)) s) is

pub nothing-once : (at : ℕ) (o : Owner) (i : Inside) (line : ℕ) (name : Name) (field : KnownField) (twice : Bool) (s : State) → twice ≡ false →
    doing (give line (numbered name field) twice text.Nothing (inside_of at o i)) s ≡ doing (give line (numbered name field) false text.Nothing (inside_of at o i)) s
nothing-once at o i line name field twice s is = ap (λ b. doing (give line (numbered name field) b text.Nothing (inside_of at o i)) s) is

-- ---- IS

module _ (line : ℕ) (name outer : Name) (field : KnownField) (twice : Bool) (at : ℕ) (o : Owner) (i : Inside) (s : State) where
  abbrev asked : Option Field
  asked = find (λ (f : Field). bytes_eq f.name outer) s.walk.scope.interface

  abbrev comes_by : Option Field → Result (flat.Inside × State) ExpandFault
  comes_by found = and_see (settle (give_is line (numbered name field) twice (inside_of at o i) found s.walk) s.room) onward

  abbrev comes_if : Bool → Bool → Result (flat.Inside × State) ExpandFault
  comes_if fit again = and_see (settle ((if fit
      then (if again then refuse FieldTwice line else (λ w. flat.join line (numbered name field) (inside_of at o i) outer (value_of outer w.scope.given) w))
      else refuse BadIs line) s.walk) s.room) onward

  abbrev whole : Result (flat.Inside × State) ExpandFault
  whole = doing (give line (numbered name field) twice (text.Is outer) (inside_of at o i)) s

  pub is-unknown : None ≡ asked → whole ≡ Err (fault BadIs line)
  is-unknown none = sym (ap comes_by none)

  pub is-other : (known : KnownField) → Some (field_named outer known) ≡ asked → fits (field_named outer known) (field_named name field) ≡ false → whole ≡ Err (fault BadIs line)
  is-other known some fit = sym (ap comes_by some) ∙ ap (λ b. comes_if b twice) fit

  pub is-twice : (known : KnownField) → Some (field_named outer known) ≡ asked → fits (field_named outer known) (field_named name field) ≡ true → twice ≡ true → whole ≡ Err (fault FieldTwice line)
  is-twice known some fit again = sym (ap comes_by some) ∙ ap (λ b. comes_if b twice) fit ∙ ap (λ b. comes_if true b) again

  pub is-joined : (known : KnownField) → Some (field_named outer known) ≡ asked → fits (field_named outer known) (field_named name field) ≡ true → twice ≡ false →
      whole ≡ doing (flat.join line (numbered name field) (inside_of at o i) outer (value_of outer s.walk.scope.given)) s
  is-joined known some fit once = sym (ap comes_by some) ∙ ap (λ b. comes_if b twice) fit ∙ ap (λ b. comes_if true b) once

-- ---- a join

pub join-kept : (at : ℕ) (o : Owner) (old new : Inside) (line : ℕ) (name outer : Name) (field : KnownField) (v : Option (RawValue ℕ)) (s t u : State) →
    doing (met_field o field.number (option_map_or item_count v 0)) s ≡ Ok (tt, t) → doing (note (tt {0}) (with_join outer at name)) t ≡ Ok (tt, u) →
    fill line (numbered name field) (inside_of at o old) v ≡ inside_of at o new → doing (flat.join line (numbered name field) (inside_of at o old) outer v) s ≡ Ok (inside_of at o new, u)
join-kept at o old new line name outer field v s t u met noted is =
    in-turn (met_field o field.number (option_map_or item_count v 0)) (λ _. note (tt {0}) (with_join outer at name) >>= λ _. pure (fill line (numbered name field) (inside_of at o old) v)) s t tt met
    ∙ in-turn (note (tt {0}) (with_join outer at name)) (λ _. pure (fill line (numbered name field) (inside_of at o old) v)) t u tt noted
    ∙ ap (λ i. Ok (i, u)) is

pub join-ends : (at : ℕ) (o : Owner) (old : Inside) (line : ℕ) (name outer : Name) (field : KnownField) (v : Option (RawValue ℕ)) (s : State) (e : ExpandFault) →
    (e ≡ memory) ⊎ (doing (met_field o field.number (option_map_or item_count v 0)) s ≡ Err e) → (e ≡ memory) ⊎ (doing (flat.join line (numbered name field) (inside_of at o old) outer v) s ≡ Err e)
join-ends at o old line name outer field v s e (inl m) = inl m
join-ends at o old line name outer field v s e (inr k) =
    inr (stops (met_field o field.number (option_map_or item_count v 0)) (λ _. note (tt {0}) (with_join outer at name) >>= λ _. pure (fill line (numbered name field) (inside_of at o old) v)) s e k)

pub join-stops : (at : ℕ) (o : Owner) (old : Inside) (line : ℕ) (name outer : Name) (field : KnownField) (v : Option (RawValue ℕ)) (s t : State) (e : ExpandFault) →
    doing (met_field o field.number (option_map_or item_count v 0)) s ≡ Ok (tt, t) → (e ≡ memory) ⊎ (doing (note (tt {0}) (with_join outer at name)) t ≡ Err e) →
    (e ≡ memory) ⊎ (doing (flat.join line (numbered name field) (inside_of at o old) outer v) s ≡ Err e)
join-stops at o old line name outer field v s t e met (inl m) = inl m
join-stops at o old line name outer field v s t e met (inr k) = inr (
    in-turn (met_field o field.number (option_map_or item_count v 0)) (λ _. note (tt {0}) (with_join outer at name) >>= λ _. pure (fill line (numbered name field) (inside_of at o old) v)) s t tt met
    ∙ stops (note (tt {0}) (with_join outer at name)) (λ _. pure (fill line (numbered name field) (inside_of at o old) v)) t e k)

-- ---- so many items

pub met-items : (o : Owner) (number n m : ℕ) (s : State) (e : ExpandFault) → n ≡ m → (e ≡ memory) ⊎ (doing (met_field o number n) s ≡ Err e) → (e ≡ memory) ⊎ (doing (met_field o number m) s ≡ Err e)
met-items o number n m s e is k = subst (λ x. (e ≡ memory) ⊎ (doing (met_field o number x) s ≡ Err e)) is k

-- ---- whose braces they are

-- an owner of the definition for each of the program's
pub any-owner : (w : holder.Owner) → (o : Owner) × (flat.is_node o ≡ is_type w)
any-owner (held.Node t) = (OfType t, refl)
any-owner (held.Instance interface) = (
  OfProto (record { name = []; interface = []; takes = no_names; instance = λ given put. record { met = []; comes = Err memory } }),
  refl,
)
