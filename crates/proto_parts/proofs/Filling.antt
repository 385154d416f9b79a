-- One field more is given.
use Rattle.std.proofs.Common.{◌≡◌, ℕ, Bool, true, false, true≢false, ◌||◌, if◌then◌else◌, List, [], ◌∷◌, ◌++◌, map, Option, Some, None, refl, ap, sym, ◌∙◌}
use Rattle.std.specs.Prelude.{is_some, option_map}
use Rattle.std.specs.Option.{option_or}
use Rattle.std.specs.Str.{bytes_eq}
use Rattle.std.proofs.lemmas.List.{map-append}
use Rattle.std.proofs.lemmas.List.Folds.{list_any-append}
use Rattle.std.proofs.lemmas.Slice.Eq.{bytes_eq-Decides}
use Rattle.std.specs.declared.rc.Rc.{Rc}
use Rattle.classic_tree.specs.declared.tree.RawValue.{RawValue}
use Rattle.proto_meaning.specs.Names.{Name, Filled, value_of}
use Rattle.proto_parts.specs.declared.given.Given.{Given}
use Rattle.proto_parts.specs.declared.given.GivenField.{GivenField}
use Rattle.proto_parts.specs.Given.{Value, held, filled_of, shown, entry_of, with_entry, value_held, has_name, Holds}

or-assoc : (o p q : Value) → option_or (option_or o p) q ≡ option_or o (option_or p q)
or-assoc None p q = refl
or-assoc (Some a) p q = refl

or-none : (o : Value) → option_or o None ≡ o
or-none None = refl
or-none (Some a) = refl

value-append : (name : Name) (xs ys : List Filled) → value_of name (xs ++ ys) ≡ option_or (value_of name xs) (value_of name ys)
value-append name [] ys = refl
value-append name (f ∷ fs) ys =
    ap (λ o. option_or (if bytes_eq f.name name then f.value else None) o) (value-append name fs ys)
    ∙ sym (or-assoc (if bytes_eq f.name name then f.value else None) (value_of name fs) (value_of name ys))

no-value-by : (b : Bool) (v rest : Value) (any : Bool) → (b || any) ≡ false → (any ≡ false → rest ≡ None) → option_or (if b then v else None) rest ≡ None
no-value-by true v rest any none h = absurd (true≢false none)
no-value-by false v rest any none h = h none

-- what was given nothing has no value
no-value : (name : Name) (fs : List Filled) → has_name name fs ≡ false → value_of name fs ≡ None
no-value name [] none = refl
no-value name (f ∷ fs) none = no-value-by (bytes_eq f.name name) f.value (value_of name fs) (has_name name fs) none (no-value name fs)

none-of : (o : Option Value) → is_some o ≡ false → o ≡ None
none-of None e = refl
none-of (Some f) e = absurd (true≢false e)

pub not-there : (given : Given) (filled : List Filled) (name : Name) → Holds given filled → has_name name filled ≡ false → entry_of given name ≡ None
not-there given filled name h none = none-of (entry_of given name) (h.has name ∙ none)

has-by : (b : Bool) (f : Value) (o : Option Value) (any : Bool) → is_some o ≡ any → is_some (if b then Some f else o) ≡ any || (b || false)
has-by true f o true is = refl
has-by true f o false is = refl
has-by false f o true is = is
has-by false f o false is = is

value-by : (b : Bool) (f : Value) (o : Option Value) (v : Value) → value_held o ≡ v → (b ≡ true → v ≡ None) →
    value_held (if b then Some f else o) ≡ option_or v (option_or (if b then f else None) None)
value-by true f o v is none = sym (ap (λ w. option_or w (option_or f None)) (none refl) ∙ or-none (f))
value-by false f o v is none = is ∙ sym (or-none v)

pub filled-more : (old new : Given) (filled : List Filled) (name : Name) (field : GivenField) → Holds old filled → has_name name filled ≡ false →
    shown new ≡ shown old ++ filled_of name field ∷ [] → entry_of new ≡ with_entry name (held field.value) (entry_of old) →
    Holds new (filled ++ filled_of name field ∷ [])
filled-more old new filled name field h none list entries = record {
  list = list ∙ ap (λ fs. fs ++ filled_of name field ∷ []) h.list;
  has = λ q.
      ap (λ e. is_some (e q)) entries
      ∙ has-by (bytes_eq name q) (held field.value) (entry_of old q) (has_name q filled) (h.has q)
      ∙ sym (list_any-append (λ (f : Filled). bytes_eq f.name q) filled (filled_of name field ∷ []));
  value = λ q.
      ap (λ e. value_held (e q)) entries
      ∙ value-by (bytes_eq name q) (held field.value) (entry_of old q) (value_of q filled) (h.value q)
      (λ same. no-value q filled (ap (λ n. has_name n filled) (sym ((bytes_eq-Decides name q).0 same)) ∙ none))
      ∙ sym (value-append q filled (filled_of name field ∷ []));
}

-- ---- the table's own list

pub pushed : {K : Type 0} (es new : List (K × GivenField)) (now : K → Name) (k : K) (field : GivenField) (name : Name) → new ≡ es ++ (k, field) ∷ [] → now k ≡ name →
    map (λ e. filled_of (now e.0) e.1) new ≡ map (λ e. filled_of (now e.0) e.1) es ++ filled_of name field ∷ []
pushed {K} es new now k field name is same =
    ap (map (λ (e : K × GivenField). filled_of (now e.0) e.1)) is
    ∙ map-append (λ (e : K × GivenField). filled_of (now e.0) e.1) es ((k, field) ∷ [])
    ∙ ap (λ n. map (λ (e : K × GivenField). filled_of (now e.0) e.1) es ++ filled_of n field ∷ []) same

-- ---- a value more by its name

pub held-if : {A : Type 0} (b : Bool) (v : Option (Rc (RawValue ℕ) A)) (o : Option (Option (Rc (RawValue ℕ) A))) →
    option_map (λ w. held w) (if b then Some v else o) ≡ (if b then Some (held v) else option_map (λ w. held w) o)
held-if true v o = refl
held-if false v o = refl

-- the field was made known, and then put behind the others
pub filled-then : (first middle last : Given) (filled : List Filled) (name : Name) (value : Value) (field : GivenField) → Holds first filled → has_name name filled ≡ false →
    shown middle ≡ shown first → entry_of middle ≡ with_entry name value (entry_of first) → value ≡ held field.value →
    shown last ≡ shown middle ++ filled_of name field ∷ [] → entry_of last ≡ entry_of middle → Holds last (filled ++ filled_of name field ∷ [])
filled-then first middle last filled name value field h none list entries same more stays =
    filled-more first last filled name field h none (more ∙ ap (λ fs. fs ++ filled_of name field ∷ []) list)
    (stays ∙ entries ∙ ap (λ v. with_entry name v (entry_of first)) same)
