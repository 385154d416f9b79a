-- One field more in the tables of an interface.
use Rattle.std.proofs.Common.{◌≡◌, ℕ, ◌+◌, Bool, true, false, true≢false, not, ◌&&◌, ◌||◌, if◌then◌else◌, List, [], ◌∷◌, ◌++◌, length, map, Option, Some, None, refl, ap, sym, ◌∙◌, arith}
use Rattle.std.specs.Prelude.{◌<◌, option_map, is_none, is_some, get_or, take}
use Rattle.std.specs.List.{find}
use Rattle.std.specs.Option.{option_or}
use Rattle.std.specs.Str.{bytes_eq}
use Rattle.std.proofs.Math.Path.{fun_ext}
use Rattle.std.proofs.lemmas.List.{take_more, map-append, length-map, length-take-le}
use Rattle.std.proofs.lemmas.List.Folds.{find-append}
use Rattle.std.proofs.lemmas.Slice.Eq.{bytes_eq-Decides}
use Rattle.x3d_values.specs.Access.{is_exposed}
use Rattle.classic_tree.specs.declared.tree.Declaration.{Declaration}
use Rattle.classic_tree.specs.declared.tree.NodeText.{NodeText}
use Rattle.proto_meaning.specs.Names.{Name, Field}
use Rattle.proto_meaning.specs.Sight.{Names, with_name, no_names}
use Rattle.proto_meaning.specs.Flat.{field, field_with, numbered_from}
use Rattle.proto_parts.specs.declared.fields.Fields.{Fields}
use Rattle.proto_parts.specs.declared.fields.KnownField.{KnownField}
use Rattle.proto_parts.specs.Fields.{field_named, numbered, known, fields_of, with_entry, added, AreFieldsNamed, IsExposed, has_name, twice_after}

abbrev Found : Type 0
Found = Option KnownField

or-none : {A : Type 0} (o : Option A) → option_or o None ≡ o
or-none None = refl
or-none (Some a) = refl

-- ---- the table

new-by : (given name : Name) (f : KnownField) (fields : Name → Found) → fields given ≡ None → (b : Bool) → bytes_eq given name ≡ b →
    (if b then Some f else fields name) ≡ option_or (fields name) (if b then Some f else None)
new-by given name f fields none true e =
    let same : given ≡ name = (bytes_eq-Decides given name).0 e in
    sym (ap (λ o. option_or o (Some f)) (ap fields (sym same) ∙ none))
new-by given name f fields none false e = sym (or-none (fields name))

-- of a new name
pub added-new : (given : Name) (f : KnownField) (fields : Name → Found) → fields given ≡ None → with_entry given f fields ≡ added f given fields
added-new given f fields none = fun_ext (λ name. new-by given name f fields none (bytes_eq given name) refl)

known-by : (given name : Name) (f g : KnownField) (fields : Name → Found) → fields given ≡ Some g → (b : Bool) → bytes_eq given name ≡ b →
    fields name ≡ option_or (fields name) (if b then Some f else None)
known-by given name f g fields some true e =
    let same : given ≡ name = (bytes_eq-Decides given name).0 e in
    let there : fields name ≡ Some g = ap fields (sym same) ∙ some in
    there ∙ sym (ap (λ o. option_or o (Some f)) there)
known-by given name f g fields some false e = sym (or-none (fields name))

-- of a name that stood before
pub added-known : (given : Name) (f g : KnownField) (fields : Name → Found) → fields given ≡ Some g → fields ≡ added f given fields
added-known given f g fields some = fun_ext (λ name. known-by given name f g fields some (bytes_eq given name) refl)

-- ---- by number

more-by : {A : Type 0} (b : Bool) (x : A) (o p last : Option A) → p ≡ option_or o last → (if b then Some x else p) ≡ option_or (if b then Some x else o) last
more-by true x o p last is = refl
more-by false x o p last is = is

pub numbered-more : (n m : ℕ) (name : Name) (fs : List Field) (f : Field) → m ≡ n + length fs →
    numbered_from n name (fs ++ f ∷ []) ≡ option_or (numbered_from n name fs) (if bytes_eq f.name name then Some (m, f) else None)
numbered-more n m name [] f is =
    let same : n ≡ m = omega (arith, is) in
    ap (λ k. if bytes_eq f.name name then Some (k, f) else None) same
numbered-more n m name (x ∷ fs) f is =
    let next : m ≡ n + 1 + length fs = omega (arith, is) in
    more-by (bytes_eq x.name name) (n, x) (numbered_from (n + 1) name fs) (numbered_from (n + 1) name (fs ++ f ∷ [])) (if bytes_eq f.name name then Some (m, f) else None) (numbered-more (n + 1) m name fs f next)

-- what is added, by its name
named-by : (d : Declaration NodeText) (m : ℕ) (name : Name) (o : Found) (b : Bool) → bytes_eq d.name name ≡ b →
    option_map (numbered name) (option_or o (if b then Some (known m d) else None)) ≡ option_or (option_map (numbered name) o) (if b then Some (m, field d) else None)
named-by d m name (Some k) b e = refl
named-by d m name None true e = ap (λ given. Some (m, field_with d.line d.access d.field_type given)) (sym ((bytes_eq-Decides d.name name).0 e))
named-by d m name None false e = refl

pub names-more : (old new : Fields) (d : Declaration NodeText) (n m : ℕ) (fs : List Field) → m ≡ n + length fs →
    fields_of new ≡ added (known m d) d.name (fields_of old) → AreFieldsNamed old n fs → AreFieldsNamed new n (fs ++ field d ∷ [])
names-more old new d n m fs is grows has name =
    ap (λ (e : Name → Found). option_map (numbered name) (e name)) grows
    ∙ named-by d m name (fields_of old name) (bytes_eq d.name name) refl
    ∙ ap (λ o. option_or o (if bytes_eq d.name name then Some (m, field d) else None)) (has name)
    ∙ sym (numbered-more n m name fs (field d) is)

-- ---- inputOutput fields

exposed-by : (d : Declaration NodeText) (m : ℕ) (name : Name) (o : Found) (x b : Bool) → x ≡ true → bytes_eq d.name name ≡ b →
    option_map (field_named name) (option_or o (if b then Some (known m d) else None)) ≡ option_or (option_map (field_named name) o) (if x && b then Some (field d) else None)
exposed-by d m name (Some k) x b is e = refl
exposed-by d m name None true true is e = ap (λ given. Some (field_with d.line d.access d.field_type given)) (sym ((bytes_eq-Decides d.name name).0 e))
exposed-by d m name None true false is e = refl
exposed-by d m name None false b is e = absurd (true≢false (sym is))

pub exposed-more : (old new : Fields) (d : Declaration NodeText) (m : ℕ) (fs : List Field) → is_exposed d.access ≡ true →
    fields_of new ≡ added (known m d) d.name (fields_of old) → IsExposed old fs → IsExposed new (fs ++ field d ∷ [])
exposed-more old new d m fs is grows has name =
    ap (λ (e : Name → Found). option_map (field_named name) (e name)) grows
    ∙ exposed-by d m name (fields_of old name) (is_exposed d.access) (bytes_eq d.name name) is refl
    ∙ ap (λ o. option_or o (if is_exposed d.access && bytes_eq d.name name then Some (field d) else None)) (has name)
    ∙ sym (find-append (λ (f : Field). is_exposed f.access && bytes_eq f.name name) fs (field d ∷ []))

hidden-by : {A : Type 0} (x b : Bool) (f : A) → x ≡ false → (if x && b then Some f else None) ≡ None
hidden-by true b f is = absurd (true≢false is)
hidden-by false b f is = refl

pub exposed-stays : (old : Fields) (d : Declaration NodeText) (fs : List Field) → is_exposed d.access ≡ false → IsExposed old fs → IsExposed old (fs ++ field d ∷ [])
exposed-stays old d fs is has name =
    has name
    ∙ sym (find-append (λ (f : Field). is_exposed f.access && bytes_eq f.name name) fs (field d ∷ [])
    ∙ ap (λ o. option_or (find (λ (f : Field). is_exposed f.access && bytes_eq f.name name) fs) o) (hidden-by (is_exposed d.access) (bytes_eq d.name name) (field d) is)
    ∙ or-none (find (λ (f : Field). is_exposed f.access && bytes_eq f.name name) fs))

-- ---- whether a name stands there

some-by : {A : Type 0} (b : Bool) (x : A) (o : Option A) (any : Bool) → is_some o ≡ any → is_some (if b then Some x else o) ≡ b || any
some-by true x o any is = refl
some-by false x o any is = is

has-number : (n : ℕ) (name : Name) (fs : List Field) → is_some (numbered_from n name fs) ≡ has_name name fs
has-number n name [] = refl
has-number n name (f ∷ fs) = some-by (bytes_eq f.name name) (n, f) (numbered_from (n + 1) name fs) (has_name name fs) (has-number (n + 1) name fs)

new-is : {A B : Type 0} (o : Option A) (f : A → B) → is_none o ≡ not (is_some (option_map f o))
new-is None f = refl
new-is (Some a) f = refl

pub is-new : (table : Fields) (n : ℕ) (name : Name) (fs : List Field) (b : Bool) → b ≡ is_none (fields_of table name) → AreFieldsNamed table n fs → b ≡ not (has_name name fs)
is-new table n name fs b is has =
    is ∙ new-is (fields_of table name) (numbered name) ∙ ap (λ o. not (is_some o)) (has name) ∙ ap not (has-number n name fs)

-- ---- names that stand twice

last-by : (b : Bool) (line : ℕ) → (if b then Some line else None) ≡ option_or None (if b || false then Some line else None)
last-by true line = refl
last-by false line = refl

turned : (p q r : Bool) → ((if p then true else q) || r) ≡ (q || (p || r))
turned true true r = refl
turned true false r = refl
turned false q r = refl

twice-by : (b : Bool) (line last : ℕ) (more rest : Option ℕ) (p q r : Bool) → more ≡ option_or rest (if (if p then true else q) || r then Some last else None) →
    (if b then Some line else more) ≡ option_or (if b then Some line else rest) (if q || (p || r) then Some last else None)
twice-by true line last more rest p q r is = refl
twice-by false line last more rest p q r is = is ∙ ap (λ b. option_or rest (if b then Some last else None)) (turned p q r)

twice-append : (seen : Names) (fs : List Field) (f : Field) → twice_after seen (fs ++ f ∷ []) ≡ option_or (twice_after seen fs) (if seen f.name || has_name f.name fs then Some f.line else None)
twice-append seen [] f = last-by (seen f.name) f.line
twice-append seen (x ∷ fs) f =
    twice-by (seen x.name) x.line f.line (twice_after (with_name x.name seen) (fs ++ f ∷ [])) (twice_after (with_name x.name seen) fs)
    (bytes_eq x.name f.name) (seen f.name) (has_name f.name fs) (twice-append (with_name x.name seen) fs f)

line-by : (b : Bool) (line : ℕ) → (if not b then None else Some line) ≡ (if b then Some line else None)
line-by true line = refl
line-by false line = refl

pub twice-more : (fs : List Field) (f : Field) (before now : Option ℕ) (new : Bool) → before ≡ twice_after no_names fs → new ≡ not (has_name f.name fs) →
    now ≡ option_or before (if new then None else Some f.line) → now ≡ twice_after no_names (fs ++ f ∷ [])
twice-more fs f before now new was is more =
    more ∙ ap (λ b. option_or before (if b then None else Some f.line)) is
    ∙ ap (option_or before) (line-by (has_name f.name fs) f.line)
    ∙ ap (λ o. option_or o (if has_name f.name fs then Some f.line else None)) was
    ∙ sym (twice-append no_names fs f)

-- ---- the list that was read so far

pub list-more : (ds : List (Declaration NodeText)) (i : ℕ) (d : Declaration NodeText) → i < length ds → d ≡ get_or ds i d → map field (take (i + 1) ds) ≡ map field (take i ds) ++ field d ∷ []
list-more ds i d within at =
    ap (λ xs. map field xs) (take_more ds i d within ∙ ap (λ x. take i ds ++ x ∷ []) (sym at)) ∙ map-append (λ (x : Declaration NodeText). field x) (take i ds) (d ∷ [])

pub list-length : (ds : List (Declaration NodeText)) (i number : ℕ) → i < length ds → number ≡ i → number ≡ length (map (λ (x : Declaration NodeText). field x) (take i ds))
list-length ds i number within is =
    let short : length (map (λ (x : Declaration NodeText). field x) (take i ds)) ≡ i = length-map (take i ds) (λ (x : Declaration NodeText). field x) ∙ length-take-le i ds (omega (arith, within)) in
    is ∙ sym short
