-- The steps of the grammar read what they speak of, and nothing else.
use Rattle.std.proofs.Common.{◌≡◌, ℕ, ℤ, ◌<◌, List, [], ◌∷◌, length, ◌&&◌, Bool, true, false, cond, Option, Some, None, Result, Ok, Err, refl, sym, ap, subst, ◌⊎◌, inl, inr, ⊎_elim, ◌∙◌, arith}
use Rattle.std.proofs.lemmas.Bool.{and_parts}
use Rattle.x3d_numerals.specs.Reading.{numeral}
use Rattle.x3d_numerals.specs.declared.fault.NumeralFault.{NumeralFault}
use Rattle.x3d_numerals.proofs.Numerals.{numeral_sound, numeral_complete}
use Rattle.x3d_values.specs.declared.field_type.Access.{Access}
use Rattle.x3d_values.specs.declared.field_type.FieldType.{FieldType}
use Rattle.x3d_values.specs.Names.{access_named, field_type_named}
use Rattle.classic_lex.specs.Lexed.{Tok}
use Rattle.classic_tree.specs.declared.tree.RouteEnd.{RouteEnd}
use Rattle.classic_tree.specs.declared.tree.RouteText.{RouteText}
use Rattle.classic_text.specs.declared.refusal.Refusal.{Refusal}
use Rattle.classic_text.specs.declared.terminal.Terminal.{Terminal}
use Rattle.classic_text.specs.declared.terminal.Terminal.TheVariants as t
use Rattle.classic_text.specs.Unquoted.{unquoted, is_quoted}
use Rattle.classic_text.specs.Input.{Parsed, Parser, and_then, kind, spelling, next, sees, sees_string, refusal, expect, name, access, access_by, field_type, type_by, string, truth, number, number_by}
use Rattle.classic_text.specs.Grammar.{place, route}
use Rattle.classic_text.specs.Spells.{Is, IsSuch, IsName, IsString, IsNumber, IsTruth, IsAccess, IsFieldType, IsPlace, IsRoute}
use Rattle.classic_text.proofs.HeldLemmas.{unquoted-Holds, Holds-quoted, Holds-unquoted}
use Rattle.classic_text.proofs.Seen.{seen, see, not_see}

-- ---- tools

pub ok_is : {A : Type 0} (x y : A × List Tok) → ◌≡◌ {A = Parsed A} (Ok x) (Ok y) → x ≡ y
ok_is x y h = cc

-- what read both parts read the first, and then the second
pub both : {A B C : Type 0} (r : Parsed A) (f : A → Parser B) (y : B × List Tok) → and_then r f ≡ Ok y → ((x : A) (a : List Tok) → r ≡ Ok (x, a) → f x a ≡ Ok y → C) → C
both (Ok x) f y h go = go x.0 x.1 refl h
both (Err e) f y h go = cc

pub guarded : {A : Type 0} (b : Bool) (x y : A × List Tok) (e : Refusal) → cond b (Ok x) (Err e) ≡ Ok y → (b ≡ true) × (x ≡ y)
guarded true x y e h = (refl, cc)
guarded false x y e h = cc

-- an `if`, either way
pub chosen : {A : Type 0} (b : Bool) (x y z : A) → cond b x y ≡ z → ((b ≡ true) × (x ≡ z)) ⊎ ((b ≡ false) × (y ≡ z))
chosen true x y z h = inl (refl, h)
chosen false x y z h = inr (refl, h)

-- ---- what a token is, and what is left behind it

pub Is-kind : (k : Terminal) (ts rest : List Tok) → Is k ts rest → kind ts ≡ k
unfolding kind
Is-kind k [] rest h = absurd h
Is-kind k (x ∷ ts) rest h = h.0

pub IsSuch-kind : (k : Terminal) (P : List ℕ → Type 0) (ts rest : List Tok) → IsSuch k P ts rest → kind ts ≡ k
unfolding kind
IsSuch-kind k P [] rest h = absurd h
IsSuch-kind k P (x ∷ ts) rest h = h.0

pub Is-shorter : (k : Terminal) (ts rest : List Tok) → Is k ts rest → length rest < length ts
Is-shorter k [] rest h = absurd h
Is-shorter k (x ∷ ts) rest h = rw h.1 (omega arith)

pub IsSuch-shorter : (k : Terminal) (P : List ℕ → Type 0) (ts rest : List Tok) → IsSuch k P ts rest → length rest < length ts
IsSuch-shorter k P [] rest h = absurd h
IsSuch-shorter k P (x ∷ ts) rest h = rw h.2 (omega arith)

pub IsName-kind : (n : List ℕ) (ts rest : List Tok) → IsName n ts rest → kind ts ≡ t.Name
IsName-kind n ts rest h = IsSuch-kind t.Name (λ text. text ≡ n) ts rest h

pub IsName-shorter : (n : List ℕ) (ts rest : List Tok) → IsName n ts rest → length rest < length ts
IsName-shorter n ts rest h = IsSuch-shorter t.Name (λ text. text ≡ n) ts rest h

-- ---- single tokens

-- the next token is of this kind: it is there, unless that is the kind of the end
pub found_expect : (k : Terminal) (ts rest : List Tok) → (t.End ≡ k → ⊥) → expect k ts ≡ Ok (tt, rest) → Is k ts rest
unfolding expect next kind
found_expect k [] rest real h = absurd (real (seen k [] (guarded (sees k []) (tt, []) (tt, rest) (refusal []) h).0))
found_expect k (x ∷ ts) rest real h =
    let g = guarded (sees k (x ∷ ts)) (tt, ts) (tt, rest) (refusal (x ∷ ts)) h in
    (seen k (x ∷ ts) g.0, ap (λ p. p.1) (sym g.1))

pub only_expect : (k : Terminal) (ts rest : List Tok) → Is k ts rest → expect k ts ≡ Ok (tt, rest)
unfolding expect next kind
only_expect k [] rest h = absurd h
only_expect k (x ∷ ts) rest h = rw (see k (x ∷ ts) h.0, h.1) refl

-- the token that the test saw
pub closes : (k : Terminal) (ts rest : List Tok) → (t.End ≡ k → ⊥) → sees k ts ≡ true → next ts ≡ rest → Is k ts rest
unfolding next kind
closes k [] rest real s e = absurd (real (seen k [] s))
closes k (x ∷ ts) rest real s e = (seen k (x ∷ ts) s, sym e)

pub close : (k : Terminal) (ts rest : List Tok) → Is k ts rest → next ts ≡ rest
unfolding next
close k [] rest h = absurd h
close k (x ∷ ts) rest h = sym h.1

pub found_name : (n : List ℕ) (ts rest : List Tok) → name ts ≡ Ok (n, rest) → IsName n ts rest
unfolding name next kind spelling
found_name n [] rest h = absurd (let e : t.End ≡ t.Name = seen t.Name [] (guarded (sees t.Name []) ([], []) (n, rest) (refusal []) h).0 in cc)
found_name n (x ∷ ts) rest h =
    let g = guarded (sees t.Name (x ∷ ts)) (x.text, ts) (n, rest) (refusal (x ∷ ts)) h in
    (seen t.Name (x ∷ ts) g.0, ap (λ p. p.0) g.1, ap (λ p. p.1) (sym g.1))

pub only_name : (n : List ℕ) (ts rest : List Tok) → IsName n ts rest → name ts ≡ Ok (n, rest)
unfolding name next kind spelling
only_name n [] rest h = absurd h
only_name n (x ∷ ts) rest h = rw (see t.Name (x ∷ ts) h.0, h.1, h.2) refl

pub found_string : (s : List ℕ) (ts rest : List Tok) → string ts ≡ Ok (s, rest) → IsString s ts rest
unfolding string sees_string next kind spelling
found_string s [] rest h =
    let g = guarded (sees t.String [] && is_quoted []) (unquoted [], []) (s, rest) (refusal []) h in
    let p = and_parts (sees t.String []) (is_quoted []) g.0 in
    let e : t.End ≡ t.String = seen t.String [] p.0 in cc
found_string s (x ∷ ts) rest h =
    let g = guarded (sees t.String (x ∷ ts) && is_quoted x.text) (unquoted x.text, ts) (s, rest) (refusal (x ∷ ts)) h in
    let p = and_parts (sees t.String (x ∷ ts)) (is_quoted x.text) g.0 in
    (seen t.String (x ∷ ts) p.0, unquoted-Holds x.text s p.1 (ap (λ q. q.0) g.1), ap (λ q. q.1) (sym g.1))

pub only_string : (s : List ℕ) (ts rest : List Tok) → IsString s ts rest → string ts ≡ Ok (s, rest)
unfolding string sees_string next kind spelling
only_string s [] rest h = absurd h
only_string s (x ∷ ts) rest h = rw (see t.String (x ∷ ts) h.0, Holds-quoted x.text s h.1, Holds-unquoted x.text s h.1, h.2) refl

pub found_truth : (b : Bool) (ts rest : List Tok) → truth ts ≡ Ok (b, rest) → IsTruth b ts rest
unfolding truth
found_truth b ts rest h =
    ⊎_elim (λ c. subst (λ (y : Bool × List Tok). IsTruth y.0 ts y.1) (ok_is (true, next ts) (b, rest) c.1) (closes t.True ts (next ts) (λ e. cc) c.0 refl))
    (λ c. let g = guarded (sees t.False ts) (false, next ts) (b, rest) (refusal ts) c.1 in
    subst (λ (y : Bool × List Tok). IsTruth y.0 ts y.1) g.1 (closes t.False ts (next ts) (λ e. cc) g.0 refl))
    (chosen (sees t.True ts) (Ok (true, next ts)) (cond (sees t.False ts) (Ok (false, next ts)) (Err (refusal ts))) (Ok (b, rest)) h)

pub only_truth : (b : Bool) (ts rest : List Tok) → IsTruth b ts rest → truth ts ≡ Ok (b, rest)
unfolding truth
only_truth true ts rest h = rw (see t.True ts (Is-kind t.True ts rest h), close t.True ts rest h) refl
only_truth false ts rest h =
    let k : kind ts ≡ t.False = Is-kind t.False ts rest h in
    let no : sees t.True ts ≡ false = not_see t.True ts (λ e. let c : t.False ≡ t.True = sym k ∙ e in cc) in
    rw (no, see t.False ts k, close t.False ts rest h) refl

pub IsTruth-shorter : (b : Bool) (ts rest : List Tok) → IsTruth b ts rest → length rest < length ts
IsTruth-shorter true ts rest h = Is-shorter t.True ts rest h
IsTruth-shorter false ts rest h = Is-shorter t.False ts rest h

by_numeral : (r : Result ℤ NumeralFault) (n : ℤ) (ts rest : List Tok) → number_by r ts ≡ Ok (n, rest) → (r ≡ Ok n) × (rest ≡ next ts)
by_numeral (Ok m) n ts rest h = let e = ok_is (m, next ts) (n, rest) h in (ap (λ p. Ok p.0) e, ap (λ p. p.1) (sym e))
by_numeral (Err e) n ts rest h = cc

pub found_number : (n : ℤ) (ts rest : List Tok) → number ts ≡ Ok (n, rest) → IsNumber n ts rest
unfolding number next kind spelling
found_number n [] rest h =
    ⊎_elim (λ c. absurd (let e : t.End ≡ t.Numeral = seen t.Numeral [] c.0 in cc)) (λ c. let e = c.1 in cc)
    (chosen (sees t.Numeral []) (number_by (numeral []) []) (Err (refusal [])) (Ok (n, rest)) h)
found_number n (x ∷ ts) rest h =
    ⊎_elim (λ c. let g = by_numeral (numeral x.text) n (x ∷ ts) rest c.1 in (seen t.Numeral (x ∷ ts) c.0, numeral_sound x.text n g.0, g.1)) (λ c. let e = c.1 in cc)
    (chosen (sees t.Numeral (x ∷ ts)) (number_by (numeral x.text) (x ∷ ts)) (Err (refusal (x ∷ ts))) (Ok (n, rest)) h)

pub only_number : (n : ℤ) (ts rest : List Tok) → IsNumber n ts rest → number ts ≡ Ok (n, rest)
unfolding number next kind spelling
only_number n [] rest h = absurd h
only_number n (x ∷ ts) rest h = rw (see t.Numeral (x ∷ ts) h.0, numeral_complete x.text n h.1, h.2) refl

-- ---- access and types

by_access : (o : Option Access) (a : Access) (ts rest : List Tok) → access_by o ts ≡ Ok (a, rest) → (o ≡ Some a) × (rest ≡ next ts)
by_access (Some b) a ts rest h = let e = ok_is (b, next ts) (a, rest) h in (ap (λ p. Some p.0) e, ap (λ p. p.1) (sym e))
by_access None a ts rest h = cc

access_is : (o : Option Access) (a : Access) (ts : List Tok) → o ≡ Some a → access_by o ts ≡ Ok (a, next ts)
access_is o a ts h = ap (λ p. access_by p ts) h

pub found_access : (a : Access) (ts rest : List Tok) → access ts ≡ Ok (a, rest) → IsAccess a ts rest
unfolding access next kind spelling
found_access a [] rest h =
    ⊎_elim (λ c. absurd (let e : t.End ≡ t.Access = seen t.Access [] c.0 in cc)) (λ c. let e = c.1 in cc)
    (chosen (sees t.Access []) (access_by (access_named []) []) (Err (refusal [])) (Ok (a, rest)) h)
found_access a (x ∷ ts) rest h =
    ⊎_elim (λ c. let g = by_access (access_named x.text) a (x ∷ ts) rest c.1 in (seen t.Access (x ∷ ts) c.0, g.0, g.1)) (λ c. let e = c.1 in cc)
    (chosen (sees t.Access (x ∷ ts)) (access_by (access_named x.text) (x ∷ ts)) (Err (refusal (x ∷ ts))) (Ok (a, rest)) h)

pub only_access : (a : Access) (ts rest : List Tok) → IsAccess a ts rest → access ts ≡ Ok (a, rest)
unfolding access next kind spelling
only_access a [] rest h = absurd h
only_access a (x ∷ ts) rest h = rw (see t.Access (x ∷ ts) h.0, h.2) (access_is (access_named x.text) a (x ∷ ts) h.1)

by_type : (o : Option FieldType) (f : FieldType) (ts rest : List Tok) → type_by o ts ≡ Ok (f, rest) → (o ≡ Some f) × (rest ≡ next ts)
by_type (Some g) f ts rest h = let e = ok_is (g, next ts) (f, rest) h in (ap (λ p. Some p.0) e, ap (λ p. p.1) (sym e))
by_type None f ts rest h = cc

type_is : (o : Option FieldType) (f : FieldType) (ts : List Tok) → o ≡ Some f → type_by o ts ≡ Ok (f, next ts)
type_is o f ts h = ap (λ p. type_by p ts) h

pub found_type : (f : FieldType) (ts rest : List Tok) → field_type ts ≡ Ok (f, rest) → IsFieldType f ts rest
unfolding field_type next kind spelling
found_type f [] rest h =
    ⊎_elim (λ c. absurd (let e : t.End ≡ t.Name = seen t.Name [] c.0 in cc)) (λ c. let e = c.1 in cc)
    (chosen (sees t.Name []) (type_by (field_type_named []) []) (Err (refusal [])) (Ok (f, rest)) h)
found_type f (x ∷ ts) rest h =
    ⊎_elim (λ c. let g = by_type (field_type_named x.text) f (x ∷ ts) rest c.1 in (seen t.Name (x ∷ ts) c.0, g.0, g.1)) (λ c. let e = c.1 in cc)
    (chosen (sees t.Name (x ∷ ts)) (type_by (field_type_named x.text) (x ∷ ts)) (Err (refusal (x ∷ ts))) (Ok (f, rest)) h)

pub only_type : (f : FieldType) (ts rest : List Tok) → IsFieldType f ts rest → field_type ts ≡ Ok (f, rest)
unfolding field_type next kind spelling
only_type f [] rest h = absurd h
only_type f (x ∷ ts) rest h = rw (see t.Name (x ∷ ts) h.0, h.2) (type_is (field_type_named x.text) f (x ∷ ts) h.1)

pub IsAccess-kind : (a : Access) (ts rest : List Tok) → IsAccess a ts rest → kind ts ≡ t.Access
IsAccess-kind a ts rest h = IsSuch-kind t.Access (λ text. access_named text ≡ Some a) ts rest h

pub IsAccess-shorter : (a : Access) (ts rest : List Tok) → IsAccess a ts rest → length rest < length ts
IsAccess-shorter a ts rest h = IsSuch-shorter t.Access (λ text. access_named text ≡ Some a) ts rest h

pub IsFieldType-shorter : (f : FieldType) (ts rest : List Tok) → IsFieldType f ts rest → length rest < length ts
IsFieldType-shorter f ts rest h = IsSuch-shorter t.Name (λ text. field_type_named text ≡ Some f) ts rest h

-- ---- places and routes

pub found_place : (p : RouteEnd) (ts rest : List Tok) → place ts ≡ Ok (p, rest) → IsPlace p ts rest
unfolding place
found_place p ts rest h =
    both (name ts) _ (p, rest) h (λ n a e h. both (expect t.Point a) _ (p, rest) h (λ u b f h. both (name b) _ (p, rest) h (λ m c g h.
    subst (λ (y : RouteEnd × List Tok). IsPlace y.0 ts y.1) (ok_is _ _ h)
    (a, b, found_name n ts a e, found_expect t.Point a b (λ e. cc) f, found_name m b c g))))

pub only_place : (p : RouteEnd) (ts rest : List Tok) → IsPlace p ts rest → place ts ≡ Ok (p, rest)
unfolding place
only_place p ts rest h = rw (only_name p.node ts h.0 h.2, only_expect t.Point h.0 h.1 h.3, only_name p.field h.1 rest h.4) refl

pub IsPlace-shorter : (p : RouteEnd) (ts rest : List Tok) → IsPlace p ts rest → length rest < length ts
IsPlace-shorter p ts rest h = omega (arith, IsName-shorter p.node ts h.0 h.2, Is-shorter t.Point h.0 h.1 h.3, IsName-shorter p.field h.1 rest h.4)

pub found_route : (r : RouteText) (ts rest : List Tok) → route ts ≡ Ok (r, rest) → IsRoute ◌≡◌ r ts rest
unfolding route
found_route r ts rest h =
    both (expect t.Route ts) _ (r, rest) h (λ u a e h. both (place a) _ (r, rest) h (λ p b f h. both (expect t.To b) _ (r, rest) h (λ u c g h. both (place c) _ (r, rest) h (λ q d i h.
    subst (λ (y : RouteText × List Tok). IsRoute ◌≡◌ y.0 ts y.1) (ok_is _ _ h)
    (a, b, c, refl, found_expect t.Route ts a (λ e. cc) e, found_place p a b f, found_expect t.To b c (λ e. cc) g, found_place q c d i)))))

pub only_route : (r : RouteText) (ts rest : List Tok) → IsRoute ◌≡◌ r ts rest → route ts ≡ Ok (r, rest)
unfolding route
only_route r ts rest h = rw (only_expect t.Route ts h.0 h.4, only_place r.source h.0 h.1 h.5, only_expect t.To h.1 h.2 h.6, only_place r.target h.2 rest h.7, h.3) refl

pub IsRoute-kind : (r : RouteText) (ts rest : List Tok) → IsRoute ◌≡◌ r ts rest → kind ts ≡ t.Route
IsRoute-kind r ts rest h = Is-kind t.Route ts h.0 h.4

pub IsRoute-shorter : (r : RouteText) (ts rest : List Tok) → IsRoute ◌≡◌ r ts rest → length rest < length ts
IsRoute-shorter r ts rest h = omega (arith, Is-shorter t.Route ts h.0 h.4, IsPlace-shorter r.source h.0 h.1 h.5, Is-shorter t.To h.1 h.2 h.6, IsPlace-shorter r.target h.2 rest h.7)
