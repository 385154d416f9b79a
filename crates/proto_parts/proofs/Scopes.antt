-- The last of a name, where braces open and close.
use Rattle.std.proofs.Common.{◌≡◌, ℕ, ◌+◌, ◌≤◌, ◌<◌, Bool, true, false, true≢false, if◌then◌else◌, List, [], ◌∷◌, ◌++◌, length, Option, Some, None, refl, ap, sym, ◌∙◌, arith}
use Rattle.std.specs.Prelude.{option_map, is_some}
use Rattle.std.specs.List.{fold}
use Rattle.std.specs.Option.{option_or}
use Rattle.std.specs.Str.{bytes_eq}
use Rattle.std.proofs.lemmas.Bool.{lt-ltb, le-ltb}
use Rattle.std.proofs.lemmas.Slice.Eq.{bytes_eq-Decides}
use Rattle.proto_meaning.specs.Names.{Name, Braces, Stands, has_name, used, last_from}
use Rattle.proto_parts.specs.declared.names.Closed.{Closed}
use Rattle.proto_parts.specs.declared.names.Names.{Names}
use Rattle.proto_parts.specs.Names.{begun_of, closed_of, with_entry, is_later, opened, closed, closed_at, last_closed, Knows}

-- ---- options and names

or-none : {A : Type 0} (o : Option A) → option_or o None ≡ o
or-none None = refl
or-none (Some a) = refl

or-assoc : {A : Type 0} (o p q : Option A) → option_or (option_or o p) q ≡ option_or o (option_or p q)
or-assoc None p q = refl
or-assoc (Some a) p q = refl

none-either : {A : Type 0} (h : Bool) (o : Option A) → option_or o (if h then None else None) ≡ o
none-either true o = or-none o
none-either false o = or-none o

same-truth : (p q : Bool) → (p ≡ true → q ≡ true) → (q ≡ true → p ≡ true) → p ≡ q
same-truth true q k l = sym (k refl)
same-truth false true k l = l refl
same-truth false false k l = refl

turned : (a b : Name) → bytes_eq a b ≡ bytes_eq b a
turned a b =
    same-truth (bytes_eq a b) (bytes_eq b a) (λ h. (bytes_eq-Decides b a).1 (sym ((bytes_eq-Decides a b).0 h)))
    (λ h. (bytes_eq-Decides a b).1 (sym ((bytes_eq-Decides b a).0 h)))

-- ---- the last of two lists

last-append : (k m : ℕ) (q : Name) (xs ys : List Braces) → m ≡ k + length xs → last_from k q (xs ++ ys) ≡ option_or (last_from m q ys) (last_from k q xs)
last-append k m q [] ys is = let same : k ≡ m = omega (arith, is) in ap (λ n. last_from n q ys) same ∙ sym (or-none (last_from m q ys))
last-append k m q (x ∷ xs) ys is =
    let next : m ≡ k + 1 + length xs = omega (arith, is) in
    ap (λ o. option_or o (if has_name q x then Some k else None)) (last-append (k + 1) m q xs ys next)
    ∙ or-assoc (last_from m q ys) (last_from (k + 1) q xs) (if has_name q x then Some k else None)

closed-append : (k m : ℕ) (q : Name) (xs ys : List Braces) → m ≡ k + length xs → last_closed k q (xs ++ ys) ≡ option_or (last_closed m q ys) (last_closed k q xs)
closed-append k m q [] ys is = let same : k ≡ m = omega (arith, is) in ap (λ n. last_closed n q ys) same ∙ sym (or-none (last_closed m q ys))
closed-append k m q (x ∷ xs) ys is =
    let next : m ≡ k + 1 + length xs = omega (arith, is) in
    ap (λ o. option_or o (closed_at k q x)) (closed-append (k + 1) m q xs ys next)
    ∙ or-assoc (last_closed m q ys) (last_closed (k + 1) q xs) (closed_at k q x)

-- ---- where they stand

abbrev IfAny : Option Closed → (Closed → Type 0) → Type 0
IfAny None p = Unit {0}
IfAny (Some c) p = p c

or-any : (p : Closed → Type 0) (o r : Option Closed) → IfAny o p → IfAny r p → IfAny (option_or o r) p
or-any p None r h k = k
or-any p (Some c) r h k = h

any-weaker : (p r : Closed → Type 0) (o : Option Closed) → ((c : Closed) → p c → r c) → IfAny o p → IfAny o r
any-weaker p r None w h = tt
any-weaker p r (Some c) w h = w c h

any-at : (p : Closed → Type 0) (k : ℕ) (h : Bool) (what : Option Stands) → ((n : ℕ) → p (record { at = k; node = n })) → IfAny (if h then option_map (λ s. record { at = k; node = s.node }) what else None) p
any-at p k true None w = tt
any-at p k true (Some s) w = w s.node
any-at p k false what w = tt

above : (k : ℕ) (q : Name) (bs : List Braces) → IfAny (last_closed k q bs) (λ c. k ≤ c.at)
above k q [] = tt
above k q (b ∷ bs) =
    or-any (λ c. k ≤ c.at) (last_closed (k + 1) q bs) (closed_at k q b)
    (any-weaker (λ c. k + 1 ≤ c.at) (λ c. k ≤ c.at) (last_closed (k + 1) q bs) (λ c h. omega (arith, h)) (above (k + 1) q bs))
    (any-at (λ c. k ≤ c.at) k (has_name q b) b.stands (λ n. omega arith))

below : (k : ℕ) (q : Name) (bs : List Braces) → IfAny (last_closed k q bs) (λ c. c.at < k + length bs)
below k q [] = tt
below k q (b ∷ bs) =
    or-any (λ c. c.at < k + length (b ∷ bs)) (last_closed (k + 1) q bs) (closed_at k q b)
    (any-weaker (λ c. c.at < k + 1 + length bs) (λ c. c.at < k + length (b ∷ bs)) (last_closed (k + 1) q bs) (λ c h. omega (arith, h)) (below (k + 1) q bs))
    (any-at (λ c. c.at < k + length (b ∷ bs)) k (has_name q b) b.stands (λ n. omega arith))

-- ---- braces that open

entry-or : {A : Type 0} (b : Bool) (a : A) (o : Option A) → (if b then Some a else o) ≡ option_or (if b then Some a else None) o
entry-or true a o = refl
entry-or false a o = refl

pub opens-named : (old new : Names) (name : Name) (at : ℕ) (bs : List Braces) → at ≡ length bs → Knows old bs → begun_of new ≡ with_entry name at (begun_of old) → closed_of new ≡ closed_of old →
    Knows new (bs ++ opened (Some name) ∷ [])
opens-named old new name at bs is k begun stays = record {
  begun = λ q.
      ap (λ f. f q) begun
      ∙ ap (λ o. if bytes_eq name q then Some at else o) (k.begun q)
      ∙ ap (λ b. if b then Some at else last_from 0 q bs) (turned name q)
      ∙ entry-or (bytes_eq q name) at (last_from 0 q bs)
      ∙ sym (last-append 0 at q bs (opened (Some name) ∷ []) (omega (arith, is)));
  closed = λ q.
      ap (λ f. f q) stays ∙ k.closed q
      ∙ sym (closed-append 0 at q bs (opened (Some name) ∷ []) (omega (arith, is)) ∙ ap (λ o. option_or o (last_closed 0 q bs)) (none-either (bytes_eq q name) None));
}

pub opens-nameless : (names : Names) (at : ℕ) (bs : List Braces) → at ≡ length bs → Knows names bs → Knows names (bs ++ opened None ∷ [])
opens-nameless names at bs is k = record {
  begun = λ q. k.begun q ∙ sym (last-append 0 at q bs (opened None ∷ []) (omega (arith, is)));
  closed = λ q. k.closed q ∙ sym (closed-append 0 at q bs (opened None ∷ []) (omega (arith, is)));
}

-- ---- braces that close

begun-stays : (at : ℕ) (q : Name) (name : Option Name) (what : Stands) (before after : List Braces) → at ≡ length before →
    last_from 0 q (before ++ opened name ∷ after) ≡ last_from 0 q (before ++ closed name what ∷ after)
begun-stays at q name what before after is =
    last-append 0 at q before (opened name ∷ after) (omega (arith, is)) ∙ sym (last-append 0 at q before (closed name what ∷ after) (omega (arith, is)))

pub closes-nameless : (names : Names) (at : ℕ) (what : Stands) (before after : List Braces) → at ≡ length before → Knows names (before ++ opened None ∷ after) →
    Knows names (before ++ closed None what ∷ after)
closes-nameless names at what before after is k = record {
  begun = λ q. k.begun q ∙ begun-stays at q None what before after is;
  closed = λ q.
      k.closed q ∙ closed-append 0 at q before (opened None ∷ after) (omega (arith, is))
      ∙ sym (closed-append 0 at q before (closed None what ∷ after) (omega (arith, is)));
}

-- before it closes, the last is behind it or before it
was : (at : ℕ) (q name : Name) (before after : List Braces) → at ≡ length before →
    last_closed 0 q (before ++ opened (Some name) ∷ after) ≡ option_or (last_closed (at + 1) q after) (last_closed 0 q before)
was at q name before after is =
    closed-append 0 at q before (opened (Some name) ∷ after) (omega (arith, is))
    ∙ ap (λ o. option_or o (last_closed 0 q before)) (none-either (bytes_eq q name) (last_closed (at + 1) q after))

-- once it is closed, it is behind those before it
comes : (at : ℕ) (q name : Name) (what : Stands) (before after : List Braces) → at ≡ length before →
    last_closed 0 q (before ++ closed (Some name) what ∷ after)
    ≡ option_or (option_or (last_closed (at + 1) q after) (if bytes_eq q name then Some (record { at = at; node = what.node }) else None)) (last_closed 0 q before)
comes at q name what before after is = closed-append 0 at q before (closed (Some name) what ∷ after) (omega (arith, is))

abbrev at-below : ℕ → Option Closed → Type 0
at-below at o = IfAny o (λ c. c.at < at)

is-behind : (o p : Option Closed) (at : ℕ) → IfAny p (λ c. c.at < at) → is_later (option_or o p) at ≡ true → is_some o ≡ true
is-behind (Some c) p at h later = refl
is-behind None None at h later = absurd (true≢false (sym later))
is-behind None (Some c) at h later = absurd (true≢false (sym later ∙ le-ltb at c.at (omega (arith, h))))

none-behind : (o p : Option Closed) (at : ℕ) → IfAny o (λ c. at + 1 ≤ c.at) → is_later (option_or o p) at ≡ false → is_some o ≡ false
none-behind None p at h later = refl
none-behind (Some c) p at h later = absurd (true≢false (sym (lt-ltb at c.at (omega (arith, h))) ∙ later))

kept-by : (h : Bool) (o p : Option Closed) (c : Closed) → (h ≡ true → is_some o ≡ true) → option_or o p ≡ option_or (option_or o (if h then Some c else None)) p
kept-by true (Some d) p c k = refl
kept-by true None p c k = absurd (true≢false (sym (k refl)))
kept-by false o p c k = ap (λ r. option_or r p) (sym (or-none o))

set-by : (h : Bool) (o p : Option Closed) (c : Closed) → (h ≡ true → is_some o ≡ false) → (if h then Some c else option_or o p) ≡ option_or (option_or o (if h then Some c else None)) p
set-by true (Some d) p c k = absurd (true≢false (k refl))
set-by true None p c k = refl
set-by false o p c k = ap (λ r. option_or r p) (sym (or-none o))

-- one of the name that closed is behind it
pub closes-before : (names : Names) (name : Name) (at : ℕ) (what : Stands) (before after : List Braces) → at ≡ length before → is_later (closed_of names name) at ≡ true →
    Knows names (before ++ opened (Some name) ∷ after) → Knows names (before ++ closed (Some name) what ∷ after)
closes-before names name at what before after is later k =
    let behind : is_some (last_closed (at + 1) name after) ≡ true =
    is-behind (last_closed (at + 1) name after) (last_closed 0 name before) at (any-weaker (λ c. c.at < 0 + length before) (λ c. c.at < at) (last_closed 0 name before) (λ c h. omega (arith, h, is)) (below 0 name before))
    (ap (λ o. is_later o at) (sym (k.closed name ∙ was at name name before after is)) ∙ later) in
    record {
      begun = λ q. k.begun q ∙ begun-stays at q (Some name) what before after is;
      closed = λ q.
          k.closed q ∙ was at q name before after is
          ∙ kept-by (bytes_eq q name) (last_closed (at + 1) q after) (last_closed 0 q before) (record { at = at; node = what.node })
          (λ h. ap (λ n. is_some (last_closed (at + 1) n after)) ((bytes_eq-Decides q name).0 h) ∙ behind)
          ∙ sym (comes at q name what before after is);
    }

-- it is the last of its name that is closed
pub closes-last : (old new : Names) (name : Name) (at node : ℕ) (what : Stands) (before after : List Braces) → at ≡ length before → what.node ≡ node → is_later (closed_of old name) at ≡ false →
    begun_of new ≡ begun_of old → closed_of new ≡ with_entry name (record { at = at; node = node }) (closed_of old) →
    Knows old (before ++ opened (Some name) ∷ after) → Knows new (before ++ closed (Some name) what ∷ after)
closes-last old new name at node what before after is same later begun set k =
    let none : is_some (last_closed (at + 1) name after) ≡ false =
    none-behind (last_closed (at + 1) name after) (last_closed 0 name before) at (above (at + 1) name after)
    (ap (λ o. is_later o at) (sym (k.closed name ∙ was at name name before after is)) ∙ later) in
    record {
      begun = λ q. ap (λ f. f q) begun ∙ k.begun q ∙ begun-stays at q (Some name) what before after is;
      closed = λ q.
          ap (λ f. f q) set
          ∙ ap (λ o. if bytes_eq name q then Some (record { at = at; node = node }) else o) (k.closed q ∙ was at q name before after is)
          ∙ ap (λ b. if b then Some (record { at = at; node = node }) else option_or (last_closed (at + 1) q after) (last_closed 0 q before)) (turned name q)
          ∙ set-by (bytes_eq q name) (last_closed (at + 1) q after) (last_closed 0 q before) (record { at = at; node = node })
          (λ h. ap (λ n. is_some (last_closed (at + 1) n after)) ((bytes_eq-Decides q name).0 h) ∙ none)
          ∙ ap (λ n. option_or (option_or (last_closed (at + 1) q after) (if bytes_eq q name then Some (record { at = at; node = n }) else None)) (last_closed 0 q before)) (sym same)
          ∙ sym (comes at q name what before after is);
    }

-- ---- what is found

one-used : (k : ℕ) (o : Option Closed) (h : Bool) (what : Option Stands) (x : Option ℕ) →
    option_or (option_map (λ c. c.node) o) (if h then option_or (option_map (λ s. s.node) what) x else x)
    ≡ option_or (option_map (λ c. c.node) (option_or o (if h then option_map (λ s. record { at = k; node = s.node }) what else None))) x
one-used k (Some c) h what x = refl
one-used k None true (Some s) x = refl
one-used k None true None x = refl
one-used k None false what x = refl

used-from : (k : ℕ) (q : Name) (bs : List Braces) (x : Option ℕ) →
    fold (λ before b. if has_name q b then option_or (option_map (λ s. s.node) b.stands) before else before) x bs ≡ option_or (option_map (λ c. c.node) (last_closed k q bs)) x
used-from k q [] x = refl
used-from k q (b ∷ bs) x =
    used-from (k + 1) q bs (if has_name q b then option_or (option_map (λ s. s.node) b.stands) x else x)
    ∙ one-used k (last_closed (k + 1) q bs) (has_name q b) b.stands x

pub used-is : (names : Names) (q : Name) (bs : List Braces) → Knows names bs → option_map (λ c. c.node) (closed_of names q) ≡ used q bs
used-is names q bs k =
    ap (option_map (λ (c : Closed). c.node)) (k.closed q) ∙ sym (used-from 0 q bs None ∙ or-none (option_map (λ c. c.node) (last_closed 0 q bs)))
