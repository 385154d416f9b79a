-- A script that declares the fields of its kind sends by outputs of its node.
use Rattle.std.proofs.Common.{rules, ◌≡◌, ℕ, ◌+◌, Bool, true, false, ◌&&◌, ◌||◌, not, List, [], ◌∷◌, ◌++◌, Option, Some, None, ◌∙◌, ap, sym, zero, suc, refl, arith, length, map, eqb-true, eq-eqb}
use Rattle.std.specs.Prelude.{codes, slice_get, nat_eq, ◌==◌, if◌then◌else◌}
use Rattle.std.specs.Cmp.Lexicographic.{pointwise}
use Rattle.std.specs.List.{cons_option, filter_map, list_all, list_any, range_with_len}
use Rattle.std.specs.Option.{option_map, option_map_or}
use Rattle.std.proofs.lemmas.List.{append_assoc}
use denote.Enum.Bare.{sameb, same_true}
use Rattle.x3d_values.specs.contracts.field_type.Access as accesses
use Rattle.x3d_values.specs.contracts.field_type.FieldType as types
use Rattle.x3d_values.specs.declared.field_type.Access.{Access}
use Rattle.x3d_values.specs.declared.field_type.FieldType.TheVariants.{SFBool, SFFloat, SFInt32, SFTime, SFVec3f}
use Rattle.x3d_values.specs.declared.node_type.NodeType.{NodeType}
use Rattle.x3d_values.specs.declared.node_type.NodeType.TheVariants.{Script}
use Rattle.x3d_values.specs.declared.script.Kind.{Kind}
use Rattle.x3d_values.specs.declared.script.Kind.TheVariants.{Counter, Gate, Adder, Batch, Mover, Meter}
use Rattle.x3d_values.specs.declared.script.ScriptSpec.{ScriptSpec}
use Rattle.x3d_values.specs.declared.table.FieldRow.{FieldRow}
use Rattle.x3d_values.specs.Access.{sends}
use Rattle.x3d_values.specs.Tables.{FieldRowView, output, row_named, rows}
use Rattle.script_host.specs.Interface.{interface, kind_named, outputs}
use Rattle.scene_core.specs.declared.row.DeclaredField.{DeclaredField}
use Rattle.scene_core.specs.declared.scene.SceneNode.{SceneNode}
use Rattle.scene_core.specs.Scene.{SceneView, declared_at, rows_at, shape_of, type_at}
use Rattle.scene_core.specs.Shape.{declared_entry, numbered_fields, rows_of}
use Rattle.script_running.specs.Laws.{SendByOutputs, is_sent_by}
use Rattle.script_running.specs.Runs.{number_in, ports_by, ports_of}
use Rattle.script_running.specs.Scripts.{declares, is_field, script_at, script_list, spec_by, word_by, word_of}

-- ---- Bools and texts

both : (x y : Bool) → (x && y) ≡ true → (x ≡ true) × (y ≡ true)
both true true h = (refl, refl)
both true false h = (refl, h)
both false y h = cc

and-true : (x y : Bool) → x ≡ true → y ≡ true → (x && y) ≡ true
and-true x y p q = rw (p, q) refl

is-not : (x : Bool) → not x ≡ true → x ≡ false
is-not false h = refl
is-not true h = cc

same_text : (s t : List ℕ) → pointwise nat_eq s t ≡ true → s ≡ t
same_text [] [] h = refl
same_text [] (b ∷ t) h = cc
same_text (a ∷ s) [] h = cc
same_text (a ∷ s) (b ∷ t) h =
    let (one, rest) = both (a == b) (pointwise nat_eq s t) h in
    ap (λ n. n ∷ s) (eqb-true a b one) ∙ ap (λ (r : List ℕ). b ∷ r) (same_text s t rest)

text_itself : (s : List ℕ) → pointwise nat_eq s s ≡ true
text_itself [] = refl
text_itself (a ∷ s) = and-true (a == a) (pointwise nat_eq s s) (eq-eqb a a refl) (text_itself s)

-- ---- a list without the first of its items that pass

module _ {A : Type 0} (p : A → Bool) where
  abbrev without : List A → List A
  without [] = []
  without (x ∷ xs) = if p x then xs else x ∷ without xs

  length-without : (xs : List A) → list_any p xs ≡ true → length xs ≡ length (without xs) + 1
  length-without [] h = cc
  length-without (x ∷ xs) h = cases (p x) refl (λ k. length-without xs k)
    where
      cases : (b : Bool) → p x ≡ b → (list_any p xs ≡ true → length xs ≡ length (without xs) + 1) → length (x ∷ xs) ≡ length (without (x ∷ xs)) + 1
      cases true e rest = rw e (omega arith)
      cases false e rest = let k : list_any p xs ≡ true = rw e at h in rw e (omega (arith, rest k))

  any-without : (q : A → Bool) → ((x : A) → p x ≡ true → q x ≡ false) → (xs : List A) → list_any q xs ≡ true → list_any q (without xs) ≡ true
  any-without q apart [] h = h
  any-without q apart (x ∷ xs) h = cases (p x) refl (λ k. any-without q apart xs k)
    where
      more : (b : Bool) → q x ≡ b → (b || list_any q xs) ≡ true → (list_any q xs ≡ true → list_any q (without xs) ≡ true) → (b || list_any q (without xs)) ≡ true
      more true e k rest = refl
      more false e k rest = rest k

      cases : (b : Bool) → p x ≡ b → (list_any q xs ≡ true → list_any q (without xs) ≡ true) → list_any q (without (x ∷ xs)) ≡ true
      cases true e rest = rw e (rw (apart x e) at h)
      cases false e rest = rw e (more (q x) refl h rest)

  all-without : (r : A → Bool) → ((x : A) → p x ≡ true → r x ≡ true) → (xs : List A) → list_all r (without xs) ≡ true → list_all r xs ≡ true
  all-without r passes [] h = refl
  all-without r passes (x ∷ xs) h = cases (p x) refl (λ k. all-without r passes xs k)
    where
      cases : (b : Bool) → p x ≡ b → (list_all r (without xs) ≡ true → list_all r xs ≡ true) → list_all r (x ∷ xs) ≡ true
      cases true e rest = and-true (r x) (list_all r xs) (passes x e) (rw e at h)
      cases false e rest =
          let (one, others) = both (r x) (list_all r (without xs)) (rw e at h) in
          and-true (r x) (list_all r xs) one (rest others)

-- ---- each declared field is one of the kind's

abbrev name_is : FieldRowView → FieldRowView → Bool
name_is e o = pointwise nat_eq e.name o.name

-- no two have one name
abbrev distinct : List FieldRowView → Bool
distinct [] = true
distinct (e ∷ es) = list_all (λ o. not (name_is e o)) es && distinct es

-- a declared field is no second one
module _ (e : FieldRowView) where
  other : (d : DeclaredField) (o : FieldRowView) → is_field e d ≡ true → not (name_is e o) ≡ true → is_field o d ≡ false
  other d o is n =
      let (named, rest) = both (pointwise nat_eq d.name e.name) _ is in
      let same : d.name ≡ e.name = same_text d.name e.name named in
      rw (same, is-not (name_is e o) n) refl

  still : (es : List FieldRowView) (ds : List DeclaredField) → list_all (λ o. not (name_is e o)) es ≡ true →
      list_all (λ o. list_any (λ d. is_field o d) ds) es ≡ true → list_all (λ o. list_any (λ d. is_field o d) (without (λ d. is_field e d) ds)) es ≡ true
  still [] ds apart h = refl
  still (o ∷ es) ds apart h =
      let (one, others) = both (not (name_is e o)) (list_all (λ o. not (name_is e o)) es) apart in
      let (has, rest) = both (list_any (λ d. is_field o d) ds) (list_all (λ o. list_any (λ d. is_field o d) ds) es) h in
      and-true _ _ (any-without (λ (d : DeclaredField). is_field e d) (λ d. is_field o d) (λ d is. other d o is one) ds has) (still es ds others rest)

more-all : (e : FieldRowView) (es : List FieldRowView) (ds : List DeclaredField) → list_all (λ d. list_any (λ o. is_field o d) es) ds ≡ true →
    list_all (λ d. list_any (λ o. is_field o d) (e ∷ es)) ds ≡ true
more-all e es [] h = refl
more-all e es (d ∷ ds) h =
    let (one, rest) = both (list_any (λ o. is_field o d) es) (list_all (λ d. list_any (λ o. is_field o d) es) ds) h in
    and-true _ _ (or-right (is_field e d) (list_any (λ o. is_field o d) es) one) (more-all e es ds rest)
  where
    or-right : (a b : Bool) → b ≡ true → (a || b) ≡ true
    or-right true b k = refl
    or-right false b k = k

matched : (es : List FieldRowView) (ds : List DeclaredField) → distinct es ≡ true → length ds ≡ length es →
    list_all (λ e. list_any (λ d. is_field e d) ds) es ≡ true → list_all (λ d. list_any (λ e. is_field e d) es) ds ≡ true
matched [] [] apart many h = refl
matched [] (d ∷ ds) apart many h = absurd (omega arith)
matched (e ∷ es) ds apart many h =
    let (new, others) = both (list_all (λ o. not (name_is e o)) es) (distinct es) apart in
    let (has, rest) = both (list_any (λ d. is_field e d) ds) (list_all (λ o. list_any (λ d. is_field o d) ds) es) h in
    let fewer : length (without (λ (d : DeclaredField). is_field e d) ds) ≡ length es = omega (arith, many, length-without (λ (d : DeclaredField). is_field e d) ds has) in
    let again = matched es (without (λ (d : DeclaredField). is_field e d) ds) others fewer (still e es ds new rest) in
    all-without (λ (d : DeclaredField). is_field e d) (λ d. list_any (λ o. is_field o d) (e ∷ es)) (λ d is. rw is refl) ds
    (more-all e es (without (λ (d : DeclaredField). is_field e d) ds) again)

-- ---- the first field of the name of an output

-- the fields of that name among these are outputs
abbrev are_sent : FieldRowView → List FieldRowView → Bool
are_sent e es = list_all (λ (o : FieldRowView). not (name_is e o) || sends o.access) es

access_is : (a b : Access) → sameb accesses.the_type a b ≡ true → a ≡ b
access_is a b h = same_true accesses.the_type (search rules) a b h

sent-one : (e : FieldRowView) (d : DeclaredField) (es : List FieldRowView) → are_sent e es ≡ true → list_any (λ o. is_field o d) es ≡ true →
    (not (name_is e (declared_entry d)) || sends d.access) ≡ true
sent-one e d [] all h = cc
sent-one e d (o ∷ es) all h = cases (is_field o d) refl h (both (not (name_is e o) || sends o.access) (are_sent e es) all)
    (λ a k. sent-one e d es a k)
  where
    cases : (b : Bool) → is_field o d ≡ b → (b || list_any (λ o. is_field o d) es) ≡ true → ((not (name_is e o) || sends o.access) ≡ true) × (are_sent e es ≡ true) →
        (are_sent e es ≡ true → list_any (λ o. is_field o d) es ≡ true → (not (name_is e (declared_entry d)) || sends d.access) ≡ true) →
        (not (name_is e (declared_entry d)) || sends d.access) ≡ true
    cases true is k a rest =
        let (named, others) = both (pointwise nat_eq d.name o.name) _ is in
        let (reached, typed) = both (sameb accesses.the_type d.access o.access) _ others in
        rw (same_text d.name o.name named, access_is d.access o.access reached) a.0
    cases false is k a rest = rest a.1 k

all-sent : (e : FieldRowView) (es : List FieldRowView) → are_sent e es ≡ true → (ds : List DeclaredField) → list_all (λ d. list_any (λ o. is_field o d) es) ds ≡ true →
    are_sent e (map declared_entry ds) ≡ true
all-sent e es all [] h = refl
all-sent e es all (d ∷ ds) h =
    let (one, rest) = both (list_any (λ o. is_field o d) es) (list_all (λ d. list_any (λ o. is_field o d) es) ds) h in
    and-true _ _ (sent-one e d es all one) (all-sent e es all ds rest)

there : (e : FieldRowView) (ds : List DeclaredField) → list_any (λ d. is_field e d) ds ≡ true → list_any (name_is e) (map declared_entry ds) ≡ true
there e [] h = h
there e (d ∷ ds) h = cases (is_field e d) refl h (λ k. there e ds k)
  where
    or-right : (a b : Bool) → b ≡ true → (a || b) ≡ true
    or-right true b k = refl
    or-right false b k = k

    cases : (b : Bool) → is_field e d ≡ b → (b || list_any (λ d. is_field e d) ds) ≡ true → (list_any (λ d. is_field e d) ds ≡ true → list_any (name_is e) (map declared_entry ds) ≡ true) →
        (name_is e (declared_entry d) || list_any (name_is e) (map declared_entry ds)) ≡ true
    cases true is k rest =
        let (named, others) = both (pointwise nat_eq d.name e.name) _ is in
        rw (same_text d.name e.name named, text_itself e.name) refl
    cases false is k rest = or-right (name_is e (declared_entry d)) _ (rest k)

get-here : (own : List FieldRowView) (d : FieldRowView) (ds : List FieldRowView) → slice_get (own ++ d ∷ ds) (length own) ≡ Some d
get-here [] d ds = refl
get-here (o ∷ own) d ds = get-here own d ds

abbrev number_or : Option FieldRow → ℕ
number_or row = option_map_or (λ (r : FieldRow). r.number) row 0

sent-from : (e : FieldRowView) (own es : List FieldRowView) (n : ℕ) → n ≡ length own → are_sent e es ≡ true → list_any (name_is e) es ≡ true →
    is_sent_by (own ++ es) (number_or (row_named n e.name es)) ≡ true
sent-from e own [] n is all h = cc
sent-from e own (d ∷ ds) n is all h =
    cases (name_is e d) refl h (both (not (name_is e d) || sends d.access) (are_sent e ds) all)
    (λ a k. rw (append_assoc own (d ∷ []) ds) at (sent-from e (own ++ d ∷ []) ds (n + 1) (omega (arith, is, length-push own)) a k))
  where
    length-push : (xs : List FieldRowView) → length (xs ++ d ∷ []) ≡ length xs + 1
    length-push [] = refl
    length-push (x ∷ xs) = omega (arith, length-push xs)

    cases : (b : Bool) → name_is e d ≡ b → (b || list_any (name_is e) ds) ≡ true → ((not (name_is e d) || sends d.access) ≡ true) × (are_sent e ds ≡ true) →
        (are_sent e ds ≡ true → list_any (name_is e) ds ≡ true → is_sent_by (own ++ d ∷ ds) (number_or (row_named (n + 1) e.name ds)) ≡ true) →
        is_sent_by (own ++ d ∷ ds) (number_or (row_named n e.name (d ∷ ds))) ≡ true
    cases true named k a rest =
        let one : sends d.access ≡ true = rw named at a.0 in
        rw (named, is, get-here own d ds) one
    cases false named k a rest = rw named (rest a.1 k)

-- ---- the outputs of a kind

abbrev fields_with : List DeclaredField → List FieldRowView
fields_with ds = rows Script ++ map declared_entry ds

module _ (ds : List DeclaredField) where
  get-all : (p : FieldRowView → Bool) (es : List FieldRowView) (i : ℕ) (e : FieldRowView) → list_all p es ≡ true → slice_get es i ≡ Some e → p e ≡ true
  get-all p [] i e all h = cc
  get-all p (o ∷ es) zero e all h =
      let same : o ≡ e = cc in
      rw (← same) ((both (p o) (list_all p es) all).0)
  get-all p (o ∷ es) (suc i) e all h = get-all p es i e (both (p o) (list_all p es) all).1 h

  one-output : (kind : Kind) (e : FieldRowView) (i : ℕ) → slice_get (interface kind) i ≡ Some e → distinct (interface kind) ≡ true → are_sent e (interface kind) ≡ true →
      row_named 0 e.name (fields_with ds) ≡ row_named (length (rows Script)) e.name (map declared_entry ds) → declares kind ds ≡ true →
      is_sent_by (fields_with ds) (number_in (fields_with ds) e) ≡ true
  one-output kind e i at apart sent skips d =
      let (many, each) = both (length ds == length (interface kind)) _ d in
      let have : length ds ≡ length (interface kind) = eqb-true (length ds) (length (interface kind)) many in
      let all : list_all (λ d. list_any (λ o. is_field o d) (interface kind)) ds ≡ true = matched (interface kind) ds apart have each in
      let has : list_any (λ d. is_field e d) ds ≡ true = get-all (λ o. list_any (λ d. is_field o d) ds) (interface kind) i e each at in
      rw skips (sent-from e (rows Script) (map declared_entry ds) (length (rows Script)) refl (all-sent e (interface kind) sent ds all) (there e ds has))

  of-kind : (kind : Kind) → declares kind ds ≡ true → list_all (is_sent_by (fields_with ds)) (ports_of (fields_with ds) kind).outputs ≡ true
  of-kind Counter d = and-true _ true (one-output Counter (output (codes "count") SFInt32) 3 refl refl refl refl d) refl
  of-kind Gate d =
      and-true _ _ (one-output Gate (output (codes "isOpen") SFBool) 3 refl refl refl refl d)
      (and-true _ true (one-output Gate (output (codes "passed") SFTime) 4 refl refl refl refl d) refl)
  of-kind Adder d = and-true _ true (one-output Adder (output (codes "sum") SFFloat) 2 refl refl refl refl d) refl
  of-kind Batch d =
      and-true _ _ (one-output Batch (output (codes "many") SFInt32) 1 refl refl refl refl d)
      (and-true _ true (one-output Batch (output (codes "any") SFBool) 2 refl refl refl refl d) refl)
  of-kind Mover d = and-true _ true (one-output Mover (output (codes "position") SFVec3f) 3 refl refl refl refl d) refl
  of-kind Meter d = and-true _ true (one-output Meter (output (codes "mean") SFFloat) 1 refl refl refl refl d) refl

-- ---- the scripts of a scene

-- what stands in such a list is of some number
made-by : {B : Type 0} (f : ℕ → Option B) (ns : List ℕ) (k : ℕ) (y : B) → slice_get (filter_map f ns) k ≡ Some y → (n : ℕ) × (f n ≡ Some y)
made-by f [] k y h = cc
made-by {B = B} f (n ∷ ns) k y h = cases (f n) refl h (λ j m. made-by f ns j y m)
  where
    cases : (o : Option B) → f n ≡ o → slice_get (cons_option o (filter_map f ns)) k ≡ Some y → ((j : ℕ) → slice_get (filter_map f ns) j ≡ Some y → (n : ℕ) × (f n ≡ Some y)) →
        (n : ℕ) × (f n ≡ Some y)
    cases None is m rest = rest k m
    cases (Some x) is m rest = at k m
      where
        at : (k : ℕ) → slice_get (x ∷ filter_map f ns) k ≡ Some y → (n : ℕ) × (f n ≡ Some y)
        at zero m = let same : x ≡ y = cc in (n, is ∙ ap Some same)
        at (suc k) m = rest k m

-- a Script has the fields of its type and those that it declares
script-rows : (nodes : List SceneNode) (node : ℕ) → slice_get (map (λ (n : SceneNode). n.node_type) nodes) node ≡ Some Script →
    option_map_or rows_of (slice_get (map shape_of nodes) node) []
    ≡ fields_with (option_map_or (λ (n : SceneNode). numbered_fields n.node_type n.declared) (slice_get nodes node) [])
script-rows [] node h = cc
script-rows (n ∷ nodes) zero h =
    let same : n.node_type ≡ Script = cc in
    ap (λ (t : NodeType). rows t ++ map declared_entry (numbered_fields n.node_type n.declared)) same
script-rows (n ∷ nodes) (suc node) h = script-rows nodes node h

asks-as : (s : SceneView) (node : ℕ) (t : Option NodeType) (w : List ℕ) → word_by s node t ≡ Some w → t ≡ Some Script
asks-as s node (Some Script) w h = refl
asks-as s node _ w h = cc

module _ (s : SceneView) (node : ℕ) (asked : ScriptSpec) (kind : Kind) (of : asked.kind ≡ Some kind) (fits : asked.fits ≡ true) where
  by-kind : (found : Option Kind) → spec_by s node found ≡ asked → (asked.node ≡ node) × (declares kind (declared_at s node) ≡ true)
  by-kind None h = let none : None ≡ Some kind = ap (λ (a : ScriptSpec). a.kind) h ∙ of in cc
  by-kind (Some k) h =
      let same : Some k ≡ Some kind = ap (λ (a : ScriptSpec). a.kind) h ∙ of in
      let k-is : k ≡ kind = cc in
      let good : declares k (declared_at s node) ≡ true = ap (λ (a : ScriptSpec). a.fits) h ∙ fits in
      (sym (ap (λ (a : ScriptSpec). a.node) h), rw k-is at good)

  by-word : (word : Option (List ℕ)) → word_of s node ≡ word → option_map (λ w. spec_by s node (kind_named w)) word ≡ Some asked →
      list_all (is_sent_by (rows_at s asked.node)) (ports_by (rows_at s asked.node) asked.kind).outputs ≡ true
  by-word None is h = cc
  by-word (Some w) is h =
      let asks : type_at s node ≡ Some Script = asks-as s node (type_at s node) w is in
      let made : spec_by s node (kind_named w) ≡ asked = cc in
      let (at, good) = by-kind (kind_named w) made in
      rw (at, of, script-rows s.nodes node asks) (of-kind (declared_at s node) kind good)

pub send_by_outputs : SendByOutputs
unfolding script_list
send_by_outputs s k asked kind here of fits =
    let (node, is) = made-by (script_at s) (range_with_len 0 (length s.nodes)) k asked here in
    by-word s node asked kind of fits (word_of s node) refl is
