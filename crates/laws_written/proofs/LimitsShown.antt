-- The fields that are written of a node are known, and each stands once.
use Rattle.std.proofs.Common.{◌≡◌, ℕ, ◌+◌, ◌<◌, ◌≤◌, Bool, true, false, not, if◌then◌else◌, List, [], ◌∷◌, ◌++◌, length, map, Option, Some, None, nat_eq, slice_get, refl, sym, ap, subst, ◌∙◌, arith, append_assoc, append-nil}
use Rattle.std.specs.Prelude.{◌==◌, ◌&&◌, ◌||◌, is_none, option_map}
use Rattle.std.specs.List.{AllByRecursion, flat_map}
use Rattle.std.specs.Option.{option_map_or, option_or}
use Rattle.std.specs.Cmp.Lexicographic.{pointwise}
use Rattle.std.proofs.lemmas.Bool.{ne_eqb}
use Rattle.std.proofs.lemmas.Grind.{flat_map-append}
use denote.Enum.Bare.{sameb}
use Rattle.x3d_values.specs.contracts.node_type.NodeType as node_types
use Rattle.x3d_values.specs.declared.default.FieldDefault.{FieldDefault}
use Rattle.x3d_values.specs.declared.node_type.NodeType.{NodeType}
use Rattle.x3d_values.specs.declared.node_type.NodeType.TheVariants.{Script}
use Rattle.x3d_values.specs.declared.table.FieldRow.{FieldRow}
use Rattle.x3d_values.specs.declared.value.Value.{Value}
use Rattle.x3d_values.specs.Tables.{FieldRowView as Row, are_distinct, numbered, row_named, rows}
use Rattle.laws_documents.specs.Signatures.{KnownField}
use Rattle.laws_documents.specs.Signatures.{Signature, numbered_from, of_declared, of_row, of_type, own_interface}
use Rattle.laws_documents.specs.Fields.{Numbering, number_of, numbering}
use Rattle.laws_documents.proofs.Lists.{all_push, all_weaker}
use Rattle.scene_core.specs.declared.row.DeclaredField.{DeclaredField}
use Rattle.scene_core.specs.declared.scene.SceneNode.{SceneNode}
use Rattle.scene_core.specs.Scene.{declared_at}
use Rattle.scene_core.specs.Shape.{declared_entry, numbered_fields}
use Rattle.scene_core.proofs.RowLemmas.{named-append}
use Rattle.scene_text.specs.Defaulted.{is_default}
use Rattle.scene_text.specs.Tree.{Declared, Plain, PlanView, Shown, declared_from, present_value, shown_field, shown_fields, shown_from, shown_if}
use Rattle.laws_written.proofs.NumberedLists.{some_is}
use Rattle.laws_written.specs.Distinct.{HasDistinctFields}
use Rattle.laws_written.specs.Fields.{declared_signature}
use Rattle.laws_written.proofs.Naming.{AreNumbered, fields_numbered, owned}
use Rattle.laws_written.proofs.Naming.{signed as signatures_of}
use Rattle.laws_documents.specs.Parts.{Declares, BraceField, Gives}
use Rattle.laws_documents.specs.Sound.{AreOnce, IsNext, IsOfType, entry_number, is_among, signed, with_next}
use Rattle.laws_documents.specs.Sound.{unless_own as unless}

-- ---- the numbers of fields

both : (a b : Bool) → (a && b) ≡ true → (a ≡ true) × (b ≡ true)
both true true h = (refl, refl)
both true false h = absurd cc
both false b h = absurd cc

none_first : (a b : Option FieldRow) → is_none (option_or a b) ≡ true → is_none a ≡ true
none_first None b h = refl
none_first (Some row) b h = absurd cc

both_true : (a b : Bool) → a ≡ true → b ≡ true → (a && b) ≡ true
both_true true true h k = refl
both_true true false h k = absurd cc
both_true false b h k = absurd cc

distinct_front : (xs ys : List Row) → are_distinct (xs ++ ys) ≡ true → are_distinct xs ≡ true
distinct_front [] ys h = refl
distinct_front (x ∷ xs) ys h =
    let parts = both (is_none (row_named 0 x.name (xs ++ ys))) (are_distinct (xs ++ ys)) h in
    both_true (is_none (row_named 0 x.name xs)) (are_distinct xs)
    (none_first (row_named 0 x.name xs) (row_named (0 + length xs) x.name ys) (ap (λ (o : Option FieldRow). is_none o) (sym (named-append 0 x.name xs ys)) ∙ parts.0))
    (distinct_front xs ys parts.1)

abbrev no_fields : List DeclaredField
no_fields = []

none_owned : (b : Bool) → (if b then signatures_of no_fields else []) ≡ signatures_of no_fields
none_owned true = refl
none_owned false = refl

own_none : (t : NodeType) → own_interface t (signatures_of no_fields) ≡ signatures_of no_fields
own_none t = none_owned (sameb node_types.the_type t Script)

-- by the type alone
abbrev by_type : NodeType → Numbering
by_type t name = option_map number_of (of_type t name)

or_none : (o : Option KnownField) → option_or o None ≡ o
or_none None = refl
or_none (Some field) = refl

type_only : (t : NodeType) (name : List ℕ) → numbering (Some t) (signatures_of no_fields) name ≡ by_type t name
type_only t name =
    ap (λ (ss : List Signature). option_map number_of (option_or (of_type t name) (numbered_from (length (rows t)) name ss))) (own_none t)
    ∙ ap (λ (o : Option KnownField). option_map number_of o) (or_none (of_type t name))

renumbered : (f g : Numbering) → ((name : List ℕ) → f name ≡ g name) → (number : ℕ) (es : List Row) → AreNumbered f number es → AreNumbered g number es
renumbered f g k number [] h = tt
renumbered f g k number (e ∷ es) h = (sym (k e.name) ∙ h.0, renumbered f g k (number + 1) es h.1)

rows_numbered : (t : NodeType) → are_distinct (rows t) ≡ true → AreNumbered (by_type t) 0 (rows t)
rows_numbered t h =
    let all : are_distinct (rows t ++ []) ≡ true = ap (λ (es : List Row). are_distinct es) (append-nil (rows t)) ∙ h in
    renumbered (numbering (Some t) (signatures_of no_fields)) (by_type t) (type_only t) 0 (rows t) (fields_numbered t no_fields (own_none t) all).0

row_below : (n : ℕ) (name : List ℕ) (es : List Row) (field : KnownField) → option_map of_row (row_named n name es) ≡ Some field → field.number < n + length es
row_below n name [] field e = absurd cc
row_below n name (x ∷ es) field e = by_test (pointwise nat_eq name x.name) e (row_below (n + 1) name es field) where
  by_test : (b : Bool) → option_map of_row (if b then Some (numbered n x) else row_named (n + 1) name es) ≡ Some field
      → (option_map of_row (row_named (n + 1) name es) ≡ Some field → field.number < n + 1 + length es) → field.number < n + length (x ∷ es)
  by_test true k rest = let same = ap number_of (some_is (of_row (numbered n x)) field k) in omega (arith, same)
  by_test false k rest = let l = rest k in omega (arith, l)

-- a name that has a number behind those of the type is none of its names
behind : (o p : Option KnownField) (least k : ℕ) → ((field : KnownField) → o ≡ Some field → field.number < least) → least ≤ k → option_map number_of (option_or o p) ≡ Some k
    → unless o (option_map number_of p) ≡ Some k
behind None p least k h l e = e
behind (Some field) p least k h l e =
    let below = h field refl in
    let same = some_is field.number k e in
    absurd (omega (arith, below, same, l))

-- ---- each once

abbrev Below : ℕ → List ℕ → Type 0
Below k before = AllByRecursion (λ (m : ℕ). m < k) before

below_more : (k n : ℕ) (before : List ℕ) → k ≤ n → Below k before → Below n before
below_more k n before l h = all_weaker (λ (m : ℕ). m < k) (λ (m : ℕ). m < n) (λ m j. omega (arith, j, l)) before h

fresh : (k : ℕ) (before : List ℕ) → Below k before → is_among k before ≡ false
fresh k [] h = refl
fresh k (m ∷ before) h = by_test (m == k) (is_among k before) (ne_eqb m k (λ e. (let l = h.0 in omega (arith, l, e)))) (fresh k before h.1) where
  by_test : (b c : Bool) → b ≡ false → c ≡ false → (b || c) ≡ false
  by_test true c e j = absurd cc
  by_test false c e j = j

-- what is written of a field
abbrev pub shown_entry : Shown → List BraceField
shown_entry (Plain name v) = Gives name ∷ []
shown_entry (Declared d held) = Declares (declared_signature d) ∷ []

abbrev pub shown_entries : List Shown → List BraceField
shown_entries fields = flat_map shown_entry fields

module _ (t : NodeType) (ss : List Signature) where
  abbrev Continues : ℕ → List BraceField → Type 0
  Continues k rest = (later : List ℕ) → Below k later → AreOnce t ss later rest

  entry_once : (e : BraceField) (k : ℕ) (before : List ℕ) (rest : List BraceField) → entry_number t ss e ≡ Some k → Below k before → Continues (k + 1) rest → AreOnce t ss before (e ∷ rest)
  entry_once e k before rest same below next =
      let more : Below (k + 1) (before ++ k ∷ []) =
      all_push (λ (m : ℕ). m < k + 1) before k (below_more k (k + 1) before (omega arith) below) (omega arith) in
      subst (λ (o : Option ℕ). IsNext before o × AreOnce t ss (with_next before o) rest) (sym same) (fresh k before below, next (before ++ k ∷ []) more)

  skip : (k : ℕ) (before : List ℕ) (rest : List BraceField) → Below k before → Continues (k + 1) rest → AreOnce t ss before rest
  skip k before rest below next = next before (below_more k (k + 1) before (omega arith) below)

  if_once : (b : Bool) (name : List ℕ) (v : Value) (k : ℕ) (before : List ℕ) (rest : List BraceField) → by_type t name ≡ Some k → Below k before → Continues (k + 1) rest
      → AreOnce t ss before (shown_entries (shown_if b name v) ++ rest)
  if_once true name v k before rest same below next = entry_once (Gives name) k before rest same below next
  if_once false name v k before rest same below next = skip k before rest below next

  field_once : (default : Option FieldDefault) (o : Option Value) (name : List ℕ) (k : ℕ) (before : List ℕ) (rest : List BraceField) → by_type t name ≡ Some k → Below k before → Continues (k + 1) rest
      → AreOnce t ss before (shown_entries (shown_field name default o) ++ rest)
  field_once (Some default) (Some v) name k before rest same below next = if_once (not (is_default default v)) name v k before rest same below next
  field_once (Some default) None name k before rest same below next = skip k before rest below next
  field_once None o name k before rest same below next = skip k before rest below next

  module _ (p : PlanView) (n : ℕ) where
    rows_once : (number : ℕ) (es : List Row) (before : List ℕ) (rest : List BraceField) → AreNumbered (by_type t) number es → Below number before → Continues (number + length es) rest
        → AreOnce t ss before (shown_entries (shown_from p n number es) ++ rest)
    rows_once number [] before rest h below next = next before (below_more number (number + length es) before (omega arith) below) where
      es : List Row
      es = []
    rows_once number (e ∷ es) before rest h below next =
        let o : Option Value = present_value p n number e.access e.field_type in
        let here : List Shown = shown_field e.name e.default o in
        let others : List Shown = shown_from p n (number + 1) es in
        let apart : shown_entries (here ++ others) ++ rest ≡ shown_entries here ++ (shown_entries others ++ rest) =
        ap (λ (l : List BraceField). l ++ rest) (flat_map-append shown_entry here others) ∙ append_assoc (shown_entries here) (shown_entries others) rest in
        subst (λ (l : List BraceField). AreOnce t ss before l) (sym apart)
        (field_once e.default o e.name number before (shown_entries others ++ rest) h.0 below
        (λ later low. rows_once (number + 1) es later rest h.1 low
        (λ last k. next last (below_more (number + 1 + length es) (number + length (e ∷ es)) last (omega arith) k))))

    declared_once : (number : ℕ) (ds : List DeclaredField) (before : List ℕ) → length (rows t) ≤ number → AreNumbered (numbering (Some t) ss) number (map declared_entry ds) → Below number before
        → AreOnce t ss before (shown_entries (declared_from p n number ds))
    declared_once number [] before l h below = tt
    declared_once number (d ∷ ds) before l h below =
        entry_once (Declares (declared_signature d)) number before (shown_entries (declared_from p n (number + 1) ds))
        (behind (of_type t d.name) (of_declared t ss d.name) (length (rows t)) number (λ field e. (let k = row_below 0 d.name (rows t) field e in omega (arith, k))) l h.0) below
        (λ later low. declared_once (number + 1) ds later (omega (arith, l)) h.1 low)

-- ---- what is declared

if_unsigned : (b : Bool) (name : List ℕ) (v : Value) → flat_map signed (shown_entries (shown_if b name v)) ≡ []
if_unsigned true name v = refl
if_unsigned false name v = refl

field_unsigned : (name : List ℕ) (default : Option FieldDefault) (o : Option Value) → flat_map signed (shown_entries (shown_field name default o)) ≡ []
field_unsigned name (Some default) (Some v) = if_unsigned (not (is_default default v)) name v
field_unsigned name (Some default) None = refl
field_unsigned name None o = refl

module _ (p : PlanView) (n : ℕ) where
  signed_apart : (xs ys : List Shown) → flat_map signed (shown_entries (xs ++ ys)) ≡ flat_map signed (shown_entries xs) ++ flat_map signed (shown_entries ys)
  signed_apart xs ys = ap (λ (l : List BraceField). flat_map signed l) (flat_map-append shown_entry xs ys) ∙ flat_map-append signed (shown_entries xs) (shown_entries ys)

  rows_unsigned : (number : ℕ) (es : List Row) → flat_map signed (shown_entries (shown_from p n number es)) ≡ []
  rows_unsigned number [] = refl
  rows_unsigned number (e ∷ es) =
      let o : Option Value = present_value p n number e.access e.field_type in
      signed_apart (shown_field e.name e.default o) (shown_from p n (number + 1) es)
      ∙ (ap (λ (l : List Signature). l ++ flat_map signed (shown_entries (shown_from p n (number + 1) es))) (field_unsigned e.name e.default o)
      ∙ rows_unsigned (number + 1) es)

  declared_signed : (number : ℕ) (ds : List DeclaredField) → flat_map signed (shown_entries (declared_from p n number ds)) ≡ signatures_of ds
  declared_signed number [] = refl
  declared_signed number (d ∷ ds) = ap (λ (l : List Signature). declared_signature d ∷ l) (declared_signed (number + 1) ds)

  -- ---- a node

  abbrev fields_of : NodeType → List DeclaredField → List Shown
  fields_of t ds = shown_from p n 0 (rows t) ++ declared_from p n (length (rows t)) ds

  all_signed : (t : NodeType) (ds : List DeclaredField) → flat_map signed (shown_entries (fields_of t ds)) ≡ signatures_of ds
  all_signed t ds =
      signed_apart (shown_from p n 0 (rows t)) (declared_from p n (length (rows t)) ds)
      ∙ (ap (λ (l : List Signature). l ++ flat_map signed (shown_entries (declared_from p n (length (rows t)) ds))) (rows_unsigned 0 (rows t))
      ∙ declared_signed (length (rows t)) ds)

  all_once : (t : NodeType) (ds : List DeclaredField) → own_interface t (signatures_of ds) ≡ signatures_of ds → are_distinct (rows t ++ map declared_entry ds) ≡ true
      → AreOnce t (signatures_of ds) [] (shown_entries (fields_of t ds))
  all_once t ds scripted distinct =
      let ss : List Signature = signatures_of ds in
      let both_numbered = fields_numbered t ds scripted distinct in
      let behind_them : List Shown = declared_from p n (length (rows t)) ds in
      subst (λ (l : List BraceField). AreOnce t ss [] l) (sym (flat_map-append shown_entry (shown_from p n 0 (rows t)) behind_them))
      (rows_once t ss p n 0 (rows t) [] (shown_entries behind_them) (rows_numbered t (distinct_front (rows t) (map declared_entry ds) distinct)) tt
      (λ later low. declared_once t ss p n (length (rows t)) ds later (omega arith) both_numbered.1
      (below_more (0 + length (rows t)) (length (rows t)) later (omega arith) low)))

  pub shown_once : (node : SceneNode) → slice_get p.scene.nodes n ≡ Some node → HasDistinctFields node → IsOfType (Some node.node_type) (shown_entries (shown_fields p n node.node_type))
  unfolding shown_fields
  shown_once node is h =
      let t : NodeType = node.node_type in
      let ds : List DeclaredField = numbered_fields t node.declared in
      let declared : declared_at p.scene n ≡ ds = ap (λ (o : Option SceneNode). option_map_or (λ (m : SceneNode). numbered_fields m.node_type m.declared) o []) is in
      subst (λ (l : List DeclaredField). IsOfType (Some t) (shown_entries (fields_of t l))) (sym declared)
      (subst (λ (ss : List Signature). AreOnce t ss [] (shown_entries (fields_of t ds))) (sym (all_signed t ds)) (all_once t ds (owned t node.declared h.scripted) h.distinct))
