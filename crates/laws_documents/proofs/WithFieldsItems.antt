-- What stands between the braces of an instance: what is known of it is what is written there.
use Rattle.std.proofs.Common.{◌≡◌, ℕ, Bool, true, false, if◌then◌else◌, List, [], ◌∷◌, ◌++◌, Option, Some, None, Result, Ok, Err, map, refl, ap, sym, ◌∙◌, subst}
use Rattle.std.specs.List.{find, list_all}
use Rattle.std.specs.Option.{option_map_or, option_or}
use Rattle.std.specs.Str.{bytes_eq}
use Rattle.x3d_values.specs.Access.{is_initial}
use Rattle.classic_tree.specs.declared.tree.BodyItem.{BodyItem, out-BodyItem, roll-BodyItem, roll-out-BodyItem, out-roll-BodyItem}
use Rattle.classic_tree.specs.declared.tree.BodyItem.TheOpen.{BodyItem-F}
use Rattle.classic_tree.specs.declared.tree.BodyItem.TheVariants as item_text
use Rattle.classic_tree.specs.declared.tree.Declaration.{Declaration}
use Rattle.classic_tree.specs.declared.tree.Given.{Given}
use Rattle.classic_tree.specs.declared.tree.Given.TheVariants as given
use Rattle.classic_tree.specs.declared.tree.NodeText.{NodeText}
use Rattle.classic_tree.specs.declared.tree.ProtoText.{ProtoText}
use Rattle.classic_tree.specs.declared.tree.RawValue.{RawValue}
use Rattle.classic_tree.specs.declared.tree.RouteText.{RouteText}
use Rattle.classic_tree.specs.declared.tree.Statement.{Statement}
use Rattle.classic_tree.proofs.Mapped.{given_mapped}
use Rattle.proto_flat.specs.declared.fault.ExpandFault.{ExpandFault}
use Rattle.proto_flat.specs.declared.fault.ExpandFaultKind.TheVariants.{FieldTwice, UnknownField}
use Rattle.proto_meaning.specs.Limits.{AnItem, Outcome, behind, and_then}
use Rattle.proto_meaning.specs.Names.{Name, Field, Filled}
use Rattle.proto_meaning.specs.Sight.{Prototype, OfProto}
use Rattle.proto_meaning.specs.Flat.{Walk, ◌>>=◌, pure, refuse, meet, through, Node, Item, Inside, put_in, leave_out, give, give_is, fill, numbered_from, is_filled, item_step}
use Rattle.proto_meaning.specs.Flat.{item as item_part, node as node_part}
use Rattle.proto_meaning.proofs.Trees.{item-field}
use Rattle.laws_documents.specs.WithFields.{is_plain, Quiet, quiet_item, is_quiet_node, Finds, Braces, gives, given_by, field_of, replaced, those_there, written_item, written_node}
use Rattle.laws_documents.proofs.InPlaceParts.{never, both_true}
use Rattle.laws_documents.proofs.WithFieldsTexts as texts
use Rattle.laws_documents.proofs.WithFieldsWalks.{FoundAs}
use Rattle.laws_documents.proofs.WithFieldsGiven.{EndsIn, Leads, leads_then, Found, plain_of, plain_found, plain_left, plain_stays, plain_mapped, or_assoc, or_none, numbered_name, Knows, knows_by, know_more}

-- an item, by its variants
pub each_item : (P : BodyItem → Type 0) → ((line : ℕ) (name : Name) (g : Given NodeText) → P (item_text.Field line name g)) → ((d : Declaration NodeText) → P (item_text.Declaration d))
    → ((r : RouteText) → P (item_text.Route r)) → ((p : ProtoText) → P (item_text.Proto p)) → (i : BodyItem) → P i
each_item P field declaration route proto i = subst P (roll-out-BodyItem i) (on (out-BodyItem i)) where
  on : (x : BodyItem-F BodyItem NodeText Statement ProtoText) → P (roll-BodyItem x)
  on (BodyItem-F.Field line name g) = subst P (sym (item_text.rolls-Field line name g)) (field line name g)
  on (BodyItem-F.Declaration d) = subst P (sym (item_text.rolls-Declaration d)) (declaration d)
  on (BodyItem-F.BodyItem::Route r) = subst P (sym (item_text.rolls-Route r)) (route r)
  on (BodyItem-F.BodyItem::Proto p) = subst P (sym (item_text.rolls-Proto p)) (proto p)

pub out_field : (line : ℕ) (name : Name) (g : Given NodeText) → out-BodyItem (item_text.Field line name g) ≡ BodyItem-F.Field line name g
out_field line name g = ap out-BodyItem (sym (item_text.rolls-Field line name g)) ∙ out-roll-BodyItem (BodyItem-F.Field line name g)

abbrev nothing : Option (RawValue NodeText)
nothing = None

module _ (p : Prototype) (proto : Name) (allowed : Bool) (writes : Finds) (braces : Braces) where
  abbrev pub within : ℕ → List Filled → Inside
  within at filled = record { at = at; owner = OfProto p; fields = p.interface; filled = filled }

  -- between the braces, with what is known; and nothing was put in
  pub record Holds (at : ℕ) (finds : Finds) (w : Walk) (q : Inside × Walk) : Type 0 where
    pub walk : q.1 ≡ w
    pub filled : List Filled
    pub is : q.0 ≡ within at filled
    pub knows : Knows p.takes filled finds

  holds_by : (at : ℕ) (f g : Finds) (w : Walk) → ((x : Name) → f x ≡ g x) → (o : Outcome (Inside × Walk)) → Leads o (Holds at f w) → Leads o (Holds at g w)
  holds_by at f g w e o h = on o.comes h where
    on : (c : Result (Inside × Walk) ExpandFault) → EndsIn (Holds at f w) c → EndsIn (Holds at g w) c
    on (Ok q) k = record { walk = k.walk; filled = k.filled; is = k.is; knows = knows_by p.takes k.filled f g e k.knows }
    on (Err x) k = tt

  -- ---- a value

  one_value : (line : ℕ) (f : ℕ × Field) (name : Name) (twice : Bool) (v : RawValue NodeText) (x : RawValue Node) (at : ℕ) (filled : List Filled) (finds : Finds) (w : Walk)
      → f.1.name ≡ name → FoundAs (Some (plain_of v)) (given.Value x) → Found (Some (plain_of v)) (Some v) → leave_out (given.Value x) w ≡ pure tt w → Knows p.takes filled finds
      → Leads (give line f twice (given.Value x) (within at filled) w) (Holds at (λ y. option_or (finds y) (if bytes_eq name y then Some v else None)) w)
  one_value line f name twice v x at filled finds w named found same left h =
      subst (λ n. Leads (give line f twice (given.Value x) (within at filled) w) (Holds at (λ y. option_or (finds y) (if bytes_eq n y then Some v else None)) w)) named (on (is_initial f.1.access) twice (p.takes f.1.name) refl) where
        on : (a b c : Bool) → p.takes f.1.name ≡ c
            → Leads ((if a then (if b then refuse FieldTwice line else (meet AnItem >>= λ _. if c then (put_in x >>= λ r. pure (fill line f (within at filled) (Some r))) else leave_out (given.Value x) >>= λ _. pure (fill line f (within at filled) None))) else refuse UnknownField line) w)
            (Holds at (λ y. option_or (finds y) (if bytes_eq f.1.name y then Some v else None)) w)
        on false b c e = tt
        on true true c e = tt
        on true false true e =
            subst (λ (o : Outcome (RawValue ℕ × Walk)). Leads (behind (AnItem ∷ []) (and_then o (λ q. pure (fill line f (within at filled) (Some q.0)) q.1))) (Holds at (λ y. option_or (finds y) (if bytes_eq f.1.name y then Some v else None)) w)) (sym (found.1 w))
            (record {
              walk = refl;
              filled = filled ++ record { line = line; name = f.1.name; number = f.0; value = Some (plain_of v) } ∷ [];
              is = refl;
              knows = know_more p.takes filled finds (record { line = line; name = f.1.name; number = f.0; value = Some (plain_of v) }) (Some v) h (λ _. same);
            })
        on true false false e =
            subst (λ (o : Outcome (Unit {0} × Walk)). Leads (behind (AnItem ∷ []) (and_then o (λ q. pure (fill line f (within at filled) None) q.1))) (Holds at (λ y. option_or (finds y) (if bytes_eq f.1.name y then Some v else None)) w)) (sym left)
            (record {
              walk = refl;
              filled = filled ++ record { line = line; name = f.1.name; number = f.0; value = None } ∷ [];
              is = refl;
              knows = know_more p.takes filled finds (record { line = line; name = f.1.name; number = f.0; value = None }) (Some v) h (λ t. never (sym e ∙ t));
            })

  one_nothing : (line : ℕ) (f : ℕ × Field) (twice : Bool) (at : ℕ) (filled : List Filled) (finds : Finds) (w : Walk) → Knows p.takes filled finds → Leads (give line f twice given.Nothing (within at filled) w) (Holds at finds w)
  one_nothing line f true at filled finds w h = tt
  one_nothing line f false at filled finds w h =
      record {
        walk = refl;
        filled = filled ++ record { line = line; name = f.1.name; number = f.0; value = None } ∷ [];
        is = refl;
        knows = knows_by p.takes (filled ++ record { line = line; name = f.1.name; number = f.0; value = None } ∷ []) (λ x. option_or (finds x) (if bytes_eq f.1.name x then None else None)) finds
            (λ x. ap (option_or (finds x)) (if_same (bytes_eq f.1.name x)) ∙ or_none (finds x))
            (know_more p.takes filled finds (record { line = line; name = f.1.name; number = f.0; value = None }) None h (λ _. tt));
      } where
        if_same : (b : Bool) → (if b then nothing else nothing) ≡ nothing
        if_same true = refl
        if_same false = refl

  -- ---- an item

  abbrev pub new : BodyItem → Option BodyItem
  new i = written_item writes braces i

  abbrev pub in_it : Option BodyItem → Finds
  in_it o = given_by (those_there (o ∷ []))

  abbrev pub OfItem : BodyItem → Type 0
  OfItem i = (quiet_item proto allowed i).in_instance ≡ true → (at : ℕ) (filled : List Filled) (finds : Finds) (w : Walk) → w.scope.interface ≡ [] → Knows p.takes filled finds
      → Leads ((item_part i).does (within at filled) w) (Holds at (λ x. option_or (finds x) (in_it (new i) x)) w)

  -- what a field with that value gives
  value_there : (line : ℕ) (name : Name) (v : RawValue NodeText) → is_plain (given.Value v) ≡ true → (x : Name) → in_it (new (item_text.Field line name (given.Value v))) x ≡ (if bytes_eq name x then Some v else None)
  value_there line name v e x =
      ap (λ o. in_it o x) (texts.written-field writes braces line name (given.Value v) ∙ ap (λ g. field_of line name (replaced writes g)) (plain_stays (written_node writes braces) v e))
      ∙ or_none (gives x (out-BodyItem (item_text.Field line name (given.Value v))))
      ∙ ap (gives x) (out_field line name (given.Value v))

  nothing_there : (line : ℕ) (name : Name) (x : Name) → in_it (new (item_text.Field line name given.Nothing)) x ≡ None
  nothing_there line name x = ap (λ o. in_it o x) (texts.written-field writes braces line name given.Nothing)

  value_does : (line : ℕ) (name : Name) (v : RawValue NodeText) (x : RawValue Node) (at : ℕ) (filled : List Filled) (finds : Finds) (w : Walk)
      → FoundAs (Some (plain_of v)) (given.Value x) → Found (Some (plain_of v)) (Some v) → leave_out (given.Value x) w ≡ pure tt w → Knows p.takes filled finds
      → Leads ((item_step (BodyItem-F.Field line name (given.Value x))).does (within at filled) w) (Holds at (λ y. option_or (finds y) (if bytes_eq name y then Some v else None)) w)
  unfolding item_step
  value_does line name v x at filled finds w found same left h = on (numbered_from 0 name p.interface) refl where
    on : (o : Option (ℕ × Field)) → numbered_from 0 name p.interface ≡ o
        → Leads (option_map_or (λ f. give line f (is_filled name (within at filled)) (given.Value x) (within at filled)) o (refuse UnknownField line) w) (Holds at (λ y. option_or (finds y) (if bytes_eq name y then Some v else None)) w)
    on None e = tt
    on (Some f) e = one_value line f name (is_filled name (within at filled)) v x at filled finds w (numbered_name 0 name p.interface f e) found same left h

  nothing_does : (line : ℕ) (name : Name) (at : ℕ) (filled : List Filled) (finds : Finds) (w : Walk) → Knows p.takes filled finds
      → Leads ((item_step (BodyItem-F.Field line name given.Nothing)).does (within at filled) w) (Holds at finds w)
  unfolding item_step
  nothing_does line name at filled finds w h = on (numbered_from 0 name p.interface) where
    on : (o : Option (ℕ × Field)) → Leads (option_map_or (λ f. give line f (is_filled name (within at filled)) given.Nothing (within at filled)) o (refuse UnknownField line) w) (Holds at finds w)
    on None = tt
    on (Some f) = one_nothing line f (is_filled name (within at filled)) at filled finds w h

  is_does : (line : ℕ) (name outer : Name) (at : ℕ) (filled : List Filled) (finds : Finds) (w : Walk) → w.scope.interface ≡ []
      → Leads ((item_step (BodyItem-F.Field line name (given.Is outer))).does (within at filled) w) (Holds at finds w)
  unfolding item_step
  is_does line name outer at filled finds w e = on (numbered_from 0 name p.interface) where
    on : (o : Option (ℕ × Field)) → Leads (option_map_or (λ f. give line f (is_filled name (within at filled)) (given.Is outer) (within at filled)) o (refuse UnknownField line) w) (Holds at finds w)
    on None = tt
    on (Some f) = subst (λ (fs : List Field). Leads (give_is line f (is_filled name (within at filled)) (within at filled) (find (λ (o : Field). bytes_eq o.name outer) fs) w) (Holds at finds w)) (sym e) tt

  by_part : (at : ℕ) (filled : List Filled) (w : Walk) (P : Inside × Walk → Type 0) (l m : Item) → l ≡ m → Leads (m.does (within at filled) w) P → Leads (l.does (within at filled) w) P
  by_part at filled w P l m e h = subst (λ (x : Item). Leads (x.does (within at filled) w) P) (sym e) h

  field_holds : (line : ℕ) (name : Name) (g : Given NodeText) → is_plain g ≡ true → (at : ℕ) (filled : List Filled) (finds : Finds) (w : Walk) → w.scope.interface ≡ [] → Knows p.takes filled finds
      → Leads ((item_part (item_text.Field line name g)).does (within at filled) w) (Holds at (λ x. option_or (finds x) (in_it (new (item_text.Field line name g)) x)) w)
  field_holds line name given.Nothing e at filled finds w none h =
      by_part at filled w (Holds at (λ x. option_or (finds x) (in_it (new (item_text.Field line name given.Nothing)) x)) w) (item_part (item_text.Field line name given.Nothing)) (item_step (BodyItem-F.Field line name given.Nothing)) (item-field line name given.Nothing refl)
      (holds_by at finds (λ x. option_or (finds x) (in_it (new (item_text.Field line name given.Nothing)) x)) w (λ x. sym (ap (option_or (finds x)) (nothing_there line name x) ∙ or_none (finds x))) ((item_step (BodyItem-F.Field line name given.Nothing)).does (within at filled) w)
      (nothing_does line name at filled finds w h))
  field_holds line name (given.Is outer) e at filled finds w none h =
      by_part at filled w (Holds at (λ x. option_or (finds x) (in_it (new (item_text.Field line name (given.Is outer))) x)) w) (item_part (item_text.Field line name (given.Is outer))) (item_step (BodyItem-F.Field line name (given.Is outer))) (item-field line name (given.Is outer) refl)
      (is_does line name outer at filled (λ x. option_or (finds x) (in_it (new (item_text.Field line name (given.Is outer))) x)) w none)
  field_holds line name (given.Value v) e at filled finds w none h =
      by_part at filled w (Holds at (λ x. option_or (finds x) (in_it (new (item_text.Field line name (given.Value v))) x)) w) (item_part (item_text.Field line name (given.Value v))) (item_step (BodyItem-F.Field line name (given_mapped node_part (given.Value v)))) (item-field line name (given.Value v) refl)
      (holds_by at (λ x. option_or (finds x) (if bytes_eq name x then Some v else None)) (λ x. option_or (finds x) (in_it (new (item_text.Field line name (given.Value v))) x)) w (λ x. ap (option_or (finds x)) (sym (value_there line name v e x))) ((item_step (BodyItem-F.Field line name (given_mapped node_part (given.Value v)))).does (within at filled) w)
      (value_does line name v _ at filled finds w (plain_found v e) (plain_found v e) (plain_left (given.Value v) e w) h))

  item_holds : (i : BodyItem) → OfItem i
  item_holds = each_item OfItem
      (λ line name g e. field_holds line name g (plain_mapped (is_quiet_node proto allowed) g (sym (ap (λ (q : Quiet). q.in_instance) (texts.quiet-field proto allowed line name g)) ∙ e)))
      (λ d e. never (sym (ap (λ (q : Quiet). q.in_instance) (texts.quiet-declaration proto allowed d)) ∙ e))
      (λ r e. never (sym (ap (λ (q : Quiet). q.in_instance) (texts.quiet-item-route proto allowed r)) ∙ e))
      (λ b e. never (sym (ap (λ (q : Quiet). q.in_instance) (texts.quiet-item-proto proto allowed b)) ∙ e))

  -- ---- all items

  next_in : (o : Option BodyItem) (os : List (Option BodyItem)) (x : Name) → option_or (in_it o x) (given_by (those_there os) x) ≡ given_by (those_there (o ∷ os)) x
  next_in None os x = refl
  next_in (Some i) os x = ap (λ o. option_or o (given_by (those_there os) x)) (or_none (gives x (out-BodyItem i)))

  pub items_hold : (is : List BodyItem) → list_all (λ (q : Quiet). q.in_instance) (map (quiet_item proto allowed) is) ≡ true → (at : ℕ) (filled : List Filled) (finds : Finds) (w : Walk) → w.scope.interface ≡ [] → Knows p.takes filled finds
      → Leads (through (λ (i : Item). i.does) (map item_part is) (within at filled) w) (Holds at (λ x. option_or (finds x) (given_by (those_there (map new is)) x)) w)
  items_hold [] e at filled finds w none h = record { walk = refl; filled = filled; is = refl; knows = knows_by p.takes filled finds (λ x. option_or (finds x) None) (λ x. sym (or_none (finds x))) h }
  items_hold (i ∷ is) e at filled finds w none h =
      let both = both_true (quiet_item proto allowed i).in_instance (list_all (λ (q : Quiet). q.in_instance) (map (quiet_item proto allowed) is)) e in
      leads_then (Holds at (λ x. option_or (finds x) (in_it (new i) x)) w) (Holds at (λ x. option_or (finds x) (given_by (those_there (map new (i ∷ is))) x)) w)
      ((item_part i).does (within at filled) w) (λ q. through (λ (j : Item). j.does) (map item_part is) q.0 q.1)
      (item_holds i both.0 at filled finds w none h)
      (λ q k. holds_by at (λ x. option_or (option_or (finds x) (in_it (new i) x)) (given_by (those_there (map new is)) x)) (λ x. option_or (finds x) (given_by (those_there (map new (i ∷ is))) x)) w
      (λ x. or_assoc (finds x) (in_it (new i) x) (given_by (those_there (map new is)) x) ∙ ap (option_or (finds x)) (next_in (new i) (map new is) x))
      (through (λ (j : Item). j.does) (map item_part is) q.0 q.1)
      (subst (λ v. Leads (through (λ (j : Item). j.does) (map item_part is) q.0 v) (Holds at (λ x. option_or (option_or (finds x) (in_it (new i) x)) (given_by (those_there (map new is)) x)) w)) (sym k.walk)
      (subst (λ j. Leads (through (λ (j : Item). j.does) (map item_part is) j w) (Holds at (λ x. option_or (option_or (finds x) (in_it (new i) x)) (given_by (those_there (map new is)) x)) w)) (sym k.is)
      (items_hold is both.1 at k.filled (λ x. option_or (finds x) (in_it (new i) x)) w none k.knows))))

  -- in which an IS finds nothing, what is given is as it was
  item_same : ((x : Name) → writes x ≡ None) → (i : BodyItem) → (quiet_item proto allowed i).in_instance ≡ true → (x : Name) → in_it (new i) x ≡ in_it (Some i) x
  item_same none = each_item (λ i. (quiet_item proto allowed i).in_instance ≡ true → (x : Name) → in_it (new i) x ≡ in_it (Some i) x)
      (λ line name g e. field_as_it_is line name g (plain_mapped (is_quiet_node proto allowed) g (sym (ap (λ (q : Quiet). q.in_instance) (texts.quiet-field proto allowed line name g)) ∙ e)))
      (λ d e. never (sym (ap (λ (q : Quiet). q.in_instance) (texts.quiet-declaration proto allowed d)) ∙ e))
      (λ r e. never (sym (ap (λ (q : Quiet). q.in_instance) (texts.quiet-item-route proto allowed r)) ∙ e))
      (λ b e. never (sym (ap (λ (q : Quiet). q.in_instance) (texts.quiet-item-proto proto allowed b)) ∙ e)) where
        field_as_it_is : (line : ℕ) (name : Name) (g : Given NodeText) → is_plain g ≡ true → (x : Name) → in_it (new (item_text.Field line name g)) x ≡ in_it (Some (item_text.Field line name g)) x
        field_as_it_is line name given.Nothing e x = nothing_there line name x ∙ sym (ap (λ y. option_or (gives x y) None) (out_field line name given.Nothing))
        field_as_it_is line name (given.Is outer) e x =
            ap (λ o. in_it o x) (texts.written-field writes braces line name (given.Is outer) ∙ ap (λ o. field_of line name (option_map_or (λ v. given.Value v) o given.Nothing)) (none outer))
            ∙ sym (ap (λ y. option_or (gives x y) None) (out_field line name (given.Is outer)))
        field_as_it_is line name (given.Value v) e x =
            value_there line name v e x ∙ sym (or_none (gives x (out-BodyItem (item_text.Field line name (given.Value v)))) ∙ ap (gives x) (out_field line name (given.Value v)))

  pub items_same : ((x : Name) → writes x ≡ None) → (is : List BodyItem) → list_all (λ (q : Quiet). q.in_instance) (map (quiet_item proto allowed) is) ≡ true → (x : Name) → given_by (those_there (map new is)) x ≡ given_by is x
  items_same none [] e x = refl
  items_same none (i ∷ is) e x =
      let both = both_true (quiet_item proto allowed i).in_instance (list_all (λ (q : Quiet). q.in_instance) (map (quiet_item proto allowed) is)) e in
      sym (next_in (new i) (map new is) x) ∙ ap (λ o. option_or o (given_by (those_there (map new is)) x)) (item_same none i both.0 x ∙ or_none (gives x (out-BodyItem i)))
      ∙ ap (option_or (gives x (out-BodyItem i))) (items_same none is both.1 x)
