-- An entry is read from its own bytes and from no others.
use Rattle.std.proofs.Common.{◌≡◌, ℕ, ◌^◌, Bool, true, false, cond, eqb, ltb, List, ◌++◌, Option, Some, None, refl, ap, subst, ◌∙◌, append_assoc}
use Rattle.std.specs.Prelude.{◌&&◌, not, ℤ}
use Rattle.std.specs.Int.{w32, w64}
use Rattle.std.proofs.lemmas.Bool.{eqb-true}
use Rattle.byte_codec.specs.Codec.{◌>>?◌, signed}
use Rattle.byte_codec.specs.Exact.{IsBytes, IsExact, Took}
use Rattle.byte_codec.proofs.Laws.{after, both, and_true, bind_some, joined, some_is, byte_exact, number_exact, wide32, signed64_exact, truth_exact, pair_exact, named_exact, checked_exact}
use Rattle.x3d_values.specs.Ranges.{coordinates_fit, is_zero, is_viewer, is_input_time}
use Rattle.x3d_values.specs.Pointing.{is_ray}
use Rattle.x3d_values.specs.declared.vector.Vec3.{Vec3}
use Rattle.share_wire.specs.Messages.{OfferView, is_ordinal}
use Rattle.share_wire.specs.Datagram.{body_fits, offering_fits, pointer_fits}
use Rattle.share_wire.specs.declared.message.Body.TheVariants as body
use Rattle.share_wire.proofs.FieldLaws.{vector_exact, vector-signed, time-signed, viewer-byte}
use Rattle.share_entries.specs.declared.fields.OfferFields.{OfferFields}
use Rattle.share_entries.specs.declared.entry.Source.{Source}
use Rattle.share_entries.specs.declared.entry.Source.TheVariants.{Clock, Offer}
use Rattle.share_entries.specs.Entry.{EntryView, time_codec, offer_fields, offer_with, fields_of, offer_codec, kind_of, source_text, source_fits, offered, source_at, stamp_codec, entry_with, entry_behind, entry_codec}

pub time_exact : IsExact time_codec
unfolding time_codec
time_exact = checked_exact is_input_time _ signed64_exact

fields_exact : IsExact offer_fields
unfolding offer_fields
fields_exact = named_exact
    (λ (t : ℕ × (Bool × (Vec3 × (Vec3 × (ℕ × ℕ))))). let f : OfferFields = record { who = t.0; down = t.1.0; origin = t.1.1.0; dir = t.1.1.1.0; boot = t.1.1.1.1.0; number = t.1.1.1.1.1 } in f)
    (λ f. (f.who, (f.down, (f.origin, (f.dir, (f.boot, f.number)))))) _ (λ a. refl) (λ b. refl)
    (pair_exact _ _ byte_exact (pair_exact _ _ truth_exact (pair_exact _ _ vector_exact (pair_exact _ _ vector_exact (pair_exact _ _ (number_exact w32 wide32) (number_exact w32 wide32))))))

pub offer_exact : IsExact offer_codec
unfolding offer_codec
offer_exact = named_exact offer_with fields_of _ (λ a. refl) (λ b. refl) (checked_exact _ offer_fields fields_exact)

stamp_exact : IsExact stamp_codec
unfolding stamp_codec
stamp_exact = pair_exact _ _ time_exact byte_exact

-- the source that follows a kind, its bytes and the rest
record Sourced (kind : ℕ) (bytes : List ℕ) (s : Source) (rest : List ℕ) : Type 0 where
  pub kind_is : kind ≡ kind_of s
  pub parts : bytes ≡ source_text s ++ rest
  pub fits : source_fits s ≡ true

-- the branch that gave an answer
chosen : {A : Type 0} (b : Bool) (r s : Option A) (y : A) → cond b r s ≡ Some y → (P : Type 0) → (b ≡ true → r ≡ Some y → P) → (b ≡ false → s ≡ Some y → P) → P
chosen true r s y e P f g = f refl e
chosen false r s y e P f g = g refl e

is_clock : (kind : ℕ) (bytes : List ℕ) → eqb kind 0 ≡ true → Sourced kind bytes Clock bytes
is_clock kind bytes k = record { kind_is = eqb-true kind 0 k; parts = refl; fits = refl }

is_offer : (kind : ℕ) (bytes : List ℕ) (o : OfferView) (rest : List ℕ) → eqb kind 1 ≡ true → Took offer_codec bytes o rest → Sourced kind bytes (Offer o) rest
is_offer kind bytes o rest k t = record { kind_is = eqb-true kind 1 k; parts = t.parts; fits = t.valid }

source_takes : (kind : ℕ) (bytes : List ℕ) (x : Source × List ℕ) → IsBytes bytes → source_at kind bytes ≡ Some x → Sourced kind bytes x.0 x.1
source_takes kind bytes x h e =
    let P : Source × List ℕ → Type 0 = λ z. Sourced kind bytes z.0 z.1 in
    chosen (eqb kind 0) (Some (Clock, bytes)) _ x e (P x)
    (λ k f. subst P (some_is (Clock, bytes) x f) (is_clock kind bytes k))
    (λ _ f. chosen (eqb kind 1) (offer_codec.read bytes >>? offered) None x f (P x)
    (λ k g. let o = bind_some (offer_codec.read bytes) offered x g in
    subst P (some_is (Offer o.0.0, o.0.1) x o.2) (is_offer kind bytes o.0.0 o.0.1 k (offer_exact.takes bytes o.0.0 o.0.1 h o.1)))
    (λ _ g. absurd cc))

source_again : (s : Source) (rest : List ℕ) → source_fits s ≡ true → source_at (kind_of s) (source_text s ++ rest) ≡ Some (s, rest)
source_again Clock rest fits = refl
source_again (Offer o) rest fits = rw (offer_exact.again o rest fits) refl

stamp_time : (x : ℤ × ℕ) → stamp_codec.fits x ≡ true → is_input_time x.0 ≡ true
unfolding stamp_codec time_codec
stamp_time x e = (both (is_input_time x.0) _ (both (is_input_time x.0 && (signed w64).fits x.0) _ e).0).0

kind_byte : (s : Source) → ltb (kind_of s) 256 ≡ true
kind_byte Clock = refl
kind_byte (Offer o) = refl

stamp_fits : (t : ℤ) (s : Source) → is_input_time t ≡ true → stamp_codec.fits (t, kind_of s) ≡ true
unfolding stamp_codec time_codec
stamp_fits t s e = and_true _ _ (and_true _ _ e (time-signed t e)) (kind_byte s)

entry_takes : (bytes : List ℕ) (e : EntryView) (rest : List ℕ) → IsBytes bytes → entry_codec.read bytes ≡ Some (e, rest) → Took entry_codec bytes e rest
unfolding entry_codec
entry_takes bytes e rest h is =
    let a = bind_some (stamp_codec.read bytes) entry_behind (e, rest) is in
    let t = stamp_exact.takes bytes a.0.0 a.0.1 h a.1 in
    let time : ℤ = a.0.0.0 in
    let b = bind_some (source_at a.0.0.1 a.0.1) (entry_with time) (e, rest) a.2 in
    let s = source_takes a.0.0.1 a.0.1 b.0 (after stamp_codec bytes a.0.0 a.0.1 h t) b.1 in
    let P : EntryView × List ℕ → Type 0 = λ z. Took entry_codec bytes z.0 z.1 in
    let made : EntryView = record { time = time; source = b.0.0 } in
    let kinded : bytes ≡ stamp_codec.write (time, kind_of b.0.0) ++ a.0.1 = t.parts ∙ ap (λ (k : ℕ). stamp_codec.write (time, k) ++ a.0.1) s.kind_is in
    subst P (some_is (made, b.0.1) (e, rest) b.2) (record {
      parts = joined bytes (stamp_codec.write (time, kind_of b.0.0)) a.0.1 (source_text b.0.0) b.0.1 kinded s.parts;
      valid = and_true _ _ (stamp_time a.0.0 t.valid) s.fits;
    })

entry_again : (e : EntryView) (rest : List ℕ) → entry_codec.fits e ≡ true → entry_codec.read (entry_codec.write e ++ rest) ≡ Some (e, rest)
unfolding entry_codec
entry_again e rest fits =
    let a = both (is_input_time e.time) (source_fits e.source) fits in
    let stamp : ℤ × ℕ = (e.time, kind_of e.source) in
    let first : stamp_codec.read (stamp_codec.write stamp ++ (source_text e.source ++ rest)) ≡ Some (stamp, source_text e.source ++ rest) = stamp_exact.again stamp (source_text e.source ++ rest) (stamp_fits e.time e.source a.0) in
    ap (λ (t : List ℕ). stamp_codec.read t >>? entry_behind) (append_assoc (stamp_codec.write stamp) (source_text e.source) rest)
    ∙ ap (λ (o : Option ((ℤ × ℕ) × List ℕ)). o >>? entry_behind) first
    ∙ ap (λ (o : Option (Source × List ℕ)). o >>? entry_with e.time) (source_again e.source rest a.1)

pub entry_exact : IsExact entry_codec
entry_exact = record { takes = entry_takes; again = entry_again }

-- an offer in its ranges has bytes
pub offer_fits : (o : OfferView) → body_fits (body.Offer o) ≡ true → offer_codec.fits o ≡ true
unfolding offer_codec offer_fields
offer_fits o e =
    let p = o.pointer in
    let a = both (offering_fits o) (ltb o.boot (2 ^ 32) && ltb o.number (2 ^ 32)) e in
    let b = both (is_ordinal o.boot && is_ordinal o.number) (pointer_fits p) a.0 in
    let c = both (is_viewer p.who) (is_ray p.ray) b.1 in
    let d = both (coordinates_fit p.ray.origin) (coordinates_fit p.ray.dir && not (is_zero p.ray.dir)) c.1 in
    let f = both (coordinates_fit p.ray.dir) (not (is_zero p.ray.dir)) d.1 in
    and_true _ _ a.0 (and_true _ _ (viewer-byte p.who c.0) (and_true _ _ (vector-signed p.ray.origin d.0) (and_true _ _ (vector-signed p.ray.dir f.0) a.1)))
