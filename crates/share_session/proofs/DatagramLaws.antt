-- A datagram is decoded to its message, and no other bytes are.
use Rattle.std.proofs.Common.{◌≡◌, ℕ, Bool, true, false, cond, eqb, ltb, leb, List, ◌++◌, length, Option, Some, None, Result, Ok, Err, refl, sym, ap, subst, ◌∙◌}
use Rattle.std.specs.Prelude.{◌&&◌, nat_eq, codes, IfOk, IsTrue}
use Rattle.std.specs.Option.{ok_or, option_map}
use Rattle.std.specs.Cmp.Lexicographic.{pointwise, same_text}
use Rattle.std.proofs.lemmas.Bool.{eqb-true}
use Rattle.byte_codec.specs.Codec.{Codec, ◌>>?◌, whole, fixed}
use Rattle.byte_codec.specs.Exact.{IsBytes, IsExact}
use Rattle.byte_codec.proofs.Laws.{after, and_true, both, bind_some, some_is, fixed_exact, whole_takes, whole_again}
use Rattle.share_entries.proofs.Tests.{ok_is, tested}
use Rattle.share_session.specs.declared.fault.DatagramFault.{DatagramFault}
use Rattle.share_session.specs.declared.fault.DatagramFault.TheVariants.{BadPacket, BadVersion, BadTag, BadBody}
use Rattle.share_session.specs.declared.message.Body2.{Body2}
use Rattle.share_session.specs.declared.message.Body2.TheVariants.{Input, Offer, Ask, Ack, Floor, Piece}
use Rattle.share_session.specs.declared.message.Message2.{Message2}
use Rattle.share_session.specs.declared.message.Message2.TheVariants.{Said, Hello, Welcome}
use Rattle.share_session.specs.Fields.{head_codec, number_codec, input_codec, offer_codec, ask_codec, ack_codec, piece_codec, hello_codec, welcome_codec}
use Rattle.share_session.specs.Datagram.{body_tag, tag_of, body_text, rest_text, datagram, body_fits, message_fits}
use Rattle.share_session.specs.Decoding.{all_in, body_in, said_with, said_in, rest_in, headed, decoded}
use Rattle.share_session.proofs.FieldLaws.{head_exact, input_number_exact, input_exact, offer_exact, ask_exact, ack_exact, piece_exact, hello_exact, welcome_exact}

-- ---- one codec that takes up all of the bytes

record AllTaken {A B : Type 0} (c : Codec A) (make : A → B) (bytes : List ℕ) (b : B) : Type 0 where
  pub value : A
  pub parts : bytes ≡ c.write value
  pub fits : c.fits value ≡ true
  pub made : make value ≡ b

map_some : {A B : Type 0} (f : A → B) (o : Option A) (y : B) → option_map f o ≡ Some y → (x : A) × (o ≡ Some x) × (f x ≡ y)
map_some f (Some x) y e = (x, refl, some_is (f x) y e)
map_some f None y e = absurd cc

all_takes : {A B : Type 0} (c : Codec A) → IsExact c → (make : A → B) (bytes : List ℕ) (b : B) → IsBytes bytes → all_in c make bytes ≡ Some b → AllTaken c make bytes b
all_takes c exact make bytes b h e =
    let m = map_some make (whole (c.read bytes)) b e in
    let t = whole_takes c exact bytes m.0 h m.1 in
    record { value = m.0; parts = t.0; fits = t.1; made = m.2 }

all_again : {A B : Type 0} (c : Codec A) → IsExact c → (make : A → B) (x : A) → c.fits x ≡ true → all_in c make (c.write x) ≡ Some (make x)
all_again c exact make x fits = ap (λ o. option_map make o) (whole_again c exact x fits)

-- ---- what was read after a tag

record Spelled {M : Type 0} (tag_of : M → ℕ) (text : M → List ℕ) (fits : M → Bool) (tag : ℕ) (bytes : List ℕ) (m : M) : Type 0 where
  pub tag_is : tag ≡ tag_of m
  pub text_is : bytes ≡ text m
  pub fits_is : fits m ≡ true

-- by the codec of this tag
module _ {M A : Type 0} (tag_of : M → ℕ) (text : M → List ℕ) (fits : M → Bool) (n : ℕ) (c : Codec A) (exact : IsExact c) (make : A → M)
    (tagged : (x : A) → tag_of (make x) ≡ n) (written : (x : A) → text (make x) ≡ c.write x) (ranged : (x : A) → fits (make x) ≡ c.fits x) where
  arm : (tag : ℕ) (bytes : List ℕ) (m : M) → IsBytes bytes → eqb tag n ≡ true → all_in c make bytes ≡ Some m → Spelled tag_of text fits tag bytes m
  arm tag bytes m h k e =
      let t = all_takes c exact make bytes m h e in
      subst (Spelled tag_of text fits tag bytes) t.made (record {
        tag_is = eqb-true tag n k ∙ sym (tagged t.value);
        text_is = t.parts ∙ sym (written t.value);
        fits_is = ranged t.value ∙ t.fits;
      })

-- the branch that gave an answer
chosen : {A : Type 0} (b : Bool) (r s : Option A) (y : A) → cond b r s ≡ Some y → (P : Type 0) → (b ≡ true → r ≡ Some y → P) → (b ≡ false → s ≡ Some y → P) → P
chosen true r s y e P f g = f refl e
chosen false r s y e P f g = g refl e

abbrev IsBody : ℕ → List ℕ → Body2 → Type 0
IsBody tag bytes b = Spelled body_tag body_text body_fits tag bytes b

body_takes : (tag : ℕ) (bytes : List ℕ) (b : Body2) → IsBytes bytes → body_in tag bytes ≡ Some b → IsBody tag bytes b
body_takes tag bytes b h e =
    let P = IsBody tag bytes b in
    chosen (eqb tag 1) (all_in input_codec (λ x. Input x) bytes) _ b e P (arm body_tag body_text body_fits 1 input_codec input_exact (λ x. Input x) (λ x. refl) (λ x. refl) (λ x. refl) tag bytes b h) (λ _ e2.
    chosen (eqb tag 2) (all_in offer_codec (λ x. Offer x) bytes) _ b e2 P (arm body_tag body_text body_fits 2 offer_codec offer_exact (λ x. Offer x) (λ x. refl) (λ x. refl) (λ x. refl) tag bytes b h) (λ _ e3.
    chosen (eqb tag 3) (all_in ask_codec (λ x. Ask x) bytes) _ b e3 P (arm body_tag body_text body_fits 3 ask_codec ask_exact (λ x. Ask x) (λ x. refl) (λ x. refl) (λ x. refl) tag bytes b h) (λ _ e4.
    chosen (eqb tag 4) (all_in ack_codec (λ x. Ack x) bytes) _ b e4 P (arm body_tag body_text body_fits 4 ack_codec ack_exact (λ x. Ack x) (λ x. refl) (λ x. refl) (λ x. refl) tag bytes b h) (λ _ e5.
    chosen (eqb tag 5) (all_in number_codec (λ x. Floor x) bytes) _ b e5 P (arm body_tag body_text body_fits 5 number_codec input_number_exact (λ x. Floor x) (λ x. refl) (λ x. refl) (λ x. refl) tag bytes b h) (λ _ e6.
    chosen (eqb tag 6) (all_in piece_codec (λ x. Piece x) bytes) None b e6 P (arm body_tag body_text body_fits 6 piece_codec piece_exact (λ x. Piece x) (λ x. refl) (λ x. refl) (λ x. refl) tag bytes b h) (λ _ e7. absurd cc))))))

body_again : (b : Body2) → body_fits b ≡ true → body_in (body_tag b) (body_text b) ≡ Some b
body_again (Input i) fits = all_again input_codec input_exact (λ x. Input x) i fits
body_again (Offer o) fits = all_again offer_codec offer_exact (λ x. Offer x) o fits
body_again (Ask a) fits = all_again ask_codec ask_exact (λ x. Ask x) a fits
body_again (Ack a) fits = all_again ack_codec ack_exact (λ x. Ack x) a fits
body_again (Floor n) fits = all_again number_codec input_number_exact (λ x. Floor x) n fits
body_again (Piece p) fits = all_again piece_codec piece_exact (λ x. Piece x) p fits

-- ---- the session and a body

abbrev IsRest : ℕ → List ℕ → Message2 → Type 0
IsRest tag bytes m = Spelled tag_of rest_text message_fits tag bytes m

said_takes : (tag : ℕ) (bytes : List ℕ) (m : Message2) → IsBytes bytes → said_in tag bytes ≡ Some m → IsRest tag bytes m
said_takes tag bytes m h e =
    let s = bind_some ((fixed 16).read bytes) (λ s. body_in tag s.1 >>? said_with s.0) m e in
    let session : List ℕ = s.0.0 in
    let t = (fixed_exact 16).takes bytes s.0.0 s.0.1 h s.1 in
    let b = bind_some (body_in tag s.0.1) (said_with session) m s.2 in
    let k = body_takes tag s.0.1 b.0 (after (fixed 16) bytes s.0.0 s.0.1 h t) b.1 in
    subst (IsRest tag bytes) (some_is (Said session b.0) m b.2) (record {
      tag_is = k.tag_is;
      text_is = t.parts ∙ ap (λ (r : List ℕ). session ++ r) k.text_is;
      fits_is = and_true _ _ t.valid k.fits_is;
    })

tag_low : (b : Body2) → (leb 1 (body_tag b) && leb (body_tag b) 6) ≡ true
tag_low (Input i) = refl
tag_low (Offer o) = refl
tag_low (Ask a) = refl
tag_low (Ack a) = refl
tag_low (Floor n) = refl
tag_low (Piece p) = refl

said_again : (session : List ℕ) (b : Body2) → message_fits (Said session b) ≡ true → said_in (body_tag b) (session ++ body_text b) ≡ Some (Said session b)
said_again session b fits =
    let a = both (eqb (length session) 16) (body_fits b) fits in
    ap (λ (o : Option (List ℕ × List ℕ)). o >>? λ s. body_in (body_tag b) s.1 >>? said_with s.0) ((fixed_exact 16).again session (body_text b) a.0)
    ∙ ap (λ (o : Option Body2). o >>? said_with session) (body_again b a.1)

-- ---- the rest, by the tag

abbrev Answer : Type 0
Answer = Result Message2 DatagramFault

picked : (b : Bool) (r s : Answer) (m : Message2) → cond b r s ≡ Ok m → (P : Type 0) → (b ≡ true → r ≡ Ok m → P) → (b ≡ false → s ≡ Ok m → P) → P
picked true r s y e P f g = f refl e
picked false r s y e P f g = g refl e

is_some : (o : Option Message2) (m : Message2) → ok_or o BadBody ≡ Ok m → o ≡ Some m
is_some (Some y) m e = ap (λ z. Some z) (ok_is y m e)
is_some None m e = absurd cc

rest_takes : (tag : ℕ) (bytes : List ℕ) (m : Message2) → IsBytes bytes → rest_in tag bytes ≡ Ok m → IsRest tag bytes m
rest_takes tag bytes m h e =
    let P = IsRest tag bytes m in
    picked (leb 1 tag && leb tag 6) (ok_or (said_in tag bytes) BadBody) _ m e P (λ _ f. said_takes tag bytes m h (is_some _ m f)) (λ _ e2.
    picked (eqb tag 7) (ok_or (all_in hello_codec (λ x. Hello x) bytes) BadBody) _ m e2 P (λ k f. arm tag_of rest_text message_fits 7 hello_codec hello_exact (λ x. Hello x) (λ x. refl) (λ x. refl) (λ x. refl) tag bytes m h k (is_some _ m f)) (λ _ e3.
    picked (eqb tag 8) (ok_or (all_in welcome_codec (λ x. Welcome x) bytes) BadBody) (Err BadTag) m e3 P (λ k f. arm tag_of rest_text message_fits 8 welcome_codec welcome_exact (λ x. Welcome x) (λ x. refl) (λ x. refl) (λ x. refl) tag bytes m h k (is_some _ m f)) (λ _ e4. absurd cc)))

abbrev found_or_bad : Option Message2 → Answer
found_or_bad o = ok_or o BadBody

rest_again : (m : Message2) → message_fits m ≡ true → rest_in (tag_of m) (rest_text m) ≡ Ok m
rest_again (Said session b) fits =
    let tag = body_tag b in
    let rest = session ++ body_text b in
    let others : Answer =
    cond (eqb tag 7) (found_or_bad (all_in hello_codec (λ x. Hello x) rest))
    (cond (eqb tag 8) (found_or_bad (all_in welcome_codec (λ x. Welcome x) rest)) (Err BadTag)) in
    ap (λ (z : Bool). cond z (found_or_bad (said_in tag rest)) others) (tag_low b)
    ∙ ap found_or_bad (said_again session b fits)
rest_again (Hello h) fits = ap found_or_bad (all_again hello_codec hello_exact (λ x. Hello x) h fits)
rest_again (Welcome w) fits = ap found_or_bad (all_again welcome_codec welcome_exact (λ x. Welcome x) w fits)

-- ---- the head

abbrev HeadRead : Type 0
HeadRead = Option ((List ℕ × (ℕ × ℕ)) × List ℕ)

abbrev read_head : ℕ → List ℕ → HeadRead
read_head tag rest = Some ((codes "X3DS", (2, tag)), rest)

record Headed (r : HeadRead) (m : Message2) : Type 0 where
  pub tag : ℕ
  pub rest : List ℕ
  pub read : r ≡ read_head tag rest
  pub found : rest_in tag rest ≡ Ok m

headed_is : (r : HeadRead) (m : Message2) → headed r ≡ Ok m → Headed r m
headed_is None m e = absurd cc
headed_is (Some x) m e =
    let g = tested (pointwise nat_eq x.0.0 (codes "X3DS")) _ BadPacket m e in
    let v = tested (eqb x.0.1.0 2) (rest_in x.0.1.1 x.1) BadVersion m g.1 in
    let magic : x.0.0 ≡ codes "X3DS" = same_text x.0.0 (codes "X3DS") (sym g.0) in
    let version : x.0.1.0 ≡ 2 = eqb-true x.0.1.0 2 v.0 in
    record {
      tag = x.0.1.1;
      rest = x.1;
      read = ap (λ (z : List ℕ). let r : HeadRead = Some ((z, (x.0.1.0, x.0.1.1)), x.1) in r) magic
          ∙ ap (λ (z : ℕ). let r : HeadRead = Some ((codes "X3DS", (z, x.0.1.1)), x.1) in r) version;
      found = v.1;
    }

tag_byte : (m : Message2) → ltb (tag_of m) 256 ≡ true
tag_byte (Said session (Input i)) = refl
tag_byte (Said session (Offer o)) = refl
tag_byte (Said session (Ask a)) = refl
tag_byte (Said session (Ack a)) = refl
tag_byte (Said session (Floor n)) = refl
tag_byte (Said session (Piece p)) = refl
tag_byte (Hello h) = refl
tag_byte (Welcome w) = refl

head_fits : (tag : ℕ) → ltb tag 256 ≡ true → head_codec.fits (codes "X3DS", (2, tag)) ≡ true
unfolding head_codec
head_fits tag small = small

pub datagram_takes : (bytes : List ℕ) (m : Message2) → IsBytes bytes → decoded bytes ≡ Ok m → (bytes ≡ datagram m) × (message_fits m ≡ true)
unfolding decoded
datagram_takes bytes m h e =
    let a = headed_is (head_codec.read bytes) m e in
    let t = head_exact.takes bytes (codes "X3DS", (2, a.tag)) a.rest h a.read in
    let s = rest_takes a.tag a.rest m (after head_codec bytes (codes "X3DS", (2, a.tag)) a.rest h t) a.found in (
      t.parts
          ∙ ap (λ (z : ℕ). head_codec.write (codes "X3DS", (2, z)) ++ a.rest) s.tag_is
          ∙ ap (λ (z : List ℕ). head_codec.write (codes "X3DS", (2, tag_of m)) ++ z) s.text_is,
      s.fits_is,
    )

pub datagram_again : (m : Message2) → message_fits m ≡ true → decoded (datagram m) ≡ Ok m
unfolding decoded
datagram_again m fits =
    ap (λ (r : HeadRead). headed r) (head_exact.again (codes "X3DS", (2, tag_of m)) (rest_text m) (head_fits (tag_of m) (tag_byte m)))
    ∙ rest_again m fits

pub is_found : (bytes : List ℕ) (r : Answer) → IsBytes bytes → r ≡ decoded bytes → IfOk r (λ m. IsTrue (message_fits m) × (bytes ≡ datagram m))
is_found bytes (Ok m) h e = let t = datagram_takes bytes m h (sym e) in (t.1, t.0)
is_found bytes (Err f) h e = tt
