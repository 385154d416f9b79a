-- Datagrams of two runs differ, or a hash collides.
use Rattle.std.proofs.Common.{◌≡◌, ℕ, Bool, true, false, cond, List, [], ◌++◌, length, take, drop, Option, Some, None, Result, Ok, Err, inl, inr, refl, sym, ap, ◌∙◌, eq-eqb, arith}
use Rattle.std.specs.Prelude.{nat_eq}
use Rattle.std.specs.Cmp.Lexicographic.{pointwise, bytes_decides}
use Rattle.std.proofs.lemmas.Bool.{cases_Bool}
use Rattle.std.proofs.lemmas.List.{take_at, drop_at, length-take-le}
use Rattle.sha2.specs.Sha256.{sha256}
use Rattle.sha2.proofs.Facts256.{length-sha256}
use Rattle.byte_codec.proofs.Laws.{and_true}
use Rattle.share_session.specs.declared.fault.DatagramFault.{DatagramFault}
use Rattle.share_session.specs.declared.message.Body2.{Body2}
use Rattle.share_session.specs.declared.message.Message2.{Message2}
use Rattle.share_session.specs.declared.message.Message2.TheVariants.{Said, Hello, Welcome}
use Rattle.share_session.specs.Runs.{session_of, SessionsTell}
use Rattle.share_session.specs.Datagram.{datagram, body_fits, message_fits}
use Rattle.share_session.specs.Decoding.{decoded}
use Rattle.share_session.specs.Heard.{as_message}
use Rattle.share_session.specs.Laws.{HearsItsRun, DatagramsTell}
use Rattle.share_session.proofs.DatagramLaws.{datagram_again}

session_len : (mark run : List ℕ) → length (session_of mark run) ≡ 16
session_len mark run =
    length-take-le 16 (sha256 (mark ++ run)) (omega (arith, length-sha256 (mark ++ run)))

pub sessions_tell : SessionsTell
sessions_tell mark other_mark run other lm lo e =
    let one = mark ++ run in
    let two = other_mark ++ other in
    elim (cases_Bool (pointwise nat_eq one two)) [
      | inl t ↦
          let same : one ≡ two = (bytes_decides one two).0 t in
          let marks : mark ≡ other_mark = sym (take_at mark run 32 lm) ∙ ap (λ (l : List ℕ). take 32 l) same ∙ take_at other_mark other 32 lo in
          let runs : run ≡ other = sym (drop_at mark run 32 lm) ∙ ap (λ (l : List ℕ). drop 32 l) same ∙ drop_at other_mark other 32 lo in
          inl (marks, runs)
      | inr f ↦ inr (one, two, (λ same. absurd (let bad : true ≡ pointwise nat_eq one two = sym ((bytes_decides one two).1 same) in cc)), e)
    ]

guarded : {A : Type 0} (b : Bool) (o : Option A) (x : A) → cond b o None ≡ Some x → b ≡ true
guarded true o x e = refl
guarded false o x e = absurd cc

pub hears_its_run : HearsItsRun
hears_its_run mark other_mark run other lm lo body m e =
    let session = session_of mark run in
    let theirs = session_of other_mark other in
    let ours : pointwise nat_eq theirs session ≡ true = guarded (pointwise nat_eq theirs session) (as_message mark (Said theirs body)) m e in
    let same : theirs ≡ session = (bytes_decides theirs session).0 ours in
    sessions_tell mark other_mark run other lm lo (sym same)

abbrev session_in : Result Message2 DatagramFault → List ℕ
session_in (Ok (Said session body)) = session
session_in (Ok (Hello h)) = []
session_in (Ok (Welcome w)) = []
session_in (Err f) = []

said_fits : (mark run : List ℕ) (body : Body2) → body_fits body ≡ true → message_fits (Said (session_of mark run) body) ≡ true
said_fits mark run body fits = and_true _ _ (eq-eqb (length (session_of mark run)) 16 (session_len mark run)) fits

pub datagrams_tell : DatagramsTell
datagrams_tell mark other_mark run other lm lo body other_body fits other_fits e =
    let one : Message2 = Said (session_of mark run) body in
    let two : Message2 = Said (session_of other_mark other) other_body in
    let read : decoded (datagram one) ≡ Ok one = datagram_again one (said_fits mark run body fits) in
    let again : decoded (datagram two) ≡ Ok two = datagram_again two (said_fits other_mark other other_body other_fits) in
    let same : session_of mark run ≡ session_of other_mark other = ap (λ (r : Result Message2 DatagramFault). session_in r) (sym read ∙ ap (λ (b : List ℕ). decoded b) e ∙ again) in
    sessions_tell mark other_mark run other lm lo same
