-- How long a Hello and a Welcome are.
use Rattle.std.proofs.Common.{◌≡◌, ℕ, true, eqb, ltb, List, ◌∷◌, ◌++◌, length, arith, length-append}
use Rattle.std.specs.Prelude.{◌&&◌}
use Rattle.std.specs.Int.{w32}
use Rattle.std.proofs.lemmas.Bool.{eqb-true}
use Rattle.byte_codec.specs.Codec.{number_text}
use Rattle.byte_codec.proofs.Laws.{both}
use Rattle.x3d_values.specs.Ranges.{is_viewer}
use Rattle.share_session.specs.declared.message.Hello.{Hello}
use Rattle.share_session.specs.declared.message.Welcome.{Welcome}
use Rattle.share_session.specs.declared.message.Message2.TheVariants as message
use Rattle.share_session.specs.Names.{is_name}
use Rattle.share_session.specs.Fields.{head_codec, seat_codec, name_codec, hello_codec, count_codec, welcome_codec}
use Rattle.share_session.specs.Laws.{WelcomesAreShorter}

name_len : (h : Hello) → name_codec.fits h.name ≡ true → length (name_codec.write h.name) ≡ 65
unfolding name_codec
name_len h e =
    let a = both (is_name h.name.len h.name.bytes) _ e in
    let b = both (ltb h.name.len 256) (eqb (length h.name.bytes) 64) a.1 in
    omega (arith, eqb-true _ _ b.1)

hello_len : (h : Hello) → hello_codec.fits h ≡ true → length (hello_codec.write h) ≡ 122
unfolding hello_codec seat_codec
hello_len h e =
    let a = both (eqb (length h.mark) 32) _ e in
    let b = both (is_viewer h.who && ltb h.who 256) _ a.1 in
    let c = both (eqb (length h.cookie) 8) _ b.1 in
    let d = both (eqb (length h.nonce) 16) (name_codec.fits h.name) c.1 in
    let name = name_codec.write h.name in
    omega (
      arith,
      eqb-true _ _ a.0,
      eqb-true _ _ c.0,
      eqb-true _ _ d.0,
      name_len h d.1,
      length-append h.mark (h.who ∷ (h.cookie ++ (h.nonce ++ name))),
      length-append h.cookie (h.nonce ++ name),
      length-append h.nonce name,
    )

welcome_len : (w : Welcome) → welcome_codec.fits w ≡ true → length (welcome_codec.write w) ≡ 78
unfolding welcome_codec seat_codec count_codec number_text
welcome_len w e =
    let a = both (eqb (length w.mark) 32) _ e in
    let b = both (is_viewer w.who && ltb w.who 256) _ a.1 in
    let c = both (eqb (length w.cookie) 8) _ b.1 in
    let d = both (eqb (length w.nonce) 16) _ c.1 in
    let f = both (eqb (length w.run) 16) _ d.1 in
    let last : List ℕ = w.viewers ∷ number_text w32 w.kept in
    omega (
      arith,
      eqb-true _ _ a.0,
      eqb-true _ _ c.0,
      eqb-true _ _ d.0,
      eqb-true _ _ f.0,
      length-append w.mark (w.who ∷ (w.cookie ++ (w.nonce ++ (w.run ++ last)))),
      length-append w.cookie (w.nonce ++ (w.run ++ last)),
      length-append w.nonce (w.run ++ last),
      length-append w.run last,
    )

pub welcomes_are_shorter : WelcomesAreShorter
unfolding head_codec
welcomes_are_shorter h w hf wf = omega (arith, hello_len h hf, welcome_len w wf)
