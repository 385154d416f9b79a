-- Each option of a command has one number.
use Rattle.std.specs.Prelude.{Option, Some, None}
use Rattle.std.proofs.Common.{◌≡◌, ◌∙◌, ℕ, List, ap, refl, sym}
use Rattle.std.specs.Str.Parse.{digits_value, without_leading_plus}
use Rattle.clap.specs.Words.{Row, Text}
use Rattle.app_words.specs.declared.order.HostOrder.{HostOrder}
use Rattle.app_words.specs.declared.order.ServeOrder.{ServeOrder}
use Rattle.app_words.specs.declared.order.ViewEnd.{ViewEnd}
use Rattle.app_words.specs.declared.order.ViewEnd.TheVariants.{Until, Exactly}
use Rattle.app_words.specs.declared.order.ViewOrder.{ViewOrder}
use Rattle.app_words.specs.Words.{AsksHost, AsksServe, AsksView, HasNumber, HasNumberIn, IsEnd, IsLeftOut, MayHaveNumberIn}

one_number : (id : Text) (rows : List Row) (n m : ℕ) → HasNumber id rows n → HasNumber id rows m → n ≡ m
one_number id rows n m a b =
    let found : Some a.text ≡ Some b.text = sym a.found ∙ b.found in
    let text : a.text ≡ b.text = (cc) in
    a.value ∙ ap (λ t. digits_value 10 (without_leading_plus t)) text ∙ sym b.value

pub one : {id : Text} {rows : List Row} {low high n m : ℕ} → HasNumberIn id rows low high n → HasNumberIn id rows low high m → n ≡ m
one {id} {rows} {low} {high} {n} {m} a b = one_number id rows n m a.number b.number

-- what was left out has no number
pub without : {id : Text} {rows : List Row} {low high n : ℕ} → HasNumberIn id rows low high n → IsLeftOut id rows → ⊥
without {id} {rows} {low} {high} {n} a none = let bad : Some a.number.text ≡ None = sym a.number.found ∙ none in (cc)

pub one_or_none : (id : Text) (rows : List Row) (low high : ℕ) (n m : Option ℕ) → MayHaveNumberIn id rows low high n
    → MayHaveNumberIn id rows low high m → n ≡ m
one_or_none id rows low high (Some n) (Some m) a b = ap (λ x. Some x) (one a b)
one_or_none id rows low high (Some n) None a b = absurd (without a b)
one_or_none id rows low high None (Some m) a b = absurd (without b a)
one_or_none id rows low high None None a b = refl

one_end : (rows : List Row) (x y : ViewEnd) → IsEnd rows x → IsEnd rows y → x ≡ y
one_end rows (Until n) (Until m) a b = ap (λ k. Until k) (one a.0 b.0)
one_end rows (Until n) (Exactly m) a b = absurd (without a.0 b.0)
one_end rows (Exactly n) (Until m) a b = absurd (without b.0 a.0)
one_end rows (Exactly n) (Exactly m) a b = ap (λ k. Exactly k) (one a.1 b.1)

pub one_host : (rows : List Row) (x y : HostOrder) → AsksHost rows x → AsksHost rows y → x ≡ y
one_host rows x y a b =
    let log : Some x.log ≡ Some y.log = sym a.log ∙ b.log in
    ap (λ n. record x { port = n }) (one_or_none _ rows _ _ x.port y.port a.port b.port)
    ∙ ap (λ v. record x { port = y.port; has_address = v }) (a.has_address ∙ sym b.has_address)
    ∙ ap (λ v. record x { port = y.port; has_address = y.has_address; has_keys = v }) (a.has_keys ∙ sym b.has_keys)
    ∙ ap (λ v. record x { port = y.port; has_address = y.has_address; has_keys = y.has_keys; is_open = v }) (a.is_open ∙ sym b.is_open)
    ∙ ap (λ u. record y { log = u; has_world = x.has_world; has_login = x.has_login; standby = x.standby; viewers = x.viewers; turns = x.turns; keep = x.keep; forget = x.forget; every = x.every; until = x.until; verbose = x.verbose }) (let same : x.log ≡ y.log = (cc) in same)
    ∙ ap (λ v. record y { has_world = v; has_login = x.has_login; standby = x.standby; viewers = x.viewers; turns = x.turns; keep = x.keep; forget = x.forget; every = x.every; until = x.until; verbose = x.verbose }) (a.has_world ∙ sym b.has_world)
    ∙ ap (λ v. record y { has_login = v; standby = x.standby; viewers = x.viewers; turns = x.turns; keep = x.keep; forget = x.forget; every = x.every; until = x.until; verbose = x.verbose }) (a.has_login ∙ sym b.has_login)
    ∙ ap (λ n. record y { standby = n; viewers = x.viewers; turns = x.turns; keep = x.keep; forget = x.forget; every = x.every; until = x.until; verbose = x.verbose }) (one_or_none _ rows _ _ x.standby y.standby a.standby b.standby)
    ∙ ap (λ n. record y { viewers = n; turns = x.turns; keep = x.keep; forget = x.forget; every = x.every; until = x.until; verbose = x.verbose }) (one_or_none _ rows _ _ x.viewers y.viewers a.viewers b.viewers)
    ∙ ap (λ n. record y { turns = n; keep = x.keep; forget = x.forget; every = x.every; until = x.until; verbose = x.verbose }) (one_or_none _ rows _ _ x.turns y.turns a.turns b.turns)
    ∙ ap (λ o. record y { keep = o; forget = x.forget; every = x.every; until = x.until; verbose = x.verbose }) (one_or_none _ rows _ _ x.keep y.keep a.keep b.keep)
    ∙ ap (λ o. record y { forget = o; every = x.every; until = x.until; verbose = x.verbose }) (one_or_none _ rows _ _ x.forget y.forget a.forget b.forget)
    ∙ ap (λ o. record y { every = o; until = x.until; verbose = x.verbose }) (one_or_none _ rows _ _ x.every y.every a.every b.every)
    ∙ ap (λ o. record y { until = o; verbose = x.verbose }) (one_or_none _ rows _ _ x.until y.until a.until b.until)
    ∙ ap (λ v. record y { verbose = v }) (a.verbose ∙ sym b.verbose)

pub one_view : (rows : List Row) (x y : ViewOrder) → AsksView rows x → AsksView rows y → x ≡ y
one_view rows x y a b =
    ap (λ v. record x { port = v }) (one_or_none _ rows _ _ x.port y.port a.port b.port)
    ∙ ap (λ v. record x { port = y.port; has_address = v }) (a.has_address ∙ sym b.has_address)
    ∙ ap (λ v. record x { port = y.port; has_address = y.has_address; has_key = v }) (a.has_key ∙ sym b.has_key)
    ∙ ap (λ v. record x { port = y.port; has_address = y.has_address; has_key = y.has_key; has_world = v }) (a.has_world ∙ sym b.has_world)
    ∙ ap (λ v. record x { port = y.port; has_address = y.has_address; has_key = y.has_key; has_world = y.has_world; is_open = v }) (a.is_open ∙ sym b.is_open)
    ∙ ap (λ v. record y { who = v; boot = x.boot; end = x.end; turns = x.turns; at = x.at; give = x.give; give_turns = x.give_turns; wire = x.wire; join = x.join; forget = x.forget; verbose = x.verbose }) (one a.who b.who)
    ∙ ap (λ v. record y { boot = v; end = x.end; turns = x.turns; at = x.at; give = x.give; give_turns = x.give_turns; wire = x.wire; join = x.join; forget = x.forget; verbose = x.verbose }) (one_or_none _ rows _ _ x.boot y.boot a.boot b.boot)
    ∙ ap (λ v. record y { end = v; turns = x.turns; at = x.at; give = x.give; give_turns = x.give_turns; wire = x.wire; join = x.join; forget = x.forget; verbose = x.verbose }) (one_end rows x.end y.end a.end b.end)
    ∙ ap (λ v. record y { turns = v; at = x.at; give = x.give; give_turns = x.give_turns; wire = x.wire; join = x.join; forget = x.forget; verbose = x.verbose }) (one a.turns b.turns)
    ∙ ap (λ v. record y { at = v; give = x.give; give_turns = x.give_turns; wire = x.wire; join = x.join; forget = x.forget; verbose = x.verbose }) (one_or_none _ rows _ _ x.at y.at a.at b.at)
    ∙ ap (λ v. record y { give = v; give_turns = x.give_turns; wire = x.wire; join = x.join; forget = x.forget; verbose = x.verbose }) (one_or_none _ rows _ _ x.give y.give a.give b.give)
    ∙ ap (λ v. record y { give_turns = v; wire = x.wire; join = x.join; forget = x.forget; verbose = x.verbose }) (one a.give_turns b.give_turns)
    ∙ ap (λ v. record y { wire = v; join = x.join; forget = x.forget; verbose = x.verbose }) (one_or_none _ rows _ _ x.wire y.wire a.wire b.wire)
    ∙ ap (λ v. record y { join = v; forget = x.forget; verbose = x.verbose }) (a.join ∙ sym b.join)
    ∙ ap (λ v. record y { forget = v; verbose = x.verbose }) (one_or_none _ rows _ _ x.forget y.forget a.forget b.forget)
    ∙ ap (λ v. record y { verbose = v }) (a.verbose ∙ sym b.verbose)

pub one_serve : (rows : List Row) (x y : ServeOrder) → AsksServe rows x → AsksServe rows y → x ≡ y
one_serve rows x y a b =
    ap (λ v. record y { port = v; has_address = x.has_address; is_open = x.is_open; has_etcd = x.has_etcd; has_login = x.has_login; viewers = x.viewers; keep = x.keep; forget = x.forget; base = x.base; every = x.every; verbose = x.verbose }) (one_or_none _ rows _ _ x.port y.port a.port b.port)
    ∙ ap (λ v. record y { has_address = v; is_open = x.is_open; has_etcd = x.has_etcd; has_login = x.has_login; viewers = x.viewers; keep = x.keep; forget = x.forget; base = x.base; every = x.every; verbose = x.verbose }) (a.has_address ∙ sym b.has_address)
    ∙ ap (λ v. record y { is_open = v; has_etcd = x.has_etcd; has_login = x.has_login; viewers = x.viewers; keep = x.keep; forget = x.forget; base = x.base; every = x.every; verbose = x.verbose }) (a.is_open ∙ sym b.is_open)
    ∙ ap (λ v. record y { has_etcd = v; has_login = x.has_login; viewers = x.viewers; keep = x.keep; forget = x.forget; base = x.base; every = x.every; verbose = x.verbose }) (a.has_etcd ∙ sym b.has_etcd)
    ∙ ap (λ v. record y { has_login = v; viewers = x.viewers; keep = x.keep; forget = x.forget; base = x.base; every = x.every; verbose = x.verbose }) (a.has_login ∙ sym b.has_login)
    ∙ ap (λ v. record y { viewers = v; keep = x.keep; forget = x.forget; base = x.base; every = x.every; verbose = x.verbose }) (one_or_none _ rows _ _ x.viewers y.viewers a.viewers b.viewers)
    ∙ ap (λ v. record y { keep = v; forget = x.forget; base = x.base; every = x.every; verbose = x.verbose }) (one_or_none _ rows _ _ x.keep y.keep a.keep b.keep)
    ∙ ap (λ v. record y { forget = v; base = x.base; every = x.every; verbose = x.verbose }) (one_or_none _ rows _ _ x.forget y.forget a.forget b.forget)
    ∙ ap (λ v. record y { base = v; every = x.every; verbose = x.verbose }) (one_or_none _ rows _ _ x.base y.base a.base b.base)
    ∙ ap (λ v. record y { every = v; verbose = x.verbose }) (one_or_none _ rows _ _ x.every y.every a.every b.every)
    ∙ ap (λ v. record y { verbose = v }) (a.verbose ∙ sym b.verbose)
