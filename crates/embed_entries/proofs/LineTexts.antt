-- The bytes of entries after their numbers, and of appends one after another.
use Rattle.std.proofs.Common.{◌≡◌, ◌<◌, ℕ, suc, ◌+◌, Bool, true, false, List, [], ◌∷◌, ◌++◌, length, length-append, take, get_or, inl, inr, refl, ap, sym, ◌∙◌, arith, append_assoc, append-nil}
use Rattle.std.specs.Prelude.{◌==◌, if◌then◌else◌}
use Rattle.std.proofs.lemmas.Bool.Decides.{nat_tests}
use Rattle.std.proofs.lemmas.List.{length-take-le, take_more}
use Rattle.std.specs.Int.{w64}
use Rattle.byte_codec.specs.Codec.{number_text}
use Rattle.share_entries.specs.Entry.{EntryView, entry_codec}
use Rattle.embed_entries.specs.Appends.{IsLogText, append_text, front_of, lines_from, log_text}

abbrev line : ℕ → EntryView → List ℕ
line n e = number_text w64 n ++ entry_codec.write e

pub lines-append : (n : ℕ) (a b : List EntryView) → lines_from n (a ++ b) ≡ lines_from n a ++ lines_from (n + length a) b
lines-append n [] b = let same : n ≡ n + 0 = omega arith in ap (λ (k : ℕ). lines_from k b) same
lines-append n (e ∷ a) b =
    let same : (n + 1) + length a ≡ n + suc (length a) = omega arith in
    ap (λ (l : List ℕ). line n e ++ l) (lines-append (n + 1) a b ∙ ap (λ (k : ℕ). lines_from (n + 1) a ++ lines_from k b) same)
    ∙ sym (append_assoc (line n e) (lines_from (n + 1) a) (lines_from (n + suc (length a)) b))

pub lines-snoc : (n : ℕ) (a : List EntryView) (e : EntryView) → lines_from n (a ++ e ∷ []) ≡ lines_from n a ++ line (n + length a) e
lines-snoc n a e = lines-append n a (e ∷ []) ∙ ap (λ (l : List ℕ). lines_from n a ++ l) (append-nil (line (n + length a) e))

-- one more of the entries
pub one-line : (entries : List EntryView) (i : ℕ) (e : EntryView) (first n : ℕ) (old now new : List ℕ) → i < length entries → e ≡ get_or entries i e → n ≡ first + i
    → now ≡ old ++ lines_from first (take i entries) → new ≡ now ++ line n e → new ≡ old ++ lines_from first (take (i + 1) entries)
one-line entries i e first n old now new lt here number so_far grown =
    let len : length (take i entries) ≡ i = length-take-le i entries (omega (arith, lt)) in
    let more : take (i + 1) entries ≡ take i entries ++ e ∷ [] = take_more entries i e lt ∙ ap (λ (x : EntryView). take i entries ++ x ∷ []) (sym here) in
    let at : n ≡ first + length (take i entries) = omega (arith, number, len) in
    let snoc : lines_from first (take (i + 1) entries) ≡ lines_from first (take i entries) ++ line n e =
    ap (lines_from first) more ∙ lines-snoc first (take i entries) e ∙ ap (λ (k : ℕ). lines_from first (take i entries) ++ line k e) (sym at) in
    grown ∙ ap (λ (l : List ℕ). l ++ line n e) so_far ∙ append_assoc old (lines_from first (take i entries)) (line n e) ∙ ap (λ (l : List ℕ). old ++ l) (sym snoc)

-- an entry more was read
pub read-line : (first : ℕ) (bytes : List ℕ) (entries : List EntryView) (e : EntryView) (n : ℕ) (rest after behind : List ℕ) → bytes ≡ lines_from first entries ++ rest → length entries ≡ n
    → rest ≡ number_text w64 (first + n) ++ after → after ≡ entry_codec.write e ++ behind → bytes ≡ lines_from first (entries ++ e ∷ []) ++ behind
read-line first bytes entries e n rest after behind text count number entry =
    let at : first + n ≡ first + length entries = omega (arith, count) in
    let whole : rest ≡ line (first + length entries) e ++ behind =
    number ∙ ap (λ (l : List ℕ). number_text w64 (first + n) ++ l) entry ∙ sym (append_assoc (number_text w64 (first + n)) (entry_codec.write e) behind)
    ∙ ap (λ (k : ℕ). line k e ++ behind) at in
    text ∙ ap (λ (l : List ℕ). lines_from first entries ++ l) whole ∙ sym (append_assoc (lines_from first entries) (line (first + length entries) e) behind)
    ∙ ap (λ (l : List ℕ). l ++ behind) (sym (lines-snoc first entries e))

-- the entries so far and one more
pub one-more : (first : ℕ) (bytes : List ℕ) (entries : List EntryView) (e : EntryView) (n : ℕ) (all : List EntryView) (behind : List ℕ) → all ≡ entries ++ e ∷ [] → length entries ≡ n
    → bytes ≡ lines_from first (entries ++ e ∷ []) ++ behind → (bytes ≡ lines_from first all ++ behind) × (length all ≡ n + 1)
one-more first bytes entries e n all behind grown count text =
    let longer : length (entries ++ e ∷ []) ≡ n + 1 = omega (arith, length-append entries (e ∷ []), count) in
    (text ∙ ap (λ (l : List EntryView). lines_from first l ++ behind) (sym grown), ap (λ (l : List EntryView). length l) grown ∙ longer)

-- ---- appends make logs

behind-one : (mark : List ℕ) (k : ℕ) → 1 < k → front_of mark k ≡ []
behind-one mark k lt = by (k == 1) refl where
  by : (b : Bool) → (k == 1) ≡ b → (if b then mark else []) ≡ []
  by true e = let same : k ≡ 1 = grind (arith, nat_tests) in absurd (omega (arith, lt, same))
  by false e = refl

pub appends-make-logs : (mark : List ℕ) (log more : List EntryView) → IsLogText mark (log_text mark log ++ append_text mark (length log + 1) more) (log ++ more)
appends-make-logs mark [] [] = inl (refl, refl)
appends-make-logs mark [] (m ∷ ms) = inr refl
appends-make-logs mark (e ∷ es) [] =
    inr (append-nil (mark ++ lines_from 1 (e ∷ es)) ∙ ap (λ (l : List EntryView). mark ++ lines_from 1 l) (sym (append-nil (e ∷ es))))
appends-make-logs mark (e ∷ es) (m ∷ ms) =
    let k : ℕ = length (e ∷ es) + 1 in
    let at : k ≡ 1 + length (e ∷ es) = omega arith in
    let text : append_text mark k (m ∷ ms) ≡ lines_from (1 + length (e ∷ es)) (m ∷ ms) =
    ap (λ (l : List ℕ). l ++ lines_from k (m ∷ ms)) (behind-one mark k (omega arith)) ∙ ap (λ (n : ℕ). lines_from n (m ∷ ms)) at in
    inr (ap (λ (l : List ℕ). (mark ++ lines_from 1 (e ∷ es)) ++ l) text
    ∙ append_assoc mark (lines_from 1 (e ∷ es)) (lines_from (1 + length (e ∷ es)) (m ∷ ms))
    ∙ ap (λ (l : List ℕ). mark ++ l) (sym (lines-append 1 (e ∷ es) (m ∷ ms))))
