-- One step of the scan over the tokens.
use Rattle.std.proofs.Common.{◌≡◌, ℕ, zero, suc, ◌+◌, ◌-◌, ◌<◌, List, [], ◌∷◌, ◌++◌, length, drop, get_or, append_assoc, sym, ap, ◌∙◌, arith}
use Rattle.std.proofs.lemmas.List.{drop-drop, append-nil}
use Rattle.classic_lenient.specs.declared.pieces.Piece.{Piece}
use Rattle.classic_lenient.specs.declared.scan.Around.{Around}
use Rattle.classic_lenient.specs.declared.scan.Place.{Place}
use Rattle.classic_lenient.specs.declared.scan.Unread.{Unread}
use Rattle.classic_lenient.specs.Scan.{scan, begin_with, behind, passed, unread_len, unread_of}

one_less : (n : ℕ) → suc n - 1 ≡ n
one_less n = omega arith

-- a token of a statement that began before
pub on_skip : (skip : ℕ) (a : Around) (ps : List Piece) → 0 < length ps → 0 < skip
    → scan (skip - 1) a (drop 1 ps) ≡ scan skip a ps
unfolding scan
on_skip skip a [] some more = absurd (omega arith)
on_skip zero a (p ∷ ps) some more = absurd (omega arith)
on_skip (suc n) a (p ∷ ps) some more = ap (λ k. scan k a ps) (one_less n)

-- a token with which no statement begins that is left out
pub on_none : (a : Around) (ps : List Piece) (d : Piece) → 0 < length ps → unread_len a ps ≡ 0
    → scan 0 (passed a (get_or ps 0 d).mark) (drop 1 ps) ≡ scan 0 a ps
unfolding scan
on_none a [] d some none = absurd (omega arith)
on_none a (q ∷ qs) d some none =
    sym (ap (λ n. begin_with n a q qs (λ skip b. scan skip b qs)) none)

begun : (n : ℕ) (a : Around) (p : Piece) (ps : List Piece) → 0 < n
    → begin_with n a p ps (λ skip b. scan skip b ps) ≡ unread_of n (p ∷ ps) ∷ scan (n - 1) (behind a) ps
begun zero a p ps some = absurd (omega arith)
begun (suc n) a p ps some = ap (λ k. unread_of (suc n) (p ∷ ps) ∷ scan k (behind a) ps) (sym (one_less n))

-- a token with which a statement of n tokens begins that is left out
pub on_some : (a : Around) (ps : List Piece) (n : ℕ) → 0 < length ps → 0 < n → n ≡ unread_len a ps
    → unread_of n ps ∷ scan (n - 1) (behind a) (drop 1 ps) ≡ scan 0 a ps
unfolding scan
on_some a [] n some more is = absurd (omega arith)
on_some a (p ∷ ps) n some more is =
    sym (begun n a p ps more) ∙ ap (λ k. begin_with k a p ps (λ skip b. scan skip b ps)) is

-- what was found, and one statement more
pub one_more : (old new more whole : List Unread) (u v : Unread) → new ≡ old ++ u ∷ [] → u ≡ v
    → v ∷ more ≡ whole → new ++ more ≡ old ++ whole
one_more old new more whole u v made same told =
    ap (λ x. x ++ more) made ∙ append_assoc old (u ∷ []) more ∙ ap (λ x. old ++ (x ∷ more)) same ∙ ap (λ x. old ++ x) told

-- ---- the loop

pub went : (pieces rest : List Piece) (at : ℕ) (old new whole : List Unread) (s t : Place)
    → rest ≡ drop at pieces
    → new ++ scan t.skip t.around (drop 1 rest) ≡ old ++ scan s.skip s.around rest
    → old ++ scan s.skip s.around (drop at pieces) ≡ whole
    → new ++ scan t.skip t.around (drop (at + 1) pieces) ≡ whole
went pieces rest at old new whole s t is told before =
    ap (λ x. new ++ scan t.skip t.around x) (sym (drop-drop 1 at pieces) ∙ ap (drop 1) (sym is))
    ∙ told ∙ ap (λ x. old ++ scan s.skip s.around x) is ∙ before

pub ended : (pieces : List Piece) (at : ℕ) (found whole : List Unread) (s : Place)
    → drop at pieces ≡ [] → found ++ scan s.skip s.around (drop at pieces) ≡ whole → found ≡ whole
unfolding scan
ended pieces at found whole s none told =
    sym (append-nil found) ∙ ap (λ x. found ++ scan s.skip s.around x) (sym none) ∙ told
