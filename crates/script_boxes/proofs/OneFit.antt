-- Boxes of the stock that fit are one list: what a script asks for tells its box.
use Rattle.std.specs.Prelude.{Option, Some, None, IsSomeAnd, false, map, slice_get, unwrap_or}
use Rattle.std.specs.Option.{option_map}
use Rattle.std.proofs.Common.{◌≡◌, ◌∙◌, ◌<◌, ℤ, List, ap, length, sym}
use Rattle.std.proofs.lemmas.List.{same_lists}
use Rattle.std.proofs.lemmas.Option.{same_Some, slice_get-map, unwrap_or-slice_get}
use Rattle.x3d_values.specs.declared.script.Kind.{Kind}
use Rattle.x3d_values.specs.declared.script.ScriptSpec.{ScriptSpec}
use Rattle.script_host.specs.Attaching.{Fits, Meets}
use Rattle.script_host.specs.Hosting.{SlotView}
use Rattle.script_boxes.specs.Boxes.{made_of, stock_kind, stock_state}
use Rattle.script_boxes.specs.declared.stock.StockScript.{StockScript}

abbrev new_record : Kind → List ℤ → SlotView
new_record k s = record { kind = k; state = s; initialized = false }

one_box : (s : ScriptSpec) (a b : StockScript) → Meets s (made_of a) → Meets s (made_of b) → made_of a ≡ made_of b
one_box s a b h g =
    let kind : stock_kind a ≡ stock_kind b = same_Some _ _ (sym h.kind ∙ g.kind) in
    let state : stock_state a ≡ stock_state b = h.start ∙ sym g.start in
    ap (λ k. new_record k (stock_state a)) kind ∙ ap (new_record (stock_kind b)) state

one_place : (o : Option ScriptSpec) (p q : Option StockScript)
    → IsSomeAnd o (λ s. IsSomeAnd (option_map made_of p) (λ r. Meets s r))
    → IsSomeAnd o (λ s. IsSomeAnd (option_map made_of q) (λ r. Meets s r))
    → option_map made_of p ≡ option_map made_of q
one_place (Some s) (Some x) (Some y) h g = ap Some (one_box s x y h g)
one_place (Some s) (Some x) None h g = absurd g
one_place (Some s) None q h g = absurd h
one_place None p q h g = absurd h

pub one_fit : (specs : List ScriptSpec) (some other : List StockScript) → Fits specs (map made_of some)
    → Fits specs (map made_of other) → map made_of some ≡ map made_of other
one_fit specs some other h g =
    same_lists (map made_of some) (map made_of other) (sym h.count ∙ g.count) (λ k d small.
    let below : k < length specs = rw h.count small in
    let left = rw (slice_get-map made_of some k) at (h.meet k below) in
    let right = rw (slice_get-map made_of other k) at (g.meet k below) in
    let same : slice_get (map made_of some) k ≡ slice_get (map made_of other) k =
    slice_get-map made_of some k ∙ one_place (slice_get specs k) (slice_get some k) (slice_get other k) left right
    ∙ sym (slice_get-map made_of other k) in
    sym (unwrap_or-slice_get (map made_of some) k d) ∙ ap (λ o. unwrap_or o d) same
    ∙ unwrap_or-slice_get (map made_of other) k d)
