-- The JSON of a body, and its lists.
use Rattle.std.proofs.Common.{◌≡◌, ℕ, true, List, [], ◌∷◌, Option, Some, None, inl, inr, refl, sym, ap, ◌∙◌}
use Rattle.std.specs.Prelude.{IsUtf8}
use Rattle.std.specs.Str.{is_utf8}
use Rattle.std.specs.Option.{option_map}
use Rattle.std.proofs.lemmas.Bool.{cases_Bool}
use Rattle.std.proofs.lemmas.Str.{IsUtf8-from_is_utf8, is_utf8-from_IsUtf8}
use Rattle.serde_json.specs.Data.{Data}
use Rattle.serde_json.specs.Read.{read}
use Rattle.serde_json.specs.Find.{as_array}
use Rattle.serde_json.specs.View.{items_of}
use Rattle.share_etcd.specs.Answers.{document}
use Rattle.share_etcd.specs.Contents.{list_of, listed}

listed_again : (ds : List Data) → list_of (items_of ds) ≡ ds
listed_again [] = refl
listed_again (d ∷ ds) = ap (λ (es : List Data). d ∷ es) (listed_again ds)

pub array_listed : (ds : List Data) (d : Data) → Some (items_of ds) ≡ as_array d → Some ds ≡ listed (Some d)
array_listed ds d is =
    ap (λ (es : List Data). let o : Option (List Data) = Some es in o) (sym (listed_again ds)) ∙ ap (λ o. option_map list_of o) is

pub no_array : (d : Data) → None ≡ as_array d → None ≡ listed (Some d)
no_array d is = ap (λ o. option_map list_of o) is

pub read_ok : (body : List ℕ) (d : Data) → IsUtf8 body → read body ≡ Some d → Some d ≡ document body
read_ok body d text is =
    let test : is_utf8 body ≡ true = is_utf8-from_IsUtf8 body text in
    sym (rw test is)

pub read_none : (body : List ℕ) → (IsUtf8 body → read body ≡ None) → None ≡ document body
read_none body refused = elim (cases_Bool (is_utf8 body)) [
  | inl yes' ↦ (let none : read body ≡ None = refused (IsUtf8-from_is_utf8 body yes') in sym (rw yes' none))
  | inr no' ↦ sym (rw no' refl)
]
