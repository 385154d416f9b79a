use Rattle.std.proofs.Common.{rules}
use Rattle.std.proofs.lemmas.List.Sorted.{IsNonDecreasingBy-from_sort_by_key}
use Rattle.app_part.specs.Order.{note_place}
use Rattle.app_part.proofs.Parting.{by_place_of}
use Rattle.app_part.proofs.order.by_place.Goals as goal

pub returns : goal.returns
returns c =
    by_place_of c.args.notes _ _ c.from_vec.result c.into_vec-notes.ensures c.from_vec.ensures c.in-Ok.ensures.permutation
    (IsNonDecreasingBy-from_sort_by_key note_place _ c.in-Ok.ensures.sorted (λ a r q k. search rules))
