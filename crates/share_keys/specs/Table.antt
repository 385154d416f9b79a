-- The keys of a world's viewers: a place for each of 64.
use Rattle.std.specs.Prelude.{ℕ, Bool, List, Option, None, Some, get_or, is_some, replicate, slice_set}
use Rattle.std.specs.List.{list_any}
use Rattle.share_keys.specs.declared.sealing.Key.{Key}

abbrev pub no_keys : List (Option Key)
no_keys = replicate 64 None

abbrev pub key_at : List (Option Key) → (who : ℕ) → Option Key
key_at keys who = get_or keys who None

abbrev pub with_key : List (Option Key) → (who : ℕ) → Key → List (Option Key)
with_key keys who key = slice_set keys who (Some key)

abbrev pub has_any : List (Option Key) → Bool
has_any keys = list_any is_some keys
