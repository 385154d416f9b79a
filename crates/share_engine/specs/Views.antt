-- What values of this crate stand for.
use Rattle.std.specs.Prelude.{ℕ, List, Option, slice_get, Vec}
use Rattle.std.specs.declared.alloc.Global.{Global}
use Rattle.std.specs.Option.{option_flatten, option_map}
use Rattle.share_engine.specs.declared.fake.Told.{Told}
use Rattle.share_engine.specs.Exchanges.{Exchange}

abbrev pub answer_view : Option (Vec ℕ Global) → Option (List ℕ)
answer_view answer = option_map (λ (v : Vec ℕ Global). v.items) answer

abbrev pub told_view : Told → Exchange
told_view t = record { asked = t.asked.items; answer = answer_view t.answer }

-- the answer to request number k: none if it is silent, or after the last
abbrev pub answer_at : List (Option (Vec ℕ Global)) → (k : ℕ) → Option (List ℕ)
answer_at answers k = option_flatten (option_map answer_view (slice_get answers k))
