-- The offers of a viewer, as their contracts see them.
use Rattle.std.specs.Prelude.{ℕ, List}
use Rattle.x3d_values.specs.declared.pointing.Point.{Point}
use Rattle.share_law.specs.Viewer.{ViewerWorld, ViewerState}

-- a viewer's number and boot, the number of offers made in this boot, and the last of these offers,
-- which wait
pub record Offers : Type 0 where
  pub who : ℕ
  pub boot : ℕ
  pub made : ℕ
  pub waiting : List Point

-- the viewer with these offers
abbrev pub with_offers : {W : Type 0} → Offers → ViewerWorld W → ViewerState W
with_offers o view = record { boot = o.boot; made = o.made; waiting = o.waiting; view = view }
