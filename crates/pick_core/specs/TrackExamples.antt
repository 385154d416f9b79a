-- Rays and planes, in millionths; the values were computed by hand.
use Rattle.std.specs.Prelude.{◌≡◌, ℕ, ℤ, pos, negsuc, Some, None}
use Rattle.x3d_values.specs.declared.vector.Vec3.{Vec3}
use Rattle.x3d_values.specs.Pointing.{RayView}
use Rattle.x3d_values.specs.Vectors.{vector as at}
use Rattle.pick_core.specs.declared.look.Motion.{Motion}
use Rattle.pick_core.specs.Local.{moved_back}
use Rattle.pick_core.specs.Motion.{moved}
use Rattle.pick_core.specs.Track.{met}

abbrev zero : ℤ
zero = pos 0

-- -(n + 1)
abbrev minus : ℕ → ℤ
minus n = negsuc n

-- a ray from 14 4 20 straight down z
abbrev down : RayView
down = record {
  origin = at (pos 14000000) (pos 4000000) (pos 20000000);
  dir = at zero zero (minus 999999);
}

-- a ray from 0 0 20 that goes 3 along x and -2 along y while it goes 4 down z
abbrev aslant : RayView
aslant = record {
  origin = at zero zero (pos 20000000);
  dir = at (pos 3000000) (minus 1999999) (minus 3999999);
}

-- a ray along x at height 20
abbrev level : RayView
level = record {
  origin = at zero zero (pos 20000000);
  dir = at (pos 1000000) zero zero;
}

-- inside `translation 10 0 0 scale 2 2 2`, a drag that began at 0 0 1 has its plane at height 2;
-- the ray from 14 4 20 meets this plane at 14 4 2, which is 2 2 1 inside
abbrev ten : Vec3
ten = at (pos 10000000) zero zero

abbrev twos : Motion
twos = record {
  translation = ten;
  scale = at (pos 2000000) (pos 2000000) (pos 2000000);
  center = at zero zero zero;
}

-- a scale of -2 along x, 0 along y, 0.5 along z
abbrev odd : Motion
odd = record twos { scale = at (minus 1999999) zero (pos 500000) }

pub record Tracking : Type 0 where
  pub plane : moved twos (at zero zero (pos 1000000))
      ≡ at (pos 10000000) zero (pos 2000000)
  pub meets : met down (pos 2000000) ≡ Some (at (pos 14000000) (pos 4000000) (pos 2000000))
  pub inside : moved_back twos (at (pos 14000000) (pos 4000000) (pos 2000000))
      ≡ at (pos 2000000) (pos 2000000) (pos 1000000)
  -- 15 down from 20 to 5: 11.25 along x, -7.5 along y
  pub slants : met aslant (pos 5000000) ≡ Some (at (pos 11250000) (minus 7499999) (pos 5000000))
  -- one millionth down moves 0.75 and -0.5 millionths, rounded down
  pub rounds : met aslant (pos 19999999) ≡ Some (at zero (minus 0) (pos 19999999))
  -- the ray begins on the plane
  pub begins : met aslant (pos 20000000) ≡ Some (at zero zero (pos 20000000))
  -- the plane is behind the ray's origin
  pub behind : met down (pos 20000001) ≡ None
  -- the ray runs in the plane, and parallel to another plane
  pub along : met level (pos 20000000) ≡ None
  pub above : met level (pos 2000000) ≡ None
  -- a scale below 0 flips x, a scale of 0 gives the centre, and a scale of 0.5 doubles z
  pub turned : moved_back odd (at (pos 14000000) (pos 4000000) (pos 1000000))
      ≡ at (minus 1999999) zero (pos 2000000)
  pub back : moved odd (at (minus 1999999) zero (pos 2000000))
      ≡ at (pos 14000000) zero (pos 1000000)
