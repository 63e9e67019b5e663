-- A byte within two bounds. Assumes nothing.
use Prim.Native.Nat.{ℕ, ◌<◌, ◌≤◌}
use mathlib.Core.Path.{◌≡◌}
use mathlib.Core.Bool.{true, false, ◌&&◌}
use lib.Dec.{leb}
use borrow.Author.Tests.{le-leb, lt-leb}
use Rattle.text.proofs.Tests.{and_none}

module _ (lo hi b : ℕ) where
  pub under : b < lo → (leb lo b && leb b hi) ≡ false
  under h = rw (lt-leb lo b h)

  pub over : hi < b → (leb lo b && leb b hi) ≡ false
  over h = rw (lt-leb b hi h) (and_none (leb lo b))

  pub inside : lo ≤ b → b ≤ hi → (leb lo b && leb b hi) ≡ true
  inside h k = rw (le-leb lo b h, le-leb b hi k)
