-- What an enum is told to be. Assumes nothing.
use mathlib.Core.Path.{◌≡◌, sym, ap}

-- what is known of a value is known of what is made of it
pub told : {A B : Type 0} (f : A → B) {x y : A} → x ≡ y → f y ≡ f x
told f e = sym (ap f e)
