-- A part of a part of a text is a part of the text. Assumes nothing.
use Prim.Native.Nat.{ℕ, ◌+◌, ◌<◌, ◌≤◌}
use mathlib.Core.Path.{◌≡◌, sym, ap, ◌∙◌}
use mathlib.Core.List.{List}
use native.Mathlib.Omega.{arith}
use native.Mathlib.Nat.{add_assoc}
use lib.ListN.{length, get_or, take, drop, length-take, length-drop}
use lib.Seq.{ext_get_or, get_or-take, get_or-drop}

pub part_of_part : (s : List ℕ) (start len a n : ℕ) → start + len ≤ length s → a + n ≤ len → take n (drop (start + a) s) ≡ take n (drop a (take len (drop start s)))
part_of_part s start len a n h k =
    ext_get_or 0 _ _
    (omega (arith, length-take n (drop (start + a) s), length-drop (start + a) s, length-take n (drop a (take len (drop start s))), length-drop a (take len (drop start s)), length-take len (drop start s), length-drop start s))
    (λ i l. same i (omega (arith, length-take n (drop (start + a) s))))
  where
    same : (i : ℕ) → i < n → get_or (take n (drop (start + a) s)) i 0 ≡ get_or (take n (drop a (take len (drop start s)))) i 0
    same i l =
        let j : a + i < len = omega arith in
        get_or-take n (drop (start + a) s) i 0 l ∙ get_or-drop (start + a) s i 0 ∙ ap (λ (m : ℕ). get_or s m 0) (add_assoc start a i)
        ∙ sym (get_or-take n (drop a (take len (drop start s))) i 0 l ∙ get_or-drop a (take len (drop start s)) i 0 ∙ get_or-take len (drop start s) (a + i) 0 j ∙ get_or-drop start s (a + i) 0)
