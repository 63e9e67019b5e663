-- The hash byte by byte, as a loop meets it, and of two texts joined. Assumes nothing.
use Prim.Native.Nat.{ℕ, ◌+◌, ◌*◌, ◌%◌, ◌<◌, ◌≤◌}
use mathlib.Core.Path.{◌≡◌, refl, sym, ◌∙◌}
use mathlib.Core.List.{List, [], ◌∷◌, ◌++◌}
use native.Mathlib.Omega.{arith}
use lib.ListN.{length, get_or, drop}
use Rattle.text.proofs.Walk.{rest_at, rest_end}
use Rattle.lookup_slots.specs.Hash.{hash_from}
use Rattle.lookup_slots.specs.Promise.{Hashes}

pub hash_joined : (h : ℕ) (s t : List ℕ) → hash_from h (s ++ t) ≡ hash_from (hash_from h s) t
unfolding hash_from
hash_joined h [] t = refl
hash_joined h (b ∷ s) t = hash_joined ((h * 33 + b) % 4294967296) s t

-- the first i bytes are taken
pub record Hashed (start : ℕ) (s : List ℕ) (h i : ℕ) : Type 0 where
  pub inside : i ≤ length s
  pub small : h < 4294967296
  pub rest : hash_from start s ≡ hash_from h (drop i s)

module _ (start : ℕ) (s : List ℕ) {h i : ℕ} (w : Hashed start s h i) where
  pub hashed_more : {b : ℕ} → i < length s → b ≡ get_or s i 0 → Hashed start s ((h * 33 + b) % 4294967296) (i + 1)
  unfolding hash_from
  hashed_more l e = record { inside = omega arith; small = omega arith; rest = w.rest ∙ rw (rest_at s i l, ← e) }

  pub hashed_end : length s ≤ i → Hashes start s h
  unfolding hash_from
  hashed_end l = record { is = sym (w.rest ∙ rw (rest_end s i l)); small = w.small }
