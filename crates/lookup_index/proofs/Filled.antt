-- Slots cleared and filled, as the code meets them. Assumes nothing.
use Prim.Native.Nat.{ℕ, suc, ◌+◌, ◌<◌, ◌≤◌}
use mathlib.Core.Path.{◌≡◌, refl, sym, ap, ◌∙◌}
use mathlib.Core.List.{List}
use Rattle.std.specs.Prelude.{Option, Some}
use native.Mathlib.Omega.{arith}
use native.Mathlib.Numerals.{add-one}
use lib.ListN.{length, set, length-replicate}
use lib.Seq.{set_out}
use Rattle.container_layout.specs.declared.Tables.{Tables}
use Rattle.lookup_slots.specs.Slots.{place, insert, zeros, built}
use Rattle.lookup_slots.proofs.Built.{insert_length}
use Rattle.lookup_index.specs.Index.{key_at}

-- entry i goes in, by its key
module _ (s : List ℕ) (t : Tables) (i : ℕ) (slots : List ℕ) where
  pub put_key : {o : Option (List ℕ)} → key_at s t i ≡ o → insert (key_at s t) i o slots ≡ insert (key_at s t) i (key_at s t i) slots
  put_key e = ap (λ (o : Option (List ℕ)). insert (key_at s t) i o slots) (sym e)

  module _ {key : List ℕ} {p : ℕ} (e : key_at s t i ≡ Some key) (g : p ≡ place (key_at s t) key slots) where
    pub put_at : {v : ℕ} → v ≡ i + 1 → set slots p v ≡ insert (key_at s t) i (key_at s t i) slots
    put_at {v} h = let z : v ≡ suc i = h ∙ add-one i in rw (g, z) (put_key e)

    pub put_full : length slots ≤ p → slots ≡ insert (key_at s t) i (key_at s t i) slots
    put_full h = sym (set_out slots p (i + 1) h) ∙ put_at refl

-- the first i entries went in
pub record Filled (s : List ℕ) (t : Tables) (m : ℕ) (now : List ℕ) (i : ℕ) : Type 0 where
  pub upto : i ≤ t.count
  pub is : now ≡ built (key_at s t) m i
  pub long : length now ≡ m

pub cleared_length : {c : List ℕ} (m : ℕ) → c ≡ zeros m → length c ≡ m
cleared_length m e = ap length e ∙ length-replicate {A = ℕ} m 0

module _ (s : List ℕ) (t : Tables) (m : ℕ) where
  pub filled_first : (c : List ℕ) → c ≡ zeros m → Filled s t (length c) c 0
  unfolding built
  filled_first c e = record { upto = omega arith; is = e ∙ ap zeros (sym (cleared_length m e)); long = refl }

  module _ {c : List ℕ} {i : ℕ} (w : Filled s t m c i) where
    pub filled_more : {d : List ℕ} → i < t.count → d ≡ insert (key_at s t) i (key_at s t i) c → Filled s t m d (i + 1)
    unfolding built
    filled_more {d} l e = record {
      upto = omega arith;
      is = e ∙ ap (λ (x : List ℕ). insert (key_at s t) i (key_at s t i) x) w.is ∙ ap (built (key_at s t) m) (sym (add-one i));
      long = ap length e ∙ insert_length (key_at s t) i (key_at s t i) c ∙ w.long;
    }

    pub filled_end : (n : ℕ) → t.count ≤ i → m ≡ n → c ≡ built (key_at s t) n t.count
    filled_end n l e = let z : i ≡ t.count = omega (arith, w.upto) in w.is ∙ ap (built (key_at s t) m) z ∙ ap (λ (x : ℕ). built (key_at s t) x t.count) e
