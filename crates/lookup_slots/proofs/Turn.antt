-- A text in pieces, each of which ends where whole words are left: its hash, and whether its bytes are 5 or more. Assumes nothing.
use Prim.Native.Nat.{ℕ, ◌+◌, ◌-◌, ◌*◌, ◌%◌, ◌^◌, ◌<◌, ◌≤◌}
use mathlib.Core.Path.{◌≡◌, refl, sym, ◌∙◌}
use mathlib.Core.Bool.{Bool}
use mathlib.Core.List.{List, []}
use native.Mathlib.Omega.{arith}
use native.Mathlib.Nat.{add-zero, mod-mod}
use lib.ListN.{length, get_or, drop, length-drop}
use lib.Seq.{get_or-drop, drop-drop}
use lib.Dec.{leb}
use borrow.Author.Tests.{leb-true, leb-false}
use Rattle.text.specs.Bytes.{within, all}
use Rattle.text.proofs.Walk.{rest_end}
use Rattle.text.proofs.Tests.{never, by_test, and_left}
use Rattle.text.proofs.Bounds.{inside}
use Rattle.text.proofs.All.{all_each, all_at}
use Rattle.lookup_slots.specs.Hash.{hash_from}
use Rattle.lookup_slots.specs.Promise.{Hashes}
use Rattle.lookup_slots.specs.Private.{word_at, Polys, Plain, Above, Lowers, IsPlain}
use Rattle.lookup_slots.specs.declared.Least.{Least}
use Rattle.lookup_slots.proofs.Raw.{raw, hash_raw}
use Rattle.lookup_slots.proofs.Cut.{first_taken}

-- the bytes before a place, and those from one that is not after it on
plain_more : (s : List ℕ) (i k n : ℕ) → Plain s 0 i → Plain s i k → n ≤ k → Plain s 0 n
plain_more s i k n p q h j a l = by_test _ (leb i j) (λ e. q j (leb-true i j e) (omega arith)) (λ e. p j a (leb-false i j e))

-- the first bytes up to `at` are taken; x is the word there, which the least bytes count in, and of which the first `size` bytes come next, up to i
pub record Turn (start : ℕ) (s : List ℕ) (h i factor cut x : ℕ) (least : Least) : Type 0 where
  pub at : ℕ
  pub size : ℕ
  pub ends : i ≡ at + size
  pub some : 0 < size
  pub few : size ≤ 8
  pub whole : at + 8 ≤ length s
  pub inside : i ≤ length s
  pub words : (length s - i) % 8 ≡ 0
  pub zeros : cut ≡ (8 - size) * 8
  pub power : factor ≡ (33 ^ size) % 4294967296
  pub word : x ≡ word_at s at
  pub small : h < 4294967296
  pub rest : hash_from start s ≡ raw h (drop at s) % 4294967296
  pub told : Above least → Plain s 0 (at + 8)
  pub kept : Plain s 0 (length s) → Above least

pub first_turn : {start : ℕ} {s : List ℕ} {i factor cut x : ℕ} {none least : Least} → start < 4294967296 → 8 ≤ length s → i ≡ (length s - 1) % 8 + 1
    → factor ≡ (33 ^ i) % 4294967296 → cut ≡ 64 - 8 * i → x ≡ word_at s 0 → Above none → Lowers none s 0 least → Turn start s start i factor cut x least
first_turn {start} {s} {i} l h e p c w u v = record {
  at = 0;
  size = i;
  ends = omega arith;
  some = omega arith;
  few = omega arith;
  whole = omega arith;
  inside = omega arith;
  words = omega arith;
  zeros = omega arith;
  power = p;
  word = w;
  small = l;
  rest = hash_raw start s l;
  told = v.told;
  kept = λ f. v.kept u (λ j a b. f j a (omega arith));
}

word_drop : (s : List ℕ) (i : ℕ) → word_at (drop i s) 0 ≡ word_at s i
word_drop s i = simp (get_or-drop, add-zero)

module _ {start : ℕ} {s : List ℕ} {h i factor cut x y q : ℕ} {least : Least} (t : Turn start s h i factor cut x least) (bytes : (j : ℕ) → get_or s j 0 < 256)
    (y-is : y ≡ (x * 2 ^ cut) % 18446744073709551616) (p : Polys y q) where
  taken : hash_from start s ≡ raw (((h * factor) % 4294967296 + q) % 4294967296) (drop i s) % 4294967296
  taken =
      let e : y ≡ (word_at (drop t.at s) 0 * 2 ^ ((8 - t.size) * 8)) % 18446744073709551616 = y-is ∙ rw (t.zeros, t.word, word_drop s t.at) in
      t.rest
      ∙ first_taken (drop t.at s) (λ j. rw get_or-drop (bytes (t.at + j))) t.few h (few_left t.at t.size t.few t.whole) t.power e p
      ∙ rw (drop-drop, t.ends)
    where
      few_left : (a m : ℕ) → m ≤ 8 → a + 8 ≤ length s → m ≤ length (drop a s)
      few_left a m l w = omega (arith, length-drop a s)

  pub next_turn : {z : ℕ} {r : Least} → i < length s → z ≡ word_at s i → Lowers least s i r
      → Turn start s (((h * factor) % 4294967296 + q) % 4294967296) (i + 8) 1954312449 0 z r
  next_turn l w v = record {
    at = i;
    size = 8;
    ends = refl;
    some = omega arith;
    few = omega arith;
    whole = omega (arith, t.words);
    inside = omega (arith, t.words);
    words = omega (arith, t.words);
    zeros = refl;
    power = refl;
    word = w;
    small = omega arith;
    rest = taken;
    told = λ u. plain_more s i (i + 8) (i + 8) (λ j a b. t.told (v.before u) j a (omega (arith, t.ends, t.few))) (v.told u) (omega arith);
    kept = λ f. v.kept (t.kept f) (λ j a b. f j (omega arith) (omega (arith, t.words)));
  }

  module _ (end : length s ≤ i) where
    pub turned_hash : Hashes start s (((h * factor) % 4294967296 + q) % 4294967296)
    unfolding raw
    turned_hash =
        let z : drop i s ≡ [] = rest_end s i end in
        record { is = sym (taken ∙ rw z (mod-mod ((h * factor) % 4294967296 + q) 4294967296)); small = omega arith }

    pub turned_plain : {b : Bool} → IsPlain least b → b ≡ all (within (5, 255)) s
    turned_plain {b} v =
        by_test _ b
        (λ e.
        e ∙ sym (all_each (within (5, 255)) s (λ j l. inside 5 255 (get_or s j 0) (seen (v.told e) j l) (below (bytes j)))))
        (λ e.
        by_test _ (all (within (5, 255)) s)
        (λ a. absurd (never (sym e ∙ v.kept (t.kept (λ j m l. leb-true 5 (get_or s j 0) (and_left _ _ (all_at (within (5, 255)) s a j l)))))))
        (λ a. e ∙ sym a))
      where
        seen : Above least → (j : ℕ) → j < length s → 5 ≤ get_or s j 0
        seen u j l = t.told u j (omega arith) (omega (arith, t.ends, t.few))

        below : {b : ℕ} → b < 256 → b ≤ 255
        below l = omega arith
