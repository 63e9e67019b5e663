-- What a reader leaves: a tree with nothing folded, each n, integer and operator a node. The arrays hold it, and it passes the test, as a
-- packed tree does.
use mathlib.Core.Path.{◌≡◌, refl, ◌∙◌}
use mathlib.Core.Bool.{true, or-true}
use Prim.Native.Nat.{ℕ, ◌+◌, ◌-◌, ◌<◌, ◌≤◌}
use native.Mathlib.Omega.{arith}
use borrow.Author.Tests.{lt-ltb, le-leb}
use Rattle.rules.specs.Tree.{Tree, var, int, nay, bin, cond}
use Rattle.rules.specs.Operator.{op_code}
use Rattle.rules.specs.Pool.{Pool, tree_of, nay_node, pair_op, choice_node}
use Rattle.rules.specs.Promise.{plain, Plain}
use Rattle.rules.specs.Store.{size, store, blank}
use Rattle.rules.specs.Pack.{Packed, leaf, one, two, three, unpack, nodes, keep}
use Rattle.rules.proofs.Operators.{code_in}
use Rattle.rules.proofs.Trees.{sound}
use Rattle.rules.proofs.Packs.{Fits, is_two}
use Rattle.rules.proofs.Stored.{nodes_pos, Codes, kept_codes, kept_tree, kept_is_tree}

unfoldable spread : Tree → Packed
spread var = leaf 0 0 0
spread (int v) = leaf 1 0 v
spread (nay t) = one nay_node 0 0 (spread t)
spread (bin op s t) = two (pair_op + op_code op) 0 (spread s) (spread t)
spread (cond s t u) = three (spread s) (spread t) (spread u)

same : (t : Tree) → unpack (spread t) ≡ t
unfolding spread unpack
same var = refl
same (int v) = refl
same (nay t) = rw (same t)
same (bin op s t) = rw (same s, same t) (is_two op 0 s t)
same (cond s t u) = rw (same s, same t, same u)

fits : (t : Tree) → Fits (spread t)
unfolding spread
fits var = omega arith
fits (int v) = omega arith
fits (nay t) = (omega arith, omega arith, fits t)
fits (bin op s t) = let h = code_in op in (omega arith, omega arith, fits s, fits t)
fits (cond s t u) = (fits s, fits t, fits u)

as_many : (t : Tree) → nodes (spread t) ≡ size t
unfolding spread nodes size
as_many var = refl
as_many (int v) = refl
as_many (nay t) = rw (as_many t)
as_many (bin op s t) = rw (as_many s, as_many t)
as_many (cond s t u) = rw (as_many s, as_many t, as_many u)

pub size_pos : (t : Tree) → 0 < size t
size_pos t = omega (arith, as_many t, nodes_pos (spread t))

as_kept : (t : Tree) (k : ℕ) (P : Pool) → keep (spread t) k P ≡ store t k P
unfolding spread keep store
as_kept var k P = refl
as_kept (int v) k P = refl
as_kept (nay t) k P = rw (as_many t, as_kept t k P)
as_kept (bin op s t) k P = rw (as_many s, as_many t, as_kept s k P, as_kept t (k + size s) (store s k P))
as_kept (cond s t u) k P =
    rw (
      as_many s,
      as_many t,
      as_many u,
      as_kept s k P,
      as_kept t (k + size s) (store s k P),
      as_kept u (k + size s + size t) (store t (k + size s) (store s k P)),
    )

-- the codes are a reader's
reader_op : (c : ℕ) → pair_op ≤ c → c < choice_node → plain c ≡ true
reader_op c h l = rw (plain, le-leb pair_op c h, lt-ltb c choice_node l, or-true, or-true, or-true)

written : (t : Tree) → Codes (λ c. plain c ≡ true) (spread t)
unfolding spread
written var = refl
written (int v) = refl
written (nay t) = (refl, written t)
written (bin op s t) = let h = code_in op in (reader_op (pair_op + op_code op) (omega arith) (omega arith), written s, written t)
written (cond s t u) = (refl, written s, written t, written u)

-- a tree of at most 512 nodes, as a reader puts it from place 0 on: it is held, and can be packed
module _ (t : Tree) (few : size t ≤ 512) where
  pub stored_tree : tree_of (store t 0 blank) (size t - 1) ≡ t
  stored_tree = rw (← as_kept t 0 blank, ← as_many t) (kept_tree _ (spread t) (fits t) (written t) (rw (as_many t) few) ∙ same t)

  pub stored_plain : Plain (store t 0 blank) (size t - 1)
  stored_plain =
      rw (← as_kept t 0 blank, ← as_many t) record {
        sound = sound (keep (spread t) 0 blank) (nodes (spread t)) (nodes (spread t) - 1) (kept_is_tree _ (spread t) (fits t) (written t) (rw (as_many t) few));
        codes = λ q h. kept_codes (λ c. plain c ≡ true) (spread t) (fits t) (written t) (rw (as_many t) few) q (omega (arith, nodes_pos (spread t)));
      }
