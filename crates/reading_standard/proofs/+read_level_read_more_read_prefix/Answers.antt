-- The cycle of the reader meets its contracts: what each function owes, in the order of the code.
use mathlib.Core.Path.{refl, sym}
use native.Mathlib.Omega.{arith}
use borrow.Author.Rules.{rules}
use Rattle.rules.specs.Lent.{pool_left}
use Rattle.reading_tokens.proofs.Nexts.{signed, numbered, marked, got_past, unpassed}
use Rattle.reading_standard.proofs.Levels.{by_prefix, by_bad_below, by_more, climbed, at_level, more_none, more_other, more_byte, more_tight, more_bad, more_more, ask_bad, ask_open, ask_last, ask_ask}
use Rattle.reading_standard.proofs.Prefixes.{prefix_none, prefix_num, prefix_n, not_bad, not_not, prefix_other, bracket_bad, bracket_open, bracket}
use Rattle.reading_standard.proofs.Taken.{gave}
use Rattle.reading_standard.proofs.+read_level_read_more_read_prefix.Goals as goal

-- The facts that `read_level` owes: level 0 is a prefix, and each turn of the loop is the next looser level, one law of Levels.antt for each.
pub read_level-returns-in_err-m-clause-read : goal.read_level-returns-in_err-m-clause-read
read_level-returns-in_err-m-clause-read t c = rw c.from_residual.ensures (by_bad_below (omega arith) (by_prefix refl c.in_err-m.ensures.read))

pub read_level-read_more-requires : goal.read_level-read_more-requires
read_level-read_more-requires t c = let a = gave (c.loop-j.invariant.read.goes (pool_left c.args.lent.now) (by_prefix refl c.in_ok-m.ensures.read)) in
    omega (arith, c.requires, a.0, a.1, a.2)

pub read_level-returns-in_err-m-2-clause-read : goal.read_level-returns-in_err-m-2-clause-read
read_level-returns-in_err-m-2-clause-read t c = rw c.from_residual-in_err-m-2.ensures (by_bad_below (omega arith)
    (by_more refl (c.loop-j.invariant.read.goes (pool_left c.args.lent.now) (by_prefix refl c.in_ok-m.ensures.read)) c.in_err-m-2.ensures.read))

pub read_level-loop-j-preserved : goal.read_level-loop-j-preserved
read_level-loop-j-preserved t c = record { lent = search rules; read = climbed c.loop-j.invariant.read c.in_ok-m-2.ensures.read }

pub read_level-returns-clause-read : goal.read_level-returns-clause-read
read_level-returns-clause-read t c = at_level (omega arith) (c.loop-j.invariant.read.goes (pool_left c.args.lent.now) (by_prefix refl c.in_ok-m.ensures.read))

-- The facts that `read_more` owes: by the token that stands next, one law of Levels.antt for each return; places and positions by omega.
pub read_more-rank_of-requires : goal.read_more-rank_of-requires
read_more-rank_of-requires t c = (signed _ _ c.in-Sign.ensures).known

pub read_more-read_level-requires : goal.read_more-read_level-requires
read_more-read_level-requires t c = let a = (signed _ _ c.in-Sign.ensures).step in
    omega (arith, c.requires, a.further, a.within)

pub read_more-returns-in_err-w-in-Sign-clause-read : goal.read_more-returns-in_err-w-in-Sign-clause-read
read_more-returns-in_err-w-in-Sign-clause-read t c = let a = signed _ _ c.in-Sign.ensures in
    rw c.from_residual.ensures (more_bad a.step (omega (arith, c.rank_of.ensures.is a.known.op a.known.is, c.if-rank_of-j.true)) c.in_err-w-in-Sign.ensures.read)

pub read_more-put-requires : goal.read_more-put-requires
read_more-put-requires t c = let a = (signed _ _ c.in-Sign.ensures).step in
    let b = gave c.in_ok-w-in-Sign.ensures.read in
    omega (arith, c.requires, a.further, a.within, b.0, b.1, b.2)

pub read_more-read_more-requires : goal.read_more-read_more-requires
read_more-read_more-requires t c = let a = (signed _ _ c.in-Sign.ensures).step in
    let b = gave c.in_ok-w-in-Sign.ensures.read in
    omega (arith, c.requires, a.further, a.within, b.0, b.1, b.2)

pub read_more-returns-in_ok-w-in-Sign-clause-read : goal.read_more-returns-in_ok-w-in-Sign-clause-read
read_more-returns-in_ok-w-in-Sign-clause-read t c = let a = signed _ _ c.in-Sign.ensures in
    more_more a.step (omega (arith, c.rank_of.ensures.is a.known.op a.known.is, c.if-rank_of-j.true)) (sym a.known.is) c.in_ok-w-in-Sign.ensures.read refl c.put.ensures.put c.read_more.ensures.read

pub read_more-read_level-requires-in-Mark-eq63-default : goal.read_more-read_level-requires-in-Mark-eq63-default
read_more-read_level-requires-in-Mark-eq63-default t c = let a = marked _ _ c.in-Mark-eq63-default.ensures in
    omega (arith, c.requires, a.further, a.within)

pub read_more-returns-in_err-v-in-Mark-eq63-default-clause-read : goal.read_more-returns-in_err-v-in-Mark-eq63-default-clause-read
read_more-returns-in_err-v-in-Mark-eq63-default-clause-read t c = rw c.from_residual-in_err-v-in-Mark-eq63-default.ensures
    (ask_bad (marked _ _ c.in-Mark-eq63-default.ensures) c.in-Mark-eq63-default.field-0-test c.if-j-eq-LOOSEST.true c.in_err-v-in-Mark-eq63-default.ensures.read)

pub read_more-returns-in_err-p-in-Mark-eq63-default-clause-read : goal.read_more-returns-in_err-p-in-Mark-eq63-default-clause-read
read_more-returns-in_err-p-in-Mark-eq63-default-clause-read t c = rw c.from_residual-in_err-p-in-Mark-eq63-default.ensures
    (ask_open (marked _ _ c.in-Mark-eq63-default.ensures) c.in-Mark-eq63-default.field-0-test c.if-j-eq-LOOSEST.true c.in_ok-v-in-Mark-eq63-default.ensures.read (unpassed _ _ _ c.in_err-p-in-Mark-eq63-default.ensures))

pub read_more-read_level-requires-in-Mark-eq63-default-2 : goal.read_more-read_level-requires-in-Mark-eq63-default-2
read_more-read_level-requires-in-Mark-eq63-default-2 t c = let a = marked _ _ c.in-Mark-eq63-default.ensures in
    let b = gave c.in_ok-v-in-Mark-eq63-default.ensures.read in
    let d = got_past _ _ _ c.in_ok-p-in-Mark-eq63-default.ensures in
    omega (arith, c.requires, a.further, a.within, b.0, b.1, b.2, d.further, d.within)

pub read_more-returns-in_err-w-in-Mark-eq63-default-clause-read : goal.read_more-returns-in_err-w-in-Mark-eq63-default-clause-read
read_more-returns-in_err-w-in-Mark-eq63-default-clause-read t c = rw c.from_residual-in_err-w-in-Mark-eq63-default.ensures
    (ask_last (marked _ _ c.in-Mark-eq63-default.ensures) c.in-Mark-eq63-default.field-0-test c.if-j-eq-LOOSEST.true c.in_ok-v-in-Mark-eq63-default.ensures.read (got_past _ _ _ c.in_ok-p-in-Mark-eq63-default.ensures) c.in_err-w-in-Mark-eq63-default.ensures.read)

pub read_more-overflow_cast-first : goal.read_more-overflow_cast-first
read_more-overflow_cast-first t c = let a = marked _ _ c.in-Mark-eq63-default.ensures in
    let b = gave c.in_ok-v-in-Mark-eq63-default.ensures.read in
    let d = got_past _ _ _ c.in_ok-p-in-Mark-eq63-default.ensures in
    let e = gave c.in_ok-w-in-Mark-eq63-default.ensures.read in
    omega (arith, c.requires, a.further, a.within, b.0, b.1, b.2, d.further, d.within, e.0, e.1, e.2)

pub read_more-put-requires-in-Mark-eq63-default : goal.read_more-put-requires-in-Mark-eq63-default
read_more-put-requires-in-Mark-eq63-default t c = let a = marked _ _ c.in-Mark-eq63-default.ensures in
    let b = gave c.in_ok-v-in-Mark-eq63-default.ensures.read in
    let d = got_past _ _ _ c.in_ok-p-in-Mark-eq63-default.ensures in
    let e = gave c.in_ok-w-in-Mark-eq63-default.ensures.read in
    omega (arith, c.requires, a.further, a.within, b.0, b.1, b.2, d.further, d.within, e.0, e.1, e.2)

pub read_more-overflow_add-result : goal.read_more-overflow_add-result
read_more-overflow_add-result t c = let a = marked _ _ c.in-Mark-eq63-default.ensures in
    let b = gave c.in_ok-v-in-Mark-eq63-default.ensures.read in
    let d = got_past _ _ _ c.in_ok-p-in-Mark-eq63-default.ensures in
    let e = gave c.in_ok-w-in-Mark-eq63-default.ensures.read in
    omega (arith, c.requires, a.further, a.within, b.0, b.1, b.2, d.further, d.within, e.0, e.1, e.2)

pub read_more-returns-in_ok-w-in-Mark-eq63-default-clause-read : goal.read_more-returns-in_ok-w-in-Mark-eq63-default-clause-read
read_more-returns-in_ok-w-in-Mark-eq63-default-clause-read t c = ask_ask (marked _ _ c.in-Mark-eq63-default.ensures) c.in-Mark-eq63-default.field-0-test c.if-j-eq-LOOSEST.true c.in_ok-v-in-Mark-eq63-default.ensures.read (got_past _ _ _ c.in_ok-p-in-Mark-eq63-default.ensures)
    c.in_ok-w-in-Mark-eq63-default.ensures.read refl refl c.put-in-Mark-eq63-default.ensures.put

pub read_more-returns-in_default-clause-read : goal.read_more-returns-in_default-clause-read
read_more-returns-in_default-clause-read t c = let a = signed _ _ c.in-Sign.ensures in
    more_other c.requires.2.left a.step (λ z. c.if-rank_of-j.false (omega (arith, c.rank_of.ensures.is a.known.op a.known.is, z)))

pub read_more-returns-in_default-2-clause-read : goal.read_more-returns-in_default-2-clause-read
read_more-returns-in_default-2-clause-read t c = more_tight c.requires.2.left (marked _ _ c.in-Mark-eq63-default.ensures) c.if-j-eq-LOOSEST.false

pub read_more-returns-in_default-3-clause-read : goal.read_more-returns-in_default-3-clause-read
read_more-returns-in_default-3-clause-read t c = more_byte c.requires.2.left (marked _ _ c.in_default.ensures) c.in_default.field-0-test.1

pub read_more-returns-in_default-4-clause-read : goal.read_more-returns-in_default-4-clause-read
read_more-returns-in_default-4-clause-read t c = more_none c.token_at.result c.token_at.ensures (λ b e h. search rules) (λ b e h. search rules) c.requires.2.left

-- The facts that `read_prefix` owes: by the token that stands next, one law of Prefixes.antt for each return; places and positions by omega.
pub read_prefix-put-requires : goal.read_prefix-put-requires
read_prefix-put-requires t c = let a = marked _ _ c.in-Mark-eq110-default.ensures in
    omega (arith, c.requires, a.further, a.within)

pub read_prefix-read_level-requires : goal.read_prefix-read_level-requires
read_prefix-read_level-requires t c = let a = marked _ _ c.in-Mark-eq33-default.ensures in
    omega (arith, c.requires, a.further, a.within)

pub read_prefix-returns-in_err-m-in-Mark-eq33-default-clause-read : goal.read_prefix-returns-in_err-m-in-Mark-eq33-default-clause-read
read_prefix-returns-in_err-m-in-Mark-eq33-default-clause-read t c = rw c.from_residual.ensures (not_bad (marked _ _ c.in-Mark-eq33-default.ensures) c.in-Mark-eq33-default.field-0-test c.in_err-m-in-Mark-eq33-default.ensures.read)

pub read_prefix-put-requires-in-Mark-eq33-default : goal.read_prefix-put-requires-in-Mark-eq33-default
read_prefix-put-requires-in-Mark-eq33-default t c = let a = marked _ _ c.in-Mark-eq33-default.ensures in
    let b = gave c.in_ok-m-in-Mark-eq33-default.ensures.read in
    omega (arith, c.requires, a.further, a.within, b.0, b.1, b.2)

pub read_prefix-read_level-requires-in-Mark-eq40-default : goal.read_prefix-read_level-requires-in-Mark-eq40-default
read_prefix-read_level-requires-in-Mark-eq40-default t c = let a = marked _ _ c.in-Mark-eq40-default.ensures in
    omega (arith, c.requires, a.further, a.within)

pub read_prefix-returns-in_err-m-in-Mark-eq40-default-clause-read : goal.read_prefix-returns-in_err-m-in-Mark-eq40-default-clause-read
read_prefix-returns-in_err-m-in-Mark-eq40-default-clause-read t c = rw c.from_residual-in_err-m-in-Mark-eq40-default.ensures (bracket_bad (marked _ _ c.in-Mark-eq40-default.ensures) c.in-Mark-eq40-default.field-0-test c.in_err-m-in-Mark-eq40-default.ensures.read)

pub read_prefix-returns-in_err-p-in-Mark-eq40-default-clause-read : goal.read_prefix-returns-in_err-p-in-Mark-eq40-default-clause-read
read_prefix-returns-in_err-p-in-Mark-eq40-default-clause-read t c = rw c.from_residual-in_err-p-in-Mark-eq40-default.ensures
    (bracket_open (marked _ _ c.in-Mark-eq40-default.ensures) c.in-Mark-eq40-default.field-0-test c.in_ok-m-in-Mark-eq40-default.ensures.read (unpassed _ _ _ c.in_err-p-in-Mark-eq40-default.ensures))

pub read_prefix-put-requires-in-Number : goal.read_prefix-put-requires-in-Number
read_prefix-put-requires-in-Number t c = let a = (numbered _ _ c.in-Number.ensures).step in
    omega (arith, c.requires, a.further, a.within)

pub read_prefix-returns-in-Mark-eq110-default-clause-read : goal.read_prefix-returns-in-Mark-eq110-default-clause-read
read_prefix-returns-in-Mark-eq110-default-clause-read t c = prefix_n (marked _ _ c.in-Mark-eq110-default.ensures) c.in-Mark-eq110-default.field-0-test c.put.ensures.put

pub read_prefix-returns-in_ok-m-in-Mark-eq33-default-clause-read : goal.read_prefix-returns-in_ok-m-in-Mark-eq33-default-clause-read
read_prefix-returns-in_ok-m-in-Mark-eq33-default-clause-read t c = not_not (marked _ _ c.in-Mark-eq33-default.ensures) c.in-Mark-eq33-default.field-0-test c.in_ok-m-in-Mark-eq33-default.ensures.read c.put-in-Mark-eq33-default.ensures.put

pub read_prefix-returns-in_ok-p-in-Mark-eq40-default-clause-read : goal.read_prefix-returns-in_ok-p-in-Mark-eq40-default-clause-read
read_prefix-returns-in_ok-p-in-Mark-eq40-default-clause-read t c = bracket (marked _ _ c.in-Mark-eq40-default.ensures) c.in-Mark-eq40-default.field-0-test c.in_ok-m-in-Mark-eq40-default.ensures.read (got_past _ _ _ c.in_ok-p-in-Mark-eq40-default.ensures)

pub read_prefix-returns-in-Number-clause-read : goal.read_prefix-returns-in-Number-clause-read
read_prefix-returns-in-Number-clause-read t c = let n = numbered _ _ c.in-Number.ensures in
    prefix_num n.step n.small c.put-in-Number.ensures.put

pub read_prefix-returns-in_default-clause-read : goal.read_prefix-returns-in_default-clause-read
read_prefix-returns-in_default-clause-read t c = prefix_other (marked _ _ c.in_default.ensures) c.in_default.field-0-test.0.0.1 c.in_default.field-0-test.0.1 c.in_default.field-0-test.1

pub read_prefix-returns-in_default-2-clause-read : goal.read_prefix-returns-in_default-2-clause-read
read_prefix-returns-in_default-2-clause-read t c = prefix_none c.token_at.result c.token_at.ensures c.in_default.not-Number (λ b e h. search rules)
