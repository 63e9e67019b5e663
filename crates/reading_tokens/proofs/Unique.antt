-- For each public function: its promise allows one result. Slices are lent to read only, so that they are unchanged is in their type.
-- Assumes nothing.
use mathlib.Core.Path.{◌≡◌, sym, ◌∙◌}
use contract.Lifetimes.{Lfts}
use denote.Triple.Clauses.{AtExit}
use borrow.Fn.Kinds.{Dens, res_t, ended_of}
use Rattle.promise.proofs.One.{One}
use Rattle.reading_tokens.proofs.rank_of.Reads as rank-of
use Rattle.reading_tokens.proofs.rank_of.Kinds as rank-of-kinds
use Rattle.reading_tokens.proofs.token_at.Reads as token-at
use Rattle.reading_tokens.proofs.token_at.Kinds as token-at-kinds
use Rattle.reading_tokens.proofs.past.Reads as past
use Rattle.reading_tokens.proofs.past.Kinds as past-kinds

-- the code is an operator's
pub rank_of_one : (κs : Lfts 0) (a : Dens κs rank-of-kinds.ps) (u v : (res_t rank-of-kinds.r κs).Denot)
    (x y : AtExit (ended_of 0 rank-of-kinds.ps rank-of-kinds.r) κs) → rank-of.Pre κs a → rank-of.Post κs a u x → rank-of.Post κs a v y → u ≡ v
rank_of_one κs a u v x y c p q = p.is c.op c.is ∙ sym (q.is c.op c.is)

pub token_at_one : One 1 token-at-kinds.ps token-at-kinds.r token-at.Post
token_at_one κs a u v x y p q = p ∙ sym q

pub past_one : One 1 past-kinds.ps past-kinds.r past.Post
past_one κs a u v x y p q = p ∙ sym q
