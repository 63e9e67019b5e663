-- Each public function's promise fixes its result: any two results that it allows on the same input are equal. `Post` is the promise
-- as the check reads it from the source. Assumes nothing.
use mathlib.Core.Path.{sym, ◌∙◌}
use Rattle.promise.proofs.One.{One}
use Rattle.container_messages.proofs.parse_entry.Reads as parse-entry
use Rattle.container_messages.proofs.parse_entry.Kinds as parse-entry-kinds

pub parse_entry_one : One 1 parse-entry-kinds.ps parse-entry-kinds.r parse-entry.Post
parse_entry_one κs a u v x y p q = p ∙ sym q
