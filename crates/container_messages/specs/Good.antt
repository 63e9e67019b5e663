-- What loading accepts of an entry, as facts without order. SPEC 3.4 and 3.5. proofs/Accepts.antt ties it to `read_at`.
use Rattle.std.specs.Prelude.{ℕ, ◌≡◌, true, List, [], Some}
use Rattle.text.specs.Cut.{every}
use Rattle.text_utf8.specs.Utf8.{utf8}
use Rattle.container_layout.specs.Mo.{string, original, context, id, ended, segments}
use Rattle.container_layout.specs.declared.Tables.{Tables}

-- entry i: both strings lie in the file, the context, the id and every segment are UTF-8, a NUL ends the id, and it is empty in
-- entry 0 alone
pub record Good (s : List ℕ) (t : Tables) (i : ℕ) : Type 0 where
  pub at : ℕ
  pub len : ℕ
  pub original_lies : string t.big s t.originals i ≡ Some (record { start = at; len = len })
  pub context_right : utf8 (context (original s at len)) ≡ true
  pub id_ends : ended (original s at len) ≡ true
  pub id_right : utf8 (id (original s at len)) ≡ true
  pub named : id (original s at len) ≡ [] → i ≡ 0
  pub start : ℕ
  pub size : ℕ
  pub translation_lies : string t.big s t.translations i ≡ Some (record { start = start; len = size })
  pub segments_right : every utf8 (segments s start size) ≡ true
