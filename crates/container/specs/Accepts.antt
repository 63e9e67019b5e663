-- What a load accepts, as facts about the file, without order. SPEC 3. proofs/Exactly.antt shows that `load`
-- accepts a file exactly if these hold, with these tables and this rule (`accepted_exactly`).
use Rattle.std.specs.Prelude.{ℕ, ◌<◌, ◌≤◌, ◌≡◌, true, false, ◌||◌, List, [], length, take, drop, Option, Some, None, Ok, Err}
use Rattle.refusal.specs.Places.{at, in_rule}
use Rattle.refusal.specs.declared.Error.{Error}
use Rattle.refusal.specs.declared.Error.TheVariants.{NotFit}
use Rattle.refusal.specs.declared.Refusal.{Refusal}
use Rattle.refusal.specs.declared.Where.TheVariants as place_of
use Rattle.rules.specs.Tree.{Tree, default_tree}
use Rattle.rules.specs.Range.{rate_tree}
use Rattle.reading_rule.specs.Plurals.{rule, norule, parsed}
use Rattle.text.specs.declared.Stretch.{Stretch}
use Rattle.header.specs.Header.{metadata}
use Rattle.container_layout.specs.Mo.{original, id, segments}
use Rattle.container_layout.specs.declared.Tables.{Tables}
use Rattle.container_messages.specs.Good.{Good}
use Rattle.container_messages.specs.Messages.{read_at}
use Rattle.container_head.specs.Head.{order_of, tables, head_of}
use Rattle.container_rule.specs.Rule.{forced_rule, label_ok, segment0}
use Rattle.container.specs.Catalog.{entry_step, entries_from}
use Rattle.container.specs.declared.Options.{Options}

-- 2 and 3. the head: at least 28 bytes, the magic in one byte order, the words at 8, 12 and 16, and both table offsets within the size
pub record Headed (s : List ℕ) (t : Tables) : Type 0 where
  pub long : 28 ≤ length s
  pub order : order_of s ≡ Some t.big
  pub words : t ≡ tables s t.big
  pub originals_in : t.originals ≤ length s
  pub translations_in : t.translations ≤ length s

-- 6. h is the header: the id of entry 0 is empty, and h is segment 0 of its translation
pub record IsHeader (s : List ℕ) (t : Tables) (h : List ℕ) : Type 0 where
  pub some : 0 < t.count
  pub good : Good s t 0
  pub empty : id (original s good.at good.len) ≡ []
  pub is : h ≡ segment0 (segments s good.start good.size)

-- every line of a header is empty or has a colon, its label is UTF-8's or absent or passed over, and p is where its rule lies, or none
pub record Fine (o : Options) (h : List ℕ) (p : Option Stretch) : Type 0 where
  pub label : Option Stretch
  pub forms : Option ℕ
  pub fields : metadata h ≡ Some (record { charset = label; rule = p; forms = forms })
  pub known : (o.utf8 || label_ok h label) ≡ true

-- 1 and 6. which rule counts: the forced one, else the header's, else the default
pub data Counts (o : Options) (f s : List ℕ) (t : Tables) (r : Tree) : Type 0 where
  forced : o.forced ≡ true → parsed place_of.Forced o.reading f ≡ rule r → Counts o f s t r
  given : o.forced ≡ false → {h : List ℕ} {p : Stretch} → IsHeader s t h → Fine o h (Some p) → parsed in_rule o.reading (take p.len (drop p.start h)) ≡ rule r → Counts o f s t r
  absent : o.forced ≡ false → {h : List ℕ} → IsHeader s t h → Fine o h None → r ≡ default_tree → Counts o f s t r
  headless : o.forced ≡ false → ((h : List ℕ) → IsHeader s t h → ⊥) → r ≡ default_tree → Counts o f s t r

pub record SomeFine (o : Options) (h : List ℕ) : Type 0 where
  pub place : Option Stretch
  pub fine : Fine o h place

-- the count of forms is the header's, whatever rule counts; without a header there is none
pub data Carries (s : List ℕ) (t : Tables) (n : Option ℕ) : Type 0 where
  by_header : {h : List ℕ} {label p : Option Stretch} → IsHeader s t h → metadata h ≡ Some (record { charset = label; rule = p; forms = n }) → Carries s t n
  no_header : ((h : List ℕ) → IsHeader s t h → ⊥) → n ≡ None → Carries s t n

-- every test but the last
pub record Sound (o : Options) (f s : List ℕ) (t : Tables) (r : Tree) (n : Option ℕ) : Type 0 where
  pub headed : Headed s t
  pub entries : (i : ℕ) → i < t.count → Good s t i
  pub header : (h : List ℕ) → IsHeader s t h → SomeFine o h
  pub counts : Counts o f s t r
  pub carries : Carries s t n

-- 7. the count is given, and the rule has a range whose highest is below it
pub record Fits (r : Tree) (n : Option ℕ) : Type 0 where
  pub count : ℕ
  pub given : n ≡ Some count
  pub lowest : ℕ
  pub highest : ℕ
  pub rated : rate_tree r ≡ Some (lowest, highest)
  pub below : highest < count

pub record Accepts (o : Options) (f s : List ℕ) (t : Tables) (r : Tree) (n : Option ℕ) : Type 0 where
  pub sound : Sound o f s t r n
  pub fitting : o.fit ≡ true → Fits r n

-- What a load is refused for: the forced rule, else the head, else the lowest entry of which a test fails, after all below it passed; of its
-- tests the first that fails, with the place of that test; and last, with everything else sound, that the rule does not fit (`refused_exactly`).
pub data Fails (o : Options) (f s : List ℕ) (e : Refusal) : Type 0 where
  by_forced : forced_rule o.forced o.reading f ≡ norule e → Fails o f s e
  by_head : {w : Tree} {x : Error} → forced_rule o.forced o.reading f ≡ rule w → head_of s ≡ Err x → e ≡ at place_of.File x → Fails o f s e
  by_entry : {w u : Tree} {t : Tables} {i : ℕ} → forced_rule o.forced o.reading f ≡ rule w → head_of s ≡ Ok t → i < t.count
      → entries_from o s t i 0 w ≡ rule u → entry_step o s u (read_at s t i) ≡ norule e → Fails o f s e
  by_fit : {t : Tables} {r : Tree} {n : Option ℕ} → Sound o f s t r n → o.fit ≡ true → (Fits r n → ⊥) → e ≡ at place_of.File NotFit → Fails o f s e
