-- A lookup by a rated rule, of any record: the heart of demand 3. Assumes nothing.
use Prim.Native.Nat.{ℕ, ◌+◌, ◌^◌, ◌<◌, ◌≤◌}
use mathlib.Core.Path.{◌≡◌, refl, sym, ap, ◌∙◌}
use mathlib.Core.List.{List, []}
use native.Mathlib.Omega.{arith}
use lib.ListN.{length, get_or, take, drop}
use Rattle.rules.specs.Pool.{Pool}
use Rattle.rules.specs.Answer.{resolved_of, rated_of}
use Rattle.rules.specs.declared.NoForm.{NoForm}
use Rattle.rules.proofs.Forms.{rated_forms}
use Rattle.container_layout.specs.Mo.{segment, segments}
use Rattle.container_layout.specs.declared.Tables.{Tables}
use Rattle.container_layout.proofs.Forms.{segment_holds, segment_is}
use Rattle.lookup_scan.specs.Keys.{last_with}
use Rattle.lookup_scan.specs.declared.Hit.{Hit}
use Rattle.std.specs.Prelude.{Option, Some, Result, Ok}
use Rattle.lookup_scan.proofs.Entries.{translation_inside}
use Rattle.lookup_scan.proofs.Last.{Sound, last_sound}
use Rattle.lookup.specs.Lookup.{by_entry, by_segment, plural}
use Rattle.lookup.specs.declared.Reason.{Reason}
use Rattle.lookup.specs.declared.Reason.TheVariants.{Answered}
use Rattle.lookup.proofs.Reasons.{by_rule_lem}

-- the rule's value is a form from lo to hi, and the answer is the segment of entry i that this very form names: the file's bytes there are
-- that segment of the entry's translation, which starts at start and is len bytes long
pub record Names (s : List ℕ) (v : Result ℕ NoForm) (i start len lo hi : ℕ) (a : Reason) : Type 0 where
  pub form : ℕ
  pub value : v ≡ Ok form
  pub low : lo ≤ form
  pub high : form ≤ hi
  pub at : ℕ
  pub size : ℕ
  pub is : a ≡ Answered i form at size
  pub text : take size (drop at s) ≡ get_or (segments s start len) form []
  pub inside : at + size ≤ length s

-- A rule rated lo to hi with hi below k, at a count below 2^64: a lookup in a file of the record's length, whose entry with the key, found by
-- a search that finds only such, stores at least k segments, answers the very segment that the rule's form names.
module _ (s : List ℕ) (t : Tables) (P : Pool) (nodes root : ℕ) (key : List ℕ) (lo hi k n : ℕ) {x : Hit}
    (r : rated_of P nodes root ≡ Ok (Some (lo, hi))) (below : hi < k) (b : n < 2 ^ 64) (long : length s ≡ t.length) where
  pub rated_hit : {h : Option Hit} → Sound s t key h → h ≡ Some x → k ≤ length (segments s x.start x.len)
      → Names s (resolved_of P nodes root n) x.entry x.start x.len lo hi (plural s t (resolved_of P nodes root n) h)
  rated_hit {h} w f g =
      let v = rated_forms P nodes root lo hi r n b in
      let l : v.form < length (segments s x.start x.len) = omega (arith, v.high) in
      let e : x.start + x.len ≤ length s = translation_inside s t x.entry (w.told x f).has.entry in
      let q = segment_holds s x.start x.len e v.form l in
      let y : segment s x.start x.len v.form ≡ Some (record { start = q.start; len = q.len }) = segment_is s x.start x.len e v.form ∙ q.is in
      record {
        form = v.form;
        value = v.is;
        low = v.low;
        high = v.high;
        at = q.start;
        size = q.len;
        is = sym (by_rule_lem s t (resolved_of P nodes root n) h long refl v.is (sym (ap (by_entry s v.form) f ∙ ap (by_segment x.entry v.form) y)));
        text = q.text;
        inside = q.inside;
      }

  -- by the scan
  pub rated_lookup : last_with s t key ≡ Some x → k ≤ length (segments s x.start x.len)
      → Names s (resolved_of P nodes root n) x.entry x.start x.len lo hi (plural s t (resolved_of P nodes root n) (last_with s t key))
  rated_lookup f g = rated_hit (last_sound s t key) f g
