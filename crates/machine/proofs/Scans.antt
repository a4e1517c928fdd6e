-- What one scan is at the end of its source and before it.
use Prim.Native.Nat.{ℕ, ◌+◌, ◌<◌}
use native.Mathlib.Omega.{arith}
use mathlib.Core.Path.{◌≡◌, refl, sym}
use mathlib.Core.Bool.{Bool, true, false, cond}
use mathlib.Core.List.{List}
use Rattle.std.specs.Prelude.{Option, None, Some}
use Rattle.std.proofs.lemmas.Option.{none-some}
use borrow.Author.Tests.{leb-false}
use lib.ListN.{length, get_or}
use lib.Dec.{eqb, leb}
use Rattle.language.specs.declared.signs.Sign.{Sign}
use Rattle.language.specs.Signs.{sign_of}
use Rattle.language.specs.Expansion.{lent}
use Rattle.machine.specs.Machine.{Sound, keeping, body_byte, end_text, end_body, with_read, with_offset, scanned, next_byte, passed, end_source, scan_byte, scan_text, scan_body_at, scan_body, step}
use Rattle.machine.specs.Walks.{nowhere, value_length}
use Rattle.machine.specs.declared.run.Run.{Run}

-- a value that is there only where a test fails
failed : (t : Bool) (x : ℕ) {b : ℕ} → Some b ≡ cond t None (Some x) → t ≡ false
failed true x e = absurd (none-some _ (sym e))
failed false x e = refl

-- and one of a body before the end of that
pub inside : (r : Run) (l : List ℕ) {b : ℕ} → Some b ≡ body_byte r l → r.source.offset < value_length l r.source.body
inside r l e = leb-false _ _ (failed _ _ e)

module _ (r : Run) (kinds text h l o : List ℕ) where
  -- at the end of its source a scan is that end
  pub at_end : None ≡ next_byte (scanned r) text l → end_source (scanned r) h (lent l o) ≡ step r kinds text h (lent l o)
  unfolding step
  at_end e = go (eqb r.source.list nowhere) e
    where
      in_text : (t : Bool) → None ≡ cond t None (Some (get_or text r.counts.read 0))
          → keeping h (end_text (scanned r) (lent l o)) ≡ cond t (keeping h (end_text (scanned r) (lent l o))) (scan_byte (with_read (r.counts.read + 1) (scanned r)) (sign_of kinds (get_or text r.counts.read 0)) (get_or text r.counts.read 0) h (lent l o))
      in_text true z = refl
      in_text false z = absurd (none-some _ z)

      in_body : (x : Option ℕ) → None ≡ x → end_body (scanned r) h (lent l o) ≡ scan_body_at (scanned r) kinds x h (lent l o)
      in_body None z = refl
      in_body (Some b) z = absurd (none-some _ z)

      go : (t : Bool) → None ≡ cond t (cond (leb (length text) r.counts.read) None (Some (get_or text r.counts.read 0))) (body_byte (scanned r) l)
          → cond t (keeping h (end_text (scanned r) (lent l o))) (end_body (scanned r) h (lent l o)) ≡ cond t (scan_text (scanned r) kinds text h (lent l o)) (scan_body (scanned r) kinds h (lent l o))
      go true z = in_text (leb (length text) r.counts.read) z
      go false z = in_body (body_byte (scanned r) l) z

  -- before it, that of the byte
  pub before : {b : ℕ} {k : Sign} → Some b ≡ next_byte (scanned r) text l → k ≡ sign_of kinds b
      → scan_byte (passed (scanned r)) k b h (lent l o) ≡ step r kinds text h (lent l o)
  unfolding step
  before {b} {k} e q = go (eqb r.source.list nowhere) e
    where
      in_text : (t : Bool) → Some b ≡ cond t None (Some (get_or text r.counts.read 0))
          → scan_byte (with_read (r.counts.read + 1) (scanned r)) k b h (lent l o)
          ≡ cond t (keeping h (end_text (scanned r) (lent l o))) (scan_byte (with_read (r.counts.read + 1) (scanned r)) (sign_of kinds (get_or text r.counts.read 0)) (get_or text r.counts.read 0) h (lent l o))
      in_text true z = absurd (none-some _ (sym z))
      in_text false z = let is : b ≡ get_or text r.counts.read 0 = cc in rw (q, is)

      in_body : (x : Option ℕ) → Some b ≡ x → scan_byte (with_offset (r.source.offset + 1) (scanned r)) k b h (lent l o) ≡ scan_body_at (scanned r) kinds x h (lent l o)
      in_body None z = absurd (none-some _ (sym z))
      in_body (Some x) z = let is : b ≡ x = cc in rw (q, is)

      go : (t : Bool) → Some b ≡ cond t (cond (leb (length text) r.counts.read) None (Some (get_or text r.counts.read 0))) (body_byte (scanned r) l)
          → scan_byte (cond t (with_read (r.counts.read + 1) (scanned r)) (with_offset (r.source.offset + 1) (scanned r))) k b h (lent l o)
          ≡ cond t (scan_text (scanned r) kinds text h (lent l o)) (scan_body (scanned r) kinds h (lent l o))
      go true z = in_text (leb (length text) r.counts.read) z
      go false z = in_body (body_byte (scanned r) l) z

-- behind a byte of its source the numbers of a standing are still in range
pub passed_sound : {n : ℕ} (r : Run) (text l : List ℕ) {b : ℕ} → Some b ≡ next_byte r text l → ((i : ℕ) → get_or l i 0 < 4294967296)
    → Sound n r → Sound n (passed r)
passed_sound {n} r text l {b} e cells s = go (eqb r.source.list nowhere) e
  where
    go : (t : Bool) → Some b ≡ cond t (cond (leb (length text) r.counts.read) None (Some (get_or text r.counts.read 0))) (body_byte r l)
        → Sound n (cond t (with_read (r.counts.read + 1) r) (with_offset (r.source.offset + 1) r))
    go true z = record {
      cells_lent = s.cells_lent;
      ordered = s.ordered;
      inside = s.inside;
      in_use = s.in_use;
      call_below = s.call_below;
      hand_below = s.hand_below;
      list_below = s.list_below;
      body_below = s.body_below;
      offset_below = s.offset_below;
      quotes_below = s.quotes_below;
      live_below = s.live_below;
    }
    go false z = record {
      cells_lent = s.cells_lent;
      ordered = s.ordered;
      inside = s.inside;
      in_use = s.in_use;
      call_below = s.call_below;
      hand_below = s.hand_below;
      list_below = s.list_below;
      body_below = s.body_below;
      offset_below = omega (arith, inside r l z, cells (r.source.body + 3));
      quotes_below = s.quotes_below;
      live_below = s.live_below;
    }
