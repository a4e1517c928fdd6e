-- Counts, quotes and the position in the source: what changes them changes nothing in the cells.
use Prim.Native.Nat.{ℕ, ◌+◌}
use native.Mathlib.Omega.{arith}
use mathlib.Core.Path.{◌≡◌, refl, sym, ap, ◌∙◌}
use mathlib.Core.List.{List, ◌∷◌}
use lib.ListN.{length, drop}
use lib.Seq.{drop-drop}
use Rattle.language.specs.Expansion.{lent}
use Rattle.language.specs.Signs.{Bytes}
use Rattle.language.specs.Definitions.{Definition}
use Rattle.language.specs.Scanning.{State, Body}
use Rattle.language.specs.Scanning as S
use Rattle.machine.specs.declared.run.Run.{Run}
use Rattle.machine.specs.Machine as M
use Rattle.machine.proofs.Moves.{Reads, advance, advance_laid, advance_lefts, advance_calls, advance_bodies, advance_valid, drop_one}
use Rattle.machine.specs.Frames.{bodies}
use Rattle.machine.specs.Held.{Represents}

module _ {n : ℕ} {older : List Definition} {heads whole start : List ℕ} {r : Run} {l o : List ℕ} {s : State} (h : Represents n older heads whole start r (lent l o) s) where
  pub quoted : (q : ℕ) → Represents n older heads whole start (M.with_quotes q r) (lent l o) (S.with_quotes q s)
  quoted q = record {
    frames = h.frames;
    valid = h.valid;
    lies = record {
      stands = h.lies.stands;
      read = h.lies.read;
      scans = h.lies.scans;
      most = h.lies.most;
      wrote = h.lies.wrote;
      indexed = h.lies.indexed;
    };
    cells_lent = h.cells_lent;
    ordered = h.ordered;
    in_use = h.in_use;
    places_are = h.places_are;
    lefts_are = h.lefts_are;
    calls_are = h.calls_are;
    bodies_are = h.bodies_are;
    ahead = h.ahead;
    quotes = refl;
  }

  -- a scan that takes no byte of the text
  pub counted : Represents n older heads whole start (M.scanned r) (lent l o) (S.counting 0 s)
  counted = record {
    frames = h.frames;
    valid = h.valid;
    lies = record {
      stands = h.lies.stands;
      read = omega (arith, h.lies.read);
      scans = ap (λ (x : ℕ). x + 1) h.lies.scans;
      most = h.lies.most;
      wrote = h.lies.wrote;
      indexed = h.lies.indexed;
    };
    cells_lent = h.cells_lent;
    ordered = h.ordered;
    in_use = h.in_use;
    places_are = h.places_are;
    lefts_are = h.lefts_are;
    calls_are = h.calls_are;
    bodies_are = h.bodies_are;
    ahead = h.ahead;
    quotes = h.quotes;
  }

  -- a scan that takes a byte of the text
  pub taken : (x : ℕ) (t : Bytes) → s.text ≡ x ∷ t
      → Represents n older heads whole start (M.with_read (r.counts.read + 1) (M.scanned r)) (lent l o) (S.with_text t (S.counting 1 s))
  taken x t e = record {
    frames = h.frames;
    valid = h.valid;
    lies = record {
      stands = h.lies.stands;
      read = ap (λ (k : ℕ). k + 1) h.lies.read;
      scans = ap (λ (k : ℕ). k + 1) h.lies.scans;
      most = h.lies.most;
      wrote = h.lies.wrote;
      indexed = h.lies.indexed;
    };
    cells_lent = h.cells_lent;
    ordered = h.ordered;
    in_use = h.in_use;
    places_are = h.places_are;
    lefts_are = h.lefts_are;
    calls_are = h.calls_are;
    bodies_are = h.bodies_are;
    ahead = sym (drop-drop 1 r.counts.read whole) ∙ ap (drop 1) (h.ahead ∙ e);
    quotes = h.quotes;
  }

  -- a byte of the body being read
  pub advanced : (B : Body) (Bs : List Body) (x : ℕ) (rest : Bytes) → s.bodies ≡ B ∷ Bs → B.rest ≡ x ∷ rest
      → Represents n older heads whole start (M.with_offset (r.source.offset + 1) r) (lent l o) (S.with_bodies (S.with_rest rest B ∷ Bs) s)
  advanced B Bs x rest e q =
      let b = length older in
      let fs = h.frames in
      let p : bodies n b fs ≡ B ∷ Bs = sym h.bodies_are ∙ e in
      let k : Reads n b fs = rw p (omega arith) in
      let al = advance_laid n b fs k in
      record {
        frames = advance fs;
        valid = advance_valid n b fs B Bs x rest h.valid p q;
        lies = rw al.0 (record {
          stands = h.lies.stands;
          read = h.lies.read;
          scans = h.lies.scans;
          most = h.lies.most;
          wrote = h.lies.wrote;
          indexed = h.lies.indexed;
        });
        cells_lent = h.cells_lent;
        ordered = h.ordered;
        in_use = h.in_use;
        places_are = rw (al.1, ← h.places_are);
        lefts_are = h.lefts_are ∙ sym (advance_lefts n b fs k);
        calls_are = h.calls_are ∙ sym (advance_calls n b fs k);
        bodies_are = sym (advance_bodies n b fs ∙ ap drop_one p ∙ ap (λ (y : Bytes). S.with_rest (drop 1 y) B ∷ Bs) q);
        ahead = h.ahead;
        quotes = h.quotes;
      }
