-- The script scanned: its first quote is left out, the wanted bytes are copied one a scan, its last unquote is left out.
use Prim.Native.Nat.{ℕ, zero, suc, ◌+◌}
use native.Mathlib.Omega.{arith}
use mathlib.Core.Path.{◌≡◌, refl, ap, ◌∙◌}
use mathlib.Core.List.{List, [], ◌∷◌, ◌++◌, append_assoc, append-nil}
use Rattle.std.specs.Prelude.{Option, None, Some}
use Rattle.std.specs.Prelude.{option_and_then}
use lib.ListN.{length}
use Rattle.language.specs.declared.signs.Sign.{Sign}
use Rattle.language.specs.declared.signs.Sign.TheVariants.{Plain, Dollar, Comma, Semicolon, Tilde, Quote, Unquote}
use Rattle.language.specs.Signs.{Bytes, Table, sign_of, inside, meaning, language}
use Rattle.language.specs.Definitions.{Definition}
use Rattle.language.specs.Scanning.{Standing, State, Step, next, stop, no_limits, scan, scans, start}
use Rattle.language.specs.Scanning as S
use Rattle.language.specs.Matched.{depth_by, depth_after, Matched}
use Rattle.language.proofs.Quotes.{none_some}
use Rattle.keys.specs.Scripts.{script_end}

-- the standing after bytes of the text were copied to the output, one a scan
abbrev copied_on : Bytes → Standing → Standing
copied_on bs w = record {
  definitions = w.definitions;
  output = w.output ++ bs;
  read = w.read + length bs;
  scans = w.scans + length bs;
  most = w.most;
}

copied_none : (w : Standing) → copied_on [] w ≡ w
copied_none w =
    let r : w.read + 0 ≡ w.read = omega arith in
    let n : w.scans + 0 ≡ w.scans = omega arith in
    rw (append-nil, r, n)

copied_more : (b : ℕ) (bs : Bytes) (w : Standing) → copied_on bs (copied_on (b ∷ []) w) ≡ copied_on (b ∷ bs) w
copied_more b bs w =
    let r : w.read + 1 + length bs ≡ w.read + suc (length bs) = omega arith in
    let n : w.scans + 1 + length bs ≡ w.scans + suc (length bs) = omega arith in
    rw (append_assoc, r, n)

-- the standing after a byte of the text was left out
abbrev passed : Standing → Standing
passed w = record { definitions = w.definitions; output = w.output; read = w.read + 1; scans = w.scans + 1; most = w.most }

-- in the text, no call being open, at a depth of quotes
abbrev in_text : ℕ → Bytes → Standing → State
in_text q t w = record { text = t; quotes = q; calls = []; bodies = []; standing = w }

module _ (T : Table) where
  -- one byte inside of quotes is copied, but for the unquote that closes the outermost
  copies : (d k b : ℕ) (t : Bytes) (w : Standing) → depth_by (sign_of T b) d ≡ Some k
      → scan no_limits (language T) (in_text (suc d) (b ∷ t) w) ≡ next (in_text (suc k) t (copied_on (b ∷ []) w))
  unfolding scan meaning
  copies d k b t w e = go (sign_of T b) d e
    where
      go : (g : Sign) (d : ℕ) → depth_by g d ≡ Some k
          → S.byte no_limits (language T) (inside d g) b (in_text (suc d) t (passed w)) ≡ next (in_text (suc k) t (copied_on (b ∷ []) w))
      go Plain d e = let h : d ≡ k = cc in rw h
      go Dollar d e = let h : d ≡ k = cc in rw h
      go Comma d e = let h : d ≡ k = cc in rw h
      go Semicolon d e = let h : d ≡ k = cc in rw h
      go Tilde d e = let h : d ≡ k = cc in rw h
      go Quote d e = let h : suc d ≡ k = cc in rw h
      go Unquote zero e = absurd (none_some e)
      go Unquote (suc d) e = let h : d ≡ k = cc in rw h

  -- so are all that lead from a depth to a depth
  copies_all : (bs : Bytes) (d k n : ℕ) (t : Bytes) (w : Standing) → depth_after T d bs ≡ Some k
      → scans no_limits (language T) (length bs + n) (next (in_text (suc d) (bs ++ t) w))
      ≡ scans no_limits (language T) n (next (in_text (suc k) t (copied_on bs w)))
  unfolding depth_after scans
  copies_all [] d k n t w e =
      let h : d ≡ k = cc in
      let z : 0 + n ≡ n = omega arith in
      rw (h, z, copied_none w) refl
  copies_all (b ∷ bs) d k n t w e = go (depth_by (sign_of T b) d) refl e (λ m. copies_all bs m k n t (copied_on (b ∷ []) w))
    where
      run : ℕ → ℕ → Bytes → Standing → Step
      run j q t x = scans no_limits (language T) j (next (in_text q t x))

      go : (o : Option ℕ) → depth_by (sign_of T b) d ≡ o → option_and_then (λ m. depth_after T m bs) o ≡ Some k
          → ((m : ℕ) → depth_after T m bs ≡ Some k → run (length bs + n) (suc m) (bs ++ t) (copied_on (b ∷ []) w) ≡ run n (suc k) t (copied_on bs (copied_on (b ∷ []) w)))
          → run (suc (length bs) + n) (suc d) (b ∷ (bs ++ t)) w ≡ run n (suc k) t (copied_on (b ∷ bs) w)
      go None p e more = absurd (none_some e)
      go (Some m) p e more =
          let one : suc (length bs) + n ≡ suc (length bs + n) = omega arith in
          ap (λ (j : ℕ). run j (suc d) (b ∷ (bs ++ t)) w) one
          ∙ ap (scans no_limits (language T) (length bs + n)) (copies d m b (bs ++ t) w p)
          ∙ more m e
          ∙ ap (run n (suc k) t) (copied_more b bs w)

  -- a byte that is a quote, outside of quotes, is left out,
  opens : (q : ℕ) (t : Bytes) (w : Standing) → sign_of T q ≡ Quote → scan no_limits (language T) (in_text 0 (q ∷ t) w) ≡ next (in_text 1 t (passed w))
  unfolding scan meaning
  opens q t w e = rw e refl

  -- and so is the unquote that closes it
  closes : (u : ℕ) (t : Bytes) (w : Standing) → sign_of T u ≡ Unquote → scan no_limits (language T) (in_text 1 (u ∷ t) w) ≡ next (in_text 0 t (passed w))
  unfolding scan meaning
  closes u t w e = rw e refl

  -- Matched bytes between a quote and an unquote are what the text gives, with outcome 0.
  pub quoted : (q u : ℕ) (wanted : Bytes) (ds : List Definition) → sign_of T q ≡ Quote → sign_of T u ≡ Unquote → Matched T wanted
      → scans no_limits (language T) (length wanted + 3) (next (start (q ∷ (wanted ++ (u ∷ []))) ds)) ≡ stop (script_end wanted ds)
  unfolding scans scan
  quoted q u wanted ds eq eu m =
      let w = (start (q ∷ (wanted ++ (u ∷ []))) ds).standing in
      let three : length wanted + 3 ≡ suc (length wanted + 2) = omega arith in
      let read : 0 + 1 + length wanted + 1 + 0 ≡ length wanted + 2 = omega arith in
      let made : 0 + 1 + length wanted + 1 + 1 ≡ length wanted + 3 = omega arith in
      ap (λ (j : ℕ). scans no_limits (language T) j (next (start (q ∷ (wanted ++ (u ∷ []))) ds))) three
      ∙ ap (scans no_limits (language T) (length wanted + 2)) (opens q (wanted ++ (u ∷ [])) w eq)
      ∙ copies_all wanted 0 0 2 (u ∷ []) (passed w) m
      ∙ ap (scans no_limits (language T) 1) (closes u [] (copied_on wanted (passed w)) eu)
      ∙ rw (read, made) refl
