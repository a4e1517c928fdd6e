-- One scan in the cells is one scan of the language.
use Prim.Native.Nat.{ℕ, zero, suc, ◌+◌, ◌-◌, ◌<◌, zero-le}
use native.Mathlib.Omega.{arith}
use mathlib.Core.Path.{◌≡◌, refl, sym, ap, subst, ◌∙◌}
use mathlib.Core.Bool.{Bool, true, false, cond}
use mathlib.Core.List.{List, [], ◌∷◌}
use lib.ListN.{length, drop, get_or, set, length-drop}
use lib.Seq.{get_or-drop}
use lib.Dec.{eqb, ltb}
use borrow.Author.Tests.{lt-ltb, le-ltb, le-leb, lt-leb, ne_eqb}
use Rattle.language.specs.declared.signs.Sign.{Sign}
use Rattle.language.specs.declared.signs.Sign.TheVariants.{Plain, Dollar, Comma, Semicolon, Tilde, Quote, Unquote}
use Rattle.language.specs.Signs.{Bytes, Table, sign_of, meaning, outside, inside, closes_to, language}
use Rattle.language.specs.BuiltIns.{built_ins, deed}
use Rattle.language.specs.Charge.{open_price}
use Rattle.language.specs.Matched.{All, with}
use Rattle.language.specs.Scanning.{State, Step, Call, Body}
use Rattle.language.specs.Scanning as S
use Rattle.language.specs.Expansion.{limits_of, lent}
use Rattle.language.specs.Octets.{Octets, BodyOctets, HoldsOctets}
use Rattle.language.proofs.Demand.{built_ins_free}
use Rattle.language.proofs.Prices.{arguments_last}
use Rattle.machine.specs.declared.run.Run.{Run}
use Rattle.machine.specs.Walks.{mark}
use Rattle.machine.specs.Machine as M
use Rattle.machine.specs.Machine.{After}
use Rattle.machine.proofs.Represents.{Simulates, SimulatesIndexed, goes}
use Rattle.machine.proofs.Putting.{refusal, charging_one_in, put_byte}
use Rattle.machine.proofs.Opening.{open_sim, separate_sim, fetch_text_sim, unquote_sim, end_text_sim, by_bodies, by_bodies_in}
use Rattle.machine.proofs.Counting.{quoted, counted, taken, advanced}
use Rattle.machine.proofs.Ending.{own_is, end_body_sim}
use Rattle.machine.proofs.Fetching.{body_over, body_next, fetch_body_sim}
use Rattle.machine.proofs.Applying.{applied_of}
use Rattle.machine.proofs.Performing.{marked_sim}
use Rattle.machine.specs.Items.{count}
use Rattle.machine.specs.Frames.{items, calls}
use Rattle.machine.specs.Held.{Represents}
use Rattle.language.specs.declared.outcomes.Outcome.TheVariants.{AppliesNothing, NoCellsLeft}

-- a state with other counts holds the same strings
noted : {s : State} (m : ℕ) → HoldsOctets s → HoldsOctets (S.noting m s)
noted m h = record { text = h.text; calls = h.calls; bodies = h.bodies; definitions = h.definitions; output = h.output }

pub first_octet : {x : ℕ} {t : Bytes} → Octets (x ∷ t) → x < 256
first_octet (with x h) = x

rest_octets : {x : ℕ} {t : Bytes} → Octets (x ∷ t) → Octets t
rest_octets (with x h) = h

pub innermost_octets : {B : Body} {Bs : List Body} → All BodyOctets (B ∷ Bs) → BodyOctets B
innermost_octets (with x h) = x

module _ {n : ℕ} {heads whole start : List ℕ} {r : Run} {l o : List ℕ} {s : State}
    (h : Represents n built_ins heads whole start r (lent l o) s) (oct : HoldsOctets s) (T : Table) where
  abbrev L : S.Limits
  L = limits_of n (length start)

  abbrev Sim : M.Indexed → Step → Type 0
  Sim x t = SimulatesIndexed n built_ins whole start x t

  -- the index as it was
  abbrev Kept : After → Step → Type 0
  Kept a t = Simulates n built_ins heads whole start a t

  -- `;`
  apply_sim : (x : ℕ) → Sim (M.apply r x heads (lent l o)) (S.apply L (S.own_call s) x s)
  apply_sim x = go (S.own_call s) refl
    where
      innermost : S.own_call s ≡ true → (ks : List Call) → s.calls ≡ ks → Sim (M.apply_call r heads (lent l o)) (S.apply_innermost L ks s)
      innermost own [] e =
          let q : S.own_call s ≡ false = ap (λ (ks : List Call). ltb (S.calls_below s.bodies) (length ks)) e ∙ le-ltb (S.calls_below s.bodies) 0 zero-le in
          let z : ◌≡◌ {A = Bool} true false = sym own ∙ q in
          absurd (let y : ◌≡◌ {A = ℕ} 0 1 = cc in omega arith)
      innermost own (k ∷ ks) e = charging_one_in built_ins_free h Sim (refusal built_ins_free h NoCellsLeft) (λ q.
          let a = applied_of built_ins_free h own q in
          let p : k ∷ ks ≡ record { ended = a.ended; hand = a.hand; stood = length built_ins + count (items n (length built_ins) a.under) } ∷ calls n (length built_ins) a.under = sym e ∙ a.calls_are in
          let kEq : record { ended = a.ended; hand = a.hand; stood = length built_ins + count (items n (length built_ins) a.under) } ≡ k = cc in
          let ksEq : calls n (length built_ins) a.under ≡ ks = cc in
          rw (le-ltb r.calls.left (r.calls.call + open_price) (omega (arith, a.left_is, arguments_last a.ended a.hand)))
          (subst (λ (j : List Call). Sim (M.apply_marked (M.charged 1 r) heads (lent (set (M.end_argument r l) r.calls.left mark) o)) (S.perform L (deed (S.reading s.bodies) (S.list_of k) s.standing.definitions) k j (S.noting (S.charge s + 1) s))) ksEq
          (subst (λ (j : Call). Sim (M.apply_marked (M.charged 1 r) heads (lent (set (M.end_argument r l) r.calls.left mark) o)) (S.perform L (deed (S.reading s.bodies) (S.list_of j) s.standing.definitions) j (calls n (length built_ins) a.under) (S.noting (S.charge s + 1) s))) kEq
          (marked_sim a (noted (S.charge s + 1) oct)))))

      go : (t : Bool) → S.own_call s ≡ t → Sim (M.apply r x heads (lent l o)) (S.apply L t x s)
      go true e = rw (own_is h ∙ e) (innermost e s.calls refl)
      go false e = rw (own_is h ∙ e)
          (by_bodies_in built_ins_free h Sim (M.keeping heads (M.put r x (lent l o))) (M.keeping heads (M.ends AppliesNothing r (lent l o))) (λ Bs. S.apply_none L Bs x s) (λ q. put_byte built_ins_free h x) (λ B Bs q. refusal built_ins_free h AppliesNothing))

  -- `~`
  fetch_sim : (x : ℕ) → Kept (M.fetch r x (lent l o)) (S.fetch L (language T) s.bodies x s)
  fetch_sim x =
      by_bodies built_ins_free h (M.fetch_in_text r x (lent l o)) (M.fetch_in_body r (lent l o)) (λ Bs. S.fetch L (language T) Bs x s) (λ e. fetch_text_sim built_ins_free h x)
      (λ B Bs e. let k = innermost_octets (subst (All BodyOctets) e oct.bodies) in fetch_body_sim built_ins_free h B Bs e T k.rest k.list)

  -- a byte outside of quotes
  sign_sim : s.quotes ≡ 0 → (g : Sign) (x : ℕ) → Sim (M.scan_sign r g x heads (lent l o)) (S.byte L (language T) (outside g) x s)
  sign_sim z Dollar x = open_sim built_ins_free h
  sign_sim z Comma x = separate_sim built_ins_free h x
  sign_sim z Semicolon x = apply_sim x
  sign_sim z Tilde x = fetch_sim x
  sign_sim z Quote x = goes refl (quoted h 1)
  sign_sim z Unquote x = unquote_sim built_ins_free h x
  sign_sim z Plain x =
      let same : M.with_quotes 0 r ≡ r = ap (λ (q : ℕ). M.with_quotes q r) (sym (h.quotes ∙ z)) in
      subst (λ (u : Run). Kept (M.put u x (lent l o)) (S.put L (x ∷ []) (S.with_quotes 0 s))) same (put_byte built_ins_free (quoted h 0) x)

  -- a byte inside of quotes
  quoted_sim : (q : ℕ) → s.quotes ≡ suc q → (g : Sign) (x : ℕ) → Kept (M.scan_quoted r g x (lent l o)) (S.byte L (language T) (inside q g) x s)
  quoted_sim q z g x = rw (h.quotes ∙ z) (go g)
    where
      copies : (m : ℕ) → Kept (cond (eqb (suc m) 0) (M.goes (M.with_quotes 0 r) (lent l o)) (M.put (M.with_quotes (suc m) r) x (lent l o))) (S.put L (x ∷ []) (S.with_quotes (suc m) s))
      copies m = rw (ne_eqb (suc m) 0 (λ e. absurd (omega arith))) (put_byte built_ins_free (quoted h (suc m)) x)

      closes : (m : ℕ) → Kept (cond (eqb m 0) (M.goes (M.with_quotes 0 r) (lent l o)) (M.put (M.with_quotes m r) x (lent l o))) (S.byte L (language T) (closes_to m) x s)
      closes zero = goes refl (quoted h 0)
      closes (suc m) = copies m

      go : (j : Sign) → Kept (cond (eqb (M.quotes_after (suc q) j) 0) (M.goes (M.with_quotes 0 r) (lent l o)) (M.put (M.with_quotes (M.quotes_after (suc q) j) r) x (lent l o))) (S.byte L (language T) (inside q j) x s)
      go Plain = copies q
      go Dollar = copies q
      go Comma = copies q
      go Semicolon = copies q
      go Tilde = copies q
      go Quote = let y : suc q + 1 ≡ suc (suc q) = omega arith in rw y (copies (suc q))
      go Unquote = let y : suc q - 1 ≡ q = omega arith in rw y (closes q)

  -- a byte that was taken from its source
  byte_sim : (x : ℕ) → Sim (M.scan_byte r (sign_of T x) x heads (lent l o)) (S.byte L (language T) (meaning T s.quotes x) x s)
  unfolding meaning
  byte_sim x = go s.quotes refl
    where
      go : (q : ℕ) → s.quotes ≡ q → Sim (M.scan_byte r (sign_of T x) x heads (lent l o)) (S.byte L (language T) (meaning T q x) x s)
      go zero z = rw (le-ltb 0 r.quotes (omega (arith, h.quotes))) (sign_sim z (sign_of T x) x)
      go (suc q) z = rw (lt-ltb 0 r.quotes (omega (arith, h.quotes))) (quoted_sim q z (sign_of T x) x)

module _ {n : ℕ} {heads whole start : List ℕ} {r : Run} {l o : List ℕ} {s : State} (T : Table)
    (h : Represents n built_ins heads whole start r (lent l o) s) (oct : HoldsOctets s) where
  abbrev Goal : M.Indexed → Step → Type 0
  Goal x t = SimulatesIndexed n built_ins whole start x t

  -- the next byte is one of the text
  text_sim : (t : Bytes) → s.text ≡ t → Goal (M.scan_text (M.scanned r) T whole heads (lent l o)) (S.from (limits_of n (length start)) (language T) [] t s)
  text_sim [] e =
      let q : length (drop r.counts.read whole) ≡ 0 = ap length (h.ahead ∙ e) in
      rw (le-leb (length whole) r.counts.read (omega (arith, length-drop r.counts.read whole))) (end_text_sim built_ins_free (counted h))
  text_sim (x ∷ t) e =
      let q : length (drop r.counts.read whole) ≡ suc (length t) = ap length (h.ahead ∙ e) in
      let byte : get_or whole r.counts.read 0 ≡ x = ap (λ (k : ℕ). get_or whole k 0) (omega arith) ∙ sym (get_or-drop r.counts.read whole 0 0) ∙ ap (λ (y : List ℕ). get_or y 0 0) (h.ahead ∙ e) in
      rw (lt-leb (length whole) r.counts.read (omega (arith, length-drop r.counts.read whole)), byte)
      (byte_sim (taken h x t e) (text_octets x t e) T x)
    where
      text_octets : (x : ℕ) (t : Bytes) → s.text ≡ x ∷ t → HoldsOctets (S.with_text t (S.counting 1 s))
      text_octets x t e = record {
        text = rest_octets (subst Octets e oct.text);
        calls = oct.calls;
        bodies = oct.bodies;
        definitions = oct.definitions;
        output = oct.output;
      }

  -- the next byte is one of the innermost body
  body_sim : (B : Body) (Bs : List Body) → s.bodies ≡ B ∷ Bs → (t : Bytes) → B.rest ≡ t
      → Goal (M.scan_body (M.scanned r) T heads (lent l o)) (S.from_body (limits_of n (length start)) (language T) t B Bs s)
  body_sim B Bs e [] q = rw (body_over (counted h) B Bs e q) (end_body_sim built_ins_free (counted h) B Bs e)
  body_sim B Bs e (x ∷ t) q =
      let all = subst (All BodyOctets) e oct.bodies in
      let small : x < 256 = first_octet (subst Octets q (innermost_octets all).rest) in
      rw (body_next (counted h) B Bs e x t q small)
      (byte_sim (advanced (counted h) B Bs x t e q) (body_octets all) T x)
    where
      body_octets : All BodyOctets (B ∷ Bs) → HoldsOctets (S.with_bodies (S.with_rest t B ∷ Bs) (S.counting 0 s))
      body_octets (with y ys) = record {
        text = oct.text;
        calls = oct.calls;
        bodies = with (record { list = y.list; rest = rest_octets (subst Octets q y.rest) }) ys;
        definitions = oct.definitions;
        output = oct.output;
      }

  -- one scan
  pub step_sim : Goal (M.step r T whole heads (lent l o)) (S.scan (limits_of n (length start)) (language T) s)
  unfolding M.step S.scan
  step_sim =
      by_bodies_in built_ins_free h Goal (M.scan_text (M.scanned r) T whole heads (lent l o)) (M.scan_body (M.scanned r) T heads (lent l o)) (λ Bs. S.from (limits_of n (length start)) (language T) Bs s.text s)
      (λ e. text_sim s.text refl) (λ B Bs e. body_sim B Bs e B.rest refl)
